use Rattle.std.specs.Prelude.{◌≢◌}
use Rattle.std.proofs.Common.{subst}
use Rattle.sb_frame.specs.declared.frame_bad.FrameBad.TheVariants as bad
use Rattle.sb_frame.specs.Faults.{IsBadMessage}
use Rattle.sb_frame.specs.Deframing.{Place}
use Rattle.sb_frame.proofs.Steps.{refused_message}
use Rattle.sb_frame.proofs.walk.Walk.message.Goals as goal

pub returns-in-Err : goal.returns-in-Err
returns-in-Err c =
    let b = c.frame_refusal.result in
    let body = c.args.body.now in
    record {
      ok = tt;
      err = subst (λ (p : Place). b ≢ bad.NoMemory → IsBadMessage p.kind p.last p.offset body b) c.self.view_is
          (refused_message c.self.inside.kind c.self.inside.last c.self.inside.offset body c.in-Err.bad b c.frame_refusal.ensures c.in-Err.ensures.refused);
    }
