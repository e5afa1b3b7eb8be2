use Rattle.std.proofs.Common.{refl}
use Rattle.field_layout.proofs.Layouts.{blank}
use Rattle.sb_intro.proofs.intro.Intro.fields.Goals as goal

pub returns : goal.returns
returns c =
    let version = c.put_u32.ensures.laid_out 48 _ blank refl in
    let kind = c.put_u8.ensures.laid_out 48 _ version refl in
    let latency = c.put_u64.ensures.laid_out 48 _ kind refl in
    let interval = c.put_u64-2.ensures.laid_out 48 _ latency refl in
    rw (← c.code_of.ensures) (c.put_u64-3.ensures.laid_out 48 _ interval refl)
