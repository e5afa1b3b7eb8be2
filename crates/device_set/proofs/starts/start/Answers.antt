use Rattle.std.proofs.Common.{rules, ◌≡◌, ap, sym, ◌∙◌, Ok, Err}
use Rattle.std.specs.Prelude.{All, map, Result}
use Rattle.device_set.specs.AnyKind.{any_device}
use Rattle.device_set.specs.Images.{too_long_from}
use Rattle.device_set.specs.Starts.{starts_of}
use Rattle.device_set.specs.declared.start_bad.StartBad.TheVariants.{ImageTooLong}
use Rattle.device_set.proofs.Starting.{IsStarted, ports-starts_of}
use Rattle.device_set.proofs.starts.start.Goals as goal

never_both : {T E P : Type 0} (x : T) (e : E) → ◌≡◌ {A = Result T E} (Ok x) (Err e) → P
never_both x e same = cc

pub returns : goal.returns
returns c =
    let t = c.args.topology.now in
    let images = c.args.images.items in
    let starts : c.in_ok-start_all.field-0.items ≡ starts_of t.components images = search rules in
    let at_start : All IsStarted c.in_ok-start_all.field-0.items = search rules in
    let told : c.first_too_long.result ≡ too_long_from 0 t.components images = search rules in
    record {
      started = record {
        starts = starts;
        at_start = at_start;
        matches = ap (map any_device.ports) starts ∙ ports-starts_of t.components images ∙ sym t.valid.kinds_of_ports;
      };
      refused = λ component. (never_both c.in_ok-start_all.field-0 (ImageTooLong component), λ is. absurd (c.in_default.not-Some component (told ∙ is)));
    }
