use Rattle.std.proofs.Common.{◌≡◌, ◌<◌, List, Some, length, refl, ap, sym, subst, ◌∙◌}
use Rattle.std.specs.Prelude.{slice_get}
use Rattle.std.proofs.lemmas.Option.{slice_get_read}
use Rattle.std.proofs.lemmas.Result.{IfOk-weaker}
use Rattle.topology_file.specs.declared.component.Component.{Component}
use Rattle.cosim_cmd.specs.Lines.{image_line}
use Rattle.cosim_cmd.proofs.model.host_line.Goals as goal

pub returns : goal.returns
returns c =
    let t = c.args.topology.now in
    let n = c.args.number in
    let host = c.index-as_slice-number.result in
    let within : n < length c.as_slice.result.now = subst (λ (cs : List Component). n < length cs) (sym c.as_slice.ensures) c.requires in
    let at : slice_get c.as_slice.result.now n ≡ Some host = slice_get_read c.as_slice.result.now _ n _ refl within c.index-as_slice-number.is in
    let host_is : slice_get t.components n ≡ Some host = ap (λ (cs : List Component). slice_get cs n) (sym c.as_slice.ensures) ∙ at in
    IfOk-weaker c.image_line.result _ _ (λ line is. record { host = host; host_is = host_is; named = is ∙ ap image_line c.as_slice-2.ensures.bytes }) c.image_line.ensures
