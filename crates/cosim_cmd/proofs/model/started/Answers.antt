use Rattle.std.proofs.Common.{◌≡◌, Some, Err, ap, ◌∙◌, arith}
use Rattle.device_set.specs.Starts.{too_long}
use Rattle.device_set.specs.declared.start_bad.StartBad.TheVariants.{ImageTooLong}
use Rattle.cosim_cmd.proofs.TooLong.{too_long-within, none_when}
use Rattle.cosim_cmd.proofs.model.started.Goals as goal

pub host_line-requires : goal.host_line-requires
host_line-requires c =
    let t = c.args.topology.now in
    let n = c.in-Err-ImageTooLong.component in
    let is : too_long t c.args.images.items ≡ Some n = (c.start.ensures.refused n).0 (c.in-Err-ImageTooLong.is ∙ ap Err c.in-Err-ImageTooLong.field-0-is) in
    omega (arith, too_long-within 0 t.components c.args.images.items n is)

pub returns-in-Ok-clause-started : goal.returns-in-Ok-clause-started
returns-in-Ok-clause-started c =
    record {
      fit = none_when (too_long c.args.topology.now c.args.images.items) c.start.result c.in-Ok.devices ImageTooLong c.in-Ok.is c.start.ensures.refused;
      started = c.in-Ok.ensures.started;
    }

pub returns-in_ok-host_line-in-Err-ImageTooLong-clause-refused : goal.returns-in_ok-host_line-in-Err-ImageTooLong-clause-refused
returns-in_ok-host_line-in-Err-ImageTooLong-clause-refused c =
    let n = c.in-Err-ImageTooLong.component in
    record {
      number = n;
      too_long_is = (c.start.ensures.refused n).0 (c.in-Err-ImageTooLong.is ∙ ap Err c.in-Err-ImageTooLong.field-0-is);
      named = c.in_ok-host_line-in-Err-ImageTooLong.ensures;
    }
