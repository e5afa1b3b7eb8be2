use Rattle.std.proofs.Common.{◌≡◌, ◌-◌}
use Rattle.cosim_cmd.specs.Request.{station_count}
use Rattle.cosim_cmd.proofs.Requests.{among}
use Rattle.cosim_cmd.proofs.request.station_count.Given as goal

abbrev pub invariant-loop-number : goal.invariant-loop-number
invariant-loop-number l = station_count l.word ≡ among l.word l.number (31 - l.number)
