use Rattle.std.proofs.Common.{◌≡◌, ◌++◌, map, drop}
use Rattle.device_api.specs.Channels.{Channel, channels}
use Rattle.global_model.specs.Tally.{first_tally}
use Rattle.global_model.proofs.tallies.Tallies.new.Given as goal

abbrev pub invariant-loop-link : goal.invariant-loop-link
invariant-loop-link l = l.channels.items ++ map (λ (ch : Channel). first_tally ch.interval) (channels (drop l.link-index l.links)) ≡ map (λ (ch : Channel). first_tally ch.interval) (channels l.links)
