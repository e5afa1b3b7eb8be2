use Rattle.std.proofs.Common.{◌≡◌, ◌+◌, ◌*◌, drop}
use Rattle.device_api.specs.Channels.{channels}
use Rattle.device_api.specs.World.{out_of}
use Rattle.global_model.specs.Inboxes.{end_at}
use Rattle.global_model.specs.Routes.{number_out}
use Rattle.global_model.proofs.routes.route_out_of.Given as goal

abbrev pub invariant-loop-number : goal.invariant-loop-number
invariant-loop-number l = record {
  way : out_of (channels (drop l.number l.links)) (end_at l.component l.port) ≡ out_of (channels l.links) (end_at l.component l.port);
  number : 2 * l.number + number_out (channels (drop l.number l.links)) (end_at l.component l.port) ≡ number_out (channels l.links) (end_at l.component l.port);
}
