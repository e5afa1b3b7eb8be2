use Rattle.std.proofs.Common.{◌≡◌, ◌≤◌, ◌*◌, take}
use Rattle.cs_base.specs.Plan.{uses_of}
use Rattle.cs_base.proofs.plan.uses_of.Given as goal

abbrev pub invariant-loop-link : goal.invariant-loop-link
invariant-loop-link l = record {
  counted : l.uses ≡ uses_of (take l.link-index l.links) (record { component = l.component; port = l.port });
  few : l.uses ≤ 2 * l.link-index;
}
