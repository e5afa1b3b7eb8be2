use Rattle.std.proofs.Common.{ap}
use Rattle.std.proofs.Props.{props}
use Rattle.cs_base.specs.declared.configs.HostConfig.{HostConfig}
use Rattle.ram_map.specs.Sizes.{IsMap}
use Rattle.ram_map.specs.declared.map.Map.{Map}
use Rattle.host_sim.proofs.host.sizes_of.Goals as goal

-- the sizes are in their ranges in one way only
pub returns : goal.returns
returns c =
    let config : HostConfig = c.args.config.now in
    let one_proof : IsProp (IsMap config.ram config.pcie config.mem) = hlevel props in
    let sized : IsMap config.ram config.pcie config.mem → Map = λ valid. record { ram = config.ram; pcie = config.pcie; mem = config.mem; valid = valid } in
    ap sized (one_proof _ _)
