-- What a step has done, told without what it asks for, and told again from the core that it leaves.
use Rattle.rv32_core.specs.declared.act.Act.{Act}
use Rattle.rv32_core.specs.declared.act.Act.TheVariants as act
use Rattle.rv32_core.specs.declared.did.Did.{Did}
use Rattle.rv32_core.specs.declared.did.Did.TheVariants as told
use Rattle.rv32_core.specs.declared.pending.Pending.{Pending}
use Rattle.rv32_core.specs.declared.pending.Pending.TheVariants as access
use Rattle.rv32_core.specs.CoreState.{CoreState}

abbrev pub did : Act → Did
did act.Done = told.Done
did (act.Load at size) = told.Load
did (act.Store at size value) = told.Store
did act.Wait = told.Wait
did (act.Trapped cause) = told.Trapped

-- the act of an access that is pending
abbrev pub loading : Pending → Act
loading (access.Load at size rd is_signed) = act.Load at size
loading _ = act.Done

abbrev pub storing : Pending → Act
storing (access.Store at size value) = act.Store at size value
storing _ = act.Done

abbrev pub act_of : Did → CoreState → Act
act_of told.Done s = act.Done
act_of told.Load s = loading s.pending
act_of told.Store s = storing s.pending
act_of told.Wait s = act.Wait
act_of told.Trapped s = act.Trapped s.mcause
