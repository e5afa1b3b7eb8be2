-- The access that an act asks for is pending: a load, or a store, of that size.
use Rattle.std.proofs.Common.{ℕ, sym, subst}
use Rattle.rv32_core.specs.declared.act.Act.TheVariants as act
use Rattle.rv32_core.specs.declared.pending.Pending.{Pending}
use Rattle.rv32_core.specs.CoreState.{IsSize, IsAccess}
use Rattle.rv32_core.specs.Execution.{Awaits, IsLoad, IsStore}

pub load_awaited : (address size : ℕ) (p : Pending) → Awaits (act.Load address size) p → IsLoad p
load_awaited address size p awaits = subst (λ (q : Pending). IsLoad q) (sym awaits.2) tt

pub load_size : (address size : ℕ) (p : Pending) → Awaits (act.Load address size) p → IsAccess p → IsSize size
load_size address size p awaits is = (subst (λ (q : Pending). IsAccess q) awaits.2 is).0

pub store_awaited : (address size value : ℕ) (p : Pending) → Awaits (act.Store address size value) p → IsStore p
store_awaited address size value p awaits = subst (λ (q : Pending). IsStore q) (sym awaits) tt

pub store_size : (address size value : ℕ) (p : Pending) → Awaits (act.Store address size value) p → IsAccess p → IsSize size
store_size address size value p awaits is = (subst (λ (q : Pending). IsAccess q) awaits is).0
