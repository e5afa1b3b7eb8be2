-- Refusals of an access as refusals of a message of a PCIe link.
use Rattle.std.specs.Prelude.{ℕ, List, Option, Some, None, option_map}
use Rattle.access_proto.specs.Spelling as access
use Rattle.access_proto.specs.declared.access.Operation.{Operation}
use Rattle.access_proto.specs.declared.access_bad.AccessBad.{AccessBad}
use Rattle.access_proto.specs.declared.access_bad.AccessBad.TheVariants as access_bad
use Rattle.pcie_proto.specs.declared.pcie_bad.PcieBad.{PcieBad}
use Rattle.pcie_proto.specs.declared.pcie_bad.PcieBad.TheVariants.{UnknownType, BadBar, LengthRange, LengthDiffers, FieldNotZero, NoMemory}

abbrev pub refused_as : AccessBad → PcieBad
refused_as access_bad.LengthRange = LengthRange
refused_as access_bad.LengthDiffers = LengthDiffers
refused_as access_bad.FieldNotZero = FieldNotZero
refused_as access_bad.NoMemory = NoMemory

abbrev pub access_refusal : Operation → List ℕ → List ℕ → Option PcieBad
access_refusal op fields payload = option_map refused_as (access.refusal op fields payload)

-- the fault that a refusal names: want of memory is none
abbrev pub fault_of : PcieBad → Option PcieBad
fault_of NoMemory = None
fault_of UnknownType = Some UnknownType
fault_of BadBar = Some BadBar
fault_of LengthRange = Some LengthRange
fault_of LengthDiffers = Some LengthDiffers
fault_of FieldNotZero = Some FieldNotZero
