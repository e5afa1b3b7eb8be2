-- Refusals of an access as refusals of a message of a memory link.
use Rattle.access_proto.specs.declared.access_bad.AccessBad.{AccessBad}
use Rattle.access_proto.specs.declared.access_bad.AccessBad.TheVariants as access_bad
use Rattle.mem_proto.specs.declared.mem_bad.MemBad.{MemBad}
use Rattle.mem_proto.specs.declared.mem_bad.MemBad.TheVariants.{LengthRange, LengthDiffers, FieldNotZero, NoMemory}

abbrev pub refused_as : AccessBad → MemBad
refused_as access_bad.LengthRange = LengthRange
refused_as access_bad.LengthDiffers = LengthDiffers
refused_as access_bad.FieldNotZero = FieldNotZero
refused_as access_bad.NoMemory = NoMemory
