-- The texts of the reasons for which a source is refused.
use Rattle.std.specs.Prelude.{ℕ, List, codes}
use Rattle.rv32_asm.specs.declared.reason.AsmReason.{AsmReason}
use Rattle.rv32_asm.specs.declared.reason.AsmReason.TheVariants.{BadLine, UnknownWord, BadRegister, Range, LabelTwice, LabelMissing, TooLong}

abbrev pub reason_text : AsmReason → List ℕ
reason_text BadLine = codes "bad line"
reason_text UnknownWord = codes "unknown word"
reason_text BadRegister = codes "bad register"
reason_text Range = codes "range"
reason_text LabelTwice = codes "label twice"
reason_text LabelMissing = codes "label missing"
reason_text TooLong = codes "too long"
