-- The lines that say why a command is refused.
use Rattle.std.specs.Prelude.{ℕ, List, [], ◌∷◌, ◌++◌, codes, decimal}
use Rattle.topology_file.specs.declared.reason.TopoReason.{TopoReason}
use Rattle.topology_file.specs.declared.reason.Entry.{Entry}
use Rattle.topology_file.specs.declared.reason.Entry.TheVariants.{Top, Component, Link}
use Rattle.topology_file.specs.Reasons.{reason_text}
use Rattle.cs_base.specs.declared.peer_reason.PeerReason.{PeerReason}
use Rattle.cs_base.specs.PeerReasons.{peer_reason_text}
use Rattle.cosim_cmd.specs.declared.breaks.Break.{Break}
use Rattle.cosim_cmd.specs.declared.breaks.Break.TheVariants as broken
use Rattle.rv32_asm.specs.Reasons.{reason_text as asm_reason_text}
use Rattle.rv32_asm.specs.declared.reason.AsmReason.{AsmReason}

-- how an entry of a topology is named
abbrev pub entry_text : Entry → List ℕ
entry_text Top = codes "top"
entry_text (Component i) = codes "component " ++ decimal i
entry_text (Link i) = codes "link " ++ decimal i

abbrev pub memory_line : List ℕ
memory_line = codes "cosim: no memory\n"

abbrev pub usage_line : List ℕ
usage_line = codes "cosim: usage\n"

abbrev pub out_line : List ℕ
out_line = codes "cosim: out\n"

-- about a file that can't be read
abbrev pub file_line : List ℕ → List ℕ
file_line name = codes "cosim: file " ++ name ++ 10 ∷ []

-- about a topology file that is no TOML document, or is refused for a reason at an entry
abbrev pub toml_line : List ℕ
toml_line = codes "cosim: topology toml\n"

abbrev pub topology_line : TopoReason → Entry → List ℕ
topology_line reason entry = codes "cosim: topology " ++ reason_text reason ++ codes " at " ++ entry_text entry ++ 10 ∷ []

-- about a host whose program is too long
abbrev pub image_line : List ℕ → List ℕ
image_line name = codes "cosim: image " ++ name ++ 10 ∷ []

-- about a line of an assembler's source
abbrev pub asm_line : ℕ → AsmReason → List ℕ
asm_line number reason = codes "cosim: asm " ++ decimal number ++ codes " " ++ asm_reason_text reason ++ 10 ∷ []

-- about a channel whose wire is lost, one on which bytes came that can't be, and one on which other bytes came than were
-- sent
abbrev pub lost_line : ℕ → List ℕ
lost_line channel = codes "cosim: link lost " ++ decimal channel ++ 10 ∷ []

abbrev pub peer_line : ℕ → ℕ → PeerReason → List ℕ
peer_line channel offset reason = codes "cosim: bad peer " ++ decimal channel ++ codes " " ++ decimal offset ++ codes " "
    ++ peer_reason_text reason ++ 10 ∷ []

abbrev pub differs_line : ℕ → ℕ → List ℕ
differs_line channel offset = codes "cosim: link differs " ++ decimal channel ++ codes " " ++ decimal offset ++ 10 ∷ []

-- about a run that is broken off
abbrev pub break_line : Break → List ℕ
break_line (broken.Lost channel) = lost_line channel
break_line (broken.Peer channel offset reason) = peer_line channel offset reason
break_line (broken.Differs channel offset) = differs_line channel offset

-- about a line of a schedule
abbrev pub schedule_line : ℕ → List ℕ
schedule_line number = codes "cosim: schedule " ++ decimal number ++ 10 ∷ []
