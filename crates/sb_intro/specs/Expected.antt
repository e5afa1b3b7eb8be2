-- The introduction that a port sends.
use Rattle.std.specs.Prelude.{ℕ, refl}
use Rattle.cs_base.specs.declared.port_kind.PortKind.{PortKind}
use Rattle.cs_base.specs.declared.port_kind.PortKind.TheVariants.{Eth, PcieDev, PcieHost, MemDev, MemHost}
use Rattle.sb_intro.specs.declared.intro.Intro.{Intro}

-- how many bytes of registers a port offers: a PCIe device 131,072, every other port none
abbrev pub bar_len_of : PortKind → ℕ
bar_len_of PcieDev = 131072
bar_len_of Eth = 0
bar_len_of PcieHost = 0
bar_len_of MemDev = 0
bar_len_of MemHost = 0

-- what a port of this kind says first on a channel of this latency and interval
abbrev pub expected : PortKind → ℕ → ℕ → Intro
expected kind latency interval = record { version = 1; kind = kind; latency = latency; interval = interval; bar_len = bar_len_of kind; current = refl }
