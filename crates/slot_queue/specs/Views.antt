-- The views of the seats, from making to closing.
use Rattle.std.specs.Prelude.{ℕ, ◌+◌, Bool, true, false, List, [], Option, None}
use Rattle.cs_base.specs.declared.port_kind.PortKind.{PortKind}
use Rattle.sb_message.specs.declared.message.Msg.{Msg}
use Rattle.slot_queue.specs.declared.view.View.{View}

-- one seat with both roles and no turn open
abbrev pub owning : PortKind → List Msg → List Msg → ℕ → View
owning kind sent received misses = record { kind = kind; sends = true; takes = true; sent = sent; received = received; filling = false; noted = None; misses = misses }

abbrev pub producing : PortKind → List Msg → Bool → ℕ → View
producing kind sent filling misses = record { kind = kind; sends = true; takes = false; sent = sent; received = []; filling = filling; noted = None; misses = misses }

abbrev pub consuming : PortKind → List Msg → Option Msg → ℕ → View
consuming kind received noted misses = record { kind = kind; sends = false; takes = true; sent = []; received = received; filling = false; noted = noted; misses = misses }

-- a seat with no role, which keeps two lists
abbrev pub remembering : View → View
remembering view = record { kind = view.kind; sends = false; takes = false; sent = view.sent; received = view.received; filling = false; noted = None; misses = view.misses }

-- at making, the seat is split by the roles
abbrev pub sending_part : View → View
sending_part view = producing view.kind view.sent false 0

abbrev pub taking_part : View → View
taking_part view = consuming view.kind view.received None 0

-- at closing, the two roles come together again
abbrev pub joined : View → View → View
joined sender receiver = owning sender.kind sender.sent receiver.received (sender.misses + receiver.misses)

-- the next slot was the other side's
abbrev pub missed : View → View
missed view = record view { misses = view.misses + 1 }
