-- Wires and a dialer in memory, as contracts see them, and what a call on them does.
use Rattle.std.specs.Prelude.{ℕ, ◌+◌, ◌-◌, nat_lt, Bool, false, true, List, [], ◌∷◌, ◌++◌, take, drop, length, min, slice_index, Some, if◌then◌else◌}
use Rattle.cs_base.specs.declared.list_dialer.WirePlan.{WirePlan}
use Rattle.cs_base.specs.declared.wires.Sent.{Sent}
use Rattle.cs_base.specs.declared.wires.Sent.TheVariants as sent
use Rattle.cs_base.specs.declared.wires.Got.{Got}
use Rattle.cs_base.specs.declared.wires.Got.TheVariants as got
use Rattle.cs_base.specs.Outside.{one_more}
use Rattle.cs_base.specs.Wires.{DialerSeen, OutSeen, InSeen}

-- the most bytes that each call takes or gives, one number a call, and how many of the numbers were used
pub record Pieces : Type 0 where
  pub sizes : List ℕ
  pub used : ℕ

-- the most that the next call may move: nothing where no number is left
abbrev pub next_size : Pieces → ℕ
next_size p = slice_index p.sizes p.used

abbrev pub pieces_left : Pieces → Bool
pieces_left p = nat_lt p.used (length p.sizes)

abbrev pub after_call : Pieces → Pieces
after_call p = if pieces_left p then record p { used = p.used + 1 } else p

-- a sending end in memory
pub record OutList : Type 0 where
  pub pieces : Pieces
  pub taken : List ℕ
  pub faults : ℕ
  pub idles : ℕ

abbrev pub out_seen : OutList → OutSeen
out_seen o = record { taken = Some o.taken; faults = o.faults; idles = o.idles }

-- how many of so many bytes the next send takes
abbrev pub count_sent : OutList → ℕ → ℕ
count_sent o most = min (next_size o.pieces) most

-- what the next send of so many bytes answers, but for want of memory
abbrev pub sent_now : OutList → ℕ → Sent
sent_now o most = if nat_lt 0 (count_sent o most) then sent.Took (count_sent o most) else sent.NotYet

-- the end after a send that answered, and after one that failed
abbrev pub after_send : OutList → List ℕ → OutList
after_send o bytes =
    if nat_lt 0 (count_sent o (length bytes))
    then record o { pieces = after_call o.pieces; taken = o.taken ++ take (count_sent o (length bytes)) bytes }
    else record o { pieces = after_call o.pieces; idles = one_more o.idles }

abbrev pub after_failed_send : OutList → OutList
after_failed_send o = record o { pieces = after_call o.pieces; faults = one_more o.faults }

-- a receiving end in memory: its stream and how much of it was given, whether the stream ends after the last piece,
-- and whether its end was given
pub record InList : Type 0 where
  pub pieces : Pieces
  pub bytes : List ℕ
  pub at : ℕ
  pub ends : Bool
  pub idles : ℕ
  pub ended : Bool

abbrev pub in_seen : InList → InSeen
in_seen w = record { given = Some (take w.at w.bytes); faults = 0; idles = w.idles; ended = w.ended }

-- how many bytes the next receipt gives, where there is room for so many
abbrev pub count_given : InList → ℕ → ℕ
count_given w room = min (min (next_size w.pieces) room) (length w.bytes - w.at)

-- the end is next: no piece is left, and it comes after the last one
abbrev pub end_is_next : Pieces → (ends : Bool) → Bool
end_is_next pieces ends = if pieces_left pieces then false else ends

-- what the next receipt answers, where there is room for so many bytes
abbrev pub got_now : InList → ℕ → Got
got_now w room =
    if nat_lt 0 (count_given w room) then got.Took (count_given w room)
    else if end_is_next w.pieces w.ends then got.End
    else got.NotYet

-- the end after a receipt
abbrev pub after_receipt : InList → ℕ → InList
after_receipt w room =
    if nat_lt 0 (count_given w room) then record w { pieces = after_call w.pieces; at = w.at + count_given w room }
    else if end_is_next w.pieces w.ends then record w { ended = true }
    else record w { pieces = after_call w.pieces; idles = one_more w.idles }

-- what the buffer holds after a receipt
abbrev pub filled : InList → List ℕ → List ℕ
filled w buffer = take (count_given w (length buffer)) (drop w.at w.bytes) ++ drop (count_given w (length buffer)) buffer

-- a dialer in memory: the wires that it still has to give, the channels dialed and the count of faults
pub record DialerList : Type 0 where
  pub plans : List WirePlan
  pub dialed : List ℕ
  pub faults : ℕ

abbrev pub dialer_seen : DialerList → DialerSeen
dialer_seen d = record { dialed = Some d.dialed; faults = d.faults }

-- the two ends of a planned wire
abbrev pub planned_out : WirePlan → OutList
planned_out plan = record {
  pieces = record { sizes = plan.takes; used = 0 };
  taken = [];
  faults = 0;
  idles = 0;
}

abbrev pub planned_in : WirePlan → InList
planned_in plan = record {
  pieces = record { sizes = plan.gives; used = 0 };
  bytes = plan.bytes;
  at = 0;
  ends = plan.ends;
  idles = 0;
  ended = false;
}

-- the dialer after a dial that answered, and after one that failed
abbrev pub after_dial : DialerList → ℕ → DialerList
after_dial d channel = record d { plans = drop 1 d.plans; dialed = d.dialed ++ channel ∷ [] }

abbrev pub after_failed_dial : DialerList → ℕ → DialerList
after_failed_dial d channel = record d { dialed = d.dialed ++ channel ∷ []; faults = one_more d.faults }
