-- What an adapter keeps, whatever arrives: few frames wait, the ids that are outstanding are its own, and its line is told.
use Rattle.std.specs.Prelude.{ℕ, ◌≡◌, ◌≤◌, ◌<◌, ◌+◌, ◌&&◌, ◌||◌, ◌==◌, not, nat_lt, nat_le, Bool, true, false, if◌then◌else◌, List, [], ◌∷◌, ◌++◌, length, take, drop, replicate, codes, Option, Some, None, IfSome, refl}
use Rattle.std.proofs.Common.{arith, sym, subst, ◌∙◌, length-append}
use Rattle.std.proofs.lemmas.Bool.Decides.{nat_tests}
use Rattle.pcie_proto.specs.declared.from_device.DevMsg.TheVariants as dev
use Rattle.pcie_proto.specs.declared.from_host.HostMsg.{HostMsg}
use Rattle.pcie_proto.specs.declared.from_host.HostMsg.TheVariants as host
use Rattle.sb_message.specs.declared.message.Body.{Body}
use Rattle.sb_message.specs.declared.message.Body.TheVariants as body
use Rattle.device_api.specs.Behaviour.{Reaction}
use Rattle.device_api.specs.World.{rest, followed_by}
use Rattle.nic_rings.specs.declared.tx_desc.TxDesc.{TxDesc}
use Rattle.nic_rings.specs.Descriptors.{tx_desc_of}
use Rattle.std.specs.Int.{w32, from_le_bytes, to_le_bytes}
use Rattle.nic_regs.specs.declared.regs.RegAct.{RegAct}
use Rattle.nic_regs.specs.declared.regs.RegAct.TheVariants as act
use Rattle.nic_regs.specs.Registers.{Registers, accepts, act_of, after_read, after_write, line_of, raised, read_value, rx_on}
use Rattle.nic_8254x.specs.Checksum.{checksummed}
use Rattle.nic_8254x.specs.declared.state.RxStep.{RxStep}
use Rattle.nic_8254x.specs.declared.state.RxStep.TheVariants as rx
use Rattle.nic_8254x.specs.declared.state.TxStep.{TxStep}
use Rattle.nic_8254x.specs.declared.state.TxStep.TheVariants as tx
use Rattle.nic_8254x.specs.State.{Adapter, has_id, started}
use Rattle.nic_8254x.specs.Sound.{rx_id, tx_id, AreIds, IsOrdered, IsSettledAdapter}
use Rattle.nic_8254x.specs.Arrival.{arrives, logs}
use Rattle.nic_8254x.specs.Receiving as receiving
use Rattle.nic_8254x.specs.Receiving.{receives, rx_read_done, rx_write_done, piece, is_last}
use Rattle.nic_8254x.specs.Sending as sending
use Rattle.nic_8254x.specs.Sending.{sends_on, tx_read_done, tx_write_done}
use Rattle.nic_8254x.specs.Access.{after_act, answers, reads, stores, writes}
use Rattle.nic_8254x.specs.Adapter.{feels, hears, tells, tells_at, takes}

-- IDS

rx_given : (next : ℕ) (sending : Option ℕ) → IfSome sending (λ id. id < next) →
    AreIds (next + 1) (Some next) sending
rx_given next None less = record { rx = omega arith; tx = tt; apart = tt }
rx_given next
    (Some id) less = record { rx = omega arith; tx = omega arith; apart = λ e. omega arith }

tx_given : (next : ℕ) (receiving : Option ℕ) → IfSome receiving (λ id. id < next) →
    AreIds (next + 1) receiving (Some next)
tx_given next None less = record { rx = tt; tx = omega arith; apart = tt }
tx_given next (Some id) less =
    record { rx = omega arith; tx = omega arith; apart = λ e. omega arith }

rx_over : {next : ℕ} {receiving sending : Option ℕ} → AreIds next receiving sending →
    AreIds next None sending
rx_over ids = record { rx = tt; tx = ids.tx; apart = tt }

tx_over : (next : ℕ) (receiving sending : Option ℕ) → AreIds next receiving sending →
    AreIds next receiving None
tx_over next None sending ids = record { rx = tt; tx = tt; apart = tt }
tx_over next (Some id) sending ids = record { rx = ids.rx; tx = tt; apart = tt }

rx_asks : (s : Adapter) (step : RxStep) → rx_id step ≡ Some s.next_id → IsOrdered s →
    IsOrdered (record s { receiving = step; next_id = s.next_id + 1 })
rx_asks s step is ordered = record {
  few = ordered.few;
  ids = subst (λ (id : Option ℕ). AreIds (s.next_id + 1) id (tx_id s.sending)) (sym is)
      (rx_given s.next_id (tx_id s.sending) ordered.ids.tx);
}

tx_asks : (s : Adapter) (step : TxStep) → tx_id step ≡ Some s.next_id → IsOrdered s →
    IsOrdered (record s { sending = step; next_id = s.next_id + 1 })
tx_asks s step is ordered = record {
  few = ordered.few;
  ids = subst (λ (id : Option ℕ). AreIds (s.next_id + 1) (rx_id s.receiving) id) (sym is)
      (tx_given s.next_id (rx_id s.receiving) ordered.ids.rx);
}

-- what has no part in the order may change
with_regs : (s : Adapter) (regs : Registers) → IsOrdered s → IsOrdered (record s { regs = regs })
with_regs s regs ordered = record { few = ordered.few; ids = ordered.ids }

with_work : (s : Adapter) (work : List ℕ) → IsOrdered s → IsOrdered (record s { work = work })
with_work s work ordered = record { few = ordered.few; ids = ordered.ids }

either : (b : Bool) (x y : Reaction Adapter) → IsOrdered x.state → IsOrdered y.state →
    IsOrdered (if b then x else y).state
either true x y p q = p
either false x y p q = q

-- WHAT ARRIVES

queued : (s : Adapter) (frame : List ℕ) → IsOrdered s → nat_le 64 (length s.queue) ≡ false →
    IsOrdered (record s { queue = s.queue ++ frame ∷ [] })
queued s frame ordered free = record {
  few =
      let short : length s.queue < 64 = grind (arith, nat_tests, free) in
      omega (arith, length-append s.queue (frame ∷ []));
  ids = ordered.ids;
}

arrives_keeps : (s : Adapter) (frame : List ℕ) → IsOrdered s → IsOrdered (arrives s frame).state
unfolding arrives
arrives_keeps s frame ordered =
    either (not (rx_on s.regs)) (logs s (codes "drop off")) filter ordered
    (either (not (accepts s.regs (take 6 frame))) (logs s (codes "drop filter")) fifo ordered
    (placed (nat_le 64 (length s.queue)) refl))
  where
    dropped : Reaction Adapter
    dropped = logs (record s { regs = raised s.regs 0x40 }) (codes "drop fifo")

    waiting : Reaction Adapter
    waiting = rest (record s { queue = s.queue ++ frame ∷ [] })

    fifo : Reaction Adapter
    fifo = if nat_le 64 (length s.queue) then dropped else waiting

    filter : Reaction Adapter
    filter = if not (accepts s.regs (take 6 frame)) then logs s (codes "drop filter") else fifo

    placed : (b : Bool) → nat_le 64 (length s.queue) ≡ b →
        IsOrdered (if b then dropped else waiting).state
    placed true is = with_regs s (raised s.regs 0x40) ordered
    placed false is = queued s frame ordered is

-- ACCESSES

reads_keeps : (s : Adapter) (id offset len : ℕ) → IsOrdered s →
    IsOrdered (reads s id offset len).state
unfolding reads
reads_keeps s id offset len ordered =
    either (len == 4)
    (answers (record s { regs = after_read s.regs offset })
    (body.Dev (dev.ReadDone id (to_le_bytes w32 (read_value s.regs offset)))))
    (answers s (body.Dev (dev.ReadDone id (replicate len 0))))
    (with_regs s (after_read s.regs offset) ordered) ordered

acted : (s : Adapter) (did : RegAct) → IsOrdered s → IsOrdered (after_act s did)
acted s act.Stored ordered = ordered
acted s act.Reset ordered = record {
  few = omega arith;
  ids = record {
    rx = tt;
    tx = tt;
    apart = tt;
  };
}

stores_keeps : (s : Adapter) (offset value : ℕ) → IsOrdered s → IsOrdered (stores s offset value)
stores_keeps s offset value ordered =
    acted (record s { regs = after_write s.regs offset value }) (act_of offset value)
    (with_regs s (after_write s.regs offset value) ordered)

one_of : (b : Bool) (x y : Adapter) → IsOrdered x → IsOrdered y → IsOrdered (if b then x else y)
one_of true x y p q = p
one_of false x y p q = q

writes_keeps : (s : Adapter) (id offset : ℕ) (bytes : List ℕ) → IsOrdered s →
    IsOrdered (writes s id offset bytes).state
unfolding writes
writes_keeps s id offset bytes ordered =
    one_of (length bytes == 4) (stores s offset (from_le_bytes w32 bytes)) s
    (stores_keeps s offset (from_le_bytes w32 bytes) ordered) ordered

-- THE RECEIVE ENGINE

receives_keeps : (s : Adapter) (step : RxStep) → IsOrdered s → IsOrdered (receives s step).state
unfolding receiving.starts_receiving
receives_keeps s rx.Idle ordered =
    either (receiving.may_receive s) (receiving.reads_descriptor s) (rest s)
    (rx_asks s (rx.Read s.next_id _) refl ordered) ordered
receives_keeps s (rx.Read id place) ordered = ordered
receives_keeps s (rx.Data id place address part done) ordered = ordered
receives_keeps s (rx.Back id part) ordered = ordered

rx_read_keeps : (s : Adapter) (step : RxStep) (id : ℕ) (bytes : List ℕ) → IsOrdered s →
    IsOrdered (rx_read_done s step id bytes).state
unfolding rx_read_done
rx_read_keeps s rx.Idle id bytes ordered = ordered
rx_read_keeps s (rx.Read asked place) id bytes ordered =
    either ((asked == id) && (length bytes == 16) && has_id s)
    (receiving.has_descriptor s place bytes) (rest s)
    (rx_asks s (rx.Data s.next_id _ _ _ _) refl ordered) ordered
rx_read_keeps s (rx.Data asked place address part done) id bytes ordered = ordered
rx_read_keeps s (rx.Back asked part) id bytes ordered = ordered

one_less : (queue : List (List ℕ)) → length queue ≤ 64 → length (drop 1 queue) ≤ 64
one_less [] few = few
one_less (frame ∷ queue) few = omega arith

part_keeps : (s : Adapter) (part : ℕ) → IsOrdered s →
    IsOrdered (receiving.part_received s part).state
part_keeps s part ordered =
    either (is_last s part) (receiving.frame_received over)
    (rest (record over { filled = s.filled + part }))
    (record { few = one_less s.queue ordered.few; ids = rx_over ordered.ids })
    (record { few = ordered.few; ids = rx_over ordered.ids })
  where
    over : Adapter
    over = record s { receiving = rx.Idle; regs = receiving.with_next_rx s.regs }

rx_write_keeps : (s : Adapter) (step : RxStep) (id : ℕ) → IsOrdered s →
    IsOrdered (rx_write_done s step id).state
unfolding rx_write_done
rx_write_keeps s rx.Idle id ordered = ordered
rx_write_keeps s (rx.Read asked place) id ordered = ordered
rx_write_keeps s (rx.Data asked place address part done) id ordered =
    either ((asked == id) && has_id s) (receiving.piece_written s place address part done) (rest s)
    (either (nat_lt (done + piece part done) part)
    (receiving.writes_piece s place address part (done + piece part done))
    (receiving.writes_back s place address part)
    (rx_asks s (rx.Data s.next_id _ _ _ _) refl ordered)
    (rx_asks s (rx.Back s.next_id _) refl ordered))
    ordered
rx_write_keeps s (rx.Back asked part) id ordered =
    either (asked == id) (receiving.part_received s part) (rest s) (part_keeps s part ordered)
    ordered

-- THE TRANSMIT ENGINE

sends_on_keeps : (s : Adapter) (step : TxStep) → IsOrdered s → IsOrdered (sends_on s step).state
unfolding sending.starts_sending
sends_on_keeps s tx.Idle ordered =
    either (sending.may_send s) (sending.reads_descriptor s) (rest s)
    (tx_asks s (tx.Read s.next_id _) refl ordered) ordered
sends_on_keeps s (tx.Read id place) ordered = ordered
sends_on_keeps s (tx.Data id place descriptor done) ordered = ordered
sends_on_keeps s (tx.Back id) ordered = ordered

advances_keeps : (s : Adapter) → IsOrdered s → IsOrdered (sending.advances s)
advances_keeps s ordered = record {
  few = ordered.few;
  ids = tx_over s.next_id (rx_id s.receiving) (tx_id s.sending) ordered.ids;
}

completes_keeps : (s : Adapter) (d : TxDesc) → IsOrdered s → IsOrdered (sending.completes s d).state
unfolding sending.completes
completes_keeps s d ordered =
    either (nat_lt (length s.work) 14 || nat_lt 1514 (length s.work)) (sending.drops_frame s)
    (sending.sends_frame s (sending.padded s.regs (checksummed d s.work)))
    (with_work s [] ordered) (with_work s [] ordered)

reports_keeps : (s : Adapter) (place : ℕ) (d : TxDesc) → IsOrdered s →
    IsOrdered (sending.reports_or_advances d place s).state
reports_keeps s place d ordered =
    either (sending.reports d) (sending.writes_back s place d) (rest (sending.advances s))
    (tx_asks s (tx.Back s.next_id) refl ordered) (advances_keeps s ordered)

finishes_keeps : (s : Adapter) (place : ℕ) (d : TxDesc) → IsOrdered s →
    IsOrdered (sending.finishes s place d).state
finishes_keeps s place d ordered =
    either (sending.is_end d)
    (followed_by (sending.completes s d) (sending.reports_or_advances d place))
    (sending.reports_or_advances d place s)
    (reports_keeps (sending.completes s d).state place d (completes_keeps s d ordered))
    (reports_keeps s place d ordered)

goes_on_keeps : (s : Adapter) (place : ℕ) (descriptor : List ℕ) (done : ℕ) → IsOrdered s →
    IsOrdered (sending.goes_on s place descriptor done).state
goes_on_keeps s place descriptor done ordered =
    either (nat_lt done (tx_desc_of descriptor).length)
    (sending.reads_piece s place descriptor done)
    (sending.finishes s place (tx_desc_of descriptor))
    (tx_asks s (tx.Data s.next_id _ _ _) refl ordered)
    (finishes_keeps s place (tx_desc_of descriptor) ordered)

descriptor_keeps : (s : Adapter) (place : ℕ) (bytes : List ℕ) → IsOrdered s →
    IsOrdered (sending.has_descriptor s place bytes).state
descriptor_keeps s place bytes ordered =
    either (sending.is_extended (tx_desc_of bytes)) (sending.skips s) used
    (advances_keeps s ordered)
    (either lacks (rest s) (sending.goes_on s place bytes 0) ordered
    (goes_on_keeps s place bytes 0 ordered))
  where
    lacks : Bool
    lacks = sending.needs_id (tx_desc_of bytes) 0 && not (has_id s)

    used : Reaction Adapter
    used = if lacks then rest s else sending.goes_on s place bytes 0

piece_keeps : (s : Adapter) (place : ℕ) (descriptor : List ℕ) (done : ℕ) (bytes : List ℕ) →
    IsOrdered s → IsOrdered (sending.piece_read s place descriptor done bytes).state
piece_keeps s place descriptor done bytes ordered =
    either (sending.needs_id (tx_desc_of descriptor) (done + length bytes) && not (has_id s))
    (rest s)
    (sending.goes_on (record s { work = s.work ++ bytes }) place descriptor (done + length bytes))
    ordered
    (goes_on_keeps (record s { work = s.work ++ bytes }) place descriptor (done + length bytes)
    (with_work s (s.work ++ bytes) ordered))

tx_read_keeps : (s : Adapter) (step : TxStep) (id : ℕ) (bytes : List ℕ) → IsOrdered s →
    IsOrdered (tx_read_done s step id bytes).state
unfolding tx_read_done
tx_read_keeps s tx.Idle id bytes ordered = ordered
tx_read_keeps s (tx.Read asked place) id bytes ordered =
    either ((asked == id) && (length bytes == 16)) (sending.has_descriptor s place bytes) (rest s)
    (descriptor_keeps s place bytes ordered) ordered
tx_read_keeps s (tx.Data asked place descriptor done) id bytes ordered =
    either ((asked == id) && (length bytes == piece (tx_desc_of descriptor).length done))
    (sending.piece_read s place descriptor done bytes) (rest s)
    (piece_keeps s place descriptor done bytes ordered) ordered
tx_read_keeps s (tx.Back asked) id bytes ordered = ordered

tx_write_keeps : (s : Adapter) (step : TxStep) (id : ℕ) → IsOrdered s →
    IsOrdered (tx_write_done s step id).state
unfolding tx_write_done
tx_write_keeps s tx.Idle id ordered = ordered
tx_write_keeps s (tx.Read asked place) id ordered = ordered
tx_write_keeps s (tx.Data asked place descriptor done) id ordered = ordered
tx_write_keeps s (tx.Back asked) id ordered =
    either (asked == id) (rest (sending.advances (record s { regs = raised s.regs 0x1 }))) (rest s)
    (advances_keeps (record s { regs = raised s.regs 0x1 })
    (with_regs s (raised s.regs 0x1) ordered)) ordered

-- ONE EVENT

hears_keeps : (s : Adapter) (message : HostMsg) → IsOrdered s → IsOrdered (hears s message).state
unfolding hears
hears_keeps s (host.Read id bar offset len) ordered = reads_keeps s id offset len ordered
hears_keeps s (host.Write id bar offset bytes) ordered = writes_keeps s id offset bytes ordered
hears_keeps s (host.ReadDone id bytes) ordered =
    let more : Adapter = (tx_read_done s s.sending id bytes).state in
    rx_read_keeps more more.receiving id bytes (tx_read_keeps s s.sending id bytes ordered)
hears_keeps s (host.WriteDone id) ordered =
    let more : Adapter = (tx_write_done s s.sending id).state in
    rx_write_keeps more more.receiving id (tx_write_keeps s s.sending id ordered)

feels_keeps : (s : Adapter) (message : Body) → IsOrdered s → IsOrdered (feels s message).state
unfolding feels
feels_keeps s (body.Host message) ordered = hears_keeps s message ordered
feels_keeps s (body.Eth frame) ordered = arrives_keeps s frame ordered
feels_keeps s body.Sync ordered = ordered
feels_keeps s (body.Intro intro) ordered = ordered
feels_keeps s (body.Dev message) ordered = ordered
feels_keeps s (body.Mem message) ordered = ordered

with_told : (s : Adapter) (told : Bool) → IsOrdered s → IsOrdered (record s { told = told })
with_told s told ordered = record { few = ordered.few; ids = ordered.ids }

tells_at_settles : (s : Adapter) (told line : Bool) (x : ℕ) → IsOrdered s → s.told ≡ told →
    line_of s.regs ≡ line → IsSettledAdapter (tells_at s told line).state x
tells_at_settles s true true x ordered was is = record { ordered = ordered; told = was ∙ sym is }
tells_at_settles s true false x ordered was is =
    record { ordered = with_told s false ordered; told = sym is }
tells_at_settles s false true x ordered was is =
    record { ordered = with_told s true ordered; told = sym is }
tells_at_settles s false false x ordered was is =
    record { ordered = ordered; told = was ∙ sym is }

tells_settles : (s : Adapter) (x : ℕ) → IsOrdered s → IsSettledAdapter (tells s).state x
unfolding tells
tells_settles s x ordered = tells_at_settles s s.told (line_of s.regs) x ordered refl refl

-- after each event the adapter is settled again
pub takes_settles : (s : Adapter) (t port : ℕ) (message : Body) (x : ℕ) → IsOrdered s →
    IsSettledAdapter (takes s t port message).state x
unfolding takes
takes_settles s t port message x ordered =
    let felt : Adapter = (feels s message).state in
    let sent : Adapter = (sends_on felt felt.sending).state in
    let received : Adapter = (receives sent sent.receiving).state in
    tells_settles received x
    (receives_keeps sent sent.receiving
    (sends_on_keeps felt felt.sending (feels_keeps s message ordered)))

pub started_settled : (mac : List ℕ) (x : ℕ) → IsSettledAdapter (started mac) x
started_settled mac x = record {
  ordered = record {
    few = omega arith;
    ids = record {
      rx = tt;
      tx =
          tt;
      apart = tt;
    };
  };
  told = refl;
}
