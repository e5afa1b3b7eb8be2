-- What an adapter keeps: each send is an event that its port may send.
use Rattle.std.specs.Prelude.{ℕ, ◌≡◌, ◌+◌, ◌&&◌, ◌||◌, ◌==◌, not, nat_lt, nat_le, Bool, true, false, if◌then◌else◌, List, [], ◌∷◌, ◌++◌, length, take, replicate, codes, All, refl}
use Rattle.std.proofs.Common.{arith, sym, subst}
use Rattle.std.proofs.lemmas.List.Elements.{All-nil, All-cons, All-append}
use Rattle.cs_base.specs.declared.port_kind.PortKind.TheVariants.{Eth, PcieDev}
use Rattle.pcie_proto.specs.declared.from_device.DevMsg.{DevMsg}
use Rattle.pcie_proto.specs.declared.from_host.HostMsg.{HostMsg}
use Rattle.pcie_proto.specs.declared.from_host.HostMsg.TheVariants as host
use Rattle.sb_message.specs.declared.message.Body.{Body}
use Rattle.sb_message.specs.declared.message.Body.TheVariants as body
use Rattle.sb_message.specs.Receivable.{MaySend, is_event}
use Rattle.device_api.specs.Behaviour.{Reaction, IsLawful}
use Rattle.device_api.specs.World.{rest, followed_by}
use Rattle.nic_rings.specs.declared.tx_desc.TxDesc.{TxDesc}
use Rattle.nic_rings.specs.Descriptors.{tx_desc_of}
use Rattle.std.specs.Int.{w32, to_le_bytes}
use Rattle.pcie_proto.specs.declared.from_device.DevMsg.TheVariants as dev
use Rattle.nic_regs.specs.Registers.{accepts, after_read, line_of, raised, read_value, rx_on}
use Rattle.nic_8254x.specs.Checksum.{checksummed}
use Rattle.nic_8254x.specs.declared.state.RxStep.{RxStep}
use Rattle.nic_8254x.specs.declared.state.RxStep.TheVariants as rx
use Rattle.nic_8254x.specs.declared.state.TxStep.{TxStep}
use Rattle.nic_8254x.specs.declared.state.TxStep.TheVariants as tx
use Rattle.nic_8254x.specs.State.{Adapter, has_id}
use Rattle.nic_8254x.specs.Arrival.{arrives, logs}
use Rattle.nic_8254x.specs.Receiving as receiving
use Rattle.nic_8254x.specs.Receiving.{receives, rx_read_done, rx_write_done, piece, first, is_last}
use Rattle.nic_8254x.specs.Sending as sending
use Rattle.nic_8254x.specs.Sending.{sends_on, tx_read_done, tx_write_done}
use Rattle.nic_8254x.specs.Access.{answers, reads, writes}
use Rattle.nic_8254x.specs.Adapter.{adapter, feels, hears, tells, tells_at, takes}
use Rattle.nic_8254x.specs.Sound.{IsSettledAdapter}
use Rattle.nic_8254x.specs.AdapterKeeps.{takes_settles}

-- what is sent has a property
record Sends (P : ℕ × Body → Type 0) (r : Reaction Adapter) : Type 0 where
  sent : All P r.sends

-- of what an adapter says to its host, and of frames
record Says (P : ℕ × Body → Type 0) : Type 0 where
  to_host : (message : DevMsg) → P (0, body.Dev message)
  frames : (frame : List ℕ) → P (1, body.Eth frame)

module _ (P : ℕ × Body → Type 0) (says : Says P) where
  silent : {r : Reaction Adapter} → r.sends ≡ [] → Sends P r
  silent {r} is = record { sent = subst (λ (sends : List (ℕ × Body)). All P sends) (sym is) (All-nil P) }

  said : {r : Reaction Adapter} {message : DevMsg} → r.sends ≡ (0, body.Dev message) ∷ [] → Sends P r
  said {r} {message} is = record {
    sent = subst (λ (sends : List (ℕ × Body)). All P sends) (sym is) (All-cons P (0, body.Dev message) [] (says.to_host message) (All-nil P));
  }

  framed : {r : Reaction Adapter} {frame : List ℕ} → r.sends ≡ (1, body.Eth frame) ∷ [] → Sends P r
  framed {r} {frame} is = record {
    sent = subst (λ (sends : List (ℕ × Body)). All P sends) (sym is) (All-cons P (1, body.Eth frame) [] (says.frames frame) (All-nil P));
  }

  either : (b : Bool) (x y : Reaction Adapter) → Sends P x → Sends P y → Sends P (if b then x else y)
  either true x y p q = p
  either false x y p q = q

  both : (r : Reaction Adapter) (next : Adapter → Reaction Adapter) → Sends P r → ((s : Adapter) → Sends P (next s)) → Sends P (followed_by r next)
  both r next p q = record { sent = All-append P r.sends (next r.state).sends p.sent (q r.state).sent }

  arrives_sends : (s : Adapter) (frame : List ℕ) → Sends P (arrives s frame)
  unfolding arrives
  arrives_sends s frame =
      let fifo : Reaction Adapter = if nat_le 64 (length s.queue) then logs (record s { regs = raised s.regs 0x40 }) (codes "drop fifo") else rest (record s { queue = s.queue ++ frame ∷ [] }) in
      let filter : Reaction Adapter = if not (accepts s.regs (take 6 frame)) then logs s (codes "drop filter") else fifo in
      either (not (rx_on s.regs)) (logs s (codes "drop off")) filter (silent refl)
      (either (not (accepts s.regs (take 6 frame))) (logs s (codes "drop filter")) fifo (silent refl)
      (either (nat_le 64 (length s.queue)) (logs (record s { regs = raised s.regs 0x40 }) (codes "drop fifo")) (rest (record s { queue = s.queue ++ frame ∷ [] })) (silent refl) (silent refl)))

  reads_sends : (s : Adapter) (id offset len : ℕ) → Sends P (reads s id offset len)
  unfolding reads
  reads_sends s id offset len =
      either (len == 4)
      (answers (record s { regs = after_read s.regs offset }) (body.Dev (dev.ReadDone id (to_le_bytes w32 (read_value s.regs offset)))))
      (answers s (body.Dev (dev.ReadDone id (replicate len 0)))) (said refl) (said refl)

  writes_sends : (s : Adapter) (id offset : ℕ) (bytes : List ℕ) → Sends P (writes s id offset bytes)
  unfolding writes
  writes_sends s id offset bytes = said refl

  receives_sends : (s : Adapter) (step : RxStep) → Sends P (receives s step)
  unfolding receiving.starts_receiving
  receives_sends s rx.Idle = either (receiving.may_receive s) (receiving.reads_descriptor s) (rest s) (said refl) (silent refl)
  receives_sends s (rx.Read id place) = silent refl
  receives_sends s (rx.Data id place address part done) = silent refl
  receives_sends s (rx.Back id part) = silent refl

  rx_read_sends : (s : Adapter) (step : RxStep) (id : ℕ) (bytes : List ℕ) → Sends P (rx_read_done s step id bytes)
  unfolding rx_read_done
  rx_read_sends s rx.Idle id bytes = silent refl
  rx_read_sends s (rx.Read asked place) id bytes =
      either ((asked == id) && (length bytes == 16) && has_id s) (receiving.has_descriptor s place bytes) (rest s) (said refl) (silent refl)
  rx_read_sends s (rx.Data asked place address part done) id bytes = silent refl
  rx_read_sends s (rx.Back asked part) id bytes = silent refl

  rx_write_sends : (s : Adapter) (step : RxStep) (id : ℕ) → Sends P (rx_write_done s step id)
  unfolding rx_write_done
  rx_write_sends s rx.Idle id = silent refl
  rx_write_sends s (rx.Read asked place) id = silent refl
  rx_write_sends s (rx.Data asked place address part done) id =
      either ((asked == id) && has_id s) (receiving.piece_written s place address part done) (rest s)
      (either (nat_lt (done + piece part done) part) (receiving.writes_piece s place address part (done + piece part done)) (receiving.writes_back s place address part) (said refl) (said refl))
      (silent refl)
  rx_write_sends s (rx.Back asked part) id =
      let over : Adapter = record s { receiving = rx.Idle; regs = receiving.with_next_rx s.regs } in
      either (asked == id) (receiving.part_received s part) (rest s)
      (either (is_last s part) (receiving.frame_received over) (rest (record over { filled = s.filled + part })) (silent refl) (silent refl))
      (silent refl)

  sends_on_sends : (s : Adapter) (step : TxStep) → Sends P (sends_on s step)
  unfolding sending.starts_sending
  sends_on_sends s tx.Idle = either (sending.may_send s) (sending.reads_descriptor s) (rest s) (said refl) (silent refl)
  sends_on_sends s (tx.Read id place) = silent refl
  sends_on_sends s (tx.Data id place descriptor done) = silent refl
  sends_on_sends s (tx.Back id) = silent refl

  completes_sends : (s : Adapter) (d : TxDesc) → Sends P (sending.completes s d)
  unfolding sending.completes
  completes_sends s d =
      either (nat_lt (length s.work) 14 || nat_lt 1514 (length s.work)) (sending.drops_frame s) (sending.sends_frame s (sending.padded s.regs (checksummed d s.work))) (silent refl) (framed refl)

  reports_sends : (s : Adapter) (place : ℕ) (d : TxDesc) → Sends P (sending.reports_or_advances d place s)
  reports_sends s place d = either (sending.reports d) (sending.writes_back s place d) (rest (sending.advances s)) (said refl) (silent refl)

  finishes_sends : (s : Adapter) (place : ℕ) (d : TxDesc) → Sends P (sending.finishes s place d)
  finishes_sends s place d =
      either (sending.is_end d) (followed_by (sending.completes s d) (sending.reports_or_advances d place)) (sending.reports_or_advances d place s)
      (both (sending.completes s d) (sending.reports_or_advances d place) (completes_sends s d) (λ more. reports_sends more place d))
      (reports_sends s place d)

  goes_on_sends : (s : Adapter) (place : ℕ) (descriptor : List ℕ) (done : ℕ) → Sends P (sending.goes_on s place descriptor done)
  goes_on_sends s place descriptor done =
      either (nat_lt done (tx_desc_of descriptor).length) (sending.reads_piece s place descriptor done) (sending.finishes s place (tx_desc_of descriptor)) (said refl) (finishes_sends s place (tx_desc_of descriptor))

  read_sends : (s : Adapter) (place : ℕ) (bytes : List ℕ) → Sends P (sending.has_descriptor s place bytes)
  read_sends s place bytes =
      let lacks : Bool = sending.needs_id (tx_desc_of bytes) 0 && not (has_id s) in
      either (sending.is_extended (tx_desc_of bytes)) (sending.skips s) (if lacks then rest s else sending.goes_on s place bytes 0) (silent refl)
      (either lacks (rest s) (sending.goes_on s place bytes 0) (silent refl) (goes_on_sends s place bytes 0))

  piece_sends : (s : Adapter) (place : ℕ) (descriptor : List ℕ) (done : ℕ) (bytes : List ℕ) → Sends P (sending.piece_read s place descriptor done bytes)
  piece_sends s place descriptor done bytes =
      let more : Adapter = record s { work = s.work ++ bytes } in
      either (sending.needs_id (tx_desc_of descriptor) (done + length bytes) && not (has_id s)) (rest s) (sending.goes_on more place descriptor (done + length bytes)) (silent refl)
      (goes_on_sends more place descriptor (done + length bytes))

  tx_read_sends : (s : Adapter) (step : TxStep) (id : ℕ) (bytes : List ℕ) → Sends P (tx_read_done s step id bytes)
  unfolding tx_read_done
  tx_read_sends s tx.Idle id bytes = silent refl
  tx_read_sends s (tx.Read asked place) id bytes =
      either ((asked == id) && (length bytes == 16)) (sending.has_descriptor s place bytes) (rest s) (read_sends s place bytes) (silent refl)
  tx_read_sends s (tx.Data asked place descriptor done) id bytes =
      either ((asked == id) && (length bytes == piece (tx_desc_of descriptor).length done)) (sending.piece_read s place descriptor done bytes) (rest s) (piece_sends s place descriptor done bytes) (silent refl)
  tx_read_sends s (tx.Back asked) id bytes = silent refl

  tx_write_sends : (s : Adapter) (step : TxStep) (id : ℕ) → Sends P (tx_write_done s step id)
  unfolding tx_write_done
  tx_write_sends s tx.Idle id = silent refl
  tx_write_sends s (tx.Read asked place) id = silent refl
  tx_write_sends s (tx.Data asked place descriptor done) id = silent refl
  tx_write_sends s (tx.Back asked) id =
      either (asked == id) (rest (sending.advances (record s { regs = raised s.regs 0x1 }))) (rest s) (silent refl) (silent refl)

  hears_sends : (s : Adapter) (message : HostMsg) → Sends P (hears s message)
  unfolding hears
  hears_sends s (host.Read id bar offset len) = reads_sends s id offset len
  hears_sends s (host.Write id bar offset bytes) = writes_sends s id offset bytes
  hears_sends s (host.ReadDone id bytes) =
      both (tx_read_done s s.sending id bytes) (λ more. rx_read_done more more.receiving id bytes) (tx_read_sends s s.sending id bytes) (λ more. rx_read_sends more more.receiving id bytes)
  hears_sends s (host.WriteDone id) =
      both (tx_write_done s s.sending id) (λ more. rx_write_done more more.receiving id) (tx_write_sends s s.sending id) (λ more. rx_write_sends more more.receiving id)

  feels_sends : (s : Adapter) (message : Body) → Sends P (feels s message)
  unfolding feels
  feels_sends s (body.Host message) = hears_sends s message
  feels_sends s (body.Eth frame) = arrives_sends s frame
  feels_sends s body.Sync = silent refl
  feels_sends s (body.Intro intro) = silent refl
  feels_sends s (body.Dev message) = silent refl
  feels_sends s (body.Mem message) = silent refl

  tells_at_sends : (s : Adapter) (told line : Bool) → Sends P (tells_at s told line)
  tells_at_sends s true true = silent refl
  tells_at_sends s true false = said refl
  tells_at_sends s false true = said refl
  tells_at_sends s false false = silent refl

  tells_sends : (s : Adapter) → Sends P (tells s)
  unfolding tells
  tells_sends s = tells_at_sends s s.told (line_of s.regs)

  takes_sends : (s : Adapter) (t port : ℕ) (message : Body) → Sends P (takes s t port message)
  unfolding takes
  takes_sends s t port message =
      both _ tells (both _ (λ more. receives more more.receiving) (both (feels s message) (λ more. sends_on more more.sending) (feels_sends s message) (λ more. sends_on_sends more more.sending)) (λ more. receives_sends more more.receiving)) tells_sends

events : Says (λ (sent : ℕ × Body). is_event sent.1 ≡ true)
events = record { to_host = λ message. refl; frames = λ frame. refl }

sendable : Says (λ (sent : ℕ × Body). MaySend (PcieDev ∷ Eth ∷ []) sent.0 sent.1)
sendable = record {
  to_host = λ message. record { kind = PcieDev; at_port = refl; fits = refl; event = refl };
  frames = λ frame. record { kind = Eth; at_port = refl; fits = refl; event = refl };
}

pub adapter_lawful : IsLawful adapter IsSettledAdapter
adapter_lawful = record {
  at = λ s. record {
    few_ports = λ x settled. omega arith;
    take_sends_events = λ t port arrived. (takes_sends (λ (sent : ℕ × Body). is_event sent.1 ≡ true) events s t port arrived).sent;
    tick_sends_events = λ t. All-nil (λ (sent : ℕ × Body). is_event sent.1 ≡ true);
    settled_later = λ x y settled le. record { ordered = settled.ordered; told = settled.told };
    take_orderly = λ t port arrived may due in_run settled. record {
      same_ports = refl;
      settled_after = takes_settles s t port arrived (t + 1) settled.ordered;
      sendable = (takes_sends (λ (sent : ℕ × Body). MaySend (PcieDev ∷ Eth ∷ []) sent.0 sent.1) sendable s t port arrived).sent;
    };
    due_after_take = λ t port arrived may due in_run settled. tt;
    tick_orderly = λ t due in_run settled. record { same_ports = refl; settled_after = record { ordered = settled.ordered; told = settled.told }; sendable = All-nil (λ (sent : ℕ × Body). MaySend (PcieDev ∷ Eth ∷ []) sent.0 sent.1) };
    due_after_tick = λ t due in_run settled. tt;
  };
}
