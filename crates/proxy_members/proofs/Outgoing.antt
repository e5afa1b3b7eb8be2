-- What turns of a sending end leave.
use Rattle.std.specs.Prelude.{◌⊎◌, Err}
use Rattle.std.specs.declared.result.Result.{Result}
use Rattle.std.proofs.Common.{inl, inr, ◌≡◌, ℕ, ◌<◌, List, [], ◌∷◌, ◌++◌, ap, sym, refl, subst, arith, append_assoc, ◌∙◌}
use Rattle.std.proofs.lemmas.List.{append-nil}
use mathlib.Core.List.{IsPrefix}
use Rattle.cs_base.specs.Outside.{Rose}
use Rattle.cs_base.specs.Wires.{OutSeen}
use Rattle.port_queue.specs.Runs.{Ran}
use Rattle.port_queue.specs.Runs.Ran.{none_yet, and_does, and_fails}
use Rattle.sb_frame.specs.Frames.{AreFrames}
use Rattle.sb_frame.specs.Frames.AreFrames.{none_yet as no_frame}
use Rattle.sb_message.specs.declared.message.Msg.{Msg}
use Rattle.slot_queue.specs.declared.ends.RxEnd.{RxEnd}
use Rattle.slot_queue.specs.Ends.{Receiver, Popped}
use Rattle.tcp_proxy.specs.declared.hop.Hop.{Hop}
use Rattle.tcp_proxy.specs.declared.hop.ProxyBad.{ProxyBad}
use Rattle.tcp_proxy.specs.Turns.{Never}
use Rattle.tcp_proxy.specs.Sending.{OutCause, TurnedOut, IsFitOut, IsToldOut}
use Rattle.tcp_proxy.specs.Sending.OutCause.{it_moved, it_idles, it_failed, it_lacks}
use Rattle.worker_rounds.specs.declared.mesh_bad.MeshBad.{MeshBad}
use Rattle.worker_rounds.specs.Passes.{Went}
use Rattle.worker_rounds.specs.Passes.Went.{stood, turned}
use Rattle.proxy_members.specs.declared.out_member.OutMember.{OutMember}
use Rattle.proxy_members.specs.QueueEnds.{rx_kind, rx_stands, rx_pops, rx_empties}
use Rattle.proxy_members.specs.Faults.{fault_of}
use Rattle.proxy_members.specs.Outward.{OutFits, OutDid, OutFailed, OutWent, OutSays, IsBegun}
use Rattle.proxy_members.specs.Outward.OutSays.{its_wire_failed, memory_was_wanting}
use Rattle.proxy_members.specs.OutLaws.{frames_on, out_keeps}

pub prefix_on : {X : Type 0} (xs ys zs : List X) → IsPrefix xs ys → IsPrefix ys zs → IsPrefix xs zs
prefix_on xs ys zs p q = (p.0 ++ q.0, sym (append_assoc xs p.0 q.0) ∙ ap (λ l. l ++ q.0) p.1 ∙ q.1)

pub prefix_self : {X : Type 0} (xs : List X) → IsPrefix xs xs
prefix_self xs = ([], append-nil xs)

pub rose_some : (before after : ℕ) → Rose before after → 0 < after
rose_some before after (inl more) = omega arith
rose_some before after (inr most) = omega arith

-- these messages were taken out of a queue
record TookOut (a b : RxEnd) (messages : List Msg) : Type 0 where
  queue : b.seat.queue ≡ a.seat.queue
  kind : b.seat.kind ≡ a.seat.kind
  received : b.seat.received ≡ a.seat.received ++ messages
  stream : IsBegun a.seat.kind a.seat.received → IsBegun b.seat.kind b.seat.received

begun_more : (old : Receiver) (m : Msg) (new : Receiver) → Popped old m new → IsBegun new.kind new.received
begun_more old m new popped = subst (λ (r : Receiver). IsBegun r.kind r.received) (sym popped.after) (inr popped.stream)

ran_popped : (a b : RxEnd) (messages : List Msg) → Ran rx_pops Never a messages b → TookOut a b messages
ran_popped a b messages none_yet = record { queue = refl; kind = refl; received = sym (append-nil a.seat.received); stream = λ begun. begun }
ran_popped a b messages (and_does before c d m ran popped) =
    let first : TookOut a c before = ran_popped a c before ran in
    record {
      queue = ap (λ (r : Receiver). r.queue) popped.after ∙ first.queue;
      kind = ap (λ (r : Receiver). r.kind) popped.after ∙ first.kind;
      received = ap (λ (r : Receiver). r.received) popped.after ∙ ap (λ l. l ++ m ∷ []) first.received ∙ append_assoc a.seat.received before (m ∷ []);
      stream = λ begun. begun_more c.seat m b.seat popped;
    }
ran_popped a b messages (and_fails before c d ran never) = elim never [ ]

then_none : (a last b : RxEnd) (messages : List Msg) → (b ≡ last) ⊎ rx_empties last b → TookOut a last messages → TookOut a b messages
then_none a last b messages (inl same) took = subst (λ x. TookOut a x messages) (sym same) took
then_none a last b messages (inr emptied) took = record {
  queue = ap (λ (r : Receiver). r.queue) emptied ∙ took.queue;
  kind = ap (λ (r : Receiver). r.kind) emptied ∙ took.kind;
  received = ap (λ (r : Receiver). r.received) emptied ∙ took.received;
  stream = λ begun. subst (λ (r : Receiver). IsBegun r.kind r.received) (sym emptied) (took.stream begun);
}

module _ {O : Type 0} (seen : O → OutSeen) where
  -- at first
  pub fit_first : (member : OutMember O) → member.near.seat.received ≡ [] → member.proxy.kept ≡ [] → IsToldOut seen member.proxy → OutFits seen member
  fit_first member unused none told = record {
    frames = subst (λ l. AreFrames member.near.seat.kind l member.proxy.kept) (sym unused) (subst (AreFrames member.near.seat.kind []) (sym none) no_frame);
    told = told;
  }

  -- what a proxy asks for before a turn
  pub fit_out : (member : OutMember O) → OutFits seen member → IsFitOut rx_kind rx_stands member.proxy.kept member.near
  fit_out member fits = record { popped = member.near.seat.received; keeps = record { frames = fits.frames; port = refl } }

  pub turned_went : (old new : OutMember O) (r : Result Hop ProxyBad) → new.channel ≡ old.channel → TurnedOut seen rx_kind rx_stands rx_pops rx_empties old.proxy new.proxy old.near new.near r → OutWent old new
  turned_went old new r channel t =
      let takes = t.takes in
      let took : TookOut old.near new.near takes.messages = then_none old.near takes.last new.near takes.messages takes.emptied (ran_popped old.near takes.last takes.messages takes.popped) in
      record {
        channel = channel;
        queue = took.queue;
        kind = took.kind;
        popped = (takes.messages, sym took.received);
        stream = took.stream;
        kept = (takes.frames, sym takes.longer);
      }

  pub went_on : (a b c : OutMember O) → OutWent a b → OutWent b c → OutWent a c
  went_on a b c first more = record {
    channel = more.channel ∙ first.channel;
    queue = more.queue ∙ first.queue;
    kind = more.kind ∙ first.kind;
    popped = prefix_on a.near.seat.received b.near.seat.received c.near.seat.received first.popped more.popped;
    stream = λ begun. more.stream (first.stream begun);
    kept = prefix_on a.proxy.kept b.proxy.kept c.proxy.kept first.kept more.kept;
  }

  pub turns_went : (old : OutMember O) (n : ℕ) (new : OutMember O) → Went (OutDid seen) old n new → OutWent old new
  turns_went old _ _ stood = record { channel = refl; queue = refl; kind = refl; popped = prefix_self old.near.seat.received; stream = λ begun. begun; kept = prefix_self old.proxy.kept }
  turns_went old _ _ (turned n mid new before did) = went_on old mid new (turns_went old n mid before) (turned_went mid new _ did.channel did.turned)

  pub turns_fit : (old : OutMember O) (n : ℕ) (new : OutMember O) → Went (OutDid seen) old n new → OutFits seen old → OutFits seen new
  turns_fit old _ _ stood fits = fits
  turns_fit old _ _ (turned n mid new before did) fits = out_keeps seen mid new did (turns_fit old n mid before fits)

  pub failed_went : (old new : OutMember O) (fault : MeshBad) → OutFailed seen old fault new → OutWent old new
  failed_went old new fault failed = turned_went old new (Err failed.bad) failed.channel failed.turned

  pub failed_fits : (old new : OutMember O) (fault : MeshBad) → OutFailed seen old fault new → OutFits seen old → OutFits seen new
  failed_fits old new fault failed fits = record {
    frames = frames_on old.proxy.kept new.proxy.kept old.near new.near failed.turned.takes fits.frames;
    told = failed.told fits.told;
  }

  cause_says : (old new : OutMember O) (n k : ℕ) (bad : ProxyBad) → OutCause seen rx_empties old.proxy new.proxy old.near new.near n k (Err bad) → OutSays seen new (fault_of new.channel bad)
  cause_says old new n k _ (it_failed rose) = its_wire_failed (rose_some (seen old.proxy.wire).faults (seen new.proxy.wire).faults rose)
  cause_says old new n k _ it_lacks = memory_was_wanting

  pub failed_says : (old new : OutMember O) (fault : MeshBad) → OutFailed seen old fault new → OutSays seen new fault
  failed_says old new fault failed = subst (OutSays seen new) (ap (λ k. fault_of k failed.bad) failed.channel ∙ sym failed.said) (cause_says old new _ _ failed.bad failed.turned.cause)
