-- What turns of a receiving end leave.
use Rattle.std.specs.Prelude.{◌⊎◌, Option, Err}
use Rattle.std.specs.declared.result.Result.{Result}
use Rattle.std.specs.Option.{option_to_list}
use Rattle.std.proofs.Common.{inl, inr, ◌≡◌, ℕ, List, [], ◌∷◌, ◌++◌, ap, sym, refl, subst, append_assoc, ◌∙◌}
use Rattle.std.proofs.lemmas.List.{append-nil}
use Rattle.cs_base.specs.Wires.{InSeen}
use Rattle.port_queue.specs.Runs.{Ran}
use Rattle.port_queue.specs.Runs.Ran.{none_yet, and_does, and_fails}
use Rattle.sb_frame.specs.declared.frame_bad.FrameBad.{FrameBad}
use Rattle.sb_frame.specs.Faults.{FirstFault}
use Rattle.sb_frame.specs.Frames.{AreFrames}
use Rattle.sb_message.specs.declared.message.Msg.{Msg}
use Rattle.slot_queue.specs.declared.ends.TxEnd.{TxEnd}
use Rattle.slot_queue.specs.Ends.{Sender}
use Rattle.tcp_proxy.specs.declared.hop.Hop.{Hop}
use Rattle.tcp_proxy.specs.declared.hop.ProxyBad.{ProxyBad}
use Rattle.tcp_proxy.specs.declared.hop.ProxyBad.TheVariants.{Frame, NoMemory}
use Rattle.tcp_proxy.specs.Turns.{Never}
use Rattle.tcp_proxy.specs.Receiving.{Meets, ArePushedFrom, InCause, TurnedIn, IsFitIn}
use Rattle.tcp_proxy.specs.Receiving.InCause.{it_failed, it_ended, it_is_bad, it_lacks}
use Rattle.worker_rounds.specs.declared.mesh_bad.MeshBad.{MeshBad}
use Rattle.worker_rounds.specs.Passes.{Went}
use Rattle.worker_rounds.specs.Passes.Went.{stood, turned}
use Rattle.proxy_members.specs.declared.in_member.InMember.{InMember}
use Rattle.proxy_members.specs.QueueEnds.{tx_kind, tx_stands, tx_pushes, tx_refuses}
use Rattle.proxy_members.specs.Faults.{fault_of}
use Rattle.proxy_members.specs.Inward.{InFits, InHolds, InDid, InFailed, InWent, InSays}
use Rattle.proxy_members.specs.Inward.InSays.{its_wire_failed, its_wire_ended, its_bytes_are_bad, memory_was_wanting}
use Rattle.proxy_members.specs.InLaws.{meets_at, in_keeps}
use Rattle.proxy_members.proofs.Outgoing.{prefix_on, prefix_self, rose_some}

-- these messages were put into a queue
record PutIn (a b : TxEnd) (messages : List Msg) : Type 0 where
  queue : b.seat.queue ≡ a.seat.queue
  kind : b.seat.kind ≡ a.seat.kind
  sent : b.seat.sent ≡ a.seat.sent ++ messages

ran_pushed : (a b : TxEnd) (messages : List Msg) → Ran tx_pushes Never a messages b → PutIn a b messages
ran_pushed a b messages none_yet = record { queue = refl; kind = refl; sent = sym (append-nil a.seat.sent) }
ran_pushed a b messages (and_does before c d m ran pushed) =
    let first : PutIn a c before = ran_pushed a c before ran in
    record {
      queue = ap (λ (s : Sender). s.queue) pushed ∙ first.queue;
      kind = ap (λ (s : Sender). s.kind) pushed ∙ first.kind;
      sent = ap (λ (s : Sender). s.sent) pushed ∙ ap (λ l. l ++ m ∷ []) first.sent ∙ append_assoc a.seat.sent before (m ∷ []);
    }
ran_pushed a b messages (and_fails before c d ran never) = elim never [ ]

then_full : (a last b : TxEnd) (messages : List Msg) → (b ≡ last) ⊎ tx_refuses last b → PutIn a last messages → PutIn a b messages
then_full a last b messages (inl same) put = subst (λ x. PutIn a x messages) (sym same) put
then_full a last b messages (inr refused) put = record {
  queue = ap (λ (s : Sender). s.queue) refused.after ∙ put.queue;
  kind = ap (λ (s : Sender). s.kind) refused.after ∙ put.kind;
  sent = ap (λ (s : Sender). s.sent) refused.after ∙ put.sent;
}

frame_not_memory : (b : FrameBad) → (let answer : Result Hop ProxyBad = Err (Frame b) in answer ≡ Err NoMemory) → ⊥
frame_not_memory b e = absurd cc

module _ {I : Type 0} (seen : I → InSeen) where
  -- what a proxy asks for before a turn
  pub fit_in : (member : InMember I) → InFits seen member → IsFitIn tx_kind tx_stands member.proxy.frames member.proxy.held member.proxy.kept member.far
  fit_in member fits = record { pushed = member.far.seat.sent; meets = meets_at seen member fits }

  pub turned_went : (old new : InMember I) (r : Result Hop ProxyBad) → new.channel ≡ old.channel → TurnedIn seen tx_kind tx_stands tx_pushes tx_refuses old.proxy new.proxy old.far new.far r → InWent old new
  turned_went old new r channel t =
      let put : PutIn old.far new.far t.messages = then_full old.far t.last new.far t.messages t.refused (ran_pushed old.far t.last t.messages t.pushed) in
      record {
        channel = channel;
        queue = put.queue;
        kind = put.kind;
        pushed = (t.messages, sym put.sent);
        kept = (t.piece, sym t.kept);
      }

  pub went_on : (a b c : InMember I) → InWent a b → InWent b c → InWent a c
  went_on a b c first more = record {
    channel = more.channel ∙ first.channel;
    queue = more.queue ∙ first.queue;
    kind = more.kind ∙ first.kind;
    pushed = prefix_on a.far.seat.sent b.far.seat.sent c.far.seat.sent first.pushed more.pushed;
    kept = prefix_on a.proxy.kept b.proxy.kept c.proxy.kept first.kept more.kept;
  }

  pub turns_went : (old : InMember I) (n : ℕ) (new : InMember I) → Went (InDid seen) old n new → InWent old new
  turns_went old _ _ stood = record { channel = refl; queue = refl; kind = refl; pushed = prefix_self old.far.seat.sent; kept = prefix_self old.proxy.kept }
  turns_went old _ _ (turned n mid new before did) = went_on old mid new (turns_went old n mid before) (turned_went mid new _ did.channel did.turned)

  pub turns_fit : (old : InMember I) (n : ℕ) (new : InMember I) → Went (InDid seen) old n new → InFits seen old → InFits seen new
  turns_fit old _ _ stood fits = fits
  turns_fit old _ _ (turned n mid new before did) fits = in_keeps seen mid new did (turns_fit old n mid before fits)

  -- what waits to be pushed comes behind what was
  pub fit_holds : (member : InMember I) → InFits seen member → InHolds seen member
  fit_holds member fits =
      let held : List Msg = option_to_list member.proxy.held in
      let waiting : List Msg = member.proxy.frames.place.waiting in
      let s = fits.carries in
      record {
        pushed = record {
          more = held ++ waiting;
          front = s.before;
          rest = s.rest;
          parts = s.parts;
          frames = subst (λ k. AreFrames k (member.far.seat.sent ++ (held ++ waiting)) s.before) (sym fits.kind) (subst (λ l. AreFrames member.proxy.frames.place.kind l s.before) (append_assoc member.far.seat.sent held waiting) s.reached.frames);
        };
        told = fits.told;
      }

  pub failed_went : (old new : InMember I) (fault : MeshBad) → InFailed seen old fault new → InWent old new
  failed_went old new fault failed = turned_went old new (Err failed.bad) failed.channel failed.turned

  pub failed_holds : (old new : InMember I) (fault : MeshBad) → InFailed seen old fault new → InFits seen old → InHolds seen new
  failed_holds old new fault failed fits =
      let from = failed.turned.from_kept old.far.seat.sent (meets_at seen old fits) in
      let went = failed_went old new fault failed in
      record {
        pushed = subst (λ k. ArePushedFrom k new.proxy.kept new.far.seat.sent) (sym (went.kind ∙ fits.kind)) (subst (ArePushedFrom old.proxy.frames.place.kind new.proxy.kept) (sym from.1) from.0);
        told = failed.told fits.told;
      }

  cause_says : (old new : InMember I) (n : ℕ) (piece : List ℕ) (bad : ProxyBad) → ((b : FrameBad) → bad ≡ Frame b → new.far.seat.kind ≡ new.proxy.frames.place.kind) → InCause seen tx_refuses old.proxy new.proxy old.far new.far n piece (Err bad) → InSays seen new (fault_of new.channel bad)
  cause_says old new n piece _ kinds (it_failed rose) = its_wire_failed (rose_some (seen old.proxy.wire).faults (seen new.proxy.wire).faults rose)
  cause_says old new n piece _ kinds (it_ended none ended) = its_wire_ended ended
  cause_says old new n piece _ kinds (it_is_bad b none first) = its_bytes_are_bad b (subst (λ k. FirstFault k new.proxy.kept b) (sym (kinds b refl)) first)
  cause_says old new n piece _ kinds it_lacks = memory_was_wanting

  kind_after : (old new : InMember I) (fault : MeshBad) (failed : InFailed seen old fault new) → InFits seen old → (b : FrameBad) → failed.bad ≡ Frame b → new.far.seat.kind ≡ new.proxy.frames.place.kind
  kind_after old new fault failed fits b is =
      let meets : Meets tx_kind tx_stands new.proxy.frames new.proxy.held new.proxy.kept new.far (old.far.seat.sent ++ failed.turned.messages) = failed.turned.on (λ e. frame_not_memory b (sym (ap Err is) ∙ e)) old.far.seat.sent (meets_at seen old fits) in
      meets.same_kind

  pub failed_says : (old new : InMember I) (fault : MeshBad) → InFailed seen old fault new → InFits seen old → InSays seen new fault
  failed_says old new fault failed fits = subst (InSays seen new) (ap (λ k. fault_of k failed.bad) failed.channel ∙ sym failed.said) (cause_says old new _ _ failed.bad (kind_after old new fault failed fits) failed.turned.cause)
