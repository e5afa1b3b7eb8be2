-- A plain queue between two ends holds what the one pushed and the other has not popped.
use Rattle.std.specs.Prelude.{◌⊎◌, Result, Ok, Err}
use Rattle.std.proofs.Common.{inl, inr, ◌≡◌, ℕ, List, [], ◌∷◌, ◌++◌, length, ap, sym, refl, subst, append_assoc, ◌∙◌}
use Rattle.std.proofs.lemmas.List.{append-nil}
use Rattle.cs_base.specs.declared.port_kind.PortKind.{PortKind}
use Rattle.cs_base.specs.Wires.{InSeen}
use Rattle.sb_message.specs.declared.message.Msg.{Msg}
use Rattle.sb_frame.specs.Frames.AreFrames.{none_yet as no_frame}
use Rattle.sb_frame.specs.Deframing.{Deframing, Stands}
use Rattle.port_queue.specs.Plain.{Plain, Pushes, Refuses, StandsForSent, StandsForReceived}
use Rattle.port_queue.specs.Runs.{Ran}
use Rattle.port_queue.specs.Runs.Ran.{none_yet, and_does, and_fails}
use Rattle.tcp_proxy.specs.declared.hop.Hop.{Hop}
use Rattle.tcp_proxy.specs.declared.hop.ProxyBad.{ProxyBad}
use Rattle.tcp_proxy.specs.Turns.{Never}
use Rattle.tcp_proxy.specs.Sending.{IsFitOut}
use Rattle.tcp_proxy.specs.Receiving.{Incoming, Carries, TurnedIn}
use Rattle.tcp_proxy.specs.Filled.{IsFilled}

holds_more : (a b : Plain) (messages : List Msg) → Ran Pushes Never a messages b → b.held ≡ a.held ++ messages
holds_more a b messages none_yet = sym (append-nil a.held)
holds_more a b messages (and_does before c d m ran push) =
    ap (λ (q : Plain). q.held) push.is ∙ ap (λ l. l ++ m ∷ []) (holds_more a c before ran) ∙ append_assoc a.held before (m ∷ [])
holds_more a b messages (and_fails before c d ran never) = elim never [ ]

pub filled_on : {I : Type 0} (seen : I → InSeen) (old new : Incoming I) (far far' : Plain) (hop : Hop) → TurnedIn seen (λ (q : Plain). q.kind) StandsForSent Pushes Refuses old new far far' (Ok hop) → IsFilled old far → IsFilled new far'
filled_on seen old new far far' hop t filled = record {
  pushed = filled.pushed ++ t.messages;
  meets = t.on (λ e. cc) filled.pushed filled.meets;
  held = last ∙ holds_more far t.last t.messages t.pushed ∙ ap (λ l. l ++ t.messages) filled.held;
}
  where
    last : far'.held ≡ t.last.held
    last = elim t.refused [
      | inl same ↦ ap (λ (q : Plain). q.held) same
      | inr refuses ↦ ap (λ (q : Plain). q.held) refuses.unchanged
    ]

-- at first
pub filled_first : {I : Type 0} (p : Incoming I) (queue : Plain) → queue.held ≡ [] → p.kept ≡ [] → Carries p.frames p.held [] [] → queue.kind ≡ p.frames.place.kind → IsFilled p queue
filled_first p queue none kept carries kind = record {
  pushed = [];
  meets = record {
    carries = subst (λ l. Carries p.frames p.held l []) (sym kept) carries;
    port = record { received = []; both = record { held_between = none; is_sent = inl refl } };
    same_kind = kind;
  };
  held = none;
}

-- then a sending end may take all out
pub fit_out : {I : Type 0} (p : Incoming I) (queue : Plain) (kept : List ℕ) → kept ≡ [] → IsFilled p queue → IsFitOut (λ (q : Plain). q.kind) StandsForReceived kept queue
fit_out p queue kept none filled = subst (λ l. IsFitOut (λ (q : Plain). q.kind) StandsForReceived l queue) (sym none) (record {
  popped = [];
  keeps = record {
    frames = no_frame;
    port = record { sent = filled.pushed; both = record { held_between = filled.held; is_sent = filled.meets.port.both.is_sent } };
  };
})
