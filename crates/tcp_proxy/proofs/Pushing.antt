-- Messages that are handed out and pushed, one after another.
use Rattle.std.specs.Prelude.{◌⊎◌, Option, Some, None, IfSome, MatchOption}
use Rattle.std.specs.Option.{option_to_list}
use Rattle.std.proofs.Common.{inl, inr, ◌≡◌, ℕ, ◌+◌, ◌<◌, ◌≤◌, List, [], ◌∷◌, ◌++◌, length, ap, sym, refl, subst, arith, append_assoc, length-append, ◌∙◌}
use Rattle.std.proofs.lemmas.List.{append-nil}
use Rattle.cs_base.specs.declared.port_kind.PortKind.{PortKind}
use Rattle.sb_message.specs.declared.message.Msg.{Msg}
use Rattle.sb_message.specs.Stream.{IsStream}
use Rattle.sb_frame.specs.Faults.{KeepsRule}
use Rattle.sb_frame.specs.Deframing.{Deframing, Stands, NextIs}
use Rattle.port_queue.specs.Port.{IsNextSent}
use Rattle.port_queue.specs.Runs.{Ran}
use Rattle.port_queue.specs.Runs.Ran.{none_yet, and_does}
use Rattle.port_queue.specs.Streams.{stream_so_far}
use Rattle.tcp_proxy.specs.Turns.{Never}
use Rattle.tcp_proxy.specs.Receiving.{Carries, Meets, Gives, IsPushedOut, IsNextOut}
use Rattle.tcp_proxy.proofs.Popping.{ran_none, none_at}

-- ---- what is handed out

pub next_held : (frames : Deframing) (held held' : Option Msg) (m : Msg) → held ≡ Some m → held' ≡ None → IsNextOut frames held m frames held'
next_held frames held held' m is none = record {
  none_held = none;
  kind = refl;
  stands = λ stream pushed carries. subst (λ (o : Option Msg). Stands frames stream (pushed ++ option_to_list o)) is carries;
}

pub next_from : (r : Option Msg) (a b : Deframing) (held held' : Option Msg) → held ≡ None → held' ≡ None → MatchOption r ((a.place.waiting ≡ []) × (b ≡ a)) (λ m. NextIs a m b) → ((stream : List ℕ) (given : List Msg) → Stands a stream given → IfSome r (λ m. Stands b stream (given ++ m ∷ []))) → MatchOption r (IsPushedOut a held × (b ≡ a) × (held' ≡ held)) (λ m. IsNextOut a held m b held')
next_from None a b held held' none none' taken stands = (record { none_held = none; none_waits = taken.0 }, taken.1, none' ∙ sym none)
next_from (Some m) a b held held' none none' taken stands = record {
  none_held = none';
  kind = sym (ap (λ (d : Deframing). d.place.kind) taken);
  stands = λ stream pushed carries. stands stream pushed (subst (Stands a stream) (append-nil pushed) (subst (λ (o : Option Msg). Stands a stream (pushed ++ option_to_list o)) none carries));
}

not_empty : (xs ys : List Msg) (m : Msg) → (xs ++ m ∷ []) ++ ys ≡ [] → ⊥
not_empty xs ys m e = let lengths : length ((xs ++ m ∷ []) ++ ys) ≡ 0 = ap length e in absurd (omega (arith, length-append (xs ++ m ∷ []) ys, length-append xs (m ∷ [])))

rule_streams : (kind : PortKind) (xs ys : List Msg) (m : Msg) (last : Option ℕ) → KeepsRule kind ((xs ++ m ∷ []) ++ ys) last → IsStream kind (xs ++ m ∷ [])
rule_streams kind xs ys m None none = absurd (not_empty xs ys m none)
rule_streams kind xs ys m (Some at) ends = stream_so_far kind xs m ys ends.stream

-- what a deframer gave last goes on a stream
given_streams : (d : Deframing) (stream : List ℕ) (xs : List Msg) (m : Msg) → Stands d stream (xs ++ m ∷ []) → IsStream d.place.kind (xs ++ m ∷ [])
given_streams d stream xs m s = rule_streams d.place.kind xs d.place.waiting m d.place.last s.reached.rule

-- ---- what is pushed

pub record IsGiving {T : Type 0} (kind : T → PortKind) (stands : T → List Msg → Type 0) (pushes : T → Msg → T → Type 0) (frames : Deframing) (held : Option Msg) (far : T) (frames' : Deframing) (held' : Option Msg) (far' : T) (n : ℕ) : Type 0 where
  pub messages : List Msg
  pub counted : length messages ≡ n
  pub pushed : Ran pushes Never far messages far'
  pub start : n ≡ 0 → (frames' ≡ frames) × (held' ≡ held)
  pub same_kind : frames'.place.kind ≡ frames.place.kind
  pub on : (stream : List ℕ) (pushed : List Msg) → Meets kind stands frames held stream far pushed → Meets kind stands frames' held' stream far' (pushed ++ messages)

pub giving_first : {T : Type 0} (kind : T → PortKind) (stands : T → List Msg → Type 0) (pushes : T → Msg → T → Type 0) (frames : Deframing) (held : Option Msg) (far : T) → IsGiving kind stands pushes frames held far frames held far 0
giving_first kind stands pushes frames held far = record {
  messages = [];
  counted = refl;
  pushed = none_yet;
  start = λ zero. (refl, refl);
  same_kind = refl;
  on = λ stream pushed meets. subst (Meets kind stands frames held stream far) (sym (append-nil pushed)) meets;
}

module _ {T : Type 0} (kind : T → PortKind) (stands : T → List Msg → Type 0) (pushes : T → Msg → T → Type 0) (refuses : T → T → Type 0)
    (push_adds : (a b : T) (m : Msg) (sent : List Msg) → pushes a m b → stands a sent → IsStream (kind a) (sent ++ m ∷ []) → stands b (sent ++ m ∷ []))
    (push_kind : (a b : T) (m : Msg) → pushes a m b → kind b ≡ kind a)
    (refusal_keeps : (a b : T) (sent : List Msg) → refuses a b → stands a sent → stands b sent)
    (refusal_kind : (a b : T) → refuses a b → kind b ≡ kind a) where
  streams_on : (frames frames' : Deframing) (held held' : Option Msg) (stream : List ℕ) (far : T) (pushed : List Msg) (m : Msg) → Meets kind stands frames held stream far pushed → IsNextOut frames held m frames' held' → IsStream (kind far) (pushed ++ m ∷ [])
  streams_on frames frames' held held' stream far pushed m meets next =
      subst (λ k. IsStream k (pushed ++ m ∷ [])) (next.kind ∙ sym meets.same_kind) (given_streams frames' stream pushed m (next.stands stream pushed meets.carries))

  pub next_sent : (frames frames' : Deframing) (held held' : Option Msg) (stream : List ℕ) (far : T) (pushed : List Msg) (m : Msg) → Meets kind stands frames held stream far pushed → IsNextOut frames held m frames' held' → IsNextSent (kind far) (stands far) m
  next_sent frames frames' held held' stream far pushed m meets next = record {
    sent = pushed;
    is_sent = meets.port;
    streams = streams_on frames frames' held held' stream far pushed m meets next;
  }

  meets_more : (frames frames' : Deframing) (held held' : Option Msg) (stream : List ℕ) (far far' : T) (pushed : List Msg) (m : Msg) → Meets kind stands frames held stream far pushed → IsNextOut frames held m frames' held' → pushes far m far' → Meets kind stands frames' held' stream far' (pushed ++ m ∷ [])
  meets_more frames frames' held held' stream far far' pushed m meets next push = record {
    carries = subst (λ (o : Option Msg). Stands frames' stream ((pushed ++ m ∷ []) ++ option_to_list o)) (sym next.none_held)
        (subst (Stands frames' stream) (sym (append-nil (pushed ++ m ∷ []))) (next.stands stream pushed meets.carries));
    port = push_adds far far' m pushed push meets.port (streams_on frames frames' held held' stream far pushed m meets next);
    same_kind = push_kind far far' m push ∙ meets.same_kind ∙ sym next.kind;
  }

  pub giving_more : (frames f g : Deframing) (held h i : Option Msg) (far b c : T) (n : ℕ) (m : Msg) → IsGiving kind stands pushes frames held far f h b n → IsNextOut f h m g i → pushes b m c → IsGiving kind stands pushes frames held far g i c (n + 1)
  giving_more frames f g held h i far b c n m giving next push =
      let counted : length giving.messages ≡ n = giving.counted in
      record {
        messages = giving.messages ++ m ∷ [];
        counted = length-append giving.messages (m ∷ []) ∙ omega arith;
        pushed = and_does giving.messages b c m giving.pushed push;
        start = λ zero. absurd (omega arith);
        same_kind = next.kind ∙ giving.same_kind;
        on = λ stream pushed meets. subst (Meets kind stands g i stream c) (append_assoc pushed giving.messages (m ∷ []))
            (meets_more f g h i stream b c (pushed ++ giving.messages) m (giving.on stream pushed meets) next push);
      }

  same_far : (far b : T) (messages : List Msg) (n : ℕ) → length messages ≡ n → n ≡ 0 → Ran pushes Never far messages b → far ≡ b
  same_far far b messages n counted zero ran = ran_none pushes far b messages (none_at messages (counted ∙ zero)) ran

  pub gives_refused : (frames f g : Deframing) (held h i j : Option Msg) (far b c : T) (n : ℕ) (m : Msg) → IsGiving kind stands pushes frames held far f h b n → IsNextOut f h m g i → refuses b c → j ≡ Some m → Gives kind stands pushes refuses frames held far g j c n
  gives_refused frames f g held h i j far b c n m giving next refused back = record {
    messages = giving.messages;
    count = sym giving.counted;
    last = b;
    pushed = giving.pushed;
    refused = inr refused;
    none = λ zero. inr (subst (λ x. refuses x c) (sym (same_far far b giving.messages n giving.counted zero giving.pushed)) refused);
    same_kind = next.kind ∙ giving.same_kind;
    on = λ stream pushed meets.
        let k = giving.on stream pushed meets in
        record {
          carries = subst (λ (o : Option Msg). Stands g stream ((pushed ++ giving.messages) ++ option_to_list o)) (sym back) (next.stands stream (pushed ++ giving.messages) k.carries);
          port = refusal_keeps b c (pushed ++ giving.messages) refused k.port;
          same_kind = refusal_kind b c refused ∙ k.same_kind ∙ sym next.kind;
        };
  }

  pub gives_none : (frames f g : Deframing) (held h i : Option Msg) (far b : T) (n : ℕ) → IsGiving kind stands pushes frames held far f h b n → IsPushedOut f h → g ≡ f → i ≡ h → Gives kind stands pushes refuses frames held far g i b n
  gives_none frames f g held h i far b n giving out same also = record {
    messages = giving.messages;
    count = sym giving.counted;
    last = b;
    pushed = giving.pushed;
    refused = inl refl;
    none = λ zero. let s = giving.start zero in inl (record { none_held = sym s.1 ∙ out.none_held; none_waits = ap (λ (d : Deframing). d.place.waiting) (sym s.0) ∙ out.none_waits });
    same_kind = ap (λ (d : Deframing). d.place.kind) same ∙ giving.same_kind;
    on = λ stream pushed meets. subst (λ (o : Option Msg). Meets kind stands g o stream b (pushed ++ giving.messages)) (sym also) (subst (λ (d : Deframing). Meets kind stands d h stream b (pushed ++ giving.messages)) (sym same) (giving.on stream pushed meets));
  }

  pub gives_all : (frames f : Deframing) (held h : Option Msg) (far b : T) (n k : ℕ) → IsGiving kind stands pushes frames held far f h b n → n ≡ k → 0 < k → Gives kind stands pushes refuses frames held far f h b k
  gives_all frames f held h far b n k giving is some = record {
    messages = giving.messages;
    count = sym (giving.counted ∙ is);
    last = b;
    pushed = giving.pushed;
    refused = inl refl;
    none = λ zero. absurd (omega arith);
    same_kind = giving.same_kind;
    on = giving.on;
  }
