-- Messages that are popped and kept as frames, one after another.
use Rattle.std.specs.Prelude.{◌⊎◌, true, Option, Result, Ok, Err}
use Rattle.std.proofs.Common.{inl, inr, ◌≡◌, ℕ, ◌+◌, ◌<◌, ◌≤◌, List, [], ◌∷◌, ◌++◌, length, drop, ap, sym, refl, subst, arith, append_assoc, length-append, ◌∙◌}
use Rattle.std.proofs.lemmas.List.{append-nil}
use Rattle.std.specs.List.{AllByRecursion}
use Rattle.cs_base.specs.declared.port_kind.PortKind.{PortKind}
use Rattle.cs_base.specs.declared.no_memory.NoMemory.{NoMemory}
use Rattle.sb_message.specs.declared.message.Msg.{Msg}
use Rattle.sb_message.specs.Stream.{IsStream}
use Rattle.sb_message.specs.Receivable.{receivable}
use Rattle.sb_frame.specs.Frames.{AreFrames}
use Rattle.sb_frame.specs.Frames.AreFrames.{and_one}
use Rattle.sb_frame.specs.Framing.{AppendsFrame}
use Rattle.port_queue.specs.Runs.{Ran}
use Rattle.port_queue.specs.Runs.Ran.{none_yet, and_does, and_fails}
use Rattle.tcp_proxy.specs.Turns.{Never}
use Rattle.tcp_proxy.specs.Sending.{Keeps, Takes, TakesSo}

each_last : {A : Type 0} (P : A → Type 0) (xs : List A) (x : A) → AllByRecursion P (xs ++ x ∷ []) → P x
each_last P [] x all = all.0
each_last P (y ∷ xs) x all = each_last P xs x all.1

no_more : (xs : List Msg) (x : Msg) → xs ++ x ∷ [] ≡ [] → ⊥
no_more xs x e = let lengths : length (xs ++ x ∷ []) ≡ 0 = ap length e in absurd (omega (arith, length-append xs (x ∷ [])))

pub none_at : (xs : List Msg) → length xs ≡ 0 → xs ≡ []
none_at [] e = refl
none_at (x ∷ xs) e = absurd (omega arith)

-- where no try fails, a run of none changes nothing
pub ran_none : {P : Type 0} (does : P → Msg → P → Type 0) (a b : P) (messages : List Msg) → messages ≡ [] → Ran does Never a messages b → a ≡ b
ran_none does a b messages e none_yet = refl
ran_none does a b messages e (and_does before c d m ran is) = absurd (no_more before m e)
ran_none does a b messages e (and_fails before c d ran never) = elim never [ ]

-- so many messages were popped and kept
pub record IsTaking {R : Type 0} (kind : R → PortKind) (stands : R → List Msg → Type 0) (pops : R → Msg → R → Type 0) (kept : List ℕ) (near : R) (kept' : List ℕ) (near' : R) (n : ℕ) : Type 0 where
  pub messages : List Msg
  pub counted : length messages ≡ n
  pub frames : List ℕ
  pub popped : Ran pops Never near messages near'
  pub longer : kept' ≡ kept ++ frames
  pub on : (popped : List Msg) → Keeps kind stands kept near popped → Keeps kind stands kept' near' (popped ++ messages)

pub taking_first : {R : Type 0} (kind : R → PortKind) (stands : R → List Msg → Type 0) (pops : R → Msg → R → Type 0) (kept : List ℕ) (near : R) → IsTaking kind stands pops kept near kept near 0
taking_first kind stands pops kept near = record {
  messages = [];
  counted = refl;
  frames = [];
  popped = none_yet;
  longer = sym (append-nil kept);
  on = λ popped keeps. subst (Keeps kind stands kept near) (sym (append-nil popped)) keeps;
}

module _ {R : Type 0} (kind : R → PortKind) (stands : R → List Msg → Type 0) (pops : R → Msg → R → Type 0) (empties : R → R → Type 0)
    (pop_adds : (a b : R) (m : Msg) (received : List Msg) → pops a m b → stands a received → stands b (received ++ m ∷ []))
    (pop_streams : (a b : R) (m : Msg) (received : List Msg) → pops a m b → stands a received → IsStream (kind a) (received ++ m ∷ []))
    (pop_kind : (a b : R) (m : Msg) → pops a m b → kind b ≡ kind a)
    (empty_keeps : (a b : R) (received : List Msg) → empties a b → stands a received → stands b received)
    (empty_kind : (a b : R) → empties a b → kind b ≡ kind a) where
  keeps_more : (kept kept' : List ℕ) (near near' : R) (m : Msg) (popped : List Msg) → pops near m near' → AppendsFrame m kept kept' → Keeps kind stands kept near popped → Keeps kind stands kept' near' (popped ++ m ∷ [])
  keeps_more kept kept' near near' m popped pop framed keeps =
      let stream : IsStream (kind near) (popped ++ m ∷ []) = pop_streams near near' m popped pop keeps.port in
      let fits : receivable (kind near) m.body ≡ true = each_last (λ (x : Msg). receivable (kind near) x.body ≡ true) popped m stream.receivable in
      let longer : AreFrames (kind near) (popped ++ m ∷ []) (kept ++ framed.frame) = and_one popped kept m framed.frame keeps.frames (record { whole = framed.whole; spelled = record { receivable = fits; spelled = framed.spelled } }) in
      record {
        frames = subst (λ k. AreFrames k (popped ++ m ∷ []) kept') (sym (pop_kind near near' m pop)) (subst (AreFrames (kind near) (popped ++ m ∷ [])) (sym framed.appended) longer);
        port = pop_adds near near' m popped pop keeps.port;
      }

  pub taking_more : (kept mid mid' kept' : List ℕ) (near b c : R) (n : ℕ) (m : Msg) → IsTaking kind stands pops kept near mid b n → mid' ≡ mid → pops b m c → AppendsFrame m mid' kept' → IsTaking kind stands pops kept near kept' c (n + 1)
  taking_more kept mid mid' kept' near b c n m t same pop framed =
      let counted : length t.messages ≡ n = t.counted in
      record {
        messages = t.messages ++ m ∷ [];
        counted = length-append t.messages (m ∷ []) ∙ omega arith;
        frames = t.frames ++ framed.frame;
        popped = and_does t.messages b c m t.popped pop;
        longer = framed.appended ∙ ap (λ l. l ++ framed.frame) (same ∙ t.longer) ∙ append_assoc kept t.frames framed.frame;
        on = λ popped keeps. subst (Keeps kind stands kept' c) (append_assoc popped t.messages (m ∷ []))
            (keeps_more mid' kept' b c m (popped ++ t.messages) pop framed (subst (λ l. Keeps kind stands l b (popped ++ t.messages)) (sym same) (t.on popped keeps)));
      }

  abbrev takes_as_is : (kept kept' mid : List ℕ) (near b : R) (n : ℕ) → IsTaking kind stands pops kept near mid b n → kept' ≡ mid → Takes kind stands pops empties kept near kept' b
  takes_as_is kept kept' mid near b n t same = record {
    messages = t.messages;
    frames = t.frames;
    last = b;
    popped = t.popped;
    emptied = inl refl;
    longer = same ∙ t.longer;
    on = λ popped keeps. subst (λ l. Keeps kind stands l b (popped ++ t.messages)) (sym same) (t.on popped keeps);
  }

  pub takes_none : (kept kept' mid : List ℕ) (near b c : R) (n : ℕ) → IsTaking kind stands pops kept near mid b n → kept' ≡ mid → empties b c → TakesSo kind stands pops empties kept near kept' c (Ok n)
  takes_none kept kept' mid near b c n t same empty =
      let counted : length t.messages ≡ n = t.counted in
      record {
        takes = record {
          messages = t.messages;
          frames = t.frames;
          last = b;
          popped = t.popped;
          emptied = inr empty;
          longer = same ∙ t.longer;
          on = λ popped keeps.
              let k = t.on popped keeps in
              record {
                frames = subst (λ l. AreFrames l (popped ++ t.messages) kept') (sym (empty_kind b c empty)) (subst (AreFrames (kind b) (popped ++ t.messages)) (sym same) k.frames);
                port = empty_keeps b c (popped ++ t.messages) empty k.port;
              };
        };
        count = sym counted;
        none = λ zero. subst (λ x. empties x c) (sym (ran_none pops near b t.messages (none_at t.messages (counted ∙ zero)) t.popped)) empty;
      }

  pub takes_all : (kept kept' mid : List ℕ) (near b : R) (n k : ℕ) → IsTaking kind stands pops kept near mid b n → kept' ≡ mid → n ≡ k → 0 < k → TakesSo kind stands pops empties kept near kept' b (Ok k)
  takes_all kept kept' mid near b n k t same is some = record {
    takes = takes_as_is kept kept' mid near b n t same;
    count = sym (t.counted ∙ is);
    none = λ zero. absurd (omega arith);
  }

  pub takes_lacking : (kept kept' mid : List ℕ) (near b : R) (n : ℕ) (e : NoMemory) → IsTaking kind stands pops kept near mid b n → kept' ≡ mid → TakesSo kind stands pops empties kept near kept' b (Err e)
  takes_lacking kept kept' mid near b n e t same = record {
    takes = takes_as_is kept kept' mid near b n t same;
    count = tt;
    none = tt;
  }
