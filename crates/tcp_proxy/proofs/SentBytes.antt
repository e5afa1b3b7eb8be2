-- What a turn of a sending end did, put together.
use Rattle.std.specs.Prelude.{◌⊎◌, Option, Some, None, option_map, IfSome, Result, Ok, Err}
use Rattle.std.proofs.Common.{inl, inr, ◌≡◌, ℕ, ◌+◌, ◌<◌, ◌≤◌, List, [], ◌∷◌, ◌++◌, length, take, drop, ap, sym, refl, subst, arith, ◌∙◌}
use Rattle.std.proofs.Math.Seq.{take-add}
use Rattle.std.proofs.lemmas.List.{append-nil, take-append-le}
use Rattle.cs_base.specs.declared.port_kind.PortKind.{PortKind}
use Rattle.cs_base.specs.declared.no_memory.NoMemory.{NoMemory}
use Rattle.cs_base.specs.declared.no_memory.Failed.{Failed}
use Rattle.cs_base.specs.Outside.{Rose}
use Rattle.cs_base.specs.Wires.{OutSeen}
use Rattle.sb_message.specs.declared.message.Msg.{Msg}
use Rattle.tcp_proxy.specs.declared.hop.Hop.{Hop}
use Rattle.tcp_proxy.specs.declared.hop.Hop.TheVariants.{Moved, Idle}
use Rattle.tcp_proxy.specs.declared.hop.ProxyBad.{ProxyBad}
use Rattle.tcp_proxy.specs.declared.hop.ProxyBad.TheVariants as bad
use Rattle.tcp_proxy.specs.Turns.{MovesBy}
use Rattle.tcp_proxy.specs.Sending.{Outgoing, Keeps, Takes, TakesSo, Sends, SendCause, OutCause, TurnedOut, IsToldOut}
use Rattle.tcp_proxy.specs.Sending.OutCause.{it_moved, it_idles, it_failed, it_lacks}

-- what no bytes add to what is told
pub told_same : (told : Option (List ℕ)) (rest : List ℕ) → told ≡ option_map (λ bytes. bytes ++ take 0 rest) told
told_same None rest = refl
told_same (Some bytes) rest = ap Some (sym (append-nil bytes))

pub sends_none : {O : Type 0} (seen : O → OutSeen) (old new : Outgoing O) → new.kept ≡ old.kept → new.gone ≡ old.gone → (seen new.wire).taken ≡ (seen old.wire).taken → Sends seen old new 0
sends_none seen old new kept gone same = record {
  kept = kept;
  gone = let g : new.gone ≡ old.gone = gone in omega arith;
  taken = same ∙ told_same (seen old.wire).taken (drop old.gone old.kept);
}

module _ {O R : Type 0} (seen : O → OutSeen) (kind : R → PortKind) (stands : R → List Msg → Type 0) (pops : R → Msg → R → Type 0) (empties : R → R → Type 0) where
  abbrev along : (kept mid new : List ℕ) (near near' : R) → new ≡ mid → Takes kind stands pops empties kept near mid near' → Takes kind stands pops empties kept near new near'
  along kept mid new near near' same t = record {
    messages = t.messages;
    frames = t.frames;
    last = t.last;
    popped = t.popped;
    emptied = t.emptied;
    longer = same ∙ t.longer;
    on = λ popped keeps. subst (λ l. Keeps kind stands l near' (popped ++ t.messages)) (sym same) (t.on popped keeps);
  }

  pub lacking : (old new : Outgoing O) (near near' : R) (e : NoMemory) → TakesSo kind stands pops empties old.kept near new.kept near' (Err e) → new.wire ≡ old.wire → new.gone ≡ old.gone → TurnedOut seen kind stands pops empties old new near near' (Err bad.NoMemory)
  lacking old new near near' e t wire gone = record {
    took = 0;
    takes = t.takes;
    gone = let g : new.gone ≡ old.gone = gone in omega arith;
    taken = ap (λ w. (seen w).taken) wire ∙ told_same (seen old.wire).taken (drop old.gone new.kept);
    cause = it_lacks;
  }

  pub lost : (old mid new : Outgoing O) (near near' : R) (n : ℕ) (f : Failed) → TakesSo kind stands pops empties old.kept near mid.kept near' (Ok n) → mid.wire ≡ old.wire → mid.gone ≡ old.gone → Sends seen mid new 0 → SendCause seen mid new (Err f) → TurnedOut seen kind stands pops empties old new near near' (Err bad.Lost)
  lost old mid new near near' n f t wire gone sends rose = record {
    took = 0;
    takes = along old.kept mid.kept new.kept near near' sends.kept t.takes;
    gone = let g : mid.gone ≡ old.gone = gone in let h : new.gone ≡ mid.gone + 0 = sends.gone in omega arith;
    taken = sends.taken ∙ ap (λ w. option_map (λ bytes. bytes ++ []) (seen w).taken) wire;
    cause = it_failed (subst (λ w. Rose (seen w).faults (seen new.wire).faults) wire rose);
  }

  cause_of : (old new : Outgoing O) (near near' : R) (n k : ℕ) (hop : Hop) → (n ≡ 0 → empties near near') → (k ≡ 0 → (new.gone ≡ length new.kept) ⊎ Rose (seen old.wire).idles (seen new.wire).idles) → MovesBy hop n k → OutCause seen empties old new near near' n k (Ok hop)
  cause_of old new near near' n k Moved none cause moves = it_moved moves
  cause_of old new near near' n k Idle none cause moves = it_idles moves.0 moves.1 (none moves.0) (cause moves.1)

  waits_none : (mid new : Outgoing O) (k : ℕ) → Sends seen mid new k → k ≡ 0 → mid.gone ≡ length mid.kept → new.gone ≡ length new.kept
  waits_none mid new k sends zero all =
      let g : new.gone ≡ mid.gone + k = sends.gone in
      let l : length new.kept ≡ length mid.kept = ap length sends.kept in
      omega arith

  pub turned : (old mid new : Outgoing O) (near near' : R) (n k : ℕ) (hop : Hop) → TakesSo kind stands pops empties old.kept near mid.kept near' (Ok n) → mid.wire ≡ old.wire → mid.gone ≡ old.gone → Sends seen mid new k → SendCause seen mid new (Ok k) → MovesBy hop n k → TurnedOut seen kind stands pops empties old new near near' (Ok hop)
  turned old mid new near near' n k hop t wire gone sends cause moves =
      let rest : drop mid.gone mid.kept ≡ drop old.gone new.kept = ap (λ g. drop g mid.kept) gone ∙ ap (drop old.gone) (sym sends.kept) in
      record {
        took = k;
        takes = along old.kept mid.kept new.kept near near' sends.kept t.takes;
        gone = let g : mid.gone ≡ old.gone = gone in let h : new.gone ≡ mid.gone + k = sends.gone in omega arith;
        taken = sends.taken ∙ ap (λ l. option_map (λ bytes. bytes ++ take k l) (seen mid.wire).taken) rest ∙ ap (λ w. option_map (λ bytes. bytes ++ take k (drop old.gone new.kept)) (seen w).taken) wire;
        cause = subst (λ m. OutCause seen empties old new near near' m k (Ok hop)) t.count
            (cause_of old new near near' n k hop t.none
            (λ zero. elim (cause zero) [
              | inl all ↦ inl (waits_none mid new k sends zero all)
              | inr rose ↦ inr (subst (λ w. Rose (seen w).idles (seen new.wire).idles) wire rose)
            ]) moves);
      }

told_more : (o o' : Option (List ℕ)) (g k gone : ℕ) (kept frames kept' : List ℕ) → o' ≡ option_map (λ bytes. bytes ++ take k (drop g kept')) o → kept' ≡ kept ++ frames → gone ≡ g + k → g ≤ length kept → IfSome o (λ bytes. bytes ≡ take g kept) → IfSome o' (λ bytes. bytes ≡ take gone kept')
told_more None o' g k gone kept frames kept' is longer sum fits told = subst (λ x. IfSome x (λ bytes. bytes ≡ take gone kept')) (sym is) tt
told_more (Some b) o' g k gone kept frames kept' is longer sum fits told =
    let front : take g kept ≡ take g kept' = sym (ap (take g) longer ∙ take-append-le g kept frames fits) in
    subst (λ x. IfSome x (λ bytes. bytes ≡ take gone kept')) (sym is)
    (ap (λ l. l ++ take k (drop g kept')) (told ∙ front) ∙ sym (take-add g k kept') ∙ ap (λ n. take n kept') (sym sum))

pub told_on : {O R : Type 0} (seen : O → OutSeen) (kind : R → PortKind) (stands : R → List Msg → Type 0) (pops : R → Msg → R → Type 0) (empties : R → R → Type 0) (old new : Outgoing O) (near near' : R) (r : Result Hop ProxyBad) → TurnedOut seen kind stands pops empties old new near near' r → old.gone ≤ length old.kept → IsToldOut seen old → IsToldOut seen new
told_on seen kind stands pops empties old new near near' r t fits told = told_more (seen old.wire).taken (seen new.wire).taken old.gone t.took new.gone old.kept t.takes.frames new.kept t.taken t.takes.longer t.gone fits told
