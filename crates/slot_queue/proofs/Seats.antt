-- What the views of all seats say still fits after a step of one seat.
use Rattle.std.proofs.Common.{◌≡◌, ◌≢◌, ℕ, List, [], ◌∷◌, ◌++◌, length, set, ap, sym, refl, ◌∙◌, subst, inl, inr}
use Rattle.std.specs.Prelude.{Bool, false, Option, None}
use mathlib.Core.Bool.{true≢false}
use mathlib.Core.Option.{some}
use lib.ListN.{get_elem?}
use Rattle.atomic_table.proofs.Lists.{at_set, set_else, set_again}
use Rattle.cs_base.specs.declared.port_kind.PortKind.{PortKind}
use Rattle.sb_message.specs.declared.message.Msg.{Msg}
use Rattle.slot_queue.specs.declared.view.View.{View}
use Rattle.slot_queue.specs.Rule.{Lists, Fits}
use Rattle.slot_queue.specs.Views.{owning, producing, consuming, remembering, joined}
use Rattle.slot_queue.proofs.Places.{last_or_before}

-- all views fit
abbrev pub AllFit : PortKind → ℕ → ℕ → Lists → List View → Type 0
AllFit kind producer consumer lists views = (seat : ℕ) (view : View) → get_elem? views seat ≡ some view → Fits kind producer consumer lists seat view

pub after_sender : (kind : PortKind) (producer consumer : ℕ) (lists : Lists) (views : List View) (w : View) (sent : List Msg) (filling : Bool) → AllFit kind producer consumer lists views
    → Fits kind producer consumer (record lists { sent = sent; filling = filling }) producer w → (id : ℕ) → id ≡ producer
    → AllFit kind producer consumer (record lists { sent = sent; filling = filling }) (set views id w)
after_sender kind producer consumer lists views w sent filling old new id is seat view e =
    elim (at_set views id seat w view e) [
      | inl here ↦
          subst (λ v. Fits kind producer consumer (record lists { sent = sent; filling = filling }) seat v) here.1
          (subst (λ k. Fits kind producer consumer (record lists { sent = sent; filling = filling }) k w) (sym (here.0 ∙ is)) new)
      | inr there ↦ let f = old seat view there.1 in record { sender = λ s. absurd (there.0 ((f.sender s).0 ∙ sym is)); receiver = f.receiver }
    ]

pub after_receiver : (kind : PortKind) (producer consumer : ℕ) (lists : Lists) (views : List View) (w : View) (received : List Msg) (noted : Option Msg) → AllFit kind producer consumer lists views
    → Fits kind producer consumer (record lists { received = received; noted = noted }) consumer w → (id : ℕ) → id ≡ consumer
    → AllFit kind producer consumer (record lists { received = received; noted = noted }) (set views id w)
after_receiver kind producer consumer lists views w received noted old new id is seat view e =
    elim (at_set views id seat w view e) [
      | inl here ↦
          subst (λ v. Fits kind producer consumer (record lists { received = received; noted = noted }) seat v) here.1
          (subst (λ k. Fits kind producer consumer (record lists { received = received; noted = noted }) k w) (sym (here.0 ∙ is)) new)
      | inr there ↦ let f = old seat view there.1 in record { sender = f.sender; receiver = λ t. absurd (there.0 ((f.receiver t).0 ∙ sym is)) }
    ]

-- a seat with no role fits always
pub no_role : (kind : PortKind) (producer consumer : ℕ) (lists : Lists) (seat : ℕ) (view : View) → Fits kind producer consumer lists seat (remembering view)
no_role kind producer consumer lists seat view = record { sender = λ e. absurd (true≢false (sym e)); receiver = λ e. absurd (true≢false (sym e)) }

pub after_split : (kind : PortKind) (producer consumer : ℕ) (lists : Lists) (views : List View) (id : ℕ) (known : PortKind) (sent received : List Msg) (misses : ℕ) → AllFit kind producer consumer lists views
    → get_elem? views id ≡ some (owning known sent received misses)
    → AllFit kind id (length (set views id (producing known sent false 0))) lists (set views id (producing known sent false 0) ++ consuming known received None 0 ∷ [])
after_split kind producer consumer lists views id known sent received misses old at seat view e =
    let f = old id (owning known sent received misses) at in
    let s = f.sender refl in
    let r = f.receiver refl in
    elim (last_or_before (set views id (producing known sent false 0)) (consuming known received None 0) view seat e) [
      | inl before ↦ elim (at_set views id seat (producing known sent false 0) view before) [
        | inl here ↦
            subst (λ v. Fits kind id (length (set views id (producing known sent false 0))) lists seat v) here.1
            (record { sender = λ _. (here.0, s.1, s.2, s.3); receiver = λ t. absurd (true≢false (sym t)) })
        | inr there ↦ let g = old seat view there.1 in record {
          sender = λ t. absurd (there.0 ((g.sender t).0 ∙ sym s.0));
          receiver = λ t. absurd (there.0 ((g.receiver t).0 ∙ sym r.0));
        }
      ]
      | inr last ↦
          subst (λ v. Fits kind id (length (set views id (producing known sent false 0))) lists seat v) last.1
          (record { sender = λ t. absurd (true≢false (sym t)); receiver = λ _. (last.0, r.1, r.2, r.3) })
    ]

pub after_join : (kind : PortKind) (producer consumer : ℕ) (lists : Lists) (views : List View) (id other : ℕ) (k l : PortKind) (sent received : List Msg) (x y : ℕ) (left : View) → AllFit kind producer consumer lists views
    → get_elem? views id ≡ some (producing k sent false x) → other ≢ id
    → get_elem? (set views id (joined (producing k sent false x) (consuming l received None y))) other ≡ some (consuming l received None y)
    → AllFit kind id id lists (set (set views id (joined (producing k sent false x) (consuming l received None y))) other (remembering left))
after_join kind producer consumer lists views id other k l sent received x y left old at apart at_other seat view e =
    let both : View = joined (producing k sent false x) (consuming l received None y) in
    let s = (old id (producing k sent false x) at).sender refl in
    let r = (old other (consuming l received None y) (sym (set_else views id other both apart) ∙ at_other)).receiver refl in
    elim (at_set (set views id both) other seat (remembering left) view e) [
      | inl here ↦ subst (λ v. Fits kind id id lists seat v) here.1 (no_role kind id id lists seat left)
      | inr there ↦ elim (at_set views id seat both view there.1) [
        | inl here ↦ subst (λ v. Fits kind id id lists seat v) here.1 (record { sender = λ _. (here.0, s.1, s.2, s.3); receiver = λ _. (here.0, r.1, r.2, s.3) })
        | inr else ↦ let g = old seat view else.1 in record {
          sender = λ t. absurd (else.0 ((g.sender t).0 ∙ sym s.0));
          receiver = λ t. absurd (there.0 ((g.receiver t).0 ∙ sym r.0));
        }
      ]
    ]

pub after_memory : (kind : PortKind) (producer consumer : ℕ) (lists : Lists) (views : List View) (id : ℕ) (known : View) → AllFit kind producer consumer lists views
    → get_elem? views id ≡ some known → AllFit kind producer consumer lists (set views id known ++ remembering known ∷ [])
after_memory kind producer consumer lists views id known old at seat view e =
    elim (last_or_before (set views id known) (remembering known) view seat e) [
      | inl before ↦ old seat view (ap (λ l. get_elem? l seat) (sym (set_again views id known at)) ∙ before)
      | inr last ↦ subst (λ v. Fits kind producer consumer lists seat v) last.1 (no_role kind producer consumer lists seat known)
    ]
