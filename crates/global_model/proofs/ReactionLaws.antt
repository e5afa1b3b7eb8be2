-- What a device does at one moment, in parts: message by message.
use Rattle.std.specs.Prelude.{ℕ, ◌≡◌, ◌==◌, ◌+◌, ◌≤◌, ◌<◌, ◌^◌, zero, suc, Bool, true, false, nat_le, if◌then◌else◌, List, [], ◌∷◌, ◌++◌, filter, Option, Some, None, All, refl}
use Rattle.std.proofs.lemmas.Bool.Decides.{nat_tests}
use Rattle.std.proofs.Common.{subst, sym, ap, ◌∙◌, append_assoc, append-nil, arith, cond}
use Rattle.std.proofs.lemmas.List.Elements.{All-nil, All-append}
use Rattle.sb_message.specs.declared.message.Body.{Body}
use Rattle.sb_message.specs.declared.message.Msg.{Msg}
use Rattle.sb_message.specs.Receivable.{MayReceive, MaySend}
use Rattle.device_api.specs.Behaviour.{Reaction, Behaviour, IsLawful, IsOrderly, IsNotPast, IsLater}
use Rattle.global_model.specs.Reactions.{IsTaking, IsMoment}
use Rattle.device_api.specs.World.{Arrival, followed_by, rest, take_all, is_at, arrivals_on, arrivals}

-- a reaction of which nothing more comes
pub followed_by-rest : {S : Type 0} (r : Reaction S) → followed_by r rest ≡ r
followed_by-rest r = ap (λ sends. record { state = r.state; sends = sends; lines = r.lines ++ [] }) (append-nil r.sends) ∙ ap (λ lines. record { state = r.state; sends = r.sends; lines = lines }) (append-nil r.lines)

pub followed_by_assoc : {S : Type 0} (r : Reaction S) (f g : S → Reaction S) → followed_by (followed_by r f) g ≡ followed_by r (λ s. followed_by (f s) g)
followed_by_assoc r f g =
    let s1 = (f r.state) in
    let s2 = (g s1.state) in
    ap (λ sends. record { state = s2.state; sends = sends; lines = (r.lines ++ s1.lines) ++ s2.lines }) (append_assoc r.sends s1.sends s2.sends) ∙ ap (λ lines. record { state = s2.state; sends = r.sends ++ (s1.sends ++ s2.sends); lines = lines }) (append_assoc r.lines s1.lines s2.lines)

-- first some arrivals are taken, and then the others
pub take_all-append : {S : Type 0} (b : Behaviour S) (t : ℕ) (xs ys : List Arrival) (s : S) → take_all b t (xs ++ ys) s ≡ followed_by (take_all b t xs s) (take_all b t ys)
unfolding take_all
take_all-append b t [] ys s = refl
take_all-append b t (x ∷ xs) ys s = ap (λ (next : Reaction _). followed_by (b.take s t x.port x.body) (λ _. next)) (take_all-append b t xs ys (b.take s t x.port x.body).state) ∙ sym (followed_by_assoc (b.take s t x.port x.body) (take_all b t xs) (take_all b t ys))

-- a device takes bodies that arrive on one port, in order
unfoldable pub take_bodies : {S : Type 0} → Behaviour S → ℕ → ℕ → List Body → S → Reaction S
take_bodies b t p [] s = rest s
take_bodies b t p (x ∷ more) s = followed_by (b.take s t p x) (take_bodies b t p more)

-- what a queue has for time t
abbrev pub bodies_at : ℕ → List Msg → List Body
bodies_at t [] = []
bodies_at t (m ∷ more) = if m.at == t then m.body ∷ bodies_at t more else bodies_at t more

-- the numbers of what arrives make no difference
pub take_on : {S : Type 0} (b : Behaviour S) (t p i : ℕ) (xs : List Msg) (s : S) → take_all b t (arrivals_on t p i xs) s ≡ take_bodies b t p (bodies_at t xs) s
unfolding take_all take_bodies arrivals_on
take_on b t p i [] s = refl
take_on {S} b t p i (m ∷ more) s = at (m.at == t) (take_on b t p (suc i) more)
  where
    at : (now : Bool) → ((s : S) → take_all b t (arrivals_on t p (suc i) more) s ≡ take_bodies b t p (bodies_at t more) s) → take_all b t (if now then record { port = p; number = i; body = m.body } ∷ arrivals_on t p (suc i) more else arrivals_on t p (suc i) more) s ≡ take_bodies b t p (if now then m.body ∷ bodies_at t more else bodies_at t more) s
    at true same = ap (λ (next : Reaction S). followed_by (b.take s t p m.body) (λ _. next)) (same (b.take s t p m.body).state)
    at false same = same s

not_yet : (t u x : ℕ) → u ≤ t → nat_le u x ≡ false → (x == t) ≡ false
not_yet t u x le is = grind (arith, nat_tests)

-- what comes before a time has no part in it
pub bodies_at-filter : (t u : ℕ) → u ≤ t → (xs : List Msg) → bodies_at t (filter (λ m. nat_le u m.at) xs) ≡ bodies_at t xs
bodies_at-filter t u le [] = refl
bodies_at-filter t u le (m ∷ more) = at (nat_le u m.at) refl (bodies_at-filter t u le more)
  where
    at : (late : Bool) → nat_le u m.at ≡ late → bodies_at t (filter (λ x. nat_le u x.at) more) ≡ bodies_at t more → bodies_at t (cond late (m ∷ filter (λ x. nat_le u x.at) more) (filter (λ x. nat_le u x.at) more)) ≡ bodies_at t (m ∷ more)
    at true is same = ap (λ xs. if m.at == t then m.body ∷ xs else xs) same
    at false is same = same ∙ sym (ap (λ now. if now then m.body ∷ bodies_at t more else bodies_at t more) (not_yet t u m.at le is))

-- where each port has the same for a time, the same is taken
pub take_ports : {S : Type 0} (b : Behaviour S) (t : ℕ) (f g : ℕ → List Msg) (n : ℕ) → ((p : ℕ) → p < n → bodies_at t (f p) ≡ bodies_at t (g p)) → (s : S) → take_all b t (arrivals t f n) s ≡ take_all b t (arrivals t g n) s
unfolding arrivals
take_ports b t f g zero same s = refl
take_ports {S} b t f g (suc n) same s =
    take_all-append b t (arrivals t f n) (arrivals_on t n 0 (f n)) s
    ∙ ap (λ (r : Reaction S). followed_by r (take_all b t (arrivals_on t n 0 (f n)))) (take_ports b t f g n (λ p lt. same p (omega arith)) s)
    ∙ ap (λ (next : Reaction S). followed_by (take_all b t (arrivals t g n) s) (λ _. next)) (on_port (take_all b t (arrivals t g n) s).state)
    ∙ sym (take_all-append b t (arrivals t g n) (arrivals_on t n 0 (g n)) s)
  where
    on_port : (s : S) → take_all b t (arrivals_on t n 0 (f n)) s ≡ take_all b t (arrivals_on t n 0 (g n)) s
    on_port s = take_on b t n 0 (f n) s ∙ ap (λ xs. take_bodies b t n xs s) (same n (omega arith)) ∙ sym (take_on b t n 0 (g n) s)

not_now : (t : ℕ) (due : Option ℕ) → IsNotPast t due → is_at due t ≡ false → IsLater t due
not_now t None not_past is = tt
not_now t (Some d) not_past is = grind (arith, nat_tests)

module _ {S : Type 0} {b : Behaviour S} {settled : S → ℕ → Type 0} (lawful : IsLawful b settled) where
  pub taking_starts : (s : S) (t : ℕ) → settled s (t + 1) → IsNotPast t (b.due s) → IsTaking b settled s t (rest s)
  taking_starts s t settled_then not_past = record { same_ports = refl; settled_after = settled_then; not_past = not_past; sendable = All-nil (λ (sent : ℕ × Body). MaySend (b.ports s) sent.0 sent.1) }

  pub taking_more : (s : S) (t : ℕ) (r : Reaction S) (p : ℕ) (x : Body) → t < 10 ^ 15 → MayReceive (b.ports s) p x → IsTaking b settled s t r → IsTaking b settled s t (followed_by r (λ s. b.take s t p x))
  taking_more s t r p x in_run may taking =
      let receives : MayReceive (b.ports r.state) p x = subst (λ ports. MayReceive ports p x) (sym taking.same_ports) may in
      let orderly : IsOrderly b settled r.state t (b.take r.state t p x) = (lawful.at r.state).take_orderly t p x receives taking.not_past in_run taking.settled_after in
      record {
        same_ports = orderly.same_ports ∙ taking.same_ports;
        settled_after = orderly.settled_after;
        not_past = (lawful.at r.state).due_after_take t p x receives taking.not_past in_run taking.settled_after;
        sendable = All-append (λ (sent : ℕ × Body). MaySend (b.ports s) sent.0 sent.1) r.sends (b.take r.state t p x).sends taking.sendable (subst (λ ports. All (λ (sent : ℕ × Body). MaySend ports sent.0 sent.1) (b.take r.state t p x).sends) taking.same_ports orderly.sendable);
      }

  pub ticked : (s : S) (t : ℕ) (r : Reaction S) → t < 10 ^ 15 → IsTaking b settled s t r → b.due r.state ≡ Some t → IsMoment b settled s t (followed_by r (λ s. b.tick s t))
  ticked s t r in_run taking due =
      let orderly : IsOrderly b settled r.state t (b.tick r.state t) = (lawful.at r.state).tick_orderly t due in_run taking.settled_after in
      record {
        same_ports = orderly.same_ports ∙ taking.same_ports;
        settled_after = orderly.settled_after;
        later = (lawful.at r.state).due_after_tick t due in_run taking.settled_after;
        sendable = All-append (λ (sent : ℕ × Body). MaySend (b.ports s) sent.0 sent.1) r.sends (b.tick r.state t).sends taking.sendable (subst (λ ports. All (λ (sent : ℕ × Body). MaySend ports sent.0 sent.1) (b.tick r.state t).sends) taking.same_ports orderly.sendable);
      }

  pub not_ticked : (s : S) (t : ℕ) (r : Reaction S) → IsTaking b settled s t r → is_at (b.due r.state) t ≡ false → IsMoment b settled s t r
  not_ticked s t r taking due = record { same_ports = taking.same_ports; settled_after = taking.settled_after; later = not_now t (b.due r.state) taking.not_past due; sendable = taking.sendable }
