-- What is to be done between the ends of channels, of which one changes.
use Rattle.std.proofs.Common.{◌≡◌, ℕ, zero, suc, ◌+◌, ◌-◌, ◌≤◌, List, [], ◌∷◌, ◌++◌, length, Option, Some, None, refl, sym, ap, ap₂, ◌∙◌, arith}
use Rattle.std.specs.Prelude.{slice_get, slice_set}
use Rattle.std.proofs.lemmas.Option.{none-some, same_Some}
use Rattle.cs_base.specs.Plan.{End}
use Rattle.sb_message.specs.declared.message.Msg.{Msg}
use Rattle.device_api.specs.Channels.{Channel, channels}
use Rattle.device_api.specs.GlobalCounts.{messages_of}
use Rattle.device_api.specs.World.{Network}
use Rattle.run_laws.specs.LocalRuns.{IsPrefix}
use Rattle.run_laws.proofs.Lists.{slice_get-set_same, slice_get-set_other}
use Rattle.sync_laws.specs.ToCome.{total}
use Rattle.sync_laws.proofs.Totals.{total_same}
use Rattle.mesh_channel.specs.declared.carrier.Carrier.{Carrier}
use Rattle.mesh_channel.specs.declared.carrier.Carrier.TheVariants.{Direct, Framed}
use Rattle.mesh_channel.specs.Carrier.{Pushes, Pops, Takes, Moves, Puts}
use Rattle.mesh_channel.specs.Left.{work_of, left_between}
use Rattle.mesh_core.specs.ToCome.{work_on, work_to_come}

-- ---- sums

by_here : (a a' b b' n : ℕ) → a ≡ a' + n → b ≡ b' → a + b ≡ (a' + b') + n
by_here a a' b b' n first others = omega arith

by_later : (a a' b b' n : ℕ) → a ≡ a' → b ≡ b' + n → a + b ≡ (a' + b') + n
by_later a a' b b' n first others = omega arith

-- one element is less by a number, and the others are the same
pub total_by : {X : Type 0} (n : ℕ) (f g : ℕ → X → ℕ) (xs : List X) (k : ℕ) (x : X) → slice_get xs k ≡ Some x → f k x ≡ g k x + n → ((i : ℕ) (y : X) → (i ≡ k → ⊥) → slice_get xs i ≡ Some y → f i y ≡ g i y) → total f xs ≡ total g xs + n
unfolding total
total_by n f g [] k x is less others = absurd (none-some x is)
total_by {X} n f g (z ∷ xs) zero x is less others = by_here (f 0 z) (g 0 z) (total (λ i. f (suc i)) xs) (total (λ i. g (suc i)) xs) n here rest
  where
    same : z ≡ x
    same = same_Some z x is

    here : f 0 z ≡ g 0 z + n
    here = ap (f 0) same ∙ less ∙ ap (λ y. g 0 y + n) (sym same)

    rest : total (λ i. f (suc i)) xs ≡ total (λ i. g (suc i)) xs
    rest = total_same (λ i. f (suc i)) (λ i. g (suc i)) xs (λ i y there. others (suc i) y (λ zero_is. absurd (let no : suc i ≡ 0 = zero_is in omega arith)) there)
total_by {X} n f g (z ∷ xs) (suc k) x is less others = by_later (f 0 z) (g 0 z) (total (λ i. f (suc i)) xs) (total (λ i. g (suc i)) xs) n (others 0 z (λ no. absurd (let e : 0 ≡ suc k = no in omega arith)) refl) (total_by n (λ i. f (suc i)) (λ i. g (suc i)) xs k x is less (λ i y differ there. others (suc i) y (λ same. differ (let e : suc i ≡ suc k = same in omega arith)) there))

-- ---- the work with one message more

work_append : (carrier : Carrier) (xs : List Msg) (m : Msg) → work_on carrier (xs ++ m ∷ []) ≡ work_on carrier xs + work_of carrier m
work_append carrier [] m = omega arith
work_append carrier (x ∷ xs) m = (let more : work_on carrier (xs ++ m ∷ []) ≡ work_on carrier xs + work_of carrier m = work_append carrier xs m in omega arith)

work_both : (carrier : Carrier) (xs ys : List Msg) → work_on carrier (xs ++ ys) ≡ work_on carrier xs + work_on carrier ys
work_both carrier [] ys = omega arith
work_both carrier (x ∷ xs) ys = (let more : work_on carrier (xs ++ ys) ≡ work_on carrier xs + work_on carrier ys = work_both carrier xs ys in omega arith)

pub work_most : (carrier : Carrier) (xs ys : List Msg) → IsPrefix xs ys → work_on carrier xs ≤ work_on carrier ys
work_most carrier xs ys p = (let whole : work_on carrier ys ≡ work_on carrier xs + work_on carrier p.rest = ap (work_on carrier) p.whole_is ∙ work_both carrier xs p.rest in omega arith)

-- two carriers of one way to go
abbrev pub AreAlike : Carrier → Carrier → Type 0
AreAlike a b = (m : Msg) → work_of b m ≡ work_of a m

work_alike : (a b : Carrier) → AreAlike a b → (xs : List Msg) → work_on b xs ≡ work_on a xs
work_alike a b alike [] = refl
work_alike a b alike (x ∷ xs) = ap₂ ◌+◌ (alike x) (work_alike a b alike xs)

pub push_alike : (a b : Carrier) (m : Msg) → Pushes a m b → AreAlike a b
push_alike (Direct a) (Direct b) m pushes x = refl
push_alike (Direct a) (Framed b) m pushes x = absurd pushes
push_alike (Framed a) (Direct b) m pushes x = absurd pushes
push_alike (Framed a) (Framed b) m pushes x = refl

pub pop_alike : (a b : Carrier) (m : Msg) → Pops a m b → AreAlike a b
pop_alike (Direct a) (Direct b) m pops x = refl
pop_alike (Direct a) (Framed b) m pops x = absurd pops
pop_alike (Framed a) (Direct b) m pops x = absurd pops
pop_alike (Framed a) (Framed b) m pops x = refl

pub take_alike : (a b : Carrier) → Takes a b → AreAlike a b
take_alike (Direct a) b takes x = absurd takes
take_alike (Framed a) (Direct b) takes x = absurd takes
take_alike (Framed a) (Framed b) takes x = refl

pub move_alike : (a b : Carrier) (n : ℕ) → Moves n a b → AreAlike a b
move_alike (Direct a) b n moves x = absurd moves
move_alike (Framed a) (Direct b) n moves x = absurd moves
move_alike (Framed a) (Framed b) n moves x = refl

pub put_alike : (a b : Carrier) → Puts a b → AreAlike a b
put_alike (Direct a) b puts x = absurd puts
put_alike (Framed a) (Direct b) puts x = absurd puts
put_alike (Framed a) (Framed b) puts x = refl

-- ---- at the channel that changes

-- a message is sent: less is to be sent, and more is between the ends
pub sent_work : (a b : Carrier) (m : Msg) (whole sent held : List Msg) → AreAlike a b → IsPrefix (sent ++ m ∷ []) whole → left_between b (held ++ m ∷ []) ≡ left_between a held + work_of a m → work_to_come (Some a) whole sent held ≡ work_to_come (Some b) whole (sent ++ m ∷ []) (held ++ m ∷ []) + 0
sent_work a b m whole sent held alike prefix rises =
    let all : work_on b whole ≡ work_on a whole = work_alike a b alike whole in
    let longer : work_on b (sent ++ m ∷ []) ≡ work_on a (sent ++ m ∷ []) = work_alike a b alike (sent ++ m ∷ []) in
    let more : work_on a (sent ++ m ∷ []) ≡ work_on a sent + work_of a m = work_append a sent m in
    let most : work_on a (sent ++ m ∷ []) ≤ work_on a whole = work_most a (sent ++ m ∷ []) whole prefix in
    omega arith

-- what is between the ends falls by a number, and no message is sent
pub between_work : (a b : Carrier) (n : ℕ) (whole sent held held' : List Msg) → AreAlike a b → left_between a held ≡ left_between b held' + n → work_to_come (Some a) whole sent held ≡ work_to_come (Some b) whole sent held' + n
between_work a b n whole sent held held' alike falls =
    let all : work_on b whole ≡ work_on a whole = work_alike a b alike whole in
    let before : work_on b sent ≡ work_on a sent = work_alike a b alike sent in
    omega arith

-- ---- of all channels

abbrev pub work_at : {V : Type 0} → Network V → ℕ → List Carrier → (End → List Msg) → (End → List Msg) → ℕ → Channel → ℕ
work_at net end carriers sent held k ch = work_to_come (slice_get carriers k) (messages_of net end ch) (sent ch.from) (held ch.from)

-- one channel's carrier and lists change, so that its work falls by a number
pub work_falls : {V : Type 0} (net : Network V) (end : ℕ) (carriers : List Carrier) (sent held sent' held' : End → List Msg) (k : ℕ) (ch : Channel) → slice_get (channels net.links) k ≡ Some ch → (a b : Carrier) → slice_get carriers k ≡ Some a → (n : ℕ)
    → work_to_come (Some a) (messages_of net end ch) (sent ch.from) (held ch.from) ≡ work_to_come (Some b) (messages_of net end ch) (sent' ch.from) (held' ch.from) + n
    → ((i : ℕ) (other : Channel) → (i ≡ k → ⊥) → slice_get (channels net.links) i ≡ Some other → sent' other.from ≡ sent other.from)
    → ((i : ℕ) (other : Channel) → (i ≡ k → ⊥) → slice_get (channels net.links) i ≡ Some other → held' other.from ≡ held other.from)
    → total (work_at net end carriers sent held) (channels net.links) ≡ total (work_at net end (slice_set carriers k b) sent' held') (channels net.links) + n
work_falls {V} net end carriers sent held sent' held' k ch is a b there n here same_sent same_held =
    total_by n (work_at net end carriers sent held) (work_at net end (slice_set carriers k b) sent' held') (channels net.links) k ch is at_k others
  where
    at_k : work_at net end carriers sent held k ch ≡ work_at net end (slice_set carriers k b) sent' held' k ch + n
    at_k = ap (λ o. work_to_come o (messages_of net end ch) (sent ch.from) (held ch.from)) there ∙ here ∙ ap (λ o. work_to_come o (messages_of net end ch) (sent' ch.from) (held' ch.from) + n) (sym (slice_get-set_same carriers k a b there))

    others : (i : ℕ) (other : Channel) → (i ≡ k → ⊥) → slice_get (channels net.links) i ≡ Some other → work_at net end carriers sent held i other ≡ work_at net end (slice_set carriers k b) sent' held' i other
    others i other differ other_is = ap (λ o. work_to_come o (messages_of net end other) (sent other.from) (held other.from)) (sym (slice_get-set_other carriers k i b (λ same. differ (sym same)))) ∙ ap₂ (work_to_come (slice_get (slice_set carriers k b) i) (messages_of net end other)) (sym (same_sent i other differ other_is)) (sym (same_held i other differ other_is))

-- ---- weights for the messages that are to be sent

pub by_weight : (ℕ → Msg → ℕ) → ℕ → List Msg → ℕ
by_weight w k [] = 0
by_weight w k (m ∷ more) = w k m + by_weight w k more

weight_append : (w : ℕ → Msg → ℕ) (k : ℕ) (xs : List Msg) (m : Msg) → by_weight w k (xs ++ m ∷ []) ≡ by_weight w k xs + w k m
unfolding by_weight
weight_append w k [] m = omega arith
weight_append w k (x ∷ xs) m = (let more : by_weight w k (xs ++ m ∷ []) ≡ by_weight w k xs + w k m = weight_append w k xs m in omega arith)

weight_both : (w : ℕ → Msg → ℕ) (k : ℕ) (xs ys : List Msg) → by_weight w k (xs ++ ys) ≡ by_weight w k xs + by_weight w k ys
unfolding by_weight
weight_both w k [] ys = omega arith
weight_both w k (x ∷ xs) ys = (let more : by_weight w k (xs ++ ys) ≡ by_weight w k xs + by_weight w k ys = weight_both w k xs ys in omega arith)

abbrev pub weights_at : {V : Type 0} → Network V → ℕ → (ℕ → Msg → ℕ) → (End → List Msg) → ℕ → Channel → ℕ
weights_at net end w sent k ch = by_weight w k (messages_of net end ch) - by_weight w k (sent ch.from)

-- one message more is sent on a channel
pub weights_fall : {V : Type 0} (net : Network V) (end : ℕ) (w : ℕ → Msg → ℕ) (sent sent' : End → List Msg) (k : ℕ) (ch : Channel) → slice_get (channels net.links) k ≡ Some ch → (m : Msg) → sent' ch.from ≡ sent ch.from ++ m ∷ [] → IsPrefix (sent ch.from ++ m ∷ []) (messages_of net end ch)
    → ((i : ℕ) (other : Channel) → (i ≡ k → ⊥) → slice_get (channels net.links) i ≡ Some other → sent' other.from ≡ sent other.from)
    → total (weights_at net end w sent) (channels net.links) ≡ total (weights_at net end w sent') (channels net.links) + w k m
weights_fall {V} net end w sent sent' k ch is m sent_is prefix same_sent =
    total_by (w k m) (weights_at net end w sent) (weights_at net end w sent') (channels net.links) k ch is here (λ i other differ other_is. ap (λ l. by_weight w i (messages_of net end other) - by_weight w i l) (sym (same_sent i other differ other_is)))
  where
    here : weights_at net end w sent k ch ≡ weights_at net end w sent' k ch + w k m
    here =
        let longer : by_weight w k (sent' ch.from) ≡ by_weight w k (sent ch.from) + w k m = ap (by_weight w k) sent_is ∙ weight_append w k (sent ch.from) m in
        let all : by_weight w k (messages_of net end ch) ≡ by_weight w k (sent ch.from ++ m ∷ []) + by_weight w k prefix.rest = ap (by_weight w k) prefix.whole_is ∙ weight_both w k (sent ch.from ++ m ∷ []) prefix.rest in
        let more : by_weight w k (sent ch.from ++ m ∷ []) ≡ by_weight w k (sent ch.from) + w k m = weight_append w k (sent ch.from) m in
        omega arith

-- ---- sums of two lists, and of two numbers

pub total_alike : {X Y : Type 0} (f : ℕ → X → ℕ) (g : ℕ → Y → ℕ) (xs : List X) (ys : List Y) → length xs ≡ length ys → ((i : ℕ) (x : X) (y : Y) → slice_get xs i ≡ Some x → slice_get ys i ≡ Some y → f i x ≡ g i y) → total f xs ≡ total g ys
unfolding total
total_alike f g [] [] lengths same = refl
total_alike f g [] (y ∷ ys) lengths same = absurd (let no : 0 ≡ suc (length ys) = lengths in omega arith)
total_alike f g (x ∷ xs) [] lengths same = absurd (let no : suc (length xs) ≡ 0 = lengths in omega arith)
total_alike f g (x ∷ xs) (y ∷ ys) lengths same = ap₂ ◌+◌ (same 0 x y refl refl) (total_alike (λ i. f (suc i)) (λ i. g (suc i)) xs ys (let more : suc (length xs) ≡ suc (length ys) = lengths in omega arith) (λ i z v there also. same (suc i) z v there also))

four : (a b c d : ℕ) → (a + b) + (c + d) ≡ (a + c) + (b + d)
four a b c d = omega arith

pub total_plus : {X : Type 0} (f g : ℕ → X → ℕ) (xs : List X) → total (λ i x. f i x + g i x) xs ≡ total f xs + total g xs
unfolding total
total_plus f g [] = refl
total_plus f g (x ∷ xs) = ap (λ n. (f 0 x + g 0 x) + n) (total_plus (λ i. f (suc i)) (λ i. g (suc i)) xs) ∙ four (f 0 x) (g 0 x) (total (λ i. f (suc i)) xs) (total (λ i. g (suc i)) xs)

-- a sum is no less than what an element adds
pub total_least : {X : Type 0} (f : ℕ → X → ℕ) (xs : List X) (k : ℕ) (x : X) → slice_get xs k ≡ Some x → f k x ≤ total f xs
unfolding total
total_least f [] k x is = absurd (none-some x is)
total_least f (z ∷ xs) zero x is = (let here : f 0 z ≡ f 0 x = ap (f 0) (same_Some z x is) in omega arith)
total_least f (z ∷ xs) (suc k) x is = (let more : f (suc k) x ≤ total (λ i. f (suc i)) xs = total_least (λ i. f (suc i)) xs k x is in omega arith)

-- the work of a carrier as weights
pub weight_of : Option Carrier → Msg → ℕ
weight_of None m = 0
weight_of (Some carrier) m = work_of carrier m

pub weight_is : (carriers : List Carrier) (k : ℕ) (carrier : Carrier) → slice_get carriers k ≡ Some carrier → (xs : List Msg) → work_on carrier xs ≡ by_weight (λ i m. weight_of (slice_get carriers i) m) k xs
unfolding by_weight weight_of
weight_is carriers k carrier there [] = refl
weight_is carriers k carrier there (x ∷ xs) = ap₂ ◌+◌ (ap (λ o. weight_of o x) (sym there)) (weight_is carriers k carrier there xs)
