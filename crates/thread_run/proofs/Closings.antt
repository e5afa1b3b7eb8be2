-- Queues that are closed one after another.
use Rattle.std.proofs.Common.{◌≡◌, ℕ, ◌+◌, ◌≤◌, ◌<◌, List, [], ◌∷◌, ◌++◌, length, map, drop, reverse, refl, sym, ap, ◌∙◌, subst, append_assoc, append-nil, length-append, suc, arith}
use Rattle.std.specs.Prelude.{All, slice_index_or}
use Rattle.std.specs.List.{AllZip}
use Rattle.std.proofs.lemmas.List.{map-append, reverse-append, reverse-reverse}
use Rattle.std.proofs.lemmas.List.Elements.{All-nil, All-cons, All-append}
use Rattle.atomic_table.specs.Seated.{TableId}
use Rattle.slot_queue.specs.Closing.{Remains}
use Rattle.slot_queue.specs.Ends.{Named, Sender, Receiver}
use Rattle.thread_run.specs.Closing.{IsRoom, AreSidesOf, AreClosed}

abbrev pub slots_each : List Named → List ℕ
slots_each queues = map (λ (q : Named). q.name.slots) queues

abbrev pub Whole : Remains → Type 0
Whole rest = rest.received ++ rest.messages ≡ rest.sent

-- some queues are closed; of the others, these are the sides and the rooms
pub record AreClosing (senders : List Sender) (receivers : List Receiver) (queues : List Named) (ss : List Sender) (rs : List Receiver) (rooms : List Remains) (capacity : ℕ) (closed : List Remains) : Type 0 where
  pub sides : AreSidesOf queues ss rs
  pub rooms_are : AllZip IsRoom (slots_each queues) rooms
  pub space : length closed + length queues ≤ capacity
  pub sent : map (λ (r : Remains). r.sent) closed ++ map (λ (s : Sender). s.sent) ss ≡ map (λ (s : Sender). s.sent) senders
  pub received : map (λ (r : Remains). r.received) closed ++ map (λ (r : Receiver). r.received) rs ≡ map (λ (r : Receiver). r.received) receivers
  pub left : All Whole closed

-- ---- lists that are turned round, and lose their last element

pub first_of : {X : Type 0} (left left' : List X) (x : X) → left ≡ left' ++ x ∷ [] → reverse left ≡ x ∷ reverse left'
first_of left left' x last = ap reverse last ∙ reverse-append left' (x ∷ [])

pub turned : {X : Type 0} (left all : List X) → left ≡ reverse all → reverse left ≡ all
turned left all is = ap reverse is ∙ reverse-reverse all

head_same : {X : Type 0} (x y : X) (xs ys : List X) → x ∷ xs ≡ y ∷ ys → x ≡ y
head_same x y xs ys same = ap (λ l. slice_index_or l 0 x) same

tail_same : {X : Type 0} (x y : X) (xs ys : List X) → x ∷ xs ≡ y ∷ ys → xs ≡ ys
tail_same x y xs ys same = ap (λ l. drop 1 l) same

-- what the elements say of which one moves from a list to another
moved : {A B C : Type 0} (f : A → C) (g : B → C) (done : List A) (todo : List B) (all : List C) (a : A) (b : B) (done' : List A) (todo' : List B) → map f done ++ map g todo ≡ all → todo ≡ b ∷ todo' → f a ≡ g b → done' ≡ done ++ a ∷ [] → map f done' ++ map g todo' ≡ all
moved f g done todo all a b done' todo' so_far next same more =
    ap (λ l. map f l ++ map g todo') more
    ∙ ap (λ l. l ++ map g todo') (map-append f done (a ∷ []))
    ∙ append_assoc (map f done) (f a ∷ []) (map g todo')
    ∙ ap (λ x. map f done ++ x ∷ map g todo') same
    ∙ sym (ap (λ l. map f done ++ map g l) next)
    ∙ so_far

none_for : {A B C : Type 0} (f : A → C) (g : B → C) (xs : List A) (bs : List B) (b : B) (bs' : List B) → xs ≡ [] → bs ≡ b ∷ bs' → map f xs ≡ map g bs → ⊥
none_for f g xs bs b bs' none some same = let bad : [] ≡ g b ∷ map g bs' = sym (ap (map f) none) ∙ same ∙ ap (map g) some in cc

module _ (senders : List Sender) (receivers : List Receiver) where
  pub closing_starts : (queues : List Named) (qs : List Named) (ss : List Sender) (rs : List Receiver) (rooms ms : List Remains) (capacity : ℕ) (closed : List Remains)
      → AreSidesOf queues senders receivers → AllZip IsRoom (slots_each queues) rooms → length (slots_each queues) ≤ capacity → closed ≡ []
      → qs ≡ reverse queues → ss ≡ reverse senders → rs ≡ reverse receivers → ms ≡ reverse rooms
      → AreClosing senders receivers (reverse qs) (reverse ss) (reverse rs) (reverse ms) capacity closed
  closing_starts queues qs ss rs rooms ms capacity closed sides each enough none q_is s_is r_is m_is =
      subst (λ l. AreClosing senders receivers l (reverse ss) (reverse rs) (reverse ms) capacity closed) (sym (turned qs queues q_is))
      (subst (λ l. AreClosing senders receivers queues l (reverse rs) (reverse ms) capacity closed) (sym (turned ss senders s_is))
      (subst (λ l. AreClosing senders receivers queues senders l (reverse ms) capacity closed) (sym (turned rs receivers r_is))
      (subst (λ l. AreClosing senders receivers queues senders receivers l capacity closed) (sym (turned ms rooms m_is))
      (subst (λ l. AreClosing senders receivers queues senders receivers rooms capacity l) (sym none)
      (record {
        sides = sides;
        rooms_are = each;
        space = (let many = mapped queues in omega arith);
        sent = refl;
        received = refl;
        left = All-nil Whole;
      })))))
    where
      mapped : (queues : List Named) → length (slots_each queues) ≡ length queues
      mapped [] = refl
      mapped (q ∷ qs) = ap (λ n. suc n) (mapped qs)

  module _ (queues : List Named) (ss : List Sender) (rs : List Receiver) (rooms : List Remains) (capacity : ℕ) (closed : List Remains)
      (so_far : AreClosing senders receivers queues ss rs rooms capacity closed) where
    pub closing_ends : queues ≡ [] → AreClosed senders receivers closed
    closing_ends none = record {
      sent = sym (append-nil _) ∙ ap (λ l. map (λ (r : Remains). r.sent) closed ++ map (λ (s : Sender). s.sent) l) (sym (no_more (λ (s : Sender). s.queue) ss (so_far.sides.senders_are ∙ ap (map (λ (q : Named). q.name)) none))) ∙ so_far.sent;
      received = sym (append-nil _) ∙ ap (λ l. map (λ (r : Remains). r.received) closed ++ map (λ (r : Receiver). r.received) l) (sym (no_more (λ (r : Receiver). r.queue) rs (so_far.sides.receivers_are ∙ ap (map (λ (q : Named). q.name)) none))) ∙ so_far.received;
      left = so_far.left;
    }
      where
        no_more : {X : Type 0} (f : X → TableId) (l : List X) → map f l ≡ [] → l ≡ []
        no_more f [] e = refl
        no_more f (x ∷ l) e = cc

    module _ (queue : Named) (queues' : List Named) (next : queues ≡ queue ∷ queues') where
      pub has_sender : ss ≡ [] → ⊥
      has_sender none = none_for (λ (s : Sender). s.queue) (λ (q : Named). q.name) ss queues queue queues' none next so_far.sides.senders_are

      pub has_receiver : rs ≡ [] → ⊥
      has_receiver none = none_for (λ (r : Receiver). r.queue) (λ (q : Named). q.name) rs queues queue queues' none next so_far.sides.receivers_are

      rooms_now : AllZip IsRoom (slots_each (queue ∷ queues')) rooms
      rooms_now = subst (λ l. AllZip IsRoom (slots_each l) rooms) next so_far.rooms_are

      pub has_room : rooms ≡ [] → ⊥
      has_room none = let bad : AllZip IsRoom (slots_each (queue ∷ queues')) [] = subst (λ l. AllZip IsRoom (slots_each (queue ∷ queues')) l) none rooms_now in bad

      pub is_free : length closed < capacity
      is_free = let many : length queues ≡ suc (length queues') = ap length next in let space = so_far.space in omega arith

      module _ (s : Sender) (ss' : List Sender) (s_next : ss ≡ s ∷ ss') (r : Receiver) (rs' : List Receiver) (r_next : rs ≡ r ∷ rs') (room : Remains) (rooms' : List Remains) (room_next : rooms ≡ room ∷ rooms') where
        senders_now : s.queue ∷ map (λ (s : Sender). s.queue) ss' ≡ queue.name ∷ map (λ (q : Named). q.name) queues'
        senders_now = sym (ap (map (λ (s : Sender). s.queue)) s_next) ∙ so_far.sides.senders_are ∙ ap (map (λ (q : Named). q.name)) next

        receivers_now : r.queue ∷ map (λ (r : Receiver). r.queue) rs' ≡ queue.name ∷ map (λ (q : Named). q.name) queues'
        receivers_now = sym (ap (map (λ (r : Receiver). r.queue)) r_next) ∙ so_far.sides.receivers_are ∙ ap (map (λ (q : Named). q.name)) next

        room_now : IsRoom queue.name.slots room × AllZip IsRoom (slots_each queues') rooms'
        room_now = subst (λ l. AllZip IsRoom (slots_each (queue ∷ queues')) l) room_next rooms_now

        pub are_its : (s.queue ≡ queue.name) × (r.queue ≡ queue.name)
        are_its = (head_same _ _ _ _ senders_now, head_same _ _ _ _ receivers_now)

        pub has_space : IsRoom queue.name.slots room
        has_space = room_now.0

        pub closed_more : (rest : Remains) → rest.sent ≡ s.sent → rest.received ≡ r.received → Whole rest → (closed' : List Remains) → closed' ≡ closed ++ rest ∷ []
            → AreClosing senders receivers queues' ss' rs' rooms' capacity closed'
        closed_more rest sent received whole closed' more = record {
          sides = record { senders_are = tail_same _ _ _ _ senders_now; receivers_are = tail_same _ _ _ _ receivers_now };
          rooms_are = room_now.1;
          space = (let many : length queues ≡ suc (length queues') = ap length next in let longer : length closed' ≡ length closed + 1 = ap length more ∙ length-append closed (rest ∷ []) in let space = so_far.space in omega arith);
          sent = moved (λ (r : Remains). r.sent) (λ (s : Sender). s.sent) closed ss _ rest s closed' ss' so_far.sent s_next sent more;
          received = moved (λ (r : Remains). r.received) (λ (r : Receiver). r.received) closed rs _ rest r closed' rs' so_far.received r_next received more;
          left = subst (All Whole) (sym more) (All-append Whole closed (rest ∷ []) so_far.left (All-cons Whole rest [] whole (All-nil Whole)));
        }
