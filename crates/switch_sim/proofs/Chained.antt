-- Chains after a place was taken out of its bucket, or put into one.
use Rattle.std.specs.Prelude.{◌≡◌, ◌≢◌, ◌≤◌, ◌<◌, ◌+◌, Bool, true, false, List, length, replicate, slice_index, slice_index_or, slice_set, refl}
use Rattle.std.proofs.Common.{ℕ, arith, eqb, ltb, ap, sym, subst, ◌∙◌, inl, inr}
use Rattle.std.proofs.lemmas.List.{get_or-set_same, get_or-replicate, length-set, length-replicate}
use Rattle.std.proofs.lemmas.Option.{slice_get_read, get_or_from_slice_get}
use Rattle.switch_sim.specs.Chains.{ChainState, IsNextIn, IsChained, IsLinkOf, LeadsTo}
use Rattle.switch_sim.proofs.LeastTrees.{is_same, is_apart, is_less, is_more, not_less, kept}

pub set_here : (xs : List ℕ) (at v : ℕ) → at < length xs → slice_index (slice_set xs at v) at ≡ v
set_here xs at v lt = get_or-set_same xs at v 0 lt

-- AT THE START

pub none_chained : IsChained (replicate 8192 4096) (replicate 4096 4096)
none_chained = record {
  links_sized = length-replicate {A = ℕ} 8192 4096;
  buckets_sized = length-replicate {A = ℕ} 4096 4096;
  heads = λ b lt. rw (get_or-replicate {A = ℕ} 8192 b 4096 0 (omega (arith, lt))) (nowhere b 0 lt (omega arith));
  nexts = λ p lt in_bucket. absurd (let is : slice_index (replicate 4096 4096) p ≡ 4096 = get_or-replicate {A = ℕ} 4096 p 4096 0 lt in omega (arith, is, in_bucket));
}
  where
    nowhere : (b from : ℕ) → b < 4096 → from ≤ 4096 → IsNextIn (replicate 4096 4096) b from 4096
    nowhere b from lt le = record {
      after = le;
      within = omega arith;
      there = λ less. absurd (omega (arith, less));
      first = λ r after less is. (let at : slice_index (replicate 4096 4096) r ≡ 4096 = get_or-replicate {A = ℕ} 4096 r 4096 0 less in omega (arith, at, is, lt));
    }

-- TAKING OUT

module _ (buckets : List ℕ) (p : ℕ) (sized : length buckets ≡ 4096) (lt : p < 4096) where
  p_within : p < length buckets
  p_within = rw sized lt

  -- the first place from a place on, once the one that was the first is gone
  pub skipped : (b start q : ℕ) → b < 4096 → IsNextIn buckets b start p → IsNextIn buckets b (p + 1) q → IsNextIn (slice_set buckets p 4096) b start q
  skipped b start q b_lt to_p to_q = record {
    after = (let e : start ≤ p = to_p.after in let f : p + 1 ≤ q = to_q.after in omega (arith, e, f));
    within = to_q.within;
    there = λ less. kept buckets p 4096 q (λ e. (let f : p + 1 ≤ q = to_q.after in omega (arith, e, f))) ∙ to_q.there less;
    first = λ r from less is. at r from less is (eqb r p) refl;
  }
    where
      at : (r : ℕ) → start ≤ r → r < q → slice_index (slice_set buckets p 4096) r ≡ b → (t : Bool) → eqb r p ≡ t → ⊥
      at r from less is true e =
          let same : r ≡ p = is_same r p e in
          let gone : 4096 ≡ b = sym (set_here buckets p 4096 p_within) ∙ subst (λ n. slice_index (slice_set buckets p 4096) n ≡ b) same is in
          omega (arith, gone, b_lt)
      at r from less is false e =
          let apart : r ≢ p = is_apart r p e in
          let was : slice_index buckets r ≡ b = sym (kept buckets p 4096 r apart) ∙ is in
          side r from less was apart (ltb r p) refl
        where
          side : (r : ℕ) → start ≤ r → r < q → slice_index buckets r ≡ b → r ≢ p → (t : Bool) → ltb r p ≡ t → ⊥
          side r from less was apart true e = to_p.first r from (is_less r p e) was
          side r from less was apart false e = to_q.first r (is_more r p e apart) less was

  -- the first place from a place on stays, where another is gone
  pub left : (b start q : ℕ) → b < 4096 → q ≢ p → IsNextIn buckets b start q → IsNextIn (slice_set buckets p 4096) b start q
  left b start q b_lt other to_q = record {
    after = to_q.after;
    within = to_q.within;
    there = λ less. kept buckets p 4096 q other ∙ to_q.there less;
    first = λ r from less is. at r from less is (eqb r p) refl;
  }
    where
      at : (r : ℕ) → start ≤ r → r < q → slice_index (slice_set buckets p 4096) r ≡ b → (t : Bool) → eqb r p ≡ t → ⊥
      at r from less is true e =
          let same : r ≡ p = is_same r p e in
          let gone : 4096 ≡ b = sym (set_here buckets p 4096 p_within) ∙ subst (λ n. slice_index (slice_set buckets p 4096) n ≡ b) same is in
          omega (arith, gone, b_lt)
      at r from less is false e = to_q.first r from less (sym (kept buckets p 4096 r (is_apart r p e)) ∙ is)

  -- PUTTING IN

  module _ (b : ℕ) (b_lt : b < 4096) (free : 4096 ≤ slice_index buckets p) where
    -- the place that was put in is the first one from a place on, where it comes before the one that was
    pub put_first : (start q : ℕ) → start ≤ p → p ≤ q → IsNextIn buckets b start q → IsNextIn (slice_set buckets p b) b start p
    put_first start q from le to_q = record {
      after = from;
      within = omega (arith, lt);
      there = λ less. set_here buckets p b p_within;
      first = λ r after less is. to_q.first r after (omega (arith, less, le)) (sym (kept buckets p b r (λ e. omega (arith, e, less))) ∙ is);
    }

    -- where it doesn't come between, or into another bucket, the first place stays
    pub put_aside : (c start q : ℕ) → c < 4096 → (start ≤ p → p < q → c ≡ b → ⊥) → IsNextIn buckets c start q → IsNextIn (slice_set buckets p b) c start q
    put_aside c start q c_lt aside to_q = record {
      after = to_q.after;
      within = to_q.within;
      there = λ less. kept buckets p b q (λ e. (let is : slice_index buckets p ≡ c = subst (λ n. slice_index buckets n ≡ c) e (to_q.there less) in omega (arith, is, free, c_lt))) ∙ to_q.there less;
      first = λ r from less is. at r from less is (eqb r p) refl;
    }
      where
        at : (r : ℕ) → start ≤ r → r < q → slice_index (slice_set buckets p b) r ≡ c → (t : Bool) → eqb r p ≡ t → ⊥
        at r from less is true e =
            let same : r ≡ p = is_same r p e in
            let now : b ≡ c = sym (set_here buckets p b p_within) ∙ subst (λ n. slice_index (slice_set buckets p b) n ≡ c) same is in
            aside (omega (arith, same, from)) (omega (arith, same, less)) (sym now)
        at r from less is false e = to_q.first r from less (sym (kept buckets p b r (is_apart r p e)) ∙ is)

-- the link before a place that is in the bucket leads right to it
pub reached : (buckets : List ℕ) (b start t p : ℕ) → IsNextIn buckets b start t → start ≤ p → p ≤ t → slice_index buckets p ≡ b → t ≡ p
reached buckets b start t p next from le is = at (ltb p t) refl
  where
    at : (v : Bool) → ltb p t ≡ v → t ≡ p
    at true e = absurd (next.first p from (is_less p t e) is)
    at false e = (let most : t ≤ p = not_less p t e in omega (arith, most, le))

-- a link of a bucket stands in the list of links
pub link_within : (buckets : List ℕ) (b link start : ℕ) → b < 4096 → IsLinkOf buckets b link start → link < 8192
link_within buckets b link start b_lt (inl head) = omega (arith, head.0, b_lt)
link_within buckets b link start b_lt (inr next) = omega (arith, next.1, next.2)

module _ (links buckets : List ℕ) (p b link start : ℕ) (chained : IsChained links buckets) (lt : p < 4096) (b_lt : b < 4096) (to : LeadsTo links buckets b p link start) where
  l_within : link < length links
  l_within = rw chained.links_sized (link_within buckets b link start b_lt to.link_of)

  -- a head that isn't the link, but is of its bucket, leads no further than to where the link starts
  other_head : (c : ℕ) → c < 4096 → c ≢ link → c ≡ b → slice_index links c < start
  other_head c c_lt apart same = kind to.link_of
    where
      kind : IsLinkOf buckets b link start → slice_index links c < start
      kind (inl head) = absurd (apart (same ∙ sym head.0))
      kind (inr next) = at (ltb next.0 (slice_index links c)) refl
        where
          at : (v : Bool) → ltb next.0 (slice_index links c) ≡ v → slice_index links c < start
          at true e = absurd ((chained.heads c c_lt).first next.0 (omega arith) (is_less next.0 (slice_index links c) e) (next.4 ∙ sym same))
          at false e = (let most : slice_index links c ≤ next.0 = not_less next.0 (slice_index links c) e in omega (arith, most, next.3))

  -- the link of another place of the bucket that comes before p leads no further than to where the link starts
  other_next : (x : ℕ) → x < 4096 → 4096 + x ≢ link → slice_index buckets x ≡ b → x < p → slice_index links (4096 + x) < start
  other_next x x_lt apart same before = kind to.link_of
    where
      kind : IsLinkOf buckets b link start → slice_index links (4096 + x) < start
      kind (inl head) = absurd (to.leads.first x (omega (arith, head.1)) (let past : p ≤ slice_index links link = to.past in omega (arith, past, before)) same)
      kind (inr next) = order (ltb x next.0) refl
        where
          x_next : IsNextIn buckets b (x + 1) (slice_index links (4096 + x))
          x_next = subst (λ n. IsNextIn buckets n (x + 1) (slice_index links (4096 + x))) same (chained.nexts x x_lt (rw same b_lt))

          stops : (v : Bool) → ltb next.0 (slice_index links (4096 + x)) ≡ v → x < next.0 → slice_index links (4096 + x) < start
          stops true e less = absurd (x_next.first next.0 (omega (arith, less)) (is_less next.0 (slice_index links (4096 + x)) e) next.4)
          stops false e less = (let most : slice_index links (4096 + x) ≤ next.0 = not_less next.0 (slice_index links (4096 + x)) e in omega (arith, most, next.3))

          order : (v : Bool) → ltb x next.0 ≡ v → slice_index links (4096 + x) < start
          order true e = stops (ltb next.0 (slice_index links (4096 + x))) refl (is_less x next.0 e)
          order false e =
              let other : x ≢ next.0 = λ same. apart (rw same (sym next.2)) in
              let after : next.0 + 1 ≤ x = is_more x next.0 e other in
              absurd (to.leads.first x (omega (arith, after, next.3)) (let past : p ≤ slice_index links link = to.past in omega (arith, past, before)) same)

  -- a place is in its bucket no more
  pub unlinked : slice_index buckets p ≡ b → IsChained (slice_set links link (slice_index links (4096 + p))) (slice_set buckets p 4096)
  unlinked is = record {
    links_sized = length-set links link (slice_index links (4096 + p)) ∙ chained.links_sized;
    buckets_sized = length-set buckets p 4096 ∙ chained.buckets_sized;
    heads = λ c c_lt. head c c_lt (eqb c link) refl;
    nexts = λ x x_lt in_bucket. place x x_lt in_bucket (eqb x p) refl;
  }
    where
      sized : length buckets ≡ 4096
      sized = chained.buckets_sized

      to_p : IsNextIn buckets b start p
      to_p = subst (λ n. IsNextIn buckets b start n) (reached buckets b start (slice_index links link) p to.leads to.before to.past is) to.leads

      from_p : IsNextIn buckets b (p + 1) (slice_index links (4096 + p))
      from_p = subst (λ n. IsNextIn buckets n (p + 1) (slice_index links (4096 + p))) is (chained.nexts p lt (rw is b_lt))

      new : ℕ
      new = slice_index links (4096 + p)

      here : IsNextIn (slice_set buckets p 4096) b start (slice_index (slice_set links link new) link)
      here = rw (set_here links link new l_within) (skipped buckets p sized lt b start new b_lt to_p from_p)

      head_here : (c : ℕ) → c ≡ link → c < 4096 → IsLinkOf buckets b link start → IsNextIn (slice_set buckets p 4096) c 0 (slice_index (slice_set links link new) c)
      head_here c same c_lt (inl first) = subst (λ n. IsNextIn (slice_set buckets p 4096) n 0 (slice_index (slice_set links link new) n)) (sym same) (subst (λ n. IsNextIn (slice_set buckets p 4096) n 0 (slice_index (slice_set links link new) link)) (sym first.0) (subst (λ n. IsNextIn (slice_set buckets p 4096) b n (slice_index (slice_set links link new) link)) first.1 here))
      head_here c same c_lt (inr next) = absurd (omega (arith, same, c_lt, next.2))

      head : (c : ℕ) → c < 4096 → (v : Bool) → eqb c link ≡ v → IsNextIn (slice_set buckets p 4096) c 0 (slice_index (slice_set links link new) c)
      head c c_lt true e = head_here c (is_same c link e) c_lt to.link_of
      head c c_lt false e =
          let apart : c ≢ link = is_apart c link e in
          let other : slice_index links c ≢ p = λ leads. (let same : c ≡ b = sym ((chained.heads c c_lt).there (omega (arith, leads, lt))) ∙ ap (λ n. slice_index buckets n) leads ∙ is in let less : slice_index links c < start = other_head c c_lt apart same in omega (arith, less, leads, to.before)) in
          rw (kept links link new c apart) (left buckets p sized lt c 0 (slice_index links c) c_lt other (chained.heads c c_lt))

      place_here : (x : ℕ) → 4096 + x ≡ link → IsLinkOf buckets b link start → IsNextIn (slice_set buckets p 4096) (slice_index buckets x) (x + 1) (slice_index (slice_set links link new) (4096 + x))
      place_here x same (inl first) = absurd (omega (arith, same, first.0, b_lt))
      place_here x same (inr next) =
          let x_is : next.0 ≡ x = omega (arith, same, next.2) in
          let bucket : b ≡ slice_index buckets x = sym next.4 ∙ ap (λ n. slice_index buckets n) x_is in
          let starts : start ≡ x + 1 = next.3 ∙ ap (λ n. n + 1) x_is in
          subst (λ n. IsNextIn (slice_set buckets p 4096) (slice_index buckets x) (x + 1) (slice_index (slice_set links link new) n)) (sym same) (subst (λ n. IsNextIn (slice_set buckets p 4096) n (x + 1) (slice_index (slice_set links link new) link)) bucket (subst (λ n. IsNextIn (slice_set buckets p 4096) b n (slice_index (slice_set links link new) link)) starts here))

      place_at : (x : ℕ) → x < 4096 → slice_index buckets x < 4096 → x ≢ p → (v : Bool) → eqb (4096 + x) link ≡ v → IsNextIn (slice_set buckets p 4096) (slice_index buckets x) (x + 1) (slice_index (slice_set links link new) (4096 + x))
      place_at x x_lt in_bucket x_apart true e = place_here x (is_same (4096 + x) link e) to.link_of
      place_at x x_lt in_bucket x_apart false e =
          let apart : 4096 + x ≢ link = is_apart (4096 + x) link e in
          let next : IsNextIn buckets (slice_index buckets x) (x + 1) (slice_index links (4096 + x)) = chained.nexts x x_lt in_bucket in
          let other : slice_index links (4096 + x) ≢ p = λ leads. (let same : slice_index buckets x ≡ b = sym (next.there (omega (arith, leads, lt))) ∙ ap (λ n. slice_index buckets n) leads ∙ is in let after : x + 1 ≤ slice_index links (4096 + x) = next.after in let less : slice_index links (4096 + x) < start = other_next x x_lt apart same (omega (arith, after, leads)) in omega (arith, less, leads, to.before)) in
          rw (kept links link new (4096 + x) apart) (left buckets p sized lt (slice_index buckets x) (x + 1) (slice_index links (4096 + x)) in_bucket other next)

      place : (x : ℕ) → x < 4096 → slice_index (slice_set buckets p 4096) x < 4096 → (v : Bool) → eqb x p ≡ v → IsNextIn (slice_set buckets p 4096) (slice_index (slice_set buckets p 4096) x) (x + 1) (slice_index (slice_set links link new) (4096 + x))
      place x x_lt in_bucket true e = absurd (let same : x ≡ p = is_same x p e in let gone : slice_index (slice_set buckets p 4096) x ≡ 4096 = subst (λ n. slice_index (slice_set buckets p 4096) n ≡ 4096) (sym same) (set_here buckets p 4096 (p_within buckets p sized lt)) in omega (arith, gone, in_bucket))
      place x x_lt in_bucket false e =
          let stays : slice_index (slice_set buckets p 4096) x ≡ slice_index buckets x = kept buckets p 4096 x (is_apart x p e) in
          rw stays (place_at x x_lt (rw (sym stays) in_bucket) (is_apart x p e) (eqb (4096 + x) link) refl)

  -- a place that was in no bucket is in this one
  pub linked : 4096 ≤ slice_index buckets p → IsChained (slice_set (slice_set links (4096 + p) (slice_index links link)) link p) (slice_set buckets p b)
  linked free = record {
    links_sized = length-set (slice_set links (4096 + p) next_of) link p ∙ length-set links (4096 + p) next_of ∙ chained.links_sized;
    buckets_sized = length-set buckets p b ∙ sized;
    heads = λ c c_lt. head c c_lt (eqb c link) refl;
    nexts = λ x x_lt in_bucket. place x x_lt in_bucket (eqb x p) refl;
  }
    where
      sized : length buckets ≡ 4096
      sized = chained.buckets_sized

      next_of : ℕ
      next_of = slice_index links link

      link_apart : IsLinkOf buckets b link start → 4096 + p ≢ link
      link_apart (inl first) e = omega (arith, first.0, b_lt, e)
      link_apart (inr next) e = (let r_is : next.0 ≡ p = omega (arith, next.2, e) in let bucket : b ≡ slice_index buckets p = sym next.4 ∙ ap (λ n. slice_index buckets n) r_is in omega (arith, bucket, free, b_lt))

      new_links : List ℕ
      new_links = slice_set (slice_set links (4096 + p) next_of) link p

      at_link : slice_index new_links link ≡ p
      at_link = set_here (slice_set links (4096 + p) next_of) link p (rw (length-set links (4096 + p) next_of) l_within)

      at_p : slice_index new_links (4096 + p) ≡ next_of
      at_p = kept (slice_set links (4096 + p) next_of) link p (4096 + p) (link_apart to.link_of) ∙ set_here links (4096 + p) next_of (rw chained.links_sized (omega (arith, lt)))

      elsewhere : (i : ℕ) → i ≢ link → i ≢ 4096 + p → slice_index new_links i ≡ slice_index links i
      elsewhere i apart other = kept (slice_set links (4096 + p) next_of) link p i apart ∙ kept links (4096 + p) next_of i other

      here : IsNextIn (slice_set buckets p b) b start (slice_index new_links link)
      here = rw at_link (put_first buckets p sized lt b b_lt free start next_of to.before to.past to.leads)

      head_here : (c : ℕ) → c ≡ link → c < 4096 → IsLinkOf buckets b link start → IsNextIn (slice_set buckets p b) c 0 (slice_index new_links c)
      head_here c same c_lt (inl first) = subst (λ n. IsNextIn (slice_set buckets p b) n 0 (slice_index new_links n)) (sym same) (subst (λ n. IsNextIn (slice_set buckets p b) n 0 (slice_index new_links link)) (sym first.0) (subst (λ n. IsNextIn (slice_set buckets p b) b n (slice_index new_links link)) first.1 here))
      head_here c same c_lt (inr next) = absurd (omega (arith, same, c_lt, next.2))

      head : (c : ℕ) → c < 4096 → (v : Bool) → eqb c link ≡ v → IsNextIn (slice_set buckets p b) c 0 (slice_index new_links c)
      head c c_lt true e = head_here c (is_same c link e) c_lt to.link_of
      head c c_lt false e =
          let apart : c ≢ link = is_apart c link e in
          rw (elsewhere c apart (λ e. omega (arith, e, c_lt))) (put_aside buckets p sized lt b b_lt free c 0 (slice_index links c) c_lt (λ from less same. (let stops : slice_index links c < start = other_head c c_lt apart same in omega (arith, stops, less, to.before))) (chained.heads c c_lt))

      place_here : (x : ℕ) → 4096 + x ≡ link → IsLinkOf buckets b link start → IsNextIn (slice_set buckets p b) (slice_index buckets x) (x + 1) (slice_index new_links (4096 + x))
      place_here x same (inl first) = absurd (omega (arith, same, first.0, b_lt))
      place_here x same (inr next) =
          let x_is : next.0 ≡ x = omega (arith, same, next.2) in
          let bucket : b ≡ slice_index buckets x = sym next.4 ∙ ap (λ n. slice_index buckets n) x_is in
          let starts : start ≡ x + 1 = next.3 ∙ ap (λ n. n + 1) x_is in
          subst (λ n. IsNextIn (slice_set buckets p b) (slice_index buckets x) (x + 1) (slice_index new_links n)) (sym same) (subst (λ n. IsNextIn (slice_set buckets p b) n (x + 1) (slice_index new_links link)) bucket (subst (λ n. IsNextIn (slice_set buckets p b) b n (slice_index new_links link)) starts here))

      place_at : (x : ℕ) → x < 4096 → slice_index buckets x < 4096 → x ≢ p → (v : Bool) → eqb (4096 + x) link ≡ v → IsNextIn (slice_set buckets p b) (slice_index buckets x) (x + 1) (slice_index new_links (4096 + x))
      place_at x x_lt in_bucket x_apart true e = place_here x (is_same (4096 + x) link e) to.link_of
      place_at x x_lt in_bucket x_apart false e =
          let apart : 4096 + x ≢ link = is_apart (4096 + x) link e in
          rw (elsewhere (4096 + x) apart (λ e. x_apart (omega (arith, e)))) (put_aside buckets p sized lt b b_lt free (slice_index buckets x) (x + 1) (slice_index links (4096 + x)) in_bucket (λ from less same. (let stops : slice_index links (4096 + x) < start = other_next x x_lt apart same (omega (arith, from)) in omega (arith, stops, less, to.before))) (chained.nexts x x_lt in_bucket))

      after_p : IsNextIn buckets b (p + 1) next_of
      after_p = record {
        after = beyond (ltb p next_of) refl;
        within = to.leads.within;
        there = to.leads.there;
        first = λ r from less is. to.leads.first r (let before : start ≤ p = to.before in omega (arith, before, from)) less is;
      }
        where
          beyond : (v : Bool) → ltb p next_of ≡ v → p + 1 ≤ next_of
          beyond true e = (let less : p < next_of = is_less p next_of e in omega (arith, less))
          beyond false e = absurd (let most : next_of ≤ p = not_less p next_of e in let past : p ≤ next_of = to.past in let same : next_of ≡ p = omega (arith, most, past) in let bucket : b ≡ slice_index buckets p = sym (to.leads.there (omega (arith, same, lt))) ∙ ap (λ n. slice_index buckets n) same in omega (arith, bucket, free, b_lt))

      place : (x : ℕ) → x < 4096 → slice_index (slice_set buckets p b) x < 4096 → (v : Bool) → eqb x p ≡ v → IsNextIn (slice_set buckets p b) (slice_index (slice_set buckets p b) x) (x + 1) (slice_index new_links (4096 + x))
      place x x_lt in_bucket true e =
          let same : x ≡ p = is_same x p e in
          let at_place : IsNextIn (slice_set buckets p b) (slice_index (slice_set buckets p b) p) (p + 1) (slice_index new_links (4096 + p)) = rw at_p (rw (set_here buckets p b (p_within buckets p sized lt)) (put_aside buckets p sized lt b b_lt free b (p + 1) next_of b_lt (λ from less same. omega (arith, from)) after_p)) in
          subst (λ n. IsNextIn (slice_set buckets p b) (slice_index (slice_set buckets p b) n) (n + 1) (slice_index new_links (4096 + n))) (sym same) at_place
      place x x_lt in_bucket false e =
          let stays : slice_index (slice_set buckets p b) x ≡ slice_index buckets x = kept buckets p b x (is_apart x p e) in
          rw stays (place_at x x_lt (rw (sym stays) in_bucket) (is_apart x p e) (eqb (4096 + x) link) refl)

-- as the calls have it: `s` is what contracts see of the links and buckets
pub read : (xs : List ℕ) (i x : ℕ) → i < length xs → x ≡ slice_index_or xs i x → x ≡ slice_index xs i
read xs i x lt is = sym (get_or_from_slice_get xs i x 0 (slice_get_read xs (length xs) i x refl lt is))

pub taken_out : (links buckets : List ℕ) (s : ChainState) (p b link v : ℕ) → record { links = links; buckets = buckets } ≡ s → IsChained links buckets → p < 4096 → slice_index s.buckets p < 4096 → b ≡ slice_index_or buckets p b → (start : ℕ) × LeadsTo s.links s.buckets b p link start → v ≡ slice_index_or links (4096 + p) v → IsChained (slice_set links link v) (slice_set buckets p 4096)
taken_out links buckets s p b link v view chained lt in_bucket b_is leads v_is =
    let b_at : b ≡ slice_index buckets p = read buckets p b (rw chained.buckets_sized lt) b_is in
    let v_at : v ≡ slice_index links (4096 + p) = read links (4096 + p) v (rw chained.links_sized (omega (arith, lt))) v_is in
    let small : slice_index buckets p < 4096 = subst (λ (s : ChainState). slice_index s.buckets p < 4096) (sym view) in_bucket in
    let to : LeadsTo links buckets b p link leads.0 = subst (λ (s : ChainState). LeadsTo s.links s.buckets b p link leads.0) (sym view) leads.1 in
    rw v_at (unlinked links buckets p b link leads.0 chained lt (rw b_at small) to (sym b_at))

pub put_in : (links buckets : List ℕ) (s : ChainState) (p b link v : ℕ) → record { links = links; buckets = buckets } ≡ s → IsChained links buckets → p < 4096 → b < 4096 → 4096 ≤ slice_index s.buckets p → (start : ℕ) × LeadsTo s.links s.buckets b p link start → v ≡ slice_index_or links link v → IsChained (slice_set (slice_set links (4096 + p) v) link p) (slice_set buckets p b)
put_in links buckets s p b link v view chained lt b_lt in_none leads v_is =
    let to : LeadsTo links buckets b p link leads.0 = subst (λ (s : ChainState). LeadsTo s.links s.buckets b p link leads.0) (sym view) leads.1 in
    let v_at : v ≡ slice_index links link = read links link v (rw chained.links_sized (link_within buckets b link leads.0 b_lt to.link_of)) v_is in
    let free : 4096 ≤ slice_index buckets p = subst (λ (s : ChainState). 4096 ≤ slice_index s.buckets p) (sym view) in_none in
    rw v_at (linked links buckets p b link leads.0 chained lt b_lt to free)
