-- Sends that are posted one after another, from the end of a list that was turned round.
use Rattle.std.proofs.Common.{◌≡◌, ℕ, ◌<◌, List, [], ◌∷◌, ◌++◌, length, reverse, refl, sym, ap, ◌∙◌, subst}
use Rattle.std.proofs.lemmas.List.{reverse-append, reverse-reverse}
use Rattle.std.proofs.lemmas.List.Elements.{All-head, All-tail}
use Rattle.sb_message.specs.declared.message.Body.{Body}
use Rattle.sync_rule.specs.Ports.{Out, posted, at_place, post_all}
use Rattle.sync_rule.specs.ManyPorts.{ArePlanned, HavePorts}
use Rattle.sync_rule.proofs.Places.{planned_at, length-at_place}

-- the sends that are left, last first, are posted after those before
pub record Posting (t : ℕ) (outs : List Out) (sends : List (ℕ × Body)) (so_far : List Out) (left : List (ℕ × Body)) : Type 0 where
  pub posts : post_all t (reverse left) so_far ≡ post_all t sends outs
  pub planned : ArePlanned so_far
  pub as_many : length so_far ≡ length outs
  pub there : HavePorts (length outs) (reverse left)

pub posting_start : (t : ℕ) (outs : List Out) (sends turned : List (ℕ × Body)) → turned ≡ reverse sends → ArePlanned outs → HavePorts (length outs) sends → Posting t outs sends outs turned
posting_start t outs sends turned is planned there = record {
  posts = ap (λ l. post_all t l outs) back;
  planned = planned;
  as_many = refl;
  there = subst (HavePorts (length outs)) (sym back) there;
}
  where
    back : reverse turned ≡ sends
    back = ap reverse is ∙ reverse-reverse sends

-- the one that is posted next
turned_left : (left more : List (ℕ × Body)) (sent : ℕ × Body) → left ≡ more ++ sent ∷ [] → reverse left ≡ sent ∷ reverse more
turned_left left more sent is = ap reverse is ∙ reverse-append more (sent ∷ [])

pub next_there : {t : ℕ} {outs so_far : List Out} {sends left : List (ℕ × Body)} → Posting t outs sends so_far left → (more : List (ℕ × Body)) (sent : ℕ × Body) → left ≡ more ++ sent ∷ [] → sent.0 < length so_far
next_there {t} {outs} {so_far} {sends} {left} posting more sent is = subst (λ n. sent.0 < n) (sym posting.as_many) (All-head (λ (x : ℕ × Body). x.0 < length outs) sent (reverse more) (subst (HavePorts (length outs)) (turned_left left more sent is) posting.there))

pub posting_more : {t : ℕ} {outs so_far : List Out} {sends left : List (ℕ × Body)} → Posting t outs sends so_far left → (more : List (ℕ × Body)) (sent : ℕ × Body) (new : List Out) → left ≡ more ++ sent ∷ [] → new ≡ at_place sent.0 (posted t sent.1) so_far → Posting t outs sends new more
unfolding post_all
posting_more {t} {outs} {so_far} {sends} {left} posting more sent new is place = record {
  posts = ap (post_all t (reverse more)) place ∙ ap (λ l. post_all t l so_far) (sym (turned_left left more sent is)) ∙ posting.posts;
  planned = subst ArePlanned (sym place) (planned_at sent.0 t sent.1 so_far posting.planned);
  as_many = ap length place ∙ length-at_place sent.0 (posted t sent.1) so_far ∙ posting.as_many;
  there = All-tail (λ (x : ℕ × Body). x.0 < length outs) sent (reverse more) (subst (HavePorts (length outs)) (turned_left left more sent is) posting.there);
}

pub posting_ends : {t : ℕ} {outs so_far : List Out} {sends left : List (ℕ × Body)} → Posting t outs sends so_far left → left ≡ [] → so_far ≡ post_all t sends outs
unfolding post_all
posting_ends {t} {outs} {so_far} posting none = ap (λ l. post_all t (reverse l) so_far) (sym none) ∙ posting.posts
