-- The order of keys, and that it is the eviction order of their pages.
use Rattle.std.proofs.Common.{◌≡◌, ℕ, List, [], ◌∷◌, sym, ap, refl, ◌∙◌, subst, Option, Some, None, inl, inr}
use Rattle.std.specs.Option.{option_cmp}
use Rattle.std.specs.Cmp.{IsTotalOrder}
use Rattle.std.specs.Cmp.Lexicographic.{options_total}
use Rattle.std.specs.Ordering.{nat_cmp, on, then_cmp, ordering_then}
use Rattle.std.specs.declared.cmp.Ordering.{Ordering}
use Rattle.std.specs.declared.cmp.Ordering.TheVariants.{Equal}
use Rattle.std.proofs.lemmas.Cmp.{then_total, on_total, nat_cmp_total}
use Rattle.warm_stamps.specs.declared.Stamp.{Stamp}
use Rattle.warm_stamps.specs.declared.PageId.{PageId}
use Rattle.warm_stamps.specs.Stamps.{stamp_cmp, page_cmp}
use Rattle.warm_stamps.proofs.DistinctLemmas.{IsStrictOrder, Has}
use Rattle.warm_stamps.proofs.StampLemmas.{both_tie, stamp_order, page_order}
use Rattle.warm_history.specs.ReferenceSets.{ReferenceSet}
use Rattle.warm_history.specs.PageHist.{PageHist}
use Rattle.warm_history.specs.PageHist.TheVariants as page
use Rattle.warm_history.specs.Histories.{first_two, stamps, hist}
use Rattle.warm_rank.specs.declared.RankKey.{RankKey}
use Rattle.warm_rank.specs.declared.RankKey.TheVariants.{Never, Once, Twice}
use Rattle.warm_rank.specs.contracts.RankKeyOrd.TheImpl as derived
use Rattle.warm_rank.specs.Keys.{rank_key, key_cmp, ranked_page}
use Rattle.warm_rank.specs.Ranking.{distance_from, first, farther_cmp, older_cmp, eviction_cmp}
use Rattle.warm_rank.specs.Laws.{KeysOrderPages}
use Rattle.warm_rank.proofs.LaterCountLemmas.{IsStampOf, counts_rank, stamps_of}

-- ---- keys and distances

ranks : (S : ReferenceSet) (p q : PageId) (xs ys : List Stamp)
    → ((s : Stamp) → Has xs s → IsStampOf S s) → ((s : Stamp) → Has ys s → IsStampOf S s)
    → key_cmp (rank_key p (first_two xs)) (rank_key q (first_two ys))
    ≡ ordering_then (farther_cmp (distance_from S xs) (distance_from S ys))
    (ordering_then (older_cmp (first xs) (first ys)) (page_cmp p q))
ranks S p q [] [] of_x of_y = refl
ranks S p q [] (b ∷ []) of_x of_y = refl
ranks S p q [] (b ∷ b' ∷ ys) of_x of_y = refl
ranks S p q (a ∷ []) [] of_x of_y = refl
ranks S p q (a ∷ []) (b ∷ []) of_x of_y = refl
ranks S p q (a ∷ []) (b ∷ b' ∷ ys) of_x of_y = refl
ranks S p q (a ∷ a' ∷ xs) [] of_x of_y = refl
ranks S p q (a ∷ a' ∷ xs) (b ∷ []) of_x of_y = refl
ranks S p q (a ∷ a' ∷ xs) (b ∷ b' ∷ ys) of_x of_y = ap (λ o. ordering_then o (ordering_then (stamp_cmp a b) (page_cmp p q))) (sym (counts_rank S a' b' (of_x a' (inr (inl refl))) (of_y b' (inr (inl refl)))))

pub keys_order_pages : KeysOrderPages
unfolding eviction_cmp
keys_order_pages S p q = ranks S p q (stamps S p) (stamps S q) (stamps_of S p) (stamps_of S q)

-- keys that were made from what is known of two pages
pub known_keys_rank : (S : ReferenceSet) (p q : PageId) (x y : Option PageHist) → x ≡ hist S p
    → y ≡ hist S q → key_cmp (rank_key p x) (rank_key q y) ≡ eviction_cmp S p q
known_keys_rank S p q x y is_x is_y = ap (λ h. key_cmp (rank_key p h) (rank_key q y)) is_x ∙ ap (λ h. key_cmp (rank_key p (hist S p)) (rank_key q h)) is_y ∙ keys_order_pages S p q

pub page_of-rank_key : (p : PageId) (x : Option PageHist) → ranked_page (rank_key p x) ≡ p
page_of-rank_key p None = refl
page_of-rank_key p (Some (page.Once last)) = refl
page_of-rank_key p (Some (page.Twice two)) = refl

-- ---- the order of keys

-- only equal keys tie
same_keys : (j k : RankKey) → key_cmp j k ≡ Equal → j ≡ k
same_keys (Never p) (Never q) e = ap Never (page_order.same p q e)
same_keys (Never p) (Once b q) e = absurd (cc)
same_keys (Never p) (Twice b' b q) e = absurd (cc)
same_keys (Once a p) (Never q) e = absurd (cc)
same_keys (Once a p) (Once b q) e =
    let both = both_tie (stamp_cmp a b) (page_cmp p q) e in
    let lasts : a ≡ b = stamp_order.same a b both.0 in
    let pages : p ≡ q = page_order.same p q both.1 in
    cc
same_keys (Once a p) (Twice b' b q) e = absurd (cc)
same_keys (Twice a' a p) (Never q) e = absurd (cc)
same_keys (Twice a' a p) (Once b q) e = absurd (cc)
same_keys (Twice a' a p) (Twice b' b q) e =
    let first = both_tie (stamp_cmp a' b') (ordering_then (stamp_cmp a b) (page_cmp p q)) e in
    let both = both_tie (stamp_cmp a b) (page_cmp p q) first.1 in
    let prevs : a' ≡ b' = stamp_order.same a' b' first.0 in
    let lasts : a ≡ b = stamp_order.same a b both.0 in
    let pages : p ≡ q = page_order.same p q both.1 in
    cc

how_many : RankKey → ℕ
how_many (Never p) = 0
how_many (Once a p) = 1
how_many (Twice a' a p) = 2

prev_of : RankKey → Option Stamp
prev_of (Never p) = None
prev_of (Once a p) = None
prev_of (Twice a' a p) = Some a'

last_of : RankKey → Option Stamp
last_of (Never p) = None
last_of (Once a p) = Some a
last_of (Twice a' a p) = Some a

-- keys are ordered by what they hold, one after the other
by_parts : RankKey → RankKey → Ordering
by_parts = then_cmp (on how_many nat_cmp) (then_cmp (on prev_of (option_cmp stamp_cmp)) (then_cmp (on last_of (option_cmp stamp_cmp)) (on ranked_page page_cmp)))

parts_are_key : (j k : RankKey) → by_parts j k ≡ key_cmp j k
unfolding how_many prev_of last_of by_parts
parts_are_key (Never p) (Never q) = refl
parts_are_key (Never p) (Once b q) = refl
parts_are_key (Never p) (Twice b' b q) = refl
parts_are_key (Once a p) (Never q) = refl
parts_are_key (Once a p) (Once b q) = refl
parts_are_key (Once a p) (Twice b' b q) = refl
parts_are_key (Twice a' a p) (Never q) = refl
parts_are_key (Twice a' a p) (Once b q) = refl
parts_are_key (Twice a' a p) (Twice b' b q) = refl

parts_total : IsTotalOrder by_parts
unfolding by_parts
parts_total = then_total (on_total how_many nat_cmp_total) (then_total (on_total prev_of (options_total stamp_order.total)) (then_total (on_total last_of (options_total stamp_order.total)) (on_total ranked_page page_order.total)))

pub key_order : IsStrictOrder key_cmp
key_order = record { total = subst IsTotalOrder (λ i j k. parts_are_key j k i) parts_total; same = same_keys }

-- ---- the derived order of keys

pub derived-key_cmp : (j k : RankKey) → (derived.ghosts).cmp j k ≡ key_cmp j k
derived-key_cmp (Never p) (Never q) = refl
derived-key_cmp (Never p) (Once b q) = refl
derived-key_cmp (Never p) (Twice b' b q) = refl
derived-key_cmp (Once a p) (Never q) = refl
derived-key_cmp (Once a p) (Once b q) = refl
derived-key_cmp (Once a p) (Twice b' b q) = refl
derived-key_cmp (Twice a' a p) (Never q) = refl
derived-key_cmp (Twice a' a p) (Once b q) = refl
derived-key_cmp (Twice a' a p) (Twice b' b q) = refl

pub derived_order : (derived.ghosts).cmp ≡ key_cmp
derived_order = λ i j k. derived-key_cmp j k i
