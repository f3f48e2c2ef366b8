-- Parts of a history, merged in page order, are the entries of their buckets in page order.
use Rattle.std.proofs.Common.{◌≡◌, ℕ, ◌+◌, ◌<◌, ◌≤◌, ◌==◌, ◌&&◌, Bool, true, false, cond, List, [], ◌∷◌, filter, sym, ap, refl, ◌∙◌, arith, None, inl, inr, ◌⊎◌, nat_lt, nat_le}
use borrow.Author.Tests.{ltb-true, ltb-false, lt-ltb, le-leb, lt-leb}
use Rattle.std.specs.Ordering.{is_gt}
use Rattle.std.specs.declared.cmp.Ordering.TheVariants.{Less}
use Rattle.warm_stamps.specs.declared.PageId.{PageId}
use Rattle.warm_stamps.specs.Buckets.{page_bucket}
use Rattle.warm_stamps.specs.Stamps.{page_cmp}
use Rattle.warm_stamps.proofs.DistinctLemmas.{flipped, all_filter}
use Rattle.warm_stamps.proofs.StampLemmas.{page_order}
use Rattle.warm_maps.specs.declared.hist.Entry.{Entry}
use Rattle.warm_history.specs.ListHistories.{PagesAscend}
use Rattle.warm_history.specs.Carried.{bucket_entries, later_of_bucket}
use Rattle.warm_history.specs.maps.Merges.{is_between, of_buckets, first_of, rest_of, is_later, merge}
use Rattle.warm_maps.specs.MapPairs.{MapPairs, as_entries}
use Rattle.warm_history.specs.maps.KeptPairs.{kept}
use Rattle.warm_history.proofs.ListHistoryLemmas.{AllAbove}
use Rattle.warm_history.proofs.OrderLemmas.{in_order_rises}

-- what follows the last of the second list is the first list
merge_none : (xs : List Entry) → merge xs [] ≡ xs
merge_none [] = refl
merge_none (x ∷ xs) = refl

-- ---- one entry taken

-- if the first of the second list is to come, it is taken from there
pub takes_other : (xs ys : List Entry) → is_later (first_of xs) (first_of ys) ≡ true
    → merge xs (rest_of ys) ≡ rest_of (merge xs ys)
takes_other [] [] is = let no : false ≡ true = is in absurd (cc)
takes_other (x ∷ xs) [] is = let no : false ≡ true = is in absurd (cc)
takes_other [] (y ∷ ys) is = refl
takes_other (x ∷ xs) (y ∷ ys) is = let later : is_gt (page_cmp x.page y.page) ≡ true = is in rw later refl

-- and else from the first list
pub takes_one : (xs ys : List Entry) → is_later (first_of xs) (first_of ys) ≡ false
    → merge (rest_of xs) ys ≡ rest_of (merge xs ys)
takes_one [] [] is = refl
takes_one (x ∷ xs) [] is = merge_none xs
takes_one [] (y ∷ ys) is = let no : true ≡ false = is in absurd (cc)
takes_one (x ∷ xs) (y ∷ ys) is = let later : is_gt (page_cmp x.page y.page) ≡ false = is in rw later refl

-- ---- two parts of a history

first_least : (e : Entry) (xs ys : List Entry) → AllAbove e.page ys
    → merge (e ∷ xs) ys ≡ e ∷ merge xs ys
first_least e xs [] above = ap (λ t. e ∷ t) (sym (merge_none xs))
first_least e xs (y ∷ ys) above = let no : is_gt (page_cmp e.page y.page) ≡ false = ap is_gt above.0 in rw no refl

second_least : (e : Entry) (xs ys : List Entry) → AllAbove e.page xs
    → merge xs (e ∷ ys) ≡ e ∷ merge xs ys
second_least e [] ys above = refl
second_least e (x ∷ xs) ys above = let yes : is_gt (page_cmp x.page e.page) ≡ true = ap is_gt (flipped page_cmp page_order e.page x.page Less above.0) in rw yes refl

-- the third test is passed exactly if one of the other two is, and these two are never both passed
abbrev pub AreParts : (p q r : Entry → Bool) → Type 0
AreParts p q r = (e : Entry) → ((p e ≡ true) × (q e ≡ false) × (r e ≡ true)) ⊎ ((p e ≡ false) × (q e ≡ r e))

module _ (p q r : Entry → Bool) (parts : AreParts p q r) where
  -- entries that pass the one test or the other, merged, are those that pass the third
  pub merge_filters : (h : List Entry) → PagesAscend h
      → merge (filter p h) (filter q h) ≡ filter r h
  merge_filters [] rising = refl
  merge_filters (e ∷ h) rising = elim (parts e) [
    | inl is ↦ rw is.0 (rw is.1 (rw is.2 (
        first_least e (filter p h) (filter q h) (all_filter (λ x. page_cmp e.page x.page ≡ Less) q h rising.0)
        ∙ ap (λ t. e ∷ t) (merge_filters h rising.1))))
    | inr is ↦ rw is.0 (rw is.1 (second (r e) (merge_filters h rising.1)))
  ]
    where
      second : (b : Bool) → merge (filter p h) (filter q h) ≡ filter r h
          → merge (filter p h) (cond b (e ∷ filter q h) (filter q h))
          ≡ cond b (e ∷ filter r h) (filter r h)
      second true rest =
          second_least e (filter p h) (filter q h) (all_filter (λ x. page_cmp e.page x.page ≡ Less) p h rising.0)
          ∙ ap (λ t. e ∷ t) rest
      second false rest = rest

-- ---- the buckets of parts

between_parts : (from middle to : ℕ) → from ≤ middle → middle ≤ to
    → AreParts (λ e. is_between from middle e.page) (λ e. is_between middle to e.page)
    (λ e. is_between from to e.page)
between_parts from middle to first second e = cases (nat_lt (page_bucket e.page) middle) (nat_le from (page_bucket e.page)) refl refl
  where
    n : ℕ
    n = page_bucket e.page

    cases : (a b : Bool) → nat_lt n middle ≡ a → nat_le from n ≡ b →
        ((is_between from middle e.page ≡ true) × (is_between middle to e.page ≡ false)
        × (is_between from to e.page ≡ true))
        ⊎ ((is_between from middle e.page ≡ false)
        × (is_between middle to e.page ≡ is_between from to e.page))
    cases true true is_lt is_le =
        let lt : n < middle = ltb-true n middle is_lt in
        let before : nat_le middle n ≡ false = lt-leb middle n lt in
        let below : nat_lt n to ≡ true = lt-ltb n to (omega arith) in
        inl (rw is_le is_lt, rw before refl, rw is_le below)
    cases true false is_lt is_le =
        let lt : n < middle = ltb-true n middle is_lt in
        let before : nat_le middle n ≡ false = lt-leb middle n lt in
        inr (rw is_le refl, rw before (rw is_le refl))
    cases false b is_lt is_le =
        let ge : middle ≤ n = ltb-false n middle is_lt in
        let there : nat_le middle n ≡ true = le-leb middle n ge in
        let above : nat_le from n ≡ true = le-leb from n (omega arith) in
        inr (rw above is_lt, rw there (rw above refl))

-- the entries of some buckets that the pairs keep, and those of as many that follow
pub two_halves : (pairs : MapPairs) (from half to : ℕ) (xs ys : List Entry)
    → from + half + half ≡ to → xs ≡ of_buckets from (from + half) (kept pairs)
    → ys ≡ of_buckets (from + half) (from + half + half) (kept pairs)
    → merge xs ys ≡ of_buckets from to (kept pairs)
two_halves pairs from half to xs ys size one other =
    ap (λ t. merge t ys) one
    ∙ ap (merge (of_buckets from (from + half) (kept pairs))) (other ∙ ap (λ n. of_buckets (from + half) n (kept pairs)) size)
    ∙ merge_filters _ _ _ (between_parts from (from + half) to (omega arith) (omega arith)) (kept pairs) (in_order_rises (as_entries pairs))

filter_same : (p q : Entry → Bool) (h : List Entry) → ((e : Entry) → p e ≡ q e)
    → filter p h ≡ filter q h
filter_same p q [] same = refl
filter_same p q (e ∷ h) same =
    ap (λ b. cond b (e ∷ filter p h) (filter p h)) (same e)
    ∙ ap (λ t. cond (q e) (e ∷ t) t) (filter_same p q h same)

or_nothing : (b : Bool) → (b && true) ≡ b
or_nothing true = refl
or_nothing false = refl

-- those of a bucket, after no page
pub bucket_from_start : (bucket : ℕ) (h : List Entry)
    → later_of_bucket bucket None h ≡ bucket_entries bucket h
bucket_from_start bucket h = filter_same _ (λ e. page_bucket e.page == bucket) h (λ e. or_nothing (page_bucket e.page == bucket))

all_pass : (test : Entry → Bool) (h : List Entry) → ((e : Entry) → test e ≡ true)
    → filter test h ≡ h
all_pass test [] all = refl
all_pass test (e ∷ h) all = let is : test e ≡ true = all e in rw is (ap (λ t. e ∷ t) (all_pass test h all))

bucket_below : (p : PageId) → page_bucket p < 64
bucket_below p = omega arith

-- the entries of all buckets are all
pub of_all_buckets : (h : List Entry) → of_buckets 0 64 h ≡ h
of_all_buckets h = all_pass (λ e. is_between 0 64 e.page) h (λ e.
    let above : nat_le 0 (page_bucket e.page) ≡ true = le-leb 0 (page_bucket e.page) (omega arith) in
    let below : nat_lt (page_bucket e.page) 64 ≡ true = lt-ltb (page_bucket e.page) 64 (bucket_below e.page) in
    rw above below)
