-- What is done to the map of a bucket is done to all maps together.
use Rattle.std.proofs.Common.{◌≡◌, ℕ, Bool, true, false, cond, List, [], ◌∷◌, ◌++◌, sym, ap, refl, ◌∙◌, arith, Some, None, length, zero, suc, filter, ◌+◌, ◌<◌, ◌≤◌}
use Rattle.std.specs.List.{AllByRecursion}
use Rattle.std.specs.Map.{remove_entry, set_value}
use Rattle.std.specs.BTreeMap.{is_at, insert_entry}
use Rattle.std.specs.Ordering.{is_eq, nat_cmp}
use Rattle.std.specs.Cmp.{nat_cmp_is}
use Rattle.std.specs.declared.cmp.Ordering.TheVariants.{Less, Greater}
use Rattle.warm_maps.specs.declared.hist.PageHist.{PageHist}
use Rattle.warm_maps.specs.MapKeys.{first_key}
use Rattle.warm_maps.specs.MapPairs.{MapPairs}
use Rattle.warm_maps.specs.BucketMaps.{all_pairs, LiesIn, AreBuckets, map_at, with_map, found}
use Rattle.warm_stamps.proofs.DistinctLemmas.{by_cases}

abbrev pub AreBelow : ℕ → MapPairs → Type 0
AreBelow p pairs = AllByRecursion (λ e. e.0 < p) pairs

abbrev pub AreAbove : ℕ → MapPairs → Type 0
AreAbove p pairs = AllByRecursion (λ e. p < e.0) pairs

above : (p k : ℕ) → k < p → nat_cmp p k ≡ Greater
above p k less = sym (nat_cmp_is p k Greater less)

below : (p k : ℕ) → p < k → nat_cmp p k ≡ Less
below p k less = sym (nat_cmp_is p k Less less)

-- ---- pairs before and after the requested ones

pub find_after_lower : (p : ℕ) (low rest : MapPairs) → AreBelow p low
    → found p (low ++ rest) ≡ found p rest
find_after_lower p [] rest all = refl
find_after_lower p (e ∷ low) rest all = let more : nat_cmp p e.0 ≡ Greater = above p e.0 all.0 in rw more (find_after_lower p low rest all.1)

find_none_above : (p : ℕ) (high : MapPairs) → AreAbove p high → found p high ≡ None
find_none_above p [] all = refl
find_none_above p (e ∷ high) all = let less : nat_cmp p e.0 ≡ Less = below p e.0 all.0 in rw less (find_none_above p high all.1)

pub find_before_higher : (p : ℕ) (pairs high : MapPairs) → AreAbove p high
    → found p (pairs ++ high) ≡ found p pairs
find_before_higher p [] high all = find_none_above p high all
find_before_higher p (e ∷ pairs) high all = ap (cond (is_eq (nat_cmp p e.0)) (Some e.1)) (find_before_higher p pairs high all)

pub insert_after_lower : (p : ℕ) (h : PageHist) (low rest : MapPairs) → AreBelow p low
    → insert_entry nat_cmp (low ++ rest) p h ≡ low ++ insert_entry nat_cmp rest p h
insert_after_lower p h [] rest all = refl
insert_after_lower p h (e ∷ low) rest all = let more : nat_cmp p e.0 ≡ Greater = above p e.0 all.0 in rw more (ap (λ t. e ∷ t) (insert_after_lower p h low rest all.1))

insert_first : (p : ℕ) (h : PageHist) (high : MapPairs) → AreAbove p high
    → insert_entry nat_cmp high p h ≡ (p, h) ∷ high
insert_first p h [] all = refl
insert_first p h (e ∷ high) all = let less : nat_cmp p e.0 ≡ Less = below p e.0 all.0 in rw less refl

pub insert_before_higher : (p : ℕ) (h : PageHist) (pairs high : MapPairs) → AreAbove p high
    → insert_entry nat_cmp (pairs ++ high) p h ≡ insert_entry nat_cmp pairs p h ++ high
insert_before_higher p h [] high all = insert_first p h high all
insert_before_higher p h (e ∷ pairs) high all = by_cases (nat_cmp p e.0) _
    (λ is. rw is refl)
    (λ is. rw is refl)
    (λ is. rw is (ap (λ t. e ∷ t) (insert_before_higher p h pairs high all)))

pub set_after_lower : (p : ℕ) (g : PageHist) (low rest : MapPairs) → AreBelow p low
    → set_value (is_at (nat_cmp p)) (low ++ rest) g ≡ low ++ set_value (is_at (nat_cmp p)) rest g
set_after_lower p g [] rest all = refl
set_after_lower p g (e ∷ low) rest all = let more : nat_cmp p e.0 ≡ Greater = above p e.0 all.0 in rw more (ap (λ t. e ∷ t) (set_after_lower p g low rest all.1))

set_none_above : (p : ℕ) (g : PageHist) (high : MapPairs) → AreAbove p high
    → set_value (is_at (nat_cmp p)) high g ≡ high
set_none_above p g [] all = refl
set_none_above p g (e ∷ high) all = let less : nat_cmp p e.0 ≡ Less = below p e.0 all.0 in rw less (ap (λ t. e ∷ t) (set_none_above p g high all.1))

pub set_before_higher : (p : ℕ) (g : PageHist) (pairs high : MapPairs) → AreAbove p high
    → set_value (is_at (nat_cmp p)) (pairs ++ high) g
    ≡ set_value (is_at (nat_cmp p)) pairs g ++ high
set_before_higher p g [] high all = set_none_above p g high all
set_before_higher p g (e ∷ pairs) high all = by_cases (nat_cmp p e.0) _
    (λ is. rw is (ap (λ t. e ∷ t) (set_before_higher p g pairs high all)))
    (λ is. rw is refl)
    (λ is. rw is (ap (λ t. e ∷ t) (set_before_higher p g pairs high all)))

pub remove_after_lower : (p : ℕ) (low rest : MapPairs) → AreBelow p low
    → remove_entry (is_at (nat_cmp p)) (low ++ rest) ≡ low ++ remove_entry (is_at (nat_cmp p)) rest
remove_after_lower p [] rest all = refl
remove_after_lower p (e ∷ low) rest all = let more : nat_cmp p e.0 ≡ Greater = above p e.0 all.0 in rw more (ap (λ t. e ∷ t) (remove_after_lower p low rest all.1))

remove_none_above : (p : ℕ) (high : MapPairs) → AreAbove p high
    → remove_entry (is_at (nat_cmp p)) high ≡ high
remove_none_above p [] all = refl
remove_none_above p (e ∷ high) all = let less : nat_cmp p e.0 ≡ Less = below p e.0 all.0 in rw less (ap (λ t. e ∷ t) (remove_none_above p high all.1))

pub remove_before_higher : (p : ℕ) (pairs high : MapPairs) → AreAbove p high
    → remove_entry (is_at (nat_cmp p)) (pairs ++ high)
    ≡ remove_entry (is_at (nat_cmp p)) pairs ++ high
remove_before_higher p [] high all = remove_none_above p high all
remove_before_higher p (e ∷ pairs) high all = by_cases (nat_cmp p e.0) _
    (λ is. rw is (ap (λ t. e ∷ t) (remove_before_higher p pairs high all)))
    (λ is. rw is refl)
    (λ is. rw is (ap (λ t. e ∷ t) (remove_before_higher p pairs high all)))

-- ---- the bucket of a key, and those before and after it

lower : (b c p : ℕ) (m : MapPairs) → AllByRecursion (λ (e : ℕ × PageHist). LiesIn b e.0) m → b < c
    → LiesIn c p → AreBelow p m
lower b c p [] all less in_it = tt
lower b c p (e ∷ m) all less in_it =
    let ends : e.0 < first_key (b + 1) = all.0.1 in
    let begins : first_key c ≤ p = in_it.0 in
    let under : e.0 < p = omega arith in
    (under, lower b c p m all.1 less in_it)

AreAbove-append : (p : ℕ) (m n : MapPairs) → AreAbove p m → AreAbove p n → AreAbove p (m ++ n)
AreAbove-append p [] n all more = more
AreAbove-append p (e ∷ m) n all more = (all.0, AreAbove-append p m n all.1 more)

higher_map : (b c p : ℕ) (m : MapPairs) → AllByRecursion (λ (e : ℕ × PageHist). LiesIn c e.0) m
    → b < c → LiesIn b p → AreAbove p m
higher_map b c p [] all less in_it = tt
higher_map b c p (e ∷ m) all less in_it =
    let begins : first_key c ≤ e.0 = all.0.0 in
    let ends : p < first_key (b + 1) = in_it.1 in
    let over : p < e.0 = omega arith in
    (over, higher_map b c p m all.1 less in_it)

higher : (b c p : ℕ) (ms : List MapPairs) → AreBuckets c ms → b < c → LiesIn b p
    → AreAbove p (all_pairs ms)
higher b c p [] are less in_it = tt
higher b c p (m ∷ ms) are less in_it =
    let later : b < c + 1 = omega arith in
    AreAbove-append p m (all_pairs ms) (higher_map b c p m are.0 less in_it) (higher b (c + 1) p ms are.1 later in_it)

here : (b p : ℕ) → LiesIn (b + zero) p → LiesIn b p
here b p in_it =
    let begins : first_key (b + zero) ≤ p = in_it.0 in
    let ends : p < first_key (b + zero + 1) = in_it.1 in
    (omega arith, omega arith)

next : (b i p : ℕ) → LiesIn (b + suc i) p → LiesIn (b + 1 + i) p
next b i p in_it =
    let begins : first_key (b + suc i) ≤ p = in_it.0 in
    let ends : p < first_key (b + suc i + 1) = in_it.1 in
    (omega arith, omega arith)

further : (b i : ℕ) → b < b + suc i
further b i = omega arith

one_more : (b : ℕ) → b < b + 1
one_more b = omega arith

-- ---- what is asked of all, and done to all, is asked of the bucket's map, and done to it

pub find_joined : (b i p : ℕ) (ms : List MapPairs) → AreBuckets b ms → LiesIn (b + i) p
    → found p (all_pairs ms) ≡ found p (map_at ms i)
find_joined b i p [] are in_it = refl
find_joined b zero p (m ∷ ms) are in_it = find_before_higher p m (all_pairs ms) (higher b (b + 1) p ms are.1 (one_more b) (here b p in_it))
find_joined b (suc i) p (m ∷ ms) are in_it = find_after_lower p m (all_pairs ms) (lower b (b + suc i) p m are.0 (further b i) in_it) ∙ find_joined (b + 1) i p ms are.1 (next b i p in_it)

pub insert_joined : (b i p : ℕ) (h : PageHist) (ms : List MapPairs) → AreBuckets b ms
    → LiesIn (b + i) p → i < length ms
    → insert_entry nat_cmp (all_pairs ms) p h
    ≡ all_pairs (with_map ms i (insert_entry nat_cmp (map_at ms i) p h))
insert_joined b i p h [] are in_it there = absurd (omega arith)
insert_joined b zero p h (m ∷ ms) are in_it there = insert_before_higher p h m (all_pairs ms) (higher b (b + 1) p ms are.1 (one_more b) (here b p in_it))
insert_joined b (suc i) p h (m ∷ ms) are in_it there =
    let left : i < length ms = omega arith in
    insert_after_lower p h m (all_pairs ms) (lower b (b + suc i) p m are.0 (further b i) in_it) ∙ ap (λ t. m ++ t) (insert_joined (b + 1) i p h ms are.1 (next b i p in_it) left)

pub set_joined : (b i p : ℕ) (g : PageHist) (ms : List MapPairs) → AreBuckets b ms
    → LiesIn (b + i) p → set_value (is_at (nat_cmp p)) (all_pairs ms) g
    ≡ all_pairs (with_map ms i (set_value (is_at (nat_cmp p)) (map_at ms i) g))
set_joined b i p g [] are in_it = refl
set_joined b zero p g (m ∷ ms) are in_it = set_before_higher p g m (all_pairs ms) (higher b (b + 1) p ms are.1 (one_more b) (here b p in_it))
set_joined b (suc i) p g (m ∷ ms) are in_it =
    set_after_lower p g m (all_pairs ms) (lower b (b + suc i) p m are.0 (further b i) in_it) ∙ ap (λ t. m ++ t) (set_joined (b + 1) i p g ms are.1 (next b i p in_it))

pub remove_joined : (b i p : ℕ) (ms : List MapPairs) → AreBuckets b ms → LiesIn (b + i) p
    → remove_entry (is_at (nat_cmp p)) (all_pairs ms)
    ≡ all_pairs (with_map ms i (remove_entry (is_at (nat_cmp p)) (map_at ms i)))
remove_joined b i p [] are in_it = refl
remove_joined b zero p (m ∷ ms) are in_it = remove_before_higher p m (all_pairs ms) (higher b (b + 1) p ms are.1 (one_more b) (here b p in_it))
remove_joined b (suc i) p (m ∷ ms) are in_it =
    remove_after_lower p m (all_pairs ms) (lower b (b + suc i) p m are.0 (further b i) in_it) ∙ ap (λ t. m ++ t) (remove_joined (b + 1) i p ms are.1 (next b i p in_it))

-- ---- what a test chooses that passes in one bucket alone

pub filter-append : (test : ℕ → Bool) (m n : MapPairs)
    → filter (λ e. test e.0) (m ++ n) ≡ filter (λ e. test e.0) m ++ filter (λ e. test e.0) n
filter-append test [] n = refl
filter-append test (e ∷ m) n = cases (test e.0) (filter-append test m n)
  where
    cases : (b : Bool) → filter (λ e. test e.0) (m ++ n)
        ≡ filter (λ e. test e.0) m ++ filter (λ e. test e.0) n
        → cond b (e ∷ filter (λ e. test e.0) (m ++ n)) (filter (λ e. test e.0) (m ++ n))
        ≡ cond b (e ∷ filter (λ e. test e.0) m) (filter (λ e. test e.0) m)
        ++ filter (λ e. test e.0) n
    cases true later = ap (λ t. e ∷ t) later
    cases false later = later
