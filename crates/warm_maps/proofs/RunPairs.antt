-- The pairs of a run, and the map that they fill.
use Rattle.std.proofs.Common.{◌≡◌, ℕ, Bool, true, false, List, [], ◌∷◌, ◌++◌, sym, ap, refl, ◌∙◌, subst, arith, Option, Some, None, length, zero, suc, filter, ◌+◌, ◌<◌, ◌≤◌}
use Rattle.std.specs.List.{AllByRecursion}
use Rattle.std.specs.List.Sorted.{IsStrictlySortedBy}
use Rattle.std.specs.Option.{option_or}
use Rattle.std.specs.Map.{keys_of, update, update_all}
use Rattle.std.specs.BTreeMap.{BTreeMap, insert_entry, IsFromIterResult}
use Rattle.std.specs.Ordering.{is_eq, eq_by_cmp, nat_cmp}
use Rattle.std.specs.Cmp.{nat_cmp_is}
use Rattle.std.specs.declared.cmp.Ordering.TheVariants.{Less, Equal, Greater}
use Rattle.std.proofs.lemmas.Cmp.{nat_cmp_total, tied_itself}
use Rattle.warm_stamps.proofs.DistinctLemmas.{by_cases, flipped, is_equal}
use Rattle.warm_maps.specs.declared.hist.PageHist.{PageHist}
use Rattle.warm_maps.specs.declared.hist.Entry.{Entry}
use Rattle.warm_maps.specs.PageHists.{latest_of, hist_stamps, is_kept}
use Rattle.warm_maps.specs.MapKeys.{first_key, first_far_key, key_of_page}
use Rattle.warm_maps.specs.MapPairs.{MapPairs}
use Rattle.warm_maps.specs.BucketMaps.{all_pairs, AreBuckets, LiesIn, map_at, with_map, KeysAscend, found}
use Rattle.warm_maps.specs.Runs.{RiseWithin, IsRun, at_key, run_pairs, with_pairs}
use Rattle.warm_maps.proofs.MapKeyOrder.{nat_order}
use Rattle.warm_maps.proofs.MapPairLemmas.{below_all, no_later}
use Rattle.warm_maps.proofs.BucketLemmas.{insert_joined}
use Rattle.warm_maps.proofs.BucketSteps.{AllIn, in_insert, buckets_with, with_same}

abbrev pub AreAbove : ℕ → MapPairs → Type 0
AreAbove p pairs = AllByRecursion (λ e. nat_cmp p e.0 ≡ Less) pairs

pub none_of : (pairs : MapPairs) → length pairs ≡ 0 → pairs ≡ []
none_of [] none = refl
none_of (e ∷ pairs) none = absurd (omega arith)

-- ---- the pairs of a run lie at rising keys of the bucket

pub within : (m low from to : ℕ) (es : List Entry) → low ≤ from → RiseWithin from to es
    → AllByRecursion (λ (e : ℕ × PageHist). (low ≤ e.0) × (e.0 < to)) (run_pairs m es)
within m low from to [] le rise = tt
within m low from to (e ∷ es) le rise =
    let p = key_of_page e.page in
    let starts : from ≤ p = rise.0 in
    let later : low ≤ p + 1 = omega arith in
    cases (latest_of (filter (is_kept m) (hist_stamps e.hist))) (omega arith) rise.1 (within m low (p + 1) to es later rise.3)
  where
    cases : (o : Option PageHist) → low ≤ key_of_page e.page → key_of_page e.page < to
        → AllByRecursion (λ (e : ℕ × PageHist). (low ≤ e.0) × (e.0 < to)) (run_pairs m es)
        → AllByRecursion (λ (e : ℕ × PageHist). (low ≤ e.0) × (e.0 < to))
        (at_key (key_of_page e.page) o ++ run_pairs m es)
    cases None begins ends all = all
    cases (Some h) begins ends all = ((begins, ends), all)

above_all : (p to : ℕ) (pairs : MapPairs)
    → AllByRecursion (λ (e : ℕ × PageHist). (p + 1 ≤ e.0) × (e.0 < to)) pairs → AreAbove p pairs
above_all p to [] all = tt
above_all p to (e ∷ pairs) all =
    let next : p + 1 ≤ e.0 = all.0.0 in
    let below : p < e.0 = omega arith in
    (sym (nat_cmp_is p e.0 Less below), above_all p to pairs all.1)

-- those after a key are above it
pub run_above : (m p to : ℕ) (es : List Entry) → RiseWithin (p + 1) to es
    → AreAbove p (run_pairs m es)
run_above m p to es rise = above_all p to (run_pairs m es) (within m (p + 1) (p + 1) to es (omega arith) rise)

pub pairs_rise : (m from to : ℕ) (es : List Entry) → RiseWithin from to es
    → KeysAscend (run_pairs m es)
pairs_rise m from to [] rise = tt
pairs_rise m from to (e ∷ es) rise = cases (latest_of (filter (is_kept m) (hist_stamps e.hist))) (run_above m (key_of_page e.page) to es rise.3) (pairs_rise m (key_of_page e.page + 1) to es rise.3)
  where
    cases : (o : Option PageHist) → AreAbove (key_of_page e.page) (run_pairs m es)
        → KeysAscend (run_pairs m es) → KeysAscend (at_key (key_of_page e.page) o ++ run_pairs m es)
    cases None above later = later
    cases (Some h) above later = (above, later)

-- the near devices are those of the first keys of a bucket
pub near_first : (number key : ℕ) → (first_key number ≤ key) × (key < first_far_key number)
    → LiesIn number key
near_first number key is =
    let below : key < first_far_key number = is.1 in
    (is.0, omega arith)

all_first : (number : ℕ) (pairs : MapPairs)
    → AllByRecursion (λ (e : ℕ × PageHist). (first_key number ≤ e.0) × (e.0 < first_far_key number))
    pairs → AllIn number pairs
all_first number [] all = tt
all_first number (e ∷ pairs) all = (near_first number e.0 all.0, all_first number pairs all.1)

pub pairs_inside : (m number : ℕ) (es : List Entry) → IsRun number es
    → AllIn number (run_pairs m es)
pairs_inside m number es run = all_first number (run_pairs m es) (within m (first_key number) (first_key number) (first_far_key number) es (omega arith) run)

-- ---- pairs that are put into a map

pub in_filled : (b : ℕ) (m run : MapPairs) → AllIn b m → AllIn b run → AllIn b (with_pairs m run)
in_filled b m [] all more = all
in_filled b m (e ∷ run) all more = in_insert b e.0 e.1 (with_pairs m run) more.0 (in_filled b m run all more.1)

pub map_at-with : (ms : List MapPairs) (i : ℕ) (n : MapPairs) → i < length ms
    → map_at (with_map ms i n) i ≡ n
map_at-with [] i n there = absurd (omega arith)
map_at-with (m ∷ ms) zero n there = refl
map_at-with (m ∷ ms) (suc i) n there = let left : i < length ms = omega arith in map_at-with ms i n left

with_twice : (ms : List MapPairs) (i : ℕ) (n k : MapPairs)
    → with_map (with_map ms i n) i k ≡ with_map ms i k
with_twice [] i n k = refl
with_twice (m ∷ ms) zero n k = refl
with_twice (m ∷ ms) (suc i) n k = ap (λ t. m ∷ t) (with_twice ms i n k)

length-with : (ms : List MapPairs) (i : ℕ) (n : MapPairs) → length (with_map ms i n) ≡ length ms
length-with [] i n = refl
length-with (m ∷ ms) zero n = refl
length-with (m ∷ ms) (suc i) n = ap suc (length-with ms i n)

-- what is put into the map of its bucket is put into all
pub filled_joined : (b i : ℕ) (ms : List MapPairs) (run : MapPairs) → AreBuckets b ms
    → i < length ms → AllIn (b + i) run → AllIn (b + i) (map_at ms i)
    → with_pairs (all_pairs ms) run ≡ all_pairs (with_map ms i (with_pairs (map_at ms i) run))
filled_joined b i ms [] are there all own = ap all_pairs (sym (with_same ms i))
filled_joined b i ms (e ∷ run) are there all own =
    let n = with_pairs (map_at ms i) run in
    let inside : i < length (with_map ms i n) = subst (λ k. i < k) (sym (length-with ms i n)) there in
    ap (λ t. insert_entry nat_cmp t e.0 e.1) (filled_joined b i ms run are there all.1 own)
    ∙ insert_joined b i e.0 e.1 (with_map ms i n) (buckets_with b i n ms are (in_filled (b + i) (map_at ms i) run own all.1)) all.0 inside
    ∙ ap (λ t. all_pairs (with_map (with_map ms i n) i (insert_entry nat_cmp t e.0 e.1))) (map_at-with ms i n there)
    ∙ ap all_pairs (with_twice ms i n (insert_entry nat_cmp n e.0 e.1))

-- ---- a map that is made of pairs at rising keys has these

keys_above : (p : ℕ) (es : MapPairs) → AllByRecursion (λ k. nat_cmp p k ≡ Less) (keys_of es)
    → AreAbove p es
keys_above p [] all = tt
keys_above p (e ∷ es) all = (all.0, keys_above p es all.1)

pub keys_rise : (es : MapPairs) → IsStrictlySortedBy nat_cmp (keys_of es) → KeysAscend es
unfolding IsStrictlySortedBy
keys_rise [] sorted = tt
keys_rise (e ∷ es) sorted = (keys_above e.0 es sorted.0, keys_rise es sorted.1)

-- rising pairs in which the same is found are the same
pub same_found : (m n : MapPairs) → KeysAscend m → KeysAscend n → ((q : ℕ) → found q m ≡ found q n)
    → m ≡ n
same_found [] [] rise_m rise_n alike = refl
same_found [] (y ∷ n) rise_m rise_n alike =
    let own : nat_cmp y.0 y.0 ≡ Equal = tied_itself nat_cmp_total y.0 in
    let some : found y.0 (y ∷ n) ≡ Some y.1 = rw own refl in
    let no : None ≡ Some y.1 = alike y.0 ∙ some in
    absurd (cc)
same_found (x ∷ m) [] rise_m rise_n alike =
    let own : nat_cmp x.0 x.0 ≡ Equal = tied_itself nat_cmp_total x.0 in
    let some : found x.0 (x ∷ m) ≡ Some x.1 = rw own refl in
    let no : None ≡ Some x.1 = sym (alike x.0) ∙ some in
    absurd (cc)
same_found (x ∷ m) (y ∷ n) rise_m rise_n alike = by_cases (nat_cmp x.0 y.0) _
    (λ less.
    let none : found x.0 (y ∷ n) ≡ None = no_later x.0 (y ∷ n) (less, below_all x.0 y.0 n less rise_n.0) in
    let no : None ≡ Some x.1 = sym none ∙ sym (alike x.0) ∙ first_found x m in
    absurd (cc))
    (λ tied.
    let key : x.0 ≡ y.0 = nat_order.same x.0 y.0 tied in
    let value : Some x.1 ≡ Some y.1 = sym (first_found x m) ∙ alike x.0 ∙ ap (λ k. found k (y ∷ n)) key ∙ first_found y n in
    let hist : x.1 ≡ y.1 = cc in
    let rest : m ≡ n = same_found m n rise_m.1 rise_n.1 (λ q. later key hist q) in
    ap (λ k. (k, x.1) ∷ m) key ∙ ap (λ h. (y.0, h) ∷ m) hist ∙ ap (λ t. y ∷ t) rest)
    (λ more.
    let less : nat_cmp y.0 x.0 ≡ Less = flipped nat_cmp nat_order x.0 y.0 Greater more in
    let none : found y.0 (x ∷ m) ≡ None = no_later y.0 (x ∷ m) (less, below_all y.0 x.0 m less rise_m.0) in
    let no : None ≡ Some y.1 = sym none ∙ alike y.0 ∙ first_found y n in
    absurd (cc))
  where
    first_found : (e : ℕ × PageHist) (es : MapPairs) → found e.0 (e ∷ es) ≡ Some e.1
    first_found e es = let own : nat_cmp e.0 e.0 ≡ Equal = tied_itself nat_cmp_total e.0 in rw own refl

    past : (q : ℕ) (e : ℕ × PageHist) (es : MapPairs) → is_eq (nat_cmp q e.0) ≡ false
        → found q (e ∷ es) ≡ found q es
    past q e es away = rw away refl

    later : x.0 ≡ y.0 → x.1 ≡ y.1 → (q : ℕ) → found q m ≡ found q n
    later key hist q = cases (is_eq (nat_cmp q x.0)) refl
      where
        cases : (b : Bool) → is_eq (nat_cmp q x.0) ≡ b → found q m ≡ found q n
        cases true here =
            let same : q ≡ x.0 = nat_order.same q x.0 (is_equal (nat_cmp q x.0) here) in
            let none_m : found q m ≡ None = subst (λ k. found k m ≡ None) (sym same) (no_later x.0 m rise_m.0) in
            let none_n : found q n ≡ None = subst (λ k. found k n ≡ None) (sym (same ∙ key)) (no_later y.0 n rise_n.0) in
            none_m ∙ sym none_n
        cases false away =
            let also : is_eq (nat_cmp q y.0) ≡ false = ap (λ k. is_eq (nat_cmp q k)) (sym key) ∙ away in
            sym (past q x m away) ∙ alike q ∙ past q y n also

-- a pair that is put in first is read after those put in later
pub all_updated : (f : ℕ → Option PageHist) (run : MapPairs) (q : ℕ) → KeysAscend run
    → update_all (eq_by_cmp nat_cmp) f run q ≡ option_or (found q run) (f q)
all_updated f [] q rise = refl
all_updated f (e ∷ run) q rise = all_updated (update (eq_by_cmp nat_cmp) f e.0 (Some e.1)) run q rise.1 ∙ by_cases (nat_cmp e.0 q) _
    (λ less. let back : nat_cmp q e.0 ≡ Greater = flipped nat_cmp nat_order e.0 q Less less in rw (less, back) refl)
    (λ tied.
    let back : nat_cmp q e.0 ≡ Equal = flipped nat_cmp nat_order e.0 q Equal tied in
    let same : e.0 ≡ q = nat_order.same e.0 q tied in
    let none : found q run ≡ None = subst (λ k. found k run ≡ None) same (no_later e.0 run rise.0) in
    rw (tied, back, none) refl)
    (λ more. let back : nat_cmp q e.0 ≡ Less = flipped nat_cmp nat_order e.0 q Greater more in rw (more, back) refl)

or_none : (x : Option PageHist) → option_or x None ≡ x
or_none None = refl
or_none (Some x) = refl

pub made_of : (run : MapPairs) (n : BTreeMap ℕ PageHist) → KeysAscend run
    → IsFromIterResult nat_cmp run n → n.entries ≡ run
made_of run n rise made = same_found n.entries run (keys_rise n.entries made.1) rise (λ q. made.0 q ∙ all_updated (λ k. None) run q rise ∙ or_none (found q run))
