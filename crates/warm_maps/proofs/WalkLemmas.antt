-- What a walk finds, and what a run changes.
use Rattle.std.proofs.Common.{◌≡◌, ◌≢◌, ℕ, ◌<◌, ◌≤◌, inl, inr, Bool, true, false, cond, [], ◌∷◌, ◌++◌, sym, ap, refl, ◌∙◌, subst, arith, append_assoc, Option, Some, None, filter, slice_get, Bor}
use Rattle.std.specs.List.{AllByRecursion}
use Rattle.std.specs.Option.{option_map}
use Rattle.std.specs.Map.Iter.{TakesFirst, deref_pair}
use Rattle.std.specs.BTreeMap.Range.{entries_between, range_contains}
use Rattle.std.specs.Ordering.{is_eq, nat_cmp, on}
use Rattle.std.specs.Cmp.{nat_cmp_is}
use Rattle.std.specs.declared.ops.Bound.TheVariants.{Included, Unbounded}
use Rattle.std.specs.declared.cmp.Ordering.TheVariants.{Less, Equal, Greater}
use Rattle.std.proofs.lemmas.Cmp.{ranked, tied_itself}
use Rattle.std.proofs.lemmas.List.{append-nil}
use Rattle.std.proofs.Math.Nat.{le_refl}
use Rattle.warm_stamps.proofs.DistinctLemmas.{by_cases, is_equal, rising_filter}
use Rattle.warm_maps.specs.declared.hist.PageHist.{PageHist}
use Rattle.warm_maps.specs.PageHists.{latest_of, hist_stamps, known_stamps}
use Rattle.warm_maps.specs.MapPairs.{MapPairs}
use Rattle.warm_maps.specs.BucketMaps.{KeysAscend, found}
use Rattle.warm_maps.specs.Walks.{joined_with, pair_and, HoldsFrom, IsPart, AddsPart, AreParts}
use Rattle.warm_maps.proofs.MapKeyOrder.{nat_order}
use Rattle.warm_maps.proofs.MapPairLemmas.{below_all, no_later}

-- ---- what is found of pairs

found_first : (key : ℕ) (h : PageHist) (later : MapPairs) → found key ((key, h) ∷ later) ≡ Some h
found_first key h later = let own : nat_cmp key key ≡ Equal = tied_itself nat_order.total key in rw own refl

found_past : (q at : ℕ) (h : PageHist) (later : MapPairs) → at < q
    → found q ((at, h) ∷ later) ≡ found q later
found_past q at h later past = let more : nat_cmp q at ≡ Greater = sym (nat_cmp_is q at Greater past) in rw more refl

found_before : (q at : ℕ) (h : PageHist) (later : MapPairs) → q < at → KeysAscend ((at, h) ∷ later)
    → found q ((at, h) ∷ later) ≡ None
found_before q at h later before rise =
    let less : nat_cmp q at ≡ Less = sym (nat_cmp_is q at Less before) in
    no_later q ((at, h) ∷ later) (less, below_all q at later less rise.0)

-- a test that the key passes leaves what is found at it
found_filter : (test : ℕ → Bool) (q : ℕ) → test q ≡ true → (pairs : MapPairs)
    → found q (filter (λ e. test e.0) pairs) ≡ found q pairs
found_filter test q passes [] = refl
found_filter test q passes (e ∷ pairs) = cases (test e.0) refl (is_eq (nat_cmp q e.0)) refl (found_filter test q passes pairs)
  where
    cases : (b : Bool) → test e.0 ≡ b → (c : Bool) → is_eq (nat_cmp q e.0) ≡ c
        → found q (filter (λ x. test x.0) pairs) ≡ found q pairs
        → found q (filter (λ x. test x.0) (e ∷ pairs)) ≡ found q (e ∷ pairs)
    cases true is c at rest = rw is (ap (cond (is_eq (nat_cmp q e.0)) (Some e.1)) rest)
    cases false is true at rest =
        let same : q ≡ e.0 = nat_order.same q e.0 (is_equal (nat_cmp q e.0) at) in
        let no : true ≡ false = sym passes ∙ ap test same ∙ is in
        absurd (cc)
    cases false is false at rest = rw (is, at) rest

-- ---- a walk

-- what `next` gave, and what it left, are what was left before
pub after_next : (r : Option (Bor ℕ × Bor PageHist)) (s t : MapPairs) → TakesFirst deref_pair s r t
    → pair_and (option_map deref_pair r) t ≡ s
after_next None s t takes = sym takes.0
after_next (Some x) s t takes = sym takes

from_on : (key q : ℕ) → key ≤ q → range_contains nat_cmp (Included key) Unbounded q ≡ true
from_on key q le = by_cases (nat_cmp key q) _
    (λ less. rw less refl)
    (λ tied. rw tied refl)
    (λ more. let past : q < key = ranked key q Greater (sym more) in absurd (omega arith))

pub begins : (key : ℕ) (all : MapPairs) → KeysAscend all
    → HoldsFrom key (entries_between nat_cmp (Included key) Unbounded all) all
begins key all rise = record {
  rise = rising_filter (on (λ (e : ℕ × PageHist). e.0) nat_cmp) (λ (e : ℕ × PageHist). range_contains nat_cmp (Included key) Unbounded e.0) all rise;
  same = λ q le. found_filter (range_contains nat_cmp (Included key) Unbounded) q (from_on key q le) all;
}

-- nothing before the key is
pub begins_on : (key : ℕ) (all : MapPairs)
    → AllByRecursion (λ (e : ℕ × PageHist). key ≤ e.0)
    (entries_between nat_cmp (Included key) Unbounded all)
begins_on key [] = tt
begins_on key (e ∷ all) = by_cases (nat_cmp key e.0) _
    (λ less. let past : key < e.0 = ranked key e.0 Less (sym less) in let on : key ≤ e.0 = omega arith in rw less (on, begins_on key all))
    (λ tied. let same : key ≡ e.0 = ranked key e.0 Equal (sym tied) in let on : key ≤ e.0 = omega arith in rw tied (on, begins_on key all))
    (λ more. rw more (begins_on key all))

-- the first pair ahead, if there is one, is past the key
pub ahead_none : (key : ℕ) (first : Option (Bor ℕ × Bor PageHist)) (later all : MapPairs)
    → first ≡ None → HoldsFrom key (pair_and (option_map deref_pair first) later) all
    → None ≡ found key all
ahead_none key first later all is holds =
    let now : HoldsFrom key [] all = subst (λ o. HoldsFrom key (pair_and (option_map deref_pair o) later) all) is holds in
    now.same key (le_refl key)

pub ahead_past : (key : ℕ) (first : Option (Bor ℕ × Bor PageHist)) (x : Bor ℕ × Bor PageHist)
    (later all : MapPairs) → first ≡ Some x
    → HoldsFrom key (pair_and (option_map deref_pair first) later) all → key < x.0.now
    → None ≡ found key all
ahead_past key first x later all is holds past =
    let now : HoldsFrom key ((x.0.now, x.1.now) ∷ later) all = subst (λ o. HoldsFrom key (pair_and (option_map deref_pair o) later) all) is holds in
    sym (found_before key x.0.now x.1.now later past now.rise) ∙ now.same key (le_refl key)

-- it is at the key
pub ahead_here : (key : ℕ) (first : Option (Bor ℕ × Bor PageHist)) (x : Bor ℕ × Bor PageHist)
    (later all : MapPairs) → first ≡ Some x
    → HoldsFrom key (pair_and (option_map deref_pair first) later) all → key ≡ x.0.now
    → Some x.1.now ≡ found key all
ahead_here key first x later all is holds here =
    let now : HoldsFrom key ((x.0.now, x.1.now) ∷ later) all = subst (λ o. HoldsFrom key (pair_and (option_map deref_pair o) later) all) is holds in
    sym (found_first key x.1.now later)
    ∙ ap (λ k. found key ((k, x.1.now) ∷ later)) here
    ∙ now.same key (le_refl key)

-- it is before the key, and is passed
pub ahead_passed : (key : ℕ) (first : Option (Bor ℕ × Bor PageHist)) (x : Bor ℕ × Bor PageHist)
    (later all : MapPairs) → first ≡ Some x
    → HoldsFrom key (pair_and (option_map deref_pair first) later) all → x.0.now < key
    → HoldsFrom key later all
ahead_passed key first x later all is holds passed =
    let now : HoldsFrom key ((x.0.now, x.1.now) ∷ later) all = subst (λ o. HoldsFrom key (pair_and (option_map deref_pair o) later) all) is holds in
    record {
      rise = now.rise.1;
      same = λ q le. let past : x.0.now < q = omega arith in sym (found_past q x.0.now x.1.now later past) ∙ now.same q le;
    }

-- the key of the first pair ahead
pub first_on : (key : ℕ) (first : Option (Bor ℕ × Bor PageHist)) (x : Bor ℕ × Bor PageHist)
    (later : MapPairs) → first ≡ Some x
    → AllByRecursion (λ (e : ℕ × PageHist). key ≤ e.0)
    (pair_and (option_map deref_pair first) later) → key ≤ x.0.now
first_on key first x later is on = (subst (λ o. AllByRecursion (λ (e : ℕ × PageHist). key ≤ e.0) (pair_and (option_map deref_pair o) later)) is on).0

-- what holds from a key on holds from a later one on
pub holds_later : (key next : ℕ) (ahead all : MapPairs) → key ≤ next → HoldsFrom key ahead all
    → HoldsFrom next ahead all
holds_later key next ahead all le holds = record {
  rise = holds.rise;
  same = λ q later. let on : key ≤ q = omega arith in holds.same q on;
}

-- ---- what a pair of a run changes

pub adds_new : (known : Option PageHist) (key : ℕ) (more : PageHist)
    (changed fresh fresh' : MapPairs) → known ≡ None
    → Some more ≡ latest_of (hist_stamps more ++ known_stamps None)
    → fresh' ≡ fresh ++ (key, more) ∷ [] → AddsPart known key more changed fresh changed fresh'
adds_new known key more changed fresh fresh' none latest is = subst (λ k. AddsPart k key more changed fresh changed fresh') (sym none) (record {
  value = more;
  change = [];
  new = (key, more) ∷ [];
  joins = sym latest;
  part = (refl, refl);
  changed_is = sym (append-nil changed);
  fresh_is = is;
})

pub adds_nothing : (known : Option PageHist) (key : ℕ) (more g : PageHist)
    (changed fresh : MapPairs) → known ≡ Some g
    → Some g ≡ latest_of (hist_stamps more ++ hist_stamps g)
    → AddsPart known key more changed fresh changed fresh
adds_nothing known key more g changed fresh some latest = subst (λ k. AddsPart k key more changed fresh changed fresh) (sym some) (record {
  value = g;
  change = [];
  new = [];
  joins = sym latest;
  part = (refl, inl (refl, refl));
  changed_is = sym (append-nil changed);
  fresh_is = sym (append-nil fresh);
})

pub adds_change : (known : Option PageHist) (key : ℕ) (more g h : PageHist)
    (changed fresh changed' : MapPairs) → known ≡ Some g
    → Some h ≡ latest_of (hist_stamps more ++ hist_stamps g) → h ≢ g
    → changed' ≡ changed ++ (key, h) ∷ [] → AddsPart known key more changed fresh changed' fresh
adds_change known key more g h changed fresh changed' some latest differs is = subst (λ k. AddsPart k key more changed fresh changed' fresh) (sym some) (record {
  value = h;
  change = (key, h) ∷ [];
  new = [];
  joins = sym latest;
  part = (refl, inr ((λ same. differs (sym same)), refl));
  changed_is = is;
  fresh_is = sym (append-nil fresh);
})

-- ---- what a run changes

some_same : {A : Type 0} (x y : A) → Some x ≡ Some y → x ≡ y
some_same x y e = cc

-- pairs at rising keys, of which each key is past this one
holds_each : (key : ℕ) (ahead all run : MapPairs) → HoldsFrom key ahead all
    → AllByRecursion (λ (e : ℕ × PageHist). nat_cmp key e.0 ≡ Less) run
    → AllByRecursion (λ (e : ℕ × PageHist). HoldsFrom e.0 ahead all) run
holds_each key ahead all [] holds above = tt
holds_each key ahead all (e ∷ run) holds above =
    let past : key < e.0 = ranked key e.0 Less (sym above.0) in
    (holds_later key e.0 ahead all (omega arith) holds, holds_each key ahead all run holds above.1)

-- a walk at the first key of a run can go on to all of its keys
pub holds_all : (ahead all : MapPairs) (e : ℕ × PageHist) (run : MapPairs)
    → Some e ≡ slice_get run 0 → HoldsFrom e.0 ahead all → KeysAscend run
    → AllByRecursion (λ (x : ℕ × PageHist). HoldsFrom x.0 ahead all) run
holds_all ahead all e [] is holds rise = tt
holds_all ahead all e (x ∷ run) is holds rise =
    let same : e ≡ x = some_same e x is in
    let first : HoldsFrom x.0 ahead all = subst (λ (p : ℕ × PageHist). HoldsFrom p.0 ahead all) same holds in
    (first, holds_each x.0 ahead all run first rise.0)

-- at a later key of a run it can go on to the rest
pub holds_rest : (ahead all : MapPairs) (e : ℕ × PageHist) (run : MapPairs)
    → HoldsFrom e.0 ahead all → KeysAscend (e ∷ run)
    → AllByRecursion (λ (x : ℕ × PageHist). HoldsFrom x.0 ahead all) run
holds_rest ahead all e run holds rise = holds_each e.0 ahead all run holds rise.0

-- what the rest of a run changes, after its first pair
pub parts_more : (old run left rest : MapPairs) (e : ℕ × PageHist) (known : Option PageHist)
    (changed fresh changed' fresh' : MapPairs) → left ≡ e ∷ rest → known ≡ found e.0 old
    → AddsPart known e.0 e.1 changed fresh changed' fresh'
    → ((c f : MapPairs) → AreParts old left c f → AreParts old run (changed ++ c) (fresh ++ f))
    → (c f : MapPairs) → AreParts old rest c f → AreParts old run (changed' ++ c) (fresh' ++ f)
parts_more old run left rest e known changed fresh changed' fresh' is same adds goes c f are =
    let joins : joined_with e.1 (found e.0 old) ≡ Some adds.value = subst (λ k. joined_with e.1 k ≡ Some adds.value) same adds.joins in
    let part : IsPart (found e.0 old) e.0 adds.value adds.change adds.new = subst (λ k. IsPart k e.0 adds.value adds.change adds.new) same adds.part in
    let first : AreParts old (e ∷ rest) (adds.change ++ c) (adds.new ++ f) = (c, f, are, adds.value, adds.change, adds.new, joins, part, refl, refl) in
    let all = goes (adds.change ++ c) (adds.new ++ f) (subst (λ t. AreParts old t (adds.change ++ c) (adds.new ++ f)) (sym is) first) in
    let changed_all : changed ++ (adds.change ++ c) ≡ changed' ++ c = sym (append_assoc changed adds.change c) ∙ ap (λ t. t ++ c) (sym adds.changed_is) in
    let fresh_all : fresh ++ (adds.new ++ f) ≡ fresh' ++ f = sym (append_assoc fresh adds.new f) ∙ ap (λ t. t ++ f) (sym adds.fresh_is) in
    subst (λ t. AreParts old run t (fresh' ++ f)) changed_all (subst (λ t. AreParts old run (changed ++ (adds.change ++ c)) t) fresh_all all)

-- nothing is left
pub parts_end : (old run left changed fresh : MapPairs) → left ≡ []
    → ((c f : MapPairs) → AreParts old left c f → AreParts old run (changed ++ c) (fresh ++ f))
    → AreParts old run changed fresh
parts_end old run left changed fresh none goes =
    let all = goes [] [] (subst (λ t. AreParts old t [] []) (sym none) (refl, refl)) in
    subst (λ t. AreParts old run t fresh) (append-nil changed) (subst (λ t. AreParts old run (changed ++ []) t) (append-nil fresh) all)
