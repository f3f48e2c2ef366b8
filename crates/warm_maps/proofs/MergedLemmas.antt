-- What pairs are once a run was merged into them.
use Rattle.std.proofs.Common.{◌≡◌, ◌≢◌, ℕ, ◌+◌, ◌≤◌, inl, inr, Bool, true, false, cond, [], ◌∷◌, ◌++◌, sym, ap, refl, ◌∙◌, subst, arith, length, Option, Some, None, IsSome}
use Rattle.std.specs.List.{AllByRecursion}
use Rattle.std.specs.Option.{option_or}
use Rattle.std.specs.BTreeMap.{insert_entry}
use Rattle.std.specs.Ordering.{is_eq, nat_cmp}
use Rattle.std.specs.declared.cmp.Ordering.TheVariants.{Less, Equal, Greater}
use Rattle.std.proofs.lemmas.Cmp.{tied_itself}
use Rattle.warm_stamps.proofs.DistinctLemmas.{by_cases, is_equal}
use Rattle.warm_maps.specs.declared.hist.PageHist.{PageHist}
use Rattle.warm_maps.specs.MapPairs.{MapPairs}
use Rattle.warm_maps.specs.BucketMaps.{KeysAscend, found}
use Rattle.warm_maps.specs.Runs.{at_key, with_pairs}
use Rattle.warm_maps.specs.Walks.{joined_with, joined_pairs, merged, IsPart, AreParts, AreAbsent, AreThere, AreTwoLatest, SameElsewhere, DiffersAt}
use Rattle.warm_maps.proofs.MapKeyOrder.{nat_order}
use Rattle.warm_maps.proofs.MapPairLemmas.{no_later, rising_insert}
use Rattle.warm_maps.proofs.BucketCounts.{few_inserted}
use Rattle.warm_maps.proofs.RunPairs.{AreAbove, same_found}

-- ---- what is found of pairs with others put in

pub found_insert : (q p : ℕ) (h : PageHist) (pairs : MapPairs)
    → found q (insert_entry nat_cmp pairs p h) ≡ cond (is_eq (nat_cmp q p)) (Some h) (found q pairs)
found_insert q p h [] = refl
found_insert q p h (e ∷ pairs) = by_cases (nat_cmp p e.0) _
    (λ pe. rw pe refl)
    (λ pe.
    let same : p ≡ e.0 = nat_order.same p e.0 pe in
    rw pe (over (is_eq (nat_cmp q e.0)) ∙ ap (λ k. cond (is_eq (nat_cmp q k)) (Some h) (cond (is_eq (nat_cmp q e.0)) (Some e.1) (found q pairs))) (sym same)))
    (λ pe. rw pe (cases pe (is_eq (nat_cmp q p)) refl (is_eq (nat_cmp q e.0)) refl (found_insert q p h pairs)))
  where
    over : (b : Bool) → cond b (Some h) (found q pairs)
        ≡ cond b (Some h) (cond b (Some e.1) (found q pairs))
    over true = refl
    over false = refl

    cases : nat_cmp p e.0 ≡ Greater → (b : Bool) → is_eq (nat_cmp q p) ≡ b → (c : Bool)
        → is_eq (nat_cmp q e.0) ≡ c
        → found q (insert_entry nat_cmp pairs p h)
        ≡ cond (is_eq (nat_cmp q p)) (Some h) (found q pairs)
        → cond (is_eq (nat_cmp q e.0)) (Some e.1) (found q (insert_entry nat_cmp pairs p h))
        ≡ cond (is_eq (nat_cmp q p)) (Some h)
        (cond (is_eq (nat_cmp q e.0)) (Some e.1) (found q pairs))
    cases pe true at_p true at_e rest =
        let one : q ≡ p = nat_order.same q p (is_equal (nat_cmp q p) at_p) in
        let other : q ≡ e.0 = nat_order.same q e.0 (is_equal (nat_cmp q e.0) at_e) in
        let own : nat_cmp q q ≡ Equal = tied_itself nat_order.total q in
        let tied : nat_cmp p e.0 ≡ Equal = subst (λ k. nat_cmp p k ≡ Equal) other (subst (λ k. nat_cmp k q ≡ Equal) one own) in
        let no : Greater ≡ Equal = sym pe ∙ tied in
        absurd (cc)
    cases pe true at_p false at_e rest = rw at_e rest
    cases pe false at_p true at_e rest = rw (at_e, at_p) refl
    cases pe false at_p false at_e rest = rw at_e rest

chosen_or : (b : Bool) (h : PageHist) (x y : Option PageHist)
    → cond b (Some h) (option_or x y) ≡ option_or (cond b (Some h) x) y
chosen_or true h x y = refl
chosen_or false h x y = refl

-- those put in, or else those that were there
pub found_with : (q : ℕ) (old pairs : MapPairs)
    → found q (with_pairs old pairs) ≡ option_or (found q pairs) (found q old)
found_with q old [] = refl
found_with q old (e ∷ pairs) =
    found_insert q e.0 e.1 (with_pairs old pairs)
    ∙ ap (cond (is_eq (nat_cmp q e.0)) (Some e.1)) (found_with q old pairs)
    ∙ chosen_or (is_eq (nat_cmp q e.0)) e.1 (found q pairs) (found q old)

pub rise_with : (old pairs : MapPairs) → KeysAscend old → KeysAscend (with_pairs old pairs)
rise_with old [] rise = rise
rise_with old (e ∷ pairs) rise = rising_insert e.0 e.1 (with_pairs old pairs) (rise_with old pairs rise)

pub few_with : (old pairs : MapPairs) → length (with_pairs old pairs) ≤ length old + length pairs
few_with old [] = omega arith
few_with old (e ∷ pairs) =
    let rest : length (with_pairs old pairs) ≤ length old + length pairs = few_with old pairs in
    let more : length (insert_entry nat_cmp (with_pairs old pairs) e.0 e.1) ≤ length (with_pairs old pairs) + 1 = few_inserted e.0 e.1 (with_pairs old pairs) in
    omega arith

-- a pair is put in before those at later keys, or after them
pub put_first : (old : MapPairs) (e : ℕ × PageHist) (rest : MapPairs) → KeysAscend old
    → KeysAscend (e ∷ rest)
    → with_pairs old (e ∷ rest) ≡ with_pairs (insert_entry nat_cmp old e.0 e.1) rest
put_first old e rest rise above =
    same_found (with_pairs old (e ∷ rest)) (with_pairs (insert_entry nat_cmp old e.0 e.1) rest)
    (rise_with old (e ∷ rest) rise)
    (rise_with (insert_entry nat_cmp old e.0 e.1) rest (rising_insert e.0 e.1 old rise))
    (λ q.
    found_with q old (e ∷ rest)
    ∙ cases q (is_eq (nat_cmp q e.0)) refl
    ∙ ap (option_or (found q rest)) (sym (found_insert q e.0 e.1 old))
    ∙ sym (found_with q (insert_entry nat_cmp old e.0 e.1) rest))
  where
    cases : (q : ℕ) (b : Bool) → is_eq (nat_cmp q e.0) ≡ b
        → option_or (cond (is_eq (nat_cmp q e.0)) (Some e.1) (found q rest)) (found q old)
        ≡ option_or (found q rest) (cond (is_eq (nat_cmp q e.0)) (Some e.1) (found q old))
    cases q true here =
        let same : q ≡ e.0 = nat_order.same q e.0 (is_equal (nat_cmp q e.0) here) in
        let none : found q rest ≡ None = subst (λ k. found k rest ≡ None) (sym same) (no_later e.0 rest above.0) in
        rw (here, none) refl
    cases q false away = rw away refl

-- ---- the parts of a run

part_apart : (known : Option PageHist) (q key : ℕ) (h : PageHist) (pc pf c f : MapPairs)
    → is_eq (nat_cmp q key) ≡ false → IsPart known key h pc pf
    → (found q (pc ++ c) ≡ found q c) × (found q (pf ++ f) ≡ found q f)
part_apart None q key h pc pf c f away part =
    let change : found q (pc ++ c) ≡ found q c = ap (λ t. found q (t ++ c)) part.0 in
    let one : found q ((key, h) ∷ f) ≡ found q f = rw away refl in
    (change, ap (λ t. found q (t ++ f)) part.1 ∙ one)
part_apart (Some g) q key h pc pf c f away part =
    let new : found q (pf ++ f) ≡ found q f = ap (λ t. found q (t ++ f)) part.0 in
    let one : found q ((key, h) ∷ c) ≡ found q c = rw away refl in
    elim part.1 [
      | inl same ↦ (ap (λ t. found q (t ++ c)) same.1, new)
      | inr other ↦ (ap (λ t. found q (t ++ c)) other.1 ∙ one, new)
    ]

part_here : (known : Option PageHist) (key : ℕ) (h : PageHist) (pc pf c f : MapPairs)
    → found key c ≡ None → found key f ≡ None → IsPart known key h pc pf
    → option_or (found key (pc ++ c)) (option_or (found key (pf ++ f)) known) ≡ Some h
part_here None key h pc pf c f none_c none_f part =
    let own : nat_cmp key key ≡ Equal = tied_itself nat_order.total key in
    let change : found key (pc ++ c) ≡ None = ap (λ t. found key (t ++ c)) part.0 ∙ none_c in
    let one : found key ((key, h) ∷ f) ≡ Some h = rw own refl in
    let new : found key (pf ++ f) ≡ Some h = ap (λ t. found key (t ++ f)) part.1 ∙ one in
    rw (change, new) refl
part_here (Some g) key h pc pf c f none_c none_f part =
    let own : nat_cmp key key ≡ Equal = tied_itself nat_order.total key in
    let new : found key (pf ++ f) ≡ None = ap (λ t. found key (t ++ f)) part.0 ∙ none_f in
    elim part.1 [
      | inl same ↦ (
          let change : found key (pc ++ c) ≡ None = ap (λ t. found key (t ++ c)) same.1 ∙ none_c in
          rw (change, new) (ap (λ x. Some x) same.0)
          )
      | inr other ↦ (
          let one : found key ((key, h) ∷ c) ≡ Some h = rw own refl in
          let change : found key (pc ++ c) ≡ Some h = ap (λ t. found key (t ++ c)) other.1 ∙ one in
          rw change refl
          )
    ]

-- what holds of the keys of a run holds of those of its parts
part_all : (P : ℕ → Type 0) (known : Option PageHist) (key : ℕ) (h : PageHist)
    (pc pf c f : MapPairs) → P key → IsPart known key h pc pf
    → AllByRecursion (λ (e : ℕ × PageHist). P e.0) c
    → AllByRecursion (λ (e : ℕ × PageHist). P e.0) f
    → AllByRecursion (λ (e : ℕ × PageHist). P e.0) (pc ++ c)
    × AllByRecursion (λ (e : ℕ × PageHist). P e.0) (pf ++ f)
part_all P None key h pc pf c f is part all_c all_f = (
  subst (λ t. AllByRecursion (λ (e : ℕ × PageHist). P e.0) (t ++ c)) (sym part.0) all_c,
  subst (λ t. AllByRecursion (λ (e : ℕ × PageHist). P e.0) (t ++ f)) (sym part.1) (is, all_f),
)
part_all P (Some g) key h pc pf c f is part all_c all_f =
    let new : AllByRecursion (λ (e : ℕ × PageHist). P e.0) (pf ++ f) = subst (λ t. AllByRecursion (λ (e : ℕ × PageHist). P e.0) (t ++ f)) (sym part.0) all_f in
    elim part.1 [
      | inl same ↦ (subst (λ t. AllByRecursion (λ (e : ℕ × PageHist). P e.0) (t ++ c)) (sym same.1) all_c, new)
      | inr other ↦ (subst (λ t. AllByRecursion (λ (e : ℕ × PageHist). P e.0) (t ++ c)) (sym other.1) (is, all_c), new)
    ]

pub parts_all : (P : ℕ → Type 0) (old run c f : MapPairs) → AreParts old run c f
    → AllByRecursion (λ (e : ℕ × PageHist). P e.0) run
    → AllByRecursion (λ (e : ℕ × PageHist). P e.0) c
    × AllByRecursion (λ (e : ℕ × PageHist). P e.0) f
parts_all P old [] c f are all = (subst (AllByRecursion (λ (e : ℕ × PageHist). P e.0)) (sym are.0) tt, subst (AllByRecursion (λ (e : ℕ × PageHist). P e.0)) (sym are.1) tt)
parts_all P old (e ∷ run) c f (c', f', are, h, pc, pf, joins, part, is_c, is_f) all =
    let rest = parts_all P old run c' f' are all.1 in
    let both = part_all P (found e.0 old) e.0 h pc pf c' f' all.0 part rest.0 rest.1 in
    (subst (AllByRecursion (λ (x : ℕ × PageHist). P x.0)) (sym is_c) both.0, subst (AllByRecursion (λ (x : ℕ × PageHist). P x.0)) (sym is_f) both.1)

-- those of a part come before those at later keys
part_rise : (known : Option PageHist) (key : ℕ) (h : PageHist) (pc pf c f : MapPairs)
    → IsPart known key h pc pf → AreAbove key c → AreAbove key f → KeysAscend c → KeysAscend f
    → KeysAscend (pc ++ c) × KeysAscend (pf ++ f)
part_rise None key h pc pf c f part above_c above_f rise_c rise_f = (
  subst (λ t. KeysAscend (t ++ c)) (sym part.0) rise_c,
  subst (λ t. KeysAscend (t ++ f)) (sym part.1) (above_f, rise_f),
)
part_rise (Some g) key h pc pf c f part above_c above_f rise_c rise_f =
    let new : KeysAscend (pf ++ f) = subst (λ t. KeysAscend (t ++ f)) (sym part.0) rise_f in
    elim part.1 [
      | inl same ↦ (subst (λ t. KeysAscend (t ++ c)) (sym same.1) rise_c, new)
      | inr other ↦ (subst (λ t. KeysAscend (t ++ c)) (sym other.1) (above_c, rise_c), new)
    ]

pub parts_rise : (old run c f : MapPairs) → AreParts old run c f → KeysAscend run
    → KeysAscend c × KeysAscend f
parts_rise old [] c f are rise = (subst KeysAscend (sym are.0) tt, subst KeysAscend (sym are.1) tt)
parts_rise old (e ∷ run) c f (c', f', are, h, pc, pf, joins, part, is_c, is_f) rise =
    let rest = parts_rise old run c' f' are rise.1 in
    let above = parts_all (λ k. nat_cmp e.0 k ≡ Less) old run c' f' are rise.0 in
    let both = part_rise (found e.0 old) e.0 h pc pf c' f' part above.0 above.1 rest.0 rest.1 in
    (subst KeysAscend (sym is_c) both.0, subst KeysAscend (sym is_f) both.1)

-- new pairs are at keys that were absent, and values that change were others
abbrev AreOthers : MapPairs → MapPairs → Type 0
AreOthers pairs old = AllByRecursion (λ e. (g : PageHist) × (found e.0 old ≡ Some g) × (g ≢ e.1)) pairs

part_absent : (old : MapPairs) (known : Option PageHist) (key : ℕ) (h : PageHist)
    (pc pf c f : MapPairs) → found key old ≡ known → IsPart known key h pc pf → AreOthers c old
    → AreAbsent f old → AreOthers (pc ++ c) old × AreAbsent (pf ++ f) old
part_absent old None key h pc pf c f is part others absent = (
  subst (λ t. AreOthers (t ++ c) old) (sym part.0) others,
  subst (λ t. AreAbsent (t ++ f) old) (sym part.1) (is, absent),
)
part_absent old (Some g) key h pc pf c f is part others absent =
    let new : AreAbsent (pf ++ f) old = subst (λ t. AreAbsent (t ++ f) old) (sym part.0) absent in
    elim part.1 [
      | inl same ↦ (subst (λ t. AreOthers (t ++ c) old) (sym same.1) others, new)
      | inr other ↦ (subst (λ t. AreOthers (t ++ c) old) (sym other.1) ((g, is, other.0), others), new)
    ]

parts_absent : (old run c f : MapPairs) → AreParts old run c f → AreOthers c old × AreAbsent f old
parts_absent old [] c f are = (subst (λ t. AreOthers t old) (sym are.0) tt, subst (λ t. AreAbsent t old) (sym are.1) tt)
parts_absent old (e ∷ run) c f (c', f', are, h, pc, pf, joins, part, is_c, is_f) =
    let rest = parts_absent old run c' f' are in
    let both = part_absent old (found e.0 old) e.0 h pc pf c' f' refl part rest.0 rest.1 in
    (subst (λ t. AreOthers t old) (sym is_c) both.0, subst (λ t. AreAbsent t old) (sym is_f) both.1)

pub new_absent : (old run c f : MapPairs) → AreParts old run c f → AreAbsent f old
new_absent old run c f are = (parts_absent old run c f are).1

some_or : (x y : Option PageHist) (g : PageHist) → y ≡ Some g → IsSome (option_or x y)
some_or None y g is = subst IsSome (sym is) refl
some_or (Some x) y g is = refl

others_there : (old f c : MapPairs) → AreOthers c old → AreThere c (with_pairs old f)
others_there old f [] others = tt
others_there old f (e ∷ c) others = (subst IsSome (sym (found_with e.0 old f)) (some_or (found e.0 f) (found e.0 old) others.0.0 others.0.1), others_there old f c others.1)

-- the values that change are there, once the new pairs are in
pub changed_there : (old run c f : MapPairs) → AreParts old run c f → AreThere c (with_pairs old f)
changed_there old run c f are = others_there old f c (parts_absent old run c f are).0

-- ---- the pairs that a run was merged into

part_joined : (old : MapPairs) (q : ℕ) (e : ℕ × PageHist) (h : PageHist) (pc pf c f run : MapPairs)
    → IsPart (found e.0 old) e.0 h pc pf → joined_with e.1 (found e.0 old) ≡ Some h → AreAbove e.0 c
    → AreAbove e.0 f
    → option_or (found q c) (option_or (found q f) (found q old))
    ≡ option_or (found q (joined_pairs old run)) (found q old)
    → option_or (found q (pc ++ c)) (option_or (found q (pf ++ f)) (found q old))
    ≡ option_or (found q (joined_pairs old (e ∷ run))) (found q old)
part_joined old q e h pc pf c f run part joins above_c above_f rest = cases (is_eq (nat_cmp q e.0)) refl
  where
    cases : (b : Bool) → is_eq (nat_cmp q e.0) ≡ b
        → option_or (found q (pc ++ c)) (option_or (found q (pf ++ f)) (found q old))
        ≡ option_or (found q (joined_pairs old (e ∷ run))) (found q old)
    cases true here =
        let same : q ≡ e.0 = nat_order.same q e.0 (is_equal (nat_cmp q e.0) here) in
        let own : nat_cmp e.0 e.0 ≡ Equal = tied_itself nat_order.total e.0 in
        let left = part_here (found e.0 old) e.0 h pc pf c f (no_later e.0 c above_c) (no_later e.0 f above_f) part in
        let right : option_or (found e.0 (joined_pairs old (e ∷ run))) (found e.0 old) ≡ Some h = rw joins (rw own refl) in
        subst (λ k. option_or (found k (pc ++ c)) (option_or (found k (pf ++ f)) (found k old)) ≡ option_or (found k (joined_pairs old (e ∷ run))) (found k old)) (sym same) (left ∙ sym right)
    cases false away =
        let both = part_apart (found e.0 old) q e.0 h pc pf c f away part in
        let right : found q (joined_pairs old (e ∷ run)) ≡ found q (joined_pairs old run) = rw joins (rw away refl) in
        rw (both.0, both.1, right) rest

parts_found : (old run c f : MapPairs) → AreParts old run c f → KeysAscend run → (q : ℕ)
    → option_or (found q c) (option_or (found q f) (found q old))
    ≡ option_or (found q (joined_pairs old run)) (found q old)
parts_found old [] c f are rise q = rw (are.0, are.1) refl
parts_found old (e ∷ run) c f (c', f', are, h, pc, pf, joins, part, is_c, is_f) rise q =
    let above = parts_all (λ k. nat_cmp e.0 k ≡ Less) old run c' f' are rise.0 in
    let first = part_joined old q e h pc pf c' f' run part joins above.0 above.1 (parts_found old run c' f' are rise.1 q) in
    rw (is_c, is_f) first

-- they are those before, with the new pairs and the values that change
pub merged_is : (old run c f : MapPairs) → AreParts old run c f → KeysAscend old → KeysAscend run
    → with_pairs (with_pairs old f) c ≡ merged old run
merged_is old run c f are rise_old rise_run =
    same_found (with_pairs (with_pairs old f) c) (merged old run)
    (rise_with (with_pairs old f) c (rise_with old f rise_old))
    (rise_with old (joined_pairs old run) rise_old)
    (λ q.
    found_with q (with_pairs old f) c
    ∙ ap (option_or (found q c)) (found_with q old f)
    ∙ parts_found old run c f are rise_run q
    ∙ sym (found_with q old (joined_pairs old run)))

-- a run that changes nothing
pub merged_none : (old run c f : MapPairs) → AreParts old run c f → KeysAscend old → KeysAscend run
    → c ≡ [] → f ≡ [] → old ≡ merged old run
merged_none old run c f are rise_old rise_run none_c none_f =
    sym (ap (λ t. with_pairs (with_pairs old t) c) none_f ∙ ap (with_pairs old) none_c)
    ∙ merged_is old run c f are rise_old rise_run

-- ---- whether they have changed

named_first : (e : ℕ × PageHist) (run : MapPairs) → IsSome (found e.0 (e ∷ run))
named_first e run = let own : nat_cmp e.0 e.0 ≡ Equal = tied_itself nat_order.total e.0 in rw own refl

named_later : (k : ℕ) (e : ℕ × PageHist) (run : MapPairs) → IsSome (found k run)
    → IsSome (found k (e ∷ run))
named_later k e run is = cases (is_eq (nat_cmp k e.0))
  where
    cases : (b : Bool) → IsSome (cond b (Some e.1) (found k run))
    cases true = refl
    cases false = is

all_later : (e : ℕ × PageHist) (run ps : MapPairs)
    → AllByRecursion (λ (x : ℕ × PageHist). IsSome (found x.0 run)) ps
    → AllByRecursion (λ (x : ℕ × PageHist). IsSome (found x.0 (e ∷ run))) ps
all_later e run [] all = tt
all_later e run (x ∷ ps) all = (named_later x.0 e run all.0, all_later e run ps all.1)

own_keys : (run : MapPairs) → AllByRecursion (λ (e : ℕ × PageHist). IsSome (found e.0 run)) run
own_keys [] = tt
own_keys (e ∷ run) = (named_first e run, all_later e run run (own_keys run))

differs_first : (old new run : MapPairs) (e : ℕ × PageHist) → IsSome (found e.0 run)
    → found e.0 new ≡ Some e.1 → found e.0 old ≢ Some e.1 → DiffersAt run old new
differs_first old new run e is now other = (e.0, is, λ same. other (sym same ∙ now))

-- a run that changes a value, or has a new key
pub merged_differs : (old run c f : MapPairs) → AreParts old run c f → KeysAscend old
    → KeysAscend run → (c ≡ [] → f ≡ [] → ⊥) → DiffersAt run old (merged old run)
merged_differs old run c f are rise_old rise_run some =
    let keys = parts_all (λ k. IsSome (found k run)) old run c f are (own_keys run) in
    let what = parts_absent old run c f are in
    cases c f (merged_is old run c f are rise_old rise_run) some keys.0 keys.1 what.0 what.1
  where
    cases : (d g : MapPairs) → with_pairs (with_pairs old g) d ≡ merged old run
        → (d ≡ [] → g ≡ [] → ⊥) → AllByRecursion (λ (e : ℕ × PageHist). IsSome (found e.0 run)) d
        → AllByRecursion (λ (e : ℕ × PageHist). IsSome (found e.0 run)) g → AreOthers d old
        → AreAbsent g old
        → DiffersAt run old (merged old run)
    cases [] [] is some named_d named_g others absent = absurd (some refl refl)
    cases [] (e ∷ g) is some named_d named_g others absent =
        let own : nat_cmp e.0 e.0 ≡ Equal = tied_itself nat_order.total e.0 in
        let first : found e.0 (e ∷ g) ≡ Some e.1 = rw own refl in
        let now : found e.0 (with_pairs old (e ∷ g)) ≡ Some e.1 = found_with e.0 old (e ∷ g) ∙ ap (λ x. option_or x (found e.0 old)) first in
        let none : found e.0 old ≡ None = absent.0 in
        differs_first old (merged old run) run e named_g.0 (ap (found e.0) (sym is) ∙ now) (λ same. let no : None ≡ Some e.1 = sym none ∙ same in absurd (cc))
    cases (e ∷ d) g is some named_d named_g others absent =
        let own : nat_cmp e.0 e.0 ≡ Equal = tied_itself nat_order.total e.0 in
        let first : found e.0 (e ∷ d) ≡ Some e.1 = rw own refl in
        let now : found e.0 (with_pairs (with_pairs old g) (e ∷ d)) ≡ Some e.1 = found_with e.0 (with_pairs old g) (e ∷ d) ∙ ap (λ x. option_or x (found e.0 (with_pairs old g))) first in
        let h : PageHist = others.0.0 in
        let was : found e.0 old ≡ Some h = others.0.1 in
        differs_first old (merged old run) run e named_d.0 (ap (found e.0) (sym is) ∙ now) (λ same. let tied : Some h ≡ Some e.1 = sym was ∙ same in others.0.2 (cc))

-- ---- a run that is merged with no pairs

joined_none : (run : MapPairs) → AreTwoLatest run → joined_pairs [] run ≡ run
joined_none [] latest = refl
joined_none (e ∷ run) latest = ap (λ o. at_key e.0 o ++ joined_pairs [] run) latest.0 ∙ ap (λ t. e ∷ t) (joined_none run latest.1)

pub into_none : (run : MapPairs) → KeysAscend run → with_pairs [] run ≡ run
into_none run rise = same_found (with_pairs [] run) run (rise_with [] run tt) rise (λ q. found_with q [] run ∙ or_none (found q run))
  where
    or_none : (x : Option PageHist) → option_or x None ≡ x
    or_none None = refl
    or_none (Some x) = refl

pub filled_is : (old run : MapPairs) → old ≡ [] → KeysAscend run → AreTwoLatest run
    → run ≡ merged old run
filled_is old run free rise latest =
    sym (ap (λ t. merged t run) free
    ∙ ap (with_pairs []) (joined_none run latest)
    ∙ into_none run rise)

pub filled_differs : (old run : MapPairs) → old ≡ [] → (run ≡ [] → ⊥) → DiffersAt run old run
filled_differs old [] free some = absurd (some refl)
filled_differs old (e ∷ run) free some =
    let own : nat_cmp e.0 e.0 ≡ Equal = tied_itself nat_order.total e.0 in
    let first : found e.0 (e ∷ run) ≡ Some e.1 = rw own refl in
    let none : found e.0 old ≡ None = ap (found e.0) free in
    differs_first old (e ∷ run) (e ∷ run) e (named_first e run) first (λ same. let no : None ≡ Some e.1 = sym none ∙ same in absurd (cc))

-- ---- steps of the loops

-- the rest of the pairs is put in after the first
pub goes_on_with : (m m' all left rest : MapPairs) (e : ℕ × PageHist) → KeysAscend m
    → KeysAscend (e ∷ rest) → left ≡ e ∷ rest → m' ≡ insert_entry nat_cmp m e.0 e.1
    → with_pairs m left ≡ all → with_pairs m' rest ≡ all
goes_on_with m m' all left rest e rise above is now so =
    ap (λ t. with_pairs t rest) now
    ∙ sym (put_first m e rest rise above)
    ∙ ap (with_pairs m) (sym is)
    ∙ so

pub rise_more : (m m' : MapPairs) (e : ℕ × PageHist) → KeysAscend m
    → m' ≡ insert_entry nat_cmp m e.0 e.1 → KeysAscend m'
rise_more m m' e rise is = subst KeysAscend (sym is) (rising_insert e.0 e.1 m rise)

-- what is at none of the keys is at none of the first of them, nor of the rest
pub not_first : (q : ℕ) (e : ℕ × PageHist) (rest : MapPairs) → found q (e ∷ rest) ≡ None
    → (is_eq (nat_cmp q e.0) ≡ false) × (found q rest ≡ None)
not_first q e rest none = cases (is_eq (nat_cmp q e.0)) refl
  where
    cases : (b : Bool) → is_eq (nat_cmp q e.0) ≡ b
        → (is_eq (nat_cmp q e.0) ≡ false) × (found q rest ≡ None)
    cases true here =
        let some : found q (e ∷ rest) ≡ Some e.1 = rw here refl in
        let no : Some e.1 ≡ None = sym some ∙ none in
        absurd (cc)
    cases false away =
        let same : found q (e ∷ rest) ≡ found q rest = rw away refl in
        (away, sym same ∙ none)

-- a pair that is put in changes nothing at other keys
pub same_inserted : (old m m' pairs : MapPairs) (e : ℕ × PageHist) → IsSome (found e.0 pairs)
    → m' ≡ insert_entry nat_cmp m e.0 e.1 → SameElsewhere pairs old m → SameElsewhere pairs old m'
same_inserted old m m' pairs e named is same q none = ap (found q) is ∙ found_insert q e.0 e.1 m ∙ cases (is_eq (nat_cmp q e.0)) refl
  where
    cases : (b : Bool) → is_eq (nat_cmp q e.0) ≡ b
        → cond (is_eq (nat_cmp q e.0)) (Some e.1) (found q m) ≡ found q old
    cases true here =
        let one : q ≡ e.0 = nat_order.same q e.0 (is_equal (nat_cmp q e.0) here) in
        let gone : found e.0 pairs ≡ None = ap (λ k. found k pairs) (sym one) ∙ none in
        let no : false ≡ true = subst IsSome gone named in
        absurd (cc)
    cases false away = rw away (same q none)

-- the keys of a list's rest are among its own
pub named_left : (pairs : MapPairs)
    → AllByRecursion (λ (e : ℕ × PageHist). IsSome (found e.0 pairs)) pairs
named_left pairs = own_keys pairs

-- a value that was there is there still
pub there_inserted : (m m' rest : MapPairs) (e : ℕ × PageHist) → m' ≡ insert_entry nat_cmp m e.0 e.1
    → AreThere rest m → AreThere rest m'
there_inserted m m' [] e is all = tt
there_inserted m m' (x ∷ rest) e is all = (subst IsSome (sym (ap (found x.0) is ∙ found_insert x.0 e.0 e.1 m)) (cases (is_eq (nat_cmp x.0 e.0)) all.0), there_inserted m m' rest e is all.1)
  where
    cases : (b : Bool) → IsSome (found x.0 m) → IsSome (cond b (Some e.1) (found x.0 m))
    cases true some = refl
    cases false some = some

-- a pair is taken out that was absent before
pub same_removed : (old m m' left rest : MapPairs) (e : ℕ × PageHist) → left ≡ e ∷ rest
    → found e.0 old ≡ None → ((q : ℕ) → found q m' ≡ cond (is_eq (nat_cmp e.0 q)) None (found q m))
    → SameElsewhere left old m → SameElsewhere rest old m'
same_removed old m m' left rest e is none now same q away = now q ∙ cases (is_eq (nat_cmp e.0 q)) refl
  where
    cases : (b : Bool) → is_eq (nat_cmp e.0 q) ≡ b
        → cond (is_eq (nat_cmp e.0 q)) None (found q m) ≡ found q old
    cases true here =
        let one : e.0 ≡ q = nat_order.same e.0 q (is_equal (nat_cmp e.0 q) here) in
        let gone : found q old ≡ None = subst (λ k. found k old ≡ None) one none in
        rw here (sym gone)
    cases false other =
        let back : is_eq (nat_cmp q e.0) ≡ false = turned (is_eq (nat_cmp q e.0)) refl in
        let first : found q (e ∷ rest) ≡ None = (let skip : found q (e ∷ rest) ≡ found q rest = rw back refl in skip ∙ away) in
        rw other (same q (ap (found q) is ∙ first))
      where
        turned : (c : Bool) → is_eq (nat_cmp q e.0) ≡ c → is_eq (nat_cmp q e.0) ≡ false
        turned true at =
            let one : q ≡ e.0 = nat_order.same q e.0 (is_equal (nat_cmp q e.0) at) in
            let own : nat_cmp q q ≡ Equal = tied_itself nat_order.total q in
            let tied : nat_cmp e.0 q ≡ Equal = subst (λ k. nat_cmp k q ≡ Equal) one own in
            let yes : is_eq (nat_cmp e.0 q) ≡ true = ap is_eq tied in
            let no : true ≡ false = sym yes ∙ other in
            absurd (cc)
        turned false at = at

-- if all are out, the pairs are as before
pub all_out : (old m left : MapPairs) → KeysAscend m → KeysAscend old → left ≡ []
    → SameElsewhere left old m → m ≡ old
all_out old m left rise_m rise_old none same = same_found m old rise_m rise_old (λ q. same q (ap (found q) none))
