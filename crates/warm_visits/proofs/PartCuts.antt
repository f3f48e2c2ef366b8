-- Parts that stand in one list, each from where the one before it ends.
use Rattle.std.proofs.Common.{◌≡◌, ◌≢◌, inl, inr, ℕ, zero, suc, ◌+◌, ◌-◌, ◌<◌, ◌≤◌, List, [], ◌∷◌, length, min, take, drop, get_or, refl, sym, ap, subst, ◌∙◌, arith}
use Rattle.std.specs.Prelude.{slice_range}
use Rattle.std.proofs.lemmas.Bool.{cases_eq}
use Rattle.std.proofs.lemmas.List.{get_or_read, get_or-drop, get_or-take, length-drop, length-take, same_lists, take_all}
use Rattle.warm_stamps.specs.declared.PageId.{PageId}
use Rattle.warm_visits.specs.Parts.{AreEnds, AreShardParts, IsFirstSome, count_before, own_items, parts_at, start_of}
use Rattle.warm_visits.proofs.PartSorts.{IsSorting, before_more, before_none, before_within}

-- where a part begins, of parts of which the first begins here
abbrev begin : ℕ → List ℕ → ℕ → ℕ
begin start ends zero = start
begin start ends (suc i) = get_or ends i 0

begin_more : (start end : ℕ) (ends : List ℕ) (i : ℕ)
    → begin end ends i ≡ begin start (end ∷ ends) (suc i)
begin_more start end ends zero = refl
begin_more start end ends (suc i) = refl

begin_is : (ends : List ℕ) (i : ℕ) → begin 0 ends i ≡ start_of ends i
begin_is ends zero = refl
begin_is ends (suc i) = refl

length-parts : {A : Type 0} (start : ℕ) (ends : List ℕ) (xs : List A)
    → length (parts_at start ends xs) ≡ length ends
length-parts start [] xs = refl
length-parts start (end ∷ ends) xs = ap suc (length-parts end ends xs)

part_from : {A : Type 0} (start : ℕ) (ends : List ℕ) (xs : List A) (i : ℕ) → i < length ends
    → get_or (parts_at start ends xs) i [] ≡ slice_range xs (begin start ends i) (get_or ends i 0)
part_from start [] xs i lt = absurd (omega (arith, lt))
part_from start (end ∷ ends) xs zero lt = refl
part_from start (end ∷ ends) xs (suc i) lt =
    part_from end ends xs i (omega (arith, lt))
    ∙ ap (λ n. slice_range xs n (get_or ends i 0)) (begin_more start end ends i)

part_is : {A : Type 0} (ends : List ℕ) (xs : List A) (i : ℕ) → i < length ends
    → get_or (parts_at 0 ends xs) i [] ≡ slice_range xs (start_of ends i) (get_or ends i 0)
part_is ends xs i lt =
    part_from 0 ends xs i lt ∙ ap (λ n. slice_range xs n (get_or ends i 0)) (begin_is ends i)

ends_from : (start : ℕ) (ends : List ℕ) (long i : ℕ) → AreEnds start ends long → i < length ends
    → (begin start ends i ≤ get_or ends i 0) × (get_or ends i 0 ≤ long)
ends_from start [] long i are lt = absurd (omega (arith, lt))
ends_from start (end ∷ ends) long zero are lt = (are.0, within end ends are.1)
  where
    within : (first : ℕ) (rest : List ℕ) → AreEnds first rest long → first ≤ long
    within first [] le = le
    within first (next ∷ rest) le = let later = within next rest le.1 in omega (arith, le.0, later)
ends_from start (end ∷ ends) long (suc i) are lt =
    let rest = ends_from end ends long i are.1 (omega (arith, lt)) in
    (subst (λ n. n ≤ get_or ends i 0) (begin_more start end ends i) rest.0, rest.1)

-- a part begins and ends within the list
bounds : (ends : List ℕ) (long i : ℕ) → AreEnds 0 ends long → i < length ends
    → (start_of ends i ≤ get_or ends i 0) × (get_or ends i 0 ≤ long)
bounds ends long i are lt =
    subst (λ n. (n ≤ get_or ends i 0) × (get_or ends i 0 ≤ long)) (begin_is ends i) (ends_from 0 ends long i are lt)

-- the same, of a list of parts whose ends the code reads
pub count_is : {A : Type 0} (ends : List ℕ) (xs : List A) (parts : List (List A))
    → parts_at 0 ends xs ≡ parts → length ends ≡ length parts
count_is ends xs parts is = sym (length-parts 0 ends xs) ∙ ap length is

pub read_bounds : {A : Type 0} (ends : List ℕ) (xs : List A) (parts : List (List A)) (i end : ℕ)
    → AreEnds 0 ends (length xs) → parts_at 0 ends xs ≡ parts → i < length parts
    → end ≡ get_or ends i end → (start_of ends i ≤ end) × (end ≤ length xs)
read_bounds ends xs parts i end are is lt read =
    let less : i < length ends = omega (arith, lt, count_is ends xs parts is) in
    let at = bounds ends (length xs) i are less in
    let here = get_or_read ends i end less read 0 in
    (omega (arith, at.0, here), omega (arith, at.1, here))

pub read_part : {A : Type 0} (ends : List ℕ) (xs : List A) (parts : List (List A)) (i end : ℕ)
    → parts_at 0 ends xs ≡ parts → i < length parts → end ≡ get_or ends i end
    → slice_range xs (start_of ends i) end ≡ get_or parts i []
read_part ends xs parts i end is lt read =
    let less : i < length ends = omega (arith, lt, count_is ends xs parts is) in
    ap (slice_range xs (start_of ends i)) (get_or_read ends i end less read 0)
    ∙ sym (part_is ends xs i less)
    ∙ ap (λ ys. get_or ys i []) is

are_from : (start : ℕ) (ends : List ℕ) (long : ℕ)
    → ((i : ℕ) → i < length ends → begin start ends i ≤ get_or ends i 0)
    → begin start ends (length ends) ≤ long → AreEnds start ends long
are_from start [] long rise le = le
are_from start (end ∷ ends) long rise le = (
  rise 0 (omega arith),
  are_from end ends long
      (λ i lt. subst (λ n. n ≤ get_or ends i 0) (sym (begin_more start end ends i)) (rise (suc i) (omega (arith, lt))))
      (subst (λ n. n ≤ long) (sym (begin_more start end ends (length ends))) le),
)

-- ---- the first part that has an item

nothing : {A : Type 0} (xs : List A) (start end : ℕ) → end ≡ start → slice_range xs start end ≡ []
nothing xs start end is =
    let none : end - start ≡ 0 = omega (arith, is) in
    ap (λ n. take n (drop start xs)) none

something : {A : Type 0} (xs : List A) (start end : ℕ) → start ≤ end → end ≤ length xs → end ≢ start
    → slice_range xs start end ≢ []
something xs start end le within other none =
    let long : length (slice_range xs start end) ≡ min (end - start) (length xs - start) =
    length-take (end - start) (drop start xs) ∙ ap (min (end - start)) (length-drop start xs) in
    other (omega (arith, le, within, long, ap length none))

-- all parts that are passed begin where the first of them does
same_start : (ends : List ℕ) (start from i : ℕ) → start ≡ start_of ends from
    → ((k : ℕ) → from ≤ k → k < i → get_or ends k 0 ≡ start) → from ≤ i → start_of ends i ≡ start
same_start ends start from zero is passed le =
    let none : from ≡ 0 = omega (arith, le) in
    sym (is ∙ ap (start_of ends) none)
same_start ends start from (suc i) is passed le = elim (cases_eq from (suc i)) [
  | inl same ↦ sym (is ∙ ap (start_of ends) same)
  | inr other ↦ passed i (omega (arith, le, other)) (omega arith)
]

pub first_is : {A : Type 0} (ends : List ℕ) (xs : List A) (start from first : ℕ)
    → AreEnds 0 ends (length xs) → start ≡ start_of ends from → from ≤ first → first ≤ length ends
    → ((i : ℕ) → from ≤ i → i < first → get_or ends i 0 ≡ start)
    → (first < length ends → get_or ends first 0 ≢ start)
    → IsFirstSome (parts_at 0 ends xs) from first
first_is ends xs start from first are is le below passed there = record {
  from = le;
  below = omega (arith, below, length-parts 0 ends xs);
  passed = λ i low less.
      part_is ends xs i (omega (arith, less, below))
      ∙ nothing xs (start_of ends i) (get_or ends i 0) (passed i low less ∙ sym (same_start ends start from i is (λ k a b. passed k a (omega (arith, b, less))) low));
  there = λ lt none.
      let in_ends : first < length ends = omega (arith, lt, length-parts 0 ends xs) in
      let at = bounds ends (length xs) first are in_ends in
      let begins = same_start ends start from first is passed le in
      something xs (start_of ends first) (get_or ends first 0) at.0 at.1 (λ e. there in_ends (e ∙ begins)) (sym (part_is ends xs first in_ends) ∙ none);
}

-- ---- the parts of sorted items

module _ {A : Type 0} (page : A → PageId) (count : ℕ) where
  begins : (xs list : List A) (next : List ℕ) → IsSorting page count (length xs) xs list next
      → (i : ℕ) → i ≤ count → start_of next i ≡ count_before page count i xs
  begins xs list next so zero le = sym (before_none page count xs)
  begins xs list next so (suc i) le =
      so.place i (omega (arith, le))
      ∙ ap (λ ys. count_before page count i xs + length (own_items page count i ys)) (take_all (length xs) xs (omega arith))
      ∙ sym (before_more page count i xs)

  ends : (xs list : List A) (next : List ℕ) → IsSorting page count (length xs) xs list next
      → (i : ℕ) → i < count
      → get_or next i 0 ≡ count_before page count i xs + length (own_items page count i xs)
  ends xs list next so i lt =
      begins xs list next so (suc i) (omega (arith, lt)) ∙ before_more page count i xs

  pub sorted_ends : (xs list : List A) (next : List ℕ)
      → IsSorting page count (length xs) xs list next → AreEnds 0 next (length list)
  sorted_ends xs list next so =
      are_from 0 next (length list)
      (λ i lt.
      let less : i < count = omega (arith, lt, so.size) in
      omega (arith, begin_is next i, begins xs list next so i (omega (arith, less)), ends xs list next so i less))
      (omega (arith, begin_is next (length next), begins xs list next so (length next) (omega (arith, so.size)), before_within page count (length next) xs, so.long))

  own_part : (xs list : List A) (next : List ℕ) → IsSorting page count (length xs) xs list next
      → (i : ℕ) → i < count
      → slice_range list (start_of next i) (get_or next i 0) ≡ own_items page count i xs
  own_part xs list next so i lt =
      let own = own_items page count i xs in
      let from = begins xs list next so i (omega (arith, lt)) in
      let to = ends xs list next so i lt in
      let all : own_items page count i (take (length xs) xs) ≡ own = ap (own_items page count i) (take_all (length xs) xs (omega arith)) in
      let held : (j : ℕ) (d : A) → j < length own → get_or list (count_before page count i xs + j) d ≡ get_or own j d =
      λ j d less. so.held i j d lt (subst (λ ys. j < length ys) (sym all) less) ∙ ap (λ ys. get_or ys j d) all in
      let many : get_or next i 0 - start_of next i ≡ length own = omega (arith, from, to) in
      let within : count_before page count i xs + length own ≤ length list =
      omega (arith, before_more page count i xs, before_within page count (suc i) xs, so.long) in
      let size : length (take (length own) (drop (count_before page count i xs) list)) ≡ length own =
      length-take (length own) (drop (count_before page count i xs) list)
      ∙ ap (min (length own)) (length-drop (count_before page count i xs) list)
      ∙ omega (arith, within) in
      ap (λ n. take n (drop (start_of next i) list)) many
      ∙ ap (λ n. take (length own) (drop n list)) from
      ∙ same_lists (take (length own) (drop (count_before page count i xs) list)) own size
      (λ j d less.
      let few : j < length own = omega (arith, less, size) in
      get_or-take (length own) (drop (count_before page count i xs) list) j d few
      ∙ get_or-drop (count_before page count i xs) list j d
      ∙ held j d few)

  pub sorted_parts : (xs list : List A) (next : List ℕ)
      → IsSorting page count (length xs) xs list next
      → AreShardParts page count xs (parts_at 0 next list)
  sorted_parts xs list next so = record {
    size = length-parts 0 next list ∙ so.size;
    part = λ i lt. part_is next list i (omega (arith, lt, so.size)) ∙ own_part xs list next so i lt;
  }
