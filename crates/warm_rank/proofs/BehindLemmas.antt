-- A contest that lags behind: its least slot, once that does not lag, is the least of the current
-- keys.
use Rattle.std.proofs.Common.{◌≡◌, ℕ, ◌+◌, ◌<◌, true, false, List, length, set, sym, ap, refl, ◌∙◌, subst, Option, Some, None, inl, inr, arith, get_or-set_same, get_or-set_other}
use Rattle.std.specs.Option.{IsSome}
use Rattle.std.specs.Cmp.{IsTotalOrder}
use Rattle.std.specs.Cmp.Lexicographic.{options_total}
use Rattle.std.specs.Ordering.{is_gt, nat_cmp, ordering_then, ordering_reverse}
use Rattle.std.specs.declared.cmp.Ordering.{Ordering}
use Rattle.std.specs.declared.cmp.Ordering.TheVariants.{Less, Equal, Greater}
use Rattle.std.proofs.lemmas.Cmp.{tied_itself, back_total}
use Rattle.std.proofs.lemmas.List.{length-set, ext_get_or}
use Rattle.std.proofs.lemmas.Bool.{cases_eq}
use Rattle.warm_stamps.proofs.DistinctLemmas.{IsStrictOrder, by_cases}
use Rattle.warm_rank.specs.Slots.{set_first_cmp, key_at, IsLeast}
use Rattle.warm_rank.specs.Behind.{IsBehind, AreRepaired}

-- a first comparison that is not greater, if both together are less
first_not_greater : (a b : Ordering) → ordering_then a b ≡ Less → is_gt a ≡ false
first_not_greater Less b e = refl
first_not_greater Equal b e = refl
first_not_greater Greater b e = absurd (cc)

module _ {K : Type 0} (cmp : K → K → Ordering) (order : IsStrictOrder cmp) where
  abbrev over : Option K → Option K → Ordering
  over = set_first_cmp cmp

  total : IsTotalOrder over
  total = back_total (options_total (back_total order.total))

  same : (x y : Option K) → over x y ≡ Equal → x ≡ y
  same None None e = refl
  same None (Some y) e = absurd (cc)
  same (Some x) None e = absurd (cc)
  same (Some x) (Some y) e = ap Some (order.same x y e)

  pub itself : (x : Option K) → is_gt (over x x) ≡ false
  itself x = ap is_gt (tied_itself total x)

  -- no key is the greatest
  pub none_last : (x : Option K) → is_gt (over x None) ≡ false
  none_last None = refl
  none_last (Some x) = refl

  none_below : (x : Option K) → is_gt (over None x) ≡ false → x ≡ None
  none_below None e = refl
  none_below (Some x) e = absurd (cc)

  -- of two keys neither of which comes after the other, both are the same
  neither : (x y : Option K) → is_gt (over x y) ≡ false → is_gt (over y x) ≡ false → x ≡ y
  neither x y xy yx = by_cases (over x y) _
      (λ less. let no : true ≡ false = sym (ap is_gt (total.antisymm y x ∙ ap ordering_reverse less)) ∙ yx in absurd (cc))
      (λ tied. same x y tied)
      (λ more. let no : true ≡ false = sym (ap is_gt more) ∙ xy in absurd (cc))

  -- if x comes before a lower bound y of z, it comes before z
  before_bound : (x y z : Option K) (rest : Ordering) → is_gt (over y z) ≡ false
      → ordering_then (over x y) rest ≡ Less → ordering_then (over x z) rest ≡ Less
  before_bound x y z rest bound first = by_cases (over y z) _
      (λ less. by_cases (over x y) _
      (λ xy. ap (λ o. ordering_then o rest) (total.trans x y z xy less))
      (λ tied. ap (λ o. ordering_then o rest) (subst (λ t. over t z ≡ Less) (sym (same x y tied)) less))
      (λ more. let no : true ≡ false = sym (ap is_gt more) ∙ first_not_greater (over x y) rest first in absurd (cc)))
      (λ tied. subst (λ t. ordering_then (over x t) rest ≡ Less) (same y z tied) first)
      (λ more. let no : true ≡ false = sym (ap is_gt more) ∙ bound in absurd (cc))

  -- the least slot of the contest, if its current key does not come after its key there
  pub least_some : (tree keys : List (Option K)) (at : ℕ) → IsBehind cmp tree keys
      → IsLeast cmp tree (Some at) → is_gt (over (key_at keys at) (key_at tree at)) ≡ false
      → IsLeast cmp keys (Some at)
  least_some tree keys at behind least low =
      let is : key_at tree at ≡ key_at keys at = neither (key_at tree at) (key_at keys at) (behind.below at) low in
      record {
        in_range = subst (λ n. at < n) behind.count least.in_range;
        is_set = subst IsSome is least.is_set;
        first = λ t lt ne. subst (λ x. ordering_then (over x (key_at keys t)) (nat_cmp at t) ≡ Less) is
            (before_bound (key_at tree at) (key_at tree t) (key_at keys t) (nat_cmp at t) (behind.below t) (least.first t (subst (λ n. t < n) (sym behind.count) lt) ne));
      }

  pub least_none : (tree keys : List (Option K)) → IsBehind cmp tree keys → IsLeast cmp tree None
      → IsLeast cmp keys None
  least_none tree keys behind least t lt = none_below (key_at keys t) (subst (λ x. is_gt (over x (key_at keys t)) ≡ false) (least t (subst (λ n. t < n) (sym behind.count) lt)) (behind.below t))

  -- what was repaired is still behind
  pub still_behind : (old keys tree : List (Option K)) → IsBehind cmp old keys
      → AreRepaired old keys tree → IsBehind cmp tree keys
  still_behind old keys tree behind repaired = record {
    count = repaired.count ∙ behind.count;
    below = λ t. elim (repaired.each t) [
      | inl kept ↦ subst (λ x. is_gt (over x (key_at keys t)) ≡ false) (sym kept) (behind.below t)
      | inr now ↦ subst (λ x. is_gt (over x (key_at keys t)) ≡ false) (sym now) (itself (key_at keys t))
    ];
  }

-- nothing is repaired yet
pub none_repaired : {K : Type 0} (old keys : List (Option K)) → AreRepaired old keys old
none_repaired old keys = record { count = refl; each = λ t. inl refl }

-- one slot more is given its current key
pub one_repaired : {K : Type 0} (old keys tree : List (Option K)) (at : ℕ) (key : Option K)
    → AreRepaired old keys tree → at < length tree → key ≡ key_at keys at
    → AreRepaired old keys (set tree at key)
one_repaired old keys tree at key repaired lt is = record {
  count = length-set tree at key ∙ repaired.count;
  each = λ t. elim (cases_eq t at) [
    | inl e ↦ inr (ap (key_at (set tree at key)) e ∙ get_or-set_same tree at key None lt ∙ is ∙ ap (key_at keys) (sym e))
    | inr ne ↦ elim (repaired.each t) [
      | inl kept ↦ inl (get_or-set_other tree at t key None ne ∙ kept)
      | inr now ↦ inr (get_or-set_other tree at t key None ne ∙ now)
    ]
  ];
}

-- all slots are given their current keys
pub all_repaired : {K : Type 0} (old keys tree : List (Option K)) → length keys ≡ length old
    → tree ≡ keys → AreRepaired old keys tree
all_repaired old keys tree count is = record { count = ap length is ∙ count; each = λ t. inr (ap (λ ks. key_at ks t) is) }

-- the slots before this one have their current keys
pub record AreCurrentTo {K : Type 0} (keys tree : List (Option K)) (n : ℕ) : Type 0 where
  pub count : length tree ≡ length keys
  pub first : (t : ℕ) → t < n → key_at tree t ≡ key_at keys t

pub one_current : {K : Type 0} (keys tree : List (Option K)) (at : ℕ) (key : Option K)
    → AreCurrentTo keys tree at → at < length keys → key ≡ key_at keys at
    → AreCurrentTo keys (set tree at key) (at + 1)
one_current keys tree at key so_far lt is = record {
  count = length-set tree at key ∙ so_far.count;
  first = λ t below. elim (cases_eq t at) [
    | inl e ↦ ap (key_at (set tree at key)) e ∙ get_or-set_same tree at key None (subst (λ n. at < n) (sym so_far.count) lt) ∙ is ∙ ap (key_at keys) (sym e)
    | inr ne ↦ get_or-set_other tree at t key None ne ∙ so_far.first t (omega (arith, below, ne))
  ];
}

pub all_current : {K : Type 0} (keys tree : List (Option K)) (n : ℕ) → AreCurrentTo keys tree n
    → n ≡ length keys → tree ≡ keys
all_current keys tree n so_far end = ext_get_or None tree keys so_far.count (λ t lt. so_far.first t (omega (arith, lt, end, so_far.count)))
