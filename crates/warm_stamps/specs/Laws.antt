-- The laws of the orders of stamps, pages and references.
use Rattle.std.specs.Prelude.{◌≡◌}
use Rattle.std.specs.Ordering.{ordering_reverse}
use Rattle.std.specs.declared.cmp.Ordering.{Ordering}
use Rattle.std.specs.declared.cmp.Ordering.TheVariants.{Less, Equal}
use Rattle.warm_stamps.specs.Stamps.{stamp_cmp, page_cmp, reference_cmp}

-- only equal values tie, exchanging the two values reverses the answer, and the order is transitive
pub record OrdersTotally {A : Type 0} (cmp : A → A → Ordering) : Type 0 where
  pub ties : (x y : A) → cmp x y ≡ Equal → x ≡ y
  pub turns : (x y : A) → cmp y x ≡ ordering_reverse (cmp x y)
  pub transitive : (x y z : A) → cmp x y ≡ Less → cmp y z ≡ Less → cmp x z ≡ Less

-- the order of stamps is total
abbrev pub StampOrderIsTotal : Type 0
StampOrderIsTotal = OrdersTotally stamp_cmp

-- the order of pages is total
abbrev pub PageOrderIsTotal : Type 0
PageOrderIsTotal = OrdersTotally page_cmp

-- the order of references is total
abbrev pub ReferenceOrderIsTotal : Type 0
ReferenceOrderIsTotal = OrdersTotally reference_cmp
