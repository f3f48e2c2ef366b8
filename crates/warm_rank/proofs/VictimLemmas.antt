-- The victim is farthest back.
use Rattle.std.proofs.Common.{◌≡◌, ◌≢◌, ◌⊎◌, refl, inl, inr, arith, ℕ, Option, Some, None, sym, ap, subst, ◌∙◌}
use Rattle.std.specs.Cmp.{nat_cmp_is}
use Rattle.std.specs.Ordering.{ordering_then}
use Rattle.std.specs.declared.cmp.Ordering.{Ordering}
use Rattle.std.specs.declared.cmp.Ordering.TheVariants.{Less, Equal, Greater}
use Rattle.std.proofs.lemmas.Bool.{cases_lt}
use Rattle.std.proofs.lemmas.Cmp.{tied_itself}
use Rattle.warm_stamps.specs.declared.PageId.{PageId}
use Rattle.warm_stamps.specs.Stamps.{page_cmp}
use Rattle.warm_stamps.proofs.DistinctLemmas.{by_cases}
use Rattle.warm_stamps.proofs.StampLemmas.{page_order}
use Rattle.warm_history.specs.ReferenceSets.{ReferenceSet}
use Rattle.warm_rank.specs.Ranking.{dist, latest, eviction_cmp, farther_cmp, older_cmp, IsBefore}
use Rattle.warm_rank.specs.Laws.{IsNotFarther, VictimIsFarthest}
use Rattle.warm_rank.proofs.EvictionLemmas.{truncation_keeps_order}

-- what does not come after the other in the order of distances is not less far
not_farther : (x y : Option ℕ) → (farther_cmp x y ≡ Greater → ⊥) → IsNotFarther y x
not_farther None y never = tt
not_farther (Some m) None never = absurd (never refl)
not_farther (Some m) (Some n) never = elim (cases_lt m n) [ inl less ↦ absurd (never (sym (nat_cmp_is n m Greater less))) | inr le ↦ le ]

never_greater : (o later : Ordering) → ordering_then o later ≡ Less → o ≡ Greater → ⊥
never_greater Less later less is = absurd (cc)
never_greater Equal later less is = absurd (cc)
never_greater Greater later less is = absurd (cc)

-- a page that is evicted before another is not less far
before_is_farther : (S : ReferenceSet) (p q : PageId) → IsBefore S p q
    → IsNotFarther (dist S q) (dist S p)
unfolding eviction_cmp
before_is_farther S p q before =
    not_farther (dist S p) (dist S q) (never_greater (farther_cmp (dist S p) (dist S q)) (ordering_then (older_cmp (latest S p) (latest S q)) (page_cmp q p)) before)

itself : (x : Option ℕ) → IsNotFarther x x
itself None = tt
itself (Some n) = omega arith

same_or_not : (p q : PageId) → (p ≡ q) ⊎ (p ≢ q)
same_or_not p q =
    by_cases (page_cmp p q) _
    (λ less. inr (λ is. let both : Less ≡ Equal = sym less ∙ ap (λ x. page_cmp p x) (sym is) ∙ tied_itself page_order.total p in absurd (cc)))
    (λ tied. inl (page_order.same p q tied))
    (λ more. inr (λ is. let both : Greater ≡ Equal = sym more ∙ ap (λ x. page_cmp p x) (sym is) ∙ tied_itself page_order.total p in absurd (cc)))

pub victim_is_farthest : VictimIsFarthest
victim_is_farthest h S stands U v victim =
    let alike = truncation_keeps_order h S stands in record {
      one_of = victim.0;
      farthest = λ p has. elim (same_or_not p v) [
        | inl is ↦ subst (λ x. IsNotFarther (dist S x) (dist S v)) (sym is) (itself (dist S v))
        | inr other ↦ before_is_farther S v p (sym (alike.evicted_alike v p) ∙ victim.1 p has other)
      ];
    }
