-- What a walk writes that goes over all pairs.
use Rattle.std.proofs.Common.{◌≡◌, ℕ, ◌==◌, Bool, true, false, cond, [], ◌∷◌, sym, ap, refl, ◌∙◌, subst, length, suc, Some, None, IsSome}
use Rattle.std.specs.Option.{option_or}
use Rattle.std.specs.Map.Calls.{RetainsPairs}
use Rattle.std.specs.Ordering.{is_eq, nat_cmp}
use Rattle.std.specs.declared.cmp.Ordering.TheVariants.{Less, Equal, Greater}
use Rattle.std.proofs.lemmas.Bool.{eqb-true, eq-eqb}
use Rattle.std.proofs.lemmas.Cmp.{tied_itself}
use Rattle.warm_stamps.proofs.DistinctLemmas.{by_cases, flipped, is_equal}
use Rattle.warm_maps.specs.declared.hist.PageHist.{PageHist}
use Rattle.warm_maps.specs.MapPairs.{MapPairs}
use Rattle.warm_maps.specs.BucketMaps.{KeysAscend, found}
use Rattle.warm_maps.specs.Runs.{with_pairs}
use Rattle.warm_maps.specs.Walks.{AreThere, next_value, next_left}
use Rattle.warm_maps.proofs.MapKeyOrder.{nat_order}
use Rattle.warm_maps.proofs.MapPairLemmas.{below_all, no_later}
use Rattle.warm_maps.proofs.RunPairs.{AreAbove, same_found}
use Rattle.warm_maps.proofs.MergedLemmas.{found_with, rise_with}

-- the pairs after the walk
abbrev along : MapPairs → MapPairs → MapPairs
along left [] = []
along left (e ∷ es) = (e.0, next_value left e.0 e.1) ∷ along (next_left left e.0) es

along_above : (k : ℕ) (left es : MapPairs) → AreAbove k es → AreAbove k (along left es)
along_above k left [] above = tt
along_above k left (e ∷ es) above = (above.0, along_above k (next_left left e.0) es above.1)

along_rise : (left es : MapPairs) → KeysAscend es → KeysAscend (along left es)
along_rise left [] rise = tt
along_rise left (e ∷ es) rise = (along_above e.0 (next_left left e.0) es rise.0, along_rise (next_left left e.0) es rise.1)

along_long : (left es : MapPairs) → length (along left es) ≡ length es
along_long left [] = refl
along_long left (e ∷ es) = ap suc (along_long (next_left left e.0) es)

-- keys past the first pair are keys of the others
there_past : (e : ℕ × PageHist) (es left : MapPairs) → AreAbove e.0 left → AreThere left (e ∷ es)
    → AreThere left es
there_past e es [] above there = tt
there_past e es (x ∷ left) above there =
    let more : nat_cmp x.0 e.0 ≡ Greater = flipped nat_cmp nat_order e.0 x.0 Less above.0 in
    let same : found x.0 (e ∷ es) ≡ found x.0 es = rw more refl in
    (subst IsSome same there.0, there_past e es left above.1 there.1)

-- what is found after the walk: the values written, or else those before
along_found : (left es : MapPairs) → KeysAscend left → KeysAscend es → AreThere left es → (q : ℕ)
    → found q (along left es) ≡ option_or (found q left) (found q es)
along_found [] [] rise_left rise there q = refl
along_found (x ∷ left) [] rise_left rise there q = let no : false ≡ true = there.0 in absurd (cc)
along_found [] (e ∷ es) rise_left rise there q = ap (cond (is_eq (nat_cmp q e.0)) (Some e.1)) (along_found [] es tt rise.1 tt q)
along_found (x ∷ left) (e ∷ es) rise_left rise there q = by_cases (nat_cmp x.0 e.0) _
    (λ less.
    let none : found x.0 (e ∷ es) ≡ None = no_later x.0 (e ∷ es) (less, below_all x.0 e.0 es less rise.0) in
    let no : false ≡ true = subst IsSome none there.0 in
    absurd (cc))
    (λ tied.
    let same : x.0 ≡ e.0 = nat_order.same x.0 e.0 tied in
    let here : (x.0 == e.0) ≡ true = eq-eqb x.0 e.0 same in
    let above : AreAbove e.0 left = subst (λ k. AreAbove k left) same rise_left.0 in
    let rest = along_found left es rise_left.1 rise.1 (there_past e es left above there.1) q in
    rw here (
    ap (cond (is_eq (nat_cmp q e.0)) (Some x.1)) rest
    ∙ over (is_eq (nat_cmp q e.0))
    ∙ ap (λ k. option_or (cond (is_eq (nat_cmp q k)) (Some x.1) (found q left)) (found q (e ∷ es))) (sym same)))
    (λ more.
    let away : (x.0 == e.0) ≡ false = other (x.0 == e.0) refl more in
    let less : nat_cmp e.0 x.0 ≡ Less = flipped nat_cmp nat_order x.0 e.0 Greater more in
    let above : AreAbove e.0 (x ∷ left) = (less, below_all e.0 x.0 left less rise_left.0) in
    let rest = along_found (x ∷ left) es rise_left rise.1 (there_past e es (x ∷ left) above there) q in
    rw away (ap (cond (is_eq (nat_cmp q e.0)) (Some e.1)) rest ∙ cases above (is_eq (nat_cmp q e.0)) refl))
  where
    over : (b : Bool) → cond b (Some x.1) (option_or (found q left) (found q es))
        ≡ option_or (cond b (Some x.1) (found q left)) (cond b (Some e.1) (found q es))
    over true = refl
    over false = refl

    other : (c : Bool) → (x.0 == e.0) ≡ c → nat_cmp x.0 e.0 ≡ Greater → c ≡ false
    other false at more = refl
    other true at more =
        let same : x.0 ≡ e.0 = eqb-true x.0 e.0 at in
        let own : nat_cmp x.0 x.0 ≡ Equal = tied_itself nat_order.total x.0 in
        let tied : nat_cmp x.0 e.0 ≡ Equal = subst (λ k. nat_cmp x.0 k ≡ Equal) same own in
        let no : Greater ≡ Equal = sym more ∙ tied in
        absurd (cc)

    cases : AreAbove e.0 (x ∷ left) → (b : Bool) → is_eq (nat_cmp q e.0) ≡ b
        → cond (is_eq (nat_cmp q e.0)) (Some e.1) (option_or (found q (x ∷ left)) (found q es))
        ≡ option_or (found q (x ∷ left)) (cond (is_eq (nat_cmp q e.0)) (Some e.1) (found q es))
    cases above true here =
        let one : q ≡ e.0 = nat_order.same q e.0 (is_equal (nat_cmp q e.0) here) in
        let none : found q (x ∷ left) ≡ None = subst (λ k. found k (x ∷ left) ≡ None) (sym one) (no_later e.0 (x ∷ left) above) in
        rw (here, none) refl
    cases above false there = rw there refl

along_is : (left es : MapPairs) → KeysAscend left → KeysAscend es → AreThere left es
    → along left es ≡ with_pairs es left
along_is left es rise_left rise there =
    same_found (along left es) (with_pairs es left) (along_rise left es rise) (rise_with es left rise)
    (λ q. along_found left es rise_left rise there q ∙ sym (found_with q es left))

-- ---- what `retain` leaves

-- each call writes the value that is next
module _ {F : Type 0} (T : F → ℕ → PageHist → Bool → PageHist → F → Type 0) (left_of : F → MapPairs)
    (says : (f : F) (k : ℕ) (v : PageHist) (b : Bool) (w : PageHist) (g : F) → T f k v b w g
    → (b ≡ true) × (w ≡ next_value (left_of f) k v) × (left_of g ≡ next_left (left_of f) k)) where
  along_retain : (f : F) (left es kept : MapPairs) → left_of f ≡ left → RetainsPairs T f es kept
      → kept ≡ along left es
  along_retain f left [] kept is ran = ran
  along_retain f left (e ∷ es) kept is ran =
      let call = says f e.0 e.1 ran.0 ran.1 ran.2 ran.4 in
      let rest : ran.3 ≡ along (next_left left e.0) es = along_retain ran.2 (next_left left e.0) es ran.3 (call.2 ∙ ap (λ t. next_left t e.0) is) ran.5 in
      ran.6
      ∙ ap (λ b. cond b ((e.0, ran.1) ∷ ran.3) ran.3) call.0
      ∙ ap (λ h. (e.0, h) ∷ ran.3) (call.1 ∙ ap (λ t. next_value t e.0 e.1) is)
      ∙ ap (λ t. (e.0, next_value left e.0 e.1) ∷ t) rest

  pub written_along : (f : F) (left es kept : MapPairs) → left_of f ≡ left → KeysAscend left
      → KeysAscend es → AreThere left es → RetainsPairs T f es kept
      → (kept ≡ with_pairs es left) × (length kept ≡ length es)
  written_along f left es kept is rise_left rise there ran =
      let walked = along_retain f left es kept is ran in
      (walked ∙ along_is left es rise_left rise there, ap length walked ∙ along_long left es)
