-- What is recorded at a key of a map, and restored there; keys of any type, in the order cmp.
use Rattle.std.proofs.Common.{◌≡◌, ◌≢◌, ◌++◌, Bool, true, false, cond, List, [], ◌∷◌, ap, sym, refl, ◌∙◌, Option, Some, None}
use Rattle.std.specs.List.{AllByRecursion}
use Rattle.std.specs.List.Sorted.{IsStrictlySortedBy}
use Rattle.std.specs.Map.{keys_of, lookup, set_value}
use Rattle.std.specs.BTreeMap.{is_at, insert_entry}
use Rattle.std.specs.Cmp.{IsTotalOrder}
use Rattle.std.specs.Ordering.{is_eq}
use Rattle.std.specs.declared.cmp.Ordering.{Ordering}
use Rattle.std.specs.declared.cmp.Ordering.TheVariants.{Less, Equal, Greater}
use Rattle.std.proofs.lemmas.Cmp.{tied_itself}
use Rattle.std.proofs.lemmas.Map.Steps.{set_value_same}
use Rattle.warm_stamps.specs.declared.PageId.{PageId}
use Rattle.warm_stamps.proofs.DistinctLemmas.{by_cases}
use Rattle.warm_maps.specs.declared.hist.PageHist.{PageHist}
use Rattle.warm_maps.specs.PageHists.{latest_of, hist_stamps, known_stamps}
use Rattle.warm_maps.specs.BucketMaps.{RecordsAt}
use Rattle.warm_maps.specs.Undo.{put_back_at}

module _ {K : Type 0} (cmp : K → K → Ordering) where
  -- a value is not restored if there is none
  absent_value : (p : K) (h : PageHist) (pairs : List (K × PageHist))
      → lookup (is_at (cmp p)) pairs ≡ None → set_value (is_at (cmp p)) pairs h ≡ pairs
  absent_value p h [] none = refl
  absent_value p h (e ∷ pairs) none = cases (absent_value p h pairs) (is_eq (cmp p e.0)) refl
    where
      cases : (lookup (is_at (cmp p)) pairs ≡ None → set_value (is_at (cmp p)) pairs h ≡ pairs)
          → (b : Bool) → is_eq (cmp p e.0) ≡ b → set_value (is_at (cmp p)) (e ∷ pairs) h ≡ e ∷ pairs
      cases later true is = let no : Some e.1 ≡ None = sym (ap (λ b. cond b (Some e.1) (lookup (is_at (cmp p)) pairs)) is) ∙ none in absurd (cc)
      cases later false is =
          let rest : lookup (is_at (cmp p)) pairs ≡ None = sym (ap (λ b. cond b (Some e.1) (lookup (is_at (cmp p)) pairs)) is) ∙ none in
          rw is (ap (λ t. e ∷ t) (later rest))

  pub put_back_absent : (p : K) (known : Option PageHist) (h : PageHist)
      (pairs : List (K × PageHist)) → known ≡ Some h → lookup (is_at (cmp p)) pairs ≡ None
      → pairs ≡ put_back_at cmp p known pairs
  put_back_absent p known h pairs is none = sym (absent_value p h pairs none) ∙ ap (λ k. put_back_at cmp p k pairs) (sym is)

  module _ (total : IsTotalOrder cmp) where
    none_above : (p : K) (pairs : List (K × PageHist))
        → AllByRecursion (λ k. cmp p k ≡ Less) (keys_of pairs) → lookup (is_at (cmp p)) pairs ≡ None
    none_above p [] all = refl
    none_above p (e ∷ pairs) all = let less : cmp p e.0 ≡ Less = all.0 in rw less (none_above p pairs all.1)

    above_too : (p q : K) (pairs : List (K × PageHist)) → cmp p q ≡ Less
        → AllByRecursion (λ k. cmp q k ≡ Less) (keys_of pairs)
        → AllByRecursion (λ k. cmp p k ≡ Less) (keys_of pairs)
    above_too p q [] less all = tt
    above_too p q (e ∷ pairs) less all = (total.trans p q e.0 less all.0, above_too p q pairs less all.1)

    -- a value written at a key that is there is put in
    pub set_there : (p : K) (h g : PageHist) (pairs : List (K × PageHist))
        → IsStrictlySortedBy cmp (keys_of pairs) → lookup (is_at (cmp p)) pairs ≡ Some g
        → set_value (is_at (cmp p)) pairs h ≡ insert_entry cmp pairs p h
    unfolding IsStrictlySortedBy
    set_there p h g [] sorted is = let no : None ≡ Some g = is in absurd (cc)
    set_there p h g (e ∷ pairs) sorted is = cases (set_there p h g pairs sorted.1) (cmp p e.0) refl
      where
        cases : (lookup (is_at (cmp p)) pairs ≡ Some g
            → set_value (is_at (cmp p)) pairs h ≡ insert_entry cmp pairs p h) → (o : Ordering)
            → cmp p e.0 ≡ o → set_value (is_at (cmp p)) (e ∷ pairs) h
            ≡ insert_entry cmp (e ∷ pairs) p h
        cases later Less pe =
            let rest : lookup (is_at (cmp p)) pairs ≡ Some g = sym (ap (λ o. cond (is_eq o) (Some e.1) (lookup (is_at (cmp p)) pairs)) pe) ∙ is in
            let no : None ≡ Some g = sym (none_above p pairs (above_too p e.0 pairs pe sorted.0)) ∙ rest in
            absurd (cc)
        cases later Equal pe = rw pe refl
        cases later Greater pe =
            let rest : lookup (is_at (cmp p)) pairs ≡ Some g = sym (ap (λ o. cond (is_eq o) (Some e.1) (lookup (is_at (cmp p)) pairs)) pe) ∙ is in
            rw pe (ap (λ t. e ∷ t) (later rest))

    -- what was put in at a key is written over there
    set_inserted : (p : K) (g h : PageHist) (pairs : List (K × PageHist))
        → set_value (is_at (cmp p)) (insert_entry cmp pairs p g) h ≡ insert_entry cmp pairs p h
    set_inserted p g h [] = let own : cmp p p ≡ Equal = tied_itself total p in rw own refl
    set_inserted p g h (e ∷ pairs) = by_cases (cmp p e.0) _
        (λ pe. let own : cmp p p ≡ Equal = tied_itself total p in rw pe (rw own refl))
        (λ pe. rw pe (rw pe refl))
        (λ pe. rw pe (rw pe (ap (λ t. e ∷ t) (set_inserted p g h pairs))))

    written : (old mid new : List (K × PageHist)) (p : K) (first after : PageHist)
        → mid ≡ insert_entry cmp old p first → new ≡ set_value (is_at (cmp p)) mid after
        → new ≡ insert_entry cmp old p after
    written old mid new p first after put is = is ∙ ap (λ es. set_value (is_at (cmp p)) es after) put ∙ set_inserted p first after old

    -- ---- a page that was taken for new: its stamps were put in over those that were known, and
    -- these are merged into them

    -- it changes
    pub put_over : (old mid new : List (K × PageHist)) (page : PageId) (p : K)
        (more first before after : PageHist)
        → Some after ≡ latest_of (hist_stamps more ++ hist_stamps before)
        → Some before ≡ lookup (is_at (cmp p)) old → mid ≡ insert_entry cmp old p first
        → new ≡ set_value (is_at (cmp p)) mid after → before ≢ after
        → RecordsAt cmp old page p more (Some (record { page = page; hist = Some before })) new
    put_over old mid new page p more first before after latest known put is differs =
        (after, latest ∙ ap (λ k. latest_of (hist_stamps more ++ known_stamps k)) known, written old mid new p first after put is, (refl, known, λ same. differs (cc)))

    -- the old value is restored
    pub put_back_over : (old mid new : List (K × PageHist)) (page : PageId) (p : K)
        (more first before after : PageHist) → IsStrictlySortedBy cmp (keys_of old)
        → Some after ≡ latest_of (hist_stamps more ++ hist_stamps before)
        → Some before ≡ lookup (is_at (cmp p)) old → mid ≡ insert_entry cmp old p first
        → new ≡ set_value (is_at (cmp p)) mid after → before ≡ after
        → RecordsAt cmp old page p more None new
    put_back_over old mid new page p more first before after sorted latest known put is same =
        let now : new ≡ insert_entry cmp old p after = written old mid new p first after put is in (
          after,
          latest ∙ ap (λ k. latest_of (hist_stamps more ++ known_stamps k)) known,
          now,
          now ∙ ap (insert_entry cmp old p) (sym same) ∙ sym (set_there p before before old sorted (sym known)) ∙ set_value_same (is_at (cmp p)) old before (sym known),
        )
