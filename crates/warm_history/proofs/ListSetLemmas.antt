-- A history depends on the set of the references alone.
use Rattle.std.proofs.Common.{◌≡◌, Bool, true, false, List, [], ◌∷◌, sym, ap, refl, ◌∙◌, inl, inr}
use Rattle.std.specs.Ordering.{is_eq, flip_args}
use Rattle.std.proofs.lemmas.Cmp.{tied_itself}
use Rattle.warm_stamps.specs.declared.Stamp.{Stamp}
use Rattle.warm_stamps.specs.declared.PageId.{PageId}
use Rattle.warm_stamps.specs.declared.Reference.{Reference}
use Rattle.warm_stamps.specs.Stamps.{stamp_cmp, page_cmp}
use Rattle.warm_stamps.proofs.DistinctLemmas.{is_equal, Has, distinct_same}
use Rattle.warm_stamps.proofs.StampLemmas.{stamp_order, page_order, IsStrictOrder-flip}
use Rattle.warm_history.specs.ListHistories.{first_two, list_hist, list_history}
use Rattle.warm_history.specs.References.{IsIn}
use Rattle.warm_history.proofs.ListHistoryLemmas.{told, same_hists}

pub told_is_in : (S : List Reference) (p : PageId) (s : Stamp) → Has (told S p) s
    → IsIn (record { page = p; stamp = s }) S
told_is_in [] p s has = absurd has
told_is_in (r ∷ S) p s has = cases (told_is_in S p s) (is_eq (page_cmp r.page p)) refl
  where
    cases : (Has (told S p) s → IsIn (record { page = p; stamp = s }) S) → (b : Bool)
        → is_eq (page_cmp r.page p) ≡ b → IsIn (record { page = p; stamp = s }) (r ∷ S)
    cases rest true here =
        let page : r.page ≡ p = page_order.same r.page p (is_equal (page_cmp r.page p) here) in
        elim (rw here at has) [ inl e ↦ inl (λ i. record { page = page i; stamp = e i }) | inr there ↦ inr (rest there) ]
    cases rest false other = inr (rest (rw other at has))

pub told_has : (S : List Reference) (p : PageId) (s : Stamp) → IsIn (record { page = p; stamp = s }) S
    → Has (told S p) s
told_has [] p s is_in = absurd is_in
told_has (r ∷ S) p s is_in = elim is_in [
  | inl e ↦
      let page : r.page ≡ p = ap (λ (x : Reference). x.page) e in
      let stamp : r.stamp ≡ s = ap (λ (x : Reference). x.stamp) e in
      let here : is_eq (page_cmp r.page p) ≡ true = ap (λ q. is_eq (page_cmp r.page q)) (sym page) ∙ ap is_eq (tied_itself page_order.total r.page) in
      rw here (inl stamp)
  | inr later ↦ cases (told_has S p s later) (is_eq (page_cmp r.page p)) refl
]
  where
    cases : Has (told S p) s → (b : Bool) → is_eq (page_cmp r.page p) ≡ b → Has (told (r ∷ S) p) s
    cases rest true here = rw here (inr rest)
    cases rest false other = rw other rest

-- lists of the same references agree on each page
pub hist_of_set : (S T : List Reference) → ((r : Reference) → IsIn r S → IsIn r T)
    → ((r : Reference) → IsIn r T → IsIn r S) → (p : PageId) → list_hist S p ≡ list_hist T p
hist_of_set S T there back p = ap first_two (distinct_same (flip_args stamp_cmp) (IsStrictOrder-flip stamp_cmp stamp_order) (told S p) (told T p)
    (λ s has. told_has T p s (there (record { page = p; stamp = s }) (told_is_in S p s has)))
    (λ s has. told_has S p s (back (record { page = p; stamp = s }) (told_is_in T p s has))))

pub history_of_set : (S T : List Reference) → ((r : Reference) → IsIn r S → IsIn r T)
    → ((r : Reference) → IsIn r T → IsIn r S) → list_history S ≡ list_history T
history_of_set S T there back = same_hists S T (hist_of_set S T there back)
