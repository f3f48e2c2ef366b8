-- What is left of pairs at a horizon keeps what is left of their history.
use Rattle.std.proofs.Common.{◌≡◌, ℕ, Bool, true, false, cond, [], ◌∷◌, sym, ap, refl, ◌∙◌, Option, Some, None}
use Rattle.std.specs.List.{cons_option}
use Rattle.std.specs.Option.{option_map, option_and_then}
use Rattle.std.specs.Ordering.{is_eq}
use Rattle.warm_stamps.specs.declared.PageId.{PageId}
use Rattle.warm_stamps.specs.Stamps.{page_cmp}
use Rattle.warm_stamps.proofs.DistinctLemmas.{is_equal}
use Rattle.warm_stamps.proofs.StampLemmas.{page_order}
use Rattle.warm_maps.specs.declared.hist.PageHist.{PageHist}
use Rattle.warm_history.specs.ReferenceSets.{references_from}
use Rattle.warm_history.specs.KeptEntries.{kept_hist, kept_entries}
use Rattle.warm_history.specs.ListHistories.{list_history, list_references_of}
use Rattle.warm_maps.specs.MapKeys.{page_of_key}
use Rattle.warm_maps.specs.MapPairs.{MapPairs, as_entries, AreKept}
use Rattle.warm_history.specs.maps.KeptPairs.{kept}
use Rattle.warm_maps.specs.Cuts.{cut_at}
use Rattle.warm_history.proofs.ListHistoryLemmas.{get, get-history, hist-refs, same_gets, IsHistory-history}
use Rattle.warm_history.proofs.ListJoinLemmas.{history_of_own_references}
use Rattle.warm_history.proofs.KeptLemmas.{hist-kept, history-kept}
use Rattle.warm_history.proofs.OrderLemmas.{PagesDiffer, in_order_rises}
use Rattle.warm_history.proofs.maps.KeptPairLemmas.{IsHistory-kept, get-kept, differing}

-- ---- the history that they keep

get-cut : (m : ℕ) (pairs : MapPairs) → PagesDiffer (as_entries pairs) → (q : PageId)
    → get (as_entries (cut_at m pairs)) q ≡ option_and_then (kept_hist m) (get (as_entries pairs) q)
get-cut m [] differ q = refl
get-cut m (e ∷ pairs) differ q = cases (kept_hist m e.1) refl (is_eq (page_cmp (page_of_key e.0) q)) refl (get-cut m pairs differ.1 q)
  where
    cases : (x : Option PageHist) → kept_hist m e.1 ≡ x → (b : Bool)
        → is_eq (page_cmp (page_of_key e.0) q) ≡ b
        → get (as_entries (cut_at m pairs)) q
        ≡ option_and_then (kept_hist m) (get (as_entries pairs) q) →
        get (as_entries (cons_option (option_map (λ h. (e.0, h)) (kept_hist m e.1))
        (cut_at m pairs))) q ≡ option_and_then (kept_hist m)
        (cond (is_eq (page_cmp (page_of_key e.0) q)) (Some e.1) (get (as_entries pairs) q))
    cases None is true here rest =
        let same : page_of_key e.0 ≡ q = page_order.same (page_of_key e.0) q (is_equal (page_cmp (page_of_key e.0) q) here) in
        let none : get (as_entries pairs) q ≡ None = ap (get (as_entries pairs)) (sym same) ∙ differ.0 in
        ap (λ x. get (as_entries (cons_option (option_map (λ h. (e.0, h)) x) (cut_at m pairs))) q) is
        ∙ rest
        ∙ ap (option_and_then (kept_hist m)) none
        ∙ sym is
        ∙ ap (λ b. option_and_then (kept_hist m) (cond b (Some e.1) (get (as_entries pairs) q))) (sym here)
    cases None is false other rest =
        ap (λ x. get (as_entries (cons_option (option_map (λ h. (e.0, h)) x) (cut_at m pairs))) q) is
        ∙ rest
        ∙ ap (λ b. option_and_then (kept_hist m) (cond b (Some e.1) (get (as_entries pairs) q))) (sym other)
    cases (Some h) is true here rest =
        ap (λ x. get (as_entries (cons_option (option_map (λ h. (e.0, h)) x) (cut_at m pairs))) q) is
        ∙ ap (λ b. cond b (Some h) (get (as_entries (cut_at m pairs)) q)) here
        ∙ sym is
        ∙ ap (λ b. option_and_then (kept_hist m) (cond b (Some e.1) (get (as_entries pairs) q))) (sym here)
    cases (Some h) is false other rest =
        ap (λ x. get (as_entries (cons_option (option_map (λ h. (e.0, h)) x) (cut_at m pairs))) q) is
        ∙ ap (λ b. cond b (Some h) (get (as_entries (cut_at m pairs)) q)) other
        ∙ rest
        ∙ ap (λ b. option_and_then (kept_hist m) (cond b (Some e.1) (get (as_entries pairs) q))) (sym other)

pub cut_kept : (m : ℕ) (pairs : MapPairs) → AreKept pairs
    → kept (cut_at m pairs) ≡ kept_entries m (kept pairs)
cut_kept m pairs are =
    let S = list_references_of (kept pairs) in
    let whole = IsHistory-kept pairs are in
    same_gets (kept (cut_at m pairs)) (list_history (references_from m S)) (in_order_rises (as_entries (cut_at m pairs))) (IsHistory-history (references_from m S)).pages_ascend (λ q.
    get-kept (cut_at m pairs) q
    ∙ get-cut m pairs (differing pairs are.keys_ascend are.are_keys) q
    ∙ ap (option_and_then (kept_hist m)) (sym (get-kept pairs q) ∙ sym (hist-refs (kept pairs) whole q))
    ∙ sym (hist-kept m S q)
    ∙ sym (get-history (references_from m S) q))
    ∙ sym (history-kept m S)
    ∙ ap (kept_entries m) (history_of_own_references (kept pairs) whole)
