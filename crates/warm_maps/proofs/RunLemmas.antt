-- The keys and values of a run.
use Rattle.std.proofs.Common.{◌≡◌, ℕ, List, [], ◌∷◌, ◌++◌, sym, ap, refl, ◌∙◌, Option, Some, None, filter, ◌+◌}
use Rattle.std.proofs.lemmas.List.{append-nil}
use Rattle.warm_stamps.specs.declared.Stamp.{Stamp}
use Rattle.warm_maps.specs.declared.hist.PageHist.{PageHist}
use Rattle.warm_maps.specs.declared.hist.Entry.{Entry}
use Rattle.warm_maps.specs.PageHists.{latest_of, hist_stamps, known_stamps, is_kept}
use Rattle.warm_maps.specs.MapKeys.{key_of_page, near_key}
use Rattle.warm_maps.specs.Runs.{RiseWithin, at_key, run_pairs, near_run}
use Rattle.warm_maps.specs.Walks.{joined_with, AreTwoLatest}
use Rattle.warm_maps.proofs.MapPairLemmas.{AreKeys}
use Rattle.warm_maps.proofs.LatestLemmas.{latest_of_first}

-- ---- the values of a run

latest_again : (ss : List Stamp) (h : PageHist) → latest_of ss ≡ Some h
    → joined_with h None ≡ Some h
latest_again ss h is =
    ap (λ o. latest_of (known_stamps o ++ [])) (sym is)
    ∙ sym (latest_of_first ss [])
    ∙ ap latest_of (append-nil ss)
    ∙ is

pub run_latest : (m : ℕ) (es : List Entry) → AreTwoLatest (near_run m es)
run_latest m [] = tt
run_latest m (e ∷ es) = cases (latest_of (filter (is_kept m) (hist_stamps e.hist))) refl (run_latest m es)
  where
    cases : (o : Option PageHist) → latest_of (filter (is_kept m) (hist_stamps e.hist)) ≡ o
        → AreTwoLatest (near_run m es) → AreTwoLatest (at_key (near_key e.page) o ++ near_run m es)
    cases None is rest = rest
    cases (Some h) is rest = (latest_again (filter (is_kept m) (hist_stamps e.hist)) h is, rest)

-- ---- the bucket that changes

pub are_keys : (m from to : ℕ) (es : List Entry) → RiseWithin from to es → AreKeys (run_pairs m es)
are_keys m from to [] rise = tt
are_keys m from to (e ∷ es) rise = cases (latest_of (filter (is_kept m) (hist_stamps e.hist))) (are_keys m (key_of_page e.page + 1) to es rise.3)
  where
    cases : (o : Option PageHist) → AreKeys (run_pairs m es)
        → AreKeys (at_key (key_of_page e.page) o ++ run_pairs m es)
    cases None all = all
    cases (Some h) all = (ap key_of_page rise.2, all)
