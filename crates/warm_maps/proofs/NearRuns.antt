-- The pairs of a run at near keys are those of the run.
use Rattle.std.proofs.Common.{◌≡◌, ℕ, List, [], ◌∷◌, ◌++◌, ap, refl, ◌∙◌, sym, subst, arith, Option, Some, None, filter, ◌+◌, ◌/◌, ◌%◌, ◌<◌, ◌≤◌}
use Rattle.std.specs.List.{AllByRecursion}
use Rattle.warm_stamps.specs.declared.PageId.{PageId}
use Rattle.warm_stamps.specs.Buckets.{page_bucket}
use Rattle.warm_maps.specs.declared.hist.PageHist.{PageHist}
use Rattle.warm_maps.specs.declared.hist.Entry.{Entry}
use Rattle.warm_maps.specs.BucketMaps.{KeysAscend}
use Rattle.warm_maps.specs.PageHists.{latest_of, hist_stamps, is_kept}
use Rattle.warm_maps.specs.MapKeys.{first_key, first_far_key, full_key, key_of_page, page_of_key, near_key}
use Rattle.warm_maps.specs.MapPairs.{MapPairs}
use Rattle.warm_maps.specs.NearPairs.{widened, with_keys}
use Rattle.warm_maps.specs.Runs.{RiseWithin, IsRun, AreNear, at_key, run_pairs, near_run}
use Rattle.warm_maps.proofs.NearKeys.{full_keeps, full_near, near_fits}
use Rattle.warm_maps.proofs.RunPairs.{pairs_rise}
use Rattle.warm_maps.proofs.WithKeys.{rises_back}

-- the page of an entry of a run
record IsOf (number : ℕ) (p : PageId) : Type 0 where
  low : p.dev < 64
  fits : p.no < 18446744073709551616
  own : page_bucket p ≡ number

is_of : (number : ℕ) (p : PageId) → first_key number ≤ key_of_page p
    → key_of_page p < first_far_key number → page_of_key (key_of_page p) ≡ p → IsOf number p
is_of number p from to back =
    let dev : key_of_page p / 18446744073709551616 % 65536 ≡ p.dev = ap (λ (q : PageId). q.dev) back in
    let no : key_of_page p % 18446744073709551616 ≡ p.no = ap (λ (q : PageId). q.no) back in
    let fits : p.no < 18446744073709551616 = omega (arith, no) in
    let small : p.dev < 65536 = omega (arith, dev) in
    record {
      low = omega arith;
      fits = fits;
      own = omega arith;
    }

pub run_near : (number from : ℕ) (es : List Entry) → first_key number ≤ from
    → RiseWithin from (first_far_key number) es → AreNear es
run_near number from [] begins rise = tt
run_near number from (e ∷ es) begins rise =
    let p = key_of_page e.page in
    let starts : from ≤ key_of_page e.page = rise.0 in
    let low : first_key number ≤ key_of_page e.page = omega arith in
    let later : first_key number ≤ key_of_page e.page + 1 = omega arith in
    ((is_of number e.page low rise.1 rise.2).low, run_near number (p + 1) es later rise.3)

pub with_append : (f : ℕ → ℕ) (m n : MapPairs)
    → with_keys f (m ++ n) ≡ with_keys f m ++ with_keys f n
with_append f [] n = refl
with_append f (e ∷ m) n = ap (λ t. (f e.0, e.1) ∷ t) (with_append f m n)

pub with_at : (f : ℕ → ℕ) (p : ℕ) (h : Option PageHist) → with_keys f (at_key p h) ≡ at_key (f p) h
with_at f p None = refl
with_at f p (Some h) = refl

pub widened_run : (m number from : ℕ) (es : List Entry) → first_key number ≤ from
    → RiseWithin from (first_far_key number) es → widened number (near_run m es) ≡ run_pairs m es
widened_run m number from [] begins rise = refl
widened_run m number from (e ∷ es) begins rise =
    let p = key_of_page e.page in
    let h = latest_of (filter (is_kept m) (hist_stamps e.hist)) in
    let starts : from ≤ key_of_page e.page = rise.0 in
    let low : first_key number ≤ key_of_page e.page = omega arith in
    let later : first_key number ≤ key_of_page e.page + 1 = omega arith in
    let is = is_of number e.page low rise.1 rise.2 in
    let key : full_key number (near_key e.page) ≡ p = ap (λ b. full_key b (near_key e.page)) (sym is.own) ∙ full_near e.page is.low is.fits in
    with_append (full_key number) (at_key (near_key e.page) h) (near_run m es)
    ∙ ap (λ t. t ++ widened number (near_run m es)) (with_at (full_key number) (near_key e.page) h ∙ ap (λ k. at_key k h) key)
    ∙ ap (λ t. at_key p h ++ t) (widened_run m number (p + 1) es later rise.3)

pub near_rise : (m number : ℕ) (es : List Entry) → IsRun number es → KeysAscend (near_run m es)
near_rise m number es run = rises_back (full_key number) (full_keeps number) (near_run m es)
    (subst KeysAscend (sym (widened_run m number (first_key number) es (omega arith) run)) (pairs_rise m (first_key number) (first_far_key number) es run))

all_at : (p : ℕ) (h : Option PageHist) (rest : MapPairs) → p < 18446744073709551616
    → AllByRecursion (λ (e : ℕ × PageHist). e.0 < 18446744073709551616) rest
    → AllByRecursion (λ (e : ℕ × PageHist). e.0 < 18446744073709551616) (at_key p h ++ rest)
all_at p None rest is all = all
all_at p (Some h) rest is all = (is, all)

pub near_small : (m number from : ℕ) (es : List Entry) → first_key number ≤ from
    → RiseWithin from (first_far_key number) es
    → AllByRecursion (λ (e : ℕ × PageHist). e.0 < 18446744073709551616) (near_run m es)
near_small m number from [] begins rise = tt
near_small m number from (e ∷ es) begins rise =
    let p = key_of_page e.page in
    let starts : from ≤ key_of_page e.page = rise.0 in
    let low : first_key number ≤ key_of_page e.page = omega arith in
    let later : first_key number ≤ key_of_page e.page + 1 = omega arith in
    let is = is_of number e.page low rise.1 rise.2 in
    all_at (near_key e.page) (latest_of (filter (is_kept m) (hist_stamps e.hist))) (near_run m es) (near_fits e.page is.low is.fits) (near_small m number (p + 1) es later rise.3)

-- the pairs of a run that are given at near keys, and the number of its bucket
pub same_run : (m number given : ℕ) (es : List Entry) (near : MapPairs) → IsRun number es
    → given ≡ number → near ≡ near_run m es → widened given near ≡ run_pairs m es
same_run m number given es near run own is =
    ap (λ b. widened b near) own
    ∙ ap (widened number) is
    ∙ widened_run m number (first_key number) es (omega arith) run
