-- Near keys: in their bucket they are the pages of the near devices, in page order.
use Rattle.std.proofs.Common.{◌≡◌, ℕ, ◌+◌, ◌-◌, ◌*◌, ◌/◌, ◌%◌, ◌<◌, ◌≤◌, true, false, sym, ap, refl, ◌∙◌, arith}
use Rattle.std.specs.Ordering.{is_lt, is_le, nat_cmp}
use Rattle.std.specs.Cmp.{nat_cmp_is}
use Rattle.std.specs.declared.cmp.Ordering.TheVariants.{Less, Equal, Greater}
use Rattle.std.proofs.lemmas.Cmp.{ranked}
use Rattle.warm_stamps.specs.declared.PageId.{PageId}
use Rattle.warm_stamps.specs.Buckets.{page_bucket}
use Rattle.warm_stamps.specs.Stamps.{page_cmp}
use Rattle.warm_stamps.proofs.DistinctLemmas.{by_cases}
use Rattle.warm_maps.specs.BucketMaps.{LiesIn}
use Rattle.warm_maps.specs.MapKeys.{first_key, first_far_key, key_in, key_of_page, page_of_key, near_key, near_page, full_key, IsMapKey}
use Rattle.warm_maps.specs.NearPairs.{IsFar}
use Rattle.warm_maps.proofs.MapKeyOrder.{same_order}

-- the full keys rise as the near ones do
pub full_rises : (b x y : ℕ) → x < y → full_key b x < full_key b y
full_rises b x y less =
    let below : x % 288230376151711744 * 64 + (b + 64 - x / 288230376151711744) % 64 < 18446744073709551616 = omega arith in
    by_cases (nat_cmp (x / 288230376151711744) (y / 288230376151711744)) _
    (λ lower.
    let lt : x / 288230376151711744 < y / 288230376151711744 = ranked (x / 288230376151711744) (y / 288230376151711744) Less (sym lower) in
    omega (arith, lt, below))
    (λ tied.
    let same : x / 288230376151711744 ≡ y / 288230376151711744 = ranked (x / 288230376151711744) (y / 288230376151711744) Equal (sym tied) in
    let low : (b + 64 - x / 288230376151711744) % 64 ≡ (b + 64 - y / 288230376151711744) % 64 = ap (λ (d : ℕ). (b + 64 - d) % 64) same in
    omega (arith, same, low, less))
    (λ more.
    let lt : y / 288230376151711744 < x / 288230376151711744 = ranked (x / 288230376151711744) (y / 288230376151711744) Greater (sym more) in
    absurd (omega (arith, lt, less)))

pub full_keeps : (b x y : ℕ) → nat_cmp (full_key b x) (full_key b y) ≡ nat_cmp x y
full_keeps b x y = by_cases (nat_cmp x y) _
    (λ less. rw less (sym (nat_cmp_is (full_key b x) (full_key b y) Less (full_rises b x y (ranked x y Less (sym less))))))
    (λ tied. rw tied (sym (nat_cmp_is (full_key b x) (full_key b y) Equal (ap (full_key b) (ranked x y Equal (sym tied))))))
    (λ more. rw more (sym (nat_cmp_is (full_key b x) (full_key b y) Greater (full_rises b y x (ranked x y Greater (sym more))))))

-- the page of a near key
pub page_near : (b k : ℕ) → k < 18446744073709551616 → page_of_key (full_key b k) ≡ near_page b k
page_near b k fits =
    let q = near_page b k in
    let small : q.no < 18446744073709551616 = omega arith in
    let dev : full_key b k / 18446744073709551616 % 65536 ≡ q.dev = omega arith in
    let no : full_key b k % 18446744073709551616 ≡ q.no = omega arith in
    λ i. record { dev = dev i; no = no i }

-- what the bucket and the near key determine is the page
pub near_again : (p : PageId) → p.dev < 64 → p.no < 18446744073709551616
    → near_page (page_bucket p) (near_key p) ≡ p
near_again p low fits =
    let q = near_page (page_bucket p) (near_key p) in
    let dev : q.dev ≡ p.dev = omega arith in
    let no : q.no ≡ p.no = omega arith in
    λ i. record { dev = dev i; no = no i }

pub full_near : (p : PageId) → p.dev < 64 → p.no < 18446744073709551616
    → full_key (page_bucket p) (near_key p) ≡ key_of_page p
full_near p low fits = ap (key_in (page_bucket p)) (near_again p low fits)

pub near_fits : (p : PageId) → p.dev < 64 → p.no < 18446744073709551616
    → near_key p < 18446744073709551616
near_fits p low fits = omega arith

-- where the keys of a bucket lie
pub near_before_far : (b k : ℕ) → k < 18446744073709551616 → full_key b k < first_far_key b
near_before_far b k fits = omega arith

pub near_inside : (b k : ℕ) → k < 18446744073709551616 → LiesIn b (full_key b k)
near_inside b k fits = (omega arith, omega arith)

pub far_inside : (b k : ℕ) → IsFar b k → LiesIn b k
far_inside b k far =
    let from : first_far_key b ≤ k = far.0 in
    (omega arith, far.1)

pub key_far : (p : PageId) → 64 ≤ p.dev → p.dev < 65536 → p.no < 18446744073709551616
    → IsFar (page_bucket p) (key_of_page p)
key_far p high dev fits = (omega arith, omega arith)

-- the page of a page's key
pub page_back : (p : PageId) → p.dev < 65536 → p.no < 18446744073709551616
    → page_of_key (key_of_page p) ≡ p
page_back p low fits =
    let dev : key_of_page p / 18446744073709551616 % 65536 ≡ p.dev = omega arith in
    let no : key_of_page p % 18446744073709551616 ≡ p.no = omega arith in
    λ i. record { dev = dev i; no = no i }

pub page_key : (p : PageId) → p.dev < 65536 → p.no < 18446744073709551616 → IsMapKey (key_of_page p)
page_key p low fits = ap key_of_page (page_back p low fits)

pub own_bucket_of : (p : PageId) → p.dev < 65536 → p.no < 18446744073709551616
    → LiesIn (page_bucket p) (key_of_page p)
own_bucket_of p low fits = (omega arith, omega arith)

-- ---- which near keys come after a page

-- the page of a greater near key, and of a lesser one
module _ (b : ℕ) (last : PageId) (k : ℕ) (low : last.dev < 64)
    (fits : last.no < 18446744073709551616) where
  later_near : near_key last < k → page_cmp last (near_page b k) ≡ Less
  later_near less = by_cases (nat_cmp last.dev (near_page b k).dev) _
      (λ lower. rw lower refl)
      (λ tied.
      let same : last.dev ≡ (near_page b k).dev = ranked last.dev (near_page b k).dev Equal (sym tied) in
      let above : last.no < (near_page b k).no = omega arith in
      rw tied (sym (nat_cmp_is last.no (near_page b k).no Less above)))
      (λ more.
      let over : (near_page b k).dev < last.dev = ranked last.dev (near_page b k).dev Greater (sym more) in
      absurd (omega arith))

  earlier_near : k < near_key last → page_cmp last (near_page b k) ≡ Greater
  earlier_near less = by_cases (nat_cmp last.dev (near_page b k).dev) _
      (λ lower.
      let under : last.dev < (near_page b k).dev = ranked last.dev (near_page b k).dev Less (sym lower) in
      absurd (omega arith))
      (λ tied.
      let same : last.dev ≡ (near_page b k).dev = ranked last.dev (near_page b k).dev Equal (sym tied) in
      let under : (near_page b k).no < last.no = omega arith in
      rw tied (sym (nat_cmp_is last.no (near_page b k).no Greater under)))
      (λ more. rw more refl)

-- that of the same near key
own_before : (b : ℕ) (last : PageId) → last.dev < 64 → last.no < 18446744073709551616
    → (near_page b (near_key last)).no ≤ last.no
    → is_lt (page_cmp last (near_page b (near_key last))) ≡ false
own_before b last low fits before =
    let q = near_page b (near_key last) in
    let dev : last.dev ≡ q.dev = omega arith in
    let tied : nat_cmp last.dev q.dev ≡ Equal = sym (nat_cmp_is last.dev q.dev Equal dev) in
    by_cases (nat_cmp last.no q.no) _
    (λ less. let under : last.no < q.no = ranked last.no q.no Less (sym less) in absurd (omega (arith, under, before)))
    (λ even. rw (tied, even) refl)
    (λ more. rw (tied, more) refl)

own_after : (b : ℕ) (last : PageId) → last.dev < 64 → last.no < 18446744073709551616
    → last.no < (near_page b (near_key last)).no
    → is_lt (page_cmp last (near_page b (near_key last))) ≡ true
own_after b last low fits after =
    let q = near_page b (near_key last) in
    let dev : last.dev ≡ q.dev = omega arith in
    let tied : nat_cmp last.dev q.dev ≡ Equal = sym (nat_cmp_is last.dev q.dev Equal dev) in
    let less : nat_cmp last.no q.no ≡ Less = sym (nat_cmp_is last.no q.no Less after) in
    rw (tied, less) refl

pub past_near : (b : ℕ) (last : PageId) (k : ℕ) → last.dev < 64 → last.no < 18446744073709551616
    → (near_page b (near_key last)).no ≤ last.no
    → is_lt (nat_cmp (near_key last) k) ≡ is_lt (page_cmp last (near_page b k))
past_near b last k low fits before = by_cases (nat_cmp (near_key last) k) _
    (λ less. rw (less, later_near b last k low fits (ranked (near_key last) k Less (sym less))) refl)
    (λ tied.
    let same : near_key last ≡ k = ranked (near_key last) k Equal (sym tied) in
    ap is_lt tied ∙ sym (own_before b last low fits before) ∙ ap (λ j. is_lt (page_cmp last (near_page b j))) same)
    (λ more. rw (more, earlier_near b last k low fits (ranked (near_key last) k Greater (sym more))) refl)

pub from_near : (b : ℕ) (last : PageId) (k : ℕ) → last.dev < 64 → last.no < 18446744073709551616
    → last.no < (near_page b (near_key last)).no
    → is_le (nat_cmp (near_key last) k) ≡ is_lt (page_cmp last (near_page b k))
from_near b last k low fits after = by_cases (nat_cmp (near_key last) k) _
    (λ less. rw (less, later_near b last k low fits (ranked (near_key last) k Less (sym less))) refl)
    (λ tied.
    let same : near_key last ≡ k = ranked (near_key last) k Equal (sym tied) in
    ap is_le tied ∙ sym (own_after b last low fits after) ∙ ap (λ j. is_lt (page_cmp last (near_page b j))) same)
    (λ more. rw (more, earlier_near b last k low fits (ranked (near_key last) k Greater (sym more))) refl)

-- pages of other devices come after those of near ones
pub far_after : (b : ℕ) (last : PageId) (k : ℕ) → last.dev < 64 → IsFar b k
    → is_lt (page_cmp last (page_of_key k)) ≡ true
far_after b last k low far =
    let from : first_far_key b ≤ k = far.0 in
    let to : k < first_key (b + 1) = far.1 in
    let less : last.dev < (page_of_key k).dev = omega arith in
    let is : nat_cmp last.dev (page_of_key k).dev ≡ Less = sym (nat_cmp_is last.dev (page_of_key k).dev Less less) in
    rw is refl

pub near_before : (b : ℕ) (last : PageId) (k : ℕ) → 64 ≤ last.dev → k < 18446744073709551616
    → is_lt (page_cmp last (near_page b k)) ≡ false
near_before b last k high fits =
    let more : (near_page b k).dev < last.dev = omega arith in
    let is : nat_cmp last.dev (near_page b k).dev ≡ Greater = sym (nat_cmp_is last.dev (near_page b k).dev Greater more) in
    rw is refl

-- in page order among themselves
pub past_far : (b : ℕ) (last : PageId) (k : ℕ) → last.no < 18446744073709551616 → IsFar b k
    → is_lt (nat_cmp (key_in b last) k) ≡ is_lt (page_cmp last (page_of_key k))
past_far b last k fits far =
    let from : first_far_key b ≤ k = far.0 in
    let to : k < first_key (b + 1) = far.1 in
    let own : k ≡ key_in b (page_of_key k) = omega arith in
    let small : (page_of_key k).no < 18446744073709551616 = omega arith in
    ap (λ j. is_lt (nat_cmp (key_in b last) j)) own ∙ ap is_lt (same_order b last (page_of_key k) fits small)
