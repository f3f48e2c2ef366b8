-- MapKeys are pages, in the order of buckets first.
use Rattle.std.proofs.Common.{◌≡◌, ℕ, ◌+◌, ◌<◌, ◌≤◌, ◌==◌, ◌&&◌, Bool, true, false, not, sym, ap, refl, ◌∙◌, arith, Option, Some, None}
use Rattle.std.specs.Ordering.{is_eq, is_lt, is_le, nat_cmp}
use Rattle.std.specs.BTreeMap.Range.{range_contains}
use Rattle.std.specs.declared.ops.Bound.TheVariants.{Included, Excluded}
use Rattle.std.specs.declared.cmp.Ordering.TheVariants.{Less, Equal, Greater}
use Rattle.std.specs.Cmp.{nat_cmp_is, unsigned_tied}
use Rattle.std.proofs.lemmas.Cmp.{nat_cmp_total, tied_itself, ranked}
use Rattle.warm_stamps.specs.declared.PageId.{PageId}
use Rattle.warm_stamps.specs.Stamps.{page_cmp}
use Rattle.warm_stamps.specs.Buckets.{page_bucket}
use Rattle.warm_stamps.proofs.DistinctLemmas.{IsStrictOrder, is_equal, by_cases}
use Rattle.warm_stamps.proofs.StampLemmas.{page_order}
use Rattle.warm_maps.specs.LaterPages.{is_next_in_bucket}
use Rattle.warm_maps.specs.MapKeys.{first_key, key_in, key_of_page, page_of_key, IsMapKey}

pub nat_order : IsStrictOrder nat_cmp
nat_order = record { total = nat_cmp_total; same = λ x y e. ranked x y Equal (sym e) }

-- in one bucket keys rise as pages do
pub same_order : (bucket : ℕ) (p q : PageId) → p.no < 18446744073709551616
    → q.no < 18446744073709551616 → nat_cmp (key_in bucket p) (key_in bucket q) ≡ page_cmp p q
same_order bucket p q p_no q_no =
    let at = key_in bucket p in
    let there = key_in bucket q in
    by_cases (nat_cmp p.dev q.dev) _
    (λ less.
    let lt : p.dev < q.dev = ranked p.dev q.dev Less (sym less) in
    let below : key_in bucket p < key_in bucket q = omega arith in
    rw less (sym (nat_cmp_is at there Less below)))
    (λ tied.
    let same : p.dev ≡ q.dev = ranked p.dev q.dev Equal (sym tied) in
    rw tied (by_cases (nat_cmp p.no q.no) _
    (λ less.
    let lt : p.no < q.no = ranked p.no q.no Less (sym less) in
    let below : key_in bucket p < key_in bucket q = omega arith in
    rw less (sym (nat_cmp_is at there Less below)))
    (λ even.
    let number : p.no ≡ q.no = ranked p.no q.no Equal (sym even) in
    let one : key_in bucket p ≡ key_in bucket q = omega arith in
    rw even (sym (nat_cmp_is at there Equal one)))
    (λ more.
    let lt : q.no < p.no = ranked p.no q.no Greater (sym more) in
    let above : key_in bucket q < key_in bucket p = omega arith in
    rw more (sym (nat_cmp_is at there Greater above)))))
    (λ more.
    let lt : q.dev < p.dev = ranked p.dev q.dev Greater (sym more) in
    let above : key_in bucket q < key_in bucket p = omega arith in
    rw more (sym (nat_cmp_is at there Greater above)))

-- what is at a key has a number within its bounds
no_below : (k : ℕ) → (page_of_key k).no < 18446744073709551616
no_below k = omega arith

dev_below : (k : ℕ) → (page_of_key k).dev < 65536
dev_below k = omega arith

-- a key lies in its page's bucket
pub from_first : (k : ℕ) → IsMapKey k → first_key (page_bucket (page_of_key k)) ≤ k
from_first k is = omega arith

pub below_next : (k : ℕ) → IsMapKey k → k < first_key (page_bucket (page_of_key k) + 1)
below_next k is = omega (arith, no_below k, dev_below k)

-- keys are the same if their pages are
pub same_key : (j k : ℕ) → IsMapKey j → IsMapKey k
    → is_eq (nat_cmp j k) ≡ is_eq (page_cmp (page_of_key k) (page_of_key j))
same_key j k is_j is_k = cases (is_eq (page_cmp (page_of_key k) (page_of_key j))) refl
  where
    different : (b : Bool) → is_eq (nat_cmp j k) ≡ b
        → is_eq (page_cmp (page_of_key k) (page_of_key j)) ≡ false → b ≡ false
    different true here other =
        let same : j ≡ k = nat_order.same j k (is_equal (nat_cmp j k) here) in
        let tied : is_eq (page_cmp (page_of_key k) (page_of_key j)) ≡ true = ap (λ t. is_eq (page_cmp (page_of_key k) (page_of_key t))) same ∙ ap is_eq (tied_itself page_order.total (page_of_key k)) in
        sym tied ∙ other
    different false here other = refl

    cases : (b : Bool) → is_eq (page_cmp (page_of_key k) (page_of_key j)) ≡ b
        → is_eq (nat_cmp j k) ≡ is_eq (page_cmp (page_of_key k) (page_of_key j))
    cases true tied =
        let same : page_of_key k ≡ page_of_key j = page_order.same (page_of_key k) (page_of_key j) (is_equal _ tied) in
        let one : k ≡ j = sym is_k ∙ ap key_of_page same ∙ is_j in
        ap (λ t. is_eq (nat_cmp j t)) one ∙ ap is_eq (tied_itself nat_cmp_total j) ∙ sym tied
    cases false other = different (is_eq (nat_cmp j k)) refl other ∙ sym other

-- in one bucket the page of a greater key is greater
pub rising_pages : (j k : ℕ) → IsMapKey j → IsMapKey k
    → page_bucket (page_of_key j) ≡ page_bucket (page_of_key k) → nat_cmp j k ≡ Less
    → page_cmp (page_of_key j) (page_of_key k) ≡ Less
rising_pages j k is_j is_k same less =
    sym (same_order (page_bucket (page_of_key k)) (page_of_key j) (page_of_key k) (no_below j) (no_below k))
    ∙ ap (λ b. nat_cmp (key_in b (page_of_key j)) (key_in (page_bucket (page_of_key k)) (page_of_key k))) (sym same)
    ∙ ap (λ x. nat_cmp x (key_of_page (page_of_key k))) is_j
    ∙ ap (nat_cmp j) is_k
    ∙ less

-- ---- the keys of a bucket

pub at_most : (x y : ℕ) → x ≤ y → is_le (nat_cmp x y) ≡ true
at_most x y le = by_cases (nat_cmp x y) _
    (λ less. rw less refl)
    (λ tied. rw tied refl)
    (λ more. let lt : y < x = ranked x y Greater (sym more) in let no : ⊥ = omega arith in absurd no)

pub above : (x y : ℕ) → y < x → nat_cmp x y ≡ Greater
above x y lt = sym (nat_cmp_is x y Greater lt)

never : (b : Bool) → (b && false) ≡ false
never true = refl
never false = refl

always : (b : Bool) → (b && true) ≡ b
always true = refl
always false = refl

-- whether the page is of the bucket
same_bucket : (bucket k : ℕ)
    → (page_bucket (page_of_key k) == bucket) ≡ is_eq (nat_cmp (page_bucket (page_of_key k)) bucket)
same_bucket bucket k = sym (unsigned_tied (page_bucket (page_of_key k)) bucket)

-- what is at a start that is in or before the bucket, and before its end, is of the bucket
within : (bucket k : ℕ) (start : Bool) (inside : Bool) → IsMapKey k
    → (page_bucket (page_of_key k) ≡ bucket → start ≡ inside)
    → (k < first_key bucket → start ≡ false)
    → (start && not (is_le (nat_cmp (first_key (bucket + 1)) k)))
    ≡ ((page_bucket (page_of_key k) == bucket) && inside)
within bucket k start inside is here before =
    let own = page_bucket (page_of_key k) in
    by_cases (nat_cmp (page_bucket (page_of_key k)) bucket) _
    (λ less.
    let lt : page_bucket (page_of_key k) < bucket = ranked own bucket Less (sym less) in
    let low : k < first_key bucket = omega (arith, below_next k is) in
    let other : (page_bucket (page_of_key k) == bucket) ≡ false = same_bucket bucket k ∙ ap is_eq less in
    rw (other, before low) refl)
    (λ tied.
    let one : page_bucket (page_of_key k) ≡ bucket = ranked own bucket Equal (sym tied) in
    let high : k < first_key (bucket + 1) = omega (arith, below_next k is) in
    let same : (page_bucket (page_of_key k) == bucket) ≡ true = same_bucket bucket k ∙ ap is_eq tied in
    rw (same, here one, above (first_key (bucket + 1)) k high) (always inside))
    (λ more.
    let lt : bucket < page_bucket (page_of_key k) = ranked own bucket Greater (sym more) in
    let high : first_key (bucket + 1) ≤ k = omega (arith, from_first k is) in
    let other : (page_bucket (page_of_key k) == bucket) ≡ false = same_bucket bucket k ∙ ap is_eq more in
    rw (other, at_most (first_key (bucket + 1)) k high) (never start))

pub in_bucket : (bucket k : ℕ) → IsMapKey k
    → range_contains nat_cmp (Included (first_key bucket)) (Excluded (first_key (bucket + 1))) k
    ≡ is_next_in_bucket bucket None (page_of_key k)
in_bucket bucket k is = within bucket k (is_le (nat_cmp (first_key bucket) k)) true is
    (λ one. let low : first_key bucket ≤ k = omega (arith, from_first k is) in at_most (first_key bucket) k low)
    (λ low. ap is_le (above (first_key bucket) k low))

pub after_page : (bucket : ℕ) (last : PageId) (k : ℕ) → last.no < 18446744073709551616 → IsMapKey k
    → range_contains nat_cmp (Excluded (key_in bucket last)) (Excluded (first_key (bucket + 1))) k
    ≡ is_next_in_bucket bucket (Some last) (page_of_key k)
after_page bucket last k fits is = within bucket k (is_lt (nat_cmp (key_in bucket last) k)) (is_lt (page_cmp last (page_of_key k))) is
    (λ one.
    let own : k ≡ key_in bucket (page_of_key k) = sym is ∙ ap (λ b. key_in b (page_of_key k)) one in
    ap (λ x. is_lt (nat_cmp (key_in bucket last) x)) own ∙ ap is_lt (same_order bucket last (page_of_key k) fits (no_below k)))
    (λ low. let past : k < key_in bucket last = omega arith in ap is_lt (above (key_in bucket last) k past))

pub of_bucket : (bucket : ℕ) (after : Option PageId) (p : PageId)
    → is_next_in_bucket bucket after p ≡ true → page_bucket p ≡ bucket
of_bucket bucket after p is = by_cases (nat_cmp (page_bucket p) bucket) _
    (λ less. let other : (page_bucket p == bucket) ≡ false = sym (unsigned_tied (page_bucket p) bucket) ∙ ap is_eq less in absurd (let no : false ≡ true = rw other at is in cc))
    (λ tied. ranked (page_bucket p) bucket Equal (sym tied))
    (λ more. let other : (page_bucket p == bucket) ≡ false = sym (unsigned_tied (page_bucket p) bucket) ∙ ap is_eq more in absurd (let no : false ≡ true = rw other at is in cc))
