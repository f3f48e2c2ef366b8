-- Stamps and pages are read from the bytes that they are written as, and written as the bytes that
-- they are read from.
use Rattle.std.proofs.Common.{◌≡◌, ℕ, ◌+◌, ◌<◌, ◌^◌, List, ◌++◌, length, get_or, take, drop, refl, ◌∙◌, arith, inl, inr}
use Rattle.std.specs.Int.{w16, w32, w64, from_be_bytes, to_be_bytes}
use Rattle.std.proofs.lemmas.Bool.{cases_lt}
use Rattle.std.proofs.lemmas.List.{take-append-drop, length-take, length-drop, get_or-drop, get_or-take, get_or_past}
use Rattle.std.proofs.lemmas.Nat.{be_bytes_2, be_bytes_4, be_bytes_8, from_be_bytes-to_be_bytes_2, from_be_bytes-to_be_bytes_4, from_be_bytes-to_be_bytes_8}
use Rattle.warm_stamps.specs.declared.Stamp.{Stamp}
use Rattle.warm_stamps.specs.declared.PageId.{PageId}
use Rattle.warm_stamps.specs.Bytes.{bytes_of_stamp, stamp_of, bytes_of_page, page_from_bytes, narrow_bytes_of_page, page_of_narrow, IsReplica, IsStamp, IsPage}

-- numbers below 256
abbrev pub IsBytes : List ℕ → Type 0
IsBytes bytes = (i : ℕ) → get_or bytes i 0 < 256

pub IsBytes-drop : (n : ℕ) (bytes : List ℕ) → IsBytes bytes → IsBytes (drop n bytes)
IsBytes-drop n bytes fits i = rw get_or-drop (fits (n + i))

pub IsBytes-take : (n : ℕ) (bytes : List ℕ) → IsBytes bytes → IsBytes (take n bytes)
IsBytes-take n bytes fits i =
    elim (cases_lt i n) [
      | inl lt ↦ rw (get_or-take n bytes i 0 lt) (fits i)
      | inr le ↦ rw (get_or_past (take n bytes) i 0 (omega (arith, length-take n bytes))) (omega arith)
    ]

-- ---- stamps

pub stamp_again : (s : Stamp) → IsStamp s → stamp_of (bytes_of_stamp s) ≡ s
stamp_again s fits =
    let times : from_be_bytes w64 (to_be_bytes w64 s.time) ≡ s.time = from_be_bytes-to_be_bytes_8 s.time fits.time in
    let replicas : from_be_bytes w16 (to_be_bytes w16 s.replica) ≡ s.replica = from_be_bytes-to_be_bytes_2 s.replica (omega (arith, fits.replica)) in
    λ i. record { time = times i; replica = replicas i }

pub stamp_spelled : (ten : List ℕ) → length ten ≡ 10 → IsBytes ten
    → bytes_of_stamp (stamp_of ten) ≡ ten
stamp_spelled ten len fits =
    let time : to_be_bytes w64 (from_be_bytes w64 (take 8 ten)) ≡ take 8 ten = be_bytes_8 (take 8 ten) _ (omega (arith, length-take 8 ten)) (IsBytes-take 8 ten fits) refl in
    let replica : to_be_bytes w16 (from_be_bytes w16 (drop 8 ten)) ≡ drop 8 ten = be_bytes_2 (drop 8 ten) _ (omega (arith, length-drop 8 ten)) (IsBytes-drop 8 ten fits) refl in
    let both : bytes_of_stamp (stamp_of ten) ≡ take 8 ten ++ drop 8 ten = λ i. time i ++ replica i in
    both ∙ take-append-drop 8 ten

pub IsStamp-of : (ten : List ℕ) → IsBytes ten → IsReplica (stamp_of ten).replica
    → IsStamp (stamp_of ten)
IsStamp-of ten fits replica = record {
  time = let front = IsBytes-take 8 ten fits in omega (arith, front 0, front 1, front 2, front 3, front 4, front 5, front 6, front 7);
  replica = replica;
}

-- ---- pages

pub page_again : (p : PageId) → IsPage p → page_from_bytes (bytes_of_page p) ≡ p
page_again p fits =
    let devs : from_be_bytes w16 (to_be_bytes w16 p.dev) ≡ p.dev = from_be_bytes-to_be_bytes_2 p.dev fits.dev in
    let nos : from_be_bytes w64 (to_be_bytes w64 p.no) ≡ p.no = from_be_bytes-to_be_bytes_8 p.no fits.no in
    λ i. record { dev = devs i; no = nos i }

pub page_spelled : (ten : List ℕ) → length ten ≡ 10 → IsBytes ten
    → bytes_of_page (page_from_bytes ten) ≡ ten
page_spelled ten len fits =
    let dev : to_be_bytes w16 (from_be_bytes w16 (take 2 ten)) ≡ take 2 ten = be_bytes_2 (take 2 ten) _ (omega (arith, length-take 2 ten)) (IsBytes-take 2 ten fits) refl in
    let no : to_be_bytes w64 (from_be_bytes w64 (drop 2 ten)) ≡ drop 2 ten = be_bytes_8 (drop 2 ten) _ (omega (arith, length-drop 2 ten)) (IsBytes-drop 2 ten fits) refl in
    let both : bytes_of_page (page_from_bytes ten) ≡ take 2 ten ++ drop 2 ten = λ i. dev i ++ no i in
    both ∙ take-append-drop 2 ten

pub IsPage-of : (ten : List ℕ) → IsBytes ten → IsPage (page_from_bytes ten)
IsPage-of ten fits = record {
  dev = let front = IsBytes-take 2 ten fits in omega (arith, front 0, front 1);
  no = let back = IsBytes-drop 2 ten fits in omega (arith, back 0, back 1, back 2, back 3, back 4, back 5, back 6, back 7);
}

-- ---- pages in six bytes

-- the number of a page in six bytes has 32 bits
pub record IsNarrow (p : PageId) : Type 0 where
  pub dev : p.dev < 2 ^ 16
  pub no : p.no < 2 ^ 32

pub narrow_again : (p : PageId) → IsNarrow p → page_of_narrow (narrow_bytes_of_page p) ≡ p
narrow_again p fits =
    let devs : from_be_bytes w16 (to_be_bytes w16 p.dev) ≡ p.dev = from_be_bytes-to_be_bytes_2 p.dev fits.dev in
    let nos : from_be_bytes w32 (to_be_bytes w32 p.no) ≡ p.no = from_be_bytes-to_be_bytes_4 p.no fits.no in
    λ i. record { dev = devs i; no = nos i }

pub narrow_spelled : (six : List ℕ) → length six ≡ 6 → IsBytes six
    → narrow_bytes_of_page (page_of_narrow six) ≡ six
narrow_spelled six len fits =
    let dev : to_be_bytes w16 (from_be_bytes w16 (take 2 six)) ≡ take 2 six = be_bytes_2 (take 2 six) _ (omega (arith, length-take 2 six)) (IsBytes-take 2 six fits) refl in
    let no : to_be_bytes w32 (from_be_bytes w32 (drop 2 six)) ≡ drop 2 six = be_bytes_4 (drop 2 six) _ (omega (arith, length-drop 2 six)) (IsBytes-drop 2 six fits) refl in
    let both : narrow_bytes_of_page (page_of_narrow six) ≡ take 2 six ++ drop 2 six = λ i. dev i ++ no i in
    both ∙ take-append-drop 2 six

pub IsNarrow-of : (six : List ℕ) → IsBytes six → IsNarrow (page_of_narrow six)
IsNarrow-of six fits = record {
  dev = let front = IsBytes-take 2 six fits in omega (arith, front 0, front 1);
  no = let back = IsBytes-drop 2 six fits in omega (arith, back 0, back 1, back 2, back 3);
}

pub IsPage-of_narrow : (six : List ℕ) → IsBytes six → IsPage (page_of_narrow six)
IsPage-of_narrow six fits = let narrow = IsNarrow-of six fits in record { dev = narrow.dev; no = omega (arith, narrow.no) }
