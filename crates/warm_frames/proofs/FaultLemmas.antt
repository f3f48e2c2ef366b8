-- Which faults a reader can find.
use Rattle.std.proofs.Common.{◌≡◌, ◌⊎◌, inl, inr, ℕ, zero, suc, ◌+◌, ◌<◌, ◌≤◌, Bool, true, false, cond, eqb, leb, ltb, List, [], ◌∷◌, length, take, drop, Option, Some, None, Result, Ok, Err, refl, sym, ap, subst, arith}
use Rattle.std.specs.Int.{Width, w16, w32, w64, byte_len, from_be_bytes}
use Rattle.std.specs.Ordering.{is_lt}
use Rattle.std.specs.Simd.{first_chunks}
use Rattle.std.proofs.lemmas.Bool.{ltb-false}
use Rattle.std.proofs.lemmas.Bool.Decides.{nat_tests}
use Rattle.std.proofs.lemmas.List.{length-drop}
use Rattle.warm_stamps.specs.declared.TheConstants.{BUCKETS}
use Rattle.warm_stamps.specs.declared.PageId.{PageId}
use Rattle.warm_stamps.specs.Bytes.{stamp_of}
use Rattle.warm_stamps.specs.Stamps.{stamp_cmp}
use Rattle.warm_history.specs.Carried.{comes_after}
use Rattle.warm_frames.specs.declared.format.Format.{Format}
use Rattle.warm_frames.specs.declared.format.Format.TheVariants.{Narrow, Wide}
use Rattle.warm_frames.specs.declared.layout.TheConstants.{MAGIC, NARROW_MAGIC, MAX_ENTRIES, DIGEST_SIZE}
use Rattle.warm_frames.specs.declared.fault.FrameFault.{FrameFault}
use Rattle.warm_frames.specs.declared.fault.FrameFault.TheVariants.{Truncated, BadMagic, BadKind, BadSender, BadLength, BadCount, BadStamp, BadOrder}
use Rattle.warm_frames.specs.declared.reading.Kind.{Kind}
use Rattle.warm_frames.specs.declared.reading.Kind.TheVariants as kinds
use Rattle.warm_frames.specs.Pieces.{IsLasting}
use Rattle.warm_frames.specs.Reading.{◌>>=◌, front_at, number_at, byte_at, want, is_replica, kind_of, Start, format_of, horizon_at, start_at, stamp_in, two_in, hist_at, read_page, entry_at, entries_at, count_at, all_entries, read_entries, read_digests, message_by, read_message}
use Rattle.warm_frames.specs.Digests.{table_size}
use Rattle.warm_frames.specs.Sizes.{header_size}
use Rattle.warm_frames.proofs.FieldLemmas.{done, guard_ok, ok_is}

-- a fault that is found is one of these
abbrev pub Only : {A : Type 0} → (FrameFault → Type 0) → Result A FrameFault → Type 0
Only P (Ok x) = Unit {0}
Only P (Err e) = P e

pub only_then : {A B : Type 0} (P : FrameFault → Type 0) (r : Result A FrameFault)
    (f : A → Result B FrameFault) → Only P r → ((x : A) → r ≡ Ok x → Only P (f x))
    → Only P (r >>= f)
only_then P (Ok x) f only each = each x refl
only_then P (Err e) f only each = only

pub only_fault : {A : Type 0} (P : FrameFault → Type 0) (r : Result A FrameFault) (e : FrameFault)
    → Only P r → r ≡ Err e → P e
only_fault P r e only is = subst (λ (s : Result _ FrameFault). Only P s) is only

pub only_want : (P : FrameFault → Type 0) (b : Bool) (fault : FrameFault) → P fault
    → Only P (want b fault)
only_want P true fault p = tt
only_want P false fault p = p

only_cond : {A : Type 0} (P : FrameFault → Type 0) (b : Bool) (fault : FrameFault) (x : A)
    → (b ≡ true → P fault) → Only P (cond b (Err fault) (Ok x))
only_cond P true fault x p = p refl
only_cond P false fault x p = tt

only_chosen : {A : Type 0} (P : FrameFault → Type 0) (b : Bool) (fault : FrameFault) (x : A)
    → P fault → Only P (cond b (Ok x) (Err fault))
only_chosen P true fault x p = tt
only_chosen P false fault x p = p

-- ---- the body: no further byte repairs its faults

bad_length : IsLasting BadLength
bad_length = (omega arith, omega arith)

bad_stamp : IsLasting BadStamp
bad_stamp = (omega arith, omega arith)

number_lasts : (w : Width) (bytes : List ℕ) → Only IsLasting (number_at w BadLength bytes)
number_lasts w bytes = only_cond IsLasting (ltb (length bytes) (byte_len w)) BadLength (from_be_bytes w (take (byte_len w) bytes), drop (byte_len w) bytes) (λ short. bad_length)

front_lasts : (n : ℕ) (bytes : List ℕ) → Only IsLasting (front_at n BadLength bytes)
front_lasts n bytes = only_cond IsLasting (ltb (length bytes) n) BadLength (take n bytes, drop n bytes) (λ short. bad_length)

byte_lasts : (bytes : List ℕ) → Only IsLasting (byte_at BadLength bytes)
byte_lasts [] = bad_length
byte_lasts (b ∷ bytes) = tt

stamp_lasts : (ten : List ℕ) → Only IsLasting (stamp_in ten)
stamp_lasts ten = only_chosen IsLasting (is_replica (stamp_of ten).replica) BadStamp (stamp_of ten) bad_stamp

two_lasts : (later earlier : List ℕ) → Only IsLasting (two_in later earlier)
unfolding two_in
two_lasts later earlier =
    only_then IsLasting (stamp_in later) _ (stamp_lasts later) (λ last is_last.
    only_then IsLasting (stamp_in earlier) _ (stamp_lasts earlier) (λ prev is_prev.
    only_then IsLasting (want (is_lt (stamp_cmp prev last)) BadStamp) _ (only_want IsLasting (is_lt (stamp_cmp prev last)) BadStamp bad_stamp) (λ older is_older. tt)))

hist_lasts : (tag : ℕ) (bytes : List ℕ) → Only IsLasting (hist_at tag bytes)
unfolding hist_at
hist_lasts zero bytes = (omega arith, omega arith)
hist_lasts (suc zero) bytes =
    only_then IsLasting (front_at 10 BadLength bytes) _ (front_lasts 10 bytes) (λ last is_last.
    only_then IsLasting (stamp_in last.0) _ (stamp_lasts last.0) (λ stamp is_stamp. tt))
hist_lasts (suc (suc zero)) bytes =
    only_then IsLasting (front_at 10 BadLength bytes) _ (front_lasts 10 bytes) (λ last is_last.
    only_then IsLasting (front_at 10 BadLength last.1) _ (front_lasts 10 last.1) (λ prev is_prev.
    only_then IsLasting (two_in last.0 prev.0) _ (two_lasts last.0 prev.0) (λ two is_two. tt)))
hist_lasts (suc (suc (suc tag))) bytes = (omega arith, omega arith)

page_lasts : (format : Format) (bytes : List ℕ) → Only IsLasting (read_page format bytes)
unfolding read_page
page_lasts Narrow bytes = only_then IsLasting (front_at 6 BadLength bytes) _ (front_lasts 6 bytes) (λ six is_six. tt)
page_lasts Wide bytes = only_then IsLasting (front_at 10 BadLength bytes) _ (front_lasts 10 bytes) (λ ten is_ten. tt)

entry_lasts : (format : Format) (before : Option PageId) (bytes : List ℕ)
    → Only IsLasting (entry_at format before bytes)
unfolding entry_at
entry_lasts format before bytes =
    only_then IsLasting (read_page format bytes) _ (page_lasts format bytes) (λ page is_page.
    only_then IsLasting (want (comes_after before page.0) BadOrder) _ (only_want IsLasting (comes_after before page.0) BadOrder (omega arith, omega arith)) (λ greater is_greater.
    only_then IsLasting (byte_at BadLength page.1) _ (byte_lasts page.1) (λ tag is_tag.
    only_then IsLasting (hist_at tag.0 tag.1) _ (hist_lasts tag.0 tag.1) (λ hist is_hist. tt))))

entries_last : (format : Format) (n : ℕ) (before : Option PageId) (bytes : List ℕ)
    → Only IsLasting (entries_at format n before bytes)
unfolding entries_at
entries_last format zero before bytes = tt
entries_last format (suc n) before bytes =
    only_then IsLasting (entry_at format before bytes) _ (entry_lasts format before bytes) (λ first is_first.
    only_then IsLasting (entries_at format n (Some first.0.page) first.1) _ (entries_last format n (Some first.0.page) first.1) (λ later is_later. tt))

body_lasts : (format : Format) (body : List ℕ) → Only IsLasting (read_entries format body)
unfolding read_entries count_at all_entries
body_lasts format body =
    only_then IsLasting (count_at body) _ (only_then IsLasting (number_at w32 BadLength body) _ (number_lasts w32 body) (λ count is_count.
    only_then IsLasting (want (leb count.0 MAX_ENTRIES) BadCount) _ (only_want IsLasting (leb count.0 MAX_ENTRIES) BadCount (omega arith, omega arith)) (λ few is_few. tt)))
    (λ count is_count.
    only_then IsLasting (entries_at format count.0 None count.1) _ (entries_last format count.0 None count.1) (λ entries is_entries.
    only_then IsLasting (want (eqb (length entries.1) 0) BadLength) _ (only_want IsLasting (eqb (length entries.1) 0) BadLength bad_length) (λ ended is_ended. tt)))

-- a fault of a body is there for good
by_lasts : (kind : Kind) (format : Format) (sender horizon : ℕ) (body : List ℕ)
    → Only IsLasting (message_by kind format sender horizon body)
unfolding read_digests
by_lasts kinds.Entries format sender horizon body = only_then IsLasting (read_entries format body) _ (body_lasts format body) (λ entries is_entries. tt)
by_lasts kinds.Digest format sender horizon body =
    only_then IsLasting (read_digests body) _ (only_chosen IsLasting (eqb (length body) table_size) BadLength (first_chunks DIGEST_SIZE BUCKETS body) bad_length) (λ digests is_digests. tt)
by_lasts kinds.Want format sender horizon body = only_then IsLasting (number_at w64 BadLength body) _ (number_lasts w64 body) (λ request is_request. tt)

pub frame_lasts : (start : Start) (body : List ℕ) → Only IsLasting (read_message start body)
unfolding read_message
frame_lasts start body = by_lasts start.kind start.format start.sender start.horizon body

-- ---- the header: it ends too soon only if there are fewer bytes than it has

abbrev pub ShortOrLasting : ℕ → ℕ → FrameFault → Type 0
ShortOrLasting most len fault = ((fault ≡ Truncated) × (len < most)) ⊎ IsLasting fault

pub number_short : (P : FrameFault → Type 0) (w : Width) (bytes : List ℕ)
    → (length bytes < byte_len w → P Truncated) → Only P (number_at w Truncated bytes)
number_short P w bytes short = only_cond P (ltb (length bytes) (byte_len w)) Truncated (from_be_bytes w (take (byte_len w) bytes), drop (byte_len w) bytes) (λ test. short (grind (arith, nat_tests, test)))

byte_short : (P : FrameFault → Type 0) (bytes : List ℕ) → (length bytes < 1 → P Truncated)
    → Only P (byte_at Truncated bytes)
byte_short P [] short = short (omega arith)
byte_short P (b ∷ bytes) short = tt

kind_short : (P : FrameFault → Type 0) (n : ℕ) → P BadKind → Only P (kind_of n)
kind_short P zero bad = bad
kind_short P (suc zero) bad = tt
kind_short P (suc (suc zero)) bad = tt
kind_short P (suc (suc (suc zero))) bad = tt
kind_short P (suc (suc (suc (suc n)))) bad = bad

-- this many bytes were read
pub number_long : (w : Width) (short : FrameFault) (bytes : List ℕ) (x : ℕ × List ℕ)
    → number_at w short bytes ≡ Ok x → length bytes ≡ byte_len w + length x.1
number_long w short bytes x e =
    let g = guard_ok (ltb (length bytes) (byte_len w)) short (from_be_bytes w (take (byte_len w) bytes), drop (byte_len w) bytes) x e in
    let long : byte_len w ≤ length bytes = ltb-false _ _ g.0 in
    subst (λ (p : ℕ × List ℕ). length bytes ≡ byte_len w + length p.1) g.1 (omega (arith, long, length-drop (byte_len w) bytes))

pub byte_long : (short : FrameFault) (bytes : List ℕ) (x : ℕ × List ℕ) → byte_at short bytes ≡ Ok x
    → length bytes ≡ 1 + length x.1
byte_long short [] x e = absurd cc
byte_long short (b ∷ bytes) x e = subst (λ (p : ℕ × List ℕ). length (b ∷ bytes) ≡ 1 + length p.1) (ok_is (b, bytes) x e) (omega arith)

-- how many bytes the header has that begins so
abbrev pub most_of : Result (ℕ × List ℕ) FrameFault → ℕ
most_of (Ok x) = cond (eqb x.0 MAGIC) 19 11
most_of (Err fault) = 19

abbrev pub header_most : List ℕ → ℕ
header_most bytes = most_of (number_at w32 Truncated bytes)

format_short : (P : FrameFault → Type 0) (letters : ℕ) → P BadMagic → Only P (format_of letters)
format_short P letters bad = cases (eqb letters MAGIC) (eqb letters NARROW_MAGIC)
  where
    cases : (a b : Bool) → Only P (cond a (done Wide) (cond b (done Narrow) (Err BadMagic)))
    cases true b = tt
    cases false true = tt
    cases false false = bad

-- which format the letters have
pub format_is : (letters : ℕ) (format : Format) → format_of letters ≡ Ok format
    → header_size format ≡ cond (eqb letters MAGIC) 19 11
format_is letters format e = cases (eqb letters MAGIC) (eqb letters NARROW_MAGIC) e
  where
    cases : (a b : Bool) → cond a (done Wide) (cond b (done Narrow) (Err BadMagic)) ≡ Ok format
        → header_size format ≡ cond a 19 11
    cases true b is = ap header_size (sym (ok_is Wide format is))
    cases false true is = ap header_size (sym (ok_is Narrow format is))
    cases false false is = absurd cc

horizon_short : (P : FrameFault → Type 0) (format : Format) (bytes : List ℕ)
    → (length bytes < 8 → header_size format ≡ 19 → P Truncated) → Only P (horizon_at format bytes)
horizon_short P Narrow bytes short = tt
horizon_short P Wide bytes short = number_short P w64 bytes (λ few. short few refl)

either_most : (b : Bool) → 11 ≤ cond b 19 11
either_most true = omega arith
either_most false = omega arith

pub start_short : (bytes : List ℕ)
    → Only (ShortOrLasting (header_most bytes) (length bytes)) (start_at bytes)
unfolding start_at
start_short bytes =
    let P = ShortOrLasting (header_most bytes) (length bytes) in
    only_then P (number_at w32 Truncated bytes) _ (number_short P w32 bytes (λ few. inl (refl, few_most bytes (omega (arith, few))))) (λ letters is_letters.
    let most : header_most bytes ≡ cond (eqb letters.0 MAGIC) 19 11 = ap most_of is_letters in
    only_then P (format_of letters.0) _ (format_short P letters.0 (inr (omega arith, omega arith))) (λ format is_format.
    only_then P (byte_at Truncated letters.1) _ (byte_short P letters.1 (λ few. inl (refl, few_most bytes (omega (arith, few, number_long w32 Truncated bytes letters is_letters))))) (λ number is_number.
    only_then P (kind_of number.0) _ (kind_short P number.0 (inr (omega arith, omega arith))) (λ kind is_kind.
    only_then P (number_at w16 Truncated number.1) _ (number_short P w16 number.1 (λ few. inl (refl, few_most bytes (omega (arith, few, number_long w32 Truncated bytes letters is_letters, byte_long Truncated letters.1 number is_number))))) (λ sender is_sender.
    only_then P (want (is_replica sender.0) BadSender) _ (only_want P (is_replica sender.0) BadSender (inr (omega arith, omega arith))) (λ good is_good.
    only_then P (horizon_at format sender.1) _ (horizon_short P format sender.1 (λ few wide. inl (refl, omega (arith, few, wide, most, format_is letters.0 format is_format, number_long w32 Truncated bytes letters is_letters, byte_long Truncated letters.1 number is_number, number_long w16 Truncated number.1 sender is_sender)))) (λ horizon is_horizon. tt)))))))
  where
    few_most : (bytes : List ℕ) → length bytes < 11 → length bytes < header_most bytes
    few_most bytes few = cases (number_at w32 Truncated bytes)
      where
        cases : (r : Result (ℕ × List ℕ) FrameFault) → length bytes < most_of r
        cases (Ok x) = omega (arith, few, either_most (eqb x.0 MAGIC))
        cases (Err e) = omega (arith, few)
