-- The size of a frame: what a header says it says whatever follows, and fewer bytes are no frame.
use Rattle.std.proofs.Common.{◌≡◌, ◌⊎◌, inl, inr, ℕ, suc, ◌+◌, ◌*◌, ◌<◌, ◌≤◌, Bool, true, false, cond, eqb, leb, ltb, List, [], ◌∷◌, ◌++◌, length, take, drop, Result, Ok, Err, refl, sym, ap, subst, ◌∙◌, append_assoc, ⊎_elim, arith}
use Rattle.std.specs.Int.{Width, w16, w32, w64, byte_len, from_be_bytes}
use Rattle.std.proofs.lemmas.Bool.{ltb-false, ltb-true, le-ltb}
use Rattle.std.proofs.lemmas.Bool.Decides.{nat_tests}
use Rattle.std.proofs.lemmas.List.{append-nil, take_all, take-append-drop, take-append-le, drop-append-le, length-append, length-take, nil_from_length}
use Rattle.warm_frames.specs.declared.layout.TheConstants.{MAX_ENTRY_SIZE, MAX_ENTRIES, HEADER_SIZE, MAGIC}
use Rattle.warm_frames.specs.declared.fault.FrameFault.{FrameFault}
use Rattle.warm_frames.specs.declared.fault.FrameFault.TheVariants.{Truncated, BadSender, BadLength}
use Rattle.warm_frames.specs.declared.message.Message.{Message}
use Rattle.warm_frames.specs.declared.reading.Kind.{Kind}
use Rattle.warm_frames.specs.declared.reading.Kind.TheVariants as kinds
use Rattle.warm_frames.specs.declared.format.Format.{Format}
use Rattle.warm_frames.specs.declared.format.Format.TheVariants.{Narrow, Wide}
use Rattle.warm_frames.specs.Pieces.{IsLasting, IsIncomplete, ShowsFault}
use Rattle.warm_frames.specs.Reading.{◌>>=◌, number_at, byte_at, want, is_replica, kind_of, may_have, Start, format_of, horizon_at, start_at, length_at, whole_body, body_at, read_message, read_frame}
use Rattle.warm_frames.specs.Sizes.{header_size, frame_size}
use Rattle.warm_frames.specs.Encoding.{Encodes}
use Rattle.warm_frames.proofs.FieldLemmas.{bind_ok, want_ok, ok_is}
use Rattle.warm_frames.proofs.FaultLemmas.{Only, only_then, only_fault, only_want, frame_lasts, ShortOrLasting, number_short, start_short, header_most, most_of, format_is, number_long, byte_long}
use Rattle.warm_frames.proofs.FrameLemmas.{length_ok, frame_read}

-- ---- results, with more bytes behind

-- With more bytes a value is the same but for the bytes behind it, and a fault is the same, unless
-- bytes were too few.
abbrev pub Goes : {A : Type 0} → (A → A) → Result A FrameFault → Result A FrameFault → Type 0
Goes grow (Ok x) later = later ≡ Ok (grow x)
Goes grow (Err e) later = (e ≡ Truncated) ⊎ (later ≡ Err e)

goes_on : {A B : Type 0} (grow : A → A) (more : B → B) (f g : A → Result B FrameFault)
    (r later : Result A FrameFault) → Goes grow r later → ((x : A) → Goes more (f x) (g (grow x)))
    → Goes more (r >>= f) (later >>= g)
goes_on {A = A} grow more f g (Ok x) later same each = subst (λ (r : Result A FrameFault). Goes more (f x) (r >>= g)) (sym same) (each x)
goes_on {A = A} grow more f g (Err e) later same each = ⊎_elim (λ short. inl short) (λ is. inr (ap (λ (r : Result A FrameFault). r >>= g) is)) same

stays : {A : Type 0} (r : Result A FrameFault) → Goes (λ x. x) r r
stays (Ok x) = refl
stays (Err e) = inr refl

abbrev pub behind : {X : Type 0} → List ℕ → X × List ℕ → X × List ℕ
behind more x = (x.0, x.1 ++ more)

pub either : (b : Bool) → (b ≡ true) ⊎ (b ≡ false)
either true = inl refl
either false = inr refl

number_goes : (w : Width) (bytes more : List ℕ)
    → Goes (behind more) (number_at w Truncated bytes) (number_at w Truncated (bytes ++ more))
number_goes w bytes more =
    ⊎_elim (λ short. rw (short) (inl refl))
    (λ long.
    let enough : byte_len w ≤ length bytes = ltb-false _ _ long in
    let longer : ltb (length (bytes ++ more)) (byte_len w) ≡ false = le-ltb _ _ (omega (arith, length-append bytes more)) in
    rw (long, longer, take-append-le (byte_len w) bytes more enough, drop-append-le (byte_len w) bytes more enough) refl)
    (either (ltb (length bytes) (byte_len w)))

byte_goes : (bytes more : List ℕ)
    → Goes (behind more) (byte_at Truncated bytes) (byte_at Truncated (bytes ++ more))
byte_goes [] more = inl refl
byte_goes (b ∷ bytes) more = refl

-- ---- the header, with more bytes behind

horizon_goes : (format : Format) (bytes more : List ℕ)
    → Goes (behind more) (horizon_at format bytes) (horizon_at format (bytes ++ more))
horizon_goes Narrow bytes more = refl
horizon_goes Wide bytes more = number_goes w64 bytes more

start_goes : (bytes more : List ℕ) → Goes (behind more) (start_at bytes) (start_at (bytes ++ more))
unfolding start_at
start_goes bytes more =
    goes_on (behind more) (behind more) _ _ _ _ (number_goes w32 bytes more) (λ letters.
    goes_on (λ m. m) (behind more) _ _ _ _ (stays (format_of letters.0)) (λ format.
    goes_on (behind more) (behind more) _ _ _ _ (byte_goes letters.1 more) (λ number.
    goes_on (λ k. k) (behind more) _ _ _ _ (stays (kind_of number.0)) (λ kind.
    goes_on (behind more) (behind more) _ _ _ _ (number_goes w16 number.1 more) (λ sender.
    goes_on (λ b. b) (behind more) _ _ _ _ (stays (want (is_replica sender.0) BadSender)) (λ good.
    goes_on (behind more) (behind more) _ _ _ _ (horizon_goes format sender.1 more) (λ horizon. refl)))))))

length_goes : (format : Format) (kind : Kind) (bytes more : List ℕ)
    → Goes (behind more) (length_at format kind bytes) (length_at format kind (bytes ++ more))
unfolding length_at
length_goes format kind bytes more =
    goes_on (behind more) (behind more) _ _ _ _ (number_goes w32 bytes more) (λ len.
    goes_on (λ b. b) (behind more) _ _ _ _ (stays (want (may_have format kind len.0) BadLength)) (λ allowed. refl))

-- a size or a fault that the header gives doesn't change, whatever follows
pub size_goes : (bytes more : List ℕ)
    → Goes (λ n. n) (frame_size bytes) (frame_size (bytes ++ more))
unfolding frame_size
size_goes bytes more =
    goes_on (behind more) (λ n. n) _ _ _ _ (start_goes bytes more) (λ start.
    goes_on (behind more) (λ n. n) _ _ _ _ (length_goes start.0.format start.0.kind start.1 more) (λ len. refl))

abbrev pub failed : {A : Type 0} → FrameFault → Result A FrameFault
failed e = Err e

pub no_ok : {A : Type 0} {e : FrameFault} {x : A} → failed e ≡ Ok x → ⊥
no_ok is = absurd cc

pub no_err : {A : Type 0} {e : FrameFault} {x : A} → Ok x ≡ failed e → ⊥
no_err is = absurd cc

-- a size or a fault was known before, or the front says that it ends too soon
front_ok : (front later : Result ℕ FrameFault) (size : ℕ) → Goes (λ n. n) front later
    → later ≡ Ok size → (front ≡ Ok size) ⊎ (front ≡ Err Truncated)
front_ok (Ok n) later size goes is = inl (sym goes ∙ is)
front_ok (Err e) later size goes is = ⊎_elim (λ short. inr (ap (λ (f : FrameFault). Err f) short)) (λ same. absurd (no_ok (sym same ∙ is))) goes

front_err : (front later : Result ℕ FrameFault) (e : FrameFault) → Goes (λ n. n) front later
    → later ≡ Err e → (front ≡ Err e) ⊎ (front ≡ Err Truncated)
front_err (Ok n) later e goes is = absurd (no_err (sym goes ∙ is))
front_err (Err d) later e goes is = ⊎_elim (λ short. inr (ap (λ (f : FrameFault). Err f) short)) (λ same. inl (sym same ∙ is)) goes

pub known_stays : (front later : Result ℕ FrameFault) → Goes (λ n. n) front later
    → (front ≡ Err Truncated → ⊥) → later ≡ front
known_stays (Ok n) later goes known = goes
known_stays (Err e) later goes known = ⊎_elim (λ short. absurd (known (ap (λ (f : FrameFault). Err f) short))) (λ same. same) goes

-- ---- what a header says

horizon_long : (format : Format) (bytes : List ℕ) (x : ℕ × List ℕ) → horizon_at format bytes ≡ Ok x
    → length bytes + 11 ≡ header_size format + length x.1
horizon_long Narrow bytes x e = subst (λ (y : ℕ × List ℕ). length bytes + 11 ≡ 11 + length y.1) (ok_is (0, bytes) x e) (omega arith)
horizon_long Wide bytes x e = omega (arith, number_long w64 Truncated bytes x e)

-- what is read of a header as far as the horizon: how long it is, and that the letters are those of
-- its format
pub record StartLong (bytes : List ℕ) (x : Start × List ℕ) : Type 0 where
  pub long : length bytes + 4 ≡ header_size x.0.format + length x.1
  pub most : header_most bytes ≡ header_size x.0.format

start_long : (bytes : List ℕ) (x : Start × List ℕ) → start_at bytes ≡ Ok x → StartLong bytes x
unfolding start_at
start_long bytes x e =
    let a = bind_ok (number_at w32 Truncated bytes) _ x e in
    let m = bind_ok (format_of a.0.0) _ x a.2 in
    let b = bind_ok (byte_at Truncated a.0.1) _ x m.2 in
    let d = bind_ok (kind_of b.0.0) _ x b.2 in
    let f = bind_ok (number_at w16 Truncated b.0.1) _ x d.2 in
    let good = want_ok (is_replica f.0.0) BadSender _ x f.2 in
    let h = bind_ok (horizon_at m.0 f.0.1) _ x good.1 in
    let made : Start × List ℕ = (record { format = m.0; kind = d.0; sender = f.0.0; horizon = h.0.0 }, h.0.1) in
    subst (StartLong bytes) (ok_is made x h.2) (record {
      long = omega (arith, number_long w32 Truncated bytes a.0 a.1, byte_long Truncated a.0.1 b.0 b.1, number_long w16 Truncated b.0.1 f.0 f.1, horizon_long m.0 f.0.1 h.0 h.1);
      most = ap most_of a.1 ∙ sym (format_is a.0.0 m.0 m.1);
    })

-- bytes that begin with a whole header, and what is read of them
pub record Headed (bytes : List ℕ) (size : ℕ) : Type 0 where
  pub start : Start
  pub len : ℕ
  pub rest : List ℕ
  pub size_is : size ≡ header_size start.format + len
  pub length_is : length bytes ≡ header_size start.format + length rest
  pub most : header_most bytes ≡ header_size start.format
  pub allowed : may_have start.format start.kind len ≡ true
  pub reads : read_frame bytes ≡ (whole_body len rest >>= read_message start)

pub headed : (bytes : List ℕ) (size : ℕ) → frame_size bytes ≡ Ok size → Headed bytes size
unfolding frame_size read_frame body_at
headed bytes size e =
    let a = bind_ok (start_at bytes) _ size e in
    let start = a.0.0 in
    let b = bind_ok (length_at start.format start.kind a.0.1) _ size a.2 in
    let l = length_ok start.format start.kind a.0.1 b.0 b.1 in
    let s = start_long bytes a.0 a.1 in
    record {
      start = start;
      len = b.0.0;
      rest = b.0.1;
      size_is = sym (ok_is (header_size start.format + b.0.0) size b.2);
      length_is = omega (arith, s.long, number_long w32 Truncated a.0.1 b.0 l.0);
      most = s.most;
      allowed = l.1;
      reads = ap (λ (r : Result (Start × List ℕ) FrameFault). r >>= λ start. body_at start.0.format start.0.kind start.1 >>= λ body. read_message start.0 body) a.1
          ∙ ap (λ (r : Result (ℕ × List ℕ) FrameFault). (r >>= λ len. whole_body len.0 len.1) >>= λ body. read_message start body) b.1;
    }

-- fewer bytes than its size end too soon
pub size_short : (bytes : List ℕ) (size : ℕ) → frame_size bytes ≡ Ok size → length bytes < size
    → read_frame bytes ≡ Err Truncated
size_short bytes size e lt =
    let h = headed bytes size e in
    let fewer : length h.rest < h.len = omega (arith, lt, h.size_is, h.length_is) in
    let test : leb h.len (length h.rest) ≡ false = grind (arith, nat_tests, fewer) in
    h.reads ∙ rw test refl

-- more bytes are no frame
pub size_long : (bytes : List ℕ) (size : ℕ) → frame_size bytes ≡ Ok size → size < length bytes
    → read_frame bytes ≡ Err BadLength
size_long bytes size e lt =
    let h = headed bytes size e in
    let more : h.len < length h.rest = omega (arith, lt, h.size_is, h.length_is) in
    let enough : leb h.len (length h.rest) ≡ true = grind (arith, nat_tests, more) in
    let exact : leb (length h.rest) h.len ≡ false = grind (arith, nat_tests, more) in
    h.reads ∙ rw (enough, exact) refl

-- this many bytes are a frame, or have a lasting fault
pub size_whole : (bytes : List ℕ) (e : FrameFault) → frame_size bytes ≡ Ok (length bytes)
    → read_frame bytes ≡ Err e → IsLasting e
size_whole bytes e size is =
    let h = headed bytes (length bytes) size in
    let as_many : h.len ≡ length h.rest = omega (arith, h.size_is, h.length_is) in
    let test : leb h.len (length h.rest) ≡ true = grind (arith, nat_tests, as_many) in
    let back : leb (length h.rest) h.len ≡ true = grind (arith, nat_tests, as_many) in
    let reads : read_frame bytes ≡ read_message h.start h.rest = h.reads ∙ rw (test, back) refl in
    only_fault IsLasting (read_message h.start h.rest) e (frame_lasts h.start h.rest) (sym reads ∙ is)

most_bytes : (format : Format) (kind : Kind) (len : ℕ) → may_have format kind len ≡ true
    → len ≤ 4 + MAX_ENTRY_SIZE * MAX_ENTRIES
most_bytes Narrow kinds.Entries len e = grind (arith, nat_tests, e)
most_bytes Wide kinds.Entries len e = grind (arith, nat_tests, e)
most_bytes format kinds.Digest len e = grind (arith, nat_tests, e)
most_bytes format kinds.Want len e = grind (arith, nat_tests, e)

least_bytes : (format : Format) (kind : Kind) (len : ℕ) → may_have format kind len ≡ true → 4 ≤ len
least_bytes Narrow kinds.Entries len e = grind (arith, nat_tests, e)
least_bytes Wide kinds.Entries len e = grind (arith, nat_tests, e)
least_bytes format kinds.Digest len e = grind (arith, nat_tests, e)
least_bytes format kinds.Want len e = grind (arith, nat_tests, e)

most_header : (format : Format) → header_size format ≤ 19
most_header Narrow = omega arith
most_header Wide = omega arith

least_header : (format : Format) → 11 ≤ header_size format
least_header Narrow = omega arith
least_header Wide = omega arith

-- ---- faults of a header

pub err_is : {A : Type 0} (d e : FrameFault) → (is : failed {A = A} d ≡ failed e) → d ≡ e
err_is d e is = cc

err_then : {A B C : Type 0} (e : FrameFault) (r : Result A FrameFault) (f : A → Result B FrameFault)
    (g : A → Result C FrameFault) → ((x : A) → f x ≡ Err e → g x ≡ Err e) → (r >>= f) ≡ Err e
    → (r >>= g) ≡ Err e
err_then e (Ok x) f g each is = each x is
err_then e (Err d) f g each is = ap (λ (x : FrameFault). Err x) (err_is d e is)

err_twice : {A B C D : Type 0} (e : FrameFault) (r : Result A FrameFault)
    (f : A → Result B FrameFault) (g : A → Result C FrameFault) (k : C → Result D FrameFault)
    → ((x : A) → f x ≡ Err e → ⊥) → (r >>= f) ≡ Err e → ((r >>= g) >>= k) ≡ Err e
err_twice e (Ok x) f g k each is = absurd (each x is)
err_twice e (Err d) f g k each is = ap (λ (x : FrameFault). Err x) (err_is d e is)

-- a fault of the header is that of the whole
pub size_fault : (bytes : List ℕ) (e : FrameFault) → frame_size bytes ≡ Err e
    → read_frame bytes ≡ Err e
unfolding frame_size read_frame body_at
size_fault bytes e is =
    err_then e (start_at bytes) _ _ (λ start. err_twice e (length_at start.0.format start.0.kind start.1) _ _ _ (λ len made. no_err made)) is

length_short : (P : FrameFault → Type 0) (format : Format) (kind : Kind) (bytes : List ℕ)
    → (length bytes < 4 → P Truncated) → P BadLength → Only P (length_at format kind bytes)
unfolding length_at
length_short P format kind bytes short bad =
    only_then P (number_at w32 Truncated bytes) _ (number_short P w32 bytes short) (λ len is_len.
    only_then P (want (may_have format kind len.0) BadLength) _ (only_want P (may_have format kind len.0) BadLength bad) (λ allowed is_allowed. tt))

size_only : (bytes : List ℕ)
    → Only (ShortOrLasting (header_most bytes) (length bytes)) (frame_size bytes)
unfolding frame_size
size_only bytes =
    let P = ShortOrLasting (header_most bytes) (length bytes) in
    only_then P (start_at bytes) _ (start_short bytes) (λ start is_start.
    let s = start_long bytes start is_start in
    only_then P (length_at start.0.format start.0.kind start.1) _ (length_short P start.0.format start.0.kind start.1 (λ few. inl (refl, omega (arith, few, s.long, s.most))) (inr (omega arith, omega arith))) (λ len is_len. tt))

-- Truncated is no fault for good
pub truncated_mends : IsLasting Truncated → ⊥
truncated_mends lasts = omega (arith, lasts.0)

-- a header that isn't whole has fewer bytes than one of its format
pub header_fewer : (bytes : List ℕ) → frame_size bytes ≡ Err Truncated
    → length bytes < header_most bytes
header_fewer bytes e = ⊎_elim (λ short. short.1) (λ lasts. absurd (truncated_mends lasts)) (only_fault (ShortOrLasting (header_most bytes) (length bytes)) (frame_size bytes) Truncated (size_only bytes) e)

most_header_of : (bytes : List ℕ) → header_most bytes ≤ HEADER_SIZE
most_header_of bytes = cases (number_at w32 Truncated bytes)
  where
    either_way : (b : Bool) → cond b 19 11 ≤ HEADER_SIZE
    either_way true = omega arith
    either_way false = omega arith

    cases : (r : Result (ℕ × List ℕ) FrameFault) → most_of r ≤ HEADER_SIZE
    cases (Ok x) = either_way (eqb x.0 MAGIC)
    cases (Err e) = omega arith

pub header_short : (bytes : List ℕ) → frame_size bytes ≡ Err Truncated → length bytes < HEADER_SIZE
header_short bytes e = omega (arith, header_fewer bytes e, most_header_of bytes)

-- the letters are there from the fourth byte on
letters_stay : (front later : Result (ℕ × List ℕ) FrameFault) (more : List ℕ)
    → Goes (behind more) front later → (front ≡ Err Truncated → ⊥) → most_of later ≡ most_of front
letters_stay (Ok x) later more goes known = ap most_of goes
letters_stay (Err e) later more goes known = ⊎_elim (λ short. absurd (known (ap (λ (f : FrameFault). Err f) short))) (λ same. ap most_of same) goes

-- bytes that say no size are fewer than the size that they say with more
pub size_over : (begun more : List ℕ) (size : ℕ) → frame_size begun ≡ Err Truncated
    → frame_size (begun ++ more) ≡ Ok size → length begun < size
size_over begun more size short is =
    let h = headed (begun ++ more) size is in
    let least = least_bytes h.start.format h.start.kind h.len h.allowed in
    let wide = least_header h.start.format in
    ⊎_elim (λ few. let four : length begun < 4 = ltb-true (length begun) 4 few in omega (arith, four, h.size_is, least, wide))
    (λ enough.
    let read : number_at w32 Truncated begun ≡ Ok (from_be_bytes w32 (take 4 begun), drop 4 begun) = rw enough refl in
    let known : number_at w32 Truncated begun ≡ Err Truncated → ⊥ = λ e. no_ok (sym e ∙ read) in
    let same : header_most (begun ++ more) ≡ header_most begun = letters_stay (number_at w32 Truncated begun) (number_at w32 Truncated (begun ++ more)) more (number_goes w32 begun more) known in
    omega (arith, header_fewer begun short, same, h.most, h.size_is))
    (either (ltb (length begun) 4))

pub header_lasts : (bytes : List ℕ) (e : FrameFault) → frame_size bytes ≡ Err e
    → (e ≡ Truncated) ⊎ IsLasting e
header_lasts bytes e is = ⊎_elim (λ short. inl short.0) (λ lasts. inr lasts) (only_fault (ShortOrLasting (header_most bytes) (length bytes)) (frame_size bytes) e (size_only bytes) is)

-- a whole header says its size whatever follows
pub header_enough : (bytes more : List ℕ) → HEADER_SIZE ≤ length bytes
    → frame_size (bytes ++ more) ≡ frame_size bytes
header_enough bytes more enough = known_stays (frame_size bytes) (frame_size (bytes ++ more)) (size_goes bytes more) (λ short. let few = header_short bytes short in omega (arith, few, enough))

-- bytes that are as many as the size that they say with more say it themselves
pub size_settled : (bytes more : List ℕ) (size : ℕ) → frame_size (bytes ++ more) ≡ Ok size
    → size ≤ length bytes → frame_size (bytes ++ more) ≡ frame_size bytes
size_settled bytes more size is enough = known_stays (frame_size bytes) (frame_size (bytes ++ more)) (size_goes bytes more) (λ short. let less = size_over bytes more size short is in omega (arith, less, enough))

-- ---- fronts

-- what a prefix says, by what the whole says
size_front : (n : ℕ) (bytes : List ℕ) → Goes (λ k. k) (frame_size (take n bytes)) (frame_size bytes)
size_front n bytes = subst (λ (whole : List ℕ). Goes (λ k. k) (frame_size (take n bytes)) (frame_size whole)) (take-append-drop n bytes) (size_goes (take n bytes) (drop n bytes))

-- no header yet: a part of a frame
pub part_without_header : (bytes : List ℕ) → frame_size bytes ≡ Err Truncated → IsIncomplete bytes
part_without_header bytes e n =
    size_fault (take n bytes) Truncated (⊎_elim (λ is. is) (λ is. is) (front_err (frame_size (take n bytes)) (frame_size bytes) Truncated (size_front n bytes) e))

-- fewer bytes than the size: a part of a frame
pub front_with_header : (bytes : List ℕ) (size n : ℕ) → frame_size bytes ≡ Ok size
    → length (take n bytes) < size → read_frame (take n bytes) ≡ Err Truncated
front_with_header bytes size n e lt =
    ⊎_elim (λ known. size_short (take n bytes) size known lt) (λ short. size_fault (take n bytes) Truncated short) (front_ok (frame_size (take n bytes)) (frame_size bytes) size (size_front n bytes) e)

pub part_with_header : (bytes : List ℕ) (size : ℕ) → frame_size bytes ≡ Ok size
    → length bytes < size → IsIncomplete bytes
part_with_header bytes size e lt n = front_with_header bytes size n e (omega (arith, lt, length-take n bytes))

-- a whole body has its fault with the last byte
pub fault_of_body : (bytes : List ℕ) (e : FrameFault) → frame_size bytes ≡ Ok (length bytes)
    → read_frame bytes ≡ Err e → ShowsFault bytes e
fault_of_body bytes e size is = record {
  read = is;
  lasting = size_whole bytes e size is;
  not_before = λ n lt. front_with_header bytes (length bytes) n size (omega (arith, lt, length-take n bytes));
}

abbrev pub ShownIn : List ℕ → List ℕ → FrameFault → Type 0
ShownIn begun piece e = (n : ℕ) × (n ≤ length piece) × ShowsFault (begun ++ take n piece) e

-- one byte more shows the fault
shown_next : (begun : List ℕ) (b : ℕ) (e : FrameFault) → IsLasting e
    → frame_size begun ≡ Err Truncated → frame_size (begun ++ b ∷ []) ≡ Err e
    → ShowsFault (begun ++ b ∷ []) e
shown_next begun b e lasts short is = record {
  read = size_fault (begun ++ b ∷ []) e is;
  lasting = lasts;
  not_before = λ n lt.
      let inside : n ≤ length begun = omega (arith, lt, length-append begun (b ∷ [])) in
      rw (take-append-le n begun (b ∷ []) inside) (part_without_header begun short n);
}

-- a fault of the header is shown by a byte of the piece that brings it
pub fault_of_header : (begun piece : List ℕ) (e : FrameFault) → IsLasting e
    → frame_size begun ≡ Err Truncated → frame_size (begun ++ piece) ≡ Err e → ShownIn begun piece e
fault_of_header begun [] e lasts short is =
    let same : frame_size begun ≡ Err e = ap frame_size (sym (append-nil begun)) ∙ is in
    absurd (truncated_mends (subst IsLasting (sym (err_is {A = ℕ} Truncated e (sym short ∙ same))) lasts))
fault_of_header begun (b ∷ piece) e lasts short is =
    let next : List ℕ = begun ++ b ∷ [] in
    let regrouped : (bs : List ℕ) → next ++ bs ≡ begun ++ b ∷ bs = λ bs. append_assoc begun (b ∷ []) bs in
    let later : frame_size (next ++ piece) ≡ Err e = ap frame_size (regrouped piece) ∙ is in
    ⊎_elim (λ known. (1, omega arith, shown_next begun b e lasts short known))
    (λ still.
    let found = fault_of_header next piece e lasts still later in
    (suc found.0, omega (arith, found.1), subst (λ (w : List ℕ). ShowsFault w e) (regrouped (take found.0 piece)) found.2))
    (front_err (frame_size next) (frame_size (next ++ piece)) e (size_goes next piece) later)

-- ---- laws

differ : BadLength ≡ Truncated → ⊥
differ is = absurd cc

pub lt_or_le : (a b : ℕ) → (a < b) ⊎ (b ≤ a)
lt_or_le a b = ⊎_elim (λ test. inl (grind (arith, nat_tests, test))) (λ test. inr (ltb-false a b test)) (either (ltb a b))

pub lt_or_is : (a b : ℕ) → a ≤ b → (a < b) ⊎ (a ≡ b)
lt_or_is a b le = ⊎_elim (λ lt. inl lt) (λ more. inr (omega (arith, le, more))) (lt_or_le a b)

-- a header is there, and the bytes end too soon: they are fewer than the size
below : (bytes : List ℕ) (size : ℕ) → frame_size bytes ≡ Ok size → read_frame bytes ≡ Err Truncated
    → length bytes < size
below bytes size is short =
    ⊎_elim (λ lt. lt)
    (λ le. ⊎_elim (λ more. absurd (differ (err_is {A = Message} BadLength Truncated (sym (size_long bytes size is more) ∙ short))))
    (λ same. absurd (truncated_mends (size_whole bytes Truncated (is ∙ ap (λ (n : ℕ). Ok n) same) short))) (lt_or_is size (length bytes) le))
    (lt_or_le (length bytes) size)

by_size : (bytes : List ℕ) → read_frame bytes ≡ Err Truncated → (r : Result ℕ FrameFault)
    → frame_size bytes ≡ r → length bytes < HEADER_SIZE + 4 + MAX_ENTRY_SIZE * MAX_ENTRIES
by_size bytes short (Err e) is =
    let truncated : e ≡ Truncated = err_is {A = Message} e Truncated (sym (size_fault bytes e is) ∙ short) in
    let few = header_short bytes (is ∙ ap (λ (x : FrameFault). Err x) truncated) in
    omega (arith, few)
by_size bytes short (Ok size) is =
    let h = headed bytes size is in
    let most = most_bytes h.start.format h.start.kind h.len h.allowed in
    let wide = most_header h.start.format in
    let less : length bytes < size = below bytes size is short in
    omega (arith, less, most, wide, h.size_is)

-- a part of a frame has fewer bytes than the longest frame
pub part_is_short : (bytes : List ℕ) → IsIncomplete bytes
    → length bytes < HEADER_SIZE + 4 + MAX_ENTRY_SIZE * MAX_ENTRIES
part_is_short bytes part =
    let short : read_frame bytes ≡ Err Truncated = ap read_frame (sym (take_all (length bytes) bytes (omega arith))) ∙ part (length bytes) in
    by_size bytes short (frame_size bytes) refl

at_least : (bytes : List ℕ) (size : ℕ) (e : FrameFault) → frame_size bytes ≡ Ok size
    → ShowsFault bytes e → size ≤ length bytes
at_least bytes size e is shown =
    ⊎_elim (λ lt. absurd (truncated_mends (subst IsLasting (err_is {A = Message} e Truncated (sym shown.read ∙ size_short bytes size is lt)) shown.lasting))) (λ le. le) (lt_or_le (length bytes) size)

no_frame : (bytes more : List ℕ) (e : FrameFault) (f : Message) → ShowsFault bytes e
    → read_frame (bytes ++ more) ≡ Ok f → (r : Result ℕ FrameFault) → frame_size bytes ≡ r → ⊥
no_frame bytes more e f shown ok (Err d) is =
    let same : d ≡ e = err_is {A = Message} d e (sym (size_fault bytes d is) ∙ shown.read) in
    let stays_so : frame_size (bytes ++ more) ≡ Err d = known_stays (frame_size bytes) (frame_size (bytes ++ more)) (size_goes bytes more)
    (λ short. truncated_mends (subst IsLasting (sym same ∙ err_is {A = ℕ} d Truncated (sym is ∙ short)) shown.lasting)) ∙ is in
    no_err {e = d} (sym ok ∙ size_fault (bytes ++ more) d stays_so)
no_frame bytes more e f shown ok (Ok size) is =
    let enough : size ≤ length bytes = at_least bytes size e is shown in
    let later : frame_size (bytes ++ more) ≡ Ok size = known_stays (frame_size bytes) (frame_size (bytes ++ more)) (size_goes bytes more) (λ short. no_ok (sym short ∙ is)) ∙ is in
    ⊎_elim (λ longer. no_err {e = BadLength} (sym ok ∙ size_long (bytes ++ more) size later longer))
    (λ no_longer.
    let nothing : more ≡ [] = nil_from_length more (omega (arith, enough, no_longer, length-append bytes more)) in
    no_err {e = e} (sym ok ∙ ap (λ (m : List ℕ). read_frame (bytes ++ m)) nothing ∙ ap read_frame (append-nil bytes) ∙ shown.read))
    (lt_or_le size (length (bytes ++ more)))

-- a fault stays, whatever follows
pub fault_for_good : (bytes more : List ℕ) (e : FrameFault) (f : Message) → ShowsFault bytes e
    → Encodes (bytes ++ more) f → ⊥
fault_for_good bytes more e f shown encodes = no_frame bytes more e f shown (frame_read (bytes ++ more) f encodes) (frame_size bytes) refl

-- ---- for a decoder

-- if nothing has come, nothing is known
pub nothing_short : (bytes : List ℕ) → bytes ≡ [] → frame_size bytes ≡ Err Truncated
unfolding frame_size start_at
nothing_short bytes none = ap frame_size none
