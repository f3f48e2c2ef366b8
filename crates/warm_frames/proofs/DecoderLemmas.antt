-- What a decoder does with a piece, in plain variables.
use Rattle.std.proofs.Common.{◌≡◌, ◌≢◌, ◌⊎◌, inl, inr, ℕ, ◌+◌, ◌-◌, ◌<◌, ◌≤◌, Bool, true, false, cond, List, ◌++◌, length, take, drop, Option, Some, None, Result, Ok, Err, refl, sym, ap, subst, ◌∙◌, append_assoc, ⊎_elim, arith}
use Rattle.std.specs.Cmp.{nat_cmp_is}
use Rattle.std.specs.Ordering.{is_lt, nat_cmp, ord_min}
use Rattle.std.specs.declared.cmp.Ordering.{Ordering}
use Rattle.std.specs.declared.cmp.Ordering.TheVariants.{Less, Equal, Greater}
use Rattle.std.proofs.lemmas.List.{take_all, take_at, take-append-drop, length-append, length-take}
use Rattle.std.proofs.lemmas.Slice.{take-put_mid}
use borrow.Rule.Slice.PartMut.{put_mid}
use Rattle.warm_frames.specs.declared.decoder.Fed.{Fed}
use Rattle.warm_frames.specs.declared.fault.FrameFault.{FrameFault}
use Rattle.warm_frames.specs.declared.fault.FrameFault.TheVariants.{Memory, Truncated}
use Rattle.warm_frames.specs.declared.message.Message.{Message}
use Rattle.warm_frames.specs.declared.layout.TheConstants.{HEADER_SIZE}
use Rattle.warm_frames.specs.Pieces.{DecoderState, Inside, Broken, state_of, IsIncomplete, IsLasting, FeedStep, TakesPiece, DecodesWith, KnowsWith}
use Rattle.warm_frames.specs.Sizes.{frame_size, KnowsSize, SaysSize}
use Rattle.warm_frames.proofs.SizeLemmas.{size_goes, known_stays, no_ok, err_is, lt_or_le, lt_or_is, size_over, header_enough, header_lasts, size_whole, size_settled, fault_of_body, fault_of_header, ShownIn}

-- what is known stays true, whatever follows
pub size_again : (begun more : List ℕ) (size : ℕ) → frame_size begun ≡ Ok size
    → frame_size (begun ++ more) ≡ Ok size
size_again begun more size is = known_stays (frame_size begun) (frame_size (begun ++ more)) (size_goes begun more) (λ short. no_ok (sym short ∙ is)) ∙ is

-- a size that the bytes say only with the piece is greater than what has begun
pub size_above : (begun piece : List ℕ) (size : ℕ) → frame_size begun ≡ Err Truncated
    → frame_size (begun ++ piece) ≡ Ok size → length begun < size
size_above begun piece size short is = size_over begun piece size short is

-- what wasn't known and isn't with the piece
pub still_unknown : (begun piece held : List ℕ) (known : Option ℕ) → KnowsSize begun known
    → frame_size (begun ++ piece) ≡ Err Truncated → held ≡ begun ++ piece → KnowsSize held known
still_unknown begun piece held None knows short is = ap frame_size is ∙ short
still_unknown begun piece held (Some size) knows short is = absurd (no_ok (sym short ∙ size_again begun piece size knows.0))

-- ---- the answers of feed

-- a decoder that knows something of a size isn't after a fault
pub inside : (old : DecoderState) (failed : Bool) (begun piece : List ℕ) (size : Option ℕ)
    → state_of failed begun ≡ old → KnowsWith old piece size
    → (failed ≡ false) × SaysSize begun piece (Ok size)
inside old true begun piece size view knows = absurd (subst (λ (o : DecoderState). KnowsWith o piece size) (sym view) knows)
inside old false begun piece size view knows = (refl, subst (λ (o : DecoderState). KnowsWith o piece size) (sym view) knows)

-- what is known if no size is known, and if one is
pub said_none : (begun piece : List ℕ) (size : Option ℕ) → ((n : ℕ) → size ≡ Some n → ⊥)
    → SaysSize begun piece (Ok size) → SaysSize begun piece (Ok None)
said_none begun piece None none says = says
said_none begun piece (Some n) none says = absurd (none n refl)

pub said_some : (begun piece : List ℕ) (size : Option ℕ) (n : ℕ) → size ≡ Some n
    → SaysSize begun piece (Ok size) → SaysSize begun piece (Ok (Some n))
said_some begun piece size n is says = subst (λ (x : Option ℕ). SaysSize begun piece (Ok x)) is says

-- all of the piece was taken
pub took_all : (old : DecoderState) (failed : Bool) (begun held piece : List ℕ) (fed : Fed)
    → state_of failed begun ≡ old → failed ≡ false → fed.taken ≡ length piece → fed.message ≡ None
    → held ≡ begun ++ piece
    → IsIncomplete (begun ++ piece) → FeedStep old piece (Ok fed) (state_of failed held)
took_all old failed begun held piece fed view works all none is part =
    let stands : Inside begun ≡ old = ap (λ (b : Bool). state_of b begun) (sym works) ∙ view in
    subst (λ (o : DecoderState). FeedStep o piece (Ok fed) (state_of failed held)) stands
    (subst (λ (frame : Option Message). TakesPiece begun piece fed.taken frame (state_of failed held)) (sym none)
    (all, part, ap (λ (b : Bool). state_of b held) works ∙ ap (λ (bs : List ℕ). Inside bs) is))

-- a byte of the piece shows a fault
pub broke : (old : DecoderState) (failed : Bool) (begun piece : List ℕ) (fault : FrameFault)
    → state_of failed begun ≡ old → failed ≡ false → ShownIn begun piece fault
    → FeedStep old piece (Err fault) Broken
broke old failed begun piece fault view works shown =
    let stands : Inside begun ≡ old = ap (λ (b : Bool). state_of b begun) (sym works) ∙ view in
    subst (λ (o : DecoderState). FeedStep o piece (Err fault) Broken) stands (inr (shown.0, shown.1, shown.2, refl))

-- an allocation failure
pub no_room : (old : DecoderState) (failed : Bool) (begun held piece : List ℕ) (fault : FrameFault)
    → state_of failed begun ≡ old → failed ≡ false → fault ≡ Memory → held ≡ begun
    → FeedStep old piece (Err fault) (state_of failed held)
no_room old failed begun held piece fault view works memory is =
    let stands : Inside begun ≡ old = ap (λ (b : Bool). state_of b begun) (sym works) ∙ view in
    subst (λ (o : DecoderState). FeedStep o piece (Err fault) (state_of failed held)) stands
    (inl (memory, ap (λ (b : Bool). state_of b held) works ∙ ap (λ (bs : List ℕ). Inside bs) is))

-- a fault of the header
pub header_shown : (begun piece : List ℕ) (fault : FrameFault) → SaysSize begun piece (Err fault)
    → ShownIn begun piece fault
header_shown begun piece fault says =
    let lasts : IsLasting fault = ⊎_elim (λ short. absurd (says.2 short)) (λ l. l) (header_lasts (begun ++ piece) fault says.0) in
    fault_of_header begun piece fault lasts says.1 says.0

-- ---- the header, put together

-- what was written over the front and then behind it
pub header_is : (held front zeros piece written : List ℕ) (more k : ℕ) → front ≡ held
    → written ≡ take more piece → more ≡ length written
    → take (length held + more) (put_mid (length held) k (front ++ zeros) written)
    ≡ held ++ take more piece
header_is held front zeros piece written more k is_held is_more len =
    let long : length front ≡ length held = ap length is_held in
    let inside : length held ≤ length (front ++ zeros) = omega (arith, long, length-append front zeros) in
    take-put_mid (length held) k (front ++ zeros) written (length held + more) (ap (λ (n : ℕ). length held + n) len) inside
    ∙ (λ i. (take_at front zeros (length held) long ∙ is_held) i ++ is_more i)

-- this prefix of the piece says what all of it says
pub header_said : (held piece : List ℕ) (more : ℕ) → length held < HEADER_SIZE → more ≤ length piece
    → (more ≡ length piece) ⊎ (more ≡ HEADER_SIZE - length held)
    → frame_size (held ++ take more piece) ≡ frame_size (held ++ piece)
header_said held piece more few inside (inl whole) = ap (λ (p : List ℕ). frame_size (held ++ p)) (take_all more piece (omega (arith, whole)))
header_said held piece more few inside (inr enough) =
    let front : List ℕ = held ++ take more piece in
    let long : HEADER_SIZE ≤ length front = omega (arith, few, inside, enough, length-append held (take more piece), length-take more piece) in
    let parts : front ++ drop more piece ≡ held ++ piece = append_assoc held (take more piece) (drop more piece) ∙ ap (λ (p : List ℕ). held ++ p) (take-append-drop more piece) in
    sym (header_enough front (drop more piece) long) ∙ ap frame_size parts

-- the lesser of both
pub least_is : (a b m : ℕ) → m ≡ ord_min nat_cmp a b → (m ≤ b) × ((m ≡ b) ⊎ (m ≡ a))
least_is a b m is =
    let by : (o : Ordering) → o ≡ nat_cmp b a → m ≡ cond (is_lt o) b a = λ o chosen. is ∙ ap (λ (x : Ordering). cond (is_lt x) b a) (sym chosen) in
    ⊎_elim (λ less. let same = by Less (nat_cmp_is b a Less less) in (omega (arith, same), inl same))
    (λ le. ⊎_elim (λ less. let same = by Greater (nat_cmp_is b a Greater less) in (omega (arith, same, le), inr same))
    (λ equal. let same = by Equal (nat_cmp_is b a Equal (sym equal)) in (omega (arith, same, le), inr same)) (lt_or_is a b le))
    (lt_or_le b a)

-- ---- a whole frame

less_than_one : 3 ≤ 1 → ⊥
less_than_one le = omega (arith, le)

-- an allocation failure leaves the bytes held
pub memory_leaves : (begun end held : List ℕ) (fault : FrameFault)
    → frame_size (begun ++ end) ≡ Ok (length (begun ++ end))
    → DecodesWith begun end (Err fault) held → fault ≡ Memory → held ≡ begun
memory_leaves begun end held fault size (inl read) memory =
    let lasts : IsLasting Memory = subst IsLasting memory (size_whole (begun ++ end) fault size (sym read)) in
    absurd (less_than_one lasts.0)
memory_leaves begun end held fault size (inr none) memory = none.1

-- another fault is shown by the last byte
pub body_shown : (begun piece held : List ℕ) (n : ℕ) (fault : FrameFault) → n ≤ length piece
    → frame_size (begun ++ take n piece) ≡ Ok (length (begun ++ take n piece))
    → DecodesWith begun (take n piece) (Err fault) held → fault ≢ Memory → ShownIn begun piece fault
body_shown begun piece held n fault inside size (inl read) other = (n, inside, fault_of_body (begun ++ take n piece) fault size (sym read))
body_shown begun piece held n fault inside size (inr none) other = absurd (other (err_is {A = Message} fault Memory none.0))

-- the bytes up to the end are as many as the size says
pub size_up_to : (begun piece : List ℕ) (size n : ℕ) → frame_size (begun ++ piece) ≡ Ok size
    → n + length begun ≡ size → n ≤ length piece
    → frame_size (begun ++ take n piece) ≡ Ok (length (begun ++ take n piece))
size_up_to begun piece size n is end enough =
    let front : List ℕ = begun ++ take n piece in
    let len : length front ≡ size = omega (arith, end, enough, length-append begun (take n piece), length-take n piece) in
    let parts : front ++ drop n piece ≡ begun ++ piece = append_assoc begun (take n piece) (drop n piece) ∙ ap (λ (p : List ℕ). begun ++ p) (take-append-drop n piece) in
    let whole : frame_size (front ++ drop n piece) ≡ frame_size front = size_settled front (drop n piece) size (ap frame_size parts ∙ is) (omega (arith, len)) in
    sym whole ∙ ap frame_size parts ∙ is ∙ ap (λ (m : ℕ). Ok m) (sym len)

-- what was known stays, if nothing was taken
pub same_knows : (begun held : List ℕ) (known : Option ℕ) → held ≡ begun → KnowsSize begun known
    → KnowsSize held known
same_knows begun held known is knows = subst (λ (h : List ℕ). KnowsSize h known) (sym is) knows

-- what is known of the size, by what was kept of it
pub known_size : (begun : List ℕ) (known : Option ℕ) (size : ℕ) → known ≡ Some size
    → KnowsSize begun known → KnowsSize begun (Some size)
known_size begun known size is knows = subst (KnowsSize begun) is knows

pub unknown_yet : (begun : List ℕ) (known : Option ℕ) → ((size : ℕ) → known ≡ Some size → ⊥)
    → KnowsSize begun known → frame_size begun ≡ Err Truncated
unknown_yet begun None none knows = knows
unknown_yet begun (Some size) none knows = absurd (none size refl)

-- facts about the bytes held
pub said : (bytes held piece : List ℕ) (r s : Result (Option ℕ) FrameFault) → bytes ≡ held → r ≡ s
    → SaysSize bytes piece r → SaysSize held piece s
said bytes held piece r s same is says = subst (λ (h : List ℕ). SaysSize h piece s) same (subst (SaysSize bytes piece) is says)
