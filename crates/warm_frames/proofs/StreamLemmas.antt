-- Streams: what was fed is frames and a rest, and there is one such reading.
use Rattle.std.proofs.Common.{◌≡◌, inl, inr, ℕ, ◌≤◌, List, [], ◌∷◌, ◌++◌, length, take, drop, Option, Some, None, Result, Ok, Err, refl, sym, ap, subst, ◌∙◌, append_assoc, ⊎_elim, arith}
use Rattle.std.specs.Prelude.{option_to_list}
use Rattle.std.proofs.lemmas.List.{append-nil, take_all, take_at, drop_at, take-append-drop, take-append-le}
use Rattle.std.proofs.lemmas.List.Concat.{flat_map-cons}
use Rattle.warm_frames.specs.declared.decoder.Fed.{Fed}
use Rattle.warm_frames.specs.declared.fault.FrameFault.{FrameFault}
use Rattle.warm_frames.specs.declared.fault.FrameFault.TheVariants.{Truncated}
use Rattle.warm_frames.specs.declared.message.Message.{Message}
use Rattle.warm_frames.specs.Pieces.{DecoderState, Inside, Broken, IsIncomplete, IsLasting, ShowsFault, TakesPiece, Breaks, FeedStep, Feeding, bytes_taken, taken_in, message_given, messages_given, Feedings, EncodeAll, texts_of, Splits, Fails}
use Rattle.warm_frames.specs.Reading.{read_frame}
use Rattle.warm_frames.specs.Encoding.{Encodes}
use Rattle.warm_frames.proofs.FrameLemmas.{frame_read, encoding_is_injective, prefix_free}
use Rattle.warm_frames.proofs.SizeLemmas.{failed, no_ok, err_is, lt_or_le, truncated_mends, nothing_short, part_without_header, fault_for_good}

-- ---- feeds one after the other

inside_is : (b c : List ℕ) → Inside b ≡ Inside c → b ≡ c
inside_is b c e = cc

apart : (b : List ℕ) → Broken ≡ Inside b → ⊥
apart b e = absurd cc

broken_stays : (calls : List Feeding) (new : DecoderState) → Feedings Broken calls new
    → new ≡ Broken
broken_stays [] new run = run
broken_stays (c ∷ calls) new run = broken_stays calls new (subst (λ (s : DecoderState). Feedings s calls new) run.1.1 run.2)

-- between two frames nothing has come of the next
pub nothing_is_part : IsIncomplete []
nothing_is_part = part_without_header [] (nothing_short [] refl)

-- the later feeds are read from whatever part has come
abbrev pub Later : List Feeding → DecoderState → List ℕ → Type 0
Later calls new rest = (part : List ℕ) → IsIncomplete part → Feedings (Inside part) calls new → Splits (part ++ taken_in calls) (messages_given calls) rest

one_fed : (calls : List Feeding) (new : DecoderState) (rest begun piece : List ℕ) (taken : ℕ)
    (frame : Option Message) (next : DecoderState) → Later calls new rest
    → TakesPiece begun piece taken frame next → Feedings next calls new
    → Splits (begun ++ (take taken piece ++ taken_in calls))
    (option_to_list frame ++ messages_given calls) rest
one_fed calls new rest begun piece taken None next later takes run =
    let after = later (begun ++ piece) takes.1 (subst (λ (s : DecoderState). Feedings s calls new) takes.2 run) in
    let whole : take taken piece ≡ piece = take_all taken piece (omega (arith, takes.0)) in
    subst (λ (s : List ℕ). Splits s (messages_given calls) rest) (append_assoc begun piece (taken_in calls) ∙ ap (λ (p : List ℕ). begun ++ (p ++ taken_in calls)) (sym whole)) after
one_fed calls new rest begun piece taken (Some frame) next later takes run =
    let after = later [] nothing_is_part (subst (λ (s : DecoderState). Feedings s calls new) takes.2 run) in
    let first = takes.1 in
    let text = begun ++ take taken piece in
    record {
      texts = text ∷ after.texts;
      whole = sym (append_assoc begun (take taken piece) (taken_in calls)) ∙ ap (λ (w : List ℕ). text ++ w) after.whole
          ∙ sym (append_assoc text (texts_of after.texts) rest);
      each = (first, after.each);
      part = after.part;
    }

one_answered : (calls : List Feeding) (new : DecoderState) (rest begun piece : List ℕ)
    (answer : Result Fed FrameFault) (next : DecoderState) → Later calls new rest
    → IsIncomplete begun → new ≡ Inside rest → FeedStep (Inside begun) piece answer next
    → Feedings next calls new
    → Splits (begun ++ (bytes_taken piece answer ++ taken_in calls))
    (message_given answer ++ messages_given calls) rest
one_answered calls new rest begun piece (Ok fed) next later part ends feeds run = one_fed calls new rest begun piece fed.taken fed.message next later feeds run
one_answered calls new rest begun piece (Err fault) next later part ends (inl none) run = later begun part (subst (λ (s : DecoderState). Feedings s calls new) none.1 run)
one_answered calls new rest begun piece (Err fault) next later part ends (inr breaks) run =
    absurd (apart rest (sym (broken_stays calls new (subst (λ (s : DecoderState). Feedings s calls new) breaks.3 run)) ∙ ends))

fed_from : (calls : List Feeding) (new : DecoderState) (rest : List ℕ) → new ≡ Inside rest
    → Later calls new rest
fed_from [] new rest ends begun part run =
    let same : begun ≡ rest = inside_is begun rest (sym run ∙ ends) in
    record { texts = []; whole = append-nil begun ∙ same; each = tt; part = subst IsIncomplete same part }
fed_from (c ∷ calls) new rest ends begun part run =
    let all = one_answered calls new rest begun c.piece c.answer run.0 (fed_from calls new rest ends) part ends run.1 run.2 in
    let bytes : taken_in (c ∷ calls) ≡ bytes_taken c.piece c.answer ++ taken_in calls = flat_map-cons (λ (d : Feeding). bytes_taken d.piece d.answer) c calls in
    let frames : messages_given (c ∷ calls) ≡ message_given c.answer ++ messages_given calls = flat_map-cons (λ (d : Feeding). message_given d.answer) c calls in
    subst (λ (fs : List Message). Splits (begun ++ taken_in (c ∷ calls)) fs rest) (sym frames)
    (subst (λ (s : List ℕ). Splits (begun ++ s) (message_given c.answer ++ messages_given calls) rest) (sym bytes) all)

-- the consumed bytes are the returned frames and a part of the next
pub in_pieces : (calls : List Feeding) (rest : List ℕ) → Feedings (Inside []) calls (Inside rest)
    → Splits (taken_in calls) (messages_given calls) rest
in_pieces calls rest run = fed_from calls (Inside rest) rest refl [] nothing_is_part run

-- and if a fault follows, the bytes up to it show it
pub fault_in_pieces : (calls : List Feeding) (begun piece : List ℕ) (fault : FrameFault)
    → Feedings (Inside []) calls (Inside begun) → Breaks begun piece fault Broken
    → Fails (taken_in calls ++ piece) (messages_given calls) fault
fault_in_pieces calls begun piece fault run breaks =
    let split = in_pieces calls begun run in
    let front = texts_of split.texts in
    let n = breaks.0 in
    record {
      texts = split.texts;
      bad = begun ++ take n piece;
      later = drop n piece;
      whole = ap (λ (w : List ℕ). w ++ piece) split.whole ∙ append_assoc front begun piece
          ∙ ap (λ (p : List ℕ). front ++ (begun ++ p)) (sym (take-append-drop n piece)) ∙ ap (λ (w : List ℕ). front ++ w) (sym (append_assoc begun (take n piece) (drop n piece)));
      each = split.each;
      shown = breaks.2;
    }

-- ---- one reading

-- of two fronts of one list the shorter is a front of the longer
shorter : (a x b y : List ℕ) → a ++ x ≡ b ++ y → length a ≤ length b → take (length a) b ≡ a
shorter a x b y same le = sym (take-append-le (length a) b y le) ∙ ap (take (length a)) (sym same) ∙ take_at a x (length a) refl

pub longer : (a x b y : List ℕ) → a ++ x ≡ b ++ y → length a ≤ length b → b ≡ a ++ drop (length a) b
longer a x b y same le = sym (take-append-drop (length a) b) ∙ ap (λ (w : List ℕ). w ++ drop (length a) b) (shorter a x b y same le)

-- a frame has a byte at least
pub no_empty_frame : (f : Message) → Encodes [] f → ⊥
no_empty_frame f encodes = no_ok (sym (nothing_is_part 0) ∙ frame_read [] f encodes)

-- if one message's encoding is a prefix of another's, the two are equal
front_text : (s t : List ℕ) (f g : Message) (x y : List ℕ) → Encodes s f → Encodes t g
    → s ++ x ≡ t ++ y → length s ≤ length t → s ≡ t
front_text s t f g x y is_f is_g same le =
    let rest = drop (length s) t in
    let parts : t ≡ s ++ rest = longer s x t y same le in
    let none : rest ≡ [] = prefix_free s rest f g is_f (subst (λ (w : List ℕ). Encodes w g) parts is_g) in
    sym (append-nil s) ∙ ap (λ (r : List ℕ). s ++ r) (sym none) ∙ sym parts

-- if one text begins with either of two frames, the two are equal
pub first_text : (s t : List ℕ) (f g : Message) (x y : List ℕ) → Encodes s f → Encodes t g
    → s ++ x ≡ t ++ y → s ≡ t
first_text s t f g x y is_f is_g same =
    ⊎_elim (λ lt. front_text s t f g x y is_f is_g same (omega (arith, lt))) (λ le. sym (front_text t s g f y x is_g is_f (sym same) le)) (lt_or_le (length s) (length t))

-- no frame comes first
abbrev pub NoFrame : List ℕ → Type 0
NoFrame bytes = (text : List ℕ) (f : Message) (more : List ℕ) → Encodes text f → bytes ≡ text ++ more → ⊥

part_no_frame : (rest : List ℕ) → IsIncomplete rest → NoFrame rest
part_no_frame rest part text f more encodes is =
    let n = length text in
    let front : take n rest ≡ text = ap (take n) is ∙ take_at text more n refl in
    no_ok (sym (part n) ∙ ap read_frame front ∙ frame_read text f encodes)

bad_no_frame : (bad later : List ℕ) (fault : FrameFault) → ShowsFault bad fault
    → NoFrame (bad ++ later)
bad_no_frame bad later fault shown text f more encodes is =
    ⊎_elim (λ lt. no_ok (sym (shown.not_before (length text) lt) ∙ ap read_frame (shorter text more bad later (sym is) (omega (arith, lt))) ∙ frame_read text f encodes))
    (λ le. fault_for_good bad (drop (length bad) text) fault f shown (subst (λ (w : List ℕ). Encodes w f) (longer bad later text more is le) encodes))
    (lt_or_le (length text) (length bad))

same_reading : (ts us : List (List ℕ)) (fs gs : List Message) (r q : List ℕ) → EncodeAll ts fs
    → EncodeAll us gs → NoFrame r → NoFrame q → texts_of ts ++ r ≡ texts_of us ++ q
    → (fs ≡ gs) × (r ≡ q)
same_reading [] [] [] [] r q all_f all_g none_r none_q same = (refl, same)
same_reading [] us (f ∷ fs) gs r q all_f all_g none_r none_q same = absurd all_f
same_reading (t ∷ ts) us [] gs r q all_f all_g none_r none_q same = absurd all_f
same_reading ts [] fs (g ∷ gs) r q all_f all_g none_r none_q same = absurd all_g
same_reading ts (u ∷ us) fs [] r q all_f all_g none_r none_q same = absurd all_g
same_reading [] (u ∷ us) [] (g ∷ gs) r q all_f all_g none_r none_q same = absurd (none_r u g (texts_of us ++ q) all_g.0 (same ∙ append_assoc u (texts_of us) q))
same_reading (t ∷ ts) [] (f ∷ fs) [] r q all_f all_g none_r none_q same = absurd (none_q t f (texts_of ts ++ r) all_f.0 (sym same ∙ append_assoc t (texts_of ts) r))
same_reading (t ∷ ts) (u ∷ us) (f ∷ fs) (g ∷ gs) r q all_f all_g none_r none_q same =
    let x = texts_of ts ++ r in
    let y = texts_of us ++ q in
    let both : t ++ x ≡ u ++ y = sym (append_assoc t (texts_of ts) r) ∙ same ∙ append_assoc u (texts_of us) q in
    let text : t ≡ u = first_text t u f g x y all_f.0 all_g.0 both in
    let first : f ≡ g = encoding_is_injective u f g (subst (λ (w : List ℕ). Encodes w f) text all_f.0) all_g.0 in
    let behind : x ≡ y = sym (drop_at t x (length t) refl) ∙ ap (drop (length t)) both ∙ drop_at u y (length t) (sym (ap length text)) in
    let later = same_reading ts us fs gs r q all_f.1 all_g.1 none_r none_q behind in
    ((λ i. first i ∷ later.0 i), later.1)

mended : (fault : FrameFault) → failed {A = Message} fault ≡ failed Truncated → IsLasting fault → ⊥
mended fault short lasting = truncated_mends (subst IsLasting (err_is {A = Message} fault Truncated short) lasting)

-- what shows a fault isn't shorter than what shows one
not_shorter : (a x b y : List ℕ) (e d : FrameFault) → ShowsFault a e → ShowsFault b d
    → a ++ x ≡ b ++ y → length b ≤ length a
not_shorter a x b y e d first second same =
    ⊎_elim (λ lt. absurd (mended e (sym first.read ∙ ap read_frame (sym (shorter a x b y same (omega (arith, lt)))) ∙ second.not_before (length a) lt) first.lasting)) (λ le. le) (lt_or_le (length a) (length b))

-- a stream has one list of frames and one rest
pub one_reading : (stream : List ℕ) (fs gs : List Message) (r q : List ℕ) → Splits stream fs r
    → Splits stream gs q → (fs ≡ gs) × (r ≡ q)
one_reading stream fs gs r q a b = same_reading a.texts b.texts fs gs r q a.each b.each (part_no_frame r a.part) (part_no_frame q b.part) (sym a.whole ∙ b.whole)

-- a part shows no fault
pub part_or_fault : (stream : List ℕ) (fs gs : List Message) (r : List ℕ) (fault : FrameFault)
    → Splits stream fs r → Fails stream gs fault → ⊥
part_or_fault stream fs gs r fault a b =
    let same = same_reading a.texts b.texts fs gs r (b.bad ++ b.later) a.each b.each (part_no_frame r a.part) (bad_no_frame b.bad b.later fault b.shown) (sym a.whole ∙ b.whole) in
    let n = length b.bad in
    let front : take n r ≡ b.bad = ap (take n) same.1 ∙ take_at b.bad b.later n refl in
    mended fault (sym b.shown.read ∙ ap read_frame (sym front) ∙ a.part n) b.shown.lasting

-- a stream has one fault, behind one list of frames
pub one_fault : (stream : List ℕ) (fs gs : List Message) (e d : FrameFault) → Fails stream fs e
    → Fails stream gs d → (fs ≡ gs) × (e ≡ d)
one_fault stream fs gs e d a b =
    let same = same_reading a.texts b.texts fs gs (a.bad ++ a.later) (b.bad ++ b.later) a.each b.each (bad_no_frame a.bad a.later e a.shown) (bad_no_frame b.bad b.later d b.shown) (sym a.whole ∙ b.whole) in
    let as_long : length b.bad ≤ length a.bad = not_shorter a.bad a.later b.bad b.later e d a.shown b.shown same.1 in
    let as_short : length a.bad ≤ length b.bad = not_shorter b.bad b.later a.bad a.later d e b.shown a.shown (sym same.1) in
    let bad : a.bad ≡ b.bad = sym (shorter a.bad a.later b.bad b.later same.1 as_short) ∙ take_all (length a.bad) b.bad as_long in
    (same.0, err_is {A = Message} e d (sym a.shown.read ∙ ap read_frame bad ∙ b.shown.read))
