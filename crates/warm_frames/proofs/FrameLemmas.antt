-- Messages: what is read is encoded so, and what is encoded so is read.
use Rattle.std.proofs.Common.{◌≡◌, ℕ, zero, suc, ◌+◌, ◌*◌, ◌^◌, ◌<◌, ◌≤◌, Bool, true, false, cond, eqb, leb, List, [], ◌∷◌, ◌++◌, length, Result, Ok, Err, refl, sym, ap, subst, ◌∙◌, append_assoc, arith}
use Rattle.std.specs.Int.{w16, w32, w64, to_be_bytes}
use Rattle.std.specs.List.{flat_map, AllByRecursion}
use Rattle.std.proofs.lemmas.Bool.{eqb-true}
use Rattle.std.proofs.lemmas.Bool.Decides.{nat_tests}
use Rattle.std.proofs.lemmas.List.{append-nil, nil_from_length, length-append}
use Rattle.warm_stamps.specs.Bytes.{IsReplica}
use Rattle.warm_stamps.proofs.ByteLemmas.{IsBytes}
use Rattle.warm_history.specs.Entry.{Entry}
use Rattle.warm_frames.specs.declared.format.Format.{Format}
use Rattle.warm_frames.specs.declared.format.Format.TheVariants.{Narrow, Wide}
use Rattle.warm_frames.specs.declared.layout.TheConstants.{MAGIC, NARROW_MAGIC, MAX_ENTRIES}
use Rattle.warm_frames.specs.declared.fault.FrameFault.{FrameFault}
use Rattle.warm_frames.specs.declared.fault.FrameFault.TheVariants.{Truncated, BadMagic, BadSender, BadLength}
use Rattle.warm_frames.specs.declared.message.Message.{Message}
use Rattle.warm_frames.specs.declared.message.Message.TheVariants as messages
use Rattle.warm_frames.specs.declared.reading.Kind.{Kind}
use Rattle.warm_frames.specs.declared.reading.Kind.TheVariants as kinds
use Rattle.warm_frames.specs.Entries.{entries_bytes_in}
use Rattle.warm_frames.specs.Encoding.{IsValidMessage, magic_of, horizon_bytes, encoding_in, CanHold, EncodesIn, Encodes}
use Rattle.warm_frames.specs.Reading.{◌>>=◌, number_at, byte_at, want, is_replica, kind_of, entry_size, may_have, Start, format_of, horizon_at, start_at, length_at, whole_body, body_at, read_entries, read_digests, message_by, read_message, read_frame}
use Rattle.warm_frames.proofs.FieldLemmas.{done, IsNarrowIn, bind_ok, want_ok, ok_is, Takes, Takes-then, byte_takes, wide16, wide32, wide64, number_takes, number_again, replica_is, replica_true}
use Rattle.warm_frames.proofs.BodyLemmas.{entries_body, body_again, short_entries, digests_body, digests_again, length-digests}

-- ---- the header

abbrev pub kind_number : Kind → ℕ
kind_number kinds.Entries = 1
kind_number kinds.Digest = 2
kind_number kinds.Want = 3

kind_takes : (n : ℕ) (kind : Kind) → kind_of n ≡ Ok kind → n ≡ kind_number kind
kind_takes zero kind e = absurd cc
kind_takes (suc zero) kind e = ap kind_number (ok_is kinds.Entries kind e)
kind_takes (suc (suc zero)) kind e = ap kind_number (ok_is kinds.Digest kind e)
kind_takes (suc (suc (suc zero))) kind e = ap kind_number (ok_is kinds.Want kind e)
kind_takes (suc (suc (suc (suc n)))) kind e = absurd cc

kind_again : (kind : Kind) → kind_of (kind_number kind) ≡ Ok kind
kind_again kinds.Entries = refl
kind_again kinds.Digest = refl
kind_again kinds.Want = refl

-- the number of the format's letters
format_takes : (n : ℕ) (format : Format) → format_of n ≡ Ok format → n ≡ magic_of format
format_takes n format e = cases (eqb n MAGIC) refl (eqb n NARROW_MAGIC) refl e
  where
    cases : (a : Bool) → eqb n MAGIC ≡ a → (b : Bool) → eqb n NARROW_MAGIC ≡ b
        → cond a (done Wide) (cond b (done Narrow) (Err BadMagic)) ≡ Ok format → n ≡ magic_of format
    cases true is_a b is_b is = eqb-true _ _ is_a ∙ ap magic_of (ok_is Wide format is)
    cases false is_a true is_b is = eqb-true _ _ is_b ∙ ap magic_of (ok_is Narrow format is)
    cases false is_a false is_b is = absurd cc

-- the format can hold the horizon
abbrev pub HoldsHorizon : Format → ℕ → Type 0
HoldsHorizon Narrow horizon = horizon ≡ 0
HoldsHorizon Wide horizon = Unit {0}

pub record TakesHorizon (format : Format) (bytes : List ℕ) (x : ℕ × List ℕ) : Type 0 where
  pub taken : Takes bytes (horizon_bytes format x.0) x.1
  pub few : x.0 < 2 ^ 64
  pub held : HoldsHorizon format x.0

horizon_takes : (format : Format) (bytes : List ℕ) (x : ℕ × List ℕ) → IsBytes bytes
    → horizon_at format bytes ≡ Ok x → TakesHorizon format bytes x
horizon_takes Narrow bytes x fits e = subst (TakesHorizon Narrow bytes) (ok_is (0, bytes) x e) (record { taken = record { parts = refl; rest_fits = fits }; few = omega arith; held = refl })
horizon_takes Wide bytes x fits e = let t = number_takes w64 (2 ^ 64) Truncated wide64 bytes x fits e in record { taken = t.0; few = t.1; held = tt }

-- the magic number, the kind, the sender and the horizon
abbrev pub start_bytes : Start → List ℕ
start_bytes s = to_be_bytes w32 (magic_of s.format) ++ (kind_number s.kind ∷ (to_be_bytes w16 s.sender ++ horizon_bytes s.format s.horizon))

pub record TakesStart (bytes : List ℕ) (x : Start × List ℕ) : Type 0 where
  pub taken : Takes bytes (start_bytes x.0) x.1
  pub sender : IsReplica x.0.sender
  pub few : x.0.horizon < 2 ^ 64
  pub held : HoldsHorizon x.0.format x.0.horizon

pub start_takes : (bytes : List ℕ) (x : Start × List ℕ) → IsBytes bytes → start_at bytes ≡ Ok x
    → TakesStart bytes x
unfolding start_at
start_takes bytes x fits e =
    let a = bind_ok (number_at w32 Truncated bytes) _ x e in
    let m = bind_ok (format_of a.0.0) _ x a.2 in
    let b = bind_ok (byte_at Truncated a.0.1) _ x m.2 in
    let d = bind_ok (kind_of b.0.0) _ x b.2 in
    let f = bind_ok (number_at w16 Truncated b.0.1) _ x d.2 in
    let good = want_ok (is_replica f.0.0) BadSender _ x f.2 in
    let h = bind_ok (horizon_at m.0 f.0.1) _ x good.1 in
    let t1 = number_takes w32 (2 ^ 32) Truncated wide32 bytes a.0 fits a.1 in
    let t2 = byte_takes Truncated a.0.1 b.0 t1.0.rest_fits b.1 in
    let t3 = number_takes w16 (2 ^ 16) Truncated wide16 b.0.1 f.0 t2.rest_fits f.1 in
    let t4 = horizon_takes m.0 f.0.1 h.0 t3.0.rest_fits h.1 in
    let letters : Takes bytes (to_be_bytes w32 (magic_of m.0)) a.0.1 = subst (λ (n : ℕ). Takes bytes (to_be_bytes w32 n) a.0.1) (format_takes a.0.0 m.0 m.1) t1.0 in
    let number : Takes a.0.1 (kind_number d.0 ∷ []) b.0.1 = subst (λ (n : ℕ). Takes a.0.1 (n ∷ []) b.0.1) (kind_takes b.0.0 d.0 d.1) t2 in
    let last : Takes b.0.1 (to_be_bytes w16 f.0.0 ++ horizon_bytes m.0 h.0.0) h.0.1 = Takes-then b.0.1 (to_be_bytes w16 f.0.0) f.0.1 (horizon_bytes m.0 h.0.0) h.0.1 t3.0 t4.taken in
    let later : Takes a.0.1 (kind_number d.0 ∷ (to_be_bytes w16 f.0.0 ++ horizon_bytes m.0 h.0.0)) h.0.1 = Takes-then a.0.1 (kind_number d.0 ∷ []) b.0.1 (to_be_bytes w16 f.0.0 ++ horizon_bytes m.0 h.0.0) h.0.1 number last in
    let start : Start = record { format = m.0; kind = d.0; sender = f.0.0; horizon = h.0.0 } in
    let whole : Takes bytes (start_bytes start) h.0.1 = Takes-then bytes (to_be_bytes w32 (magic_of m.0)) a.0.1 (kind_number d.0 ∷ (to_be_bytes w16 f.0.0 ++ horizon_bytes m.0 h.0.0)) h.0.1 letters later in
    let made : Start × List ℕ = (start, h.0.1) in
    subst (TakesStart bytes) (ok_is made x h.2) (record { taken = whole; sender = replica_is f.0.0 good.0; few = t4.few; held = t4.held })

pub start_again : (format : Format) (kind : Kind) (sender horizon : ℕ) (rest : List ℕ)
    → IsReplica sender → horizon < 2 ^ 64 → HoldsHorizon format horizon
    → (let s : Start = record { format = format; kind = kind; sender = sender; horizon = horizon }
    in start_at (start_bytes s ++ rest) ≡ Ok (s, rest))
unfolding start_at
start_again Narrow kind sender horizon rest good few none =
    let letters = number_again w32 (2 ^ 32) Truncated wide32 NARROW_MAGIC (kind_number kind ∷ (to_be_bytes w16 sender ++ rest)) (omega arith) in
    rw (letters, kind_again kind, number_again w16 (2 ^ 16) Truncated wide16 sender rest (omega (arith, good)), replica_true sender good)
    (ap (λ (h : ℕ). Ok (record { format = Narrow; kind = kind; sender = sender; horizon = h }, rest)) (sym none))
start_again Wide kind sender horizon rest good few none =
    let letters = number_again w32 (2 ^ 32) Truncated wide32 MAGIC (kind_number kind ∷ (to_be_bytes w16 sender ++ (to_be_bytes w64 horizon ++ rest))) (omega arith) in
    rw (letters, kind_again kind, number_again w16 (2 ^ 16) Truncated wide16 sender (to_be_bytes w64 horizon ++ rest) (omega (arith, good)), replica_true sender good, number_again w64 (2 ^ 64) Truncated wide64 horizon rest few) refl

-- ---- the length and the body

-- a length that was read is valid for the kind
pub length_ok : (format : Format) (kind : Kind) (bytes : List ℕ) (x : ℕ × List ℕ)
    → length_at format kind bytes ≡ Ok x
    → (number_at w32 Truncated bytes ≡ Ok x) × (may_have format kind x.0 ≡ true)
unfolding length_at
length_ok format kind bytes x e =
    let a = bind_ok (number_at w32 Truncated bytes) (λ len. want (may_have format kind len.0) BadLength >>= λ allowed. Ok len) x e in
    let g = want_ok (may_have format kind a.0.0) BadLength (λ allowed. Ok a.0) x a.2 in
    subst (λ (y : ℕ × List ℕ). (number_at w32 Truncated bytes ≡ Ok y) × (may_have format kind y.0 ≡ true)) (ok_is a.0 x g.1) (a.1, g.0)

pub length_again : (format : Format) (kind : Kind) (len : ℕ) (rest : List ℕ) → len < 2 ^ 32
    → may_have format kind len ≡ true
    → length_at format kind (to_be_bytes w32 len ++ rest) ≡ Ok (len, rest)
unfolding length_at
length_again format kind len rest few allowed = rw (number_again w32 (2 ^ 32) Truncated wide32 len rest few, allowed) refl

-- what is left of a whole body is as long as was said
pub whole_ok : (len : ℕ) (rest body : List ℕ) → whole_body len rest ≡ Ok body
    → (len ≡ length rest) × (rest ≡ body)
whole_ok len rest body e =
    let g1 = want_ok (leb len (length rest)) Truncated (λ enough. want (leb (length rest) len) BadLength >>= λ exact. Ok rest) body e in
    let g2 = want_ok (leb (length rest) len) BadLength (λ exact. Ok rest) body g1.1 in
    (grind (arith, nat_tests, g1.0, g2.0), ok_is rest body g2.1)

pub record TakesBody (format : Format) (kind : Kind) (bytes body : List ℕ) : Type 0 where
  pub text : bytes ≡ to_be_bytes w32 (length body) ++ body
  pub fits : IsBytes body
  pub allowed : may_have format kind (length body) ≡ true

pub body_takes : (format : Format) (kind : Kind) (bytes body : List ℕ) → IsBytes bytes
    → body_at format kind bytes ≡ Ok body → TakesBody format kind bytes body
unfolding body_at
body_takes format kind bytes body fits e =
    let a = bind_ok (length_at format kind bytes) (λ len. whole_body len.0 len.1) body e in
    let l = length_ok format kind bytes a.0 a.1 in
    let w = whole_ok a.0.0 a.0.1 body a.2 in
    let t = number_takes w32 (2 ^ 32) Truncated wide32 bytes a.0 fits l.0 in
    subst (TakesBody format kind bytes) w.1 (record {
      text = t.0.parts ∙ ap (λ (n : ℕ). to_be_bytes w32 n ++ a.0.1) w.0;
      fits = t.0.rest_fits;
      allowed = subst (λ (n : ℕ). may_have format kind n ≡ true) w.0 l.1;
    })

-- a body is read if nothing follows it
pub body_read : (format : Format) (kind : Kind) (body rest found : List ℕ) → length body < 2 ^ 32
    → may_have format kind (length body) ≡ true
    → body_at format kind (to_be_bytes w32 (length body) ++ (body ++ rest)) ≡ Ok found → rest ≡ []
unfolding body_at
body_read format kind body rest found few allowed e =
    let read = ap (λ (r : Result (ℕ × List ℕ) FrameFault). r >>= λ len. whole_body len.0 len.1) (length_again format kind (length body) (body ++ rest) few allowed) in
    let w = whole_ok (length body) (body ++ rest) found (sym read ∙ e) in
    nil_from_length rest (omega (arith, w.0, length-append body rest))

pub body_at_again : (format : Format) (kind : Kind) (body : List ℕ) → length body < 2 ^ 32
    → may_have format kind (length body) ≡ true
    → body_at format kind (to_be_bytes w32 (length body) ++ body) ≡ Ok body
unfolding body_at
body_at_again format kind body few allowed =
    let reflexive : leb (length body) (length body) ≡ true = grind (arith, nat_tests) in
    rw (length_again format kind (length body) body few allowed, reflexive) refl

-- ---- bodies by kind

abbrev pub frame_kind : Message → Kind
frame_kind (messages.Entries sender horizon entries) = kinds.Entries
frame_kind (messages.Digest sender horizon digests) = kinds.Digest
frame_kind (messages.Want sender horizon request) = kinds.Want

abbrev pub frame_sender : Message → ℕ
frame_sender (messages.Entries sender horizon entries) = sender
frame_sender (messages.Digest sender horizon digests) = sender
frame_sender (messages.Want sender horizon request) = sender

abbrev pub frame_horizon : Message → ℕ
frame_horizon (messages.Entries sender horizon entries) = horizon
frame_horizon (messages.Digest sender horizon digests) = horizon
frame_horizon (messages.Want sender horizon request) = horizon

abbrev pub frame_body : Format → Message → List ℕ
frame_body format (messages.Entries sender horizon entries) = to_be_bytes w32 (length entries) ++ entries_bytes_in format entries
frame_body format (messages.Digest sender horizon digests) = flat_map (λ x. x) digests
frame_body format (messages.Want sender horizon request) = to_be_bytes w64 request

abbrev pub start_of : Format → Message → Start
start_of format f = record { format = format; kind = frame_kind f; sender = frame_sender f; horizon = frame_horizon f }

encoding_parts : (format : Format) (f : Message)
    → encoding_in format f
    ≡ start_bytes (start_of format f)
    ++ (to_be_bytes w32 (length (frame_body format f)) ++ frame_body format f)
encoding_parts Narrow (messages.Entries sender horizon entries) = refl
encoding_parts Narrow (messages.Digest sender horizon digests) = refl
encoding_parts Narrow (messages.Want sender horizon request) = refl
encoding_parts Wide (messages.Entries sender horizon entries) = refl
encoding_parts Wide (messages.Digest sender horizon digests) = refl
encoding_parts Wide (messages.Want sender horizon request) = refl

-- what the format says of the horizon and the pages says that it can hold the frame
holds_entries : (format : Format) (sender horizon : ℕ) (es : List Entry)
    → HoldsHorizon format horizon → AllByRecursion (λ e. IsNarrowIn format e.page) es
    → CanHold format (messages.Entries sender horizon es)
holds_entries Narrow sender horizon es none narrow = (none, narrow)
holds_entries Wide sender horizon es none narrow = tt

holds_digest : (format : Format) (sender horizon : ℕ) (digests : List (List ℕ))
    → HoldsHorizon format horizon → CanHold format (messages.Digest sender horizon digests)
holds_digest Narrow sender horizon digests none = none
holds_digest Wide sender horizon digests none = tt

holds_want : (format : Format) (sender horizon request : ℕ) → HoldsHorizon format horizon
    → CanHold format (messages.Want sender horizon request)
holds_want Narrow sender horizon request none = none
holds_want Wide sender horizon request none = tt

held_horizon : (format : Format) (f : Message) → CanHold format f
    → HoldsHorizon format (frame_horizon f)
held_horizon Narrow (messages.Entries sender horizon entries) holds = holds.0
held_horizon Narrow (messages.Digest sender horizon digests) holds = holds
held_horizon Narrow (messages.Want sender horizon request) holds = holds
held_horizon Wide f holds = tt

wide_all : (es : List Entry) → AllByRecursion (λ e. IsNarrowIn Wide e.page) es
wide_all [] = tt
wide_all (e ∷ es) = (tt, wide_all es)

held_pages : (format : Format) (sender horizon : ℕ) (es : List Entry)
    → CanHold format (messages.Entries sender horizon es)
    → AllByRecursion (λ e. IsNarrowIn format e.page) es
held_pages Narrow sender horizon es holds = holds.1
held_pages Wide sender horizon es holds = wide_all es

-- a reader of bodies returns a frame of this kind, sender, horizon and body
pub record IsFrameOf (start : Start) (body : List ℕ) (f : Message) : Type 0 where
  pub start_is : start_of start.format f ≡ start
  pub body_is : body ≡ frame_body start.format f
  pub fits : IsReplica start.sender → start.horizon < 2 ^ 64 → IsValidMessage f
  pub holds : HoldsHorizon start.format start.horizon → CanHold start.format f

frame_takes : (kind : Kind) (format : Format) (sender horizon : ℕ) (body : List ℕ) (f : Message)
    → IsBytes body → may_have format kind (length body) ≡ true
    → message_by kind format sender horizon body ≡ Ok f
    → IsFrameOf (record { format = format; kind = kind; sender = sender; horizon = horizon }) body f
frame_takes kinds.Entries format sender horizon body f fits allowed e =
    let a = bind_ok (read_entries format body) (λ entries. Ok (messages.Entries sender horizon entries)) f e in
    let t = entries_body format body a.0 fits a.1 in
    subst (IsFrameOf (record { format = format; kind = kinds.Entries; sender = sender; horizon = horizon }) body) (ok_is (messages.Entries sender horizon a.0) f a.2) (record { start_is = refl; body_is = t.text; fits = λ good few. (good, few, t.listed); holds = λ none. holds_entries format sender horizon a.0 none t.narrow })
frame_takes kinds.Digest format sender horizon body f fits allowed e =
    let a = bind_ok (read_digests body) (λ digests. Ok (messages.Digest sender horizon digests)) f e in
    let t = digests_body body a.0 a.1 in
    subst (IsFrameOf (record { format = format; kind = kinds.Digest; sender = sender; horizon = horizon }) body) (ok_is (messages.Digest sender horizon a.0) f a.2) (record { start_is = refl; body_is = t.text; fits = λ good few. (good, few, t.table); holds = λ none. holds_digest format sender horizon a.0 none })
frame_takes kinds.Want format sender horizon body f fits allowed e =
    let a = bind_ok (number_at w64 BadLength body) (λ request. Ok (messages.Want sender horizon request.0)) f e in
    let t = number_takes w64 (2 ^ 64) BadLength wide64 body a.0 fits a.1 in
    let eight : length body ≡ 8 = eqb-true _ _ allowed in
    let nothing : a.0.1 ≡ [] = nil_from_length a.0.1 (omega (arith, eight, ap length t.0.parts, length-append (to_be_bytes w64 a.0.0) a.0.1)) in
    let text : body ≡ to_be_bytes w64 a.0.0 = t.0.parts ∙ ap (λ (r : List ℕ). to_be_bytes w64 a.0.0 ++ r) nothing ∙ append-nil (to_be_bytes w64 a.0.0) in
    subst (IsFrameOf (record { format = format; kind = kinds.Want; sender = sender; horizon = horizon }) body) (ok_is (messages.Want sender horizon a.0.0) f a.2) (record { start_is = refl; body_is = text; fits = λ good few. (good, few, t.1); holds = λ none. holds_want format sender horizon a.0.0 none })

frame_again : (format : Format) (f : Message) → IsValidMessage f → CanHold format f
    → message_by (frame_kind f) format (frame_sender f) (frame_horizon f) (frame_body format f)
    ≡ Ok f
frame_again format (messages.Entries sender horizon entries) fits holds = rw (body_again format entries fits.2 (held_pages format sender horizon entries holds)) refl
frame_again format (messages.Digest sender horizon digests) fits holds = rw (digests_again digests fits.2) refl
frame_again format (messages.Want sender horizon request) fits holds =
    let whole : number_at w64 BadLength (to_be_bytes w64 request) ≡ Ok (request, []) = ap (number_at w64 BadLength) (sym (append-nil (to_be_bytes w64 request))) ∙ number_again w64 (2 ^ 64) BadLength wide64 request [] fits.2 in
    ap (λ (r : Result (ℕ × List ℕ) FrameFault). r >>= λ m. Ok (messages.Want sender horizon m.0)) whole

good_sender : (f : Message) → IsValidMessage f
    → IsReplica (frame_sender f) × (frame_horizon f < 2 ^ 64)
good_sender (messages.Entries sender horizon entries) fits = (fits.0, fits.1)
good_sender (messages.Digest sender horizon digests) fits = (fits.0, fits.1)
good_sender (messages.Want sender horizon request) fits = (fits.0, fits.1)

-- the length of a frame's body is valid for its kind
pub record HasLength (format : Format) (f : Message) : Type 0 where
  pub few : length (frame_body format f) < 2 ^ 32
  pub allowed : may_have format (frame_kind f) (length (frame_body format f)) ≡ true

most_size : (format : Format) → entry_size format ≤ 31
most_size Narrow = omega arith
most_size Wide = omega arith

pub body_length : (format : Format) (f : Message) → IsValidMessage f → HasLength format f
body_length Narrow (messages.Entries sender horizon entries) fits =
    let listed = fits.2.at_most in
    let whole : length (to_be_bytes w32 (length entries) ++ entries_bytes_in Narrow entries) ≡ 4 + length (entries_bytes_in Narrow entries) = length-append (to_be_bytes w32 (length entries)) (entries_bytes_in Narrow entries) in
    let short : length (entries_bytes_in Narrow entries) ≤ 27 * length entries = short_entries Narrow entries in
    let least : 4 ≤ length (to_be_bytes w32 (length entries) ++ entries_bytes_in Narrow entries) = omega arith in
    let most : length (to_be_bytes w32 (length entries) ++ entries_bytes_in Narrow entries) ≤ 4 + 27 * MAX_ENTRIES = omega arith in
    record { few = omega arith; allowed = grind (arith, nat_tests, least, most) }
body_length Wide (messages.Entries sender horizon entries) fits =
    let listed = fits.2.at_most in
    let whole : length (to_be_bytes w32 (length entries) ++ entries_bytes_in Wide entries) ≡ 4 + length (entries_bytes_in Wide entries) = length-append (to_be_bytes w32 (length entries)) (entries_bytes_in Wide entries) in
    let short : length (entries_bytes_in Wide entries) ≤ 31 * length entries = short_entries Wide entries in
    let least : 4 ≤ length (to_be_bytes w32 (length entries) ++ entries_bytes_in Wide entries) = omega arith in
    let most : length (to_be_bytes w32 (length entries) ++ entries_bytes_in Wide entries) ≤ 4 + 31 * MAX_ENTRIES = omega arith in
    record { few = omega arith; allowed = grind (arith, nat_tests, least, most) }
body_length format (messages.Digest sender horizon digests) fits =
    let len = length-digests digests fits.2 in
    record { few = omega (arith, len); allowed = rw len refl }
body_length format (messages.Want sender horizon request) fits = record { few = omega arith; allowed = refl }

-- ---- whole frames

-- what is read is encoded so
pub frame_encodes : (bytes : List ℕ) (f : Message) → IsBytes bytes → read_frame bytes ≡ Ok f
    → Encodes bytes f
unfolding read_frame read_message
frame_encodes bytes f fits e =
    let a = bind_ok (start_at bytes) _ f e in
    let start = a.0.0 in
    let b = bind_ok (body_at start.format start.kind a.0.1) _ f a.2 in
    let t1 = start_takes bytes a.0 fits a.1 in
    let t2 = body_takes start.format start.kind a.0.1 b.0 t1.taken.rest_fits b.1 in
    let t3 = frame_takes start.kind start.format start.sender start.horizon b.0 f t2.fits t2.allowed b.2 in
    let body = frame_body start.format f in (
      start.format,
      record {
        fits = t3.fits t1.sender t1.few;
        holds = t3.holds t1.held;
        text = t1.taken.parts ∙ ap (λ (w : List ℕ). start_bytes start ++ w) (t2.text ∙ ap (λ (w : List ℕ). to_be_bytes w32 (length w) ++ w) t3.body_is)
            ∙ ap (λ (s : Start). start_bytes s ++ (to_be_bytes w32 (length body) ++ body)) (sym t3.start_is) ∙ sym (encoding_parts start.format f);
      },
    )

-- what is encoded so is read
pub encoded_read : (format : Format) (bytes : List ℕ) (f : Message) → EncodesIn format bytes f
    → read_frame bytes ≡ Ok f
unfolding read_frame read_message
encoded_read format bytes f encodes =
    let len = body_length format f encodes.fits in
    let good = good_sender f encodes.fits in
    let body = frame_body format f in
    ap read_frame (encodes.text ∙ encoding_parts format f)
    ∙ rw (start_again format (frame_kind f) (frame_sender f) (frame_horizon f) (to_be_bytes w32 (length body) ++ body) good.0 good.1 (held_horizon format f encodes.holds), body_at_again format (frame_kind f) body len.few len.allowed, frame_again format f encodes.fits encodes.holds) refl

pub frame_read : (bytes : List ℕ) (f : Message) → Encodes bytes f → read_frame bytes ≡ Ok f
frame_read bytes f encodes = encoded_read encodes.0 bytes f encodes.1

-- ---- the laws of the encoding

pub encoding_is_injective : (bytes : List ℕ) (f g : Message) → Encodes bytes f → Encodes bytes g
    → f ≡ g
encoding_is_injective bytes f g first second = ok_is f g (sym (frame_read bytes f first) ∙ frame_read bytes g second)

-- if an encoding is followed by more, no message is encoded
pub prefix_free : (text rest : List ℕ) (f g : Message) → Encodes text f → Encodes (text ++ rest) g
    → rest ≡ []
unfolding read_frame
prefix_free text rest f g first second =
    let format = first.0 in
    let start = start_of format f in
    let kind = frame_kind f in
    let body = frame_body format f in
    let len = body_length format f first.1.fits in
    let good = good_sender f first.1.fits in
    let after = to_be_bytes w32 (length body) ++ (body ++ rest) in
    let regrouped : text ++ rest ≡ start_bytes start ++ after = ap (λ (w : List ℕ). w ++ rest) (first.1.text ∙ encoding_parts format f) ∙ append_assoc (start_bytes start) (to_be_bytes w32 (length body) ++ body) rest ∙ ap (λ (w : List ℕ). start_bytes start ++ w) (append_assoc (to_be_bytes w32 (length body)) body rest) in
    let read : read_frame (start_bytes start ++ after) ≡ Ok g = ap read_frame (sym regrouped) ∙ frame_read (text ++ rest) g second in
    let a = bind_ok (start_at (start_bytes start ++ after)) _ g read in
    let is : (start, after) ≡ a.0 = ok_is (start, after) a.0 (sym (start_again format kind (frame_sender f) (frame_horizon f) after good.0 good.1 (held_horizon format f first.1.holds)) ∙ a.1) in
    let b = bind_ok (body_at a.0.0.format a.0.0.kind a.0.1) _ g a.2 in
    body_read format kind body rest b.0 len.few len.allowed (subst (λ (x : Start × List ℕ). body_at x.0.format x.0.kind x.1 ≡ Ok b.0) (sym is) b.1)
