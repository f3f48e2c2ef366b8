-- What was read of a dump, frame by frame.
use Rattle.std.proofs.Common.{◌≡◌, ◌≢◌, ◌⊎◌, inl, inr, ℕ, zero, suc, ◌+◌, ◌<◌, ◌≤◌, true, false, max, List, [], ◌∷◌, ◌++◌, length, take, drop, Option, Some, None, Result, Ok, Err, refl, sym, ap, subst, ◌∙◌, append_assoc, append-nil, arith}
use Rattle.std.specs.Prelude.{IsErrAnd, IfErr}
use Rattle.std.proofs.lemmas.List.Concat.{flat_map-append}
use Rattle.std.proofs.lemmas.List.{take_all, take-append-drop, length-append, length-take}
use Rattle.std.proofs.Math.Nat.{max_comm, max-eq_left}
use Rattle.warm_stamps.proofs.DistinctLemmas.{all_append}
use Rattle.warm_history.specs.Entry.{Entry}
use Rattle.warm_history.specs.ReferenceSets.{ReferenceSet, set_of_list, with_horizon, ◌∪◌}
use Rattle.warm_history.specs.Histories.{HistoryView, entries_of, references_of_entries, history, history_of_entries_at, references_of, StandsFor, TakesIn}
use Rattle.warm_history.specs.Losses.{raised}
use Rattle.warm_history.proofs.HistoryLemmas.{horizon-history}
use Rattle.warm_history.proofs.JoinLemmas.{history_first}
use Rattle.warm_frames.specs.declared.decoder.Fed.{Fed}
use Rattle.warm_frames.specs.declared.fault.FrameFault.{FrameFault}
use Rattle.warm_frames.specs.declared.fault.FrameFault.TheVariants as frame_faults
use Rattle.warm_frames.specs.declared.message.Message.{Message}
use Rattle.warm_frames.specs.declared.message.Message.TheVariants.{Entries, Digest, Want}
use Rattle.warm_frames.specs.Pieces.{DecoderState, Inside, IsIncomplete, Breaks, FeedStep, EncodeAll, texts_of}
use Rattle.warm_frames.specs.Pieces.{TakesPiece}
use Rattle.warm_frames.specs.Reading.{read_frame}
use Rattle.warm_frames.specs.Encoding.{Encodes}
use Rattle.warm_frames.proofs.FrameLemmas.{frame_read}
use Rattle.warm_frames.proofs.SizeLemmas.{no_ok}
use Rattle.warm_frames.proofs.StreamLemmas.{nothing_is_part}
use Rattle.warm_digest.specs.BucketDigests.{digests_of}
use Rattle.warm_dump.specs.declared.fault.DumpFault.{DumpFault}
use Rattle.warm_dump.specs.declared.fault.DumpFault.TheVariants.{Frame, CutShort, DigestsDiffer, HorizonsDiffer, MoreFollows}
use Rattle.warm_dump.specs.declared.reading.DumpReader.{DumpReader}
use Rattle.warm_dump.proofs.BuilderLemmas.{references_of_entries-append}
use Rattle.warm_dump.specs.Progress.{Agrees, AreAt, references_brought, HasBegun, HasRead, TakesMessage, Rejects}
use Rattle.warm_dump.specs.Progress.{IsRefusedForGood}
use Rattle.warm_dump.specs.Reading.{IsEntriesAt, AreEntriesAt, IsPartAt, brought, entries_brought, references_in, history_of_messages, Begins, IsDump, EndsWithDigests, EndsAt, ShowsFrameFault, IsDumpRefused}

-- ---- texts one after the other

one_text : (ts : List (List ℕ)) (t : List ℕ) → texts_of (ts ++ t ∷ []) ≡ texts_of ts ++ t
one_text [] t = append-nil t
one_text (u ∷ us) t = ap (λ (w : List ℕ). u ++ w) (one_text us t) ∙ sym (append_assoc u (texts_of us) t)

one_encoded : (ts : List (List ℕ)) (t : List ℕ) (fs : List Message) (f : Message) → EncodeAll ts fs
    → Encodes t f → EncodeAll (ts ++ t ∷ []) (fs ++ f ∷ [])
one_encoded [] t [] f all this = (this, tt)
one_encoded [] t (g ∷ gs) f all this = absurd all
one_encoded (u ∷ us) t [] f all this = absurd all
one_encoded (u ∷ us) t (g ∷ gs) f all this = (all.0, one_encoded us t gs f all.1 this)

-- a frame more
pub begins_more : (seen begun front later : List ℕ) (messages : List Message) (f : Message)
    → Begins seen messages begun → Encodes (begun ++ front) f
    → Begins (seen ++ (front ++ later)) (messages ++ f ∷ []) later
begins_more seen begun front later messages f b encodes =
    let T = texts_of b.texts in
    record {
      texts = b.texts ++ (begun ++ front) ∷ [];
      whole = ap (λ (w : List ℕ). w ++ (front ++ later)) b.whole ∙ append_assoc T begun (front ++ later)
          ∙ ap (λ (w : List ℕ). T ++ w) (sym (append_assoc begun front later)) ∙ sym (append_assoc T (begun ++ front) later)
          ∙ ap (λ (w : List ℕ). w ++ later) (sym (one_text b.texts (begun ++ front)));
      each = one_encoded b.texts (begun ++ front) messages f b.each encodes;
    }

-- what a piece of which n bytes were taken leaves, and what follows it
cut : (n : ℕ) (seen piece later : List ℕ)
    → seen ++ (take n piece ++ (drop n piece ++ later)) ≡ (seen ++ piece) ++ later
cut n seen piece later =
    ap (λ (w : List ℕ). seen ++ w) (sym (append_assoc (take n piece) (drop n piece) later) ∙ ap (λ (w : List ℕ). w ++ later) (take-append-drop n piece))
    ∙ sym (append_assoc seen piece later)

-- ---- what frames hold

held_more : (messages : List Message) (f : Message)
    → references_of_entries (entries_brought (messages ++ f ∷ []))
    ≡ references_of_entries (entries_brought messages) ++ references_of_entries (brought f)
held_more messages f =
    ap references_of_entries (flat_map-append brought messages (f ∷ []) ∙ ap (λ (es : List Entry). entries_brought messages ++ es) (append-nil (brought f)))
    ∙ references_of_entries-append (entries_brought messages) (brought f)

above_zero : (n : ℕ) → max 0 n ≡ n
above_zero n = max_comm 0 n ∙ max-eq_left (omega arith)

same_max : (k n : ℕ) → k ≡ n → max k n ≡ n
same_max k n e = ap (λ m. max m n) e ∙ max-eq_left (omega arith)

-- the references of the frames, and then those of a frame with their horizon
references_more : (known : Option ℕ) (horizon sender : ℕ) (es : List Entry)
    (messages : List Message) → AreAt known messages → Agrees known horizon
    → references_brought known messages ∪ references_of (history_of_entries_at horizon es)
    ≡ references_in horizon (messages ++ Entries sender horizon es ∷ [])
references_more None horizon sender es messages none agrees =
    let same_references : references_of_entries es ≡ references_of_entries (entries_brought (messages ++ Entries sender horizon es ∷ [])) =
    sym (ap (λ (fs : List Message). references_of_entries (entries_brought (fs ++ Entries sender horizon es ∷ []))) none ∙ held_more [] (Entries sender horizon es)) in
    λ i. record { horizon = above_zero horizon i; given = same_references i }
references_more (Some known) horizon sender es messages some agrees =
    let same_references = sym (held_more messages (Entries sender horizon es)) in
    λ i. record { horizon = same_max known horizon agrees i; given = same_references i }

-- and those of the digests, which hold none
references_closed : (known : Option ℕ) (horizon : ℕ) (messages : List Message)
    → AreAt known messages → Agrees known horizon
    → with_horizon horizon (references_brought known messages) ≡ references_in horizon messages
references_closed None horizon messages none agrees =
    let same_references : [] ≡ references_of_entries (entries_brought messages) = ap (λ (fs : List Message). references_of_entries (entries_brought fs)) (sym none) in
    λ i. record { horizon = above_zero horizon i; given = same_references i }
references_closed (Some known) horizon messages some agrees =
    let same_references = append-nil (references_of_entries (entries_brought messages)) in
    λ i. record { horizon = same_max known horizon agrees i; given = same_references i }

some_at : (known : Option ℕ) (horizon : ℕ) (messages : List Message) → AreAt known messages
    → Agrees known horizon → AreEntriesAt horizon messages
some_at None horizon messages none agrees = subst (AreEntriesAt horizon) (sym none) tt
some_at (Some known) horizon messages some agrees = subst (λ m. AreEntriesAt m messages) agrees some.1

all_at : (known : Option ℕ) (messages : List Message) → AreAt known messages
    → (horizon : ℕ) × AreEntriesAt horizon messages
all_at None messages none = (0, some_at None 0 messages none tt)
all_at (Some known) messages some = (known, some.1)

-- ---- where the frames end

-- the frames of what was read end there too with more behind it
ends_before : (seen more : List ℕ) (old : DumpReader) (g : HasBegun seen old)
    → EndsAt (seen ++ more) g.messages old.frame_start
ends_before seen more old g =
    let T = texts_of g.front.texts in (
      g.begun ++ more,
      record { texts = g.front.texts; whole = ap (λ (w : List ℕ). w ++ more) g.front.whole ∙ append_assoc T g.begun more; each = g.front.each },
      omega (arith, length-append g.begun more, length-append seen more, g.frame_start),
    )

ends_in : (seen piece later : List ℕ) (old : DumpReader) (g : HasBegun seen old)
    → EndsAt ((seen ++ piece) ++ later) g.messages old.frame_start
ends_in seen piece later old g = subst (λ (w : List ℕ). EndsAt w g.messages old.frame_start) (sym (append_assoc seen piece later)) (ends_before seen (piece ++ later) old g)

-- the bytes that were taken are counted
counted : (seen piece : List ℕ) (n a b : ℕ) → a ≡ length seen → b ≡ a + n → n ≤ length piece
    → b ≡ length (seen ++ take n piece)
counted seen piece n a b before more few = omega (arith, before, more, few, length-append seen (take n piece), length-take n piece)

-- ---- nothing was read

pub nothing_read : (g : DumpReader) → g.complete ≡ false → g.decoder ≡ Inside [] → g.horizon ≡ None
    → StandsFor g.history (set_of_list []) → g.bytes_read ≡ 0 → g.frame_start ≡ 0 → HasRead [] g
nothing_read g unclosed inside none stands seen at = inr (
  unclosed,
  record {
    messages = [];
    begun = [];
    front = record { texts = []; whole = refl; each = tt };
    part = nothing_is_part;
    held = inside;
    horizon = subst (λ (o : Option ℕ). AreAt o []) (sym none) refl;
    stands = subst (λ (o : Option ℕ). StandsFor g.history (references_brought o [])) (sym none)
        stands;
    bytes_read = seen;
    frame_start = omega (arith, at);
  },
)

-- ---- a piece

is_open : (seen : List ℕ) (g : DumpReader) → g.complete ≡ false → HasRead seen g → HasBegun seen g
is_open seen g unclosed (inl x) = (let never : true ≡ false = sym x.0 ∙ unclosed in absurd (cc))
is_open seen g unclosed (inr x) = x.1

pub open_read : (seen : List ℕ) (g : DumpReader) → g.complete ≡ false → HasRead seen g
    → HasBegun seen g
open_read = is_open

inside_is : (b c : List ℕ) → Inside b ≡ Inside c → b ≡ c
inside_is b c e = cc

-- all of it is a part of the frame that has begun
pub took_part : (seen piece : List ℕ) (n : ℕ) (old new : DumpReader) → HasBegun seen old
    → n ≡ length piece → ((begun : List ℕ) → old.decoder ≡ Inside begun
    → IsIncomplete (begun ++ piece) × (new.decoder ≡ Inside (begun ++ piece)))
    → new.history ≡ old.history → new.horizon ≡ old.horizon → new.complete ≡ false
    → new.bytes_read ≡ old.bytes_read + n → new.frame_start ≡ old.frame_start
    → HasRead (seen ++ take n piece) new
took_part seen piece n old new g all feeds history horizon unclosed more same =
    let whole : new.bytes_read ≡ length (seen ++ take n piece) = counted seen piece n old.bytes_read new.bytes_read g.bytes_read more (omega (arith, all)) in
    let next = feeds g.begun g.held in
    let T = texts_of g.front.texts in
    inr (
      unclosed,
      record {
        messages = g.messages;
        begun = g.begun ++ piece;
        front = record {
          texts = g.front.texts;
          whole = ap (λ (w : List ℕ). seen ++ w) (take_all n piece (omega (arith, all))) ∙ ap (λ (w : List ℕ). w ++ piece) g.front.whole ∙ append_assoc T g.begun piece;
          each = g.front.each;
        };
        part = next.0;
        held = next.1;
        horizon = subst (λ (o : Option ℕ). AreAt o g.messages) (sym horizon) g.horizon;
        stands = subst (λ (o : Option ℕ). StandsFor new.history (references_brought o g.messages)) (sym horizon) (history ∙ g.stands);
        bytes_read = whole;
        frame_start = omega (arith, whole, more, same, g.bytes_read, g.frame_start, all, length-append g.begun piece);
      },
    )

-- ---- a frame

taken_text : (seen piece : List ℕ) (n : ℕ) → seen ++ (take n piece ++ []) ≡ seen ++ take n piece
taken_text seen piece n = ap (λ (w : List ℕ). seen ++ w) (append-nil (take n piece))

-- of entries
took_entries : (seen piece : List ℕ) (n sender horizon : ℕ) (es : List Entry) (old new : DumpReader)
    (g : HasBegun seen old) → Encodes (g.begun ++ take n piece) (Entries sender horizon es)
    → new.decoder ≡ Inside []
    → Agrees old.horizon horizon → new.horizon ≡ Some horizon
    → TakesIn old.history (references_of (history_of_entries_at horizon es)) new.history
    → new.complete ≡ false
    → new.bytes_read ≡ length (seen ++ take n piece)
    → new.frame_start ≡ length (seen ++ take n piece) → HasRead (seen ++ take n piece) new
took_entries seen piece n sender horizon es old new g encodes inside agrees known takes unclosed all here =
    let messages = g.messages ++ Entries sender horizon es ∷ [] in
    let at : AreEntriesAt horizon messages = all_append (IsEntriesAt horizon) g.messages (Entries sender horizon es ∷ []) (some_at old.horizon horizon g.messages g.horizon agrees) (refl, tt) in
    let some : 0 < length messages = omega (arith, length-append g.messages (Entries sender horizon es ∷ [])) in
    let stands : StandsFor new.history (references_in horizon messages) =
    takes (references_brought old.horizon g.messages) g.stands ∙ ap history (references_more old.horizon horizon sender es g.messages g.horizon agrees) in
    inr (
      unclosed,
      record {
        messages = messages;
        begun = [];
        front = subst (λ (w : List ℕ). Begins w messages []) (taken_text seen piece n) (begins_more seen g.begun (take n piece) [] g.messages (Entries sender horizon es) g.front encodes);
        part = nothing_is_part;
        held = inside;
        horizon = subst (λ (o : Option ℕ). AreAt o messages) (sym known) (some, at);
        stands = subst (λ (o : Option ℕ). StandsFor new.history (references_brought o messages)) (sym known) stands;
        bytes_read = all;
        frame_start = omega (arith, here);
      },
    )

-- of digests
took_digests : (seen piece : List ℕ) (n sender horizon : ℕ) (digests : List (List ℕ))
    (old new : DumpReader) (g : HasBegun seen old)
    → Encodes (g.begun ++ take n piece) (Digest sender horizon digests)
    → Agrees old.horizon horizon
    → ((S : ReferenceSet) → StandsFor old.history S
    → StandsFor new.history (with_horizon horizon S))
    → digests ≡ digests_of (entries_of new.history) → IsDump (seen ++ take n piece) new.history
took_digests seen piece n sender horizon digests old new g encodes agrees takes same =
    let new_is : new.history ≡ history_of_messages horizon g.messages = takes (references_brought old.horizon g.messages) g.stands ∙ ap history (references_closed old.horizon horizon g.messages g.horizon agrees) in
    let at : horizon ≡ new.history.horizon = sym (ap (λ (h : HistoryView). h.horizon) new_is ∙ horizon-history (references_in horizon g.messages)) in
    let messages = λ (m : ℕ). g.messages ++ Digest sender m digests ∷ [] in
    let begins : Begins (seen ++ take n piece) (messages horizon) [] = subst (λ (w : List ℕ). Begins w (messages horizon) []) (taken_text seen piece n) (begins_more seen g.begun (take n piece) [] g.messages (Digest sender horizon digests) g.front encodes) in
    record {
      messages = g.messages;
      sender = sender;
      digests = digests;
      whole = subst (λ (m : ℕ). Begins (seen ++ take n piece) (messages m) []) at begins;
      entries = subst (λ (m : ℕ). AreEntriesAt m g.messages) at (some_at old.horizon horizon g.messages g.horizon agrees);
      given = subst (λ (m : ℕ). new.history ≡ history_of_messages m g.messages) at new_is;
      same_digests = same;
    }

-- either
pub took_message : (seen piece : List ℕ) (n : ℕ) (frame : Message) (old mid new : DumpReader)
    → HasBegun seen old
    → ((begun : List ℕ) → old.decoder ≡ Inside begun
    → Encodes (begun ++ take n piece) frame × (new.decoder ≡ Inside []))
    → mid.history ≡ old.history → mid.horizon ≡ old.horizon → TakesMessage mid frame new
    → new.bytes_read ≡ length (seen ++ take n piece)
    → new.frame_start ≡ length (seen ++ take n piece) → HasRead (seen ++ take n piece) new
took_message seen piece n (Entries sender horizon es) old mid new g feeds history known takes all here =
    let fed = feeds g.begun g.held in
    took_entries seen piece n sender horizon es old new g fed.0 fed.1 (subst (λ (o : Option ℕ). Agrees o horizon) known takes.0) takes.1
    (subst (λ (h : HistoryView). TakesIn h (references_of (history_of_entries_at horizon es)) new.history) history takes.2) takes.3 all here
took_message seen piece n (Digest sender horizon digests) old mid new g feeds history known takes all here =
    let fed = feeds g.begun g.held in
    inl (
      takes.3,
      here,
      took_digests seen piece n sender horizon digests old new g fed.0 (subst (λ (o : Option ℕ). Agrees o horizon) known takes.0)
          (subst (λ (h : HistoryView). (S : ReferenceSet) → StandsFor h S → StandsFor new.history (with_horizon horizon S)) history takes.1) takes.2,
    )
took_message seen piece n (Want sender horizon request) old mid new g feeds history known takes all here = absurd takes

-- where the frames end is no part of what a frame adds
pub takes_placed : (frame : Message) (old new : DumpReader) (at : ℕ) → TakesMessage old frame new
    → TakesMessage old frame (record new { frame_start = at })
takes_placed (Entries sender horizon es) old new at takes = takes
takes_placed (Digest sender horizon digests) old new at takes = takes
takes_placed (Want sender horizon request) old new at takes = takes

-- what a feed did, of a decoder inside a frame
fed_inside : (piece : List ℕ) (fed : Fed) (frame : Option Message) (old next : DecoderState)
    → FeedStep old piece (Ok fed) next → fed.message ≡ frame → (b : List ℕ) → old ≡ Inside b
    → TakesPiece b piece fed.taken frame next
fed_inside piece fed frame old next feeds is b inside =
    subst (λ (o : Option Message). TakesPiece b piece fed.taken o next) is (subst (λ (d : DecoderState). FeedStep d piece (Ok fed) next) inside feeds)

pub part_read : (seen piece : List ℕ) (fed : Fed) (old new : DumpReader) → HasBegun seen old
    → FeedStep old.decoder piece (Ok fed) new.decoder → fed.message ≡ None
    → new.history ≡ old.history → new.horizon ≡ old.horizon → new.complete ≡ false
    → new.bytes_read ≡ old.bytes_read + fed.taken → new.frame_start ≡ old.frame_start
    → HasRead (seen ++ take fed.taken piece) new
part_read seen piece fed old new g feeds none history horizon unclosed more same =
    let f = fed_inside piece fed None old.decoder new.decoder feeds none in
    took_part seen piece fed.taken old new g (f g.begun g.held).0 (λ b is. ((f b is).1, (f b is).2)) history horizon unclosed more same

pub whole_read : (seen piece : List ℕ) (fed : Fed) (frame : Message) (old mid new : DumpReader)
    → HasBegun seen old → FeedStep old.decoder piece (Ok fed) mid.decoder → fed.message ≡ Some frame
    → mid.history ≡ old.history → mid.horizon ≡ old.horizon → new.decoder ≡ mid.decoder
    → TakesMessage mid frame new
    → new.bytes_read ≡ old.bytes_read + fed.taken → new.frame_start ≡ new.bytes_read
    → HasRead (seen ++ take fed.taken piece) new
whole_read seen piece fed frame old mid new g feeds some history horizon same takes more here =
    let f = fed_inside piece fed (Some frame) old.decoder mid.decoder feeds some in
    let all : new.bytes_read ≡ length (seen ++ take fed.taken piece) = counted seen piece fed.taken old.bytes_read new.bytes_read g.bytes_read more (f g.begun g.held).0 in
    took_message seen piece fed.taken frame old mid new g (λ b is. ((f b is).1, same ∙ (f b is).2)) history horizon takes all (here ∙ all)

-- a frame has a byte that the part before it hasn't
pub some_taken : (seen piece : List ℕ) (n : ℕ) (frame : Message) (old : DumpReader)
    → HasBegun seen old → ((begun : List ℕ) → old.decoder ≡ Inside begun
    → Encodes (begun ++ take n piece) frame) → 0 < n
some_taken seen piece zero frame old g feeds =
    let encodes : Encodes g.begun frame = subst (λ (w : List ℕ). Encodes w frame) (append-nil g.begun) (feeds g.begun g.held) in
    let whole : take (length g.begun) g.begun ≡ g.begun = take_all (length g.begun) g.begun (omega arith) in
    absurd (no_ok (sym (g.part (length g.begun)) ∙ ap read_frame whole ∙ frame_read g.begun frame encodes))
some_taken seen piece (suc n) frame old g feeds = omega arith

pub some_fed : (seen piece : List ℕ) (fed : Fed) (frame : Message) (old : DumpReader)
    (next : DecoderState) → HasBegun seen old → FeedStep old.decoder piece (Ok fed) next
    → fed.message ≡ Some frame → 0 < fed.taken
some_fed seen piece fed frame old next g feeds some = some_taken seen piece fed.taken frame old g (λ b is. (fed_inside piece fed (Some frame) old.decoder next feeds some b is).1)

-- ---- refusals

-- a fault of a frame
frame_refused : (text : List ℕ) (at : ℕ) (fault : FrameFault) → ShowsFrameFault text at fault
    → IsDumpRefused text at (Frame fault)
frame_refused text at frame_faults.Memory shown = tt
frame_refused text at frame_faults.Truncated shown = shown
frame_refused text at frame_faults.BadMagic shown = shown
frame_refused text at frame_faults.BadKind shown = inl shown
frame_refused text at frame_faults.BadSender shown = shown
frame_refused text at frame_faults.BadLength shown = shown
frame_refused text at frame_faults.BadCount shown = shown
frame_refused text at frame_faults.BadTag shown = shown
frame_refused text at frame_faults.BadStamp shown = shown
frame_refused text at frame_faults.BadOrder shown = shown
frame_refused text at frame_faults.Failed shown = shown

pub fault_refused : (seen piece : List ℕ) (fault : FrameFault) (old : DumpReader)
    (next : DecoderState) → HasBegun seen old → FeedStep old.decoder piece (Err fault) next
    → IsRefusedForGood (seen ++ piece) old.frame_start (Frame fault)
fault_refused seen piece fault old next g feeds later = cases (subst (λ (d : DecoderState). FeedStep d piece (Err fault) next) g.held feeds)
  where
    cases : ((fault ≡ frame_faults.Memory) × (next ≡ Inside g.begun))
        ⊎ Breaks g.begun piece fault next
        → IsDumpRefused ((seen ++ piece) ++ later) old.frame_start (Frame fault)
    cases (inl none) = subst (λ (f : FrameFault). IsDumpRefused ((seen ++ piece) ++ later) old.frame_start (Frame f)) (sym none.0) tt
    cases (inr b) =
        let n = b.0 in
        let T = texts_of g.front.texts in
        let at = all_at old.horizon g.messages g.horizon in
        let bad = g.begun ++ take n piece in
        let rest = drop n piece ++ later in
        frame_refused ((seen ++ piece) ++ later) old.frame_start fault (
          at.0,
          g.messages,
          at.1,
          ends_in seen piece later old g,
          record {
            texts = g.front.texts;
            bad = bad;
            later = rest;
            whole = sym (cut n seen piece later) ∙ ap (λ (w : List ℕ). w ++ (take n piece ++ rest)) g.front.whole ∙ append_assoc T g.begun (take n piece ++ rest)
                ∙ ap (λ (w : List ℕ). T ++ w) (sym (append_assoc g.begun (take n piece) rest));
            each = g.front.each;
            shown = b.2;
          },
        )

memory_refused : (text : List ℕ) (at : ℕ) (why : DumpFault) → why ≡ Frame frame_faults.Memory
    → IsDumpRefused text at why
memory_refused text at why is = subst (IsDumpRefused text at) (sym is) tt

-- a frame with another horizon
other_horizon : (seen piece later : List ℕ) (n : ℕ) (known : Option ℕ) (horizon : ℕ)
    (frame : Message) (messages : List Message) (begun : List ℕ) (end : ℕ)
    → Begins seen messages begun → Encodes (begun ++ take n piece) frame → AreAt known messages
    → IsPartAt horizon frame → (Agrees known horizon → ⊥)
    → EndsAt ((seen ++ piece) ++ later) messages end
    → IsDumpRefused ((seen ++ piece) ++ later) end HorizonsDiffer
other_horizon seen piece later n None horizon frame messages begun end front encodes at is differ ends = absurd (differ tt)
other_horizon seen piece later n (Some known) horizon frame messages begun end front encodes at is differ ends = (
  known,
  horizon,
  messages,
  frame,
  drop n piece ++ later,
  at.0,
  at.1,
  is,
  (λ e. differ (sym e)),
  ends,
  subst (λ (w : List ℕ). Begins w (messages ++ frame ∷ []) (drop n piece ++ later)) (cut n seen piece later) (begins_more seen begun (take n piece) (drop n piece ++ later) messages frame front encodes),
)

-- digests of another history
other_digests : (seen piece later : List ℕ) (n sender horizon : ℕ) (digests : List (List ℕ))
    (old : DumpReader) (g : HasBegun seen old)
    → Encodes (g.begun ++ take n piece) (Digest sender horizon digests)
    → Agrees old.horizon horizon → (digests ≢ digests_of (entries_of (raised horizon old.history)))
    → IsDumpRefused ((seen ++ piece) ++ later) old.frame_start DigestsDiffer
other_digests seen piece later n sender horizon digests old g encodes agrees differ =
    let S = references_brought old.horizon g.messages in
    let raised_is : raised horizon old.history ≡ history_of_messages horizon g.messages =
    ap (raised horizon) g.stands ∙ history_first S (record { horizon = horizon; given = [] }) ∙ ap history (references_closed old.horizon horizon g.messages g.horizon agrees) in (
      horizon,
      g.messages,
      sender,
      digests,
      drop n piece ++ later,
      some_at old.horizon horizon g.messages g.horizon agrees,
      (λ same. differ (same ∙ ap (λ (h : HistoryView). digests_of (entries_of h)) (sym raised_is))),
      ends_in seen piece later old g,
      subst (λ (w : List ℕ). Begins w (g.messages ++ Digest sender horizon digests ∷ []) (drop n piece ++ later)) (cut n seen piece later)
          (begins_more seen g.begun (take n piece) (drop n piece ++ later) g.messages (Digest sender horizon digests) g.front encodes),
    )

rejects_refused : (seen piece later : List ℕ) (n : ℕ) (frame : Message) (why : DumpFault)
    (old : DumpReader) (g : HasBegun seen old) → Encodes (g.begun ++ take n piece) frame
    → Rejects old frame why → IsDumpRefused ((seen ++ piece) ++ later) old.frame_start why
rejects_refused seen piece later n (Entries sender horizon es) why old g encodes (inl none) = memory_refused ((seen ++ piece) ++ later) old.frame_start why none
rejects_refused seen piece later n (Entries sender horizon es) why old g encodes (inr x) =
    subst (IsDumpRefused ((seen ++ piece) ++ later) old.frame_start) (sym x.0) (other_horizon seen piece later n old.horizon horizon (Entries sender horizon es) g.messages g.begun old.frame_start g.front encodes g.horizon refl x.1 (ends_in seen piece later old g))
rejects_refused seen piece later n (Digest sender horizon digests) why old g encodes (inl none) = memory_refused ((seen ++ piece) ++ later) old.frame_start why none
rejects_refused seen piece later n (Digest sender horizon digests) why old g encodes (inr (inl x)) =
    subst (IsDumpRefused ((seen ++ piece) ++ later) old.frame_start) (sym x.0) (other_horizon seen piece later n old.horizon horizon (Digest sender horizon digests) g.messages g.begun old.frame_start g.front encodes g.horizon refl x.1 (ends_in seen piece later old g))
rejects_refused seen piece later n (Digest sender horizon digests) why old g encodes (inr (inr x)) =
    subst (IsDumpRefused ((seen ++ piece) ++ later) old.frame_start) (sym x.0) (other_digests seen piece later n sender horizon digests old g encodes x.1 x.2)
rejects_refused seen piece later n (Want sender own request) why old g encodes is =
    let at = all_at old.horizon g.messages g.horizon in
    subst (IsDumpRefused ((seen ++ piece) ++ later) old.frame_start) (sym is)
    (inr (
      at.0,
      g.messages,
      sender,
      own,
      request,
      drop n piece ++ later,
      at.1,
      ends_in seen piece later old g,
      subst (λ (w : List ℕ). Begins w (g.messages ++ Want sender own request ∷ []) (drop n piece ++ later)) (cut n seen piece later)
          (begins_more seen g.begun (take n piece) (drop n piece ++ later) g.messages (Want sender own request) g.front encodes),
    ))

rejects_same : (frame : Message) (why : DumpFault) (old mid : DumpReader)
    → mid.history ≡ old.history → mid.horizon ≡ old.horizon → Rejects mid frame why
    → Rejects old frame why
rejects_same (Entries sender horizon es) why old mid history known x = subst (λ (o : Option ℕ). (why ≡ Frame frame_faults.Memory) ⊎ ((why ≡ HorizonsDiffer) × (Agrees o horizon → ⊥))) known x
rejects_same (Digest sender horizon digests) why old mid history known x =
    subst (λ (h : HistoryView). (why ≡ Frame frame_faults.Memory) ⊎ ((why ≡ HorizonsDiffer) × (Agrees old.horizon horizon → ⊥)) ⊎ ((why ≡ DigestsDiffer) × Agrees old.horizon horizon × (digests ≢ digests_of (entries_of (raised horizon h))))) history
    (subst (λ (o : Option ℕ). (why ≡ Frame frame_faults.Memory) ⊎ ((why ≡ HorizonsDiffer) × (Agrees o horizon → ⊥)) ⊎ ((why ≡ DigestsDiffer) × Agrees o horizon × (digests ≢ digests_of (entries_of (raised horizon mid.history))))) known x)
rejects_same (Want sender own request) why old mid history known x = x

pub message_rejected : (seen piece : List ℕ) (n : ℕ) (frame : Message) (why : DumpFault)
    (old mid : DumpReader) → HasBegun seen old
    → ((begun : List ℕ) → old.decoder ≡ Inside begun → Encodes (begun ++ take n piece) frame)
    → mid.history ≡ old.history → mid.horizon ≡ old.horizon → Rejects mid frame why
    → IsRefusedForGood (seen ++ piece) old.frame_start why
message_rejected seen piece n frame why old mid g feeds history known x later =
    rejects_refused seen piece later n frame why old g (feeds g.begun g.held) (rejects_same frame why old mid history known x)

pub whole_rejected : (seen piece : List ℕ) (fed : Fed) (frame : Message) (why : DumpFault)
    (old mid : DumpReader) (next : DecoderState) → HasBegun seen old
    → FeedStep old.decoder piece (Ok fed) next → fed.message ≡ Some frame
    → mid.history ≡ old.history → mid.horizon ≡ old.horizon → Rejects mid frame why
    → IsRefusedForGood (seen ++ piece) old.frame_start why
whole_rejected seen piece fed frame why old mid next g feeds some history known x =
    message_rejected seen piece fed.taken frame why old mid g (λ b is. (fed_inside piece fed (Some frame) old.decoder next feeds some b is).1) history known x

-- what holds at a fault holds if a `?` passes the fault on
pub passed_on : {T E : Type 0} (r : Result T E) (e : E) (P : E → Type 0) → IsErrAnd r (λ y. y ≡ e)
    → P e → IfErr r P
passed_on (Ok x) e P is p = tt
passed_on (Err y) e P is p = subst P (sym is) p

-- ---- pieces one after the other

-- bytes behind a dump
pub more_refused : (seen piece : List ℕ) (g : DumpReader) → g.complete ≡ true → 0 < length piece
    → HasRead seen g → IsRefusedForGood (seen ++ piece) g.frame_start MoreFollows
more_refused seen piece g whole some (inl x) later = (seen, piece ++ later, g.history, append_assoc seen piece later, omega (arith, some, length-append piece later), x.1, x.2)
more_refused seen piece g whole some (inr x) later = (let never : false ≡ true = sym x.0 ∙ whole in absurd (cc))

-- what is refused with the bytes of a piece is so with those before it
pub refused_behind : (seen taken rest bytes : List ℕ) (at : ℕ) (why : DumpFault)
    → bytes ≡ taken ++ rest → IsRefusedForGood ((seen ++ taken) ++ rest) at why
    → IsRefusedForGood (seen ++ bytes) at why
refused_behind seen taken rest bytes at why is refused =
    subst (λ (w : List ℕ). IsRefusedForGood w at why) (append_assoc seen taken rest ∙ ap (λ (w : List ℕ). seen ++ w) (sym is)) refused

pub read_behind : (seen first more both : List ℕ) (g : DumpReader) → both ≡ first ++ more
    → HasRead ((seen ++ first) ++ more) g → HasRead (seen ++ both) g
read_behind seen first more both g is read = subst (λ (w : List ℕ). HasRead w g) (append_assoc seen first more ∙ ap (λ (w : List ℕ). seen ++ w) (sym is)) read

-- ---- the end

pub ended_dump : (seen : List ℕ) (g : DumpReader) → g.complete ≡ true → HasRead seen g
    → IsDump seen g.history
ended_dump seen g whole (inl x) = x.2
ended_dump seen g whole (inr x) = (let never : false ≡ true = sym x.0 ∙ whole in absurd (cc))

pub ends_with_digests : (text : List ℕ) (h : HistoryView) → IsDump text h
    → EndsWithDigests text (digests_of (entries_of h))
ends_with_digests text h d = (d.messages, d.sender, h.horizon, subst (λ (digests : List (List ℕ)). Begins text (d.messages ++ Digest d.sender h.horizon digests ∷ []) []) d.same_digests d.whole)

pub ended_short : (seen : List ℕ) (g : DumpReader) → g.complete ≡ false → HasRead seen g
    → IsDumpRefused seen g.frame_start CutShort
ended_short seen g unclosed read =
    let s = is_open seen g unclosed read in
    let at = all_at g.horizon s.messages s.horizon in
    (at.0, s.messages, s.begun, at.1, (s.begun, s.front, s.frame_start), record { texts = s.front.texts; whole = s.front.whole; each = s.front.each; part = s.part })
