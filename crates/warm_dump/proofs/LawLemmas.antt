-- The laws of dumps: one history, and no refusal.
use Rattle.std.proofs.Common.{◌≡◌, inl, inr, ℕ, List, [], ◌∷◌, ◌++◌, length, refl, sym, ap, subst, ◌∙◌, append_assoc, append-nil, arith}
use Rattle.std.specs.List.{AllByRecursion}
use Rattle.warm_history.specs.Histories.{HistoryView, entries_of}
use Rattle.warm_frames.specs.declared.fault.FrameFault.{FrameFault}
use Rattle.warm_frames.specs.declared.fault.FrameFault.TheVariants as frame_faults
use Rattle.warm_frames.specs.declared.message.Message.{Message}
use Rattle.warm_frames.specs.declared.message.Message.TheVariants.{Entries, Digest, Want}
use Rattle.warm_frames.specs.Pieces.{EncodeAll, texts_of}
use Rattle.warm_frames.proofs.StreamLemmas.{one_reading, part_or_fault}
use Rattle.warm_digest.specs.BucketDigests.{digests_of}
use Rattle.warm_dump.specs.declared.fault.DumpFault.TheVariants.{Frame, CutShort, DigestsDiffer, HorizonsDiffer, MoreFollows, ReadFault, WriteFault}
use Rattle.warm_dump.specs.Laws.{DumpHasOneHistory, DumpIsTaken}
use Rattle.warm_dump.specs.Reading.{IsEntriesAt, AreEntriesAt, IsPartAt, history_of_messages, Begins, IsDump, ShowsFrameFault, HasRequest, IsCutShort, HasTwoHorizons, HasOtherDigests, HasMore}
use Rattle.warm_dump.proofs.FrontLemmas.{dump_splits, begins_dump, one_front, all_parts, dump_parts, one_horizon, first_horizon}

abbrev horizon_of : Message → ℕ
horizon_of (Entries sender own es) = own
horizon_of (Digest sender own digests) = own
horizon_of (Want sender own request) = own

abbrev digests_in : Message → List (List ℕ)
digests_in (Entries sender own es) = []
digests_in (Digest sender own digests) = digests
digests_in (Want sender own request) = []

pub one_history : DumpHasOneHistory
one_history text h g a b =
    let d : Message = Digest a.sender h.horizon a.digests in
    let e : Message = Digest b.sender g.horizon b.digests in
    let same = one_reading text (a.messages ++ d ∷ []) (b.messages ++ e ∷ []) [] [] (dump_splits text h a) (dump_splits text g b) in
    let parts = one_front h.horizon g.horizon a.messages b.messages d e [] a.entries b.entries tt tt same.0 in
    let horizon : h.horizon ≡ g.horizon = ap horizon_of parts.1 in
    let same_history : history_of_messages h.horizon a.messages ≡ history_of_messages g.horizon b.messages = λ i. history_of_messages (horizon i) (parts.0 i) in
    a.given ∙ same_history ∙ sym b.given

no_fault : (text : List ℕ) (h : HistoryView) (at : ℕ) (fault : FrameFault) → IsDump text h
    → ShowsFrameFault text at fault → ⊥
no_fault text h at fault d shown = part_or_fault text (d.messages ++ Digest d.sender h.horizon d.digests ∷ []) shown.1 [] fault (dump_splits text h d) shown.4

-- the parts of what begins a dump
fronts : (text : List ℕ) (h : HistoryView) (d : IsDump text h) (gs : List Message) (f : Message)
    (rest : List ℕ) → Begins text (gs ++ f ∷ []) rest
    → AllByRecursion (IsPartAt h.horizon) gs × IsPartAt h.horizon f
fronts text h d gs f rest b =
    let begun = begins_dump text h d (gs ++ f ∷ []) rest b in
    let front = (all_parts (IsPartAt h.horizon) (gs ++ f ∷ []) begun.1 (subst (AllByRecursion (IsPartAt h.horizon)) begun.3 (dump_parts text h d))).0 in
    let both = all_parts (IsPartAt h.horizon) gs (f ∷ []) front in
    (both.0, both.1.0)

no_request : (text : List ℕ) (h : HistoryView) (at : ℕ) → IsDump text h → HasRequest text at → ⊥
no_request text h at d r = (fronts text h d r.1 (Want r.2 r.3 r.4) r.5 r.8).1

not_short : (text : List ℕ) (h : HistoryView) (at : ℕ) → IsDump text h → IsCutShort text at → ⊥
not_short text h at d r =
    let e : Message = Digest d.sender h.horizon d.digests in
    let same = one_reading text (d.messages ++ e ∷ []) r.1 [] r.2 (dump_splits text h d) r.5 in
    (all_parts (IsEntriesAt r.0) d.messages (e ∷ []) (subst (AreEntriesAt r.0) (sym same.0) r.3)).1.0

not_two : (text : List ℕ) (h : HistoryView) (at : ℕ) → IsDump text h → HasTwoHorizons text at → ⊥
not_two text h at d r =
    let both = fronts text h d r.2 r.3 r.4 r.10 in
    let first : r.0 ≡ h.horizon = first_horizon r.0 h.horizon r.2 r.5 r.6 both.0 in
    let other : r.1 ≡ h.horizon = one_horizon r.1 h.horizon r.3 r.7 both.1 in
    r.8 (other ∙ sym first)

-- behind frames of entries that begin a dump comes the frame of its digests
last_of : (text : List ℕ) (h : HistoryView) (d : IsDump text h) (horizon own sender : ℕ)
    (gs : List Message) (digests : List (List ℕ)) (rest : List ℕ) → AreEntriesAt horizon gs
    → Begins text (gs ++ Digest sender own digests ∷ []) rest
    → (d.messages ≡ gs) × (Digest d.sender h.horizon d.digests ≡ Digest sender own digests)
    × (rest ≡ [])
last_of text h d horizon own sender gs digests rest all b =
    let f : Message = Digest sender own digests in
    let e : Message = Digest d.sender h.horizon d.digests in
    let begun = begins_dump text h d (gs ++ f ∷ []) rest b in
    let parts = one_front h.horizon horizon d.messages gs e f begun.1 d.entries all tt tt (begun.3 ∙ append_assoc gs (f ∷ []) begun.1) in
    (parts.0, parts.1, begun.4 ∙ none begun.0 begun.1 begun.2 parts.2)
  where
    none : (vs : List (List ℕ)) (more : List Message) → EncodeAll vs more → more ≡ []
        → texts_of vs ≡ []
    none [] more all is = refl
    none (v ∷ vs) [] all is = absurd all
    none (v ∷ vs) (f ∷ more) all is = absurd (cc)

own_digests : (text : List ℕ) (h : HistoryView) (at : ℕ) → IsDump text h → HasOtherDigests text at
    → ⊥
own_digests text h at d r =
    let horizon = r.0 in
    let messages = r.1 in
    let parts = last_of text h d horizon horizon r.2 messages r.3 r.4 r.5 r.8 in
    let own : h.horizon ≡ horizon = ap horizon_of parts.1 in
    let history_is : h ≡ history_of_messages horizon messages = d.given ∙ (λ i. history_of_messages (own i) (parts.0 i)) in
    r.6 (sym (ap digests_in parts.1) ∙ d.same_digests ∙ ap (λ (k : HistoryView). digests_of (entries_of k)) history_is)

no_more : (text : List ℕ) (h : HistoryView) (at : ℕ) → IsDump text h → HasMore text at → ⊥
no_more text h at d r =
    let dump = r.0 in
    let more = r.1 in
    let k = r.2 in
    let e : IsDump dump k = r.6 in
    let T = texts_of e.whole.texts in
    let begins : Begins text (e.messages ++ Digest e.sender k.horizon e.digests ∷ []) more =
    record { texts = e.whole.texts; whole = r.3 ∙ ap (λ (w : List ℕ). w ++ more) (e.whole.whole ∙ append-nil T); each = e.whole.each } in
    let parts = last_of text h d k.horizon k.horizon e.sender e.messages e.digests more e.entries begins in
    omega (arith, r.4, ap (λ (w : List ℕ). length w) parts.2)

pub dump_is_taken : DumpIsTaken
dump_is_taken text h at (Frame frame_faults.Memory) d r = inl refl
dump_is_taken text h at (Frame frame_faults.Truncated) d r = absurd (no_fault text h at frame_faults.Truncated d r)
dump_is_taken text h at (Frame frame_faults.BadMagic) d r = absurd (no_fault text h at frame_faults.BadMagic d r)
dump_is_taken text h at (Frame frame_faults.BadKind) d (inl r) = absurd (no_fault text h at frame_faults.BadKind d r)
dump_is_taken text h at (Frame frame_faults.BadKind) d (inr r) = absurd (no_request text h at d r)
dump_is_taken text h at (Frame frame_faults.BadSender) d r = absurd (no_fault text h at frame_faults.BadSender d r)
dump_is_taken text h at (Frame frame_faults.BadLength) d r = absurd (no_fault text h at frame_faults.BadLength d r)
dump_is_taken text h at (Frame frame_faults.BadCount) d r = absurd (no_fault text h at frame_faults.BadCount d r)
dump_is_taken text h at (Frame frame_faults.BadTag) d r = absurd (no_fault text h at frame_faults.BadTag d r)
dump_is_taken text h at (Frame frame_faults.BadStamp) d r = absurd (no_fault text h at frame_faults.BadStamp d r)
dump_is_taken text h at (Frame frame_faults.BadOrder) d r = absurd (no_fault text h at frame_faults.BadOrder d r)
dump_is_taken text h at (Frame frame_faults.Failed) d r = absurd (no_fault text h at frame_faults.Failed d r)
dump_is_taken text h at CutShort d r = absurd (not_short text h at d r)
dump_is_taken text h at DigestsDiffer d r = absurd (own_digests text h at d r)
dump_is_taken text h at HorizonsDiffer d r = absurd (not_two text h at d r)
dump_is_taken text h at MoreFollows d r = absurd (no_more text h at d r)
dump_is_taken text h at ReadFault d r = inr refl
dump_is_taken text h at WriteFault d r = absurd r
