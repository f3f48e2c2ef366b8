-- The history of a dump has valid entries, since its messages have none but such.
use Rattle.std.proofs.Common.{ℕ, List, [], ◌∷◌, ◌++◌, sym, subst}
use Rattle.std.specs.List.{AllByRecursion}
use Rattle.std.proofs.lemmas.List.Concat.{flat_map-cons}
use Rattle.warm_stamps.proofs.DistinctLemmas.{all_append, all_filter}
use Rattle.warm_history.specs.ReferenceSets.{is_kept}
use Rattle.warm_history.specs.Histories.{HistoryView, references_of_entries}
use Rattle.warm_frames.specs.declared.message.Message.{Message}
use Rattle.warm_frames.specs.declared.message.Message.TheVariants.{Entries, Digest, Want}
use Rattle.warm_frames.specs.Entries.{IsEntry}
use Rattle.warm_frames.specs.Pieces.{EncodeAll}
use Rattle.warm_frames.specs.Encoding.{IsValidMessage}
use Rattle.warm_digest.specs.Exchange.{IsReference, Fits}
use Rattle.warm_digest.proofs.FitLemmas.{history_fits, references_fit}
use Rattle.warm_dump.specs.Reading.{brought, entries_brought, references_in, IsDump}

-- ---- the entries of messages

brought_fits : (f : Message) → IsValidMessage f → AllByRecursion IsEntry (brought f)
brought_fits (Entries sender own es) is = is.2.each
brought_fits (Digest sender own digests) is = tt
brought_fits (Want sender own request) is = tt

frames_fit : (ts : List (List ℕ)) (fs more : List Message) → EncodeAll ts (fs ++ more)
    → AllByRecursion IsEntry (entries_brought fs)
frames_fit ts [] more all = tt
frames_fit [] (f ∷ fs) more all = absurd all
frames_fit (t ∷ ts) (f ∷ fs) more all =
    subst (AllByRecursion IsEntry) (sym (flat_map-cons brought f fs)) (all_append IsEntry (brought f) (entries_brought fs) (brought_fits f all.0.1.fits) (frames_fit ts fs more all.1))

pub dump_fits : (text : List ℕ) (h : HistoryView) → IsDump text h → Fits h
dump_fits text h d =
    let all = references_fit (entries_brought d.messages) (frames_fit d.whole.texts d.messages (Digest d.sender h.horizon d.digests ∷ []) d.whole.each) in
    subst Fits (sym d.given) (history_fits (references_in h.horizon d.messages) (all_filter IsReference (λ r. is_kept h.horizon r.stamp) (references_of_entries (entries_brought d.messages)) all))
