-- Worked examples: a bucket of three pages in chunks of two, and what Send gives of it, computed.
use Rattle.std.proofs.Common.{◌≡◌, ℕ, [], ◌∷◌, None, Some, refl}
use Rattle.warm_stamps.specs.declared.PageId.{PageId}
use Rattle.warm_stamps.specs.declared.Stamp.{Stamp}
use Rattle.warm_stamps.specs.declared.Reference.{Reference}
use Rattle.warm_history.specs.Entry.{Entry}
use Rattle.warm_history.specs.PageHist.TheVariants.{Once, Twice}
use Rattle.warm_history.specs.ReferenceSets.{ReferenceSet, set_of_list}
use Rattle.warm_history.specs.Histories.{entries_of, history}
use Rattle.warm_history.specs.Carried.{bucket_entries}
use Rattle.warm_frames.specs.Chunks.{chunks}
use Rattle.warm_peer.specs.Chunks.{chunk_after, last_page}

abbrev page : ℕ → PageId
page n = record { dev = 0; no = n }

abbrev at : ℕ → Stamp
at time = record { time = time; replica = 1 }

abbrev reference : ℕ → ℕ → Reference
reference n time = record { page = page n; stamp = at time }

-- the pages 0:1, 0:65 and 0:129 are of bucket 1, and 0:2 is not; the page 0:65 is referenced twice
abbrev four : ReferenceSet
four = set_of_list (reference 129 10 ∷ reference 65 20 ∷ reference 2 30 ∷ reference 1 40 ∷ reference 65 50 ∷ [])

abbrev once : ℕ → ℕ → Entry
once n time = record { page = page n; hist = Once (at time) }

abbrev twice : ℕ → ℕ → ℕ → Entry
twice n last prev = record { page = page n; hist = Twice (record { last = at last; prev = at prev }) }

in_chunks : chunks 2 (bucket_entries 1 (entries_of (history four)))
    ≡ (once 1 40 ∷ twice 65 50 20 ∷ []) ∷ (once 129 10 ∷ []) ∷ []
unfolding history
in_chunks = refl

first_chunk : chunk_after four 1 2 None ≡ once 1 40 ∷ twice 65 50 20 ∷ []
unfolding history
first_chunk = refl

first_ends : last_page (once 1 40 ∷ twice 65 50 20 ∷ []) ≡ Some (page 65)
first_ends = refl

second_chunk : chunk_after four 1 2 (Some (page 65)) ≡ once 129 10 ∷ []
unfolding history
second_chunk = refl

nothing_left : chunk_after four 1 2 (Some (page 129)) ≡ []
unfolding history
nothing_left = refl
