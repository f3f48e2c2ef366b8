-- The part of a shard of the entries of a message: it fits into one, and its pages are of the shard.
use Rattle.std.proofs.Common.{◌≡◌, ℕ, Bool, List, arith, nat_eq, not, refl}
use Rattle.std.specs.Ordering.{on}
use Rattle.std.proofs.lemmas.List.Filters.{length-filter_both}
use Rattle.warm_stamps.specs.Stamps.{page_cmp}
use Rattle.warm_stamps.proofs.DistinctLemmas.{rising_filter}
use Rattle.warm_history.specs.Entry.{Entry}
use Rattle.warm_frames.specs.Entries.{FitsInFrame, IsEntryList}
use Rattle.warm_visits.specs.ShardNumbers.{shard_of}
use Rattle.warm_visits.specs.Parts.{part_of_entries}

abbrev is_own : ℕ → ℕ → Entry → Bool
is_own shards shard e = nat_eq (shard_of shards e.page) shard

-- a part is no longer, and its pages rise
pub part_fits : (shards shard : ℕ) (es : List Entry) → IsEntryList es
    → FitsInFrame (part_of_entries shards shard es)
part_fits shards shard es is =
    let test = is_own shards shard in
    let shorter = length-filter_both test (λ e. not (test e)) (λ e. refl) es in (
      rising_filter (on (λ (e : Entry). e.page) page_cmp) test es is.pages_ascend,
      omega (arith, is.at_most, shorter),
    )
