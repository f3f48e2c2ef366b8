-- Buckets of all shards together are those of their shards, and so is what is sent of them.
use Rattle.std.proofs.Common.{◌≡◌, ℕ, ◌<◌, Bool, true, false, List, take, filter, Option, refl, sym, ap, ◌∙◌, length, ◌%◌, ◌&&◌}
use Rattle.std.specs.Prelude.{◌==◌}
use Rattle.warm_stamps.specs.declared.PageId.{PageId}
use Rattle.warm_stamps.specs.Buckets.{page_bucket}
use Rattle.warm_history.specs.Entry.{Entry}
use Rattle.warm_history.specs.Carried.{bucket_entries, carried, comes_after, is_next_in_bucket, later_of_bucket}
use Rattle.warm_history.specs.Histories.{HistoryView, IsHistory, entries_of, hist, history, references_of}
use Rattle.warm_history.specs.ReferenceSets.{references}
use Rattle.warm_history.specs.Since.{carried_since, entries_since, recent_entries}
use Rattle.warm_history.proofs.CarriedLemmas.{history-carried}
use Rattle.warm_history.proofs.ChangeLemmas.{same_bucket}
use Rattle.warm_history.proofs.HistoryLemmas.{IsHistory-history, entries-history, horizon-history}
use Rattle.warm_history.proofs.JoinLemmas.{history_of_own_references}
use Rattle.warm_history.proofs.ListHistoryLemmas.{get, get-history}
use Rattle.warm_gossip.specs.State.{NodeState}
use Rattle.warm_shards.specs.Shards.{AreShards, held, shard_at, whole}
use Rattle.warm_shards.proofs.WholeLemmas.{hist_whole, whole_horizon}
use Rattle.warm_visits.proofs.Lists.{filter_within}
use Rattle.warm_visits.proofs.PartEntryLemmas.{since_entries}

-- what a history says of a page is what its references say
get_known : (h : HistoryView) (p : PageId) → IsHistory h
    → get h.entries p ≡ hist (references_of h) p
get_known h p valid =
    ap (λ (g : HistoryView). get g.entries p) (sym (history_of_own_references h valid))
    ∙ ap (λ es. get es p) (entries-history (references_of h))
    ∙ get-history (references (references_of h)) p

pub bucket_whole : (ns : List NodeState) (j bucket : ℕ) → AreShards ns → j < length ns
    → bucket % length ns ≡ j
    → bucket_entries bucket (entries_of (whole ns))
    ≡ bucket_entries bucket (entries_of (shard_at ns j).history)
bucket_whole ns j bucket are lt is =
    let valid = IsHistory-history (held ns) in
    let own = (are.each j lt).valid in
    same_bucket bucket _ _ valid.pages_ascend own.pages_ascend (λ p there.
    get_known (whole ns) p valid
    ∙ hist_whole ns j p are lt (ap (λ b. b % length ns) there ∙ is)
    ∙ sym (get_known (shard_at ns j).history p own))

in_the_bucket : (bucket : ℕ) (after : Option PageId) (p : PageId)
    → is_next_in_bucket bucket after p ≡ true → (page_bucket p == bucket) ≡ true
in_the_bucket bucket after p is = cases (page_bucket p == bucket) is
  where
    cases : (b : Bool) → (b && comes_after after p) ≡ true → b ≡ true
    cases true is = refl
    cases false is = is

later_whole : (ns : List NodeState) (j bucket : ℕ) (after : Option PageId) → AreShards ns
    → j < length ns → bucket % length ns ≡ j
    → later_of_bucket bucket after (entries_of (whole ns))
    ≡ later_of_bucket bucket after (entries_of (shard_at ns j).history)
later_whole ns j bucket after are lt is =
    let next : Entry → Bool = λ e. is_next_in_bucket bucket after e.page in
    let own : Entry → Bool = λ e. page_bucket e.page == bucket in
    let within = filter_within next own (λ e. in_the_bucket bucket after e.page) in
    sym (within (entries_of (whole ns)))
    ∙ ap (filter next) (bucket_whole ns j bucket are lt is)
    ∙ within (entries_of (shard_at ns j).history)

carried_entries : (h : HistoryView) (bucket : ℕ) (after : Option PageId) (limit : ℕ) → IsHistory h
    → entries_of (history (carried (references_of h) bucket after limit))
    ≡ take limit (later_of_bucket bucket after (entries_of h))
carried_entries h bucket after limit valid =
    sym (history-carried (references_of h) bucket after limit)
    ∙ ap (λ (g : HistoryView). take limit (later_of_bucket bucket after g.entries)) (history_of_own_references h valid)

-- what is sent of a bucket
pub sent_whole : (ns : List NodeState) (j bucket : ℕ) (after : Option PageId) (limit : ℕ)
    → AreShards ns → j < length ns → bucket % length ns ≡ j
    → entries_of (history (carried (references_of (shard_at ns j).history) bucket after limit))
    ≡ entries_of (history (carried (references_of (whole ns)) bucket after limit))
sent_whole ns j bucket after limit are lt is =
    carried_entries (shard_at ns j).history bucket after limit (are.each j lt).valid
    ∙ ap (take limit) (sym (later_whole ns j bucket after are lt is))
    ∙ sym (carried_entries (whole ns) bucket after limit (IsHistory-history (held ns)))

pub since_whole : (ns : List NodeState) (j bucket since : ℕ) (after : Option PageId)
    → AreShards ns → j < length ns → bucket % length ns ≡ j
    → entries_since bucket since after (entries_of (shard_at ns j).history)
    ≡ entries_since bucket since after (entries_of (whole ns))
since_whole ns j bucket since after are lt is =
    ap (recent_entries since) (sym (later_whole ns j bucket after are lt is))

pub sent_since_whole : (ns : List NodeState) (j bucket since : ℕ) (after : Option PageId)
    (limit : ℕ) → AreShards ns → j < length ns → bucket % length ns ≡ j
    → entries_of (history (carried_since (references_of (shard_at ns j).history) bucket since after limit))
    ≡ entries_of (history (carried_since (references_of (whole ns)) bucket since after limit))
sent_since_whole ns j bucket since after limit are lt is =
    since_entries (shard_at ns j).history bucket since after limit (are.each j lt).valid
    ∙ ap (take limit) (since_whole ns j bucket since after are lt is)
    ∙ sym (since_entries (whole ns) bucket since after limit (IsHistory-history (held ns)))

-- the horizon of a shard is that of all together
pub shard_horizon : (ns : List NodeState) (j : ℕ) → AreShards ns → j < length ns → 0 < length ns
    → (shard_at ns j).history.horizon ≡ (whole ns).horizon
shard_horizon ns j are lt some =
    (are.each j lt).horizon ∙ sym (whole_horizon ns are some) ∙ sym (horizon-history (held ns))
