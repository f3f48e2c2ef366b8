-- If each shard has had its part, all together have had the whole.
use Rattle.std.proofs.Common.{◌≡◌, inl, inr, ℕ, zero, suc, ◌+◌, ◌<◌, ◌≤◌, List, [], ◌++◌, length, set, take, max, refl, sym, ap, subst, ◌∙◌, arith, add-one, take_all}
use Rattle.std.proofs.lemmas.Bool.{cases_eq}
use Rattle.std.proofs.lemmas.List.{append-nil, ext_get_or, get_or-set_other, get_or-set_same, length-set}
use Rattle.warm_stamps.specs.declared.TheConstants.{BUCKETS}
use Rattle.warm_history.specs.Entry.{Entry}
use Rattle.warm_history.specs.ListHistories.{list_references_of}
use Rattle.warm_history.specs.ReferenceSets.{ReferenceSet, set_of_list, ◌∪◌}
use Rattle.warm_history.specs.Histories.{HistoryView, entries_of, history, join, references_of}
use Rattle.warm_history.proofs.JoinLemmas.{history_first}
use Rattle.warm_frames.specs.declared.message.Message.{Message}
use Rattle.warm_frames.specs.declared.message.Message.TheVariants.{Digest, Entries, Want}
use Rattle.warm_digest.specs.BucketDigests.{digests_of}
use Rattle.warm_peer.specs.Answers.{refs_in}
use Rattle.warm_gossip.specs.State.{NodeState, NodeView}
use Rattle.warm_visits.specs.Digests.{FillsShard}
use Rattle.warm_shards.specs.Shards.{AreShards, no_shard, shard_at, whole}
use Rattle.warm_visits.specs.ShardNumbers.{IsShardCount, of_first_shards, of_shard}
use Rattle.warm_shards.proofs.AreShardsLemmas.{some_shards}
use Rattle.warm_visits.proofs.ErrandLemmas.{some_count}
use Rattle.warm_shards.proofs.DigestLemmas.{AreGathered, all_gathered, digest_whole, gathered_more}
use Rattle.warm_visits.proofs.PartLemmas.{all_parts, next_part, no_part}
use Rattle.warm_shards.proofs.WholeLemmas.{none_joined, one_takes, whole_more}
use Rattle.warm_shards.specs.PartLaws.{BatchIsOfParts, DigestsAreGathered, GatheredIsWhole, HistoryIsOfParts, MessageIsOfParts, OneTakesIn}
use Rattle.warm_shards.specs.Parts.{part_of_message}
use Rattle.warm_visits.specs.Parts.{part_of_entries}
use Rattle.warm_visits.proofs.PartEntryLemmas.{parts_hold}

pub one_takes_in : OneTakesIn
one_takes_in shards i S n lt is = one_takes shards i S n lt is

-- ---- the first shards are the new ones

abbrev mixed : List NodeState → List NodeState → ℕ → List NodeState
mixed old new zero = old
mixed old new (suc k) = set (mixed old new k) k (shard_at new k)

mixed_long : (old new : List NodeState) (k : ℕ) → length (mixed old new k) ≡ length old
mixed_long old new zero = refl
mixed_long old new (suc k) = length-set (mixed old new k) k (shard_at new k) ∙ mixed_long old new k

mixed_later : (old new : List NodeState) (k j : ℕ) → k ≤ j
    → shard_at (mixed old new k) j ≡ shard_at old j
mixed_later old new zero j le = refl
mixed_later old new (suc k) j le =
    get_or-set_other (mixed old new k) k j (shard_at new k) no_shard (λ e. omega (arith, e, le))
    ∙ mixed_later old new k j (omega arith)

mixed_first : (old new : List NodeState) (k j : ℕ) → j < k → k ≤ length old
    → shard_at (mixed old new k) j ≡ shard_at new j
mixed_first old new zero j lt le = absurd (omega arith)
mixed_first old new (suc k) j lt le =
    let there : k < length (mixed old new k) = omega (arith, mixed_long old new k) in
    elim (cases_eq j k) [
      | inl same ↦ subst (λ x. shard_at (mixed old new (suc k)) x ≡ shard_at new x) (sym same) (get_or-set_same (mixed old new k) k (shard_at new k) no_shard there)
      | inr other ↦ get_or-set_other (mixed old new k) k j (shard_at new k) no_shard other ∙ mixed_first old new k j (omega arith) (omega arith)
    ]

mixed_all : (old new : List NodeState) → length new ≡ length old
    → mixed old new (length old) ≡ new
mixed_all old new long =
    ext_get_or no_shard (mixed old new (length old)) new (mixed_long old new (length old) ∙ sym long)
    (λ j lt. mixed_first old new (length old) j (omega (arith, lt, mixed_long old new (length old))) (omega arith))

-- ---- references

-- each shard has taken in the references of S to its pages
abbrev pub TakeParts : ReferenceSet → List NodeState → List NodeState → Type 0
TakeParts S old new = (i : ℕ) → i < length old
    → (shard_at new i).history ≡ history (references_of (shard_at old i).history ∪ of_shard (length old) i S)

-- the first shard has taken its part in
first_part : (count : ℕ) (R S : ReferenceSet)
    → history (R ∪ of_shard count 0 S) ≡ history (R ∪ of_first_shards count 1 S)
first_part count R S =
    let part = (of_shard count 0 S).given in
    let late : max R.horizon S.horizon ≡ max (max R.horizon S.horizon) S.horizon = omega arith in
    let given : R.given ++ part ≡ (R.given ++ (of_first_shards count 0 S).given) ++ part = ap (λ rs. rs ++ part) (sym (append-nil R.given) ∙ ap (λ rs. R.given ++ rs) (sym (no_part count S.given))) in
    let same : R ∪ of_shard count 0 S ≡ (R ∪ of_first_shards count 0 S) ∪ of_shard count 0 S = λ i. record { horizon = late i; given = given i } in
    ap history same ∙ next_part count 0 R S

taken : (S : ReferenceSet) (old new : List NodeState) → TakeParts S old new → (k : ℕ)
    → k < length old
    → whole (mixed old new (suc k)) ≡ history (references_of (whole old) ∪ of_first_shards (length old) (suc k) S)
taken S old new each zero lt =
    one_takes old 0 (of_shard (length old) 0 S) (shard_at new 0) lt (each 0 lt)
    ∙ first_part (length old) (references_of (whole old)) S
taken S old new each (suc k) lt =
    let count = length old in
    let R = references_of (whole old) in
    let so_far = mixed old new (suc k) in
    let part = of_shard count (suc k) S in
    let here = mixed_later old new (suc k) (suc k) (omega arith) in
    one_takes so_far (suc k) part (shard_at new (suc k)) (omega (arith, lt, mixed_long old new (suc k)))
    (each (suc k) lt ∙ ap (λ (n : NodeState). history (references_of n.history ∪ part)) (sym here))
    ∙ ap (λ h. history (references_of h ∪ part)) (taken S old new each k (omega arith))
    ∙ history_first (R ∪ of_first_shards count (suc k) S) part
    ∙ next_part count (suc k) R S
    ∙ ap (λ (n : ℕ). history (R ∪ of_first_shards count n S)) (add-one (suc k))

taken_by_all : (S : ReferenceSet) (old new : List NodeState) → TakeParts S old new → (n : ℕ)
    → n ≡ length old → 0 < n
    → whole (mixed old new n) ≡ history (references_of (whole old) ∪ of_first_shards (length old) n S)
taken_by_all S old new each zero is some = absurd (omega arith)
taken_by_all S old new each (suc k) is some = taken S old new each k (omega (arith, is))

pub parts_taken : (S : ReferenceSet) (old new : List NodeState) → IsShardCount (length old)
    → length new ≡ length old → TakeParts S old new
    → whole new ≡ history (references_of (whole old) ∪ S)
parts_taken S old new valid long each =
    let count = length old in
    let some = some_count count valid in
    ap whole (sym (mixed_all old new long))
    ∙ taken_by_all S old new each count refl some
    ∙ all_parts count (references_of (whole old)) S (λ r. omega (arith, some))

pub part_is : (count i horizon : ℕ) (es : List Entry)
    → record { horizon = horizon; given = list_references_of (part_of_entries count i es) }
    ≡ of_shard count i (record { horizon = horizon; given = list_references_of es })
part_is count i horizon es = λ k. record { horizon = horizon; given = parts_hold count i es k }

pub message_part : (count i : ℕ) (message : Message)
    → refs_in (part_of_message count i message) ≡ of_shard count i (refs_in message)
message_part count i (Entries sender horizon es) = part_is count i horizon es
message_part count i (Digest sender horizon digests) = refl
message_part count i (Want sender horizon request) = refl

-- ---- the laws

pub batch_is_of_parts : BatchIsOfParts
batch_is_of_parts batch old new goes =
    parts_taken (set_of_list batch) old new goes.count goes.long
    (λ i lt. ap (λ (n : NodeView). n.history) (goes.each i lt))

pub message_is_of_parts : MessageIsOfParts
message_is_of_parts message old new goes =
    parts_taken (refs_in message) old new goes.count goes.long
    (λ i lt. ap (λ (n : NodeView). n.history) (goes.each i lt).1 ∙ ap (λ S. history (references_of (shard_at old i).history ∪ S)) (message_part (length old) i message))

pub history_is_of_parts : HistoryIsOfParts
history_is_of_parts h old new goes =
    parts_taken (references_of h) old new goes.count goes.long
    (λ i lt. ap (λ (n : NodeView). n.history) (goes.each i lt) ∙ ap (λ S. history (references_of (shard_at old i).history ∪ S)) (part_is (length old) i h.horizon (entries_of h)))

gathered_some : (shards : List NodeState) (made : ℕ → HistoryView) → made 0 ≡ whole []
    → ((i : ℕ) → i < length shards → made (i + 1) ≡ join (made i) (shard_at shards i).history)
    → (k : ℕ) → k ≤ length shards → made k ≡ whole (take k shards)
gathered_some shards made none each zero le = none
gathered_some shards made none each (suc k) le =
    ap made (sym (add-one k))
    ∙ each k (omega arith)
    ∙ ap (λ h. join h (shard_at shards k).history) (gathered_some shards made none each k (omega arith))
    ∙ sym (whole_more shards k (omega arith))

pub gathered_is_whole : GatheredIsWhole
gathered_is_whole shards made none each =
    gathered_some shards made (none ∙ none_joined) each (length shards) (omega arith)
    ∙ ap whole (take_all (length shards) shards (omega arith))

-- each of the first k shards has filled its digests
abbrev Fills : List NodeState → (ℕ → List (List ℕ)) → Type 0
Fills shards table = (i : ℕ) → i < length shards → FillsShard (length shards) i (table i) (digests_of (entries_of (shard_at shards i).history)) (table (i + 1))

filled_long : (shards : List NodeState) (table : ℕ → List (List ℕ)) → length (table 0) ≡ BUCKETS
    → Fills shards table → (k : ℕ) → k ≤ length shards → length (table k) ≡ BUCKETS
filled_long shards table long fills zero le = long
filled_long shards table long fills (suc k) le =
    ap (λ (n : ℕ). length (table n)) (sym (add-one k)) ∙ (fills k (omega arith)).size ∙ filled_long shards table long fills k (omega arith)

filled_some : (shards : List NodeState) (table : ℕ → List (List ℕ)) → AreShards shards
    → Fills shards table → (k : ℕ) → k ≤ length shards
    → AreGathered (length shards) k (entries_of (whole shards)) (table k)
filled_some shards table are fills zero le = λ bucket low less. absurd (omega (arith, less))
filled_some shards table are fills (suc k) le =
    subst (λ (n : ℕ). AreGathered (length shards) n (entries_of (whole shards)) (table n)) (add-one k)
    (gathered_more (length shards) k (entries_of (whole shards)) (table k) (digests_of (entries_of (shard_at shards k).history)) (table (k + 1)) (fills k (omega arith))
    (λ bucket low is. digest_whole shards k bucket are (omega arith) low is) (filled_some shards table are fills k (omega arith)))

pub digests_are_gathered : DigestsAreGathered
digests_are_gathered shards table are long fills =
    all_gathered (length shards) (entries_of (whole shards)) (table (length shards)) (some_shards shards are) (filled_long shards table long fills (length shards) (omega arith)) (filled_some shards table are fills (length shards) (omega arith))
