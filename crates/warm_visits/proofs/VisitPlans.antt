-- The errands of a visit, from one shard on.
use Rattle.std.proofs.Common.{◌≡◌, ◌≢◌, ℕ, zero, suc, ◌+◌, ◌-◌, ◌<◌, ◌≤◌, false, List, [], ◌∷◌, ◌++◌, length, map, get_or, refl, sym, ap, ◌∙◌, arith}
use Rattle.std.specs.Prelude.{None}
use Rattle.std.specs.List.{flat_map, range_with_len}
use Rattle.warm_stamps.specs.declared.Reference.{Reference}
use Rattle.warm_history.specs.Entry.{Entry}
use Rattle.warm_history.specs.ReferenceSets.{ReferenceSet, set_of_list}
use Rattle.warm_history.specs.Histories.{history_of_entries_at, references_of}
use Rattle.warm_visits.specs.Given.{at_horizon}
use Rattle.warm_visits.specs.Parts.{AreShardParts, IsFirstSome}
use Rattle.warm_visits.specs.ShardNumbers.{of_shard}
use Rattle.warm_visits.specs.declared.giving.Parts.{Parts}
use Rattle.warm_visits.specs.declared.giving.Parts.TheVariants.{Batch, Entries}
use Rattle.warm_visits.specs.declared.visit.Work.TheVariants.{Give}
use Rattle.warm_visits.specs.Plans.{give_from, raise_from, later_shards}
use Rattle.warm_visits.specs.VisitParts.{IsFirstPart, part_at, parts_count, visit_of}
use Rattle.warm_visits.specs.Visits.{Errand, absorb_visit, at_shard, begun, ends, give_part, give_plan, give_visit, giving, nothing, part_errand, raise_plan}
use Rattle.warm_visits.proofs.PartEntryLemmas.{batch_refs, held_none, held_some, part_refs}

-- ---- from one shard on

shards_more : (first count : ℕ) → first < count
    → later_shards first count ≡ first ∷ later_shards (first + 1) count
shards_more first count lt =
    let more : count - first ≡ suc (count - (first + 1)) = omega arith in
    ap (λ n. range_with_len first n) more

shards_none : (first count : ℕ) → count ≤ first → later_shards first count ≡ []
shards_none first count le =
    let none : count - first ≡ 0 = omega arith in
    ap (λ n. range_with_len first n) none

-- a shard is raised, and then those after it
pub raise_here : (count time first : ℕ) → first < count → raise_from count time first
    ≡ at_shard first (giving (at_horizon time)) ∷ raise_from count time (first + 1)
raise_here count time first lt =
    ap (λ is. map (λ i. at_shard i (giving (at_horizon time))) is) (shards_more first count lt)

pub raise_end : (count time first : ℕ) → count ≤ first → raise_from count time first ≡ []
raise_end count time first le =
    ap (λ is. map (λ i. at_shard i (giving (at_horizon time))) is) (shards_none first count le)

abbrev give_at : (ℕ → ReferenceSet) → List ℕ → List Errand
give_at part is = flat_map (λ i. give_part i (part i)) is

some_errand : (i : ℕ) (S : ReferenceSet) (rs : List Reference) → rs ≢ []
    → part_errand i S rs ≡ at_shard i (giving S) ∷ []
some_errand i S [] some = absurd (some refl)
some_errand i S (r ∷ rs) some = refl

-- a shard is given its part, and then those after it
pub give_here : (count : ℕ) (part : ℕ → ReferenceSet) (first : ℕ) → first < count
    → (part first).given ≢ [] → give_from count part first
    ≡ at_shard first (giving (part first)) ∷ give_from count part (first + 1)
give_here count part first lt some =
    ap (give_at part) (shards_more first count lt)
    ∙ ap (λ es. es ++ give_from count part (first + 1)) (some_errand first (part first) (part first).given some)

-- a shard without a part is passed over
pub give_past : (count : ℕ) (part : ℕ → ReferenceSet) (first : ℕ) → first < count
    → (part first).given ≡ [] → give_from count part first ≡ give_from count part (first + 1)
give_past count part first lt none =
    ap (give_at part) (shards_more first count lt)
    ∙ ap (λ rs. part_errand first (part first) rs ++ give_from count part (first + 1)) none

pub give_end : (count : ℕ) (part : ℕ → ReferenceSet) (first : ℕ) → count ≤ first
    → give_from count part first ≡ []
give_end count part first le = ap (give_at part) (shards_none first count le)

skipped : (n count from first : ℕ) (part : ℕ → ReferenceSet) → from + n ≡ first → first ≤ count
    → ((i : ℕ) → from ≤ i → i < first → (part i).given ≡ [])
    → give_from count part from ≡ give_from count part first
skipped zero count from first part is le none =
    let same : from ≡ first = omega arith in
    ap (give_from count part) same
skipped (suc n) count from first part is le none =
    give_past count part from (omega arith) (none from (omega arith) (omega arith))
    ∙ skipped n count (from + 1) first part (omega arith) le (λ i low less. none i (omega arith) less)

pub give_skip : (count from first : ℕ) (parts : Parts) → parts_count parts ≡ count
    → IsFirstPart parts from first
    → give_from count (part_at parts) from ≡ give_from count (part_at parts) first
give_skip count from first parts long is =
    skipped (first - from) count from first (part_at parts) (omega (arith, is.from)) (omega (arith, is.below, long)) is.passed

-- ---- parts

no_length : (es : List Entry) → (es ≡ [] → ⊥) → length es ≡ 0 → ⊥
no_length [] some none = some refl
no_length (e ∷ es) some none = absurd (omega (arith, none))

pub first_of_entries : (horizon : ℕ) (parts : List (List Entry)) (start first : ℕ)
    → IsFirstSome parts start first → IsFirstPart (Entries horizon parts) start first
first_of_entries horizon parts start first is = record {
  from = is.from;
  below = is.below;
  passed = λ i le lt. held_none (get_or parts i []) (ap length (is.passed i le lt));
  there = λ lt. held_some (get_or parts first []) (no_length (get_or parts first []) (is.there lt));
}

alike : (f g : ℕ → ReferenceSet) (a n : ℕ) → ((i : ℕ) → a ≤ i → i < a + n → f i ≡ g i)
    → give_at f (range_with_len a n) ≡ give_at g (range_with_len a n)
alike f g a zero same = refl
alike f g a (suc n) same =
    let first = same a (omega arith) (omega arith) in
    let rest = alike f g (a + 1) n (λ i le lt. same i (omega (arith, le)) (omega (arith, lt))) in
    λ k. give_part a (first k) ++ rest k

-- what is given from the first part on is the whole plan
pub give_begun : (count first : ℕ) (S : ReferenceSet) (parts : Parts) → parts_count parts ≡ count
    → IsFirstPart parts 0 first
    → ((i : ℕ) → i < count → part_at parts i ≡ of_shard count i S)
    → give_from count (part_at parts) first ≡ give_plan count S
give_begun count first S parts long is each =
    let none : count - 0 ≡ count = omega arith in
    sym (give_skip count 0 first parts long is)
    ∙ ap (λ n. give_at (part_at parts) (range_with_len 0 n)) none
    ∙ alike (part_at parts) (λ i. of_shard count i S) 0 count (λ i le lt. each i (omega (arith, lt)))

pub batch_part : (count : ℕ) (batch : List Reference) (parts : List (List Reference))
    → AreShardParts (λ (r : Reference). r.page) count batch parts → (i : ℕ) → i < count
    → part_at (Batch parts) i ≡ of_shard count i (set_of_list batch)
batch_part count batch parts are i lt =
    batch_refs count count i batch (get_or parts i []) refl (are.part i lt)

pub entries_part : (count horizon : ℕ) (es : List Entry) (parts : List (List Entry))
    → AreShardParts (λ (e : Entry). e.page) count es parts → (i : ℕ) → i < count
    → part_at (Entries horizon parts) i
    ≡ of_shard count i (references_of (history_of_entries_at horizon es))
entries_part count horizon es parts are i lt =
    part_refs count count i horizon es (get_or parts i []) refl (are.part i lt)

-- ---- visits that begin

pub absorb_begun : (id count first : ℕ) (batch : List Reference) (parts : List (List Reference))
    → AreShardParts (λ (r : Reference). r.page) count batch parts
    → IsFirstPart (Batch parts) 0 first
    → visit_of id count 0 count first (Give (Batch parts)) None false ≡ absorb_visit id count batch
absorb_begun id count first batch parts are is =
    let plan = ap (λ es. es ++ give_from count (part_at (Batch parts)) first) (raise_end count 0 count (omega arith))
    ∙ give_begun count first (set_of_list batch) (Batch parts) are.size is (batch_part count batch parts are) in
    ap (λ es. begun id count es nothing ends) plan

pub raise_begun : (count time : ℕ) → raise_from count time 0 ≡ raise_plan count time
raise_begun count time =
    let none : count - 0 ≡ count = omega arith in
    ap (λ n. map (λ i. at_shard i (giving (at_horizon time))) (range_with_len 0 n)) none

pub entries_begun : (id count horizon first : ℕ) (es : List Entry) (parts : List (List Entry))
    → AreShardParts (λ (e : Entry). e.page) count es parts
    → IsFirstPart (Entries horizon parts) 0 first
    → visit_of id count horizon 0 first (Give (Entries horizon parts)) None false
    ≡ give_visit id count (references_of (history_of_entries_at horizon es))
entries_begun id count horizon first es parts are is =
    let given = give_begun count first (references_of (history_of_entries_at horizon es)) (Entries horizon parts) are.size is (entries_part count horizon es parts are) in
    let raised = raise_begun count horizon in
    λ k. begun id count (raised k ++ given k) nothing ends
