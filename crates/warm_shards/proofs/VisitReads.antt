-- A visit that reads, and that nobody interrupts: what a node says to an errand that reads, and the
-- shards that are read.
use Rattle.std.proofs.Common.{◌≡◌, ◌⊎◌, inl, inr, ℕ, ◌+◌, ◌-◌, ◌<◌, ◌≤◌, Bool, true, false, List, [], ◌∷◌, length, map, set, refl, sym, ap, subst, ◌∙◌, arith}
use Rattle.std.specs.Prelude.{◌↔◌, IsTrue, None, Option, Some}
use Rattle.std.specs.List.{range_with_len}
use Rattle.std.proofs.lemmas.Bool.{cases_eq}
use Rattle.warm_stamps.specs.declared.PageId.{PageId}
use Rattle.warm_history.specs.Histories.{HistoryView, entries_of}
use Rattle.warm_digest.specs.BucketDigests.{digests_of}
use Rattle.warm_frames.specs.declared.message.Message.{Message}
use Rattle.warm_peer.specs.Since.{HasMoreSince, sent_since}
use Rattle.warm_gossip.specs.State.{NodeState}
use Rattle.warm_shards.specs.Clauses.{SameShards}
use Rattle.warm_visits.specs.Given.{IsSame}
use Rattle.warm_shards.specs.Shards.{shard_at}
use Rattle.warm_visits.specs.Plans.{from_shard}
use Rattle.warm_shards.specs.VisitLaws.{Alone, EntersAlone}
use Rattle.warm_visits.specs.Visits.{After, Ask, Enters, Errand, Made, NodeSays, Said, Takes, VisitState, at_each, at_shard, copied, copying, offered, offering, refused, shard_next, sending, sent}
use Rattle.warm_shards.proofs.Calls.{same_one}
use Rattle.warm_visits.proofs.ErrandLemmas.{errand_here, errand_none}

-- ---- what a node says

pub offering_said : (n m : NodeState) (said : Said) → NodeSays n offering said m
    → ((horizon : ℕ) × (table : List (List ℕ)) × (said ≡ offered horizon table)
    × (horizon ≡ n.history.horizon) × (table ≡ digests_of (entries_of n.history)) × IsSame n m)
    ⊎ ((said ≡ refused) × IsSame n m)
offering_said n m (offered horizon table) says = inl (horizon, table, refl, says.0, says.1, says.2)
offering_said n m refused says = inr (refl, says)
offering_said n m said says = absurd says

pub sending_said : (n m : NodeState) (bucket : ℕ) (after : Option PageId) (said : Said)
    → NodeSays n (sending bucket after) said m
    → ((message : Message) × (more : Bool) × (said ≡ sent message more)
    × (message ≡ sent_since n.id n.history bucket 0 after)
    × (IsTrue more ↔ HasMoreSince n.history bucket 0 after) × IsSame n m)
    ⊎ ((said ≡ refused) × IsSame n m)
sending_said n m bucket after (sent message more) says = inl (message, more, refl, says.0, says.1, says.2)
sending_said n m bucket after refused says = inr (refl, says)
sending_said n m bucket after said says = absurd says

pub copying_said : (n m : NodeState) (said : Said) → NodeSays n copying said m
    → ((h : HistoryView) × (said ≡ copied h) × (h ≡ n.history) × IsSame n m)
    ⊎ ((said ≡ refused) × IsSame n m)
copying_said n m (copied h) says = inl (h, refl, says.0, says.1)
copying_said n m refused says = inr (refl, says)
copying_said n m said says = absurd says

-- ---- shards that are read

pub same_read : (old ns xs : List NodeState) (i : ℕ) → i < length ns → SameShards old ns
    → xs ≡ set ns i (shard_at xs i) → IsSame (shard_at ns i) (shard_at xs i) → SameShards old xs
same_read old ns xs i lt same is read =
    subst (SameShards old) (sym is) (same_one old ns i (shard_at xs i) lt same read.0 read.1)

-- ---- entry by entry

-- a visit with these errands, which has made this
abbrev pub visit_at : ℕ → ℕ → List Errand → Made → After → Bool → VisitState
visit_at id count plan made after stopped = record {
  id = id;
  count = count;
  plan = plan;
  made = made;
  after = after;
  stopped = stopped;
}

-- the errands of all shards are those from the first shard on
pub from_first : (count : ℕ) (ask : Ask) → at_each count ask ≡ from_shard 0 count ask
from_first count ask =
    let all : count ≡ count - 0 = omega arith in
    ap (λ n. map (λ i. at_shard i ask) (range_with_len 0 n)) all

-- one entry, at this shard
pub record EntersAt (v : VisitState) (ns : List NodeState) (i : ℕ) (ask : Ask) (rest : List Errand)
    (said : Said) (y : Alone) : Type 0 where
  pub ready : v.stopped ≡ false
  pub says : NodeSays (shard_at ns i) ask said (shard_at y.shards i)
  pub takes : Takes v i ask rest said y.visit
  pub changed : y.shards ≡ set ns i (shard_at y.shards i)

pub enters_at : (s y : Alone) (e : Errand) (said : Said) (v : VisitState) (i : ℕ) (ask : Ask)
    (rest : List Errand) → s.visit ≡ v → v.plan ≡ at_shard i ask ∷ rest → EntersAlone s e said y
    → EntersAt v s.shards i ask rest said y
enters_at s y e said v i ask rest visit plan (enters, set_to) =
    let here : Enters v (shard_at s.shards e.shard) e said y.visit (shard_at y.shards e.shard) = subst (λ (x : VisitState). Enters x (shard_at s.shards e.shard) e said y.visit (shard_at y.shards e.shard)) visit enters in
    let both : e ∷ here.rest ≡ at_shard i ask ∷ rest = sym here.next ∙ plan in
    let first : e ≡ at_shard i ask = cc in
    let others : here.rest ≡ rest = cc in
    record {
      ready = here.ready;
      says = subst (λ (x : Errand). NodeSays (shard_at s.shards x.shard) x.ask said (shard_at y.shards x.shard)) first here.says;
      takes = subst (λ es. Takes v i ask es said y.visit) others (subst (λ (x : Errand). Takes v x.shard x.ask here.rest said y.visit) first here.takes);
      changed = subst (λ (x : Errand). y.shards ≡ set s.shards x.shard (shard_at y.shards x.shard)) first set_to;
    }

pub not_entered : (s y : Alone) (e : Errand) (said : Said) (v : VisitState) → s.visit ≡ v
    → v.plan ≡ [] → EntersAlone s e said y → ⊥
not_entered s y e said v visit none (enters, set_to) =
    let no : [] ≡ e ∷ enters.rest = sym none ∙ ap (λ (x : VisitState). x.plan) (sym visit) ∙ enters.next in
    absurd (cc)

-- the next shard is there
pub next_there : (s y : Alone) (e : Errand) (said : Said) (v : VisitState) (k count : ℕ) (ask : Ask)
    → s.visit ≡ v → v.plan ≡ from_shard k count ask → k ≤ count → EntersAlone s e said y → k < count
next_there s y e said v k count ask visit plan le entered = elim (cases_eq k count) [
  | inl same ↦ absurd (not_entered s y e said v visit (plan ∙ errand_none k count ask (omega (arith, same))) entered)
  | inr other ↦ omega (arith, other, le)
]

-- ---- the end

pub no_errand : (stopped : Bool) (plan : List Errand) → stopped ≡ false
    → shard_next stopped plan ≡ None → plan ≡ []
no_errand true plan going over = let no : true ≡ false = going in absurd (cc)
no_errand false [] going over = refl
no_errand false (e ∷ es) going over = let no : Some e.shard ≡ None = over in absurd (cc)

-- if no errand is left at a shard, all shards had theirs
pub all_there : (k count : ℕ) (ask : Ask) (stopped : Bool) → k ≤ count → stopped ≡ false
    → shard_next stopped (from_shard k count ask) ≡ None → k ≡ count
all_there k count ask stopped le going over = elim (cases_eq k count) [
  | inl same ↦ same
  | inr other ↦
      let some = errand_here k count ask (omega (arith, other, le)) in
      let none = no_errand stopped (from_shard k count ask) going over in
      let no : [] ≡ at_shard k ask ∷ from_shard (k + 1) count ask = sym none ∙ some in
      absurd (cc)
]
