-- What a thread's calls add to its own calls, and what these gave.
use Rattle.std.proofs.Common.{◌≡◌, ◌≢◌, inl, inr, ℕ, zero, suc, ◌<◌, List, [], ◌∷◌, ◌++◌, length, map, refl, sym, ap, subst, ◌∙◌, arith, append-nil, append_assoc}
use Rattle.std.proofs.lemmas.Bool.{cases_eq}
use Rattle.std.proofs.lemmas.List.{get_or-set_other, length-append, length-set, map_push}
use Rattle.warm_history.specs.ReferenceSets.{ReferenceSet, set_of_list, ◌∪◌}
use Rattle.warm_machine.specs.Runs.{operation}
use Rattle.warm_turn.specs.CallHistories.{as_spent}
use Rattle.warm_visits.specs.ShardNumbers.{IsShardCount, of_shard}
use Rattle.warm_visits.proofs.ErrandLemmas.{some_count}
use Rattle.warm_shard_machine.specs.declared.calls.ShardCall.{ShardCall}
use Rattle.warm_shard_machine.specs.declared.calls.ShardCall.TheVariants.{Raise}
use Rattle.warm_shard_machine.specs.declared.calls.ShardReply.{ShardReply}
use Rattle.warm_shard_machine.specs.declared.calls.ShardReply.TheVariants.{Kept}
use Rattle.warm_concurrent.specs.Attached.{KeepsOtherPasses, Known, ShardPass, no_pass, shard_pass}
use Rattle.warm_concurrent.specs.Clauses.{Got}
use Rattle.warm_concurrent.specs.Given.{HasGiven, SameGiven, gave, gave_call, gave_together, log_at, only_horizon}
use Rattle.warm_shard_machine.specs.Laws.{Log}
use Rattle.warm_concurrent.specs.Laws.{all_of}
use Rattle.warm_concurrent.specs.Whole.{RaisesFirst, RaisesShard}
use Rattle.warm_shards.specs.EachShard.{First}
use Rattle.warm_concurrent.proofs.ListLemmas.{push_each}
use Rattle.warm_concurrent.proofs.ReferenceSetLemmas.{all_of_push, gave_append, sum, sum_is, union_none}

-- ---- one pass

-- these calls were added to the pass's own
pub record Adds (old : ShardPass) (more : Log) (new : ShardPass) : Type 0 where
  pub number : new.view.number ≡ old.view.number
  pub mine : new.view.mine ≡ old.view.mine ++ more

-- calls that gave just T were added to the pass's own
abbrev pub Gives : ReferenceSet → ShardPass → ShardPass → Type 0
Gives T old new = (more : Log) × Adds old more new × (gave more ≡ T)

pub gives_none : (old new : ShardPass) → new ≡ old → Gives (set_of_list []) old new
gives_none old new same =
    subst (Gives (set_of_list []) old) (sym same) ([], record { number = refl; mine = sym (append-nil old.view.mine) }, refl)

pub gives_as : (S T : ReferenceSet) (old new : ShardPass) → S ≡ T → Gives S old new → Gives T old new
gives_as S T old new same gives = (gives.0, gives.1, gives.2 ∙ same)

gives_then : (S T : ReferenceSet) (old mid new : ShardPass) → Gives S old mid → Gives T mid new
    → Gives (S ∪ T) old new
gives_then S T old mid new (xs, one, is) (ys, other, also) = (
  xs ++ ys,
  record {
    number = other.number ∙ one.number;
    mine = other.mine ∙ ap (λ l. l ++ ys) one.mine ∙ append_assoc old.view.mine xs ys;
  },
  gave_append xs ys ∙ (λ i. is i ∪ also i),
)

pub gives_called : (old new : ShardPass) (c : ShardCall) (r : ShardReply) → Got old.view c r new.view
    → Gives (gave_call c r) old new
gives_called old new c r got =
    (operation old.view.number c r ∷ [], record { number = got.number; mine = got.mine }, union_none (gave_call c r))

-- ---- all passes

-- each pass gave its set
abbrev pub EachGives : (ℕ → ReferenceSet) → ℕ → List ShardPass → List ShardPass → Type 0
EachGives T k old new = First no_pass (λ i. Gives (T i)) k old new

pub as_given : (So : ℕ → ShardPass → ShardPass → Type 0) (T : ℕ → ReferenceSet) (k : ℕ)
    (old new : List ShardPass) → ((i : ℕ) (p q : ShardPass) → So i p q → Gives (T i) p q)
    → First no_pass So k old new → EachGives T k old new
as_given So T k old new each so = record {
  count = so.count;
  first = λ i lt. each i (shard_pass old i) (shard_pass new i) (so.first i lt);
  others = so.others;
}

pub given_then : (T U : ℕ → ReferenceSet) (k : ℕ) (old mid new : List ShardPass)
    → EachGives T k old mid → EachGives U k mid new → EachGives (λ i. T i ∪ U i) k old new
given_then T U k old mid new one other = record {
  count = other.count ∙ one.count;
  first = λ i lt. gives_then (T i) (U i) (shard_pass old i) (shard_pass mid i) (shard_pass new i) (one.first i lt) (other.first i lt);
  others = λ i le. other.others i le ∙ one.others i le;
}

pub given_as : (T U : ℕ → ReferenceSet) (k : ℕ) (old new : List ShardPass) → ((i : ℕ) → T i ≡ U i)
    → EachGives T k old new → EachGives U k old new
given_as T U k old new same given =
    as_given (λ i. Gives (T i)) U k old new (λ i p q. gives_as (T i) (U i) p q (same i)) given

pub given_none : (k : ℕ) (old new : List ShardPass) → new ≡ old
    → EachGives (λ i. set_of_list []) k old new
given_none k old new same = record {
  count = ap length same;
  first = λ i lt. gives_none (shard_pass old i) (shard_pass new i) (ap (λ (ps : List ShardPass). shard_pass ps i) same);
  others = λ i le. ap (λ (ps : List ShardPass). shard_pass ps i) same;
}

-- the calls of the first k shards, in a list
made : (T : ℕ → ReferenceSet) (old new : List ShardPass) (k : ℕ)
    → ((i : ℕ) → i < k → Gives (T i) (shard_pass old i) (shard_pass new i))
    → (more : List Log) × (length more ≡ k)
    × ((i : ℕ) → i < k → Adds (shard_pass old i) (log_at more i) (shard_pass new i))
    × (gave_together more ≡ sum T k)
made T old new zero each = ([], refl, λ i lt. absurd (omega (arith, lt)), refl)
made T old new (suc k) each =
    let rest = made T old new k (λ i lt. each i (omega (arith, lt))) in
    let last = each k (omega arith) in (
      rest.0 ++ last.0 ∷ [],
      length-append rest.0 (last.0 ∷ []) ∙ omega (arith, rest.1),
      λ i lt. push_each (λ j log. Adds (shard_pass old j) log (shard_pass new j)) rest.0 last.0 [] k rest.1 rest.2 last.1 i (omega (arith, lt)),
      ap all_of (map_push gave rest.0 last.0)
          ∙ all_of_push (map gave rest.0) (gave last.0)
          ∙ (λ i. rest.3 i ∪ last.2 i),
    )

-- if each pass gave one of these sets, all gave what the sets are together
pub given_by_sum : (T : ℕ → ReferenceSet) (S : ReferenceSet) (old new : List ShardPass)
    → ((i : ℕ) → i < length old → Gives (T i) (shard_pass old i) (shard_pass new i))
    → SameGiven (sum T (length old)) S → HasGiven S old new
given_by_sum T S old new each same =
    let calls = made T old new (length old) each in (
      calls.0,
      record {
        count = calls.1;
        numbers = λ i lt. (calls.2 i lt).number;
        each = λ i lt. (calls.2 i lt).mine;
      },
      subst (λ U. SameGiven U S) (sym calls.3) same,
    )

-- if each pass gave its part of a set, all gave the set
pub all_given : (S : ReferenceSet) (old new : List ShardPass) → IsShardCount (length old)
    → EachGives (λ i. of_shard (length old) i S) (length old) old new → HasGiven S old new
all_given S old new count each =
    let k = length old in
    let some : 0 < k = some_count k count in
    given_by_sum (λ i. of_shard k i S) S old new each.first (sum_is k k S some (λ r. omega (arith, some)))

-- ---- horizons

pub raised_each : (time k : ℕ) (old new : List ShardPass) → RaisesFirst time k old new
    → EachGives (λ i. only_horizon time) k old new
raised_each time k old new so =
    as_given (RaisesShard time) (λ i. only_horizon time) k old new (λ i p q r. gives_called p q (Raise time) (Kept r.0) r.1) so

-- ---- calls that gave nothing

-- what no shard gave
abbrev pub nothing : ℕ → ReferenceSet
nothing i = set_of_list []

pub none_twice : (old mid new : List ShardPass) → EachGives nothing (length old) old mid
    → EachGives nothing (length mid) mid new
    → EachGives nothing (length old) old new
none_twice old mid new one other =
    let k = length old in
    let rest : EachGives nothing k mid new = subst (λ (n : ℕ). EachGives nothing n mid new) one.count other in
    given_as (λ i. set_of_list [] ∪ set_of_list []) nothing k old new (λ i. refl)
    (given_then nothing nothing k old mid new one rest)

-- the other passes are as they were
pub other_same : (old new : List ShardPass) (i j : ℕ) → KeepsOtherPasses old i new → j ≢ i
    → shard_pass new j ≡ shard_pass old j
other_same old new i j others other =
    ap (λ (ps : List ShardPass). shard_pass ps j) others ∙ get_or-set_other old i j (shard_pass new i) no_pass other

pub gives_spent : (old new : ShardPass) → new.view ≡ as_spent old.view → Gives (set_of_list []) old new
gives_spent old new is = (
  [],
  record {
    number = ap (λ (v : Known). v.number) is;
    mine = ap (λ (v : Known). v.mine) is ∙ sym (append-nil old.view.mine);
  },
  refl,
)

-- if one shard gave nothing, and the others were not called
pub one_nothing : (old new : List ShardPass) (i : ℕ) → i < length old → KeepsOtherPasses old i new
    → Gives (set_of_list []) (shard_pass old i) (shard_pass new i)
    → EachGives nothing (length old) old new
one_nothing old new i lt others gives = record {
  count = ap length others ∙ length-set old i (shard_pass new i);
  first = λ j less. elim (cases_eq j i) [
    | inl same ↦ subst (λ (n : ℕ). Gives (set_of_list []) (shard_pass old n) (shard_pass new n)) (sym same) gives
    | inr other ↦ gives_none (shard_pass old j) (shard_pass new j) (other_same old new i j others other)
  ];
  others = λ j le. other_same old new i j others (λ e. omega (arith, e, le, lt));
}
