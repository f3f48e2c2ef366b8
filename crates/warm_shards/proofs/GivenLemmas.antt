-- If each shard is given its part of a set of references, all together are given the set.
use Rattle.std.proofs.Common.{◌≡◌, ◌⊎◌, inl, inr, ℕ, zero, suc, ◌+◌, ◌<◌, ◌≤◌, Bool, List, [], ◌∷◌, length, max, set, get_or, Result, Ok, Err, refl, sym, ap, subst, ◌∙◌, arith}
use Rattle.std.specs.Prelude.{nat_eq, nat_lt}
use Rattle.std.specs.List.{AllByRecursion}
use Rattle.std.proofs.lemmas.Bool.{cases_eq, cases_lt, eqb-true, le-ltb, lt-ltb}
use Rattle.std.proofs.lemmas.List.{length-set}
use Rattle.warm_stamps.specs.declared.PageId.{PageId}
use Rattle.warm_stamps.specs.declared.Reference.{Reference}
use Rattle.warm_history.specs.ReferenceSets.{ReferenceSet, ◌∪◌}
use Rattle.warm_history.specs.Histories.{HistoryView, IsHistory, history, references_of}
use Rattle.warm_history.proofs.HistoryLemmas.{horizon-history}
use Rattle.warm_history.proofs.JoinLemmas.{both_assoc, history_first, raised_to_no_later}
use Rattle.warm_pool.specs.Unchanged.{KeepsBytes}
use Rattle.warm_pool.specs.View.{view_of}
use Rattle.warm_gossip.specs.declared.fault.NodeFault.{NodeFault}
use Rattle.warm_gossip.specs.declared.fault.NodeFault.TheVariants.{Memory}
use Rattle.warm_gossip.specs.State.{NodeState, NodeView, empty_node, node_view}
use Rattle.warm_shards.specs.Clauses.{HasPart, TakesInFirst}
use Rattle.warm_shards.specs.Given.{AreGiven, Gives}
use Rattle.warm_visits.specs.Given.{GivesOne, IsGiven, IsSame, at_horizon}
use Rattle.warm_shards.specs.Shards.{AreShards, no_shard, shard_at, whole}
use Rattle.warm_visits.specs.ShardNumbers.{of_first_shards, of_shard, shard_of}
use Rattle.warm_shards.proofs.AreShardsLemmas.{each_still, some_shards}
use Rattle.warm_frame_table.proofs.ListLemmas.{at_set}
use Rattle.warm_shards.proofs.Buckets.{shard_horizon}
use Rattle.warm_shards.proofs.Calls.{keep_then, read_at, takes_shard}
use Rattle.warm_pool.proofs.UnchangedLemmas.{more_bytes, same_bytes}
use Rattle.warm_visits.proofs.PartListLemmas.{only_part, other_part, part_is_own}
use Rattle.warm_visits.proofs.Lists.{filter_none, filter_within}
use Rattle.warm_visits.proofs.PartLemmas.{no_part}
use Rattle.warm_shards.proofs.WholeParts.{parts_taken}

-- ---- the step

-- each shard was given its part of S
pub record EachIsGiven (S : ReferenceSet) (old new : List NodeState) : Type 0 where
  pub count : length new ≡ length old
  pub each : (i : ℕ) → i < length old → IsGiven (of_shard (length old) i S) (shard_at old i) (shard_at new i)

-- what is so of each shard, and of what is read beyond the last, is so at each number
pub everywhere : (R : NodeState → NodeState → Type 0) → R no_shard no_shard → (old new : List NodeState)
    → length new ≡ length old → ((i : ℕ) → i < length old → R (shard_at old i) (shard_at new i))
    → (i : ℕ) → R (shard_at old i) (shard_at new i)
everywhere R none [] [] long each i = none
everywhere R none [] (m ∷ ms) long each i = absurd (omega arith)
everywhere R none (n ∷ ns) [] long each i = absurd (omega arith)
everywhere R none (n ∷ ns) (m ∷ ms) long each zero = each 0 (omega arith)
everywhere R none (n ∷ ns) (m ∷ ms) long each (suc i) =
    everywhere R none ns ms (omega arith) (λ j lt. each (suc j) (omega arith)) i

kept : (S : ReferenceSet) (old new : List NodeState) → EachIsGiven S old new → (i : ℕ)
    → (view_of (shard_at new i).pool ≡ view_of (shard_at old i).pool)
    × KeepsBytes (shard_at old i).pool (shard_at new i).pool
kept S old new have =
    everywhere (λ n m. (view_of m.pool ≡ view_of n.pool) × KeepsBytes n.pool m.pool) (refl, same_bytes no_shard.pool) old new have.count (λ i lt. (ap (λ (v : NodeView). v.pool) (have.each i lt).0, (have.each i lt).1))

still : (S : ReferenceSet) (old new : List NodeState) → AreShards old → EachIsGiven S old new
    → AreShards new
still S old new are have =
    each_still (max (shard_at old 0).history.horizon S.horizon) old new have.count are (λ i lt was.
    takes_shard (length old) (shard_at old 0).id (shard_at old 0).history.horizon i (shard_at old i) (shard_at new i) (of_shard (length old) i S) was (have.each i lt).0 (part_is_own (λ (r : Reference). r.page) (length old) i S.given))

-- after each shard was given its part of S, all together have been given S
pub given_all : (S : ReferenceSet) (old new : List NodeState) → AreShards old
    → EachIsGiven S old new → AreGiven S old new
given_all S old new are have =
    let id : (shard_at new 0).id ≡ (shard_at old 0).id = ap (λ (v : NodeView). v.id) (have.each 0 (some_shards old are)).0 in
    let h : whole new ≡ history (references_of (whole old) ∪ S) = parts_taken S old new are.count have.count (λ i lt. ap (λ (v : NodeView). v.history) (have.each i lt).0) in
    record {
      shards = still S old new are have;
      given = λ pool. (λ i. record { id = id i; history = h i; pool = pool });
      pools = record { count = have.count; views = λ i. (kept S old new have i).0; bytes = λ i. (kept S old new have i).1 };
    }

pub whole_given : (S : ReferenceSet) (old new : List NodeState) → AreGiven S old new
    → whole new ≡ history (references_of (whole old) ∪ S)
whole_given S old new have = ap (λ (v : NodeView). v.history) (have.given empty_node.pool)

pub given_id : (S : ReferenceSet) (old new : List NodeState) → AreGiven S old new
    → (shard_at new 0).id ≡ (shard_at old 0).id
given_id S old new have = ap (λ (v : NodeView). v.id) (have.given empty_node.pool)

-- ---- one shard after the other

-- the first k shards were given their part of S, and the others are as they were
pub record GivenFirst (S : ReferenceSet) (k : ℕ) (old ns : List NodeState) : Type 0 where
  pub count : length ns ≡ length old
  pub first : (i : ℕ) → i < k → IsGiven (of_shard (length old) i S) (shard_at old i) (shard_at ns i)
  pub rest : (i : ℕ) → k ≤ i → IsSame (shard_at old i) (shard_at ns i)

same_then : (a b c : NodeState) → IsSame a b → IsSame b c → IsSame a c
same_then a b c x y = (y.0 ∙ x.0, more_bytes a.pool b.pool c.pool x.1 y.1)

given_then : (S : ReferenceSet) (a b c : NodeState) → IsSame a b → IsGiven S b c → IsGiven S a c
given_then S a b c x y = (
  subst (λ (v : NodeView). node_view c ≡ record v { history = history (references_of v.history ∪ S) }) x.0 y.0,
  more_bytes a.pool b.pool c.pool x.1 y.1,
)

-- a node that is as it was was given no reference, at a horizon that is not later
given_none : (time : ℕ) (n m : NodeState) → IsHistory n.history → time ≤ n.history.horizon
    → IsSame n m → IsGiven (at_horizon time) n m
given_none time n m valid le same = (
  same.0 ∙ ap (λ (h : HistoryView). let v : NodeView = record (node_view n) { history = h } in v) (sym (raised_to_no_later n.history time valid le)),
  same.1,
)

-- S is at no later horizon than the shards
abbrev pub IsNoLater : ReferenceSet → List NodeState → Type 0
IsNoLater S ns = S.horizon ≤ (shard_at ns 0).history.horizon

no_more : (S T : ReferenceSet) (old : List NodeState) (i : ℕ) (m : NodeState) → AreShards old
    → i < length old → IsNoLater S old → at_horizon S.horizon ≡ T → IsSame (shard_at old i) m
    → IsGiven T (shard_at old i) m
no_more S T old i m are lt le is same =
    let o = are.each i lt in
    subst (λ (U : ReferenceSet). IsGiven U (shard_at old i) m) is (given_none S.horizon (shard_at old i) m o.valid (omega (arith, le, o.horizon)) same)

pub none_given : (S : ReferenceSet) (old : List NodeState) → GivenFirst S 0 old old
none_given S old = record {
  count = refl;
  first = λ i lt. absurd (omega arith);
  rest = λ i le. (refl, same_bytes (shard_at old i).pool);
}

-- the next shard has no part
pub given_past : (S P : ReferenceSet) (k : ℕ) (old ns : List NodeState) → AreShards old
    → k < length old → IsNoLater S old → P ≡ of_shard (length old) k S → P.given ≡ []
    → GivenFirst S k old ns → GivenFirst S (k + 1) old ns
given_past S P k old ns are lt le is none have = record {
  count = have.count;
  first = λ i less. elim (cases_eq k i) [
    | inl same ↦ subst (λ x. IsGiven (of_shard (length old) x S) (shard_at old x) (shard_at ns x)) same (no_more S (of_shard (length old) k S) old k (shard_at ns k) are lt le (λ j. record { horizon = S.horizon; given = (sym none ∙ ap (λ (T : ReferenceSet). T.given) is) j }) (have.rest k (omega arith)))
    | inr other ↦ have.first i (omega (arith, less, other))
  ];
  rest = λ i over. have.rest i (omega (arith, over));
}

-- the next shard was given its part P
pub given_more : (S P : ReferenceSet) (k : ℕ) (old ns : List NodeState) (n m d : NodeState)
    → k < length ns → n ≡ get_or ns k d → P ≡ of_shard (length old) k S → IsGiven P n m
    → GivenFirst S k old ns → GivenFirst S (k + 1) old (set ns k m)
given_more S P k old ns n m d lt at is given have =
    let part = of_shard (length old) k S in
    let here : IsGiven part (shard_at ns k) m = subst (λ (x : NodeState). IsGiven part x m) (read_at ns k n d lt at) (subst (λ (T : ReferenceSet). IsGiven T n m) is given) in
    record {
      count = length-set ns k m ∙ have.count;
      first = at_set no_shard (λ i x. i < k + 1 → IsGiven (of_shard (length old) i S) (shard_at old i) x) ns k m lt (λ less. given_then part (shard_at old k) (shard_at ns k) m (have.rest k (omega arith)) here) (λ i other less. have.first i (omega arith));
      rest = at_set no_shard (λ i x. k + 1 ≤ i → IsSame (shard_at old i) x) ns k m lt (λ over. absurd (omega arith)) (λ i other over. have.rest i (omega arith));
    }

-- a shard that has none yet refused its part
pub given_stays : (S : ReferenceSet) (k j : ℕ) (old ns : List NodeState) (n m d : NodeState)
    → j < length ns → k ≤ j → n ≡ get_or ns j d → IsSame n m → GivenFirst S k old ns
    → GivenFirst S k old (set ns j m)
given_stays S k j old ns n m d lt over at same have =
    let here : IsSame (shard_at ns j) m = subst (λ (x : NodeState). IsSame x m) (read_at ns j n d lt at) same in
    record {
      count = length-set ns j m ∙ have.count;
      first = at_set no_shard (λ i x. i < k → IsGiven (of_shard (length old) i S) (shard_at old i) x) ns j m lt (λ less. absurd (omega arith)) (λ i other less. have.first i less);
      rest = at_set no_shard (λ i x. k ≤ i → IsSame (shard_at old i) x) ns j m lt (λ le. same_then (shard_at old j) (shard_at ns j) m (have.rest j over) here) (λ i other le. have.rest i le);
    }

-- ---- the whole call

-- the part that a shard has of that of the first
first_has : (count k i : ℕ) (S : ReferenceSet) → i < k
    → of_shard count i S ≡ of_shard count i (of_first_shards count k S)
first_has count k i S lt =
    let low : Reference → Bool = λ r. nat_lt (shard_of count r.page) k in
    let own : Reference → Bool = λ r. nat_eq (shard_of count r.page) i in
    let same = filter_within own low (λ r is. let e : shard_of count r.page ≡ i = eqb-true (shard_of count r.page) i is in lt-ltb (shard_of count r.page) k (omega (arith, e, lt))) S.given in
    λ j. record { horizon = S.horizon; given = sym same j }

first_lacks : (count k i : ℕ) (S : ReferenceSet) → k ≤ i
    → at_horizon S.horizon ≡ of_shard count i (of_first_shards count k S)
first_lacks count k i S le =
    let low : Reference → Bool = λ r. nat_lt (shard_of count r.page) k in
    let own : Reference → Bool = λ r. nat_eq (shard_of count r.page) i in
    let none = filter_none own low (λ r is. let e : shard_of count r.page ≡ i = eqb-true (shard_of count r.page) i is in le-ltb (shard_of count r.page) k (omega (arith, e, le))) S.given in
    λ j. record { horizon = S.horizon; given = sym none j }

given_some : (S : ReferenceSet) (k : ℕ) (old ns : List NodeState) → AreShards old
    → IsNoLater S old → GivenFirst S k old ns → EachIsGiven (of_first_shards (length old) k S) old ns
given_some S k old ns are le have = record {
  count = have.count;
  each = λ i lt. elim (cases_lt i k) [
    | inl low ↦ subst (λ (T : ReferenceSet). IsGiven T (shard_at old i) (shard_at ns i)) (first_has (length old) k i S low) (have.first i low)
    | inr over ↦ no_more S (of_shard (length old) i (of_first_shards (length old) k S)) old i (shard_at ns i) are lt le (first_lacks (length old) k i S over) (have.rest i over)
  ];
}

gives_ok : (S : ReferenceSet) (old new : List NodeState) (given : Unit {0}) → AreGiven S old new
    → Gives S old (Ok given) new
gives_ok S old new given have = record { shards = have.shards; id = given_id S old new have; given = have.given; refused = tt; pools = have.pools }

-- all shards were given their parts
pub gives_all : (S : ReferenceSet) (k : ℕ) (old ns : List NodeState) (given : Unit {0})
    → AreShards old → length old ≤ k → GivenFirst S k old ns → Gives S old (Ok given) ns
gives_all S k old ns given are over have =
    gives_ok S old ns given (given_all S old ns are (record { count = have.count; each = λ i lt. have.first i (omega (arith, over, lt)) }))

-- the first shards were, and one was not
pub gives_first : (S : ReferenceSet) (k : ℕ) (old ns : List NodeState) (why : NodeFault)
    → AreShards old → IsNoLater S old → why ≡ Memory → k < length old
    → (k ≡ 0) ⊎ HasPart (length old) k S → GivenFirst S k old ns → Gives S old (Err why) ns
gives_first S k old ns why are le memory lt part have =
    let first = of_first_shards (length old) k S in
    let all = given_all first old ns are (given_some S k old ns are le have) in
    record { shards = all.shards; id = given_id first old ns all; given = tt; refused = (memory, (k, lt, part, whole_given first old ns all)); pools = all.pools }

-- none was
pub gives_none : (S : ReferenceSet) (ns : List NodeState) (why : NodeFault) → AreShards ns
    → IsNoLater S ns → why ≡ Memory → Gives S ns (Err why) ns
gives_none S ns why are le memory =
    gives_first S 0 ns ns why are le memory (some_shards ns are) (inl refl) (none_given S ns)

-- there are references to pages of one shard alone
pub gives_alone : (S : ReferenceSet) (ns : List NodeState) (i : ℕ) (n m d : NodeState)
    (result : Result Unit NodeFault) → AreShards ns → i < length ns → IsNoLater S ns
    → AllByRecursion (λ r. shard_of (length ns) r.page ≡ i) S.given → n ≡ get_or ns i d
    → GivesOne S n result m → Gives S ns result (set ns i m)
gives_alone S ns i n m d (Err why) are lt le own at one =
    gives_first S 0 ns (set ns i m) why are le one.refused.0 (some_shards ns are) (inl refl) (given_stays S 0 i ns ns n m d lt (omega arith) at one.refused.1 (none_given S ns))
gives_alone S ns i n m d (Ok given) are lt le own at one =
    let count = length ns in
    let page : Reference → PageId = λ r. r.page in
    let here : IsGiven S (shard_at ns i) m = subst (λ (x : NodeState). IsGiven S x m) (read_at ns i n d lt at) one.given in
    let all : S ≡ of_shard count i S = λ j. record { horizon = S.horizon; given = sym (only_part page count i S.given own) j } in
    let each = at_set no_shard (λ k x. k < count → IsGiven (of_shard count k S) (shard_at ns k) x) ns i m lt (λ less. subst (λ (T : ReferenceSet). IsGiven T (shard_at ns i) m) all here) (λ k other less. no_more S (of_shard count k S) ns k (shard_at ns k) are less le (λ j. record { horizon = S.horizon; given = sym (other_part page count i k S.given other own) j }) (refl, same_bytes (shard_at ns k).pool)) in
    gives_ok S ns (set ns i m) given (given_all S ns (set ns i m) are (record { count = length-set ns i m; each = each }))

-- ---- raised, and then given

-- the first shard has at least the horizon to which all were raised
pub raised_late : (old mid : List NodeState) (time : ℕ) → AreGiven (at_horizon time) old mid
    → time ≤ (shard_at mid 0).history.horizon
raised_late old mid time raised =
    let some = some_shards mid raised.shards in
    let at : (shard_at mid 0).history.horizon ≡ (whole mid).horizon = shard_horizon mid 0 raised.shards some some in
    let is : (whole mid).horizon ≡ max (references_of (whole old)).horizon time = ap (λ (h : HistoryView). h.horizon) (whole_given (at_horizon time) old mid raised) ∙ horizon-history (references_of (whole old) ∪ at_horizon time) in
    omega (arith, at, is)

-- the horizon of S is given, and nothing else of it
pub raised_alone : (old mid new : List NodeState) (time : ℕ) (S : ReferenceSet) → AreShards old
    → time ≡ S.horizon → AreGiven (at_horizon time) old mid → whole new ≡ whole mid
    → TakesInFirst old S new
raised_alone old mid new time S are at raised same =
    let R = references_of (whole old) in
    let none : at_horizon time ≡ of_first_shards (length old) 0 S = λ i. record { horizon = at i; given = sym (no_part (length old) S.given) i } in
    (0, some_shards old are, inl refl, same ∙ whole_given (at_horizon time) old mid raised ∙ ap (λ T. history (R ∪ T)) none)

raised_then_in : (R S : ReferenceSet) (time : ℕ) → time ≡ S.horizon
    → history (references_of (history (R ∪ at_horizon time)) ∪ S) ≡ history (R ∪ S)
raised_then_in R S time at =
    let T = at_horizon time in
    let same : T ∪ S ≡ S = λ i. record { horizon = not_earlier time S.horizon at i; given = S.given } in
    history_first (R ∪ T) S ∙ ap history (both_assoc R T S ∙ ap (λ U. R ∪ U) same)
  where
    not_earlier : (a b : ℕ) → a ≡ b → max a b ≡ b
    not_earlier a b is = omega (arith, is)

first_raised : (old mid new : List NodeState) (time : ℕ) (S : ReferenceSet) → time ≡ S.horizon
    → AreGiven (at_horizon time) old mid → TakesInFirst mid S new → TakesInFirst old S new
first_raised old mid new time S at raised (k, lt, part, some) =
    let long : length mid ≡ length old = raised.pools.count in (
      k,
      omega (arith, lt, long),
      subst (λ (count : ℕ). (k ≡ 0) ⊎ HasPart count k S) long part,
      some
          ∙ ap (λ (g : HistoryView). history (references_of g ∪ of_first_shards (length mid) k S)) (whole_given (at_horizon time) old mid raised)
          ∙ raised_then_in (references_of (whole old)) (of_first_shards (length mid) k S) time at
          ∙ ap (λ (count : ℕ). history (references_of (whole old) ∪ of_first_shards count k S)) long,
    )

-- to raise all shards to the horizon of S and then give S is to give S
pub raised_gives : (old mid new : List NodeState) (time : ℕ) (S : ReferenceSet)
    (result : Result Unit NodeFault) → time ≡ S.horizon → AreGiven (at_horizon time) old mid
    → Gives S mid result new → Gives S old result new
raised_gives old mid new time S (Ok given) at raised gives = record {
  shards = gives.shards;
  id = gives.id ∙ given_id (at_horizon time) old mid raised;
  given = λ pool.
      let was = raised.given pool in
      let is = gives.given pool in
      let id : (shard_at new 0).id ≡ (shard_at old 0).id = ap (λ (v : NodeView). v.id) is ∙ ap (λ (v : NodeView). v.id) was in
      let h : whole new ≡ history (references_of (whole old) ∪ S) = ap (λ (v : NodeView). v.history) is ∙ ap (λ (v : NodeView). history (references_of v.history ∪ S)) was ∙ raised_then_in (references_of (whole old)) S time at in
      λ i. record { id = id i; history = h i; pool = pool };
  refused = tt;
  pools = keep_then old mid new raised.pools gives.pools;
}
raised_gives old mid new time S (Err why) at raised gives = record {
  shards = gives.shards;
  id = gives.id ∙ given_id (at_horizon time) old mid raised;
  given = tt;
  refused = (gives.refused.0, first_raised old mid new time S at raised gives.refused.1);
  pools = keep_then old mid new raised.pools gives.pools;
}
