-- A visit to whom shards offer their digests, and that nobody interrupts.
use Rattle.std.proofs.Common.{◌≡◌, ◌⊎◌, inl, inr, ℕ, ◌+◌, ◌<◌, ◌≤◌, Bool, true, false, List, [], ◌∷◌, length, max, replicate, refl, ap, subst, ◌∙◌, arith}
use Rattle.std.proofs.lemmas.Bool.{cases_eq}
use Rattle.std.proofs.lemmas.List.{length-replicate}
use Rattle.warm_stamps.specs.declared.TheConstants.{BUCKETS}
use Rattle.warm_history.specs.Histories.{HistoryView, entries_of}
use Rattle.warm_digest.specs.BucketDigests.{digests_of}
use Rattle.warm_frames.specs.declared.layout.TheConstants.{DIGEST_SIZE}
use Rattle.warm_gossip.specs.State.{NodeState}
use Rattle.warm_shards.specs.Clauses.{SameShards}
use Rattle.warm_visits.specs.Digests.{FillsShard}
use Rattle.warm_shards.specs.Shards.{AreShards, no_shard, shard_at, whole}
use Rattle.warm_shards.specs.VisitLaws.{Alone, EntersAlone}
use Rattle.warm_visits.specs.Visits.{After, ComparesOffers, Errand, GathersOffer, Made, Said, Takes, VisitState}
use Rattle.warm_visits.specs.Visits.{ends, gathered, nothing_offered, offered}
use Rattle.warm_visits.specs.Visits.{offering}
use Rattle.warm_shards.proofs.AnswerLemmas.{digests_next}
use Rattle.warm_shards.proofs.AreShardsLemmas.{some_shards}
use Rattle.warm_shards.proofs.Buckets.{shard_horizon}
use Rattle.warm_shards.proofs.Calls.{same_histories}
use Rattle.warm_shards.proofs.DigestLemmas.{AreGathered, all_gathered}
use Rattle.warm_visits.specs.Plans.{from_shard}
use Rattle.warm_shards.proofs.VisitReads.{EntersAt, enters_at, next_there, offering_said, same_read, visit_at}
use Rattle.warm_visits.proofs.ErrandLemmas.{errand_here}

-- what the first k shards offer: the digests of their buckets, at the horizon of all
pub record Offered (old : List NodeState) (k latest : ℕ) (table : List (List ℕ)) : Type 0 where
  pub size : length table ≡ BUCKETS
  pub digests : AreGathered (length old) k (entries_of (whole old)) table
  pub none : k ≡ 0 → latest ≡ 0
  pub horizon : 0 < k → latest ≡ (whole old).horizon

-- The first k shards have offered, and the visit has the others left; or one has refused.
pub record Offers (old : List NodeState) (after : After) (k : ℕ) (s : Alone) : Type 0 where
  pub within : k ≤ length old
  pub same : SameShards old s.shards
  pub latest : ℕ
  pub table : List (List ℕ)
  pub stopped : Bool
  pub visit : s.visit ≡ visit_at (shard_at old 0).id (length old) (from_shard k (length old) offering) (gathered latest table) after stopped
  pub offered : Offered old k latest table

pub offers_first : (old : List NodeState) (after : After) (s : Alone) → SameShards old s.shards
    → s.visit ≡ visit_at (shard_at old 0).id (length old) (from_shard 0 (length old) offering) nothing_offered after false
    → Offers old after 0 s
offers_first old after s same visit = record {
  within = omega arith;
  same = same;
  latest = 0;
  table = replicate BUCKETS (replicate {A = ℕ} DIGEST_SIZE 0);
  stopped = false;
  visit = visit;
  offered = record {
    size = length-replicate BUCKETS (replicate {A = ℕ} DIGEST_SIZE 0);
    digests = λ bucket low below. absurd (omega arith);
    none = λ zero. refl;
    horizon = λ some. absurd (omega arith);
  };
}

-- one more has offered
offered_more : (old ns : List NodeState) (k latest later : ℕ) (table own filled : List (List ℕ))
    → AreShards old → k < length old → SameShards old ns
    → own ≡ digests_of (entries_of (shard_at ns k).history)
    → later ≡ max latest (shard_at ns k).history.horizon
    → FillsShard (length old) k table own filled → Offered old k latest table
    → Offered old (k + 1) later filled
offered_more old ns k latest later table own filled are lt same is max_is fills have =
    let n = shard_at ns k in
    let horizon : n.history.horizon ≡ (whole old).horizon = ap (λ (h : HistoryView). h.horizon) (same_histories old ns same k) ∙ shard_horizon old k are lt (some_shards old are) in
    record {
      size = fills.size ∙ have.size;
      digests = digests_next old ns (length old) k n no_shard table own filled are refl lt refl same is fills have.digests;
      none = λ zero. absurd (omega arith);
      horizon = λ some. elim (cases_eq k 0) [
        | inl zero ↦ let none = have.none zero in omega (arith, none, max_is, horizon)
        | inr more ↦ let kept = have.horizon (omega (arith, more)) in omega (arith, kept, max_is, horizon)
      ];
    }

-- what all offer
pub all_offered : (old : List NodeState) (latest : ℕ) (table : List (List ℕ)) → AreShards old
    → Offered old (length old) latest table
    → (latest ≡ (whole old).horizon) × (table ≡ digests_of (entries_of (whole old)))
all_offered old latest table are have = (
  have.horizon (some_shards old are),
  all_gathered (length old) (entries_of (whole old)) table (some_shards old are) have.size have.digests,
)

-- ---- one entry

-- an offer gathers: the visit holds what one more shard offers
gathers_more : (old ns : List NodeState) (k latest horizon : ℕ) (table own : List (List ℕ))
    (made : Made) → AreShards old → k < length old → SameShards old ns
    → horizon ≡ (shard_at ns k).history.horizon
    → own ≡ digests_of (entries_of (shard_at ns k).history)
    → GathersOffer (length old) k horizon own (gathered latest table) made → Offered old k latest table
    → (later : ℕ) × (filled : List (List ℕ)) × (made ≡ gathered later filled)
    × Offered old (k + 1) later filled
gathers_more old ns k latest horizon table own (gathered later filled) are lt same at is gathers have =
    (later, filled, refl, offered_more old ns k latest later table own filled are lt same is (gathers.0 ∙ ap (λ (x : ℕ). max latest x) at) gathers.1 have)
gathers_more old ns k latest horizon table own made are lt same at is gathers have = absurd gathers

-- the next shard has offered, and these digests are compared once all have
pub record HasOffered (old : List NodeState) (after : After) (k : ℕ) (y : Alone) : Type 0 where
  pub same : SameShards old y.shards
  pub latest : ℕ
  pub table : List (List ℕ)
  pub offered : Offered old (k + 1) latest table
  pub compared : ComparesOffers (from_shard (k + 1) (length old) offering) after (gathered latest table)
      (visit_at (shard_at old 0).id (length old) (from_shard (k + 1) (length old) offering) (gathered latest table) after false) y.visit

offers_at : (old : List NodeState) (after : After) (k : ℕ) → AreShards old → k < length old
    → (s y : Alone) (said : Said) (have : Offers old after k s)
    → EntersAt (visit_at (shard_at old 0).id (length old) (from_shard k (length old) offering) (gathered have.latest have.table) after have.stopped) s.shards k offering (from_shard (k + 1) (length old) offering) said y
    → Offers old after k y ⊎ HasOffered old after k y
offers_at old after k are lt s y said have here =
    let id = (shard_at old 0).id in
    let count = length old in
    let v = visit_at id count (from_shard k count offering) (gathered have.latest have.table) after have.stopped in
    let later = from_shard (k + 1) count offering in
    let there : k < length s.shards = omega (arith, lt, have.same.count) in
    elim (offering_said (shard_at s.shards k) (shard_at y.shards k) said here.says) [
      | inl (horizon, own, is, at, digests, same) ↦
          let takes : Takes v k offering later (offered horizon own) y.visit = subst (λ x. Takes v k offering later x y.visit) is here.takes in
          let more = gathers_more old s.shards k have.latest horizon have.table own takes.0 are lt have.same at digests takes.1 have.offered in
          let u : Bool → Made → VisitState = λ stopped made. visit_at id count later made after stopped in
          let compared : ComparesOffers later after (gathered more.0 more.1) (u false (gathered more.0 more.1)) y.visit = subst (λ m. ComparesOffers later after m (u false m) y.visit) more.2 (subst (λ b. ComparesOffers later after takes.0 (u b takes.0) y.visit) here.ready takes.2) in
          inr (record {
            same = same_read old s.shards y.shards k there have.same here.changed same;
            latest = more.0;
            table = more.1;
            offered = more.3;
            compared = compared;
          })
      | inr (is, same) ↦
          let visit : y.visit ≡ record v { stopped = true } = subst (λ x. Takes v k offering later x y.visit) is here.takes in
          inl (record {
            within = have.within;
            same = same_read old s.shards y.shards k there have.same here.changed same;
            latest = have.latest;
            table = have.table;
            stopped = true;
            visit = visit;
            offered = have.offered;
          })
    ]

pub offers_one : (old : List NodeState) (after : After) (k : ℕ) → AreShards old → (s y : Alone)
    → (e : Errand) (said : Said) → Offers old after k s → EntersAlone s e said y
    → (k < length old) × (Offers old after k y ⊎ HasOffered old after k y)
offers_one old after k are s y e said have entered =
    let count = length old in
    let v = visit_at (shard_at old 0).id count (from_shard k count offering) (gathered have.latest have.table) after have.stopped in
    let lt : k < count = next_there s y e said v k count offering have.visit refl have.within entered in
    (lt, offers_at old after k are lt s y said have (enters_at s y e said v k offering (from_shard (k + 1) count offering) have.visit (errand_here k count offering lt) entered))

-- the visit goes on to the next shard
pub goes_next : (old : List NodeState) (after : After) (k : ℕ) (y : Alone) → k < length old
    → (have : HasOffered old after k y)
    → y.visit ≡ visit_at (shard_at old 0).id (length old) (from_shard (k + 1) (length old) offering) (gathered have.latest have.table) after false
    → Offers old after (k + 1) y
goes_next old after k y lt have visit = record {
  within = omega (arith, lt);
  same = have.same;
  latest = have.latest;
  table = have.table;
  stopped = false;
  visit = visit;
  offered = have.offered;
}

-- if nothing is compared
pub nothing_compared : (rest : List Errand) (made : Made) (v w : VisitState)
    → ComparesOffers rest ends made v w → w ≡ v
nothing_compared [] made v w is = is
nothing_compared (e ∷ rest) made v w is = is

-- if a shard has not offered yet
pub not_compared : (e : Errand) (es rest : List Errand) (after : After) (made : Made)
    (v w : VisitState) → rest ≡ e ∷ es → ComparesOffers rest after made v w → w ≡ v
not_compared e es rest after made v w more is =
    subst (λ (xs : List Errand). ComparesOffers xs after made v w) more is
