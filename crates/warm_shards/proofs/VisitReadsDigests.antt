-- A visit that compares digests when all shards have offered theirs, and that nobody interrupts.
use Rattle.std.proofs.Common.{◌≡◌, ◌⊎◌, inl, inr, ℕ, ◌+◌, ◌<◌, ◌^◌, Bool, true, false, List, [], ◌∷◌, ◌++◌, length, if◌then◌else◌, refl, sym, ap, subst, ◌∙◌, arith}
use Rattle.std.specs.Prelude.{◌==◌, None}
use Rattle.std.proofs.lemmas.Bool.{cases_eq, eqb-true}
use Rattle.warm_history.specs.Histories.{HistoryView}
use Rattle.warm_digest.specs.BucketDigests.{MarksDiffering}
use Rattle.warm_frames.specs.declared.message.Message.{Message}
use Rattle.warm_frames.specs.declared.message.Message.TheVariants.{Want}
use Rattle.warm_peer.specs.Answers.{AnswersDigests, IsDiffering, requested_buckets, requested_messages}
use Rattle.warm_gossip.specs.State.{NodeState}
use Rattle.warm_shards.specs.Clauses.{SameShards}
use Rattle.warm_shards.specs.Shards.{AreShards, shard_at, whole}
use Rattle.warm_shards.specs.VisitLaws.{Alone, EntersAlone}
use Rattle.warm_visits.specs.Visits.{After, ComparesOffers, Errand, Said, VisitState, answered, answers_of, compares, ends, gathered, next_shard, offering, requests, send_plan}
use Rattle.warm_visits.specs.Plans.{from_shard}
use Rattle.warm_shards.proofs.VisitReads.{all_there, visit_at}
use Rattle.warm_visits.proofs.ErrandLemmas.{errand_here, errand_none}
use Rattle.warm_shards.proofs.VisitReadsOffers.{HasOffered, Offered, Offers, all_offered, goes_next, not_compared, offers_one}
use Rattle.warm_shards.proofs.VisitReadsSends.{Sends, all_sent, sends_first, sends_on}

-- what follows a comparison: a request for the buckets that differ, if any does
abbrev pub then_asks : List NodeState → ℕ → After
then_asks mid request =
    if request == 0 then ends else requests (Want (shard_at mid 0).id (whole mid).horizon request)

-- all shards have offered, and the visit sends the buckets that differ
pub record Compared (mid : List NodeState) (digests : List (List ℕ)) (s : Alone) : Type 0 where
  pub request : ℕ
  pub fits : request < 2 ^ 64
  pub differ : IsDiffering digests (whole mid) request
  pub sends : Sends mid (requested_messages (shard_at mid 0).id (whole mid) request) (then_asks mid request) s

-- some shard has not offered yet
pub record IsOffering (mid : List NodeState) (digests : List (List ℕ)) (s : Alone) : Type 0 where
  pub k : ℕ
  pub there : k < length mid
  pub offers : Offers mid (compares digests) k s

abbrev pub Comparing : List NodeState → List (List ℕ) → Alone → Type 0
Comparing mid digests s = IsOffering mid digests s ⊎ Compared mid digests s

-- the last shard has offered
last_offered : (mid : List NodeState) (digests : List (List ℕ)) (k : ℕ) (y : Alone) → AreShards mid
    → k + 1 ≡ length mid → HasOffered mid (compares digests) k y → Compared mid digests y
last_offered mid digests k y are last have =
    let id = (shard_at mid 0).id in
    let count = length mid in
    let later = from_shard (k + 1) count offering in
    let made = gathered have.latest have.table in
    let all = all_offered mid have.latest have.table are (subst (λ n. Offered mid n have.latest have.table) last have.offered) in
    let is : ComparesOffers [] (compares digests) made (visit_at id count later made (compares digests) false) y.visit = subst (λ es. ComparesOffers es (compares digests) made (visit_at id count later made (compares digests) false) y.visit) (errand_none (k + 1) count offering (omega (arith, last))) have.compared in
    let request = is.0 in
    record {
      request = request;
      fits = is.1;
      differ = subst (λ table. MarksDiffering request digests table) all.1 is.2;
      sends = sends_first mid y.shards request (then_asks mid request) have.same y refl (is.3 ∙ ap (λ (h : ℕ). visit_at id count (send_plan count request) (answered []) (if request == 0 then ends else requests (Want id h request)) false) all.0);
    }

next_offers : (mid : List NodeState) (digests : List (List ℕ)) (k : ℕ) (y : Alone)
    → k + 1 < length mid → HasOffered mid (compares digests) k y → IsOffering mid digests y
next_offers mid digests k y lt have =
    let later = from_shard (k + 1) (length mid) offering in
    let made = gathered have.latest have.table in
    record {
      k = k + 1;
      there = lt;
      offers = goes_next mid (compares digests) k y (omega (arith, lt)) have (not_compared _ _ later (compares digests) made (visit_at (shard_at mid 0).id (length mid) later made (compares digests) false) y.visit (errand_here (k + 1) (length mid) offering lt) have.compared);
    }

pub compares_on : (mid : List NodeState) (digests : List (List ℕ)) → AreShards mid → (s y : Alone)
    → (e : Errand) (said : Said) → Comparing mid digests s → EntersAlone s e said y
    → Comparing mid digests y
compares_on mid digests are s y e said (inl have) entered =
    let next = offers_one mid (compares digests) have.k are s y e said have.offers entered in
    elim next.1 [
      | inl stays ↦ inl (record { k = have.k; there = have.there; offers = stays })
      | inr more ↦ elim (cases_eq (have.k + 1) (length mid)) [
        | inl last ↦ inr (last_offered mid digests have.k y are last more)
        | inr other ↦ inl (next_offers mid digests have.k y (omega (arith, other, have.there)) more)
      ]
    ]
compares_on mid digests are s y e said (inr have) entered = inr (record {
  request = have.request;
  fits = have.fits;
  differ = have.differ;
  sends = sends_on mid (requested_messages (shard_at mid 0).id (whole mid) have.request) (then_asks mid have.request) are s y e said have.sends entered;
})

-- no bucket is requested of none
nothing_asked : (id : ℕ) (h : HistoryView) (request : ℕ) → request ≡ 0
    → requested_messages id h request ≡ []
unfolding requested_buckets
nothing_asked id h request none = ap (λ (r : ℕ). requested_messages id h r) none

asks_last : (id : ℕ) (h : HistoryView) (request : ℕ) (want : Message)
    → answers_of (answered (requested_messages id h request)) (if request == 0 then ends else requests want)
    ≡ (if request == 0 then [] else requested_messages id h request ++ want ∷ [])
asks_last id h request want = cases (request == 0) refl
  where
    cases : (b : Bool) → (request == 0) ≡ b
        → answers_of (answered (requested_messages id h request)) (if b then ends else requests want)
        ≡ (if b then [] else requested_messages id h request ++ want ∷ [])
    cases true is = nothing_asked id h request (eqb-true request 0 is)
    cases false is = refl

pub same_compared : (mid : List NodeState) (digests : List (List ℕ)) (t : Alone)
    → Comparing mid digests t → SameShards mid t.shards
same_compared mid digests t (inl have) = have.offers.same
same_compared mid digests t (inr have) = have.sends.same

-- the answer to the digests
pub answer_made : (mid : List NodeState) (digests : List (List ℕ)) (t : Alone)
    → Comparing mid digests t → next_shard t.visit ≡ None → t.visit.stopped ≡ false
    → AnswersDigests (shard_at mid 0).id (whole mid) digests (answers_of t.visit.made t.visit.after)
answer_made mid digests t (inl have) over going =
    let o = have.offers in
    let here : o.stopped ≡ false = ap (λ (x : VisitState). x.stopped) (sym o.visit) ∙ going in
    let all : have.k ≡ length mid = all_there have.k (length mid) offering o.stopped o.within here (ap next_shard (sym o.visit) ∙ over) in
    absurd (omega (arith, all, have.there))
answer_made mid digests t (inr have) over going =
    let id = (shard_at mid 0).id in
    let h = whole mid in
    let all = requested_messages id h have.request in
    (have.request, have.fits, have.differ, all_sent mid all (then_asks mid have.request) t have.sends over going ∙ asks_last id h have.request (Want id h.horizon have.request))
