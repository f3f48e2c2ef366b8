-- The errands of a visit are each at a shard, and of its pages and buckets alone.
use Rattle.std.proofs.Common.{◌≡◌, ℕ, zero, suc, ◌+◌, ◌<◌, ◌≤◌, ◌%◌, Bool, true, false, List, [], ◌∷◌, ◌++◌, map, flat_map, refl, sym, subst, arith}
use Rattle.std.specs.Prelude.{None}
use Rattle.std.specs.List.{AllByRecursion, range_with_len}
use Rattle.warm_stamps.specs.declared.Reference.{Reference}
use Rattle.warm_stamps.proofs.DistinctLemmas.{all_append}
use Rattle.warm_history.specs.ReferenceSets.{ReferenceSet, set_of_list}
use Rattle.warm_history.specs.Histories.{references_of}
use Rattle.warm_frames.specs.declared.message.Message.{Message}
use Rattle.warm_frames.specs.declared.message.Message.TheVariants.{Digest, Entries, Want}
use Rattle.warm_peer.specs.Answers.{refs_in, requested_buckets}
use Rattle.warm_visits.specs.Given.{at_horizon}
use Rattle.warm_visits.specs.ShardNumbers.{IsShardCount, of_shard, shard_of}
use Rattle.warm_visits.specs.Laws.{AreOwnErrands, ErrandsAreOwn, IsOwnAsk}
use Rattle.warm_visits.specs.Visits.{After, Ask, ComparesOffers, Errand, Made, Said, Takes, VisitState, at_each, at_shard, compares, copied, copying, gathered, give_part, give_plan, given, giving, goes_on, offered, offering, part_errand, raise_and_give, receive_visit, refused, send_plan, sending, sent}
use Rattle.warm_visits.proofs.ErrandLemmas.{some_count}
use Rattle.warm_visits.proofs.PartListLemmas.{part_is_own}

-- ---- plans

own_append : (count : ℕ) (es fs : List Errand) → AreOwnErrands count es → AreOwnErrands count fs
    → AreOwnErrands count (es ++ fs)
own_append count = all_append (λ e. (e.shard < count) × IsOwnAsk count e.shard e.ask)

own_from : (count : ℕ) (ask : Ask) (first n : ℕ) → first + n ≤ count
    → ((i : ℕ) → IsOwnAsk count i ask)
    → AreOwnErrands count (map (λ i. at_shard i ask) (range_with_len first n))
own_from count ask first zero le own = tt
own_from count ask first (suc n) le own =
    ((omega (arith, le), own first), own_from count ask (first + 1) n (omega (arith, le)) own)

own_each : (count : ℕ) (ask : Ask) → ((i : ℕ) → IsOwnAsk count i ask)
    → AreOwnErrands count (at_each count ask)
own_each count ask own = own_from count ask 0 count (omega arith) own

own_buckets : (count : ℕ) → 0 < count → (bs : List ℕ)
    → AreOwnErrands count (map (λ b. at_shard (b % count) (sending b None)) bs)
own_buckets count some [] = tt
own_buckets count some (b ∷ bs) = ((omega (arith, some), refl), own_buckets count some bs)

own_part : (count i : ℕ) (S : ReferenceSet) (rs : List Reference) → i < count
    → AllByRecursion (λ r. shard_of count r.page ≡ i) S.given
    → AreOwnErrands count (part_errand i S rs)
own_part count i S [] lt own = tt
own_part count i S (r ∷ rs) lt own = ((lt, own), tt)

own_parts : (count : ℕ) (S : ReferenceSet) (first n : ℕ) → first + n ≤ count
    → AreOwnErrands count (flat_map (λ i. give_part i (of_shard count i S)) (range_with_len first n))
own_parts count S first zero le = tt
own_parts count S first (suc n) le =
    let part = of_shard count first S in
    own_append count (give_part first part) (flat_map (λ i. give_part i (of_shard count i S)) (range_with_len (first + 1) n))
    (own_part count first part part.given (omega (arith, le)) (part_is_own (λ (r : Reference). r.page) count first S.given))
    (own_parts count S (first + 1) n (omega (arith, le)))

own_given : (count : ℕ) (S : ReferenceSet) → AreOwnErrands count (give_plan count S)
own_given count S = own_parts count S 0 count (omega arith)

own_raised : (count : ℕ) (S : ReferenceSet) → AreOwnErrands count (raise_and_give count S)
own_raised count S =
    own_append count (at_each count (giving (at_horizon S.horizon))) (give_plan count S) (own_each count (giving (at_horizon S.horizon)) (λ i. tt)) (own_given count S)

own_received : (id count : ℕ) (message : Message) → IsShardCount count
    → AreOwnErrands count (receive_visit id count message).plan
own_received id count (Entries sender horizon entries) valid =
    own_raised count (refs_in (Entries sender horizon entries))
own_received id count (Want sender horizon request) valid =
    own_append count (at_each count (giving (at_horizon horizon))) (send_plan count request) (own_each count (giving (at_horizon horizon)) (λ i. tt)) (own_buckets count (some_count count valid) (requested_buckets request))
own_received id count (Digest sender horizon digests) valid =
    own_append count (at_each count (giving (at_horizon horizon))) (at_each count offering) (own_each count (giving (at_horizon horizon)) (λ i. tt)) (own_each count offering (λ i. tt))

-- ---- one entry

own_compared : (v w : VisitState) (rest : List Errand) (after : After) (made : Made)
    → 0 < v.count → AreOwnErrands v.count v.plan → ComparesOffers rest after made v w
    → AreOwnErrands w.count w.plan
own_compared v w [] (compares digests) (gathered horizon table) some own is =
    subst (λ (x : VisitState). AreOwnErrands x.count x.plan) (sym is.3) (own_buckets v.count some (requested_buckets is.0))
own_compared v w rest after made some own is = rw is own

own_more : (count i bucket : ℕ) (message : Message) (more : Bool) → i < count → bucket % count ≡ i
    → AreOwnErrands count (goes_on i bucket message more)
own_more count i bucket message true lt own = ((lt, own), tt)
own_more count i bucket message false lt own = tt

own_taken : (v w : VisitState) (i : ℕ) (ask : Ask) (rest : List Errand) (said : Said)
    → 0 < v.count → AreOwnErrands v.count v.plan → i < v.count → IsOwnAsk v.count i ask
    → AreOwnErrands v.count rest → Takes v i ask rest said w → AreOwnErrands w.count w.plan
own_taken v w i (giving S) rest (given horizon) some plan lt own others is = rw is others
own_taken v w i (giving S) rest refused some plan lt own others is = rw is plan
own_taken v w i offering rest (offered horizon table) some plan lt own others is =
    own_compared _ w rest v.after is.0 some others is.2
own_taken v w i offering rest refused some plan lt own others is = rw is plan
own_taken v w i (sending bucket after) rest (sent message more) some plan lt own others is =
    rw is (own_append v.count (goes_on i bucket message more) rest (own_more v.count i bucket message more lt own) others)
own_taken v w i (sending bucket after) rest refused some plan lt own others is = rw is plan
own_taken v w i copying rest (copied h) some plan lt own others is = rw is others
own_taken v w i copying rest refused some plan lt own others is = rw is plan
own_taken v w i ask rest said some plan lt own others is = absurd is

pub errands_are_own : ErrandsAreOwn
errands_are_own = record {
  absorbs = λ id count batch valid. own_given count (set_of_list batch);
  raises = λ id count time valid. own_each count (giving (at_horizon time)) (λ i. tt);
  receives = own_received;
  joins = λ id count h valid. own_raised count (references_of h);
  offers = λ id count. own_each count offering (λ i. tt);
  copies = λ id count. own_each count copying (λ i. tt);
  stays = λ v w e said valid own entered.
      let enters = entered.2 in
      let all : AreOwnErrands v.count (e ∷ enters.rest) = subst (AreOwnErrands v.count) enters.next own in
      own_taken v w e.shard e.ask enters.rest said (some_count v.count valid) own all.0.0 all.0.1 all.1 enters.takes;
}
