-- A visit that reads, and that nobody interrupts, is the call of the one node.
use Rattle.std.proofs.Common.{◌≡◌, inl, inr, ℕ, ◌+◌, false, List, [], length, refl, sym, ap, subst, ◌∙◌, arith}
use Rattle.std.specs.Prelude.{None, Some}
use Rattle.warm_history.specs.ReferenceSets.{ReferenceSet, set_of_list}
use Rattle.warm_history.proofs.HistoryLemmas.{IsHistory-history}
use Rattle.warm_history.proofs.JoinLemmas.{raised_to_no_later}
use Rattle.warm_frames.specs.declared.message.Message.{Message}
use Rattle.warm_frames.specs.declared.message.Message.TheVariants.{Digest, Want}
use Rattle.warm_peer.specs.Answers.{refs_in, requested_messages}
use Rattle.warm_gossip.specs.State.{NodeState}
use Rattle.warm_gossip.specs.declared.call.Call.TheVariants.{Offer, Receive}
use Rattle.warm_gossip.specs.declared.call.Reply.TheVariants.{Answers, Sent}
use Rattle.warm_shards.specs.Clauses.{SameShards, TakesInFirst, Together}
use Rattle.warm_shards.specs.Given.{AreGiven}
use Rattle.warm_visits.specs.Given.{at_horizon}
use Rattle.warm_shards.specs.Shards.{AreShards, held, shard_at, whole}
use Rattle.warm_shards.specs.VisitLaws.{Alone, EndsAlone, EntersAlone, ReadingIsOneNode, ReceivesAlone, Whenever, alone}
use Rattle.warm_visits.specs.Visits.{After, Errand, Made, Said, VisitState, answered, answers_of, at_each, compares, copy_of, copy_visit, copying, ends, gathered, joined, next_shard, nothing_offered, offer_in, offer_visit, offering, send_plan}
use Rattle.warm_shards.proofs.AnswerLemmas.{offered}
use Rattle.warm_shards.proofs.AreShardsLemmas.{some_shards}
use Rattle.warm_shards.proofs.Calls.{keep_then, same_ids, same_keeps, same_none, same_shards, same_whole}
use Rattle.warm_shards.proofs.GivenLemmas.{given_id, raised_alone}
use Rattle.warm_shards.proofs.Receiving.{digests_received, request_received}
use Rattle.warm_visits.proofs.RunLemmas.{all_keep}
use Rattle.warm_visits.specs.Plans.{from_shard}
use Rattle.warm_shards.proofs.VisitReads.{all_there, from_first, visit_at}
use Rattle.warm_shards.proofs.VisitReadsCopies.{Copies, all_copied, copies_on}
use Rattle.warm_shards.proofs.VisitReadsDigests.{Comparing, answer_made, compares_on, same_compared}
use Rattle.warm_shards.proofs.VisitReadsOffers.{Offered, Offers, all_offered, goes_next, nothing_compared, offers_first, offers_one}
use Rattle.warm_shards.proofs.VisitReadsSends.{Sends, all_sent, sends_first, sends_on}
use Rattle.warm_shards.proofs.VisitSweeps.{raises_first}
use Rattle.warm_shards.proofs.WholeLemmas.{none_joined}

-- ---- how a visit ends that was not raised

-- a caller sees no change, so no reference was taken in
none_taken : (old new : List NodeState) → AreShards old → SameShards old new
    → TakesInFirst old (set_of_list []) new
none_taken old new are same =
    (0, some_shards old are, inl refl, same_whole old new same ∙ sym (raised_to_no_later (whole old) 0 (IsHistory-history (held old)) (omega arith)))

ends_same : (well : VisitState → List NodeState → Type 0) (old new : List NodeState)
    (w : VisitState) → AreShards old → SameShards old new → (w.stopped ≡ false → well w new)
    → EndsAlone well (set_of_list []) old w new
ends_same well old new w are same done = record {
  done = done;
  stopped = λ stopped. none_taken old new are same;
  pools = same_keeps old new same;
  shards = same_shards old new same (some_shards old are) are;
  id = same_ids old new same 0;
}

-- ---- copies

pub copies : Whenever copy_visit (λ old. EndsAlone (λ w new. copy_of w.made ≡ Some (whole old))
    (set_of_list []) old)
copies old new w are (entries, runs) over =
    let id = (shard_at old 0).id in
    let count = length old in
    let first : Copies old (alone (copy_visit id count) old) = record {
      k = 0;
      within = omega arith;
      same = same_none old;
      stopped = false;
      visit = λ i. visit_at id count (from_first count copying i) (joined (none_joined i)) ends false;
    } in
    let last : Copies old (alone w new) = all_keep EntersAlone (Copies old) (λ s y e said. copies_on old s y e said) (alone (copy_visit id count) old) (alone w new) entries first runs in
    ends_same (λ u ns. copy_of u.made ≡ Some (whole old)) old new w are last.same (λ going. ap copy_of (all_copied old (alone w new) last over going))

-- ---- offers

Offering : List NodeState → Alone → Type 0
Offering old s = (k : ℕ) × Offers old ends k s

abbrev pub AnOffer : List NodeState → VisitState → List NodeState → Type 0
AnOffer old w new = (offer : Message) × (offer_in w.id w.made ≡ Some offer)
    × Together old Offer (Sent offer) new

offers_on : (old : List NodeState) → AreShards old → (s y : Alone) (e : Errand) (said : Said)
    → Offering old s → EntersAlone s e said y → Offering old y
unfolding Offering
offers_on old are s y e said (k, have) entered =
    let next = offers_one old ends k are s y e said have entered in
    elim next.1 [
      | inl stays ↦ (k, stays)
      | inr more ↦ (k + 1, goes_next old ends k y next.0 more (nothing_compared (from_shard (k + 1) (length old) offering) (gathered more.latest more.table) (visit_at (shard_at old 0).id (length old) (from_shard (k + 1) (length old) offering) (gathered more.latest more.table) ends false) y.visit more.compared))
    ]

offer_made : (old : List NodeState) (t : Alone) (k : ℕ) → AreShards old → Offers old ends k t
    → next_shard t.visit ≡ None → t.visit.stopped ≡ false → AnOffer old t.visit t.shards
offer_made old t k are have over going =
    let here : have.stopped ≡ false = ap (λ (x : VisitState). x.stopped) (sym have.visit) ∙ going in
    let all : k ≡ length old = all_there k (length old) offering have.stopped have.within here (ap next_shard (sym have.visit) ∙ over) in
    let is = all_offered old have.latest have.table are (subst (λ n. Offered old n have.latest have.table) all have.offered) in
    subst (λ (x : VisitState). AnOffer old x t.shards) (sym have.visit)
    (Digest (shard_at old 0).id have.latest have.table, refl, offered old t.shards (shard_at old 0).id have.latest have.table have.same refl is.0 is.1)

pub offers : Whenever offer_visit (λ old. EndsAlone (AnOffer old) (set_of_list []) old)
unfolding Offering
offers old new w are (entries, runs) over =
    let id = (shard_at old 0).id in
    let count = length old in
    let s = alone (offer_visit id count) old in
    let first = offers_first old ends s (same_none old) (λ i. visit_at id count (from_first count offering i) nothing_offered ends false) in
    let last = all_keep EntersAlone (Offering old) (λ x y e said. offers_on old are x y e said) s (alone w new) entries (0, first) runs in
    ends_same (AnOffer old) old new w are last.1.same (λ going. offer_made old (alone w new) last.0 are last.1 over going)

-- ---- how a visit ends that raised all shards

ends_raised : (well : VisitState → List NodeState → Type 0) (old mid new : List NodeState)
    (w : VisitState) (time : ℕ) (S : ReferenceSet) → AreShards old → time ≡ S.horizon
    → AreGiven (at_horizon time) old mid → SameShards mid new → (w.stopped ≡ false → well w new)
    → EndsAlone well S old w new
ends_raised well old mid new w time S are at raised same done = record {
  done = done;
  stopped = λ stopped. raised_alone old mid new time S are at raised (same_whole mid new same);
  pools = keep_then old mid new raised.pools (same_keeps mid new same);
  shards = same_shards mid new same (some_shards mid raised.shards) raised.shards;
  id = same_ids mid new same 0 ∙ given_id (at_horizon time) old mid raised;
}

-- a raised visit, as one of the shards as they are then
after_raise : (old mid : List NodeState) (time : ℕ) (made : Made) (after : After)
    (plan : ℕ → List Errand) → AreGiven (at_horizon time) old mid
    → visit_at (shard_at old 0).id (length old) (plan (length old)) made after false
    ≡ visit_at (shard_at mid 0).id (length mid) (plan (length mid)) made after false
after_raise old mid time made after plan raised =
    let id = given_id (at_horizon time) old mid raised in
    let count = raised.pools.count in
    λ i. visit_at (sym id i) (sym count i) (plan (sym count i)) made after false

pub requests_answered : (sender horizon request : ℕ) → ReceivesAlone (Want sender horizon request)
requests_answered sender horizon request old new w are (entries, runs) over =
    let message = Want sender horizon request in
    let risen = raises_first (shard_at old 0).id old horizon (send_plan (length old) request) (λ k. answered []) ends (alone w new) entries are (λ k. refl) runs over in
    let mid = risen.mid.shards in
    let all = requested_messages (shard_at mid 0).id (whole mid) request in
    let first = sends_first mid mid request ends (same_none mid) risen.mid refl (risen.visit ∙ after_raise old mid horizon (answered []) ends (λ count. send_plan count request) risen.raised) in
    let last : Sends mid all ends (alone w new) = all_keep EntersAlone (Sends mid all ends) (sends_on mid all ends risen.raised.shards) risen.mid (alone w new) risen.entries first risen.runs in
    ends_raised (λ u ns. Together old (Receive message) (Answers (answers_of u.made u.after)) ns) old mid new w horizon (refs_in message) are refl risen.raised last.same (λ going.
    request_received old mid new sender horizon request (answers_of w.made w.after) all (all_sent mid all ends (alone w new) last over going) risen.raised last.same refl)

pub digests_answered : (sender horizon : ℕ) (digests : List (List ℕ))
    → ReceivesAlone (Digest sender horizon digests)
digests_answered sender horizon digests old new w are (entries, runs) over =
    let message = Digest sender horizon digests in
    let after = compares digests in
    let risen = raises_first (shard_at old 0).id old horizon (at_each (length old) offering) (λ k. nothing_offered) after (alone w new) entries are (λ k. refl) runs over in
    let mid = risen.mid.shards in
    let are_mid = risen.raised.shards in
    let begins = risen.visit ∙ after_raise old mid horizon nothing_offered after (λ count. at_each count offering) risen.raised ∙ ap (λ xs. visit_at (shard_at mid 0).id (length mid) xs nothing_offered after false) (from_first (length mid) offering) in
    let first : Comparing mid digests risen.mid = inl (record { k = 0; there = some_shards mid are_mid; offers = offers_first mid after risen.mid (same_none mid) begins }) in
    let last : Comparing mid digests (alone w new) = all_keep EntersAlone (Comparing mid digests) (compares_on mid digests are_mid) risen.mid (alone w new) risen.entries first risen.runs in
    let same = same_compared mid digests (alone w new) last in
    ends_raised (λ u ns. Together old (Receive message) (Answers (answers_of u.made u.after)) ns) old mid new w horizon (refs_in message) are refl risen.raised same (λ going.
    digests_received old mid new sender horizon digests (answers_of w.made w.after) (answers_of w.made w.after) refl risen.raised same (answer_made mid digests (alone w new) last over going))

pub reading_is_one_node : ReadingIsOneNode
reading_is_one_node = record {
  offers = offers;
  requests = requests_answered;
  digests = digests_answered;
  copies = copies;
}
