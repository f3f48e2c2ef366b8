-- Digests and requests that shards receive by a visit.
use Rattle.std.proofs.Common.{◌≡◌, inl, ℕ, ◌<◌, ◌≤◌, Bool, true, false, List, [], length, Result, Ok, Err, refl, sym, ap, subst, ◌∙◌, arith}
use Rattle.std.specs.Prelude.{IfErr, IfOk, None, Some}
use Rattle.warm_history.specs.Entry.{Entry}
use Rattle.warm_history.specs.ReferenceSets.{set_of_list, ◌∪◌}
use Rattle.warm_history.specs.Histories.{StandsFor, history, references_of}
use Rattle.warm_history.proofs.HistoryLemmas.{IsHistory-history}
use Rattle.warm_history.proofs.JoinLemmas.{history_of_own_references, raised_to_no_later}
use Rattle.warm_frames.specs.Limits.{horizon_in}
use Rattle.warm_frames.specs.declared.message.Message.{Message}
use Rattle.warm_frames.specs.declared.message.Message.TheVariants.{Digest, Entries, Want}
use Rattle.warm_gossip.specs.declared.fault.NodeFault.TheVariants.{Memory}
use Rattle.warm_gossip.specs.declared.fault.NodeFault.{NodeFault}
use Rattle.warm_gossip.specs.declared.call.Call.TheVariants.{Offer, Receive}
use Rattle.warm_gossip.specs.declared.call.Reply.TheVariants.{Answers, Refused, Sent}
use Rattle.warm_gossip.specs.State.{NodeState, NodeView, empty_node, node_view}
use Rattle.warm_peer.specs.Answers.{IsAnswer, refs_in}
use Rattle.warm_shards.specs.Clauses.{KeepPools, SameShards, TakesInFirst, Together}
use Rattle.warm_shards.specs.Given.{AreGiven, Gives, OffersTogether, ReceivesAll}
use Rattle.warm_visits.specs.Given.{at_horizon}
use Rattle.warm_shards.specs.Shards.{AreShards, held, shard_at, whole}
use Rattle.warm_visits.specs.ShardNumbers.{of_first_shards, of_shard}
use Rattle.warm_shards.specs.VisitLaws.{EndsAlone, GoesAlone, ReceivesAlone}
use Rattle.warm_visits.specs.Visits.{HasEntries, VisitState, answers_of, next_shard, offer_in, offer_visit, receive_visit, result_of}
use Rattle.warm_shards.proofs.AreShardsLemmas.{some_shards}
use Rattle.warm_shards.proofs.Calls.{same_keeps, same_none}
use Rattle.warm_shards.proofs.GivenLemmas.{everywhere}
use Rattle.warm_shards.proofs.StandsForLemmas.{shard_stands}
use Rattle.warm_shards.proofs.VisitLawsHold.{giving_is_one_node}
use Rattle.warm_shards.proofs.VisitReadsLaws.{reading_is_one_node}

receives_alone : (message : Message) → ReceivesAlone message
receives_alone (Entries sender horizon entries) = giving_is_one_node.entries sender horizon entries
receives_alone (Want sender horizon request) = reading_is_one_node.requests sender horizon request
receives_alone (Digest sender horizon digests) = reading_is_one_node.digests sender horizon digests

-- how a visit ends by which shards received a message
abbrev Ends : Message → List NodeState → VisitState → List NodeState → Type 0
Ends message old w new = EndsAlone (λ w new. Together old (Receive message) (Answers (answers_of w.made w.after)) new) (refs_in message) old w new

pub ends_so : (message : Message) (old new : List NodeState) (v w : VisitState) → AreShards old
    → v ≡ receive_visit (shard_at old 0).id (length old) message → GoesAlone v old w new
    → next_shard w ≡ None → Ends message old w new
ends_so message old new v w are is gone over =
    receives_alone message old new w are (subst (λ (x : VisitState). GoesAlone x old w new) is gone) over

-- ---- what is returned

-- digests and a request bring a horizon alone
no_reference : (message : Message) → (HasEntries message → ⊥)
    → refs_in message ≡ at_horizon (horizon_in message)
no_reference (Entries sender horizon entries) none = absurd (none tt)
no_reference (Want sender horizon request) none = refl
no_reference (Digest sender horizon digests) none = refl

-- so the first shards had their part of it
all_first : (message : Message) (old new : List NodeState) → AreShards old
    → (HasEntries message → ⊥) → whole new ≡ history (references_of (whole old) ∪ refs_in message)
    → TakesInFirst old (refs_in message) new
all_first message old new are none is =
    let at : refs_in message ≡ of_first_shards (length old) 0 (refs_in message) = no_reference message none ∙ ap (of_first_shards (length old) 0) (sym (no_reference message none)) in
    (0, some_shards old are, inl refl, is ∙ ap (λ S. history (references_of (whole old) ∪ S)) at)

pub receives_ok : (message : Message) (old new : List NodeState) (w : VisitState)
    (answers : List Message) → Ends message old w new → w.stopped ≡ false
    → answers ≡ answers_of w.made w.after → ReceivesAll message old (Ok answers) new
receives_ok message old new w answers ends well is = record {
  shards = ends.shards;
  id = ends.id;
  received = subst (λ (ms : List Message). Together old (Receive message) (Answers ms) new) (sym is) (ends.done well);
  refused = tt;
  pools = ends.pools;
}

-- a shard had no memory
pub receives_stopped : (message : Message) (old new : List NodeState) (w : VisitState)
    (why : NodeFault) → Ends message old w new → w.stopped ≡ true → why ≡ Memory
    → ReceivesAll message old (Err why) new
receives_stopped message old new w why ends stopped is = record {
  shards = ends.shards;
  id = ends.id;
  received = tt;
  refused = (is, ends.stopped stopped);
  pools = ends.pools;
}

-- what the loop returned says whether one had
pub stopped_if : (stopped : Bool) (why : NodeFault) → Err why ≡ result_of stopped
    → (stopped ≡ true) × (why ≡ Memory)
stopped_if true why is = (refl, cc)
stopped_if false why is = absurd (cc)

pub going_if : (stopped : Bool) (given : Unit {0}) → Ok given ≡ result_of stopped → stopped ≡ false
going_if true given is = absurd (cc)
going_if false given is = refl

-- there was no memory for the answer
pub receives_late : (message : Message) (old new : List NodeState) (w : VisitState)
    (why : NodeFault) → AreShards old → Ends message old w new → w.stopped ≡ false
    → (HasEntries message → ⊥) → why ≡ Memory → ReceivesAll message old (Err why) new
receives_late message old new w why are ends well none memory = record {
  shards = ends.shards;
  id = ends.id;
  received = tt;
  refused = (memory, all_first message old new are none (ap (λ (v : NodeView). v.history) (ends.done well empty_node.pool).1));
  pools = ends.pools;
}

-- there was no memory for the visit, and all were raised
pub receives_none : (message : Message) (old new : List NodeState) (why : NodeFault)
    → AreShards old → (HasEntries message → ⊥) → AreGiven (at_horizon (horizon_in message)) old new
    → why ≡ Memory → ReceivesAll message old (Err why) new
receives_none message old new why are none raised memory = record {
  shards = raised.shards;
  id = ap (λ (v : NodeView). v.id) (raised.given empty_node.pool);
  received = tt;
  refused = (memory, all_first message old new are none (ap (λ (v : NodeView). v.history) (raised.given empty_node.pool) ∙ ap (λ S. history (references_of (whole old) ∪ S)) (sym (no_reference message none))));
  pools = raised.pools;
}

-- ---- entries

pub receives_given : (sender horizon : ℕ) (es : List Entry) (old new : List NodeState)
    (given : Unit {0}) (answers : List Message) → answers ≡ []
    → Gives (refs_in (Entries sender horizon es)) old (Ok given) new
    → ReceivesAll (Entries sender horizon es) old (Ok answers) new
receives_given sender horizon es old new given answers none gives = record {
  shards = gives.shards;
  id = gives.id;
  received = λ pool. (none, gives.given pool);
  refused = tt;
  pools = gives.pools;
}

pub receives_some : (sender horizon : ℕ) (es : List Entry) (old new : List NodeState)
    (why : NodeFault) → Gives (refs_in (Entries sender horizon es)) old (Err why) new
    → ReceivesAll (Entries sender horizon es) old (Err why) new
receives_some sender horizon es old new why gives = record {
  shards = gives.shards;
  id = gives.id;
  received = tt;
  refused = gives.refused;
  pools = gives.pools;
}

-- a message that is not one of entries
pub no_entries : (message : Message)
    → ((sender horizon : ℕ) (es : List Entry) → message ≡ Entries sender horizon es → ⊥)
    → HasEntries message → ⊥
no_entries (Entries sender horizon entries) other has = other sender horizon entries refl
no_entries (Want sender horizon request) other has = has
no_entries (Digest sender horizon digests) other has = has

-- ---- a message at no later horizon

own_whole : (ns : List NodeState) → StandsFor (whole ns) (references_of (whole ns))
own_whole ns = sym (history_of_own_references (whole ns) (IsHistory-history (held ns)))

-- shards that together have what they had have it each
pub same_of_whole : (old new : List NodeState) → AreShards old → AreShards new
    → (shard_at new 0).id ≡ (shard_at old 0).id → whole new ≡ whole old → KeepPools old new
    → SameShards old new
same_of_whole old new are now id is keep = record {
  count = keep.count;
  views = everywhere (λ n m. node_view m ≡ node_view n) refl old new keep.count each;
  bytes = keep.bytes;
}
  where
    each : (i : ℕ) → i < length old → node_view (shard_at new i) ≡ node_view (shard_at old i)
    each i lt =
        let lt2 : i < length new = omega (arith, lt, keep.count) in
        let ids : (shard_at new i).id ≡ (shard_at old i).id = (now.each i lt2).id ∙ id ∙ sym (are.each i lt).id in
        let was = shard_stands (references_of (whole old)) old i are lt (own_whole old) in
        let has = shard_stands (references_of (whole old)) new i now lt2 (is ∙ own_whole old) in
        let histories : (shard_at new i).history ≡ (shard_at old i).history = has ∙ ap (λ n. history (of_shard n i (references_of (whole old)))) keep.count ∙ sym was in
        let pools = keep.views i in
        λ j. record { id = ids j; history = histories j; pool = pools j }

-- a horizon that is not later changes nothing
pub same_not_later : (message : Message) (old new : List NodeState)
    (result : Result (List Message) NodeFault) → AreShards old → (HasEntries message → ⊥)
    → horizon_in message ≤ (whole old).horizon → ReceivesAll message old result new
    → SameShards old new
same_not_later message old new result are none le had =
    same_of_whole old new are had.shards had.id (taken result had ∙ ap (λ S. history (references_of (whole old) ∪ S)) (no_reference message none) ∙ raised_to_no_later (whole old) (horizon_in message) (IsHistory-history (held old)) le) had.pools
  where
    taken : (r : Result (List Message) NodeFault) → ReceivesAll message old r new
        → whole new ≡ history (references_of (whole old) ∪ refs_in message)
    taken (Ok answers) got = ap (λ (v : NodeView). v.history) (got.received empty_node.pool).1
    taken (Err why) got =
        let first = got.refused.1 in
        first.3 ∙ ap (λ S. history (references_of (whole old) ∪ S)) (ap (of_first_shards (length old) first.0) (no_reference message none) ∙ sym (no_reference message none))

-- what was answered, or that memory was refused
pub answers_so : (message : Message) (old new : List NodeState)
    (result : Result (List Message) NodeFault) → ReceivesAll message old result new
    → IfOk result (IsAnswer (shard_at old 0).id (whole old) message)
answers_so message old new (Ok answers) got = (got.received empty_node.pool).0
answers_so message old new (Err why) got = tt

pub only_memory : (message : Message) (old new : List NodeState)
    (result : Result (List Message) NodeFault) → ReceivesAll message old result new
    → IfErr result (λ why. why ≡ Memory)
only_memory message old new (Ok answers) got = tt
only_memory message old new (Err why) got = got.refused.0

-- ---- offers

-- how a visit ends by which shards offered
abbrev Offers : List NodeState → VisitState → List NodeState → Type 0
Offers old w new = EndsAlone (λ w new. (offer : Message) × (offer_in w.id w.made ≡ Some offer) × Together old Offer (Sent offer) new) (set_of_list []) old w new

pub offers_so : (old new : List NodeState) (v w : VisitState) (id count : ℕ) → AreShards old
    → v ≡ offer_visit id count → id ≡ (shard_at old 0).id → count ≡ length old → GoesAlone v old w new
    → next_shard w ≡ None → Offers old w new
offers_so old new v w id count are is same long gone over =
    reading_is_one_node.offers old new w are (subst (λ (x : VisitState). GoesAlone x old w new) (is ∙ (λ i. offer_visit (same i) (long i))) gone) over

-- what a visit with no errand left has offered
pub offers_all : (old new : List NodeState) (w : VisitState) (offer : Message) → Offers old w new
    → w.stopped ≡ false → Some offer ≡ offer_in w.id w.made → OffersTogether old (Ok offer) new
offers_all old new w offer ends well is =
    let done = ends.done well in
    let both : Some offer ≡ Some done.0 = is ∙ done.1 in
    let same : offer ≡ done.0 = cc in
    record {
      shards = ends.shards;
      step = subst (λ (m : Message). Together old Offer (Sent m) new) (sym same) done.2;
      pools = ends.pools;
    }

pub offers_some : (old new : List NodeState) (w : VisitState) → Offers old w new
    → w.stopped ≡ false → None ≡ offer_in w.id w.made → ⊥
offers_some old new w ends well is =
    let done = ends.done well in
    let no : None ≡ Some done.0 = is ∙ done.1 in
    absurd (cc)

-- a shard had no memory
pub offers_refused : (old new : List NodeState) (w : VisitState) (why : NodeFault) → Offers old w new
    → w.stopped ≡ true → why ≡ Memory → OffersTogether old (Err why) new
offers_refused old new w why ends stopped memory =
    let first = ends.stopped stopped in
    let known : whole new ≡ whole old = first.3 ∙ raised_to_no_later (whole old) 0 (IsHistory-history (held old)) (omega arith) in
    record {
      shards = ends.shards;
      step = subst (λ (f : NodeFault). Together old Offer (Refused f) new) (sym memory) (λ pool. (λ i. record { id = ends.id i; history = known i; pool = pool }));
      pools = ends.pools;
    }

-- there was no memory for the visit, and nothing has changed
pub offers_none : (ns : List NodeState) (why : NodeFault) → AreShards ns → why ≡ Memory
    → OffersTogether ns (Err why) ns
offers_none ns why are memory = record {
  shards = are;
  step = subst (λ (f : NodeFault). Together ns Offer (Refused f) ns) (sym memory) (λ pool. refl);
  pools = same_keeps ns ns (same_none ns);
}
