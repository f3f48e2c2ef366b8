-- Receiving a message: its horizon first, and then its entries or its answer.
use Rattle.std.proofs.Common.{◌≡◌, ℕ, List, sym, subst, ◌∙◌}
use Rattle.warm_history.specs.ReferenceSets.{◌∪◌}
use Rattle.warm_history.specs.Histories.{history, references_of}
use Rattle.warm_frames.specs.declared.message.Message.{Message}
use Rattle.warm_frames.specs.declared.message.Message.TheVariants.{Digest, Want}
use Rattle.warm_gossip.specs.declared.call.Call.TheVariants.{Receive}
use Rattle.warm_gossip.specs.declared.call.Reply.TheVariants.{Answers}
use Rattle.warm_peer.specs.Answers.{AnswersDigests, requested_messages}
use Rattle.warm_gossip.specs.State.{NodeState}
use Rattle.warm_shards.specs.Clauses.{SameShards, TakesInAll, Together}
use Rattle.warm_shards.specs.Given.{AreGiven}
use Rattle.warm_visits.specs.Given.{at_horizon}
use Rattle.warm_shards.specs.Shards.{shard_at, whole}
use Rattle.warm_shards.proofs.Calls.{same_ids, same_whole}
use Rattle.warm_shards.proofs.GivenLemmas.{given_id, whole_given}

-- a caller sees the horizon alone
after_raise : (old mid new : List NodeState) (time : ℕ) → AreGiven (at_horizon time) old mid
    → SameShards mid new → TakesInAll old (at_horizon time) new
after_raise old mid new time raised same pool =
    let id = same_ids mid new same 0 ∙ given_id (at_horizon time) old mid raised in
    let h = same_whole mid new same ∙ whole_given (at_horizon time) old mid raised in
    λ i. record { id = id i; history = h i; pool = pool }

-- digests are answered after the raise
pub digests_received : (old mid new : List NodeState) (sender horizon : ℕ) (digests : List (List ℕ))
    (answers messages : List Message) → answers ≡ messages → AreGiven (at_horizon horizon) old mid
    → SameShards mid new → AnswersDigests (shard_at mid 0).id (whole mid) digests messages
    → Together old (Receive (Digest sender horizon digests)) (Answers answers) new
digests_received old mid new sender horizon digests answers messages is raised same answered pool =
    let risen = history (references_of (whole old) ∪ at_horizon horizon) in
    let here = subst (λ h. AnswersDigests (shard_at mid 0).id h digests messages) (whole_given (at_horizon horizon) old mid raised) answered in
    let own = subst (λ (x : ℕ). AnswersDigests x risen digests messages) (given_id (at_horizon horizon) old mid raised) here in
    (subst (λ ms. AnswersDigests (shard_at old 0).id risen digests ms) (sym is) own, after_raise old mid new horizon raised same pool)

-- and so is a request
pub request_received : (old mid new : List NodeState) (sender horizon request : ℕ)
    (answers messages : List Message) → answers ≡ messages → AreGiven (at_horizon horizon) old mid
    → SameShards mid new → messages ≡ requested_messages (shard_at mid 0).id (whole mid) request
    → Together old (Receive (Want sender horizon request)) (Answers answers) new
request_received old mid new sender horizon request answers messages is raised same answered pool =
    let id = given_id (at_horizon horizon) old mid raised in
    let h = whole_given (at_horizon horizon) old mid raised in
    let all : requested_messages (shard_at mid 0).id (whole mid) request ≡ requested_messages (shard_at old 0).id (history (references_of (whole old) ∪ at_horizon horizon)) request = λ i. requested_messages (id i) (h i) request in
    (is ∙ answered ∙ all, after_raise old mid new horizon raised same pool)
