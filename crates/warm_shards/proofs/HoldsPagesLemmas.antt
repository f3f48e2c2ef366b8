-- A node whose calls bring pages of one shard holds the pages of that shard alone.
use Rattle.std.proofs.Common.{◌≡◌, inl, inr, ℕ, [], max, sym, ap, subst}
use Rattle.std.specs.List.{AllByRecursion}
use Rattle.std.proofs.lemmas.List.Elements.{recursion_from_All}
use Rattle.warm_stamps.specs.declared.PageId.{PageId}
use Rattle.warm_history.specs.ReferenceSets.{ReferenceSet, set_of_list}
use Rattle.warm_history.specs.Histories.{HistoryView, entries_of}
use Rattle.warm_frames.specs.declared.message.Message.{Message}
use Rattle.warm_frames.specs.declared.message.Message.TheVariants.{Digest, Entries, Want}
use Rattle.warm_pool.specs.View.{PoolView}
use Rattle.warm_peer.specs.Answers.{refs_in}
use Rattle.warm_gossip.specs.Brings.{Brings}
use Rattle.warm_gossip.specs.Given.{given_by_call}
use Rattle.warm_gossip.specs.declared.call.Call.{Call}
use Rattle.warm_gossip.specs.declared.call.Call.TheVariants.{Absorb, Receive, Horizon, Pin, WarmStep, Restart}
use Rattle.warm_gossip.specs.declared.call.Reply.{Reply}
use Rattle.warm_gossip.specs.declared.call.Reply.TheVariants.{Done, Answers, Kept}
use Rattle.warm_gossip.specs.State.{NodeView}
use Rattle.warm_gossip.proofs.BringsLemmas.{calls_bring_only}
use Rattle.warm_gossip.proofs.VictimLemmas.{HistoryGoes, step_goes}
use Rattle.warm_shards.specs.Laws.{BringsOwn, FailuresStayInShard, StepsStayInShard}
use Rattle.warm_shards.specs.Shards.{HoldsPagesOf}
use Rattle.warm_visits.specs.ShardNumbers.{shard_of}
use Rattle.warm_shards.proofs.Calls.{Knows, all_brought, frames_own, next_is_own}
use Rattle.warm_shards.proofs.Pages.{all_held, all_taken}

-- the references of the message are to pages of the shard
message_own : (count i : ℕ) (message : Message) → BringsOwn count i (Receive message)
    → AllByRecursion (λ r. shard_of count r.page ≡ i) (refs_in message).given
message_own count i (Entries sender horizon entries) all =
    all_held (λ p. shard_of count p ≡ i) entries (recursion_from_All (λ e. shard_of count e.page ≡ i) entries all)
message_own count i (Digest sender horizon digests) none = tt
message_own count i (Want sender horizon request) none = tt

-- so are those that a call gives
given_own : (count i : ℕ) (call : Call) (reply : Reply) → BringsOwn count i call
    → AllByRecursion (λ r. shard_of count r.page ≡ i) (given_by_call (set_of_list []) call reply).given
given_own count i (Absorb batch) Done brings = recursion_from_All (λ r. shard_of count r.page ≡ i) batch brings
given_own count i (Receive message) (Answers messages) brings = message_own count i message brings
given_own count i (Horizon time) (Kept horizon) brings = tt
given_own count i Restart Done brings = tt
given_own count i call reply brings = tt

-- the node knows pages of the shard alone
known_own : (count i : ℕ) (h k : HistoryView) (call : Call) (reply : Reply)
    → BringsOwn count i call → HistoryGoes h call reply k → Knows count i h → Knows count i k
known_own count i h k call reply brings goes own = elim goes [
  | inl stays ↦ subst (Knows count i) (sym stays.0) own
  | inr moves ↦ elim moves [
    | inl takes ↦
        let all = subst (λ (S : ReferenceSet). AllByRecursion (λ r. shard_of count r.page ≡ i) S.given) (takes.2 (set_of_list [])) (given_own count i call reply brings) in
        subst (Knows count i) (sym takes.1) (all_taken (λ p. shard_of count p ≡ i) (entries_of h) takes.0.given (max h.horizon takes.0.horizon) own all)
    | inr none ↦ subst (Knows count i) (sym none.0) tt
  ]
]

-- the page that a call brings is of the shard
brought_own : (count i : ℕ) (old : NodeView) (call : Call) → BringsOwn count i call
    → HoldsPagesOf count i old → (p : PageId) → Brings old call p → shard_of count p ≡ i
brought_own count i old (Pin q) brings own p is = subst (λ x. shard_of count x ≡ i) (sym is) brings
brought_own count i old WarmStep brings own p next = next_is_own count i old p own next
brought_own count i old call brings own p is = absurd is

pub steps_stay : StepsStayInShard
steps_stay count i old new call reply brings own step = record {
  known = known_own count i old.history new.history call reply brings (step_goes call reply old new step).0 own.known;
  resident = all_brought count i (Brings old call) old.pool new.pool (calls_bring_only old new call reply step) (brought_own count i old call brings own) own.resident;
}

-- a call of a device that failed leaves every page in its frame
pub failures_stay : FailuresStayInShard
failures_stay count i old new (alone, (k, fails)) own = record {
  known = subst (Knows count i) (sym (ap (λ (v : NodeView). v.history) alone)) own.known;
  resident = frames_own count i old.pool new.pool (ap (λ (x : PoolView). x.frames) fails.becomes) own.resident;
}
