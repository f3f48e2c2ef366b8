-- What an errand of a visit leaves of the node that it was run at, and what it gave.
use Rattle.std.proofs.Common.{◌≡◌, ℕ, true, false, List, [], ◌∷◌, refl, sym, ap, subst, ◌∙◌}
use Rattle.warm_history.specs.ReferenceSets.{ReferenceSet, set_of_list, ◌∪◌}
use Rattle.warm_history.specs.Histories.{history, references_of}
use Rattle.warm_history.proofs.JoinLemmas.{history_first}
use Rattle.warm_frames.specs.declared.message.Message.TheVariants.{Digest}
use Rattle.warm_pool.specs.View.{view_of}
use Rattle.warm_gossip.specs.Clauses.{SameView}
use Rattle.warm_gossip.specs.State.{NodeState, NodeView, node_view}
use Rattle.warm_shards.specs.Shards.{HoldsPagesOf, HoldsShard}
use Rattle.warm_visits.specs.Laws.{AreOwnErrands, IsOwnAsk}
use Rattle.warm_visits.specs.Visits.{Ask, Errand, HasEntered, NodeSays, Said, Takes, VisitState, copied, copying, given, giving, offered, offering, refused, sending, sent}
use Rattle.warm_visits.proofs.EmptySetLemmas.{union_none}
use Rattle.warm_shards.proofs.Calls.{takes_own}
use Rattle.warm_shards.proofs.VisitLemmas.{named}
use Rattle.warm_shard_machine.specs.Laws.{ErrandsAreCalls}
use Rattle.warm_shard_machine.specs.Entering.{IsNextAt, gave_ask, gave_entry, gave_first}

-- ---- what it leaves

same_pool : (n m : NodeState) → SameView n m → view_of m.pool ≡ view_of n.pool
same_pool n m same = ap (λ (v : NodeView). v.pool) same

says_pool : (n m : NodeState) (ask : Ask) (said : Said) → NodeSays n ask said m
    → view_of m.pool ≡ view_of n.pool
says_pool n m (giving S) (given horizon) says = ap (λ (v : NodeView). v.pool) says.0.0
says_pool n m (giving S) refused says = same_pool n m says.1.0
says_pool n m offering (offered horizon table) says = same_pool n m says.2.0
says_pool n m offering refused says = same_pool n m says.0
says_pool n m (sending bucket after) (sent message more) says = same_pool n m says.2.0
says_pool n m (sending bucket after) refused says = same_pool n m says.0
says_pool n m copying (copied h) says = same_pool n m says.1.0
says_pool n m copying refused says = same_pool n m says.0
says_pool n m ask said says = absurd says

-- a caller sees the same pool
pub entered_pool : (n m : NodeState) (v w : VisitState) → HasEntered v n w m
    → view_of m.pool ≡ view_of n.pool
entered_pool n m v w (e, said, enters) = says_pool n m e.ask said enters.says

-- ---- whose pages

module _ (count i : ℕ) (n m : NodeState) (own : HoldsShard count i n) where
  same_own : SameView n m → HoldsShard count i m
  same_own same = subst (HoldsPagesOf count i) (sym same) own

  says_own : (ask : Ask) (said : Said) → IsOwnAsk count i ask → NodeSays n ask said m
      → HoldsShard count i m
  says_own (giving S) (given horizon) brings says = takes_own count i (node_view n) (node_view m) S own says.0.0 brings
  says_own (giving S) refused brings says = same_own says.1.0
  says_own offering (offered horizon table) brings says = same_own says.2.0
  says_own offering refused brings says = same_own says.0
  says_own (sending bucket after) (sent message more) brings says = same_own says.2.0
  says_own (sending bucket after) refused brings says = same_own says.0
  says_own copying (copied h) brings says = same_own says.1.0
  says_own copying refused brings says = same_own says.0
  says_own ask said brings says = absurd says

  -- an errand at the shard brings no other pages
  pub entered_own : (v w : VisitState) → IsNextAt count i v → HasEntered v n w m
      → HoldsShard count i m
  entered_own v w at (e, said, enters) =
      let here : e.shard ≡ i = named v w i n m e said (sym at.next) enters in
      let all : AreOwnErrands count (e ∷ enters.rest) = subst (AreOwnErrands count) enters.next at.own in
      says_own e.ask said (subst (λ j. IsOwnAsk count j e.ask) here all.0.1) enters.says

-- ---- what it gave

module _ (S : ReferenceSet) (n m : NodeState) (stands : n.history ≡ history S) where
  -- if nothing was given, and a caller sees what it saw
  same_given : SameView n m → m.history ≡ history (S ∪ set_of_list [])
  same_given same =
      ap (λ (v : NodeView). v.history) same ∙ stands ∙ ap history (sym (union_none S))

  says_given : (v w : VisitState) (i : ℕ) (ask : Ask) (rest : List Errand) (said : Said)
      → v.stopped ≡ false → NodeSays n ask said m → Takes v i ask rest said w
      → m.history ≡ history (S ∪ gave_ask ask w.stopped)
  says_given v w i (giving T) rest (given horizon) going says takes =
      let goes : w.stopped ≡ false = ap (λ (x : VisitState). x.stopped) takes ∙ going in
      subst (λ b. m.history ≡ history (S ∪ gave_ask (giving T) b)) (sym goes)
      (ap (λ (v : NodeView). v.history) says.0.0 ∙ ap (λ h. history (references_of h ∪ T)) stands ∙ history_first S T)
  says_given v w i (giving T) rest refused going says takes =
      let stops : w.stopped ≡ true = ap (λ (x : VisitState). x.stopped) takes in
      subst (λ b. m.history ≡ history (S ∪ gave_ask (giving T) b)) (sym stops) (same_given says.1.0)
  says_given v w i offering rest (offered horizon table) going says takes = same_given says.2.0
  says_given v w i offering rest refused going says takes = same_given says.0
  says_given v w i (sending bucket after) rest (sent message more) going says takes = same_given says.2.0
  says_given v w i (sending bucket after) rest refused going says takes = same_given says.0
  says_given v w i copying rest (copied h) going says takes = same_given says.1.0
  says_given v w i copying rest refused going says takes = same_given says.0
  says_given v w i ask rest said going says takes = absurd says

  -- the node has the history of what it was given before, and of what the errand gave
  pub entered_given : (v w : VisitState) → HasEntered v n w m
      → m.history ≡ history (S ∪ gave_entry v w)
  entered_given v w (e, said, enters) =
      subst (λ es. m.history ≡ history (S ∪ gave_first es w.stopped)) (sym enters.next) (says_given v w e.shard e.ask enters.rest said enters.ready enters.says enters.takes)

-- ---- as calls of the node

pub errands_are_calls : (n m : NodeState) → ErrandsAreCalls n m
errands_are_calls n m = record {
  absorbs = λ batch horizon says. says.0.0;
  raises = λ time horizon says. (says.0.0, says.1);
  receives = λ sender time horizon entries says. (refl, says.0.0);
  offers = λ horizon table says. (λ i. Digest n.id (says.0 i) (says.1 i), says.2.0);
  refuses = λ batch says. says.1.0;
}
