-- Passes that are split off, ended and closed, shard by shard.
use Rattle.std.proofs.Common.{◌≡◌, ℕ, ◌<◌, List, [], length, set, Result, sym, ap, subst, ◌∙◌}
use Rattle.warm_turn.specs.CallHistories.{Joined, calls_by, halved, new_pass}
use Rattle.warm_turn.specs.declared.fault.Busy.{Busy}
use Rattle.warm_gossip.specs.State.{NodeState}
use Rattle.warm_concurrent.specs.Attached.{AreOf, IsPassOf, Known, ShardPass, ShardTurn, known_of, shard_pass, shard_turn}
use Rattle.warm_concurrent.specs.Opening.{ClosesShard, IsSplit, with_half}
use Rattle.warm_shard_machine.specs.ShardSteps.{ShardStep}
use Rattle.warm_concurrent.proofs.PassLemmas.{still_of}

-- a new pass is of the turn, as the one that it was split off
pub split_of : (turn t : ShardTurn) (n p : ShardPass) (old : ShardPass) → IsPassOf turn old → t ≡ turn
    → n ≡ old → p.table ≡ t.table
    → ((k : ℕ) × (p.view ≡ new_pass n.view k) × (calls_by k n.view.seen ≡ []))
    → IsPassOf turn p × IsSplit old.view p.view
split_of turn t n p old of is same table (k, new, none) = (
  record {
    table = table ∙ ap (λ (x : ShardTurn). x.table) is;
    opens = ap (λ (v : Known). v.opening) new ∙ ap (λ (q : ShardPass). q.view.opening) same ∙ of.opens;
  },
  (k, new ∙ ap (λ (q : ShardPass). let v : Known = new_pass q.view k in v) same, subst (λ (q : ShardPass). calls_by k q.view.seen ≡ []) same none),
)

module _ (turns : List ShardTurn) (others now : List ShardPass) (i : ℕ) (p n u : ShardPass)
    (t : ShardTurn) (are : AreOf turns now) (lt : i < length turns) (at : n ≡ shard_pass now i)
    (other : u ≡ shard_pass others i) (is : t ≡ shard_turn turns i) where
  -- the next pass was ended into its own
  pub joined_of : p.table ≡ t.table → Joined ShardStep n.view u.view p.view
      → AreOf turns (set now i p)
  joined_of table joined =
      still_of turns now i p are lt (record {
        table = table ∙ ap (λ (x : ShardTurn). x.table) is;
        opens = ap (λ (v : Known). v.opening) joined.1 ∙ ap (λ (q : ShardPass). q.view.opening) at ∙ (are.each i lt).opens;
      })

  pub joined_here : Joined ShardStep n.view u.view p.view
      → Joined ShardStep (known_of now i) (known_of others i) p.view
  joined_here joined =
      subst (λ (q : ShardPass). Joined ShardStep (known_of now i) q.view p.view) other (subst (λ (q : ShardPass). Joined ShardStep q.view u.view p.view) at joined)

module _ (turns : List ShardTurn) (now : List ShardPass) (i : ℕ) (p n : ShardPass) (t : ShardTurn)
    (are : AreOf turns now) (lt : i < length turns) (at : n ≡ shard_pass now i)
    (is : t ≡ shard_turn turns i) (half : p.view ≡ halved n.view) (table : p.table ≡ t.table) where
  -- the pass that was split is of its turn
  pub halved_of : AreOf turns (set now i p)
  halved_of =
      still_of turns now i p are lt (record {
        table = table ∙ ap (λ (x : ShardTurn). x.table) is;
        opens = ap (λ (v : Known). v.opening) half ∙ ap (λ (q : ShardPass). q.view.opening) at ∙ (are.each i lt).opens;
      })

  -- it is as it was, but for its share
  pub halved_here : p ≡ with_half (shard_pass now i)
  halved_here =
      let own : p.table ≡ n.table = table ∙ ap (λ (x : ShardTurn). x.table) is ∙ sym (ap (λ (q : ShardPass). q.table) at ∙ (are.each i lt).table) in
      let here : p ≡ with_half n = λ k. record { table = own k; view = half k } in
      here ∙ ap with_half at

-- a shard was closed
pub closes : (turn t : ShardTurn) (old n : ShardPass) (r : Result NodeState Busy) → t ≡ turn
    → n ≡ old → ClosesShard t n.view r → ClosesShard turn old.view r
closes turn t old n r is same closed =
    subst (λ (q : ShardPass). ClosesShard turn q.view r) same (subst (λ (x : ShardTurn). ClosesShard x n.view r) is closed)
