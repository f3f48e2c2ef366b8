-- A call of one shard leaves the passes of the turns.
use Rattle.std.proofs.Common.{◌≡◌, ℕ, ◌<◌, List, length, set, Some, sym, ap, subst, ◌∙◌, arith, ◌++◌}
use Rattle.std.proofs.lemmas.List.{get_or-set_same, length-set}
use Rattle.warm_turn.specs.CallHistories.{Called, as_spent}
use Rattle.warm_shard_machine.specs.declared.calls.ShardCall.{ShardCall}
use Rattle.warm_shard_machine.specs.declared.calls.ShardReply.{ShardReply}
use Rattle.warm_concurrent.specs.Attached.{AreOf, AreTurns, IsPassOf, KeepsOtherPasses, Known, ShardPass, ShardTurn, known_of, no_pass, shard_pass, shard_turn}
use Rattle.warm_concurrent.specs.Clauses.{AnsweredByShard, Spent}
use Rattle.warm_shard_machine.specs.ShardSteps.{MayAnswer, ShardStep, IsOwn, ShardState}
use Rattle.warm_visits.proofs.RunLemmas.{last_of}
use Rattle.warm_shard_machine.proofs.ShardStepLemmas.{own_step, runs_keep}
use Rattle.warm_frame_table.proofs.ListLemmas.{at_set as each_at}
use Rattle.std.proofs.lemmas.Option.{same_Some}
use Rattle.warm_machine.specs.declared.operation.Operation.{Operation}
use Rattle.warm_machine.specs.Runs.{Runs, operation}

-- a shard answers what a node could
may_answer : (v w : Known) (c : ShardCall) (r : ShardReply) (o : ShardState)
    → v.opening ≡ Some o → Called ShardStep v c r w → MayAnswer o.count o.number c r
may_answer v w c r o opens called own =
    let legal = called.legal.legal in
    let same : legal.0 ≡ o = same_Some legal.0 o (sym legal.2 ∙ called.opening ∙ opens) in
    let runs = subst (λ (es : List (Operation ShardCall ShardReply)). Runs ShardStep legal.0 es legal.1) called.seen legal.3 in
    let last = last_of ShardStep legal.0 legal.1 (v.seen ++ called.between) (operation v.number c r) runs in
    let kept = runs_keep legal.0 last.0 (v.seen ++ called.between) last.1 in
    let count : o.count ≡ last.0.count = sym (kept.0 ∙ ap (λ (s : ShardState). s.count) same) in
    let number : o.number ≡ last.0.number = sym (kept.1 ∙ ap (λ (s : ShardState). s.number) same) in
    let own' : IsOwn last.0.count last.0.number c = subst (λ n. IsOwn last.0.count n c) number (subst (λ n. IsOwn n o.number c) count own) in
    (last.0.node, legal.1.node, own_step last.0 legal.1 c r own' last.2)

-- if one pass changes and is still of its turn, all are of their turns
pub still_of : (turns : List ShardTurn) (old : List ShardPass) (i : ℕ) (p : ShardPass)
    → AreOf turns old → i < length turns → IsPassOf (shard_turn turns i) p
    → AreOf turns (set old i p)
still_of turns old i p are lt new = record {
  count = length-set old i p ∙ are.count;
  each = each_at no_pass (λ k q. k < length turns → IsPassOf (shard_turn turns k) q) old i p (omega (arith, are.count)) (λ less. new) (λ k other less. are.each k less);
}

-- and the others are as they were
pub others_kept : (old : List ShardPass) (i : ℕ) (p : ShardPass) → i < length old
    → KeepsOtherPasses old i (set old i p)
others_kept old i p lt = ap (set old i) (sym (get_or-set_same old i p no_pass lt))

pub at_set : (old : List ShardPass) (i : ℕ) (p : ShardPass) → i < length old
    → shard_pass (set old i p) i ≡ p
at_set old i p lt = get_or-set_same old i p no_pass lt

module _ (turns : List ShardTurn) (old : List ShardPass) (i : ℕ) (p : ShardPass)
    (are : AreOf turns old) (lt : i < length turns) where
  pub there : i < length old
  there = omega (arith, are.count, lt)

  -- an answered call
  pub answered : (n : ShardPass) (c : ShardCall) (r : ShardReply) → n ≡ shard_pass old i
      → Called ShardStep n.view c r p.view → AnsweredByShard old i c r (set old i p)
  answered n c r is called = (
    subst (λ (q : ShardPass). Called ShardStep (known_of old i) c r q.view) (sym (at_set old i p there)) (subst (λ (q : ShardPass). Called ShardStep q.view c r p.view) is called),
    others_kept old i p there,
  )

  pub spent : (n : ShardPass) → n ≡ shard_pass old i → p.view ≡ as_spent n.view
      → Spent old i (set old i p)
  spent n is mark = (
    ap (λ (q : ShardPass). q.view) (at_set old i p there) ∙ mark ∙ ap (λ (q : ShardPass). let v : Known = as_spent q.view in v) is,
    others_kept old i p there,
  )

  pub opened_with : (n : ShardPass) → n ≡ shard_pass old i
      → n.view.opening ≡ Some (shard_turn turns i).opening
  opened_with n is = ap (λ (q : ShardPass). q.view.opening) is ∙ (are.each i lt).opens

  pub may : (n : ShardPass) (c : ShardCall) (r : ShardReply) → AreTurns turns → n ≡ shard_pass old i
      → Called ShardStep n.view c r p.view → MayAnswer (length turns) i c r
  may n c r all is called own =
      let o = (shard_turn turns i).opening in
      let own' = own in
      subst (λ m. MayAnswer (length turns) m c r) (all.numbers i lt) (subst (λ k. MayAnswer k o.number c r) (all.counts i lt) (may_answer n.view p.view c r o (opened_with n is) called)) own'
