use Rattle.std.proofs.Common.{ℕ, List, length, ap, sym, subst, ◌∙◌}
use Rattle.warm_gossip.specs.declared.call.Call.TheVariants.{Write}
use Rattle.warm_gossip.specs.declared.call.Reply.TheVariants.{Done}
use Rattle.warm_gossip.specs.Clauses.{Goes}
use Rattle.warm_gossip.specs.Lending.{relent_node}
use Rattle.warm_gossip.proofs.LendingLemmas.{lent_bytes}
use Rattle.warm_pool.specs.PageBytes.{IsLent}
use Rattle.warm_pool.specs.State.{IsPool}
use Rattle.warm_pool.specs.View.{view_of}
use Rattle.warm_replica.proofs.lending.change_in.Goals as goal

pub returns-clause-page : goal.returns-clause-page
returns-clause-page g c =
    let s = c.args.node.now in
    let slot = c.args.slot in
    let w = c.f-output.new.arg2 in
    let pool = subst IsPool c.pool.ensures c.prove_is_pool.ensures in
    let size = c.f-output.auto.arg2 ∙ c.bytes_mut-lent.ensures.lent.size in
    let written = lent_bytes s slot w pool c.requires.holds size in
    record {
      lends = subst (λ (bytes : List ℕ). IsLent (view_of s.pool) slot bytes) (sym c.tag_of-before.ensures) c.bytes_mut-lent.ensures.lent;
      size = ap length c.tag_of-after.ensures ∙ c.f-output.auto.arg2 ∙ ap length (sym c.tag_of-before.ensures);
      writes = subst (λ (bytes : List ℕ). Goes s (Write slot 0 bytes) Done (relent_node s slot.index w)) (sym c.tag_of-after.ensures) written.0;
      dirty = written.1;
    }
