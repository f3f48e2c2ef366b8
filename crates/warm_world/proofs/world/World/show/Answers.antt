use Rattle.std.proofs.Common.{ap, refl, ◌∙◌}
use Rattle.warm_gossip.specs.State.{NodeView}
use Rattle.warm_world.specs.declared.event.Event.TheVariants.{Show}
use Rattle.warm_world.proofs.WorldLemmas.{named_too, node_at}
use Rattle.warm_world.proofs.world.World.show.Goals as goal

pub returns : goal.returns
returns g c = λ m st.
    let event = Show c.args.i in
    let node = node_at _ _ _ m event c.index.result.now st c.requires.named (rw c.index_of_number.ensures at c.index.ensures) in
    record {
      new = m;
      next = (named_too _ m event st c.requires.named, (c.in_ok-shown.ensures ∙ c.in_ok-copied.ensures ∙ c.history.ensures ∙ ap (λ (v : NodeView). v.history) node, refl));
      stands = st;
    }
