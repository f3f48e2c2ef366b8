use Rattle.std.proofs.Common.{sym}
use Rattle.warm_threads.proofs.NodeLemmas.{usable_as}
use Rattle.warm_threads.proofs.RefusalLemmas.{memory_refuses, usable_then}
use Rattle.warm_threads.proofs.play.checked_nodes.Goals as goal

pub returns-then-not-are_usable-clause-refused : goal.returns-then-not-are_usable-clause-refused
returns-then-not-are_usable-clause-refused g c = λ usable. let never = c.are_usable.ensures.1 (usable_as _ c.args.setup _ _ (sym c.deref.ensures.value) usable) in absurd (cc)

pub nodes_of-requires : goal.nodes_of-requires
nodes_of-requires g c = record { usable = usable_as _ c.args.setup _ _ c.deref.ensures.value (c.are_usable.ensures.0 c.if-not-are_usable.false) }

pub returns-clause-misfit : goal.returns-clause-misfit
returns-clause-misfit g c = λ misfit. absurd (misfit (usable_as _ c.args.setup _ _ c.deref.ensures.value (c.are_usable.ensures.0 c.if-not-are_usable.false)))

pub returns-clause-usable : goal.returns-clause-usable
returns-clause-usable g c = usable_then c.nodes_of.result _ (usable_as _ c.args.setup _ _ c.deref.ensures.value (c.are_usable.ensures.0 c.if-not-are_usable.false))

pub returns-clause-refused : goal.returns-clause-refused
returns-clause-refused g c = memory_refuses c.args.setup _ c.nodes_of.result (usable_as _ c.args.setup _ _ c.deref.ensures.value (c.are_usable.ensures.0 c.if-not-are_usable.false)) c.nodes_of.ensures.why
