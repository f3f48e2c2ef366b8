use Rattle.std.proofs.Common.{sym, ap, ◌∙◌}
use Rattle.std.proofs.lemmas.Bool.{eqb-true}
use Rattle.std.specs.Option.{is_some}
use Rattle.warm_player.proofs.SplitLemmas.{some_bytes}
use Rattle.warm_player.proofs.HexReadingLemmas.{nothing, is_some-map, spells_whole}
use Rattle.warm_player.proofs.fields.spells_bytes.Goals as goal

pub returns-then-is_empty : goal.returns-then-is_empty
returns-then-is_empty c = sym (ap is_some (nothing c.args.word.now (eqb-true _ _ (sym c.is_empty.ensures ∙ c.if-is_empty.true))))

pub loop-after-preserved : goal.loop-after-preserved
loop-after-preserved c = sym (ap is_some c.in-Some.ensures.spelled ∙ is_some-map _ _) ∙ c.loop-after.invariant

pub returns : goal.returns
returns c = spells_whole c.is_empty-2.result c.args.word.now c.loop-after.rest.now (some_bytes _ _ c.is_empty.ensures c.if-is_empty.false) c.is_empty-2.ensures c.in_default.ensures.spelled c.loop-after.invariant
