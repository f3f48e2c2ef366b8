use Rattle.std.proofs.Common.{◌∙◌, sym}
use Rattle.warm_player.proofs.SplitLemmas.{words_skip, words_first, words_last, words_none, no_bytes, some_bytes}
use Rattle.warm_player.proofs.text.next_word.Goals as goal

pub returns-then-not-is_empty : goal.returns-then-not-is_empty
returns-then-not-is_empty c = sym c.loop-word.invariant ∙ words_first c.loop-word.rest.now c.in-Some.word.now c.in-Some.after.now c.in-Some.ensures.pieces (some_bytes _ _ c.is_empty.ensures c.if-not-is_empty.true)

pub loop-word-preserved : goal.loop-word-preserved
loop-word-preserved c = sym (words_skip c.loop-word.rest.now c.in-Some.word.now c.in-Some.after.now c.in-Some.ensures.pieces (no_bytes _ _ c.is_empty.ensures c.if-not-is_empty.false)) ∙ c.loop-word.invariant

pub returns-then-is_empty : goal.returns-then-is_empty
returns-then-is_empty c = sym c.loop-word.invariant ∙ words_none c.loop-word.rest.now (no_bytes _ _ c.is_empty-2.ensures c.if-is_empty.true)

pub returns : goal.returns
returns c = sym c.loop-word.invariant ∙ words_last c.loop-word.rest.now c.in_default.ensures.pieces (some_bytes _ _ c.is_empty-2.ensures c.if-is_empty.false)
