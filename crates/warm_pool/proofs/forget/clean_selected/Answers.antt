use Rattle.std.proofs.Common.{◌<◌, length, ap, sym, subst, ◌∙◌, arith}
use Rattle.warm_pool.proofs.ForgetLemmas.{length-cleaned, one_cleaned}
use Rattle.warm_pool.proofs.forget.clean_selected.Goals as goal

pub loop-at-preserved : goal.loop-at-preserved
loop-at-preserved c = one_cleaned c.args.which c.loop-at.at c.args.frames.now c.loop-at.frames c.clean_one.new.frames (omega arith) c.loop-at.invariant c.clean_one.ensures

pub clean_one-requires : goal.clean_one-requires
clean_one-requires c =
    subst (λ n. c.loop-at.at < n) (sym (ap (λ s. length s.frames) c.loop-at.invariant ∙ length-cleaned c.args.which c.loop-at.at c.args.frames.now.frames)) (omega arith)
