use Rattle.std.proofs.Common.{IsTrue, false, ◌++◌, ap, sym, ◌∙◌}
use Rattle.warm_history.proofs.HorizonLemmas.{one_of_all}
use Rattle.warm_history.proofs.cut.none_older.Goals as goal

-- the current entry has an older stamp, so some entry has one
pub returns-then-not-none_before : goal.returns-then-not-none_before
returns-then-not-none_before c =
    let so_far = c.loop-entry.yielded in
    let entry = c.in-Some.entry in (
      (λ (no : IsTrue false). absurd (cc)),
      λ all. c.if-not-none_before.ensures.1 (one_of_all c.args.horizon so_far _ c.args.entries entry (ap (λ es. so_far ++ es) (sym c.in-Some.ensures.steps) ∙ c.loop-entry.invariant.split) all),
    )
