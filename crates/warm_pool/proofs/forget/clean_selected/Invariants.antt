use Rattle.std.proofs.Common.{◌≡◌}
use Rattle.warm_pool.specs.WritingBack.{cleaned_selected}
use Rattle.warm_pool.proofs.forget.clean_selected.Given as goal

-- the selected frames so far are clean
abbrev pub invariant-loop-at : goal.invariant-loop-at
invariant-loop-at l =
    l.frames ≡ record l.fn.frames { frames = cleaned_selected l.which l.at l.fn.frames.frames }
