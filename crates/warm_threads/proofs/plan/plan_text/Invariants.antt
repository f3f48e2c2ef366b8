use Rattle.std.proofs.Common.{◌≡◌, ◌+◌, ◌≤◌, ◌++◌, List, length}
use Rattle.warm_player.specs.Text.{lines}
use Rattle.warm_threads.specs.declared.ask.Ask.{Ask}
use Rattle.warm_threads.specs.Asks.{asks, bad_from}
use Rattle.warm_threads.specs.Plans.{ArePlansOf, IsShaped}
use Rattle.warm_threads.proofs.plan.plan_text.Given as goal

-- the lines so far can be played, and what they ask is planned
abbrev pub invariant-loop-line : goal.invariant-loop-line
invariant-loop-line l = record {
  bad : bad_from l.setup 1 (lines l.text) ≡ bad_from l.setup l.number (lines l.rest);
  number : l.number + length l.rest ≤ 1 + length l.text;
  shape : IsShaped l.setup l.plans.items;
  planned : (before : List Ask) × ArePlansOf l.setup before l.plans.items
      × (asks l.setup (lines l.text) ≡ before ++ asks l.setup (lines l.rest));
}

abbrev pub decreases-loop-line : goal.decreases-loop-line
decreases-loop-line l = length l.rest
