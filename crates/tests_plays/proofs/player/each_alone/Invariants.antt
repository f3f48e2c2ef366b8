use Rattle.warm_world.specs.Opening.{AreFew}
use Rattle.warm_world.specs.Views.{listed}
use Rattle.tests_plays.proofs.player.each_alone.Given as goal

-- each list so far has few devices
abbrev pub invariant-loop-device : goal.invariant-loop-device
invariant-loop-device g l = AreFew (listed g.D.PageDevice.state l.lists.items)
