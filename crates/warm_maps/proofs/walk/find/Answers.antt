use Rattle.std.proofs.Common.{◌<◌, arith}
use Rattle.warm_maps.proofs.WalkLemmas.{ahead_past}
use Rattle.warm_maps.proofs.walk.find.Goals as goal

pub returns-then-get-clause-value : goal.returns-then-get-clause-value
returns-then-get-clause-value c =
    let past : c.args.key < c.in-Some.at.now = omega (arith, c.if-get.true, c.get.ensures, c.get-in-loop-step.ensures) in
    ahead_past c.args.key c.loop-step.ahead.first (c.in-Some.at, c.in-Some.hist) c.loop-step.ahead.later c.args.map.now.entries c.in-Some.is c.loop-step.invariant past
