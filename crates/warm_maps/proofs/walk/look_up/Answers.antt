use Rattle.std.proofs.Common.{◌≤◌, ◌<◌, arith}
use Rattle.warm_maps.proofs.WalkLemmas.{ahead_past, first_on}
use Rattle.warm_maps.proofs.walk.look_up.Goals as goal

pub returns-clause-value : goal.returns-clause-value
returns-clause-value c =
    let key = c.args.key in
    let ahead = c.ahead_from.result in
    let on : key ≤ c.in-Some.at.now = first_on key ahead.first (c.in-Some.at, c.in-Some.hist) ahead.later c.in-Some.is c.ahead_from.ensures.on in
    let past : key < c.in-Some.at.now = omega (arith, on, c.if-get.false, c.get.ensures, c.get-2.ensures) in
    ahead_past key ahead.first (c.in-Some.at, c.in-Some.hist) ahead.later c.args.map.now.entries c.in-Some.is c.ahead_from.ensures.holds past
