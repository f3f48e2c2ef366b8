use Rattle.warm_maps.proofs.WalkLemmas.{adds_new, adds_nothing}
use Rattle.warm_maps.proofs.walk.add_part.Goals as goal

pub returns-in_default : goal.returns-in_default
returns-in_default c = adds_new c.args.known c.args.key c.args.more c.args.changed.now.items c.args.fresh.now.items c.push_pair.new.pairs.items c.in_default.is c.prove_two_latest.ensures c.in_ok-push_pair.ensures

pub returns-then-is_known : goal.returns-then-is_known
returns-then-is_known c = adds_nothing c.args.known c.args.key c.args.more c.in-Some.before c.args.changed.now.items c.args.fresh.now.items c.in-Some.is (c.is_known.ensures c.if-is_known.true)
