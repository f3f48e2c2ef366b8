use Rattle.std.proofs.Common.{arith}
use Rattle.warm_replica.specs.Mails.{Listened}
use Rattle.warm_replica.proofs.PairLemmas.{pairs_more, next_fits, rest_fits, listened_as}
use Rattle.warm_replica.proofs.mail_loops.+listen_all.Goals as goal

pub listen_all-rest-requires-clause-capacity : goal.listen_all-rest-requires-clause-capacity
listen_all-rest-requires-clause-capacity g t c κs within = (c.requires.capacity.0, rest_fits c.args.loops.items c.pop.new.self.items c.in-Some.one _ c.in-Some.ensures.items c.requires.capacity.1)

pub push_reserved-requires : goal.push_reserved-requires
push_reserved-requires g t c =
    let below = next_fits (λ s r. Listened c.args.stops c.args.turns s.worker r.1 r.0) c.args.loops.items c.pop.new.self.items c.in-Some.one c.listen_all-rest.new.all.items _ _ c.in-Some.ensures.items c.in_default-rest.ensures.heard c.requires.capacity.1 c.listen_all-rest.ensures.capacity in
    omega (arith, below, c.listen_all-rest.new.all.ok.0)

pub returns-clause-heard : goal.returns-clause-heard
returns-clause-heard g t c =
    let start = c.in_ok-child.child.promise in
    let heard = listened_as start.stops c.args.stops start.turns c.args.turns start.worker.value c.in-Some.one.worker c.join-heard.result.0 c.join-heard.result.1 c.in_ok-child.ensures.stops c.in_ok-child.ensures.turns c.in_ok-child.ensures.worker c.join-heard.ensures in
    rw (c.in-Some.ensures.items, c.push_reserved.ensures.items)
    (pairs_more (λ s r. Listened c.args.stops c.args.turns s.worker r.1 r.0) c.pop.new.self.items c.listen_all-rest.new.all.items c.in-Some.one c.join-heard.result c.in_default-rest.ensures.heard heard)
