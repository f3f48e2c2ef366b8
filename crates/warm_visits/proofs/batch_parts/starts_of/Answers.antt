use Rattle.std.proofs.Common.{arith}
use Rattle.warm_visits.proofs.PartSorts.{starts_are, sum_within}
use Rattle.warm_visits.proofs.batch_parts.starts_of.Goals as goal

pub add_up-requires : goal.add_up-requires
add_up-requires g c =
    omega (arith, sum_within (λ item. g.T.NamesPage.named item) c.args.count c.args.items.now c.in_ok-starts.starts.items c.in_ok-starts.ensures)

pub returns : goal.returns
returns g c =
    starts_are (λ item. g.T.NamesPage.named item) c.args.count c.args.items.now c.in_ok-starts.starts.items c.add_up.new.sizes.items c.in_ok-starts.ensures c.add_up.ensures.size c.add_up.ensures.each
