use Rattle.std.proofs.Common.{arith}
use Rattle.warm_visits.proofs.PartCuts.{count_is}
use Rattle.warm_visits.proofs.batch_parts.PartList.count.Goals as goal

pub returns : goal.returns
returns g c =
    let s = c.self.inside in
    omega (arith, c.len.ensures, s.ends.ok.0, count_is s.ends.items s.items.items c.args.self.now c.self.view_is)
