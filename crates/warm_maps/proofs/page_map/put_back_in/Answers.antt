use Rattle.std.proofs.Common.{ap, sym, ◌∙◌}
use Rattle.warm_maps.proofs.RecordLemmas.{put_back_absent}
use Rattle.warm_maps.proofs.page_map.put_back_in.Goals as goal

pub returns-in_default : goal.returns-in_default
returns-in_default g c = ap (λ m. m.entries) c.get_mut.follows.holds-at-none ∙ put_back_absent g.K.Ord.cmp c.args.key c.args.known c.in-Some.hist c.args.map.now.entries c.in-Some.is (sym c.in_default.ensures.value)
