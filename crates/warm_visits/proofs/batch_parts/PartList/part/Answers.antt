use Rattle.std.proofs.Common.{◌-◌, List, take, drop, ap, ◌∙◌, arith}
use Rattle.std.specs.Prelude.{slice_range}
use Rattle.warm_visits.proofs.PartCuts.{count_is, read_bounds, read_part}
use Rattle.warm_visits.proofs.batch_parts.PartList.part.Goals as goal

pub start_of-start-requires : goal.start_of-start-requires
start_of-start-requires g c =
    let s = c.self.inside in
    omega (arith, c.requires, count_is s.ends.items s.items.items c.args.self.now c.self.view_is)

pub index-end-requires : goal.index-end-requires
index-end-requires g c =
    let s = c.self.inside in
    omega (arith, c.requires, s.ends.ok.0, count_is s.ends.items s.items.items c.args.self.now c.self.view_is)

pub offset_bounds-deref-start : goal.offset_bounds-deref-start
offset_bounds-deref-start g c =
    let s = c.self.inside in
    let at = read_bounds s.ends.items s.items.items c.args.self.now c.args.shard c.index-end.result.now c.self.invariant c.self.view_is c.requires c.index-end.ensures in
    omega (arith, c.start_of-start.ensures, at.0, at.1, c.deref.ensures.len, s.items.ok.0)

pub slice_bounds-result-count : goal.slice_bounds-result-count
slice_bounds-result-count g c =
    let s = c.self.inside in
    let at = read_bounds s.ends.items s.items.items c.args.self.now c.args.shard c.index-end.result.now c.self.invariant c.self.view_is c.requires c.index-end.ensures in
    omega (arith, c.start_of-start.ensures, at.0)

pub slice_bounds-result-start : goal.slice_bounds-result-start
slice_bounds-result-start g c =
    let s = c.self.inside in
    let at = read_bounds s.ends.items s.items.items c.args.self.now c.args.shard c.index-end.result.now c.self.invariant c.self.view_is c.requires c.index-end.ensures in
    omega (arith, c.start_of-start.ensures, at.0)

pub slice_bounds-result-end : goal.slice_bounds-result-end
slice_bounds-result-end g c =
    let s = c.self.inside in
    let at = read_bounds s.ends.items s.items.items c.args.self.now c.args.shard c.index-end.result.now c.self.invariant c.self.view_is c.requires c.index-end.ensures in
    omega (arith, at.1, c.deref.ensures.len, s.items.ok.0)

pub returns : goal.returns
returns g c =
    let s = c.self.inside in
    let xs = s.items.items in
    let end = c.index-end.result.now in
    ap (λ (ys : List g.row.T.Denot). take (end - c.start_of-start.result) (drop c.start_of-start.result ys)) c.deref.ensures.value
    ∙ ap (λ n. slice_range xs n end) c.start_of-start.ensures
    ∙ read_part s.ends.items xs c.args.self.now c.args.shard end c.self.view_is c.requires c.index-end.ensures
