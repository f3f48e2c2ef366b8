use Rattle.std.proofs.Common.{length}
use Rattle.warm_concurrent.proofs.EntryLemmas.{goes_more, still_visits}
use Rattle.warm_concurrent.proofs.visiting.enter_all.Goals as goal

pub loop-shard-preserved : goal.loop-shard-preserved
loop-shard-preserved g c =
    let i = c.loop-shard.invariant in
    let v = c.loop-shard.visit in
    let w = c.in_ok-visit.visit in
    let mid = c.loop-shard.passes.items in
    let new = c.enter_shard.new.passes.items in
    let runs = c.in_ok-visit.ensures.runs in
    record {
      of = c.enter_shard.ensures.passes;
      goes = goes_more c.args.visit v w c.args.passes.now.items mid new i.goes runs;
      visit = still_visits (length c.args.turns.now.items) v w mid new c.requires.turns.count i.visit runs;
    }
