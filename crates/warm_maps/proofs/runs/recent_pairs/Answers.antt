use Rattle.std.proofs.Common.{◌++◌, ◌+◌, List, drop, sym, ap, subst, ◌∙◌, append_assoc}
use Rattle.std.proofs.lemmas.List.{append-nil}
use Rattle.warm_maps.specs.declared.hist.Entry.{Entry}
use Rattle.warm_maps.specs.Runs.{AreNear, near_pair, near_run}
use Rattle.warm_maps.specs.MapPairs.{MapPairs}
use Rattle.warm_maps.proofs.MapPairLemmas.{left_more, none_left}
use Rattle.warm_maps.proofs.runs.recent_pairs.Goals as goal

pub loop-entry-init : goal.loop-entry-init
loop-entry-init c = record { near = c.requires; goes_on = ap (λ (t : MapPairs). t ++ near_run c.args.horizon c.args.run.now) c.in_ok-pairs.ensures.items }

pub push_recent-requires : goal.push_recent-requires
push_recent-requires c = (subst AreNear (left_more c.args.run.now c.loop-entry.entry-index c.entry-item.result c.loop-entry-test.true c.entry-item.is) c.loop-entry.invariant.near).0

pub loop-entry-preserved : goal.loop-entry-preserved
loop-entry-preserved c =
    let run : List Entry = c.args.run.now in
    let i : _ = c.loop-entry.entry-index in
    let e : Entry = c.entry-item.result in
    let m : _ = c.args.horizon in
    let rest = near_run m (drop (i + 1) run) in
    let left = left_more run i e c.loop-entry-test.true c.entry-item.is in
    record {
      near = (subst AreNear left c.loop-entry.invariant.near).1;
      goes_on = ap (λ (t : MapPairs). t ++ rest) c.in_ok-push_recent.ensures
          ∙ append_assoc c.loop-entry.pairs.items (near_pair m e) rest
          ∙ ap (λ (es : List Entry). c.loop-entry.pairs.items ++ near_run m es) (sym left)
          ∙ c.loop-entry.invariant.goes_on;
    }

pub returns : goal.returns
returns c =
    sym (append-nil c.loop-entry.pairs.items)
    ∙ ap (λ (es : List Entry). c.loop-entry.pairs.items ++ near_run c.args.horizon es) (sym (none_left c.args.run.now c.loop-entry.entry-index c.loop-entry-test.false))
    ∙ c.loop-entry.invariant.goes_on
