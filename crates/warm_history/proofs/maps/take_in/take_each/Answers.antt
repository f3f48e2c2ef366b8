use Rattle.std.proofs.Common.{refl, ◌∙◌, subst, sym}
use Rattle.std.specs.Iterator.{IsFinite}
use Rattle.warm_maps.specs.declared.hist.Entry.{Entry}
use Rattle.warm_history.specs.ReferenceSets.{references_from}
use Rattle.warm_history.specs.Changes.{MarksChanged}
use Rattle.warm_history.specs.ListHistories.{references_of_entry}
use Rattle.warm_maps.specs.MapKeys.{key_of_page}
use Rattle.warm_history.specs.maps.KeptPairs.{kept, PairsTakeIn, TakesRecent}
use Rattle.warm_history.proofs.maps.KeptPairLemmas.{IsHistory-kept}
use Rattle.warm_history.proofs.ChangeLemmas.{grows_same, marks_empty, takes_more}
use Rattle.warm_history.proofs.maps.RecentLemmas.{takes_no_entries, takes_last}
use Rattle.warm_history.proofs.maps.take_in.take_each.Goals as goal

pub loop-entry-init : goal.loop-entry-init
loop-entry-init g c =
    let first = kept c.args.maps.now in
    let same = sym c.into_iter-entry-iterator.ensures.into_iter_gives in
    record {
      can = subst g.I.Iterator.can_next same c.requires.can;
      ends = subst (λ it. IsFinite (g.I.Iterator.remaining it)) same c.requires.ends;
      whole = c.requires.kept;
      takes = takes_no_entries c.args.horizon c.args.maps.now c.requires.kept;
      undo = refl;
      grows = grows_same first (IsHistory-kept c.args.maps.now c.requires.kept);
      changed = marks_empty first c.new-changed.result c.new-changed.ensures;
    }

pub loop-entry-preserved : goal.loop-entry-preserved
loop-entry-preserved g c =
    let inv : _ = c.loop-entry.invariant in
    let m : _ = c.args.horizon in
    let e : Entry = c.in-Some.entry in
    let p = key_of_page e.page in
    let goes = c.in-Some.ensures.goes.on inv.ends in
    let exact = subst (λ h. TakesRecent m c.loop-entry.maps p h c.take_recent.new.maps) c.new-stamps.ensures c.in_ok-taken.ensures.exact in
    let taken = takes_more m p (e.hist) c.args.maps.now c.loop-entry.maps c.take_recent.new.maps c.loop-entry.changed c.in_ok-taken.taken.changed c.requires.kept inv.whole exact inv.grows inv.changed c.in_ok-taken.ensures.changed in
    record {
      can = goes.0;
      ends = goes.1;
      whole = c.take_recent.ensures.whole;
      takes = takes_last m c.args.maps.now c.loop-entry.maps c.take_recent.new.maps c.loop-entry.yielded e inv.takes (subst (λ q. PairsTakeIn c.loop-entry.maps (references_from m (references_of_entry (record { page = q; hist = e.hist }))) c.take_recent.new.maps) c.take_recent.ensures.back exact);
      undo = c.take_recent.ensures.undo ∙ inv.undo;
      grows = taken.0;
      changed = subst (MarksChanged (kept c.args.maps.now) (kept c.take_recent.new.maps)) (sym c.union-changed.ensures) taken.1;
    }
