use Rattle.std.proofs.Common.{◌≡◌, ap, sym, subst, ◌∙◌, arith, length}
use Rattle.warm_maps.specs.BucketMaps.{KeysAscend}
use Rattle.warm_maps.specs.MapPairs.{MapPairs}
use Rattle.warm_maps.specs.Runs.{with_pairs}
use Rattle.warm_maps.specs.Walks.{AreAbsent, AreThere, DiffersAt}
use Rattle.warm_maps.proofs.MergedLemmas.{rise_with, parts_rise, new_absent, changed_there, merged_is, merged_none, merged_differs}
use Rattle.warm_maps.proofs.RunPairs.{none_of}
use Rattle.warm_maps.proofs.walk.merge_run.Goals as goal

pub put_all_in-requires-clause-run : goal.put_all_in-requires-clause-run
put_all_in-requires-clause-run c =
    subst KeysAscend (sym c.deref.ensures.value) (parts_rise c.args.map.now.entries c.args.run.now c.in_ok-changed.field-0.changed.items c.in_ok-changed.field-0.fresh.items c.in_ok-changed.ensures c.requires.run).1

pub put_all_in-requires-clause-absent : goal.put_all_in-requires-clause-absent
put_all_in-requires-clause-absent c =
    let old : MapPairs = c.args.map.now.entries in
    subst (λ (t : MapPairs). AreAbsent t old) (sym c.deref.ensures.value) (new_absent old c.args.run.now c.in_ok-changed.field-0.changed.items c.in_ok-changed.field-0.fresh.items c.in_ok-changed.ensures)

pub write_all-requires-clause-rise : goal.write_all-requires-clause-rise
write_all-requires-clause-rise c = subst KeysAscend (sym c.in_ok-put_all_in.ensures.ok) (rise_with c.args.map.now.entries c.deref.result.now c.requires.rise)

pub write_all-requires-clause-run : goal.write_all-requires-clause-run
write_all-requires-clause-run c =
    subst KeysAscend (sym c.deref-2.ensures.value) (parts_rise c.args.map.now.entries c.args.run.now c.in_ok-changed.field-0.changed.items c.in_ok-changed.field-0.fresh.items c.in_ok-changed.ensures c.requires.run).0

pub write_all-requires-clause-there : goal.write_all-requires-clause-there
write_all-requires-clause-there c =
    let old : MapPairs = c.args.map.now.entries in
    let is : c.put_all_in.new.map.entries ≡ with_pairs old c.in_ok-changed.field-0.fresh.items = c.in_ok-put_all_in.ensures.ok ∙ ap (with_pairs old) c.deref.ensures.value in
    subst (AreThere c.deref-2.result.now) (sym is) (subst (λ (t : MapPairs). AreThere t (with_pairs old c.in_ok-changed.field-0.fresh.items)) (sym c.deref-2.ensures.value)
    (changed_there old c.args.run.now c.in_ok-changed.field-0.changed.items c.in_ok-changed.field-0.fresh.items c.in_ok-changed.ensures))

pub returns-clause-ok : goal.returns-clause-ok
returns-clause-ok c =
    let old : MapPairs = c.args.map.now.entries in
    let fresh : MapPairs = c.in_ok-changed.field-0.fresh.items in
    let is : c.put_all_in.new.map.entries ≡ with_pairs old fresh = c.in_ok-put_all_in.ensures.ok ∙ ap (with_pairs old) c.deref.ensures.value in
    c.write_all.ensures.entries
    ∙ ap (λ (t : MapPairs). with_pairs t c.deref-2.result.now) is
    ∙ ap (with_pairs (with_pairs old fresh)) c.deref-2.ensures.value
    ∙ merged_is old c.args.run.now c.in_ok-changed.field-0.changed.items fresh c.in_ok-changed.ensures c.requires.rise c.requires.run

pub returns-clause-tells : goal.returns-clause-tells
returns-clause-tells c =
    let old : MapPairs = c.args.map.now.entries in
    let run : MapPairs = c.args.run.now in
    let changed : MapPairs = c.in_ok-changed.field-0.changed.items in
    let fresh : MapPairs = c.in_ok-changed.field-0.fresh.items in
    let differs = merged_differs old run changed fresh c.in_ok-changed.ensures c.requires.rise c.requires.run (λ no_change no_new.
    let short : length changed ≡ 0 = ap length no_change in
    let also : length fresh ≡ 0 = ap length no_new in
    absurd (omega (arith, short, also, c.in_ok-changed.field-0.changed.ok.0, c.in_ok-changed.field-0.fresh.ok.0, c.if-changes-eq0.false))) in
    ((λ yes. subst (DiffersAt run old) (sym (returns-clause-ok c)) differs), λ no. absurd (cc))

-- nothing changes
pub returns-then-changes-eq0-clause-ok : goal.returns-then-changes-eq0-clause-ok
returns-then-changes-eq0-clause-ok c =
    let changed : MapPairs = c.in_ok-changed.field-0.changed.items in
    let fresh : MapPairs = c.in_ok-changed.field-0.fresh.items in
    let short : length changed ≡ 0 = omega (arith, c.in_ok-changed.field-0.changed.ok.0, c.if-changes-eq0.true) in
    let also : length fresh ≡ 0 = omega (arith, c.in_ok-changed.field-0.fresh.ok.0, c.if-changes-eq0.true) in
    merged_none c.args.map.now.entries c.args.run.now changed fresh c.in_ok-changed.ensures c.requires.rise c.requires.run (none_of changed short) (none_of fresh also)
