use Rattle.std.proofs.Common.{◌≡◌, ◌+◌, ap, sym, subst, ◌∙◌, arith, length}
use Rattle.warm_maps.specs.BucketMaps.{KeysAscend}
use Rattle.warm_maps.specs.Cuts.{cut_at}
use Rattle.warm_maps.specs.MapPairs.{MapPairs}
use Rattle.warm_maps.specs.NearJoins.{EachAscends}
use Rattle.warm_maps.specs.NearPairs.{near_pairs}
use Rattle.warm_maps.specs.Runs.{with_pairs}
use Rattle.warm_maps.specs.Walks.{AreThere}
use Rattle.warm_maps.proofs.CutLemmas.{rise_left}
use Rattle.warm_maps.proofs.MergedLemmas.{rise_with, parts_rise, new_absent, changed_there, merged_is}
use Rattle.warm_maps.proofs.NearJoinLemmas.{joined_first, changed_first}
use Rattle.warm_maps.proofs.near_join.+join_maps.Goals as goal

pub put_in-requires-clause-run : goal.put_in-requires-clause-run
put_in-requires-clause-run t c =
    let m = c.args.horizon in
    let r : MapPairs = c.in-Some-split_first.other.now.near.entries in
    let rise : KeysAscend r = (subst (λ ms. EachAscends (near_pairs ms)) c.in-Some-split_first.ensures.cases.0 c.requires.more).0 in
    (parts_rise c.in-Some.map.now.near.entries (cut_at m r) c.in_ok-changed.field-0.changed.items c.in_ok-changed.field-0.fresh.items c.in_ok-changed.ensures (rise_left m r rise)).1

pub put_in-requires-clause-absent : goal.put_in-requires-clause-absent
put_in-requires-clause-absent t c = new_absent c.in-Some.map.now.near.entries (cut_at c.args.horizon c.in-Some-split_first.other.now.near.entries) c.in_ok-changed.field-0.changed.items c.in_ok-changed.field-0.fresh.items c.in_ok-changed.ensures

pub write_all-requires-clause-rise : goal.write_all-requires-clause-rise
write_all-requires-clause-rise t c =
    let rise : KeysAscend c.in-Some.map.now.near.entries = (subst (λ ms. EachAscends (near_pairs ms)) c.in-Some.ensures.cases.0 c.requires.rise).0 in
    subst KeysAscend (sym c.in_ok-added.ensures.ok) (rise_with c.in-Some.map.now.near.entries c.in_ok-changed.field-0.fresh.items rise)

pub write_all-requires-clause-run : goal.write_all-requires-clause-run
write_all-requires-clause-run t c =
    let m = c.args.horizon in
    let r : MapPairs = c.in-Some-split_first.other.now.near.entries in
    let rise : KeysAscend r = (subst (λ ms. EachAscends (near_pairs ms)) c.in-Some-split_first.ensures.cases.0 c.requires.more).0 in
    subst KeysAscend (sym c.deref.ensures.value) (parts_rise c.in-Some.map.now.near.entries (cut_at m r) c.in_ok-changed.field-0.changed.items c.in_ok-changed.field-0.fresh.items c.in_ok-changed.ensures (rise_left m r rise)).0

pub write_all-requires-clause-there : goal.write_all-requires-clause-there
write_all-requires-clause-there t c =
    let old : MapPairs = c.in-Some.map.now.near.entries in
    let changed : MapPairs = c.in_ok-changed.field-0.changed.items in
    let fresh : MapPairs = c.in_ok-changed.field-0.fresh.items in
    subst (AreThere c.deref.result.now) (sym c.in_ok-added.ensures.ok) (subst (λ (s : MapPairs). AreThere s (with_pairs old fresh)) (sym c.deref.ensures.value)
    (changed_there old (cut_at c.args.horizon c.in-Some-split_first.other.now.near.entries) changed fresh c.in_ok-changed.ensures))

pub returns-in-Ok-clause-ok : goal.returns-in-Ok-clause-ok
returns-in-Ok-clause-ok t c =
    let m = c.args.horizon in
    let old : MapPairs = c.in-Some.map.now.near.entries in
    let r : MapPairs = c.in-Some-split_first.other.now.near.entries in
    let changed : MapPairs = c.in_ok-changed.field-0.changed.items in
    let fresh : MapPairs = c.in_ok-changed.field-0.fresh.items in
    let rise : KeysAscend old = (subst (λ ms. EachAscends (near_pairs ms)) c.in-Some.ensures.cases.0 c.requires.rise).0 in
    let rise_run : KeysAscend r = (subst (λ ms. EachAscends (near_pairs ms)) c.in-Some-split_first.ensures.cases.0 c.requires.more).0 in
    joined_first m (near_pairs c.args.maps.now) (near_pairs c.args.more.now) old r _ (near_pairs c.in-Some.later.now) (near_pairs c.in-Some-split_first.others.now) _ (ap near_pairs c.in-Some.ensures.cases.0) (ap near_pairs c.in-Some-split_first.ensures.cases.0)
    (c.write_all.ensures.entries
    ∙ ap (λ (s : MapPairs). with_pairs s c.deref.result.now) c.in_ok-added.ensures.ok
    ∙ ap (with_pairs (with_pairs old fresh)) c.deref.ensures.value
    ∙ merged_is old (cut_at m r) changed fresh c.in_ok-changed.ensures rise (rise_left m r rise_run))
    c.in-Ok.ensures.ok

pub returns-in-Ok-clause-changed : goal.returns-in-Ok-clause-changed
returns-in-Ok-clause-changed t c =
    let m = c.args.horizon in
    let old : MapPairs = c.in-Some.map.now.near.entries in
    let r : MapPairs = c.in-Some-split_first.other.now.near.entries in
    let changed : MapPairs = c.in_ok-changed.field-0.changed.items in
    let fresh : MapPairs = c.in_ok-changed.field-0.fresh.items in
    let rise : KeysAscend old = (subst (λ ms. EachAscends (near_pairs ms)) c.in-Some.ensures.cases.0 c.requires.rise).0 in
    let rise_run : KeysAscend r = (subst (λ ms. EachAscends (near_pairs ms)) c.in-Some-split_first.ensures.cases.0 c.requires.more).0 in
    let count : c.len.result + c.len-2.result ≡ length changed + length fresh = omega (arith, c.len.ensures, c.len-2.ensures, c.in_ok-changed.field-0.changed.ok.0, c.in_ok-changed.field-0.fresh.ok.0) in
    changed_first m c.args.number (near_pairs c.args.maps.now) (near_pairs c.args.more.now) old r changed fresh (near_pairs c.in-Some.later.now) (near_pairs c.in-Some-split_first.others.now) c.in-Ok.rest c.with_bucket.result (c.len.result + c.len-2.result)
    (ap near_pairs c.in-Some.ensures.cases.0) (ap near_pairs c.in-Some-split_first.ensures.cases.0) c.in_ok-changed.ensures rise (rise_left m r rise_run) c.in-Ok.ensures.changed count c.with_bucket.ensures.none c.with_bucket.ensures.some

pub undo-requires : goal.undo-requires
undo-requires t c =
    let rise : KeysAscend c.in-Some.map.now.near.entries = (subst (λ ms. EachAscends (near_pairs ms)) c.in-Some.ensures.cases.0 c.requires.rise).0 in
    subst KeysAscend (sym c.in_ok-added.ensures.ok) (rise_with c.in-Some.map.now.near.entries c.in_ok-changed.field-0.fresh.items rise)
