use Rattle.std.proofs.Common.{ℕ, ◌<◌, ◌≤◌, ◌++◌, ap, sym, subst, ◌∙◌, arith, length}
use Rattle.std.specs.List.{AllByRecursion}
use Rattle.warm_stamps.specs.Buckets.{page_bucket}
use Rattle.warm_maps.specs.MapKeys.{near_key, key_of_page}
use Rattle.warm_maps.specs.declared.hist.PageHist.{PageHist}
use Rattle.warm_maps.specs.MapPairs.{MapPairs}
use Rattle.warm_maps.specs.NearPairs.{full, widened, IsFar}
use Rattle.warm_maps.specs.Undo.{put_back}
use Rattle.warm_maps.proofs.BucketCounts.{few_put_back}
use Rattle.warm_maps.proofs.NearKeys.{full_near, near_fits, near_before_far, key_far}
use Rattle.warm_maps.proofs.NearParts.{put_back_near, put_back_far, all_put_back}
use Rattle.warm_maps.proofs.bucket_map.BucketMap.put_back.Goals as goal

pub returns-then-note-lt-NEAR_DEVICES-clause-back : goal.returns-then-note-lt-NEAR_DEVICES-clause-back
returns-then-note-lt-NEAR_DEVICES-clause-back c =
    let page = c.args.note.page in
    let hist = c.args.note.hist in
    let b = page_bucket page in
    let m = c.args.self.now in
    let low : page.dev < 64 = c.if-note-lt-NEAR_DEVICES.true in
    let fits : page.no < 18446744073709551616 = omega arith in
    ap (λ t. widened b t ++ m.far.entries) (c.put_back_in.ensures ∙ ap (λ p. put_back p hist m.near.entries) c.near_key.ensures.value)
    ∙ sym (put_back_near b (near_key page) m.near.entries m.far.entries (near_before_far b (near_key page) (near_fits page low fits)) c.requires.far hist)
    ∙ ap (λ p. put_back p hist (full b m)) (full_near page low fits)

pub returns-then-note-lt-NEAR_DEVICES-clause-map : goal.returns-then-note-lt-NEAR_DEVICES-clause-map
returns-then-note-lt-NEAR_DEVICES-clause-map c =
    let m = c.args.self.now in
    let hist = c.args.note.hist in
    let p = c.near_key.result in
    let few : length c.put_back_in.new.map.entries ≤ length m.near.entries = subst (λ (t : MapPairs). length t ≤ length m.near.entries) (sym c.put_back_in.ensures) (few_put_back p hist m.near.entries) in
    record {
      near = subst (AllByRecursion (λ (e : ℕ × PageHist). e.0 < 18446744073709551616)) (sym c.put_back_in.ensures) (all_put_back (λ k. k < 18446744073709551616) p hist m.near.entries c.requires.near);
      far = c.requires.far;
      near_few = omega (arith, few, c.requires.near_few);
      far_few = c.requires.far_few;
    }

pub returns-else-note-lt-NEAR_DEVICES-clause-back : goal.returns-else-note-lt-NEAR_DEVICES-clause-back
returns-else-note-lt-NEAR_DEVICES-clause-back c =
    let page = c.args.note.page in
    let hist = c.args.note.hist in
    let b = page_bucket page in
    let m = c.args.self.now in
    let high : 64 ≤ page.dev = c.if-note-lt-NEAR_DEVICES.false in
    let dev : page.dev < 65536 = omega arith in
    let fits : page.no < 18446744073709551616 = omega arith in
    ap (λ t. widened b m.near.entries ++ t) (c.put_back_in-else-note-lt-NEAR_DEVICES.ensures ∙ ap (λ p. put_back p hist m.far.entries) c.key_of_page.ensures.value)
    ∙ sym (put_back_far b (key_of_page page) m.near.entries m.far.entries (key_far page high dev fits) c.requires.near hist)

pub returns-else-note-lt-NEAR_DEVICES-clause-map : goal.returns-else-note-lt-NEAR_DEVICES-clause-map
returns-else-note-lt-NEAR_DEVICES-clause-map c =
    let m = c.args.self.now in
    let hist = c.args.note.hist in
    let p = c.key_of_page.result in
    let b = page_bucket c.args.note.page in
    let few : length c.put_back_in-else-note-lt-NEAR_DEVICES.new.map.entries ≤ length m.far.entries = subst (λ (t : MapPairs). length t ≤ length m.far.entries) (sym c.put_back_in-else-note-lt-NEAR_DEVICES.ensures) (few_put_back p hist m.far.entries) in
    record {
      near = c.requires.near;
      far = subst (AllByRecursion (λ (e : ℕ × PageHist). IsFar b e.0)) (sym c.put_back_in-else-note-lt-NEAR_DEVICES.ensures) (all_put_back (IsFar b) p hist m.far.entries c.requires.far);
      near_few = c.requires.near_few;
      far_few = omega (arith, few, c.requires.far_few);
    }
