use Rattle.std.proofs.Common.{◌≡◌, ◌+◌, ◌≤◌, ◌<◌, List, drop, sym, subst}
use Rattle.warm_maps.specs.declared.hist.Entry.{Entry}
use Rattle.warm_maps.specs.MapKeys.{first_far_key, key_of_page, page_of_key}
use Rattle.warm_maps.specs.Runs.{RiseWithin}
use Rattle.warm_maps.proofs.MapPairLemmas.{left_more, none_left}
use Rattle.warm_maps.proofs.runs.is_run.Goals as goal

pub loop-entry-init : goal.loop-entry-init
loop-entry-init c = record { enough = λ rise. subst (λ from. RiseWithin from (first_far_key c.args.number) c.args.entries.now) c.first_key-from.ensures rise }

pub loop-entry-preserved : goal.loop-entry-preserved
loop-entry-preserved c =
    let more : List Entry = c.args.entries.now in
    let i : _ = c.loop-entry.entry-index in
    let e : Entry = c.entry-item.result in
    let to = first_far_key c.args.number in
    let value : c.key_of_page-key.result ≡ key_of_page e.page = c.key_of_page-key.ensures.value in
    let starts : c.loop-entry.from ≤ key_of_page e.page = subst (λ p. c.loop-entry.from ≤ p) value c.if-key-from.false in
    let below : c.key_of_page-key.result < to = subst (λ end. c.key_of_page-key.result < end) c.first_far_key-end.ensures c.if-end-key.false in
    let ends : key_of_page e.page < to = subst (λ p. p < to) value below in
    let back : page_of_key (key_of_page e.page) ≡ e.page = subst (λ p. page_of_key p ≡ e.page) value c.key_of_page-key.ensures.back in
    record {
      enough = λ rise. c.loop-entry.invariant.enough (subst (RiseWithin c.loop-entry.from to) (sym (left_more more i e c.loop-entry-test.true c.entry-item.is)) (starts, ends, back, subst (λ p. RiseWithin (p + 1) to (drop (i + 1) more)) value rise));
    }

pub returns : goal.returns
returns c = λ yes. c.loop-entry.invariant.enough (subst (RiseWithin c.loop-entry.from (first_far_key c.args.number)) (sym (none_left c.args.entries.now c.loop-entry.entry-index c.loop-entry-test.false)) tt)
