use Rattle.std.proofs.Common.{◌≡◌, [], eqb-true, refl, subst, sym, ◌∙◌, vec_len, arith}
use Rattle.std.proofs.lemmas.List.{nil_from_length}
use Rattle.std.proofs.lemmas.Result.{err_from_is_err_and}
use Rattle.warm_pool.specs.View.{view_of}
use Rattle.warm_rank.specs.Relisting.{AreHottest}
use Rattle.warm_gossip.specs.WarmingUp.{IsListed}
use Rattle.warm_gossip.proofs.PassedLemmas.{kept_list, listed_first, none_kept}
use Rattle.warm_gossip.proofs.warm_step.take_list.Goals as goal

-- no list is kept, and a new one is made
pub returns-in_default-clause-listed : goal.returns-in_default-clause-listed
returns-in_default-clause-listed g c =
    let h = c.args.history.now in
    let hottest = subst (λ n. AreHottest h n c.in_ok-list.list) c.frames-frames.ensures c.in_ok-list.ensures.hottest in
    listed_first h (view_of c.args.pool.now) c.in_ok-list.list _ c.requires.whole hottest c.in_ok-list.ensures.begins

pub returns-in_err-list-clause-kept : goal.returns-in_err-list-clause-kept
returns-in_err-list-clause-kept g c =
    let given = err_from_is_err_and c.from_residual.result c.from_residual.ensures.1 in
    rw given.1 (none_kept c.args.history.now (view_of c.args.pool.now) c.new_list.new.warm_up c.new_list.ensures.none)

-- a list is kept, and none of its pages rose
pub returns-then-is_empty-clause-listed : goal.returns-then-is_empty-clause-listed
returns-then-is_empty-clause-listed g c =
    let h = c.args.history.now in
    let v = view_of c.args.pool.now in
    let x = c.args.warm_up.now in
    let none : x.changed.items ≡ [] = nil_from_length x.changed.items (omega (arith, x.changed.ok.0, eqb-true (vec_len x.changed) 0 (sym c.is_empty.ensures ∙ c.if-is_empty.true))) in
    subst (λ changed. IsListed h v changed c.in-Some.list x.passed) none (kept_list h v x c.in-Some.list c.in-Some.ensures.value c.requires.warming)

pub returns-then-is_empty-clause-current : goal.returns-then-is_empty-clause-current
returns-then-is_empty-clause-current g c =
    let x = c.args.warm_up.now in
    nil_from_length x.changed.items (omega (arith, x.changed.ok.0, eqb-true (vec_len x.changed) 0 (sym c.is_empty.ensures ∙ c.if-is_empty.true)))

-- pages rose
pub relisted-requires : goal.relisted-requires
relisted-requires g c =
    let under = kept_list c.args.history.now (view_of c.args.pool.now) c.args.warm_up.now c.in-Some.list c.in-Some.ensures.value c.requires.warming in
    rw (c.frames-frames.ensures, c.deref.ensures.value) under.hottest

pub returns-in-Ok-clause-listed : goal.returns-in-Ok-clause-listed
returns-in-Ok-clause-listed g c =
    let h = c.args.history.now in
    let hottest = subst (λ n. AreHottest h n c.in-Ok.relisted) c.frames-frames.ensures c.in-Ok.ensures in
    listed_first h (view_of c.args.pool.now) c.in-Ok.relisted 0 c.requires.whole hottest refl

pub returns-in-Err-clause-kept : goal.returns-in-Err-clause-kept
returns-in-Err-clause-kept g c = kept_list c.args.history.now (view_of c.args.pool.now) c.args.warm_up.now c.in-Some.list c.in-Some.ensures.value c.requires.warming
