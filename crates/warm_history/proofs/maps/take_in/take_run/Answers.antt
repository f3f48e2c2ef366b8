use Rattle.std.proofs.Common.{◌≡◌, ℕ, sym, ap, subst, ◌∙◌, arith, ◌^◌}
use Rattle.std.specs.Prelude.{bit_or}
use Rattle.warm_history.specs.Changes.{MarksChanged, SameInBucket}
use Rattle.warm_maps.specs.MapKeys.{first_key, first_far_key}
use Rattle.warm_maps.specs.Runs.{run_pairs}
use Rattle.warm_maps.specs.MapPairs.{MapPairs, AreKept}
use Rattle.warm_history.specs.maps.KeptPairs.{kept, TakesEntries}
use Rattle.warm_history.proofs.maps.RunTakes.{takes_run, marks_run}
use Rattle.warm_maps.proofs.RunLemmas.{are_keys}
use Rattle.warm_maps.proofs.RunPairs.{pairs_inside}
use Rattle.warm_history.proofs.maps.take_in.take_run.Goals as goal

pub take_run-requires-clause-rise : goal.take_run-requires-clause-rise
take_run-requires-clause-rise c = c.requires.kept.keys_ascend

pub returns-then-not-changes-clause-exact : goal.returns-then-not-changes-clause-exact
returns-then-not-changes-clause-exact c =
    let n = c.args.bucket in
    let old = c.args.maps.now in
    let es = c.args.run.now in
    let taken = takes_run c.args.horizon n (first_key n) old es c.requires.kept (omega arith) c.requires.run in
    subst (TakesEntries c.args.horizon old es) (sym c.in_ok-changes.ensures.ok) taken.exact

pub returns-clause-exact : goal.returns-clause-exact
returns-clause-exact c =
    let n = c.args.bucket in
    let old = c.args.maps.now in
    let es = c.args.run.now in
    let taken = takes_run c.args.horizon n (first_key n) old es c.requires.kept (omega arith) c.requires.run in
    subst (TakesEntries c.args.horizon old es) (sym c.in_ok-changes.ensures.ok) taken.exact

pub returns-clause-changed : goal.returns-clause-changed
returns-clause-changed c =
    let n = c.args.bucket in
    let old = c.args.maps.now in
    let new = c.take_run.new.maps in
    let es = c.args.run.now in
    let taken = takes_run c.args.horizon n (first_key n) old es c.requires.kept (omega arith) c.requires.run in
    let is = c.in_ok-changes.ensures.ok in
    let set = c.with.ensures ∙ ap (λ (s : ℕ). bit_or s (2 ^ n)) c.new-2.ensures in
    subst (MarksChanged (kept old) (kept new)) (sym set)
    (marks_run n old (run_pairs c.args.horizon es) new c.requires.kept (subst AreKept (sym is) taken.whole) (pairs_inside c.args.horizon n es c.requires.run) (are_keys c.args.horizon (first_key n) (first_far_key n) es c.requires.run) (c.in_ok-changes.ensures.tells.0 c.if-not-changes.false)
    (subst (λ (new : MapPairs). (bucket : ℕ) → (bucket ≡ n → ⊥) → SameInBucket bucket (kept old) (kept new)) (sym is) taken.others))

pub returns-clause-whole : goal.returns-clause-whole
returns-clause-whole c =
    let n = c.args.bucket in
    let es = c.args.run.now in
    let taken = takes_run c.args.horizon n (first_key n) c.args.maps.now es c.requires.kept (omega arith) c.requires.run in
    subst AreKept (sym c.in_ok-changes.ensures.ok) taken.whole
