use Rattle.std.proofs.Common.{◌≡◌, ◌≤◌, ◌<◌, ◌+◌, ◌^◌, ◌∷◌, ◌++◌, [], ℕ, length, arith, ap, subst, sym, ◌∙◌}
use Rattle.std.specs.Int.{bit_at}
use Rattle.std.specs.Prelude.{bit_or}
use Rattle.std.proofs.lemmas.Nat.Bits.{bit_at-zero}
use Rattle.warm_stamps.proofs.BucketLemmas.{Visited, visited, all_visited, seen_with, seen_without, rest_with}
use Rattle.warm_history.specs.Changes.{SaysChange, MarksChanged}
use Rattle.warm_history.specs.Histories.{HistoryView, entries_of, references_of}
use Rattle.warm_history.specs.Losses.{raised}
use Rattle.warm_history.specs.ReferenceSets.{with_horizon}
use Rattle.warm_history.proofs.ChangeLemmas.{marks_empty, nothing_changed}
use Rattle.warm_history.proofs.HistoryLemmas.{IsHistory-history}
use Rattle.warm_history.proofs.JoinLemmas.{raised_to_no_later}
use Rattle.warm_history.proofs.cut.losing.Goals as goal

-- at a horizon that is not greater than the history's own nothing is lost
pub returns-then-horizon-clause-lost : goal.returns-then-horizon-clause-lost
returns-then-horizon-clause-lost c =
    let h = c.args.history.now in
    let no_later : c.args.horizon ≤ h.horizon = omega arith in
    subst (λ (g : HistoryView). MarksChanged (entries_of h) (entries_of g) c.new.result) (sym (raised_to_no_later h c.args.horizon c.horizon.ensures.whole no_later)) (marks_empty (entries_of h) c.new.result c.new.ensures)

pub returns-then-horizon-clause-none : goal.returns-then-horizon-clause-none
returns-then-horizon-clause-none c none =
    let h = c.args.history.now in
    let no_later : c.args.horizon ≤ h.horizon = omega arith in
    ap entries_of (raised_to_no_later h c.args.horizon c.horizon.ensures.whole no_later)

-- what is said of the buckets so far
abbrev Seen : (ℕ → ℕ → Type 0) → ℕ → ℕ → Type 0
Seen Says buckets count = (bucket : ℕ) → bucket < count → Says bucket (bit_at buckets bucket)

abbrev Clear : ℕ → ℕ → Type 0
Clear buckets count = (bucket : ℕ) → count ≤ bucket → bit_at buckets bucket ≡ 0

pub loop-bucket-init : goal.loop-bucket-init
loop-bucket-init c = record {
  split = c.into_iter-bucket-iterator.ensures.into_iter_gives ∙ c.all-bucket-items.ensures;
  seen = λ bucket before. absurd (omega (arith, before));
  rest = λ bucket above. ap (λ (n : ℕ). bit_at n bucket) c.new-buckets.ensures ∙ bit_at-zero bucket;
}

-- a bucket that would change is put in
pub loop-bucket-preserved-then-loses : goal.loop-bucket-preserved-then-loses
loop-bucket-preserved-then-loses c =
    let so_far = c.loop-bucket.invariant in
    let es = entries_of c.args.history.now in
    let fs = entries_of (raised c.args.horizon c.args.history.now) in
    let b : ℕ = c.in-Some.bucket in
    let more = bit_or c.loop-bucket.buckets (2 ^ b) in
    let v : Visited c.loop-bucket.yielded c.next.new.self b = visited c.loop-bucket.yielded c.loop-bucket.bucket-iterator c.next.new.self b so_far.split c.in-Some.ensures.steps in
    let here : SaysChange es fs b 1 = ((λ one. c.loses.ensures.loses c.if-loses.true), λ none. absurd (omega (arith, none))) in
    let seen : Seen (SaysChange es fs) more (b + 1) = seen_with (SaysChange es fs) c.loop-bucket.buckets b here (subst (Seen (SaysChange es fs) c.loop-bucket.buckets) (sym v.at) so_far.seen) in
    let rest : Clear more (b + 1) = rest_with c.loop-bucket.buckets b (subst (Clear c.loop-bucket.buckets) (sym v.at) so_far.rest) in
    let is : more ≡ c.with-buckets.result = sym c.with-buckets.ensures in
    record {
      split = v.split;
      seen = subst (λ (n : ℕ). Seen (SaysChange es fs) n (length (c.loop-bucket.yielded ++ b ∷ []))) is (subst (Seen (SaysChange es fs) more) (sym v.longer) seen);
      rest = subst (λ (n : ℕ). Clear n (length (c.loop-bucket.yielded ++ b ∷ []))) is (subst (Clear more) (sym v.longer) rest);
    }

-- one that would not is left out
pub loop-bucket-preserved : goal.loop-bucket-preserved
loop-bucket-preserved c =
    let so_far = c.loop-bucket.invariant in
    let es = entries_of c.args.history.now in
    let fs = entries_of (raised c.args.horizon c.args.history.now) in
    let b : ℕ = c.in-Some.bucket in
    let set = c.loop-bucket.buckets in
    let v : Visited c.loop-bucket.yielded c.next.new.self b = visited c.loop-bucket.yielded c.loop-bucket.bucket-iterator c.next.new.self b so_far.split c.in-Some.ensures.steps in
    let here : SaysChange es fs b 0 = ((λ one. absurd (omega (arith, one))), λ none. c.loses.ensures.keeps c.if-loses.false) in
    let clear : bit_at set b ≡ 0 = so_far.rest b (omega (arith, v.at)) in
    let seen : Seen (SaysChange es fs) set (b + 1) = seen_without (SaysChange es fs) set b here clear (subst (Seen (SaysChange es fs) set) (sym v.at) so_far.seen) in
    record {
      split = v.split;
      seen = subst (Seen (SaysChange es fs) set) (sym v.longer) seen;
      rest = λ bucket above. so_far.rest bucket (omega (arith, above, v.longer, v.at));
    }

-- if no bucket would change, nothing would
pub returns-clause-lost : goal.returns-clause-lost
returns-clause-lost c =
    let all : length c.loop-bucket.yielded ≡ 64 = all_visited c.loop-bucket.yielded c.loop-bucket.bucket-iterator c.loop-bucket.invariant.split c.in-None.ensures.steps.0 in
    λ bucket low. c.loop-bucket.invariant.seen bucket (omega (arith, low, all))

pub returns-clause-none : goal.returns-clause-none
returns-clause-none c none =
    let h = c.args.history.now in
    let g = raised c.args.horizon h in
    nothing_changed (entries_of h) (entries_of g) c.loop-bucket.buckets c.horizon.ensures.whole.pages_ascend (IsHistory-history (with_horizon c.args.horizon (references_of h))).pages_ascend
    (returns-clause-lost c) none
