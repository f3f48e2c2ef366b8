use Rattle.std.proofs.Common.{◌≡◌, inr, true, false, refl, sym, ap, ◌∙◌}
use Rattle.warm_history.specs.Histories.{HistoryView, entries_of}
use Rattle.warm_digest.specs.BucketDigests.{digests_of}
use Rattle.warm_dump.proofs.BuilderLemmas.{stands_raised}
use Rattle.warm_dump.proofs.reading.DumpReader.close.Goals as goal

pub returns-then-not-branch-clause-refused : goal.returns-then-not-branch-clause-refused
returns-then-not-branch-clause-refused c =
    inr (inr (
      refl,
      c.agrees.ensures.0 c.if-not-agrees.false,
      (λ same.
          let yes = c.in_ok-ends_with.ensures.same.1 (same ∙ ap (λ (h : HistoryView). digests_of (entries_of h)) (sym c.in_ok-ends_with.ensures.raised)) in
          let never : true ≡ false = sym yes ∙ c.if-not-branch.true in
          absurd (cc)),
    ))

pub returns-clause-history : goal.returns-clause-history
returns-clause-history c = λ S stands. stands_raised c.args.self.now.history c.ends_with.new.self c.args.horizon S c.in_ok-ends_with.ensures.raised stands
