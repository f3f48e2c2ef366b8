-- Sets of marked buckets: which buckets are marked, and which stay so.
use Rattle.std.proofs.Common.{◌≡◌, inl, inr, ℕ, Result, Ok, Err, OnOk, ap, ◌∙◌, arith}
use Rattle.std.specs.Prelude.{bit_and, bit_or}
use Rattle.std.specs.Int.{bit_at}
use Rattle.std.proofs.lemmas.Bool.{cases_eq}
use Rattle.std.proofs.lemmas.Nat.Bits.{bit_at-lt, bit_at-zero, bit_at_and, bit_at_or}
use Rattle.warm_history.specs.Changes.{MarksChanged}
use Rattle.warm_history.specs.Histories.{HistoryView, entries_of}
use Rattle.warm_history.specs.Carried.{bucket_entries}
use Rattle.warm_history.specs.Losses.{MarksLosing, raised}
use Rattle.warm_digest.specs.CachedDigests.{MarksChanges, StaysMarked}

-- the buckets are marked whose entries change
pub marks_changes : (h g : HistoryView) (old changed now : ℕ) → now ≡ bit_or old changed
    → MarksChanged (entries_of h) (entries_of g) changed
    → MarksChanges (record { history = h; marked = old }) (record { history = g; marked = now })
marks_changes h g old changed now both tells bucket low =
    let is = ap (λ (n : ℕ). bit_at n bucket) both ∙ bit_at_or old changed bucket in
    let old_lt = bit_at-lt old bucket in
    let changed_lt = bit_at-lt changed bucket in (
      (λ set. elim (cases_eq (bit_at old bucket) 1) [
        | inl was ↦ inl was
        | inr other ↦ inr ((tells bucket low).0 (omega (arith, is, set, other, old_lt)))
      ]),
      (λ before. elim before [
        | inl was ↦ omega (arith, is, was, changed_lt)
        | inr there ↦ elim (cases_eq (bit_at changed bucket) 1) [
          | inl set ↦ omega (arith, is, set, old_lt)
          | inr clear ↦ absurd (there ((tells bucket low).1 (omega (arith, clear, changed_lt))))
        ]
      ]),
    )

-- of the marked buckets those stay so that lose something
pub losing_stay : (horizon : ℕ) (h : HistoryView) (old lost now : ℕ) → now ≡ bit_and old lost
    → MarksLosing horizon h lost → StaysMarked horizon h old now
losing_stay horizon h old lost now both loses bucket low =
    let is = ap (λ (n : ℕ). bit_at n bucket) both ∙ bit_at_and old lost bucket in
    let old_lt = bit_at-lt old bucket in
    let lost_lt = bit_at-lt lost bucket in (
      (λ one. (omega (arith, is, one, old_lt, lost_lt), (loses bucket low).0 (omega (arith, is, one, old_lt, lost_lt)))),
      (λ was. elim (cases_eq (bit_at lost bucket) 1) [
        | inl set ↦ omega (arith, is, set, was.0)
        | inr clear ↦ absurd (was.1 ((loses bucket low).1 (omega (arith, clear, lost_lt))))
      ]),
    )

-- if the history is the same at the horizon, nothing is lost, so no bucket stays marked
none_stay : (horizon : ℕ) (h : HistoryView) (old new : ℕ) → raised horizon h ≡ h → new ≡ 0
    → StaysMarked horizon h old new
none_stay horizon h old new same none bucket low =
    let zero_is : bit_at new bucket ≡ 0 = ap (λ (n : ℕ). bit_at n bucket) none ∙ bit_at-zero bucket in (
      (λ now. absurd (omega (arith, now, zero_is))),
      (λ both. absurd (both.1 (ap (λ (g : HistoryView). bucket_entries bucket (entries_of g)) same))),
    )

-- the same if a result is Ok
pub none_stay_if : {A E : Type 0} (r : Result A E) (horizon : ℕ) (h : HistoryView) (old new : ℕ)
    → raised horizon h ≡ h → OnOk r (new ≡ 0) → OnOk r (StaysMarked horizon h old new)
none_stay_if (Ok a) horizon h old new same none = none_stay horizon h old new same none
none_stay_if (Err why) horizon h old new same none = tt
