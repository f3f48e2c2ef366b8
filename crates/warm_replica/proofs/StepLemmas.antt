-- One step of a job, for each way in which it may be answered.
use Rattle.std.proofs.Common.{◌≡◌, ◌<◌, ◌≤◌, [], ◌∷◌, ◌++◌, length, true, false, Result, Ok, Err, IsOk, refl, sym, ap, subst, inl, inr, ⊎_elim, suc, arith}
use Rattle.std.proofs.Math.Nat.{lt_of_not-le}
use Rattle.warm_stamps.specs.declared.Reference.{Reference}
use Rattle.warm_refbuffer.specs.declared.Full.{Full as Back}
use Rattle.warm_refbuffer.specs.Buffered.{Buffered}
use Rattle.warm_turn.specs.declared.table.View.{View}
use Rattle.warm_machine.specs.Runs.{operation}
use Rattle.warm_turn.specs.CallHistories.{Called, Extended, PassView, as_spent}
use Rattle.warm_turn.proofs.PassLemmas.{Extended-self, Extended-spent, Extended-called}
use Rattle.warm_gossip.specs.declared.call.Call.{Call}
use Rattle.warm_gossip.specs.declared.call.Call.TheVariants.{Absorb}
use Rattle.warm_gossip.specs.declared.call.Reply.{Reply}
use Rattle.warm_gossip.specs.declared.call.Reply.TheVariants.{Done}
use Rattle.warm_gossip.specs.Batches.{no_memory}
use Rattle.warm_replica.specs.declared.fault.FlushFault.{FlushFault}
use Rattle.warm_replica.specs.declared.fault.FlushFault.TheVariants.{Memory, TurnsSpent}
use Rattle.warm_replica.specs.declared.job.Step.{Step}
use Rattle.warm_replica.specs.declared.job.Step.TheVariants.{Touch, Flush}
use Rattle.warm_replica.specs.declared.job.Step.TheVariants as job_step
use Rattle.warm_replica.specs.declared.job.StepReply.{StepReply}
use Rattle.warm_replica.specs.declared.job.StepReply.TheVariants.{Touched, Full, Flushed, Failed}
use Rattle.warm_replica.specs.Jobs.{Calls, Gave, StepWent}
use Rattle.warm_replica.specs.Working.{Working, Flushes, KeepsBatch}

-- a result is not both good and bad
not_both : {A B : Type 0} (r : Result A B) (a : A) (b : B) → r ≡ Ok a → r ≡ Err b → ⊥
not_both (Ok x) a b is not = let never : Ok x ≡ Err b = not in absurd (cc)
not_both (Err x) a b is not = let never : Err x ≡ Ok a = is in absurd (cc)

good_bad : {A B : Type 0} (r : Result A B) (b : B) → IsOk r → r ≡ Err b → ⊥
good_bad (Ok x) b good bad = let never : Ok x ≡ Err b = bad in absurd (cc)
good_bad (Err x) b good bad = let never : false ≡ true = good in absurd (cc)

-- a result is bad in one way
one_way : {A B : Type 0} (r : Result A B) (x y : B) → r ≡ Err x → r ≡ Err y → x ≡ y
one_way (Ok z) x y is not = let never : Ok z ≡ Err x = is in absurd (cc)
one_way (Err z) x y one two = let p : Err z ≡ Err x = one in let q : Err z ≡ Err y = two in cc

module _ {X : Type 0} (v w : Working X Call Reply) (step : Step) where
  -- what the worker's buffer and mark were and are, if the step was answered so
  abbrev GaveTo : StepReply → Calls → Step → Type 0
  GaveTo reply made s = Gave v.buffer.capacity v.pass.view.number v.pass.view.found_last v.buffer.refs s reply w.pass.view.found_last w.buffer.refs made

  stays : w.pass ≡ v.pass → Extended v.pass.view [] w.pass.view
  stays same = subst (λ (p : PassView X Call Reply). Extended v.pass.view [] p.view) (sym same) (Extended-self v.pass.view)

  mark_stays : w.pass ≡ v.pass → w.pass.view.found_last ≡ v.pass.view.found_last
  mark_stays same = ap (λ (p : PassView X Call Reply). p.view.found_last) same

  mark_stands : w.pass.view ≡ as_spent v.pass.view → w.pass.view.found_last ≡ true
  mark_stands spent = ap (λ (u : View X Call Reply). u.found_last) spent

  pub touched : (r : Reference) (result : Result (Unit {0}) Back) (u : Unit {0}) → step ≡ Touch r
      → result ≡ Ok u → w.pass ≡ v.pass
      → (length v.buffer.refs < v.buffer.capacity
      → IsOk result × (w.buffer ≡ record v.buffer { refs = v.buffer.refs ++ r ∷ [] }))
      → (v.buffer.capacity ≤ length v.buffer.refs
      → (result ≡ Err (record { 0 = r })) × (w.buffer ≡ v.buffer)) → StepWent v step Touched w
  touched r result u is good pass taken full =
      let some : length v.buffer.refs < v.buffer.capacity = lt_of_not-le (λ all. not_both result u (record { 0 = r }) good (full all).0) in
      let buffer = (taken some).1 in (
        [],
        subst (GaveTo Touched []) (sym is) (some, mark_stays pass, ap (λ (b : Buffered). b.refs) buffer, refl),
        ap (λ (b : Buffered). b.capacity) buffer,
        stays pass,
      )

  pub was_full : (r : Reference) (result : Result (Unit {0}) Back) (back : Back) → step ≡ Touch r
      → result ≡ Err back → w.pass ≡ v.pass
      → (length v.buffer.refs < v.buffer.capacity
      → IsOk result × (w.buffer ≡ record v.buffer { refs = v.buffer.refs ++ r ∷ [] }))
      → (v.buffer.capacity ≤ length v.buffer.refs
      → (result ≡ Err (record { 0 = r })) × (w.buffer ≡ v.buffer)) → StepWent v step (Full back.0) w
  was_full r result back is bad pass taken full =
      let below : v.buffer.capacity < suc (length v.buffer.refs) = lt_of_not-le (λ some. good_bad result back (taken some).0 bad) in
      let all : v.buffer.capacity ≤ length v.buffer.refs = omega (arith, below) in
      let same = (full all).1 in
      let back_is : back.0 ≡ r = ap (λ (b : Back). b.0) (one_way result back (record { 0 = r }) bad (full all).0) in (
        [],
        subst (GaveTo (Full back.0) []) (sym is) (all, back_is, mark_stays pass, ap (λ (b : Buffered). b.refs) same, refl),
        ap (λ (b : Buffered). b.capacity) same,
        stays pass,
      )

  pub was_flushed : (goes : X → Call → Reply → X → Type 0) → step ≡ Flush → Flushes goes v w
      → StepWent v step Flushed w
  was_flushed goes is flushes = (
    operation v.pass.view.number (Absorb v.buffer.refs) Done ∷ [],
    subst (GaveTo Flushed (operation v.pass.view.number (Absorb v.buffer.refs) Done ∷ [])) (sym is)
        (flushes.absorbs.unmarked.0, flushes.absorbs.unmarked.1, ap (λ (b : Buffered). b.refs) flushes.empties, refl),
    ap (λ (b : Buffered). b.capacity) flushes.empties,
    Extended-called goes v.pass.view w.pass.view (Absorb v.buffer.refs) Done flushes.absorbs,
  )

  pub was_kept : (goes : X → Call → Reply → X → Type 0) (fault : FlushFault) → step ≡ Flush
      → KeepsBatch goes v fault w → StepWent v step (Failed fault) w
  was_kept goes TurnsSpent is kept = (
    [],
    subst (GaveTo (Failed TurnsSpent) []) (sym is) (mark_stands kept.1, ap (λ (b : Buffered). b.refs) kept.0, refl),
    ap (λ (b : Buffered). b.capacity) kept.0,
    Extended-spent v.pass.view w.pass.view kept.1,
  )
  was_kept goes Memory is kept =
      ⊎_elim
      (λ same. (
        [],
        subst (GaveTo (Failed Memory) []) (sym is) (ap (λ (b : Buffered). b.refs) kept.0, inl (mark_stays same, refl)),
        ap (λ (b : Buffered). b.capacity) kept.0,
        stays same,
      ))
      (λ (called : Called goes v.pass.view (Absorb v.buffer.refs) no_memory w.pass.view). (
        operation v.pass.view.number (Absorb v.buffer.refs) no_memory ∷ [],
        subst (GaveTo (Failed Memory) (operation v.pass.view.number (Absorb v.buffer.refs) no_memory ∷ [])) (sym is)
            (ap (λ (b : Buffered). b.refs) kept.0, inr (called.unmarked.0, called.unmarked.1, refl)),
        ap (λ (b : Buffered). b.capacity) kept.0,
        Extended-called goes v.pass.view w.pass.view (Absorb v.buffer.refs) no_memory called,
      ))
      kept.1

  pub was_spent : (call : Call) → step ≡ job_step.Call call → w.buffer ≡ v.buffer
      → w.pass.view ≡ as_spent v.pass.view → StepWent v step (Failed TurnsSpent) w
  was_spent call is same spent = (
    [],
    subst (GaveTo (Failed TurnsSpent) []) (sym is) (mark_stands spent, ap (λ (b : Buffered). b.refs) same, refl),
    ap (λ (b : Buffered). b.capacity) same,
    Extended-spent v.pass.view w.pass.view spent,
  )
