-- The laws of shared shards.
use Rattle.std.proofs.lemmas.List.{length-set}
use Rattle.std.proofs.Common.{◌≡◌, ℕ, ◌<◌, List, [], ◌∷◌, ◌++◌, length, refl, sym, ap, subst, ◌∙◌, append-nil, append_assoc}
use mathlib.Core.List.{IsPrefix}
use Rattle.warm_history.specs.ReferenceSets.{◌∪◌}
use Rattle.warm_history.specs.Histories.{history, references_of}
use Rattle.warm_history.proofs.JoinLemmas.{history_first, history_second}
use Rattle.warm_turn.specs.CallHistories.{as_spent}
use Rattle.warm_turn.proofs.PassLemmas.{Extended-called, Widened-joined}
use Rattle.warm_machine.specs.declared.operation.Operation.{Operation}
use Rattle.warm_machine.specs.Runs.{Runs}
use Rattle.warm_visits.specs.Visits.{Errand, Said}
use Rattle.warm_shard_machine.specs.declared.calls.ShardCall.{ShardCall}
use Rattle.warm_shard_machine.specs.declared.calls.ShardCall.TheVariants.{Enter}
use Rattle.warm_shard_machine.specs.declared.calls.ShardReply.{ShardReply}
use Rattle.warm_shard_machine.specs.declared.calls.ShardReply.TheVariants.{Done, Entered, Kept, Refused}
use Rattle.warm_concurrent.specs.declared.fault.SharedFault.{SharedFault}
use Rattle.warm_concurrent.specs.declared.fault.SharedFault.TheVariants.{Node, TurnsSpent}
use Rattle.warm_concurrent.specs.Attached.{KeepsOtherPasses, Known, ShardPass, known_of, no_pass, shard_pass}
use Rattle.warm_concurrent.specs.Clauses.{CallFails, Got}
use Rattle.warm_concurrent.specs.Laws.{OnlySeesMore, OverCalls, SeesMore, TogetherAreOfGiven, all_of, held_by}
use Rattle.warm_shard_machine.specs.ShardSteps.{ShardStep}
use Rattle.warm_concurrent.specs.Visiting.{EntersByTurn, Visiting, visiting}
use Rattle.warm_concurrent.specs.Whole.{Does, RaisesShard}
use Rattle.warm_shards.specs.EachShard.{First}
use Rattle.warm_shards.proofs.FirstLemmas.{each_first}
use Rattle.warm_frame_table.proofs.ListLemmas.{at_set}

pub together_are_of_given : TogetherAreOfGiven
together_are_of_given [] [] stand = refl
together_are_of_given [] (S ∷ Ss) stand = absurd stand
together_are_of_given (h ∷ hs) [] stand = absurd stand
together_are_of_given (h ∷ hs) (S ∷ Ss) stand =
    ap (λ k. history (references_of k ∪ held_by hs)) stand.0
    ∙ history_first S (held_by hs)
    ∙ sym (history_second S (held_by hs))
    ∙ ap (λ k. history (S ∪ references_of k)) (together_are_of_given hs Ss stand.1)
    ∙ history_second S (all_of Ss)

-- ---- what calls leave of what a thread has

-- A relation that holds of each pass and itself, goes on, and holds of a pass before and after a call,
-- and before and after it is spent. So it holds of all passes of a thread, before and after each call
-- of shards.
module _ (P : ShardPass → ShardPass → Type 0) (self : (p : ShardPass) → P p p)
    (trans : (p q r : ShardPass) → P p q → P q r → P p r)
    (got : (p q : ShardPass) (c : ShardCall) (r : ShardReply) → Got p.view c r q.view → P p q)
    (spent : (p q : ShardPass) → q.view ≡ as_spent p.view → P p q) where
  abbrev pub EachIsSo : List ShardPass → List ShardPass → Type 0
  EachIsSo old new = (length new ≡ length old) × ((i : ℕ) → P (shard_pass old i) (shard_pass new i))

  -- if one pass changes so, and the others are as they were
  one_so : (old new : List ShardPass) (i : ℕ) → i < length old → KeepsOtherPasses old i new
      → P (shard_pass old i) (shard_pass new i) → EachIsSo old new
  one_so old new i lt others changed = (
    ap length others ∙ length-set old i (shard_pass new i),
    λ j. subst (λ (ps : List ShardPass). P (shard_pass old j) (shard_pass ps j)) (sym others)
        (at_set no_pass (λ k q. P (shard_pass old k) q) old i (shard_pass new i) lt changed (λ k apart. self (shard_pass old k)) j),
  )

  firsts_so : (So : ℕ → ShardPass → ShardPass → Type 0)
      → ((i : ℕ) (old new : ShardPass) → So i old new → P old new) → (k : ℕ)
      → (old new : List ShardPass) → First no_pass So k old new → EachIsSo old new
  firsts_so So each k old new so = (so.count, each_first So P self each k old new so)

  then_so : (old mid new : List ShardPass) → EachIsSo old mid → EachIsSo mid new → EachIsSo old new
  then_so old mid new one other = (
    other.0 ∙ one.0,
    λ j. trans (shard_pass old j) (shard_pass mid j) (shard_pass new j) (one.1 j) (other.1 j),
  )

  -- each entry of a visit is a call of one shard
  visit_so : (s t : Visiting) (es : List (Operation Errand Said)) → Runs EntersByTurn s es t
      → EachIsSo s.passes t.passes
  visit_so s t [] runs =
      subst (λ (x : Visiting). EachIsSo s.passes x.passes) runs (refl, λ j. self (shard_pass s.passes j))
  visit_so s t (o ∷ os) (y, entry, runs) =
      let i = o.call.shard in
      then_so s.passes y.passes t.passes
      (one_so s.passes y.passes i entry.0 entry.2.1 (got (shard_pass s.passes i) (shard_pass y.passes i) (Enter (length s.passes) i s.visit) (Entered y.visit) entry.2.0))
      (visit_so y t os runs)

  -- a call that was refused, or found no ticket
  fails_so : (old new : List ShardPass) (i : ℕ) (c : ShardCall) (why : SharedFault) → i < length old
      → CallFails old i c why new → EachIsSo old new
  fails_so old new i c (Node why) lt fails =
      one_so old new i lt fails.1 (got (shard_pass old i) (shard_pass new i) c (Refused why) fails.0)
  fails_so old new i c TurnsSpent lt fails =
      one_so old new i lt fails.1 (spent (shard_pass old i) (shard_pass new i) fails.0)
  fails_so old new i c why lt fails = absurd fails

  pub over_calls : (So : List ShardPass → List ShardPass → Type 0)
      → ((old new : List ShardPass) → EachIsSo old new → So old new) → OverCalls So
  over_calls So from = record {
    called = λ old new i call reply lt so. from old new (one_so old new i lt so.1 (got (shard_pass old i) (shard_pass new i) call reply so.0));
    refused = λ old new i call why lt fails. from old new (fails_so old new i call why lt fails);
    visited = λ old new v w goes. from old new (visit_so (visiting v old) (visiting w new) goes.0 goes.1);
    raised = λ old new k time so. from old new (firsts_so (RaisesShard time) (λ i p q r. got p q _ (Kept r.0) r.1) k old new so);
    done = λ old new k call so. from old new (firsts_so (Does call) (λ i p q r. got p q call Done r) k old new so);
  }

-- ---- what a thread has seen

prefix_self : {A : Type 0} (xs : List A) → IsPrefix xs xs
prefix_self xs = ([], append-nil xs)

prefix_then : {A : Type 0} (xs ys zs : List A) → IsPrefix xs ys → IsPrefix ys zs → IsPrefix xs zs
prefix_then xs ys zs (us, one) (vs, other) =
    (us ++ vs, sym (append_assoc xs us vs) ∙ ap (λ l. l ++ vs) one ∙ other)

-- what was seen stays once a pass is spent
seen_spent : (p q : ShardPass) → q.view ≡ as_spent p.view → IsPrefix p.view.seen q.view.seen
seen_spent p q is =
    subst (λ (v : Known). IsPrefix p.view.seen v.seen) (sym is) (prefix_self p.view.seen)

pub only_sees_more : OnlySeesMore
only_sees_more = record {
  calls = over_calls (λ p q. IsPrefix p.view.seen q.view.seen) (λ p. prefix_self p.view.seen) (λ p q r. prefix_then p.view.seen q.view.seen r.view.seen) (λ p q c r called. (Extended-called ShardStep p.view q.view c r called).seen) seen_spent SeesMore (λ old new so i lt. so.1 i);
  joined = λ old other new so i lt. (Widened-joined ShardStep (known_of old i) (known_of other i) (known_of new i) (so.each i lt)).seen;
}
