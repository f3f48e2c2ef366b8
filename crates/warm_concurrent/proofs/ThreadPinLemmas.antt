-- The pins that the calls of a thread gave and removed.
use Rattle.std.specs.List.{flat_map, sum_by}
use Rattle.std.proofs.Common.{◌≡◌, ◌⊎◌, inl, inr, ℕ, suc, ◌+◌, ◌<◌, List, [], ◌∷◌, ◌++◌, length, set, get_or, refl, sym, ap, ◌∙◌, arith}
use Rattle.std.proofs.lemmas.List.Concat.{flat_map-append}
use Rattle.std.proofs.lemmas.List.Sums.{sum_by-append, sum_by-cons, sum_by-set, sum_by_push}
use Rattle.warm_machine.specs.declared.operation.Operation.{Operation}
use Rattle.warm_machine.specs.Runs.{Runs, operation}
use Rattle.warm_turn.specs.declared.table.EndedPass.{EndedPass}
use Rattle.warm_turn.specs.CallHistories.{as_ended}
use Rattle.warm_visits.specs.Visits.{Errand, Said, VisitState}
use Rattle.warm_shard_machine.specs.declared.calls.ShardCall.{ShardCall}
use Rattle.warm_shard_machine.specs.declared.calls.ShardCall.TheVariants.{Enter, Pin, PinFilled, PinZeroed, Raise, Victim}
use Rattle.warm_shard_machine.specs.declared.calls.ShardReply.{ShardReply}
use Rattle.warm_shard_machine.specs.declared.calls.ShardReply.TheVariants.{Done, Entered, Kept, Refused}
use Rattle.warm_concurrent.specs.declared.fault.SharedFault.{SharedFault}
use Rattle.warm_concurrent.specs.declared.fault.SharedFault.TheVariants.{Node, TurnsSpent}
use Rattle.warm_concurrent.specs.Attached.{AttachedView, KeepsOtherPasses, Known, ShardPass, ShardTurn, known_of, no_pass, shard_pass}
use Rattle.warm_concurrent.specs.Clauses.{AnsweredByShard, CallFails, Got}
use Rattle.warm_shard_machine.specs.Laws.{Log}
use Rattle.warm_concurrent.specs.Opening.{AreFirst, AreHalved, AreSplit, PassesAreJoined}
use Rattle.warm_concurrent.specs.Pins.{CallsPin, HasPinned, IsCounted, PinsAreCounted, calls_held, thread_calls}
use Rattle.warm_shard_machine.specs.Pins.{pin_by, unpin_by}
use Rattle.warm_concurrent.specs.Visiting.{EntersByTurn, Visiting, visiting}
use Rattle.warm_concurrent.specs.Whole.{Does, RaisesShard}
use Rattle.warm_shards.specs.EachShard.{First}
use Rattle.warm_shards.proofs.FirstLemmas.{each_first}
use Rattle.warm_concurrent.proofs.CallSumLemmas.{total}
use Rattle.warm_shard_machine.proofs.ShardPinLemmas.{pin_refused, unpin_refused}

-- the calls of those that were ended into a pass
abbrev ended_calls : List (EndedPass ShardCall ShardReply) → Log
ended_calls es = flat_map (λ e. e.calls) es

-- ---- sums over passes

module _ (f : ShardPass → ℕ) where
  pub same_sums : (xs ys : List ShardPass) → length ys ≡ length xs
      → ((i : ℕ) → i < length xs → f (shard_pass ys i) ≡ f (shard_pass xs i))
      → sum_by f ys ≡ sum_by f xs
  same_sums [] [] long each = refl
  same_sums [] (y ∷ ys) long each = absurd (omega (arith, long))
  same_sums (x ∷ xs) [] long each = absurd (omega (arith, long))
  same_sums (x ∷ xs) (y ∷ ys) long each =
      let old = sum_by-cons f x xs in
      let new = sum_by-cons f y ys in
      let first : f y ≡ f x = each 0 (omega arith) in
      let rest = same_sums xs ys (omega (arith, long)) (λ i lt. each (suc i) (omega (arith, lt))) in
      omega (arith, old, new, first, rest)

  added_sums : (xs ys zs : List ShardPass) → length ys ≡ length xs → length zs ≡ length xs
      → ((i : ℕ) → i < length xs → f (shard_pass zs i) ≡ f (shard_pass xs i) + f (shard_pass ys i))
      → sum_by f zs ≡ sum_by f xs + sum_by f ys
  added_sums [] [] [] long also each = refl
  added_sums [] [] (z ∷ zs) long also each = absurd (omega (arith, also))
  added_sums [] (y ∷ ys) zs long also each = absurd (omega (arith, long))
  added_sums (x ∷ xs) [] zs long also each = absurd (omega (arith, long))
  added_sums (x ∷ xs) (y ∷ ys) [] long also each = absurd (omega (arith, also))
  added_sums (x ∷ xs) (y ∷ ys) (z ∷ zs) long also each =
      let one = sum_by-cons f x xs in
      let two = sum_by-cons f y ys in
      let both = sum_by-cons f z zs in
      let first : f z ≡ f x + f y = each 0 (omega arith) in
      let rest = added_sums xs ys zs (omega (arith, long)) (omega (arith, also)) (λ i lt. each (suc i) (omega (arith, lt))) in
      omega (arith, one, two, both, first, rest)

pub no_sum : {A : Type 0} (f : A → ℕ) (d : A) (xs : List A)
    → ((i : ℕ) → i < length xs → f (get_or xs i d) ≡ 0) → sum_by f xs ≡ 0
no_sum f d [] each = refl
no_sum f d (x ∷ xs) each =
    let more = sum_by-cons f x xs in
    let first : f x ≡ 0 = each 0 (omega arith) in
    let rest = no_sum f d xs (λ i lt. each (suc i) (omega (arith, lt))) in
    omega (arith, more, first, rest)

-- ---- what the calls of passes come to

module _ (w : ShardCall → ShardReply → ℕ) where
  abbrev pub weight : ShardPass → ℕ
  weight p = total w (calls_held p.view)

  weight_is : (p : ShardPass) → weight p ≡ total w p.view.mine + total w (ended_calls p.view.ended)
  weight_is p = sum_by-append (λ e. w e.call e.reply) p.view.mine (ended_calls p.view.ended)

  pub thread_is : (ps : List ShardPass) → total w (thread_calls ps) ≡ sum_by weight ps
  thread_is [] = refl
  thread_is (p ∷ ps) =
      let split = sum_by-append (λ e. w e.call e.reply) (calls_held p.view) (thread_calls ps) in
      let more = sum_by-cons weight p ps in
      omega (arith, split, more, thread_is ps)

  -- after a call of the pass
  got_more : (p q : ShardPass) (c : ShardCall) (r : ShardReply) → Got p.view c r q.view
      → weight q ≡ weight p + w c r
  got_more p q c r got =
      let mine : total w q.view.mine ≡ total w p.view.mine + w c r = ap (total w) got.mine ∙ sum_by_push (λ e. w e.call e.reply) p.view.mine (operation p.view.number c r) in
      let ended : total w (ended_calls q.view.ended) ≡ total w (ended_calls p.view.ended) = ap (λ (es : List (EndedPass ShardCall ShardReply)). total w (ended_calls es)) got.ended in
      omega (arith, weight_is p, weight_is q, mine, ended)

  -- one pass has more
  one_more : (old new : List ShardPass) (i n : ℕ) → i < length old → KeepsOtherPasses old i new
      → weight (shard_pass new i) ≡ weight (shard_pass old i) + n
      → total w (thread_calls new) ≡ total w (thread_calls old) + n
  one_more old new i n lt others changed =
      let q = shard_pass new i in
      let sets : sum_by weight (set old i q) + weight (shard_pass old i) ≡ sum_by weight old + weight q = sum_by-set weight old i q no_pass lt in
      let is : sum_by weight new ≡ sum_by weight (set old i q) = ap (sum_by weight) others in
      omega (arith, sets, is, changed, thread_is old, thread_is new)

  called_more : (old new : List ShardPass) (i : ℕ) (c : ShardCall) (r : ShardReply) → i < length old
      → AnsweredByShard old i c r new
      → total w (thread_calls new) ≡ total w (thread_calls old) + w c r
  called_more old new i c r lt so =
      one_more old new i (w c r) lt so.1 (got_more (shard_pass old i) (shard_pass new i) c r so.0)

  -- an entry of a visit is a call, and comes to nothing
  visit_same : ((n i : ℕ) (v y : VisitState) → w (Enter n i v) (Entered y) ≡ 0) → (s t : Visiting)
      (es : List (Operation Errand Said)) → Runs EntersByTurn s es t
      → total w (thread_calls t.passes) ≡ total w (thread_calls s.passes) + 0
  visit_same none s t [] runs =
      let same : total w (thread_calls t.passes) ≡ total w (thread_calls s.passes) = ap (λ (x : Visiting). total w (thread_calls x.passes)) (sym runs) in
      omega (arith, same)
  visit_same none s t (o ∷ os) (y, entry, runs) =
      let i = o.call.shard in
      let one = called_more s.passes y.passes i (Enter (length s.passes) i s.visit) (Entered y.visit) entry.0 entry.2 in
      omega (arith, one, none (length s.passes) i s.visit y.visit, visit_same none y t os runs)

  -- a mark is no call
  marked_same : (old new : List ShardPass) (i : ℕ) → i < length old
      → CallFails old i Victim TurnsSpent new
      → total w (thread_calls new) ≡ total w (thread_calls old) + 0
  marked_same old new i lt spent =
      let same : weight (shard_pass new i) ≡ weight (shard_pass old i) = ap (λ (v : Known). total w (calls_held v)) spent.0 in
      one_more old new i 0 lt spent.1 (omega (arith, same))

  each_same : (old new : List ShardPass) → length new ≡ length old
      → ((i : ℕ) → i < length old → weight (shard_pass new i) ≡ weight (shard_pass old i))
      → total w (thread_calls new) ≡ total w (thread_calls old) + 0
  each_same old new long each = omega (arith, same_sums weight old new long each, thread_is old, thread_is new)

  each_none : (ps : List ShardPass)
      → ((i : ℕ) → i < length ps → weight (shard_pass ps i) ≡ 0) → total w (thread_calls ps) ≡ 0
  each_none ps each = thread_is ps ∙ no_sum weight no_pass ps each

  -- both passes hold what the one holds into which the other was ended
  joined_both : (old other new : List ShardPass) → length other ≡ length old
      → PassesAreJoined old other new
      → total w (thread_calls new) ≡ total w (thread_calls old) + total w (thread_calls other)
  joined_both old other new long joined =
      let each : (i : ℕ) → i < length old → weight (shard_pass new i) ≡ weight (shard_pass old i) + weight (shard_pass other i) =
      λ i lt.
      let v = known_of old i in
      let u = known_of other i in
      let all = v.ended ++ as_ended u ∷ u.ended in
      let is : weight (shard_pass new i) ≡ total w (v.mine ++ ended_calls all) = ap (λ (k : Known). total w (calls_held k)) (joined.each i lt).1 in
      let apart = sum_by-append (λ e. w e.call e.reply) v.mine (ended_calls all) in
      let ended : total w (ended_calls all) ≡ total w (ended_calls v.ended ++ calls_held u) = ap (total w) (flat_map-append (λ e. e.calls) v.ended (as_ended u ∷ u.ended)) in
      let more = sum_by-append (λ e. w e.call e.reply) (ended_calls v.ended) (calls_held u) in
      omega (arith, is, apart, ended, more, weight_is (shard_pass old i))
      in
      omega (arith, added_sums weight old other new long joined.count each, thread_is old, thread_is other, thread_is new)

-- ---- calls that give and remove none

-- the pass is as it was, or after a call that gave and removed no pin
abbrev IsQuiet : ShardPass → ShardPass → Type 0
IsQuiet p q = (q ≡ p) ⊎ ((c : ShardCall) × (r : ShardReply) × (pin_by c r ≡ 0) × (unpin_by c r ≡ 0) × Got p.view c r q.view)

quiet_same : (w : ShardCall → ShardReply → ℕ) (p q : ShardPass) (c : ShardCall) (r : ShardReply)
    → w c r ≡ 0 → Got p.view c r q.view → weight w q ≡ weight w p
quiet_same w p q c r none got = omega (arith, none, got_more w p q c r got)

quiet_firsts : (So : ℕ → ShardPass → ShardPass → Type 0)
    → ((i : ℕ) (p q : ShardPass) → So i p q → IsQuiet p q) → (k : ℕ) (old new : List ShardPass)
    → First no_pass So k old new → HasPinned 0 0 old new
quiet_firsts So quiet k old new so =
    let each : (j : ℕ) → IsQuiet (shard_pass old j) (shard_pass new j) = each_first So IsQuiet (λ p. inl refl) quiet k old new so in
    record {
      pins = each_same pin_by old new so.count (λ j lt. elim (each j) [ inl same ↦ ap (weight pin_by) same | inr (c, r, none, also, got) ↦ quiet_same pin_by (shard_pass old j) (shard_pass new j) c r none got ]);
      unpins = each_same unpin_by old new so.count (λ j lt. elim (each j) [ inl same ↦ ap (weight unpin_by) same | inr (c, r, none, also, got) ↦ quiet_same unpin_by (shard_pass old j) (shard_pass new j) c r also got ]);
    }

-- a call that is done gives no pin
done_gives_none : (c : ShardCall) → pin_by c Done ≡ 0
done_gives_none (Pin p) = refl
done_gives_none (PinZeroed p) = refl
done_gives_none (PinFilled p bytes) = refl
done_gives_none c = refl

-- ---- the law

refused : (old new : List ShardPass) (i : ℕ) (c : ShardCall) (why : SharedFault) → i < length old
    → CallFails old i c why new → HasPinned 0 0 old new
refused old new i c (Node why) lt fails = record {
  pins = omega (arith, called_more pin_by old new i c (Refused why) lt fails, pin_refused c why);
  unpins = omega (arith, called_more unpin_by old new i c (Refused why) lt fails, unpin_refused c why);
}
refused old new i c TurnsSpent lt fails = record { pins = marked_same pin_by old new i lt fails; unpins = marked_same unpin_by old new i lt fails }
refused old new i c why lt fails = absurd fails

calls_pin : (old new : List ShardPass) → CallsPin old new
calls_pin old new = record {
  called = λ i c r lt so. record { pins = called_more pin_by old new i c r lt so; unpins = called_more unpin_by old new i c r lt so };
  refused = λ i c why lt fails. refused old new i c why lt fails;
  visited = λ v w goes. record {
    pins = visit_same pin_by (λ n i v w. refl) (visiting v old) (visiting w new) goes.0 goes.1;
    unpins = visit_same unpin_by (λ n i v w. refl) (visiting v old) (visiting w new) goes.0 goes.1;
  };
  raised = λ time k so. quiet_firsts (RaisesShard time) (λ i p q r. inr (Raise time, Kept r.0, refl, refl, r.1)) k old new so;
  done = λ call k none so. quiet_firsts (Does call) (λ i p q r. inr (call, Done, done_gives_none call, none, r)) k old new so;
}

-- passes that hold no call
none_counted : (ps : List ShardPass)
    → ((w : ShardCall → ShardReply → ℕ) (i : ℕ) → i < length ps → weight w (shard_pass ps i) ≡ 0)
    → IsCounted (record { passes = ps; pins = 0 })
none_counted ps none = omega (arith, each_none pin_by ps (none pin_by), each_none unpin_by ps (none unpin_by))

shared_counted : (turns : List ShardTurn) (ps : List ShardPass) → AreFirst turns ps
    → IsCounted (record { passes = ps; pins = 0 })
shared_counted turns ps first =
    none_counted ps (λ w i lt. ap (λ (v : Known). total w (calls_held v)) (first.views i (omega (arith, lt, first.count))))

attached_counted : (old new : List ShardPass) → AreSplit old new
    → IsCounted (record { passes = new; pins = 0 })
attached_counted old new split =
    none_counted new (λ w i lt. ap (λ (v : Known). total w (calls_held v)) (split.each i (omega (arith, lt, split.count))).1)

halved_pins : (old new : List ShardPass) → AreHalved old new → HasPinned 0 0 old new
halved_pins old new halved = record {
  pins = each_same pin_by old new halved.count (λ i lt. ap (weight pin_by) (halved.each i lt));
  unpins = each_same unpin_by old new halved.count (λ i lt. ap (weight unpin_by) (halved.each i lt));
}

detached_pins : (old new : List ShardPass) (other : AttachedView)
    → length other.passes ≡ length old → IsCounted other → other.pins ≡ 0
    → PassesAreJoined old other.passes new → (pins : ℕ) × HasPinned pins pins old new
detached_pins old new other long counted none joined = (
  total pin_by (thread_calls other.passes),
  record {
    pins = joined_both pin_by old other.passes new long joined;
    unpins = omega (arith, joined_both unpin_by old other.passes new long joined, counted, none);
  },
)

counts : (given removed : ℕ) (old new : AttachedView) → IsCounted old
    → HasPinned given removed old.passes new.passes → new.pins + removed ≡ old.pins + given
    → IsCounted new
counts given removed old new counted has change = omega (arith, counted, has.pins, has.unpins, change)

pub pins_are_counted : PinsAreCounted
pins_are_counted = record {
  counts = counts;
  calls = calls_pin;
  shared = shared_counted;
  halved = halved_pins;
  attached = attached_counted;
  detached = detached_pins;
}
