-- What a visit becomes as it enters a node.
use Rattle.std.proofs.Common.{◌≡◌, ◌≢◌, inl, inr, ℕ, ◌+◌, ◌<◌, ◌≤◌, Bool, true, false, List, [], ◌∷◌, ◌++◌, refl, sym, ap, subst, ◌∙◌, arith}
use Rattle.std.specs.Prelude.{IfSome, None, Option, Some, if◌then◌else◌, nat_lt}
use Rattle.std.proofs.lemmas.Bool.{cases_eq, ltb-false, ltb-true}
use Rattle.warm_pool.specs.Unchanged.{KeepsBytes}
use Rattle.warm_gossip.specs.declared.call.Call.TheVariants as call
use Rattle.warm_gossip.specs.declared.call.Reply.TheVariants as reply
use Rattle.warm_gossip.specs.Clauses.{Goes}
use Rattle.warm_gossip.specs.State.{NodeState}
use Rattle.warm_visits.specs.Given.{IsGiven, at_horizon}
use Rattle.warm_visits.specs.declared.giving.Parts.{Parts}
use Rattle.warm_visits.specs.declared.visit.Work.{Work}
use Rattle.warm_visits.specs.declared.visit.Work.TheVariants.{Give, Raise, Read}
use Rattle.warm_visits.specs.Plans.{give_from, raise_from}
use Rattle.warm_visits.specs.VisitParts.{IsFirstPart, IsPlace, IsReader, IsVisit, after_of, earlier, made_of, part_at, visit_of, work_from}
use Rattle.warm_visits.specs.VisitReads.{IsReadMade}
use Rattle.warm_visits.specs.Visits.{After, Ask, Errand, HasEntered, Made, VisitState, answered, answers_of, at_shard, begun, copy_of, copying, ends, entries_for, entries_left, entries_unless, gathered, given, giving, joined, keeps, next_shard, offer_in, offering, onward, raise_plan, refused, sending, shard_next}
use Rattle.warm_visits.proofs.VisitPlans.{give_end, give_here, give_skip, raise_begun, raise_end, raise_here}

-- ---- the next shard

-- once all are, what the visit does then
pub next_work : (id count time rising shard : ℕ) (work : Work) (kept : Option ℕ) (stopped : Bool)
    → count ≤ rising → stopped ≡ false
    → next_shard (visit_of id count time rising shard work kept stopped)
    ≡ shard_next false (work_from count work shard)
next_work id count time rising shard work kept stopped over well =
    ap (λ b. shard_next b (raise_from count time rising ++ work_from count work shard)) well
    ∙ ap (λ es. shard_next false (es ++ work_from count work shard)) (raise_end count time rising over)

pub next_part : (count shard : ℕ) (parts : Parts) → shard < count → (part_at parts shard).given ≢ []
    → shard_next false (work_from count (Give parts) shard) ≡ Some shard
next_part count shard parts lt some = ap (shard_next false) (give_here count (part_at parts) shard lt some)

pub no_part : (count shard : ℕ) (parts : Parts) → count ≤ shard
    → shard_next false (work_from count (Give parts) shard) ≡ None
no_part count shard parts over = ap (shard_next false) (give_end count (part_at parts) shard over)

-- a visit that names a shard has not been refused
pub is_going : (stopped : Bool) (plan : List Errand) → shard_next stopped plan ≢ None
    → stopped ≡ false
is_going true plan some = absurd (some refl)
is_going false plan some = refl

-- and it has one left
pub is_there : (id count time rising shard : ℕ) (parts : Parts) (kept : Option ℕ) (stopped : Bool)
    → shard ≤ count → count ≤ rising → stopped ≡ false
    → next_shard (visit_of id count time rising shard (Give parts) kept stopped) ≢ None
    → shard < count
is_there id count time rising shard parts kept stopped within over well some = elim (cases_eq shard count) [
  | inl same ↦ absurd (some (next_work id count time rising shard (Give parts) kept stopped over well ∙ no_part count shard parts (omega (arith, same))))
  | inr other ↦ omega (arith, other, within)
]

-- ---- one entry less

one_at_least : (ask : Ask) → 0 < entries_for ask
one_at_least (giving S) = omega arith
one_at_least offering = omega arith
one_at_least (sending bucket after) = omega arith
one_at_least copying = omega arith

-- an errand is run, and the others are left
pub shorter_by_one : (v : VisitState) (e : Errand) (rest : List Errand) (stopped : Bool)
    (after : After) → v.plan ≡ e ∷ rest → v.stopped ≡ false → stopped ≡ false → after ≡ v.after
    → entries_unless stopped rest after < entries_left v
shorter_by_one v e rest stopped after plan well going same =
    let here = one_at_least e.ask in
    subst (λ (b : Bool). entries_unless b rest after < entries_left v) (sym going)
    (subst (λ (a : After). entries_unless false rest a < entries_left v) (sym same)
    (subst (λ (b : Bool). entries_unless false rest v.after < entries_unless b v.plan v.after) (sym well)
    (subst (λ (es : List Errand). entries_unless false rest v.after < entries_unless false es v.after) (sym plan) (omega (arith, here)))))

-- ---- entries

-- what was read is no horizon
read_keeps : (made : Made) (horizon : ℕ) → IsReadMade made → keeps made horizon ≡ made
read_keeps (gathered latest table) horizon read = refl
read_keeps (answered messages) horizon read = refl
read_keeps (joined h) horizon read = refl
read_keeps made horizon read = absurd read

keeps_earlier : (id count shard : ℕ) (work : Work) (kept : Option ℕ) (horizon : ℕ)
    → IsPlace id count shard work
    → made_of work (Some (earlier kept horizon)) ≡ keeps (made_of work kept) horizon
keeps_earlier id count shard Raise None horizon place = refl
keeps_earlier id count shard Raise (Some earliest) horizon place = refl
keeps_earlier id count shard (Give parts) kept horizon place = refl
keeps_earlier id count shard (Read reading) kept horizon place = sym (read_keeps reading.made horizon place.made)

-- a node that is raised
pub enters_raised : (id count time rising shard horizon : ℕ) (work : Work) (kept : Option ℕ)
    (stopped : Bool) (n m : NodeState) → IsVisit id count rising shard work → rising < count
    → stopped ≡ false → Goes n (call.Horizon time) (reply.Kept horizon) m → KeepsBytes n.pool m.pool
    → let v = visit_of id count time rising shard work kept stopped in
    let w = visit_of id count time (rising + 1) shard work (Some (earlier kept horizon)) stopped in
    HasEntered v n w m × (entries_left w < entries_left v)
enters_raised id count time rising shard horizon work kept stopped n m valid lt well goes bytes =
    let v = visit_of id count time rising shard work kept stopped in
    let later = raise_from count time (rising + 1) ++ work_from count work shard in
    let plan : v.plan ≡ at_shard rising (giving (at_horizon time)) ∷ later = ap (λ es. es ++ work_from count work shard) (raise_here count time rising lt) in (
      (
        at_shard rising (giving (at_horizon time)),
        given horizon,
        record {
          ready = well;
          rest = later;
          next = plan;
          says = ((goes.0, bytes), goes.1);
          takes = ap (onward v later) (keeps_earlier id count shard work kept horizon valid.place);
        },
      ),
      shorter_by_one v (at_shard rising (giving (at_horizon time))) later stopped (after_of work) plan well well refl,
    )

-- the plan of a visit whose shards are all raised
given_plan : (count time rising shard : ℕ) (parts : Parts) → count ≤ rising → shard < count
    → (part_at parts shard).given ≢ []
    → raise_from count time rising ++ give_from count (part_at parts) shard
    ≡ at_shard shard (giving (part_at parts shard)) ∷ give_from count (part_at parts) (shard + 1)
given_plan count time rising shard parts over lt some =
    ap (λ es. es ++ give_from count (part_at parts) shard) (raise_end count time rising over)
    ∙ give_here count (part_at parts) shard lt some

-- a node that takes its part in
pub enters_given : (id count time rising shard first : ℕ) (parts : Parts) (kept : Option ℕ)
    (stopped : Bool) (n m : NodeState) → IsVisit id count rising shard (Give parts) → count ≤ rising
    → shard < count → stopped ≡ false → IsGiven (part_at parts shard) n m
    → IsFirstPart parts (shard + 1) first
    → let v = visit_of id count time rising shard (Give parts) kept stopped in
    let w = visit_of id count time rising first (Give parts) kept stopped in
    HasEntered v n w m × (entries_left w < entries_left v)
enters_given id count time rising shard first parts kept stopped n m valid over lt well is from =
    let v = visit_of id count time rising shard (Give parts) kept stopped in
    let w = visit_of id count time rising first (Give parts) kept stopped in
    let e = at_shard shard (giving (part_at parts shard)) in
    let later = give_from count (part_at parts) (shard + 1) in
    let plan = given_plan count time rising shard parts over lt (valid.place.1 lt) in
    let rest : w.plan ≡ later = ap (λ es. es ++ give_from count (part_at parts) first) (raise_end count time rising over) ∙ sym (give_skip count (shard + 1) first parts valid.place.0 from) in (
      (
        e,
        given m.history.horizon,
        record {
          ready = well;
          rest = later;
          next = plan;
          says = (is, refl);
          takes = ap (λ (es : List Errand). let x : VisitState = record v { plan = es } in x) rest;
        },
      ),
      subst (λ (es : List Errand). entries_unless stopped es ends < entries_left v) (sym rest) (shorter_by_one v e later stopped ends plan well well refl),
    )

-- ---- a visit that reads, once all shards are raised

-- it is what reads
pub read_is : (id count time rising shard : ℕ) (reading : VisitState) (kept : Option ℕ)
    (stopped : Bool) → IsReader id count reading → count ≤ rising → stopped ≡ reading.stopped
    → visit_of id count time rising shard (Read reading) kept stopped ≡ reading
read_is id count time rising shard reading kept stopped is over same =
    let plan = raise_end count time rising over in
    λ i. record {
      id = sym is.id i;
      count = sym is.count i;
      plan = plan i ++ reading.plan;
      made = reading.made;
      after = reading.after;
      stopped = same i;
    }

-- ---- what a visit says of itself

-- the next shard that has a part
pub part_next : (count shard : ℕ) (parts : Parts) → shard ≤ count
    → (shard < count → (part_at parts shard).given ≢ [])
    → (if nat_lt shard count then Some shard else None)
    ≡ shard_next false (work_from count (Give parts) shard)
part_next count shard parts within some = cases (nat_lt shard count) refl
  where
    cases : (b : Bool) → nat_lt shard count ≡ b
        → (if b then Some shard else None) ≡ shard_next false (work_from count (Give parts) shard)
    cases true is =
        let lt : shard < count = ltb-true shard count is in
        sym (next_part count shard parts lt (some lt))
    cases false is = sym (no_part count shard parts (ltb-false shard count is))

pub next_below : (count shard : ℕ) → IfSome (if nat_lt shard count then Some shard else None) (λ x. x < count)
next_below count shard = cases (nat_lt shard count) refl
  where
    cases : (b : Bool) → nat_lt shard count ≡ b → IfSome (if b then Some shard else None) (λ x. x < count)
    cases true is = ltb-true shard count is
    cases false is = tt

-- a visit that reads, and raises all shards first
pub reads_begun : (id count time : ℕ) (plan : List Errand) (made : Made) (after : After)
    → visit_of id count time 0 count (Read (begun id count plan made after)) None false
    ≡ begun id count (raise_plan count time ++ plan) made after
reads_begun id count time plan made after =
    ap (λ es. begun id count (es ++ plan) made after) (raise_begun count time)

-- one that raises none
pub reads_only : (id count time : ℕ) (reading v : VisitState) → reading ≡ v → IsReader id count v
    → visit_of id count time count count (Read reading) None false ≡ v
reads_only id count time reading v is reader =
    ap (λ (r : VisitState). visit_of id count time count count (Read r) None false) is
    ∙ read_is id count time count count v None false reader (omega arith) (sym reader.going)

pub reader_of : (id count : ℕ) (plan : List Errand) (made : Made) (after : After) → IsReadMade made
    → IsReader id count (begun id count plan made after)
reader_of id count plan made after read = record { id = refl; count = refl; going = refl; made = read }

-- a visit that does not read has no answer, no offer and no copy
pub gives_none : (id count shard : ℕ) (work : Work) (kept : Option ℕ)
    → ((reading : VisitState) → work ≡ Read reading → ⊥)
    → (answers_of (made_of work kept) (after_of work) ≡ []) × (offer_in id (made_of work kept) ≡ None)
    × (copy_of (made_of work kept) ≡ None)
gives_none id count shard Raise kept other = (refl, refl, refl)
gives_none id count shard (Give parts) kept other = (refl, refl, refl)
gives_none id count shard (Read reading) kept other = absurd (other reading refl)
