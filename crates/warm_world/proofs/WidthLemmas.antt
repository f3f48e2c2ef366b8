-- Numbers stay within their widths.
use Rattle.std.proofs.Common.{◌≡◌, ℕ, zero, suc, ◌≤◌, ◌<◌, ◌^◌, max, Bool, true, false, List, [], ◌∷◌, ◌++◌, length, map, Option, Some, None, sym, subst, arith, flat_map, if◌then◌else◌}
use Rattle.std.specs.Prelude.{◌==◌, nat_le, replicate, slice_index_or, slice_set}
use Rattle.std.specs.List.{AllByRecursion, list_any}
use Rattle.std.specs.Ordering.{is_eq}
use Rattle.std.proofs.lemmas.List.{length-map, length-set}
use Rattle.warm_stamps.specs.declared.PageId.{PageId}
use Rattle.warm_stamps.specs.declared.Reference.{Reference}
use Rattle.warm_stamps.specs.declared.TheConstants.{MAX_REPLICAS}
use Rattle.warm_peer.specs.Answers.{requested_buckets}
use Rattle.warm_stamps.specs.Stamps.{page_cmp}
use Rattle.warm_stamps.proofs.DistinctLemmas.{all_append, all_filter}
use Rattle.warm_history.specs.Entry.{Entry}
use Rattle.warm_history.specs.ReferenceSets.{ReferenceSet, is_kept, references, set_of_list, ◌∪◌}
use Rattle.warm_history.specs.Carried.{carried, pages_carried}
use Rattle.warm_history.proofs.CarriedLemmas.{references-those}
use Rattle.warm_history.proofs.HistoryLemmas.{references-both}
use Rattle.warm_frames.specs.declared.layout.TheConstants.{MAX_ENTRIES}
use Rattle.warm_digest.specs.Exchange.{IsReference, AreReferences}
use Rattle.warm_digest.proofs.FitLemmas.{history_fits}
use Rattle.warm_pool.specs.View.{PoolView}
use Rattle.warm_peer.specs.Chunks.{last_page}
use Rattle.warm_gossip.specs.declared.call.Call.{Call}
use Rattle.warm_gossip.specs.declared.call.Reply.{Reply}
use Rattle.warm_gossip.specs.declared.call.Reply.TheVariants as reply
use Rattle.warm_gossip.specs.declared.fault.NodeFault.{NodeFault}
use Rattle.warm_gossip.specs.declared.fault.NodeFault.TheVariants.{Memory}
use Rattle.warm_world.specs.declared.event.Event.{Event}
use Rattle.warm_world.specs.declared.event.Event.TheVariants.{Refer, Flush, Send, Offer, Deliver, Warm, Restart, Horizon, Show}
use Rattle.warm_world.specs.declared.event.Answer.{Answer}
use Rattle.warm_world.specs.declared.event.Answer.TheVariants.{Done, Shown, FrameNo, Took, Pages, Kept, Refused}
use Rattle.warm_world.specs.declared.event.WorldFault.TheVariants.{Node}
use Rattle.warm_world.specs.Lists.{index_of_number}
use Rattle.warm_world.specs.States.{ModelState, ReplicaState, MessageRecord, References, Digests, Request, no_replica, replica, reach_of, set_replica, set_pool, record_at, add_records, pending, flushed, put_last, raised_replica, referred, restarted, opened_over}
use Rattle.warm_world.specs.GossipAnswers.{records_of, bucket_records, requested_records, AreAnswers, reach_after, refs_of}
use Rattle.warm_world.specs.Effects.{Next, Delivered, Effect, RefusesEvent, SomeNodeReplies, IsNamed, call_of, replica_of, reply_of, shape, stamped}
use Rattle.warm_world.specs.Widths.{EventFits, ReachFits, ReplicaFits, RecordFits, ModelFits, OpeningFits, RunsFit, HistoriesFit}

-- ---- lists

all_get : {A : Type 0} (P : A → Type 0) (xs : List A) (k : ℕ) (d : A) → AllByRecursion P xs → P d
    → P (slice_index_or xs k d)
all_get P [] k d all own = own
all_get P (x ∷ xs) zero d all own = all.0
all_get P (x ∷ xs) (suc k) d all own = all_get P xs k d all.1 own

all_set : {A : Type 0} (P : A → Type 0) (xs : List A) (k : ℕ) (x : A) → AllByRecursion P xs → P x
    → AllByRecursion P (slice_set xs k x)
all_set P [] k x all own = tt
all_set P (y ∷ ys) zero x all own = (own, all.1)
all_set P (y ∷ ys) (suc k) x all own = (all.0, all_set P ys k x all.1 own)

all_map : {A B : Type 0} (P : B → Type 0) (f : A → B) (xs : List A) → ((x : A) → P (f x))
    → AllByRecursion P (map f xs)
all_map P f [] each = tt
all_map P f (x ∷ xs) each = (each x, all_map P f xs each)

all_replicate : {A : Type 0} (P : A → Type 0) (n : ℕ) (x : A) → P x
    → AllByRecursion P (replicate n x)
all_replicate P zero x own = tt
all_replicate P (suc n) x own = (own, all_replicate P n x own)

-- ---- reference sets that fit

-- a list of references that fit, none of them forgotten
these_fit : (rs : List Reference) → AreReferences rs → ReachFits (set_of_list rs)
these_fit rs all = record { horizon = omega arith; references = all_filter IsReference (λ r. is_kept 0 r.stamp) rs all }

both_fit : (S T : ReferenceSet) → ReachFits S → ReachFits T → ReachFits (S ∪ T)
both_fit S T first second = record {
  horizon = omega (arith, first.horizon, second.horizon);
  references = rw (references-both S T) (all_filter IsReference (λ r. is_kept (max S.horizon T.horizon) r.stamp) (references S ++ references T)
      (all_append IsReference (references S) (references T) first.references second.references));
}

nobody_fits : ReplicaFits no_replica
nobody_fits = record { reached = these_fit [] tt; waiting = tt }

replica_fits : (m : ModelState) (k : ℕ) → ModelFits m → ReplicaFits (replica m k)
replica_fits m k fits = all_get ReplicaFits m.replicas k no_replica fits.replicas nobody_fits

pub histories_fit : HistoriesFit
histories_fit m i fits = history_fits (reach_of m i) (replica_fits m (index_of_number i) fits).reached.references

-- ---- what each event makes

replica_set : (m : ModelState) (k : ℕ) (r : ReplicaState) → ModelFits m → ReplicaFits r
    → ModelFits (set_replica m k r)
replica_set m k r fits own = record {
  few = omega (arith, fits.few, length-set m.replicas k r);
  replicas = all_set ReplicaFits m.replicas k r fits.replicas own;
  records = fits.records;
}

records_added : (m : ModelState) (rs : List MessageRecord) → ModelFits m
    → AllByRecursion RecordFits rs → ModelFits (add_records m rs)
records_added m rs fits all = record {
  few = fits.few;
  replicas = fits.replicas;
  records = all_append RecordFits m.records rs fits.records all;
}

pool_set : (m : ModelState) (i : ℕ) (pool : PoolView) → ModelFits m → ModelFits (set_pool m i pool)
pool_set m i pool fits =
    let own : ReplicaFits (replica m (index_of_number i)) = replica_fits m (index_of_number i) fits in
    replica_set m (index_of_number i) (record (replica m (index_of_number i)) { pool = pool }) fits (record { reached = own.reached; waiting = own.waiting })

pending_fits : (r : ReplicaState) (k : ℕ) → ReplicaFits r → AreReferences (pending r k)
pending_fits r k fits = all_get AreReferences r.pending k [] fits.waiting tt

flushed_fits : (k : ℕ) (r : ReplicaState) → ReplicaFits r → ReplicaFits (flushed k r)
flushed_fits k r fits = record {
  reached = both_fit r.reach (set_of_list (pending r k)) fits.reached (these_fit (pending r k) (pending_fits r k fits));
  waiting = all_set AreReferences r.pending k [] fits.waiting tt;
}

put_last_fits : (k : ℕ) (x : Reference) (r : ReplicaState) → IsReference x → ReplicaFits r
    → ReplicaFits (put_last k x r)
put_last_fits k x r own fits = record {
  reached = fits.reached;
  waiting = all_set AreReferences r.pending k (pending r k ++ x ∷ []) fits.waiting (all_append IsReference (pending r k) (x ∷ []) (pending_fits r k fits) (own, tt));
}

referred_fits : (capacity k : ℕ) (x : Reference) (r : ReplicaState) → IsReference x → ReplicaFits r
    → ReplicaFits (referred capacity k x r)
referred_fits capacity k x r own fits = elim (nat_le capacity (length (pending r k))) as (λ b. ReplicaFits (put_last k x (if b then flushed k r else r))) [
  | true ↦ put_last_fits k x (flushed k r) own (flushed_fits k r fits)
  | false ↦ put_last_fits k x r own fits
]

restarted_fits : (pool : PoolView) (r : ReplicaState) → ReplicaFits (restarted pool r)
restarted_fits pool r = record { reached = these_fit [] tt; waiting = all_map AreReferences (λ _. []) r.pending (λ _. tt) }

raised_fits : (time : ℕ) (r : ReplicaState) → time < 2 ^ 64 → ReplicaFits r
    → ReplicaFits (raised_replica time r)
raised_fits time r low fits = record {
  reached = both_fit r.reach (record { horizon = time; given = [] }) fits.reached (record { horizon = low; references = tt });
  waiting = fits.waiting;
}

-- ---- answered records

carried_fits : (S : ReferenceSet) (bucket : ℕ) (after : Option PageId) → ReachFits S
    → ReachFits (carried S bucket after MAX_ENTRIES)
carried_fits S bucket after all = record {
  horizon = all.horizon;
  references = rw (references-those (λ r. list_any (λ p. is_eq (page_cmp p r.page)) (pages_carried S bucket after MAX_ENTRIES)) S) (all_filter IsReference _ (references S) all.references);
}

records_fit : (i : ℕ) (S : ReferenceSet) (bucket : ℕ) (after : Option PageId)
    (parts : List (List Entry)) → ReachFits S
    → AllByRecursion RecordFits (records_of i S bucket after parts)
records_fit i S bucket after [] all = tt
records_fit i S bucket after (part ∷ parts) all = (carried_fits S bucket after all, records_fit i S bucket (last_page part) parts all)

buckets_fit : (i : ℕ) (S : ReferenceSet) (buckets : List ℕ) → ReachFits S
    → AllByRecursion RecordFits (flat_map (bucket_records i S) buckets)
buckets_fit i S [] all = tt
buckets_fit i S (bucket ∷ buckets) all =
    all_append RecordFits (bucket_records i S bucket) (flat_map (bucket_records i S) buckets) (records_fit i S bucket None _ all) (buckets_fit i S buckets all)

wanted_fit : (i : ℕ) (S : ReferenceSet) (request : ℕ) → ReachFits S
    → AllByRecursion RecordFits (requested_records i S request)
wanted_fit i S request all = buckets_fit i S (requested_buckets request) all

asking_fits : (i : ℕ) (S : ReferenceSet) (request : ℕ) (none : Bool) → ReachFits S
    → AllByRecursion RecordFits
    (if none then [] else requested_records i S request ++ Request i S.horizon request ∷ [])
asking_fits i S request true all = tt
asking_fits i S request false all =
    all_append RecordFits (requested_records i S request) (Request i S.horizon request ∷ []) (wanted_fit i S request all) (record { horizon = all.horizon; references = tt }, tt)

answers_fit : (i : ℕ) (S : ReferenceSet) (kept : MessageRecord) (added : List MessageRecord)
    → ReachFits S → AreAnswers i S kept added → AllByRecursion RecordFits added
answers_fit i S (References sender refs) added all is = subst (AllByRecursion RecordFits) (sym is) tt
answers_fit i S (Request sender horizon request) added all is = subst (AllByRecursion RecordFits) (sym is) (wanted_fit i S request all)
answers_fit i S (Digests sender horizon digests) added all is = subst (AllByRecursion RecordFits) (sym is.3) (asking_fits i S is.0 (is.0 == 0) all)

delivered_fits : (old : ModelState) (j k count first : ℕ) (new : ModelState) → ModelFits old
    → Delivered old j (record_at old k) count first new → ModelFits new
delivered_fits old j k count first new fits done =
    let own : ReplicaFits (replica old (index_of_number j)) = replica_fits old (index_of_number j) fits in
    let kept : MessageRecord = record_at old k in
    let brings : RecordFits kept = all_get RecordFits old.records k (References 0 (set_of_list [])) fits.records (these_fit [] tt) in
    let next : ReplicaState = record (replica old (index_of_number j)) { reach = reach_after (reach_of old j) kept } in
    let after : ReachFits (reach_after (reach_of old j) kept) = both_fit (reach_of old j) (refs_of kept) own.reached brings in
    let own_next : ReplicaFits next = record { reached = after; waiting = own.waiting } in
    subst ModelFits (sym done.becomes) (records_added (set_replica old (index_of_number j) next) done.added
    (replica_set old (index_of_number j) next fits own_next) (answers_fit j (reach_after (reach_of old j) kept) kept done.added after done.answers))

-- ---- each event, and each run

same_fits : (old new : ModelState) → new ≡ old → ModelFits old → ModelFits new
same_fits old new is fits = subst ModelFits (sym is) fits

replied_fits : (old : ModelState) (i : ℕ) (asked : Option Call) (replied : Option Reply)
    (new : ModelState) → ModelFits old → SomeNodeReplies old i asked replied new → ModelFits new
replied_fits old i (Some asked) (Some replied) new fits r = same_fits _ new r.2 (pool_set old i r.0 fits)
replied_fits old i asked replied new fits r = absurd r

refused_fits : (old : ModelState) (event : Event) (why : NodeFault) (new : ModelState)
    → ModelFits old → RefusesEvent old event why new → ModelFits new
refused_fits old (Restart i) why new fits r = same_fits _ new r.2 (pool_set old i r.0 fits)
refused_fits old (Refer i w page time) Memory new fits r = same_fits old new r.1 fits
refused_fits old (Flush i w) Memory new fits r = same_fits old new r fits
refused_fits old (Send i bucket after) Memory new fits r = same_fits old new r fits
refused_fits old (Offer i) Memory new fits r = same_fits old new r fits
refused_fits old (Deliver j k) Memory new fits r = same_fits old new r fits
refused_fits old (Warm i n) Memory new fits r = same_fits old new r fits
refused_fits old (Show i) Memory new fits r = same_fits old new r fits
refused_fits old event why new fits r = replied_fits old (replica_of event) (call_of event) (Some (reply.Refused why)) new fits r

effect_fits : (old : ModelState) (event : Event) (answer : Answer) (new : ModelState)
    → ModelFits old → EventFits event → IsNamed (shape old) event → Effect old event answer new
    → ModelFits new
effect_fits old (Refer i w page time) Done new fits own named done =
    let low : i ≤ MAX_REPLICAS = omega (arith, named.replica_there.in_range, fits.few, length-map old.replicas (λ r. length r.pending)) in
    let made : IsReference (stamped i page time) = record { page = own.0; stamp = record { time = own.1; replica = (named.replica_there.from_one, low) } } in
    same_fits _ new done (replica_set old (index_of_number i) _ fits (referred_fits old.capacity (index_of_number w) (stamped i page time) (replica old (index_of_number i)) made (replica_fits old (index_of_number i) fits)))
effect_fits old (Flush i w) Done new fits own named done = same_fits _ new done (replica_set old (index_of_number i) _ fits (flushed_fits (index_of_number w) (replica old (index_of_number i)) (replica_fits old (index_of_number i) fits)))
effect_fits old (Send i bucket after) (FrameNo k) new fits own named done =
    same_fits _ new done.1 (records_added old _ fits (carried_fits (reach_of old i) bucket after (replica_fits old (index_of_number i) fits).reached, tt))
effect_fits old (Offer i) (FrameNo k) new fits own named done = same_fits _ new done.1 (records_added old _ fits (record { horizon = (replica_fits old (index_of_number i) fits).reached.horizon; references = tt }, tt))
effect_fits old (Deliver j k) (Took count first) new fits own named done = delivered_fits old j (index_of_number k) count first new fits done
effect_fits old (Warm i n) (Pages pages) new fits own named done = same_fits old new done.1 fits
effect_fits old (Restart i) Done new fits own named done = same_fits _ new done.2 (replica_set old (index_of_number i) _ fits (restarted_fits done.0 (replica old (index_of_number i))))
effect_fits old (Horizon i time) (Kept horizon) new fits own named done =
    same_fits _ new done.1 (replica_set old (index_of_number i) _ fits (raised_fits time (replica old (index_of_number i)) own (replica_fits old (index_of_number i) fits)))
effect_fits old (Show i) (Shown entries) new fits own named done = same_fits old new done.1 fits
effect_fits old event answer new fits own named done = replied_fits old (replica_of event) (call_of event) (reply_of answer) new fits done

step_fits : (old : ModelState) (event : Event) (answer : Answer) (new : ModelState) → ModelFits old
    → EventFits event → Next old event answer new → ModelFits new
step_fits old event (Refused (Node why)) new fits own next = refused_fits old event why new fits next.1
step_fits old event (Refused fault) new fits own next = same_fits old new next.1 fits
step_fits old event answer new fits own next = effect_fits old event answer new fits own next.0 next.1

pub runs_fit : RunsFit
runs_fit old [] [] new fits all run = same_fits old new run fits
runs_fit old [] (answer ∷ answers) new fits all run = absurd run
runs_fit old (event ∷ events) [] new fits all run = absurd run
runs_fit old (event ∷ events) (answer ∷ answers) new fits all run = runs_fit run.0 events answers new (step_fits old event answer run.0 fits all.0 run.1) all.1 run.2

pub opening_fits : OpeningFits
opening_fits s devices few = record {
  few = omega (arith, few, length-map devices (opened_over s));
  replicas = all_map ReplicaFits (opened_over s) devices (λ ds. record { reached = these_fit [] tt; waiting = all_replicate AreReferences s.workers [] tt });
  records = tt;
}
