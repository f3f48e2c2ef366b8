-- Deliveries of a world are messages that a node receives.
use Rattle.std.proofs.Common.{◌≡◌, ◌≢◌, ◌⊎◌, inl, inr, ℕ, ◌+◌, ◌-◌, List, [], ◌∷◌, ◌++◌, length, map, refl, sym, ap, subst, ◌∙◌, append_assoc, arith}
use Rattle.std.specs.Prelude.{◌==◌, slice_index_or}
use Rattle.std.specs.List.{AllByRecursion}
use Rattle.std.proofs.lemmas.Bool.{cases_eq}
use Rattle.std.proofs.lemmas.List.{append-nil, length-append, map-append, get_or-set_other, get_or-append-add}
use Rattle.warm_history.specs.ReferenceSets.{ReferenceSet, set_of_list, with_horizon}
use Rattle.warm_history.specs.Histories.{HistoryView, entries_of, history, join}
use Rattle.warm_history.proofs.HistoryLemmas.{IsHistory-history}
use Rattle.warm_history.proofs.JoinLemmas.{join_repeats, raised_to_no_later}
use Rattle.warm_frames.specs.declared.message.Message.{Message}
use Rattle.warm_digest.specs.Exchange.{Fits, IsCollision}
use Rattle.warm_peer.specs.Answers.{requested_messages, AnswersDigests, IsAnswer, history_after}
use Rattle.warm_peer.specs.Round.{Receives, offer}
use Rattle.warm_peer.specs.Round as node
use Rattle.warm_peer.proofs.RoundLemmas.{own_digests_unanswered, entries_bring_all}
use Rattle.warm_peer.proofs.RoundLemmas as node_rounds
use Rattle.warm_world.specs.declared.event.Event.TheVariants.{Offer, Deliver}
use Rattle.warm_world.specs.declared.event.Answer.{Answer}
use Rattle.warm_world.specs.declared.event.Answer.TheVariants.{FrameNo, Took, Refused}
use Rattle.warm_world.specs.Lists.{index_of_number}
use Rattle.warm_world.specs.States.{ModelState, MessageRecord, References, Digests, Request, ReplicaState, add_records, no_replica, replica, reach_of, record_at}
use Rattle.warm_world.specs.GossipAnswers.{AreAnswers, reach_after}
use Rattle.warm_world.specs.Effects.{Next, Run, Delivered, IsNamed, shape}
use Rattle.warm_world.specs.WorldStands.{message_kept}
use Rattle.std.proofs.Math.Nat.{le_refl}
use Rattle.warm_world.proofs.HistoryLemmas.{asking_or_none, offer_record, offered_kept, history_after_reach, wanted_kept}
use Rattle.warm_world.proofs.WorldLemmas.{replica_set_at}
use Rattle.warm_world.proofs.WidthLemmas.{histories_fit}
use Rattle.warm_world.specs.Rounds.{IsNotRefused, NoneRefused, deliveries, new_messages_to, GossipRound, known_to, AreJoined, GossipRoundJoins}

-- ---- the records of an answer, as the messages that a node answers

-- the answers of the model are answers of the node
pub answers_kept : (i : ℕ) (S : ReferenceSet) (kept : MessageRecord) (added : List MessageRecord)
    → AreAnswers i (reach_after S kept) kept added
    → IsAnswer i (history S) (message_kept kept) (map message_kept added)
answers_kept i S (References sender refs) added is = ap (map message_kept) is
answers_kept i S (Request sender horizon request) added is =
    let kept = Request sender horizon request in
    ap (map message_kept) is ∙ sym (wanted_kept i (reach_after S kept) request) ∙ ap (λ (h : HistoryView). requested_messages i h request) (sym (history_after_reach S kept))
answers_kept i S (Digests sender horizon digests) added is =
    let kept = Digests sender horizon digests in
    let here : AnswersDigests i (history (reach_after S kept)) digests (map message_kept added) =
    (is.0, is.1, is.2, ap (map message_kept) is.3 ∙ sym (asking_or_none i (reach_after S kept) is.0 (is.0 == 0))) in
    subst (λ (h : HistoryView). AnswersDigests i h digests (map message_kept added)) (sym (history_after_reach S kept)) here

-- ---- one delivery

-- a delivery that is not refused
record IsDelivery (old : ModelState) (j k : ℕ) (new : ModelState) : Type 0 where
  named : IsNamed (shape old) (Deliver j k)
  count : ℕ
  first : ℕ
  done : Delivered old j (record_at old (index_of_number k)) count first new

delivery : (old : ModelState) (j k : ℕ) (answer : Answer) (new : ModelState) → IsNotRefused answer
    → Next old (Deliver j k) answer new → IsDelivery old j k new
delivery old j k (Took count first) new taken next = record { named = next.0; count = count; first = first; done = next.1 }
delivery old j k (Refused fault) new taken next = absurd taken
delivery old j k answer new taken next = absurd next.1

abbrev nth : List MessageRecord → ℕ → MessageRecord
nth records k = slice_index_or records k (References 0 (set_of_list []))

-- the record after the first ones
next_record : (records before : List MessageRecord) (kept : MessageRecord)
    (after : List MessageRecord) → records ≡ before ++ kept ∷ after
    → nth records (index_of_number (length before + 1)) ≡ kept
next_record records before kept after is =
    let at : index_of_number (length before + 1) ≡ length before + 0 = omega arith in
    ap (nth records) at ∙ ap (λ (all : List MessageRecord). nth all (length before + 0)) is ∙ get_or-append-add before (kept ∷ after) 0 (References 0 (set_of_list []))

-- what a delivery does to what reached the replicas, and to the records
record IsReceived (j : ℕ) (kept : MessageRecord) (added : List MessageRecord)
    (old new : ModelState) : Type 0 where
  answers : IsAnswer j (known_to old j) (message_kept kept) (map message_kept added)
  history_is : known_to new j ≡ history_after (known_to old j) (message_kept kept)
  others : (i : ℕ) → index_of_number i ≢ index_of_number j → reach_of new i ≡ reach_of old i
  records : new.records ≡ old.records ++ added

is_received : (old : ModelState) (j k : ℕ) (kept : MessageRecord) (new : ModelState)
    (d : IsDelivery old j k new) → record_at old (index_of_number k) ≡ kept
    → IsReceived j kept d.done.added old new
is_received old j k kept new d is =
    let S : ReferenceSet = reach_of old j in
    let next : ReplicaState = record (replica old (index_of_number j)) { reach = reach_after S (record_at old (index_of_number k)) } in
    let own : reach_of new j ≡ reach_after S (record_at old (index_of_number k)) =
    ap (λ (m : ModelState). reach_of m j) d.done.becomes ∙ ap (λ (r : ReplicaState). r.reach) (replica_set_at old (Deliver j k) next d.named) in
    record {
      answers = subst (λ (r : MessageRecord). IsAnswer j (known_to old j) (message_kept r) (map message_kept d.done.added)) is (answers_kept j S (record_at old (index_of_number k)) d.done.added d.done.answers);
      history_is = ap history own ∙ sym (history_after_reach S (record_at old (index_of_number k))) ∙ ap (λ (r : MessageRecord). history_after (known_to old j) (message_kept r)) is;
      others = λ i other. ap (λ (m : ModelState). reach_of m i) d.done.becomes ∙ ap (λ (r : ReplicaState). r.reach) (get_or-set_other old.replicas (index_of_number j) (index_of_number i) next no_replica other);
      records = ap (λ (m : ModelState). m.records) d.done.becomes;
    }

-- ---- deliveries one after the other

-- the replica j has received these records, its answers were stored, and nothing else reached a
-- replica
record ReceivedAll (j : ℕ) (received_ones : List MessageRecord)
    (old new : ModelState) : Type 0 where
  added : List MessageRecord
  records : new.records ≡ old.records ++ added
  receives : Receives j (known_to old j) (map message_kept received_ones) (map message_kept added)
      (known_to new j)
  others : (i : ℕ) → index_of_number i ≢ index_of_number j → reach_of new i ≡ reach_of old i

receives_run : (j : ℕ) (fs before after : List MessageRecord) (old new : ModelState)
    (answers : List Answer) → old.records ≡ before ++ (fs ++ after)
    → Run old (deliveries j (length before) (length fs)) answers new
    → AllByRecursion IsNotRefused answers → ReceivedAll j fs old new
receives_run j [] before after old new [] is run taken = record {
  added = [];
  records = ap (λ (m : ModelState). m.records) run ∙ sym (append-nil old.records);
  receives = (refl, ap (λ (m : ModelState). known_to m j) run);
  others = λ i other. ap (λ (m : ModelState). reach_of m i) run;
}
receives_run j [] before after old new (answer ∷ answers) is run taken = absurd run
receives_run j (f ∷ fs) before after old new [] is run taken = absurd run
receives_run j (f ∷ fs) before after old new (answer ∷ answers) is run taken =
    let mid : ModelState = run.0 in
    let d : IsDelivery old j (length before + 1) mid = delivery old j (length before + 1) answer mid taken.0 run.1 in
    let one : IsReceived j f d.done.added old mid = is_received old j (length before + 1) f mid d (next_record old.records before f (fs ++ after) is) in
    let parts : mid.records ≡ (before ++ f ∷ []) ++ (fs ++ (after ++ d.done.added)) =
    one.records
    ∙ ap (λ (rs : List MessageRecord). rs ++ d.done.added) is
    ∙ append_assoc before (f ∷ (fs ++ after)) d.done.added
    ∙ ap (λ (rs : List MessageRecord). before ++ f ∷ rs) (append_assoc fs after d.done.added)
    ∙ sym (append_assoc before (f ∷ []) (fs ++ (after ++ d.done.added))) in
    let longer : length before + 1 ≡ length (before ++ f ∷ []) = sym (length-append before (f ∷ [])) in
    let rest : ReceivedAll j fs mid new =
    receives_run j fs (before ++ f ∷ []) (after ++ d.done.added) mid new answers parts (subst (λ (n : ℕ). Run mid (deliveries j n (length fs)) answers new) longer run.2) taken.1 in
    record {
      added = d.done.added ++ rest.added;
      records = rest.records ∙ ap (λ (rs : List MessageRecord). rs ++ rest.added) one.records ∙ append_assoc old.records d.done.added rest.added;
      receives = (
        map message_kept d.done.added,
        map message_kept rest.added,
        one.answers,
        subst (λ (h : HistoryView). Receives j h (map message_kept fs) (map message_kept rest.added) (known_to new j)) one.history_is rest.receives,
        map-append message_kept d.done.added rest.added,
      );
      others = λ i other. rest.others i other ∙ one.others i other;
    }

-- the replica j receives what was stored between two states
receives_new : (j : ℕ) (fs : List MessageRecord) (before after new : ModelState)
    → after.records ≡ before.records ++ fs → NoneRefused after (new_messages_to j before after) new
    → ReceivedAll j fs after new
receives_new j fs before after new is come =
    let many : length after.records - length before.records ≡ length fs = omega (arith, ap length is, length-append before.records fs) in
    receives_run j fs before.records [] after new come.answers (is ∙ ap (λ (rs : List MessageRecord). before.records ++ rs) (sym (append-nil fs)))
    (subst (λ (n : ℕ). Run after (deliveries j (length before.records) n) come.answers new) many come.run) come.taken

-- ---- the offer

offer_kept : (old : ModelState) (i : ℕ) (answer : Answer) (new : ModelState) → IsNotRefused answer
    → Next old (Offer i) answer new → new ≡ add_records old (offer_record i (reach_of old i) ∷ [])
offer_kept old i (FrameNo k) new taken next = next.1.1
offer_kept old i (Refused fault) new taken next = absurd taken
offer_kept old i answer new taken next = absurd next.1

offered_is : (old : ModelState) (i : ℕ) (answers : List Answer) (new : ModelState)
    → Run old (Offer i ∷ []) answers new → AllByRecursion IsNotRefused answers
    → new ≡ add_records old (offer_record i (reach_of old i) ∷ [])
offered_is old i [] new run taken = absurd run
offered_is old i (answer ∷ []) new run taken = run.2 ∙ offer_kept old i answer run.0 taken.0 run.1
offered_is old i (answer ∷ other ∷ answers) new run taken = absurd run.2

-- ---- the round

none_mapped : (rs : List MessageRecord) → map message_kept rs ≡ [] → rs ≡ []
none_mapped [] is = refl
none_mapped (r ∷ rs) is = absurd (cc)

-- a replica that receives nothing answers nothing, and its history is unchanged
receives_nothing : (j : ℕ) (fs : List MessageRecord) (old new : ModelState) → fs ≡ []
    → (all : ReceivedAll j fs old new) → (all.added ≡ []) × (known_to new j ≡ known_to old j)
receives_nothing j fs old new none all =
    let receives : Receives j (known_to old j) [] (map message_kept all.added) (known_to new j) =
    subst (λ (rs : List MessageRecord). Receives j (known_to old j) (map message_kept rs) (map message_kept all.added) (known_to new j)) none all.receives in
    (none_mapped all.added receives.0, receives.1)

-- the history of the second replica after it received the offer
abbrev pub raised_by : ℕ → ℕ → ModelState → HistoryView
raised_by i j m = history (with_horizon (reach_of m i).horizon (reach_of m j))

round_joins : (i j : ℕ) (old new : ModelState) → Fits (known_to old i) → Fits (known_to old j)
    → (round : GossipRound i j old new)
    → AreJoined round ⊎ IsCollision (known_to old i) (raised_by i j old)
round_joins i j old new fits others round = elim (cases_eq (index_of_number i) (index_of_number j)) [
  | inl same ↦ inl (own same)
  | inr other ↦ elim (node_rounds.gossip_round_joins i j h g (known_to new i) (known_to new j) (IsHistory-history (reach_of old i)) (IsHistory-history (reach_of old j)) fits others (between other)) [
    | inl both ↦ inl (record { first = both.0; second = both.1; raised = λ more. both.2 (λ none. more (no_more (none_mapped first.added none))) })
    | inr collision ↦ inr (subst (IsCollision h) history_is collision)
  ]
]
  where
    h : HistoryView
    h = known_to old i

    g : HistoryView
    g = known_to old j

    -- the offer teaches its horizon
    history_is : history_after g (offer i h) ≡ raised_by i j old
    history_is = ap (history_after g) (offered_kept i (reach_of old i)) ∙ history_after_reach (reach_of old j) (offer_record i (reach_of old i))

    offered_it : round.offered ≡ add_records old (offer_record i (reach_of old i) ∷ [])
    offered_it = offered_is old i round.offers.answers round.offered round.offers.run round.offers.taken

    knew : (k : ℕ) → known_to round.offered k ≡ known_to old k
    knew k = ap (λ (m : ModelState). known_to m k) offered_it

    first : ReceivedAll j (offer_record i (reach_of old i) ∷ []) round.offered round.asked
    first = receives_new j (offer_record i (reach_of old i) ∷ []) old round.offered round.asked (ap (λ (m : ModelState). m.records) offered_it) round.asks

    second : ReceivedAll i first.added round.asked round.given
    second = receives_new i first.added round.offered round.asked round.given first.records round.gives

    third : ReceivedAll j second.added round.given new
    third = receives_new j second.added round.asked round.given new second.records round.ends

    no_more : first.added ≡ [] → round.asked.records ≡ round.offered.records
    no_more none = first.records ∙ ap (λ (rs : List MessageRecord). round.offered.records ++ rs) none ∙ append-nil round.offered.records

    -- what j receives of the offer
    offer_heard : Receives j g (offer i h ∷ []) (map message_kept first.added)
        (known_to round.asked j)
    offer_heard =
        subst (λ (k : HistoryView). Receives j k (offer i h ∷ []) (map message_kept first.added) (known_to round.asked j)) (knew j)
        (subst (λ (f : Message). Receives j (known_to round.offered j) (f ∷ []) (map message_kept first.added) (known_to round.asked j)) (sym (offered_kept i (reach_of old i))) first.receives)

    -- the answer of j to the digests of h, and that these brought it only their horizon
    answered : IsAnswer j g (offer i h) (map message_kept first.added)
    answered =
        let whole : offer_heard.0 ≡ map message_kept first.added = sym (offer_heard.4 ∙ ap (λ (fs : List Message). offer_heard.0 ++ fs) offer_heard.3.0 ∙ append-nil offer_heard.0) in
        subst (IsAnswer j g (offer i h)) whole offer_heard.2

    knows : known_to round.asked j ≡ history_after g (offer i h)
    knows = offer_heard.3.1

    between : index_of_number i ≢ index_of_number j
        → node.HistoryRound i j h g (known_to new i) (known_to new j)
    between other =
        let back : index_of_number j ≢ index_of_number i = λ same. other (sym same) in
        let before : known_to round.asked i ≡ h = ap history (first.others i other) ∙ knew i in
        let after : known_to round.given i ≡ known_to new i = sym (ap history (third.others i other)) in
        let kept : known_to round.given j ≡ history_after g (offer i h) = ap history (second.others j back) ∙ knows in
        let received_it : Receives i h (map message_kept first.added) (map message_kept second.added) (known_to new i) =
        subst (Receives i h (map message_kept first.added) (map message_kept second.added)) after
        (subst (λ (k : HistoryView). Receives i k (map message_kept first.added) (map message_kept second.added) (known_to round.given i)) before second.receives) in
        record {
          asked = map message_kept first.added;
          given = map message_kept second.added;
          last = map message_kept third.added;
          offered = answered;
          received = received_it;
          back = subst (λ (k : HistoryView). Receives j k (map message_kept second.added) (map message_kept third.added) (known_to new j)) kept third.receives;
        }

    -- a replica that gossips with itself receives nothing
    own : index_of_number i ≡ index_of_number j → AreJoined round
    own same =
        let one : (m : ModelState) → known_to m i ≡ known_to m j = λ m. ap (λ (k : ℕ). history (replica m k).reach) same in
        let whole = IsHistory-history (reach_of old i) in
        let none : first.added ≡ [] =
        none_mapped first.added (own_digests_unanswered i j h (map message_kept first.added) whole (subst (λ (k : HistoryView). IsAnswer j k (offer i h) (map message_kept first.added)) (sym (one old)) answered)) in
        let then_i = receives_nothing i first.added round.asked round.given none second in
        let then_j = receives_nothing j second.added round.given new then_i.0 third in
        let still : known_to round.asked j ≡ g = knows ∙ ap (λ (k : HistoryView). history_after k (offer i h)) (sym (one old)) ∙ raised_to_no_later h h.horizon whole (le_refl h.horizon) ∙ one old in
        let unchanged : known_to new j ≡ g = then_j.1 ∙ sym (one round.given) ∙ then_i.1 ∙ one round.asked ∙ still in
        let joins : join h g ≡ g = ap (λ (k : HistoryView). join k g) (one old) ∙ join_repeats g (IsHistory-history (reach_of old j)) in
        let both : known_to new i ≡ join h g = one new ∙ unchanged ∙ sym joins in
        record { first = ap entries_of both; second = unchanged ∙ sym joins; raised = λ more. both }

pub gossip_round_joins : GossipRoundJoins
gossip_round_joins i j old new fits round = round_joins i j old new (histories_fit old i fits) (histories_fit old j fits) round
