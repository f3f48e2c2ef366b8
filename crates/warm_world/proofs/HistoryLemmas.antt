-- What a history says stands for the references themselves: what is carried of them, what is
-- answered of them, and how pages rank.
use Rattle.std.proofs.Common.{◌≡◌, ℕ, List, [], ◌∷◌, ◌++◌, Option, None, map, refl, sym, ◌∙◌, ap, subst, cond, true, false, Bool, arith}
use Rattle.std.specs.Prelude.{◌==◌}
use Rattle.std.specs.List.{flat_map}
use Rattle.std.proofs.lemmas.List.{map-append}
use Rattle.warm_stamps.specs.declared.PageId.{PageId}
use Rattle.warm_history.specs.Entry.{Entry}
use Rattle.warm_history.specs.ReferenceSets.{ReferenceSet}
use Rattle.warm_history.specs.Histories.{entries_of, history, references_of}
use Rattle.warm_history.specs.Carried.{bucket_entries, carried}
use Rattle.warm_history.proofs.CarriedLemmas.{history-carried}
use Rattle.warm_history.proofs.HistoryLemmas.{hist_refs-history, horizon-history, same_hists}
use Rattle.warm_history.proofs.JoinLemmas.{history_first}
use Rattle.warm_frames.specs.declared.layout.TheConstants.{MAX_ENTRIES}
use Rattle.warm_frames.specs.declared.message.Message.{Message}
use Rattle.warm_frames.specs.declared.message.Message.TheVariants.{Digest, Entries, Want}
use Rattle.warm_digest.specs.BucketDigests.{digests_of}
use Rattle.warm_frames.specs.Chunks.{bucket_messages, chunks}
use Rattle.warm_peer.specs.Answers.{AnswersDigests, IsAnswer, requested_buckets, sent, history_after, requested_messages}
use Rattle.warm_peer.specs.Chunks.{AreAllChunks, last_page}
use Rattle.warm_peer.specs.Round.{offer}
use Rattle.warm_gossip.specs.State.{NodeView}
use Rattle.warm_peer.proofs.ChunkLemmas.{chunks_in_turn}
use Rattle.warm_peer.proofs.RoundLemmas.{entries_bring_all}
use Rattle.warm_world.specs.States.{MessageRecord, ModelState, References, Digests, Request, replica_node, reach_of}
use Rattle.warm_world.specs.GossipAnswers.{AreAnswers, bucket_records, reach_after, records_of, requested_records}
use Rattle.warm_world.specs.WorldStands.{message_kept}

own_history : (S : ReferenceSet) → history (references_of (history S)) ≡ history S
own_history S = same_hists (references_of (history S)) S (horizon-history S) (hist_refs-history S)

-- what is carried of a history is what is carried of the references for which it stands
carried_alike : (S : ReferenceSet) (bucket : ℕ) (after : Option PageId) (limit : ℕ)
    → entries_of (history (carried (references_of (history S)) bucket after limit))
    ≡ entries_of (history (carried S bucket after limit))
carried_alike S bucket after limit = sym (history-carried (references_of (history S)) bucket after limit) ∙ rw (own_history S) (history-carried S bucket after limit)

-- what a node sends, and the digests that it offers, are those of the references for which its
-- history stands
pub sent_kept : (m : ModelState) (n : NodeView) (message : Message) (i bucket : ℕ)
    (after : Option PageId) → message ≡ sent n.id n.history bucket after → n ≡ replica_node m i
    → message ≡ message_kept (References i (carried (reach_of m i) bucket after MAX_ENTRIES))
sent_kept m n message i bucket after is node =
    let S = reach_of m i in
    is ∙ ap (λ (v : NodeView). sent v.id v.history bucket after) node
    ∙ ap (λ time. Entries i time (entries_of (history (carried (references_of (history S)) bucket after MAX_ENTRIES)))) (horizon-history S) ∙ ap (Entries i S.horizon) (carried_alike S bucket after MAX_ENTRIES)

abbrev pub offer_record : ℕ → ReferenceSet → MessageRecord
offer_record i S = Digests i S.horizon (digests_of (entries_of (history S)))

pub offered_kept : (i : ℕ) (S : ReferenceSet)
    → offer i (history S) ≡ message_kept (offer_record i S)
offered_kept i S = ap (λ m. Digest i m (digests_of (entries_of (history S)))) (horizon-history S)

pub offers_kept : (m : ModelState) (n : NodeView) (message : Message) (i : ℕ)
    → message ≡ offer n.id n.history → n ≡ replica_node m i
    → message ≡ message_kept (offer_record i (reach_of m i))
offers_kept m n message i is node = is ∙ ap (λ (v : NodeView). offer v.id v.history) node ∙ offered_kept i (reach_of m i)

-- ---- what a replica answers

chunk_messages : (i : ℕ) (S : ReferenceSet) (bucket : ℕ) (after : Option PageId)
    (ps : List (List Entry)) → AreAllChunks S bucket MAX_ENTRIES after ps
    → map (λ part. Entries i S.horizon part) ps ≡ map message_kept (records_of i S bucket after ps)
chunk_messages i S bucket after [] turn = refl
chunk_messages i S bucket after (chunk ∷ others) turn =
    rw (← turn.0) (ap (λ fs. Entries i S.horizon chunk ∷ fs) (chunk_messages i S bucket (last_page chunk) others turn.2))

bucket_kept : (i : ℕ) (S : ReferenceSet) (bucket : ℕ)
    → bucket_messages i (history S) bucket ≡ map message_kept (bucket_records i S bucket)
bucket_kept i S bucket =
    let parts = chunks MAX_ENTRIES (bucket_entries bucket (entries_of (history S))) in
    ap (λ m. map (λ part. Entries i m part) parts) (horizon-history S) ∙ chunk_messages i S bucket None parts (chunks_in_turn S bucket MAX_ENTRIES (omega arith))

buckets_kept : (i : ℕ) (S : ReferenceSet) (bs : List ℕ)
    → flat_map (bucket_messages i (history S)) bs
    ≡ map message_kept (flat_map (bucket_records i S) bs)
buckets_kept i S [] = refl
buckets_kept i S (b ∷ bs) =
    rw (bucket_kept i S b, buckets_kept i S bs) (sym (map-append message_kept (bucket_records i S b) (flat_map (bucket_records i S) bs)))

pub wanted_kept : (i : ℕ) (S : ReferenceSet) (request : ℕ)
    → requested_messages i (history S) request ≡ map message_kept (requested_records i S request)
wanted_kept i S request = buckets_kept i S (requested_buckets request)

-- the history of a replica after it received a record's message
pub history_after_reach : (S : ReferenceSet) (kept : MessageRecord)
    → history_after (history S) (message_kept kept) ≡ history (reach_after S kept)
history_after_reach S (References sender rs) = entries_bring_all sender S rs
history_after_reach S (Digests sender horizon digests) = history_first S (record { horizon = horizon; given = [] })
history_after_reach S (Request sender horizon request) = history_first S (record { horizon = horizon; given = [] })

-- The records of what a replica answers to a record's message.
pub record RecordsOf (i : ℕ) (S : ReferenceSet) (kept : MessageRecord)
    (messages : List Message) : Type 0 where
  pub added : List MessageRecord
  pub answers : AreAnswers i (reach_after S kept) kept added
  pub are : messages ≡ map message_kept added

pub asking_or_none : (i : ℕ) (S : ReferenceSet) (request : ℕ) (none : Bool)
    → cond none [] (requested_messages i (history S) request ++ Want i (history S).horizon request
    ∷ []) ≡ map message_kept
    (cond none [] (requested_records i S request ++ Request i S.horizon request ∷ []))
asking_or_none i S request true = refl
asking_or_none i S request false =
    ap (λ m. requested_messages i (history S) request ++ Want i m request ∷ []) (horizon-history S)
    ∙ rw (wanted_kept i S request) (sym (map-append message_kept (requested_records i S request) (Request i S.horizon request ∷ [])))

pub answer_records : (i : ℕ) (S : ReferenceSet) (kept : MessageRecord) (messages : List Message)
    → IsAnswer i (history S) (message_kept kept) messages → RecordsOf i S kept messages
answer_records i S (References sender rs) messages none = record { added = []; answers = refl; are = none }
answer_records i S (Request sender horizon request) messages are =
    let T = reach_after S (Request sender horizon request) in
    record {
      added = requested_records i T request;
      answers = refl;
      are = are ∙ ap (λ h. requested_messages i h request) (history_after_reach S (Request sender horizon request)) ∙ wanted_kept i T request;
    }
answer_records i S (Digests sender horizon digests) messages answer =
    let kept = Digests sender horizon digests in
    let T = reach_after S kept in
    let here : AnswersDigests i (history T) digests messages = subst (λ h. AnswersDigests i h digests messages) (history_after_reach S kept) answer in
    let request = here.0 in
    record {
      added = cond (request == 0) [] (requested_records i T request ++ Request i T.horizon request ∷ []);
      answers = (request, here.1, here.2, refl);
      are = here.3 ∙ asking_or_none i T request (request == 0);
    }
