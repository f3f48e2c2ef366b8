-- The messages of requested buckets, and the answer to digests.
use Rattle.std.proofs.Common.{◌≡◌, ◌^◌, ◌≢◌, ◌↔◌, ℕ, ◌<◌, Bool, List, [], ◌∷◌, ◌++◌, sym, ap, subst, ◌∙◌, append-nil, flat_map, if◌then◌else◌}
use Rattle.std.specs.Prelude.{◌==◌}
use Rattle.std.specs.Int.{bit_at}
use Rattle.std.proofs.lemmas.Bool.{ne_eqb}
use Rattle.std.proofs.lemmas.List.Concat.{flat_map-append}
use Rattle.warm_stamps.specs.declared.TheConstants.{BUCKETS}
use Rattle.warm_stamps.specs.Buckets.{buckets_in}
use Rattle.warm_history.specs.Histories.{HistoryView, entries_of}
use Rattle.warm_frames.specs.declared.message.Message.{Message}
use Rattle.warm_frames.specs.declared.message.Message.TheVariants.{Want}
use Rattle.warm_frames.specs.Digests.{digest_at}
use Rattle.warm_digest.specs.BucketDigests.{digests_of}
use Rattle.warm_frames.specs.Chunks.{bucket_messages}
use Rattle.warm_peer.specs.Answers.{requested_buckets, requested_messages, IsDiffering, AnswersDigests}

-- ---- messages of requested buckets

-- one bucket more adds its messages
pub one_bucket_more : (id : ℕ) (h : HistoryView) (so_far : List ℕ) (bucket : ℕ)
    → flat_map (bucket_messages id h) so_far ++ bucket_messages id h bucket
    ≡ flat_map (bucket_messages id h) (so_far ++ bucket ∷ [])
one_bucket_more id h so_far bucket =
    sym (flat_map-append (bucket_messages id h) so_far (bucket ∷ []) ∙ ap (λ fs. flat_map (bucket_messages id h) so_far ++ fs) (append-nil (bucket_messages id h bucket)))

-- if none is left, all are there
pub all_requested : (id request : ℕ) (h : HistoryView) (so_far left : List ℕ)
    → so_far ++ left ≡ buckets_in request → left ≡ []
    → flat_map (bucket_messages id h) so_far ≡ requested_messages id h request
unfolding requested_buckets
all_requested id request h so_far left rest none = ap (flat_map (bucket_messages id h)) (sym (append-nil so_far) ∙ ap (λ bs. so_far ++ bs) (sym none) ∙ rest)

-- ---- answers to digests

pub if_other : {A : Type 0} (request : ℕ) (x y : A) → (request ≡ 0 → ⊥)
    → (if request == 0 then x else y) ≡ y
if_other request x y some = ap (λ (t : Bool). if t then x else y) (ne_eqb request 0 some)

differing_from : (theirs own : List (List ℕ)) (h : HistoryView) (request : ℕ)
    → own ≡ digests_of (entries_of h)
    → ((bucket : ℕ) → bucket < BUCKETS
    → (bit_at request bucket ≡ 1) ↔ (digest_at theirs bucket ≢ digest_at own bucket))
    → IsDiffering theirs h request
differing_from theirs own h request is differ = λ bucket low. subst (λ (digests : List (List ℕ)). (bit_at request bucket ≡ 1) ↔ (digest_at theirs bucket ≢ digest_at digests bucket)) is (differ bucket low)

pub some_differ : (id : ℕ) (theirs own : List (List ℕ)) (h : HistoryView) (messages : List Message)
    (request : ℕ) → request < 2 ^ 64 → own ≡ digests_of (entries_of h)
    → ((bucket : ℕ) → bucket < BUCKETS
    → (bit_at request bucket ≡ 1) ↔ (digest_at theirs bucket ≢ digest_at own bucket))
    → (request ≡ 0 → ⊥) → messages
    ≡ requested_messages id h request ++ Want id h.horizon request ∷ []
    → AnswersDigests id h theirs messages
some_differ id theirs own h messages request fits is differ some all =
    (request, fits, differing_from theirs own h request is differ, all ∙ sym (if_other request [] (requested_messages id h request ++ Want id h.horizon request ∷ []) some))
