-- Dumps with the same digests.
use Rattle.std.proofs.Common.{◌≡◌, ◌⊎◌, inl, inr, ℕ, max, List, [], ◌∷◌, ◌++◌, filter, refl, sym, ap, ◌∙◌, append-nil, arith}
use Rattle.std.specs.Prelude.{◌==◌}
use Rattle.std.specs.Int.{bit_at}
use Rattle.std.proofs.lemmas.Nat.Bits.{bit_at-zero}
use Rattle.std.proofs.Math.Nat.{max-eq_left}
use Rattle.warm_stamps.specs.declared.Reference.{Reference}
use Rattle.warm_stamps.specs.Buckets.{page_bucket}
use Rattle.warm_history.specs.ReferenceSets.{ReferenceSet, ◌∪◌}
use Rattle.warm_history.specs.Histories.{HistoryView, entries_of, history}
use Rattle.warm_history.proofs.JoinLemmas.{history_swap}
use Rattle.warm_frames.specs.Digests.{digest_at}
use Rattle.warm_digest.specs.BucketDigests.{bucket_digest, digests_of}
use Rattle.warm_digest.specs.Exchange.{IsCollision, IsDifferenceOf, Fits, in_buckets}
use Rattle.warm_digest.proofs.ExchangeLemmas.{exchange_joins}
use Rattle.warm_digest.proofs.CachedLemmas.{digest_is}
use Rattle.warm_dump.specs.Laws.{ChangedDumpIsSeen}
use Rattle.warm_dump.specs.Reading.{references_in}
use Rattle.warm_dump.proofs.FitLemmas.{dump_fits}

-- no bucket is in the request 0
none_wanted : (S : List Reference) → filter (λ r. bit_at 0 (page_bucket r.page) == 1) S ≡ []
none_wanted [] = refl
none_wanted (r ∷ S) = rw (bit_at-zero (page_bucket r.page)) (none_wanted S)

alone : (S T : ReferenceSet) → S.horizon ≡ T.horizon → T ∪ in_buckets 0 S ≡ T
alone S T same =
    let horizon : max T.horizon S.horizon ≡ T.horizon = ap (max T.horizon) same ∙ max-eq_left (omega arith) in
    let same_references : T.given ++ filter (λ r. bit_at 0 (page_bucket r.page) == 1) S.given ≡ T.given = ap (λ (R : List Reference). T.given ++ R) (none_wanted S.given) ∙ append-nil T.given in
    λ i. record { horizon = horizon i; given = same_references i }

collision_too : (h g : HistoryView) → IsCollision h g → IsCollision g h
collision_too h g c = record { bucket = c.bucket; low = c.low; differ = (λ same. c.differ (sym same)); same_digest = sym c.same_digest }

-- histories with the same digests differ in no bucket
no_difference : (h g : HistoryView) → digests_of (entries_of h) ≡ digests_of (entries_of g)
    → IsDifferenceOf h g 0
no_difference h g same bucket low =
    let one : bucket_digest (entries_of h) bucket ≡ bucket_digest (entries_of g) bucket =
    sym (digest_is (entries_of h) bucket low) ∙ ap (λ (ds : List (List ℕ)). digest_at ds bucket) same ∙ digest_is (entries_of g) bucket low in
    ((λ set. absurd (omega (arith, set, bit_at-zero bucket))), (λ other. absurd (other one)))

same_histories : (S T : ReferenceSet) → S.horizon ≡ T.horizon → Fits (history S) → Fits (history T)
    → digests_of (entries_of (history S)) ≡ digests_of (entries_of (history T))
    → (history S ≡ history T) ⊎ IsCollision (history S) (history T)
same_histories S T horizon fits others same = elim (exchange_joins S T 0 fits others (no_difference (history S) (history T) same)) [
  | inr c ↦ inr c
  | inl second ↦ elim (exchange_joins T S 0 others fits (no_difference (history T) (history S) (sym same))) [
    | inr c ↦ inr (collision_too (history T) (history S) c)
    | inl first ↦ inl (sym (ap history (alone T S (sym horizon))) ∙ first ∙ history_swap S T ∙ sym second ∙ ap history (alone S T horizon))
  ]
]

seen_of : (S T : ReferenceSet) (h g : HistoryView) → h ≡ history S → g ≡ history T
    → S.horizon ≡ T.horizon → Fits h → Fits g
    → digests_of (entries_of h) ≡ digests_of (entries_of g) → (h ≡ g) ⊎ IsCollision h g
seen_of S T h g is_h is_g horizon fits others same = rw (is_h, is_g) (same_histories S T horizon (rw (← is_h) fits) (rw (← is_g) others) (rw (← is_h, ← is_g) same))

pub changed_dump_is_seen : ChangedDumpIsSeen
changed_dump_is_seen text changed h g a b horizon digests =
    seen_of (references_in g.horizon b.messages) (references_in h.horizon a.messages) g h b.given a.given horizon (dump_fits changed g b) (dump_fits text h a)
    (sym b.same_digests ∙ digests ∙ a.same_digests)
