-- What each shard stands for.
use Rattle.std.proofs.Common.{◌≡◌, ◌≢◌, inl, inr, ℕ, ◌<◌, Bool, List, map, filter, length, Option, None, sym, ap, ◌∙◌, arith}
use Rattle.std.specs.Prelude.{nat_eq}
use Rattle.std.specs.Ordering.{is_eq, flip_args}
use Rattle.std.proofs.lemmas.Bool.{cases_eq, eq-eqb, ne_eqb}
use Rattle.warm_stamps.specs.declared.PageId.{PageId}
use Rattle.warm_stamps.specs.declared.Reference.{Reference}
use Rattle.warm_stamps.specs.Distinct.{distinct}
use Rattle.warm_stamps.specs.Stamps.{stamp_cmp, page_cmp}
use Rattle.warm_stamps.proofs.DistinctLemmas.{is_equal}
use Rattle.warm_stamps.proofs.StampLemmas.{page_order}
use Rattle.warm_history.specs.PageHist.{PageHist}
use Rattle.warm_history.specs.ListHistories.{first_two}
use Rattle.warm_history.specs.ReferenceSets.{ReferenceSet, references}
use Rattle.warm_history.specs.Histories.{StandsFor, hist, references_of}
use Rattle.warm_history.proofs.CarriedLemmas.{references-those}
use Rattle.warm_history.proofs.HistoryLemmas.{hist_refs-history, horizon-history, same_hists}
use Rattle.warm_history.proofs.JoinLemmas.{history_of_own_references}
use Rattle.warm_gossip.specs.State.{NodeState}
use Rattle.warm_shards.specs.Shards.{AreShards, shard_at, whole}
use Rattle.warm_visits.specs.ShardNumbers.{of_shard, shard_of}
use Rattle.warm_shards.proofs.Buckets.{shard_horizon}
use Rattle.warm_shards.proofs.WholeLemmas.{hist_whole, hist_elsewhere}
use Rattle.warm_visits.proofs.Lists.{filter_none, filter_within}

-- the latest stamps in a list of references to one page
abbrev latest_in : List Reference → Option PageHist
latest_in rs = first_two (distinct (flip_args stamp_cmp) (map (λ (r : Reference). r.stamp) rs))

own_of_shard : (count i : ℕ) (S : ReferenceSet) (p : PageId) → shard_of count p ≡ i
    → hist (of_shard count i S) p ≡ hist S p
own_of_shard count i S p is =
    let own : Reference → Bool = λ r. nat_eq (shard_of count r.page) i in
    let here : Reference → Bool = λ r. is_eq (page_cmp r.page p) in
    ap (λ rs. latest_in (filter here rs)) (references-those own S)
    ∙ ap latest_in (filter_within here own (λ r to. eq-eqb (shard_of count r.page) i (ap (shard_of count) (page_order.same r.page p (is_equal (page_cmp r.page p) to)) ∙ is)) (references S))

other_of_shard : (count i : ℕ) (S : ReferenceSet) (p : PageId) → shard_of count p ≢ i
    → hist (of_shard count i S) p ≡ None
other_of_shard count i S p other =
    let own : Reference → Bool = λ r. nat_eq (shard_of count r.page) i in
    let here : Reference → Bool = λ r. is_eq (page_cmp r.page p) in
    ap (λ rs. latest_in (filter here rs)) (references-those own S)
    ∙ ap latest_in (filter_none here own (λ r to. ne_eqb (shard_of count r.page) i (λ e. other (sym (ap (shard_of count) (page_order.same r.page p (is_equal (page_cmp r.page p) to))) ∙ e))) (references S))

-- of all references for which the shards together stand, one stands for those to its pages
pub shard_stands : (S : ReferenceSet) (ns : List NodeState) (i : ℕ) → AreShards ns → i < length ns
    → StandsFor (whole ns) S → StandsFor (shard_at ns i).history (of_shard (length ns) i S)
shard_stands S ns i are lt stands =
    let h = (shard_at ns i).history in
    let count = length ns in
    let at : h.horizon ≡ S.horizon = shard_horizon ns i are lt (omega arith) ∙ ap (λ g. g.horizon) stands ∙ horizon-history S in
    sym (history_of_own_references h (are.each i lt).valid)
    ∙ same_hists (references_of h) (of_shard count i S) at (λ p. elim (cases_eq (shard_of count p) i) [
      | inl own ↦ sym (hist_whole ns i p are lt own) ∙ ap (λ g. hist (references_of g) p) stands ∙ hist_refs-history S p ∙ sym (own_of_shard count i S p own)
      | inr other ↦ hist_elsewhere ns i p are lt other ∙ sym (other_of_shard count i S p other)
    ])
