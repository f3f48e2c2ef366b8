-- What the first shards gave, and one more gives.
use Rattle.std.proofs.Common.{◌≡◌, ℕ, ◌+◌, ◌<◌, List, [], ◌∷◌, ◌++◌, length, get_or, refl, sym, ap, subst, ◌∙◌, arith}
use Rattle.std.proofs.lemmas.List.{length-append}
use Rattle.warm_concurrent.specs.Attached.{KeepsOtherPasses, ShardPass, no_pass, shard_pass}
use Rattle.warm_concurrent.specs.Raising.{FirstGave}
use Rattle.warm_shards.specs.EachShard.{First}
use Rattle.warm_shards.proofs.FirstLemmas.{none_first, one_first}
use Rattle.warm_concurrent.proofs.ListLemmas.{get_front, get_last}

module _ {T : Type 0} (So : T → ℕ → ShardPass → ShardPass → Type 0) (none : T) where
  -- no shard gave anything
  pub none_gave : (old : List ShardPass) → FirstGave So none [] 0 old old
  none_gave old = (refl, none_first (λ i. So (get_or [] i none) i) old)

  module _ (given : List T) (t : T) (k : ℕ) (old mid : List ShardPass)
      (so : FirstGave So none given k old mid) where
    abbrev Here : ℕ → ShardPass → ShardPass → Type 0
    Here = λ i. So (get_or (given ++ t ∷ []) i none) i

    -- the first items are those that they were
    grown : First no_pass Here k old mid
    grown = record {
      count = so.1.count;
      first = λ i lt. subst (λ x. So x i (shard_pass old i) (shard_pass mid i)) (sym (get_front given t none i (omega (arith, lt, so.0)))) (so.1.first i lt);
      others = so.1.others;
    }

    last : get_or (given ++ t ∷ []) k none ≡ t
    last = ap (λ j. get_or (given ++ t ∷ []) j none) (sym so.0) ∙ get_last given t none

    longer : length (given ++ t ∷ []) ≡ k + 1
    longer = omega (arith, length-append given (t ∷ []), so.0)

    -- the next shard gave an item as well: it alone changed
    pub one_gave : (new : List ShardPass) → k < length old → KeepsOtherPasses mid k new
        → So t k (shard_pass mid k) (shard_pass new k)
        → FirstGave So none (given ++ t ∷ []) (k + 1) old new
    one_gave new lt others next =
        (longer, one_first Here k old mid new lt grown others (subst (λ x. So x k (shard_pass mid k) (shard_pass new k)) (sym last) next))
