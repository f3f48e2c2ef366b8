-- What a loop over nodes does by a visit: it goes alone.
use Rattle.std.proofs.Common.{◌≡◌, ℕ, ◌<◌, List, [], ◌∷◌, ◌++◌, length, set, get_or, sym, ap, subst, ◌∙◌}
use Rattle.std.specs.Prelude.{Some, false}
use Rattle.std.proofs.lemmas.List.{get_or-set_same}
use Rattle.warm_machine.specs.Runs.{operation}
use Rattle.warm_gossip.specs.State.{NodeState}
use Rattle.warm_shards.specs.Shards.{no_shard, shard_at}
use Rattle.warm_shards.specs.VisitLaws.{EntersAlone, GoesAlone, alone}
use Rattle.warm_visits.specs.Visits.{Enters, Errand, Said, VisitState, next_shard, shard_next}
use Rattle.warm_visits.proofs.RunLemmas.{runs_more}
use Rattle.warm_shards.proofs.Calls.{read_at}

-- the shard that a visit names is that of the errand that it runs
pub named : (v w : VisitState) (shard : ℕ) (n m : NodeState) (e : Errand) (said : Said)
    → Some shard ≡ next_shard v → Enters v n e said w m → e.shard ≡ shard
named v w shard n m e said is enters =
    let next : next_shard v ≡ Some e.shard = ap (λ b. shard_next b v.plan) enters.ready ∙ ap (shard_next false) enters.next in
    let both : Some shard ≡ Some e.shard = is ∙ next in
    cc

-- one entry more
pub gone_more : (v u w : VisitState) (old ns : List NodeState) (shard : ℕ) (n m d : NodeState)
    (e : Errand) (said : Said) → shard < length ns → n ≡ get_or ns shard d → e.shard ≡ shard
    → GoesAlone v old u ns → Enters u n e said w m → GoesAlone v old w (set ns shard m)
gone_more v u w old ns shard n m d e said lt at same gone enters =
    let here : n ≡ shard_at ns shard = read_at ns shard n d lt at in
    let there : shard_at (set ns shard m) shard ≡ m = get_or-set_same ns shard m no_shard lt in
    let entry : EntersAlone (alone u ns) e said (alone w (set ns shard m)) =
    subst (λ i. Enters u (shard_at ns i) e said w (shard_at (set ns shard m) i) × (set ns shard m ≡ set ns i (shard_at (set ns shard m) i))) (sym same)
    (subst (λ (x : NodeState). Enters u x e said w (shard_at (set ns shard m) shard)) here (subst (λ (x : NodeState). Enters u n e said w x) (sym there) enters), ap (set ns shard) (sym there)) in
    (gone.0 ++ operation 0 e said ∷ [], runs_more EntersAlone (alone v old) (alone u ns) (alone w (set ns shard m)) gone.0 (operation 0 e said) gone.1 entry)
