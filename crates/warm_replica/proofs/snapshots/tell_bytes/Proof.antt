-- `tell_bytes` does nothing: what a snapshot is of is no part of what it owns. Assumes `Logic`.
use Rattle.std.proofs.Common.{[], ◌∷◌, refl}
use Rattle.std.proofs.raw_atomic.Walks.{proved}
use mir.Syntax.{named}
use mir.Val.{vunit}
use base.Fml.{ftrue, flft}
use types.Kit.{‵, ◌⊛◌, ◌$◌, ◌∵◌, !, qed, done, move, keep, split, join, fsplit3, suffices, frame, group, feq_i}
use types.Run.{enter, of_opd, unit_lit, returns}
use types.ByLocal.{alloc_all, pass_all, free_all, look_at, sets}
use denote.Exit.{yes}
use denote.RattleType.{RattleType}
use denote.Ref.{MutRef, ShrRef, mut_vals, mut_Tells, shr_vals, shr_Tells}
use denote.Signature.{plain}
use denote.Steps.{opens, closes}
use denote.Triple.Walked.{Stays, says, stay_ref, stay_none_ref, Goes-ref, Goes-none_ref, ends_at}
use Rattle.boxcar.specs.contracts.tag.Tag as tag
use Rattle.std.specs.contracts.snapshot.Snapshot as snapshot
use Rattle.warm_gossip.specs.contracts.call.Reply as reply
use Rattle.warm_gossip.specs.declared.call.Reply.TheVariants.{Bytes}
use Rattle.warm_replica.specs.contracts.snapshots.tell_bytes as f
use Rattle.warm_replica.proofs.snapshots.tell_bytes.Statement.{statement}
use Rattle.warm_replica.proofs.snapshots.tell_bytes.Code as code

abbrev R : RattleType
R = snapshot.the_row reply.the_row

abbrev stayed : Stays f.ended.signature.params f.ended.kept
stayed = (stay_ref (0 ∷ []) tt (plain (λ _. R)), (stay_none_ref (1 ∷ []) tt (plain (λ _. tag.the_row)) yes, tt))

pub tell_bytes_spec : {M : Type 1} → statement M
tell_bytes_spec 𝓤 𝓛 𝓜 𝓡 wired =
    let c = f.clauses 𝓛 𝓜.mem 𝓡.returns in
    proved 𝓛 f.ended stayed c 𝓜 𝓡
    (Goes-ref 𝓛 2 0 tt (plain (λ _. R)), (Goes-none_ref 𝓛 2 (1 ∷ []) tt (plain (λ _. tag.the_row)) yes, tt))
    f.Key.name code.function (code.unfolded 𝓤 𝓛.H 𝓜 𝓡 wired) (λ κs. (mut_vals, (shr_vals, tt)))
    (λ κs. (mut_Tells (named 0) κs.0 R, (shr_Tells (named 1) κs.1.0 tag.the_row, tt))) (λ κs qs bounds a none are.
    let b = a.0.ref_ptr.0 in
    let o = a.0.ref_ptr.1 in
    let told : R.Denot = record a.0.now { value = Bytes a.1.0.now.numbers } in
    qed 𝓛 (((‵ (flft κs.0 qs.0) ⊛ ‵ (flft κs.1.0 qs.1.0) ⊛ ‵ ftrue)
    ⊛ ‵ ((MutRef (named 0) κs.0 R).own_val a.0 (mut_vals a.0)) ⊛ ‵ ((ShrRef (named 1) κs.1.0 tag.the_row).own_val a.1.0 (shr_vals a.1.0)) ⊛ ‵ ftrue) ∷ ‵ ftrue ∷ []) ∵
    split ! $ split ! $ move ! (2 ∷ []) $ split ! $ keep ! (0 ∷ 2 ∷ 1 ∷ 3 ∷ []) $
    -- [the reference to the snapshot; its token; the other references; their tokens]
    enter ! _ _ _ _ _ $ alloc_all ! (λ l. pass_all ! refl ((tt, tt), ((tt, tt), tt)) $
    fsplit3 ! $ move ! (1 ∷ 2 ∷ 3 ∷ []) $ opens ! tt R b o (λ us. closes ! tt R told us b o $
    -- [two parts of the reference; its token; its first part; the other references; their tokens]
    sets ! (of_opd ! (unit_lit !)) refl (tt, tt) $
    returns ! (look_at ! 0 refl) $ free_all ! refl $ move ! (3 ∷ []) $
    suffices ! _ (ends_at 𝓛 f.ended stayed c ((κs, qs, bounds, a, (mut_vals a.0, (shr_vals a.1.0, tt))), none) vunit tt (told, (tt, tt)) (tt, (tt, tt))) $ says ! refl $
    group ! 3 $ move ! (0 ∷ 2 ∷ []) $ join ! $ move ! (1 ∷ 2 ∷ []) $ join ! $ frame ! $ frame ! $
    feq_i ! _ (vunit ∷ []) _ refl $ done !)))
