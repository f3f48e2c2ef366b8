-- `after` makes the value of no bytes, which counts one call more. Assumes `Logic`.
use Rattle.std.proofs.Common.{[], ◌∷◌, refl}
use Rattle.std.proofs.raw_atomic.Walks.{proved}
use mir.Syntax.{named}
use mir.Val.{Val, vptr, vstruct, vnil}
use base.Fml.{ftrue}
use types.Kit.{‵, raw, ◌⊛◌, ◌$◌, ◌∵◌, !, qed, move, drop, split, suffices, done}
use types.Part.{agg}
use types.Run.{enter, returns, no_more}
use types.ByLocal.{alloc_all, pass_all, free_all, look_at, sets}
use denote.RattleType.{owns}
use denote.Shadow.{pure_i}
use denote.Triple.Entry.{alive}
use denote.Exit.{yes}
use denote.Ref.{shr_vals, shr_Tells}
use denote.Signature.{plain, types_at}
use denote.Triple.Walked.{Stays, stay_none_ref, Goes-none_ref, says, ends_at}
use Rattle.warm_devices.specs.Calls.{one_call}
use Rattle.warm_devices.specs.declared.calls.CallsMade.{CallsMade}
use Rattle.warm_devices.specs.contracts.calls.CallsMade.{the_row}
use Rattle.warm_devices.specs.contracts.fault.DeviceFault as fault
use Rattle.warm_devices.specs.contracts.calls.CallsMade.after as f
use Rattle.warm_devices.proofs.calls.CallsMade.after.Statement.{statement}
use Rattle.warm_devices.proofs.calls.CallsMade.after.Code as code

abbrev stayed : Stays f.ended.signature.params f.ended.kept
stayed = (stay_none_ref (0 ∷ []) tt (plain (λ _. the_row)) yes, (stay_none_ref (1 ∷ []) tt (plain (λ _. fault.the_row)) yes, tt))

pub after_spec : {M : Type 1} → statement M
after_spec 𝓤 𝓛 𝓜 𝓡 wired =
    let c = f.clauses 𝓛 𝓜.mem 𝓡.returns in
    let empty : Val = vstruct vnil in
    proved 𝓛 f.ended stayed c 𝓜 𝓡
    (Goes-none_ref 𝓛 2 (0 ∷ []) tt (plain (λ _. the_row)) yes, (Goes-none_ref 𝓛 2 (1 ∷ []) tt (plain (λ _. fault.the_row)) yes, tt))
    f.Key.name code.function (code.unfolded 𝓤 𝓛.H 𝓜 𝓡 wired) (λ κs. (shr_vals, (shr_vals, tt)))
    (λ κs. (shr_Tells (named 0) κs.0 the_row, (shr_Tells (named 1) κs.1.0 fault.the_row, tt))) (λ κs qs bounds a none are.
    let held : CallsMade = record { made = one_call a.1.0.now a.0.now.made } in
    let before : Val = vptr a.0.ref_ptr.0 a.0.ref_ptr.1 in
    let kind : Val = vptr a.1.0.ref_ptr.0 a.1.0.ref_ptr.1 in
    qed 𝓛 ((raw (alive 𝓛 f.signature κs qs) ⊛ ‵ (owns (types_at f.signature.params κs) a (before ∷ [], (kind ∷ [], tt)))) ∷ ‵ ftrue ∷ []) ∵
    move ! (1 ∷ []) $ drop ! $ split ! $
    -- [the tokens; what the parameters own]
    enter ! _ _ _ _ _ $ alloc_all ! (λ l. pass_all ! refl ((tt, tt), ((tt, tt), tt)) $
    sets ! (agg ! (no_more !)) refl (tt, tt) $
    returns ! (look_at ! 0 refl) $ free_all ! refl $
    suffices ! _ (ends_at 𝓛 f.ended stayed c ((κs, qs, bounds, a, (before ∷ [], (kind ∷ [], tt))), none) empty held (tt, (tt, tt)) (tt, (tt, tt))) $ says ! refl $
    pure_i ! (the_row.own_val held (empty ∷ [])) ((λ vss. (tt, tt)), tt) ((tt, (refl, tt)), tt) $
    move ! (1 ∷ 2 ∷ 0 ∷ []) $ done !))
