-- `new` makes the value of no bytes, which counts no call. Assumes `Logic`.
use Rattle.std.proofs.Common.{[], ◌∷◌, refl}
use Rattle.std.proofs.raw_atomic.Walks.{proved}
use mir.Val.{Val, vstruct, vnil}
use base.Fml.{ftrue}
use types.Kit.{‵, raw, ◌⊛◌, ◌$◌, ◌∵◌, !, qed, move, drop, split, suffices, done}
use types.Part.{agg}
use types.Run.{enter, returns, no_more}
use types.ByLocal.{alloc_all, pass_all, free_all, look_at, sets}
use denote.RattleType.{owns}
use denote.Shadow.{pure_i}
use denote.Triple.Entry.{alive}
use denote.Triple.Walked.{says, ends_at}
use Rattle.warm_devices.specs.Calls.{no_calls}
use Rattle.warm_devices.specs.declared.calls.CallsMade.{CallsMade}
use Rattle.warm_devices.specs.contracts.calls.CallsMade.{the_row}
use Rattle.warm_devices.specs.contracts.calls.CallsMade.new as f
use Rattle.warm_devices.proofs.calls.CallsMade.new.Statement.{statement}
use Rattle.warm_devices.proofs.calls.CallsMade.new.Code as code

pub new_spec : {M : Type 1} → statement M
new_spec 𝓤 𝓛 𝓜 𝓡 wired =
    let c = f.clauses 𝓛 𝓜.mem 𝓡.returns in
    let empty : Val = vstruct vnil in
    let held : CallsMade = record { made = no_calls } in
    proved 𝓛 f.ended tt c 𝓜 𝓡 tt f.Key.name code.function (code.unfolded 𝓤 𝓛.H 𝓜 𝓡 wired) (λ κs. tt) (λ κs. tt) (λ κs qs bounds a none are.
    qed 𝓛 ((raw (alive 𝓛 f.signature κs qs) ⊛ ‵ (owns [] a tt)) ∷ ‵ ftrue ∷ []) ∵
    move ! (1 ∷ []) $ drop ! $ split ! $
    -- [the tokens; what the parameters own, which is nothing]
    enter ! _ _ _ _ _ $ alloc_all ! (λ l. pass_all ! refl tt $
    sets ! (agg ! (no_more !)) refl (tt, tt) $
    returns ! (look_at ! 0 refl) $ free_all ! refl $
    suffices ! _ (ends_at 𝓛 f.ended tt c ((κs, qs, bounds, a, tt), none) empty held tt tt) $ says ! refl $
    pure_i ! (the_row.own_val held (empty ∷ [])) ((λ vss. (tt, tt)), tt) ((tt, (refl, tt)), tt) $
    move ! (1 ∷ 2 ∷ 0 ∷ []) $ done !))
