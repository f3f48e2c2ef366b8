-- `into_raw_box` moves the fields: what is owned beside them stays.
use Rattle.warm_c.proofs.WalkNames.{◌≡◌, List, [], ◌∷◌, ◌++◌, refl, sym, subst, Fn, Val, SProp, ent, emp, id⊢, WpFn, fact, fact_i, tables, ‵, raw, ◌⊛◌}
use Rattle.warm_c.proofs.WalkNames.{◌$◌, ◌∵◌, !, qed, by, move, keep, use0, use1, split, fsplit, fjoin, rewrite, suffices, whole, sub, agg, stop, fld}
use Rattle.warm_c.proofs.WalkNames.{of_opd, no_more, and_then, returns, enter, alloc_all, pass_all, free_all, look_at, get, get_in, sets, owns}
use Rattle.warm_c.proofs.WalkNames.{types_at, type_at, nothing, heard, alive, Stays, stay_dropped, walk_of, Goes-blank, Ptr-Good, proved_at, leaves}
use Rattle.warm_c.proofs.WalkNames.{Option, Some, IsSome}
use Rattle.warm_c.proofs.PointerWordLemmas.{first, word, word_of, typed, bits_typed, opens}
use Rattle.warm_c_calls.specs.declared.open_node.OpenNode.{OpenNode}
use Rattle.warm_c.specs.contracts.held_pointer.HeldPointer.into_raw_box.{ended, clauses, signature}
use Rattle.warm_c.specs.contracts.held_pointer.HeldPointer.into_raw_box.Key.{name as #self}
use Rattle.warm_c.proofs.held_pointer.HeldPointer.into_raw_box.Statement.{statement}
use Rattle.warm_c.proofs.held_pointer.HeldPointer.into_raw_box.Code as code

pub into_raw_box_spec : {M : Type 1} → statement M
into_raw_box_spec 𝓤 𝓛 𝓜 𝓡 wired =
    let H = 𝓛.H in
    let 𝓣 = tables 𝓤 H 𝓜 𝓡 𝓡.env in
    let c = clauses 𝓛 𝓜.mem 𝓡.returns in
    let fn : Fn = code.function in
    let s = first signature.params in
    let hs : Stays signature.params ended.kept = (stay_dropped s ended.kept.0, tt) in
    proved_at 𝓛 ended hs c 𝓜 𝓡 (Goes-blank 𝓛 0 s ended.kept.0 (λ κs x f. tt), tt) #self fn (code.unfolded 𝓤 H 𝓜 𝓡 wired) (λ z are.
    -- what is passed, and what is made of it
    let Post : Val → SProp 𝓤 = (walk_of 𝓛 ended hs c).post z in
    let Run : List Val → SProp 𝓤 = λ ws. WpFn 𝓤 H 𝓣.C 𝓣.Λ fn ws Post in
    let From = type_at s z.0.0 in
    let To = type_at signature.result z.0.0 in
    let v = z.0.3.0 in
    let p = v.at in
    let a = v.alloc in
    let w = word p a in
    let ws = word_of p a z.0.4.0 are.0.0 in
    qed 𝓛 ((raw (alive 𝓛 signature z.0.0 z.0.1) ⊛ ‵ (owns (types_at signature.params z.0.0) z.0.3 z.0.4)) ∷ raw (fact 𝓤 (IsSome v.node)) ∷ []) ∵
    move ! (1 ∷ []) $ heard ! (IsSome v.node) (λ is. split ! $ move ! (1 ∷ []) $ fsplit ! $
    let got = opens v.node is in
    let made : To.Denot = record { pointer = p; allocator = a; content = got.0 } in
    let Said : Type 0 = v.node ≡ Some made.content in
    rewrite ! 0 (λ (us : List Val). ‵ (From.own_val v us)) ws refl $ rewrite ! 0 (λ (o : Option OpenNode). ‵ (From.own_val (record v { node = o }) (w ∷ []))) got.1 refl $ nothing ! $ move ! (1 ∷ 2 ∷ 3 ∷ 0 ∷ []) $
    -- [what is owned; nothing; the tokens; nothing]
    suffices ! (Run (w ∷ [])) (subst (λ (us : List Val). ent 𝓤 (Run (w ∷ [])) (Run us)) (sym (λ i. ws i ++ [])) (id⊢ 𝓤 (Run (w ∷ [])))) $
    enter ! 𝓣.C 𝓣.Λ fn (w ∷ []) Post $ alloc_all ! (λ l. pass_all ! refl (typed p a, tt) $
    sets ! (of_opd ! (get_in ! (fld ! refl (stop !)) (sub ! 0 refl (whole !)))) refl (Ptr-Good p) $
    sets ! (of_opd ! (get_in ! (fld ! refl (stop !)) (sub ! 1 refl (whole !)))) refl (bits_typed a) $
    sets ! (of_opd ! (get ! refl)) refl (Ptr-Good p) $
    sets ! (agg ! (and_then ! (get ! refl) (and_then ! (get ! refl) (no_more !)))) refl (typed p a) $
    use1 𝓛 (‵ (To.own_val made (w ∷ []))) (id⊢ 𝓤 _) $ use0 𝓛 (raw (fact 𝓤 Said)) (fact_i 𝓤 Said (emp 𝓤) got.1) $ nothing ! $ nothing ! $ fjoin ! $
    returns ! (look_at ! 0 refl) $ free_all ! refl $ keep ! (4 ∷ 0 ∷ 2 ∷ 1 ∷ []) $ by ! (leaves 𝓛 ended hs c z w made (tt, tt) (tt, tt)))))
