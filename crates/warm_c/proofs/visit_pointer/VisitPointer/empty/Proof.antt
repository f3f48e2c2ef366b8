-- `empty` is made of nothing.
use Rattle.warm_c.proofs.WalkNames.{◌≡◌, List, [], ◌∷◌, ◌++◌, refl, sym, subst, Fn, Val, SProp, ent, emp, id⊢, ftrue, WpFn, fact, fact_i, tables, ‵}
use Rattle.warm_c.proofs.WalkNames.{raw, ◌⊛◌, ◌$◌, ◌∵◌, !, qed, by, move, keep, use0, use1, split, fsplit, fjoin, fpack, feq_i, rewrite, suffices, agg}
use Rattle.warm_c.proofs.WalkNames.{lit, no_more, and_then, returns, enter, alloc_all, pass_all, free_all, look_at, get, sets, Valss, owns, null_ptr}
use Rattle.warm_c.proofs.WalkNames.{ptr_val, types_at, type_at, nothing, within, shape, to, alive, Stays, stay_dropped, walk_of, Goes-blank, proved_at}
use Rattle.warm_c.proofs.WalkNames.{leaves, None}
use Rattle.std.proofs.alloc.Global.TheLaws as heap_laws
use Rattle.warm_c.proofs.PointerWordLemmas.{first, bits, word, typed, bits_typed}
use Rattle.warm_c.specs.contracts.visit_pointer.VisitPointer as pointer
use Rattle.warm_c.specs.contracts.visit_pointer.VisitPointer.empty.{ended, clauses, signature}
use Rattle.warm_c.specs.contracts.visit_pointer.VisitPointer.empty.Key.{name as #self}
use Rattle.warm_c.proofs.visit_pointer.VisitPointer.empty.Statement.{statement}
use Rattle.warm_c.proofs.visit_pointer.VisitPointer.empty.Code as code

pub empty_spec : {M : Type 1} → statement M
empty_spec 𝓤 𝓛 𝓜 𝓡 wired =
    let H = 𝓛.H in
    let 𝓣 = tables 𝓤 H 𝓜 𝓡 𝓡.env in
    let c = clauses 𝓛 𝓜.mem 𝓡.returns in
    let fn : Fn = code.function in
    let s = first signature.params in
    let hs : Stays signature.params ended.kept = (stay_dropped s ended.kept.0, tt) in
    proved_at 𝓛 ended hs c 𝓜 𝓡 (Goes-blank 𝓛 0 s ended.kept.0 (λ κs x f. tt), tt) #self fn (code.unfolded 𝓤 H 𝓜 𝓡 wired) (λ z are.
    -- what is passed, and what is made of it
    let Post : Val → SProp 𝓤 = (walk_of 𝓛 ended hs c).post z in
    let Run : List Val → SProp 𝓤 = λ ws. WpFn 𝓤 H 𝓣.C 𝓣.Λ fn ws Post in
    let From = type_at s z.0.0 in
    let To = type_at signature.result z.0.0 in
    let a = z.0.3.0 in
    let h = bits a in
    let w = word null_ptr a in
    let ws = heap_laws.lowers.val_is a z.0.4.0 are.0 in
    let made : To.Denot = record { at = null_ptr; alloc = a; visit = None } in
    let Said : Type 0 = made.visit ≡ None in
    qed 𝓛 ((raw (alive 𝓛 signature z.0.0 z.0.1) ⊛ ‵ (owns (types_at signature.params z.0.0) z.0.3 z.0.4)) ∷ ‵ ftrue ∷ []) ∵
    split ! $ move ! (1 ∷ []) $ fsplit ! $
    rewrite ! 0 (λ (us : List Val). ‵ (From.own_val a us)) ws refl $
    suffices ! (Run (h ∷ [])) (subst (λ (us : List Val). ent 𝓤 (Run (h ∷ [])) (Run us)) (sym (λ i. ws i ++ [])) (id⊢ 𝓤 (Run (h ∷ [])))) $
    enter ! 𝓣.C 𝓣.Λ fn (h ∷ []) Post $ alloc_all ! (λ l. pass_all ! refl (bits_typed a, tt) $
    sets ! (agg ! (and_then ! (lit ! tt) (and_then ! (get ! refl) (no_more !)))) refl (typed null_ptr a) $
    -- [the allocator; nothing; the tokens; nothing]
    nothing ! $ nothing ! $ move ! (2 ∷ 0 ∷ []) $ fjoin ! $ feq_i ! (List Val) (ptr_val null_ptr ∷ []) (ptr_val null_ptr ∷ []) refl $ fjoin ! $ feq_i ! (List Val) (w ∷ []) (w ∷ []) refl $ fjoin ! $
    fpack ! (Valss (shape pointer.the_type).fields) (within (shape pointer.the_type) (to pointer.the_type made) (w ∷ [])) (ptr_val null_ptr ∷ [], (h ∷ [], tt)) $ fjoin ! $
    use1 𝓛 (‵ (To.own_val made (w ∷ []))) (id⊢ 𝓤 _) $ use0 𝓛 (raw (fact 𝓤 Said)) (fact_i 𝓤 Said (emp 𝓤) refl) $ nothing ! $ nothing ! $ fjoin ! $
    returns ! (look_at ! 0 refl) $ free_all ! refl $ keep ! (4 ∷ 0 ∷ 2 ∷ 1 ∷ []) $ by ! (leaves 𝓛 ended hs c z w made (tt, tt) (tt, tt))))
