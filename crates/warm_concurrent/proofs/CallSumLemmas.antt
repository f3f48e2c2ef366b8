-- A sum over a list of calls is the sum over the calls of each caller.
use Rattle.std.proofs.Common.{◌≡◌, ◌≢◌, ◌⊎◌, inl, inr, ℕ, suc, ◌+◌, true, false, List, [], ◌∷◌, ◌++◌, refl, sym, ap, subst, arith}
use Rattle.std.specs.Prelude.{◌==◌}
use Rattle.std.specs.List.{flat_map, sum_by}
use Rattle.std.proofs.lemmas.Bool.{eq-eqb, ne_eqb}
use Rattle.std.proofs.lemmas.List.Sums.{sum_by-append, sum_by-cons}
use mathlib.Core.Option.{some}
use lib.ListN.{get_elem?}
use Rattle.warm_machine.specs.declared.operation.Operation.{Operation}
use Rattle.warm_turn.specs.CallHistories.{EachIsBy, IsAmong, NoRepeat, calls_by}
use Rattle.warm_turn.specs.declared.table.EndedPass.{EndedPass}

module _ {C R : Type 0} (w : C → R → ℕ) where
  -- what these calls come to
  abbrev pub total : List (Operation C R) → ℕ
  total es = sum_by (λ e. w e.call e.reply) es

  -- with a call of this number before the others; and with one of another number
  own_more : (n : ℕ) (e : Operation C R) (es : List (Operation C R)) → e.by ≡ n
      → total (calls_by n (e ∷ es)) ≡ w e.call e.reply + total (calls_by n es)
  own_more n e es is =
      let yes : (e.by == n) ≡ true = eq-eqb e.by n is in
      rw yes (sum_by-cons (λ x. w x.call x.reply) e (calls_by n es))

  other_same : (n : ℕ) (e : Operation C R) (es : List (Operation C R)) → e.by ≢ n
      → total (calls_by n (e ∷ es)) ≡ total (calls_by n es)
  other_same n e es other =
      let no : (e.by == n) ≡ false = ne_eqb e.by n other in
      rw no refl

  -- what the calls of all these callers come to
  abbrev of_each : List (EndedPass C R) → List (Operation C R) → ℕ
  of_each [] log = 0
  of_each (p ∷ ps) log = total (calls_by p.number log) + of_each ps log

  of_none : (ps : List (EndedPass C R)) → of_each ps [] ≡ 0
  of_none [] = refl
  of_none (p ∷ ps) = omega (arith, of_none ps)

  -- no number is of two of them
  abbrev AreApart : List (EndedPass C R) → Type 0
  AreApart [] = Unit {0}
  AreApart (p ∷ ps) = (IsAmong p.number ps → ⊥) × AreApart ps

  -- with a call of none of them; and with one of one of them
  none_more : (ps : List (EndedPass C R)) (e : Operation C R) (es : List (Operation C R))
      → (IsAmong e.by ps → ⊥) → of_each ps (e ∷ es) ≡ of_each ps es
  none_more [] e es none = refl
  none_more (p ∷ ps) e es none =
      let first = other_same p.number e es (λ is. none (inl (sym is))) in
      omega (arith, first, none_more ps e es (λ among. none (inr among)))

  one_more : (ps : List (EndedPass C R)) (e : Operation C R) (es : List (Operation C R))
      → AreApart ps → IsAmong e.by ps
      → of_each ps (e ∷ es) ≡ w e.call e.reply + of_each ps es
  one_more [] e es apart among = absurd among
  one_more (p ∷ ps) e es apart (inl is) =
      let first = own_more p.number e es (sym is) in
      let rest = none_more ps e es (λ among. apart.0 (subst (λ n. IsAmong n ps) (sym is) among)) in
      omega (arith, first, rest)
  one_more (p ∷ ps) e es apart (inr among) =
      let first = other_same p.number e es (λ is. apart.0 (subst (λ n. IsAmong n ps) is among)) in
      omega (arith, first, one_more ps e es apart.1 among)

  -- each call is of the caller of this number, or of one of these
  by_caller : (n : ℕ) (ps : List (EndedPass C R)) (es : List (Operation C R)) → AreApart ps
      → (IsAmong n ps → ⊥) → EachIsBy (λ k. (n ≡ k) ⊎ IsAmong k ps) es
      → total es ≡ total (calls_by n es) + of_each ps es
  by_caller n ps [] apart other each = omega (arith, of_none ps)
  by_caller n ps (e ∷ es) apart other (one, rest) =
      let more = sum_by-cons (λ x. w x.call x.reply) e es in
      let before = by_caller n ps es apart other rest in
      elim one [
        | inl is ↦
            let own = own_more n e es (sym is) in
            let none = none_more ps e es (λ among. other (subst (λ k. IsAmong k ps) (sym is) among)) in
            omega (arith, more, before, own, none)
        | inr among ↦
            let same = other_same n e es (λ is. other (subst (λ k. IsAmong k ps) is among)) in
            let theirs = one_more ps e es apart among in
            omega (arith, more, before, same, theirs)
      ]

  -- ---- the numbers of ended passes

  among_at : (n : ℕ) (ps : List (EndedPass C R)) → IsAmong n ps
      → (a : ℕ) × (p : EndedPass C R) × (get_elem? ps a ≡ some p) × (p.number ≡ n)
  among_at n [] among = absurd among
  among_at n (p ∷ ps) (inl is) = (0, p, refl, is)
  among_at n (p ∷ ps) (inr among) =
      let there = among_at n ps among in
      (suc there.0, there.1, there.2, there.3)

  pub apart_of : (ps : List (EndedPass C R)) → NoRepeat ps → AreApart ps
  apart_of [] once = tt
  apart_of (p ∷ ps) once = (
    λ among.
        let there = among_at p.number ps among in
        let no : 0 ≡ suc there.0 = once 0 (suc there.0) p there.1 refl there.2 (sym there.3) in
        absurd (omega (arith, no)),
    apart_of ps (λ a b p' q at also same. omega (arith, once (suc a) (suc b) p' q at also same)),
  )

  other_number : (n : ℕ) (ps : List (EndedPass C R))
      → ((a : ℕ) (p : EndedPass C R) → get_elem? ps a ≡ some p → p.number ≢ n) → IsAmong n ps → ⊥
  other_number n ps other among =
      let there = among_at n ps among in
      other there.0 there.1 there.2 there.3

  -- what their calls come to
  ended_total : (ps : List (EndedPass C R)) (log : List (Operation C R))
      → ((a : ℕ) (p : EndedPass C R) → get_elem? ps a ≡ some p → calls_by p.number log ≡ p.calls)
      → of_each ps log ≡ total (flat_map (λ p. p.calls) ps)
  ended_total [] log are = refl
  ended_total (p ∷ ps) log are =
      let more = sum_by-append (λ e. w e.call e.reply) p.calls (flat_map (λ q. q.calls) ps) in
      let first : total (calls_by p.number log) ≡ total p.calls = ap total (are 0 p refl) in
      let rest = ended_total ps log (λ a q at. are (suc a) q at) in
      omega (arith, more, first, rest)

  -- a log that has the calls of one pass, and of those that were ended into it, and no others
  pub log_total : (n : ℕ) (mine log : List (Operation C R)) (ps : List (EndedPass C R))
      → calls_by n log ≡ mine
      → ((a : ℕ) (p : EndedPass C R) → get_elem? ps a ≡ some p → calls_by p.number log ≡ p.calls)
      → ((a : ℕ) (p : EndedPass C R) → get_elem? ps a ≡ some p → p.number ≢ n)
      → NoRepeat ps → EachIsBy (λ k. (n ≡ k) ⊎ IsAmong k ps) log
      → total log ≡ total (mine ++ flat_map (λ p. p.calls) ps)
  log_total n mine log ps own are other once each =
      let split = by_caller n ps log (apart_of ps once) (other_number n ps other) each in
      let first : total (calls_by n log) ≡ total mine = ap total own in
      let rest = ended_total ps log are in
      let more = sum_by-append (λ e. w e.call e.reply) mine (flat_map (λ p. p.calls) ps) in
      omega (arith, split, first, rest, more)
