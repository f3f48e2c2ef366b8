-- What has been drawn and written, line by line.
use Rattle.std.proofs.Common.{◌≡◌, ℕ, ◌+◌, ◌≤◌, Bool, true, false, cond, List, [], ◌∷◌, ◌++◌, refl, sym, ap, arith, ◌∙◌, add-one, count_by, flat_map}
use Rattle.std.specs.Prelude.{nat_le}
use Rattle.std.proofs.lemmas.List.{append-nil}
use Rattle.std.proofs.lemmas.Grind.{flat_map-append}
use Rattle.std.proofs.lemmas.List.Concat.{flat_map-cons}
use Rattle.std.proofs.lemmas.List.Sums.{sum_by-append}
use Rattle.std.specs.Int.{from_bool}
use Rattle.rand_pcg.specs.Lcg.{Lcg}
use Rattle.warm_random.specs.Drawing.{Draw, ◌>>=◌, always, below, draw_up_to, fields, line, is_send, random_lines, line_text}
use Rattle.warm_random.specs.declared.DrawnLine.{DrawnLine}
use Rattle.warm_random.specs.declared.DrawnLine.TheVariants.{Ref}

-- what is drawn first, and then the rest
drawn_then : {A B : Type 0} (first : Draw A) (next : A → Draw B) (a : A) (g g1 : Lcg)
    (rest : B × Lcg) → (a, g1) ≡ first g → rest ≡ next a g1 → rest ≡ (first >>= next) g
drawn_then first next a g g1 rest e more = more ∙ ap (λ x. next x.0 x.1) e

-- a word that is 0 to 3 modulo 8 begins a reference
pub ref_drawn : (replicas workers time sends kind i w p : ℕ) (g g1 g2 g3 g4 : Lcg)
    → (kind, g1) ≡ below 8 g → nat_le kind 3 ≡ true
    → (i, g2) ≡ draw_up_to replicas g1 → (w, g3) ≡ draw_up_to workers g2 → (p, g4) ≡ below 256 g3
    → (Ref i w p time, g4) ≡ line replicas workers time sends g
ref_drawn replicas workers time sends kind i w p g g1 g2 g3 g4 e is_ref e1 e2 e3 =
    let page : ℕ → ℕ → ℕ → Draw DrawnLine = λ i w p. always (Ref i w p time) in
    let worker : ℕ → ℕ → Draw DrawnLine = λ i w. below 256 >>= page i w in
    let replica : ℕ → Draw DrawnLine = λ i. draw_up_to workers >>= worker i in
    let drawn_page : (Ref i w p time, g4) ≡ worker i w g3 = drawn_then (below 256) (page i w) p g3 g4 (Ref i w p time, g4) e3 refl in
    let drawn_worker : (Ref i w p time, g4) ≡ replica i g2 = drawn_then (draw_up_to workers) (worker i) w g2 g3 (Ref i w p time, g4) e2 drawn_page in
    let drawn_replica : (Ref i w p time, g4) ≡ (draw_up_to replicas >>= replica) g1 = drawn_then (draw_up_to replicas) replica i g1 g2 (Ref i w p time, g4) e1 drawn_worker in
    drawn_then (below 8) (fields replicas workers time sends) kind g g1 (Ref i w p time, g4) e (rw is_ref drawn_replica)

-- ---- one line more

pub draws_more : (replicas workers n sends : ℕ) (next : DrawnLine) (g g1 g2 : Lcg)
    → g1 ≡ (random_lines replicas workers n g).1
    → sends ≡ count_by is_send (random_lines replicas workers n g).0
    → (next, g2) ≡ line replicas workers (n + 1) sends g1
    → ((random_lines replicas workers n g).0 ++ next ∷ [], g2)
    ≡ random_lines replicas workers (n + 1) g
unfolding random_lines
draws_more replicas workers n sends next g g1 g2 is counts e =
    rw (add-one, ← is, ← counts) (ap (λ (x : DrawnLine × Lcg). ((random_lines replicas workers n g).0 ++ x.0 ∷ [], x.1)) e)

pub one_if : (b : Bool) (n : ℕ) → n ≡ from_bool b → n ≡ cond b 1 0
one_if true n e = e
one_if false n e = e

pub one_at_most : (next : DrawnLine) (n : ℕ) → n ≡ cond (is_send next) 1 0 → n ≤ 1
one_at_most next n e = elim (is_send next) as (λ (b : Bool). n ≡ cond b 1 0 → n ≤ 1) [
  | true ↦ λ is. omega (arith, is)
  | false ↦ λ is. omega (arith, is)
] e

count_one_more : (before : List DrawnLine) (next : DrawnLine)
    → count_by is_send (before ++ next ∷ []) ≡ count_by is_send before + cond (is_send next) 1 0
count_one_more before next = sum_by-append (λ x. cond (is_send x) 1 0) before (next ∷ []) ∙ omega arith

pub sends_more : (before : List DrawnLine) (next : DrawnLine) (sends more : ℕ)
    → sends ≡ count_by is_send before → more ≡ cond (is_send next) 1 0
    → sends + more ≡ count_by is_send (before ++ next ∷ [])
sends_more before next sends more counts is =
    rw (count_one_more before next, counts, is) refl

pub text_more : (before : List DrawnLine) (next : DrawnLine)
    → flat_map line_text before ++ line_text next ≡ flat_map line_text (before ++ next ∷ [])
text_more before next = sym (flat_map-append line_text before (next ∷ []) ∙ ap (λ (t : List ℕ). flat_map line_text before ++ t) (flat_map-cons line_text next [] ∙ append-nil (line_text next)))
