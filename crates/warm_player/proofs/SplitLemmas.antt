-- Where a text is cut at its separators.
use Rattle.std.proofs.Common.{◌≡◌, ◌≢◌, ℕ, zero, suc, ◌+◌, ◌-◌, ◌<◌, Bool, true, false, cond, eqb, List, [], ◌∷◌, length, get_or, take, drop, refl, sym, ◌∙◌, add-one, arith}
use Rattle.std.proofs.lemmas.Bool.{eq-eqb, ne_eqb}
use Rattle.std.proofs.lemmas.List.{take_all, length-drop}
use Rattle.std.proofs.lemmas.Bool.{eqb-true, eqb-false}
use Rattle.warm_player.specs.Text.{split, onto_first, words}

-- the first separator of a text
pub cut_found : (separator : ℕ) (text : List ℕ) (i : ℕ) → i < length text
    → get_or text i 0 ≡ separator → ((k : ℕ) → k < i → get_or text k 0 ≢ separator)
    → split separator text ≡ take i text ∷ split separator (drop (suc i) text)
cut_found s [] i lt here before = absurd (omega arith)
cut_found s (c ∷ cs) zero lt here before = rw (eq-eqb c s here) refl
cut_found s (c ∷ cs) (suc i) lt here before =
    let other : c ≢ s = before 0 (omega arith) in
    let rest : split s cs ≡ take i cs ∷ split s (drop (suc i) cs) = cut_found s cs i (omega arith) here (λ k h. before (suc k) (omega arith)) in
    rw (ne_eqb c s other, rest) refl

-- a text without a separator
pub cut_none : (separator : ℕ) (text : List ℕ)
    → ((k : ℕ) → k < length text → get_or text k 0 ≢ separator) → split separator text ≡ text ∷ []
cut_none s [] none = refl
cut_none s (c ∷ cs) none =
    let other : c ≢ s = none 0 (omega arith) in
    let rest : split s cs ≡ cs ∷ [] = cut_none s cs (λ k h. none (suc k) (omega arith)) in
    rw (ne_eqb c s other, rest) refl

-- an empty piece is no word
pub words_skip : (line piece after : List ℕ) → split 32 line ≡ piece ∷ split 32 after
    → length piece ≡ 0 → words line ≡ words after
unfolding words
words_skip line [] after e none = rw e refl
words_skip line (c ∷ cs) after e none = absurd (omega arith)

pub words_first : (line piece after : List ℕ) → split 32 line ≡ piece ∷ split 32 after
    → 0 < length piece → words line ≡ piece ∷ words after
unfolding words
words_first line [] after e some = absurd (omega arith)
words_first line (c ∷ cs) after e some = rw e refl

pub words_last : (line : List ℕ) → split 32 line ≡ line ∷ [] → 0 < length line
    → words line ≡ line ∷ words []
unfolding words
words_last [] e some = absurd (omega arith)
words_last (c ∷ cs) e some = rw e refl

pub words_none : (line : List ℕ) → length line ≡ 0 → words line ≡ []
unfolding words
words_none [] e = refl
words_none (c ∷ cs) e = absurd (omega arith)

-- the code's range from behind a separator to the end
pub rest_is : (text : List ℕ) (i : ℕ)
    → take (length text - (i + 1)) (drop (i + 1) text) ≡ drop (suc i) text
rest_is text i = rw add-one (take_all (length text - suc i) (drop (suc i) text) (omega (arith, length-drop (suc i) text)))

pub no_bytes : (b : Bool) (xs : List ℕ) → b ≡ eqb (length xs) 0 → b ≡ true → length xs ≡ 0
no_bytes b xs e is = eqb-true _ _ (sym e ∙ is)

pub some_bytes : (b : Bool) (xs : List ℕ) → b ≡ eqb (length xs) 0 → b ≡ false → 0 < length xs
some_bytes b xs e is = let other : length xs ≢ 0 = eqb-false _ _ (sym e ∙ is) in omega arith

-- there is always a piece
onto_some : (c : ℕ) (ps : List (List ℕ))
    → (piece : List ℕ) × (pieces : List (List ℕ)) × (onto_first c ps ≡ piece ∷ pieces)
onto_some c [] = (c ∷ [], [], refl)
onto_some c (p ∷ ps) = (c ∷ p, ps, refl)

cond_some_piece : (b : Bool) (xs ys : List (List ℕ))
    → ((piece : List ℕ) × (pieces : List (List ℕ)) × (xs ≡ piece ∷ pieces))
    → ((piece : List ℕ) × (pieces : List (List ℕ)) × (ys ≡ piece ∷ pieces))
    → (piece : List ℕ) × (pieces : List (List ℕ)) × (cond b xs ys ≡ piece ∷ pieces)
cond_some_piece true xs ys h k = h
cond_some_piece false xs ys h k = k

pub first_of_split : (s : ℕ) (text : List ℕ)
    → (piece : List ℕ) × (pieces : List (List ℕ)) × (split s text ≡ piece ∷ pieces)
first_of_split s [] = ([], [], refl)
first_of_split s (c ∷ cs) = cond_some_piece (eqb c s) ([] ∷ split s cs) (onto_first c (split s cs)) ([], split s cs, refl) (onto_some c (split s cs))
