-- Reading bytes, two hexadecimal digits for each.
use Rattle.std.proofs.Common.{◌≡◌, ℕ, ◌<◌, List, [], ◌∷◌, ◌++◌, length, Bool, true, false, eqb, Option, Some, None, refl, sym, ap, ◌∙◌, append_assoc, arith}
use Rattle.std.proofs.lemmas.Bool.{ne_eqb}
use Rattle.std.proofs.lemmas.List.{append-nil}
use Rattle.std.specs.Option.{is_some, option_map}
use Rattle.warm_player.specs.Fields.{hex_pairs, bytes_of_hex}

-- a word that is not empty spells what its pairs spell
pub whole : (word : List ℕ) → 0 < length word → bytes_of_hex word ≡ hex_pairs word
unfolding bytes_of_hex
whole [] some = absurd (omega arith)
whole (c ∷ cs) some = refl

pub nothing : (word : List ℕ) → length word ≡ 0 → bytes_of_hex word ≡ None
unfolding bytes_of_hex
nothing [] e = refl
nothing (c ∷ cs) e = absurd (omega arith)

-- one more byte is read, or none
pub is_some-map : {A B : Type 0} (f : A → B) (o : Option A) → is_some (option_map f o) ≡ is_some o
is_some-map f None = refl
is_some-map f (Some x) = refl

-- what was read and what is left are all
abbrev pub with_read : List ℕ → Option (List ℕ) → Option (List ℕ)
with_read done o = option_map (λ (more : List ℕ). done ++ more) o

pub one_more : (done : List ℕ) (byte : ℕ) (o : Option (List ℕ))
    → with_read done (option_map (λ (more : List ℕ). byte ∷ more) o)
    ≡ with_read (done ++ byte ∷ []) o
one_more done byte None = refl
one_more done byte (Some more) = ap (λ (xs : List ℕ). Some xs) (sym (append_assoc done (byte ∷ []) more))

-- nothing more can be read: either the word has ended, or what is left spells no bytes
pub spells_whole : (b : Bool) (word rest : List ℕ) → 0 < length word → b ≡ eqb (length rest) 0
    → (0 < length rest → hex_pairs rest ≡ None)
    → is_some (hex_pairs rest) ≡ is_some (hex_pairs word)
    → b ≡ is_some (bytes_of_hex word)
spells_whole b word [] some e none same = e ∙ same ∙ ap is_some (sym (whole word some))
spells_whole b word (c ∷ cs) some e none same =
    let left : 0 < length (c ∷ cs) = omega arith in
    e ∙ ne_eqb (length (c ∷ cs)) 0 (λ z. absurd (omega (arith, z))) ∙ ap is_some (sym (none left)) ∙ same ∙ ap is_some (sym (whole word some))

pub read_all : (done word rest : List ℕ) → is_some (bytes_of_hex word) ≡ true → 0 < length word
    → (0 < length rest → hex_pairs rest ≡ None) → with_read done (hex_pairs rest) ≡ hex_pairs word
    → Some done ≡ bytes_of_hex word
read_all done word [] spells some none read = ap (λ (xs : List ℕ). Some xs) (sym (append-nil done)) ∙ read ∙ sym (whole word some)
read_all done word (c ∷ cs) spells some none read =
    let bad : None ≡ hex_pairs word = sym (ap (with_read done) (none (omega arith))) ∙ read in
    let never : false ≡ true = ap is_some bad ∙ ap is_some (sym (whole word some)) ∙ spells in
    absurd (cc)

-- a word that spells bytes is not empty
pub some_digits : (word : List ℕ) → is_some (bytes_of_hex word) ≡ true → 0 < length word
unfolding bytes_of_hex
some_digits [] spells = absurd (cc)
some_digits (c ∷ cs) spells = omega arith
