-- A field read at the head of a text, in one pass over its bytes.
use Rattle.std.proofs.Common.{◌≡◌, ◌≢◌, ◌+◌, ◌*◌, inl, inr, ℕ, ◌<◌, length, List, [], ◌∷◌, Option, Some, None, refl, sym, ap, ◌∙◌, arith}
use Rattle.std.proofs.lemmas.Bool.{cases_eq, eq-eqb, ne_eqb, le-leb}
use Rattle.std.specs.Prelude.{filter}
use Rattle.warm_stamps.specs.declared.PageId.{PageId}
use Rattle.warm_pool.specs.declared.slot.Slot.{Slot}
use Rattle.warm_player.specs.Text.{split, words, has_bytes}
use Rattle.warm_player.specs.Fields.{◌>>=◌, number_up_to, page_of_word, page_of_parts, slot_of_word, slot_of_parts, number_field, page_field, after_field, slot_field}
use Rattle.warm_player.specs.TextHeads.{after_digits, head_number, behind, words_behind, head_page}
use Rattle.warm_player.specs.TextHeads.{head_slot}
use Rattle.warm_player.proofs.NumberWordLemmas.{first_word, word_then, words_later, number_end}
use Rattle.warm_player.proofs.NumberLemmas.{digit_value}
use Rattle.warm_player.proofs.NumberPairLemmas.{two_of, pair_end}

-- the words of a text that begins with no space
word_first : (c : ℕ) (cs : List ℕ) → behind 32 (c ∷ cs) ≡ None
    → words (c ∷ cs) ≡ first_word (c ∷ cs) ∷ words_later (c ∷ cs)
unfolding words
word_first c cs none = elim (cases_eq c 32) [
  | inl space ↦
      let some : behind 32 (c ∷ cs) ≡ Some cs = rw (eq-eqb c 32 space) refl in
      let never : None ≡ Some cs = sym none ∙ some in
      absurd (cc)
  | inr other ↦ ap (filter has_bytes) (word_then (c ∷ cs)) ∙ (rw (ne_eqb c 32 other) refl)
]

-- ---- numbers

pub number_read : (limit : ℕ) (text : List ℕ) → behind 32 text ≡ None
    → number_field limit (words text)
    ≡ (head_number limit text >>= λ (n : ℕ × List ℕ). words_behind n.1
    >>= λ later. Some (n.0, later))
unfolding number_field head_number number_up_to words
number_read limit [] none = refl
number_read limit (c ∷ cs) none = ap (number_field limit) (word_first c cs none) ∙ number_end limit (c ∷ cs) (λ n later. Some (n, later))

-- one digit before a space
pub one_digit_read : (text rest : List ℕ) (d : ℕ) → text ≡ (48 + d) ∷ 32 ∷ rest → d < 10
    → Some (d, words rest) ≡ number_field 65535 (words text)
unfolding number_field number_up_to words
one_digit_read text rest d parts lt =
    let other : 48 + d ≢ 32 = λ e. omega (arith, e) in
    let zero : 10 * 0 + d ≡ d = omega arith in
    rw (parts, ne_eqb (48 + d) 32 other, digit_value d lt, zero, le-leb d 65535 (omega (arith, lt))) refl

-- ---- pages and slots

-- what is made of two numbers is used
made_then : {A B : Type 0} (first second : Option ℕ) (join : ℕ → ℕ → A) (make : A → Option B)
    → ((first >>= λ d. second >>= λ n. Some (join d n)) >>= make)
    ≡ (first >>= λ d. second >>= λ n. make (join d n))
made_then None second join make = refl
made_then (Some d) None join make = refl
made_then (Some d) (Some n) join make = refl

abbrev page : ℕ → ℕ → PageId
page d n = record { dev = d; no = n }

page_then : {A : Type 0} (parts : List (List ℕ)) (make : PageId → Option A)
    → (page_of_parts parts >>= make) ≡ two_of 65535 (λ d n. make (page d n)) parts
page_then [] make = refl
page_then (device ∷ []) make = refl
page_then (device ∷ number ∷ []) make = made_then (number_up_to 65535 device) (number_up_to 18446744073709551615 number) page make
page_then (device ∷ number ∷ more ∷ rest) make = refl

pub page_read : (text : List ℕ) → behind 32 text ≡ None → page_field (words text) ≡ head_page text
unfolding page_field page_of_word head_number number_up_to words
page_read [] none = refl
page_read (c ∷ cs) none =
    ap page_field (word_first c cs none)
    ∙ page_then (split 58 (first_word (c ∷ cs))) (λ p. Some (p, words_later (c ∷ cs)))
    ∙ pair_end 58 65535 (c ∷ cs) (λ d n later. Some (page d n, later)) (behind 58 (after_digits (c ∷ cs))) refl (λ e. absurd (omega arith)) refl

abbrev slot : ℕ → ℕ → Slot
slot s g = record { index = s; generation = g }

slot_then : {A : Type 0} (parts : List (List ℕ)) (make : Slot → Option A)
    → (slot_of_parts parts >>= make) ≡ two_of 4294967295 (λ s g. make (slot s g)) parts
slot_then [] make = refl
slot_then (frame ∷ []) make = refl
slot_then (frame ∷ generation ∷ []) make = made_then (number_up_to 4294967295 frame) (number_up_to 18446744073709551615 generation) slot make
slot_then (frame ∷ generation ∷ more ∷ rest) make = refl

pub slot_read : (text : List ℕ) → behind 32 text ≡ None → slot_field (words text) ≡ head_slot text
unfolding slot_field slot_of_word head_number number_up_to words
slot_read [] none = refl
slot_read (c ∷ cs) none =
    ap slot_field (word_first c cs none)
    ∙ slot_then (split 46 (first_word (c ∷ cs))) (λ s. Some (s, words_later (c ∷ cs)))
    ∙ pair_end 46 4294967295 (c ∷ cs) (λ s g later. Some (slot s g, later)) (behind 46 (after_digits (c ∷ cs))) refl (λ e. absurd (omega arith)) refl

-- ---- a page, or nothing if the line ends

pub after_nothing : (text : List ℕ) → length text ≡ 0 → after_field (words text) ≡ Some (None, [])
unfolding after_field words
after_nothing [] none = refl
after_nothing (c ∷ cs) none = absurd (omega arith)

abbrev as_some : PageId × List (List ℕ) → Option (Option PageId × List (List ℕ))
as_some x = Some (Some x.0, x.1)

some_page : (page : Option PageId) (later : List (List ℕ))
    → (page >>= λ p. as_some (p, later))
    ≡ ((page >>= λ p. Some (let x : PageId × List (List ℕ) = (p, later) in x)) >>= as_some)
some_page None later = refl
some_page (Some p) later = refl

pub after_read : (text : List ℕ) → behind 32 text ≡ None → 0 < length text
    → after_field (words text) ≡ (head_page text >>= as_some)
unfolding after_field page_field
after_read [] none some = absurd (omega arith)
after_read (c ∷ cs) none some =
    ap after_field (word_first c cs none)
    ∙ some_page (page_of_word (first_word (c ∷ cs))) (words_later (c ∷ cs))
    ∙ ap (λ (o : Option (PageId × List (List ℕ))). o >>= as_some) (sym (ap page_field (word_first c cs none)) ∙ page_read (c ∷ cs) none)
