-- A number at the head of a text, and the end of its word.
use Rattle.std.proofs.Common.{◌≡◌, ◌≢◌, inl, inr, ℕ, true, List, [], ◌∷◌, Option, Some, None, refl, sym, ap, ◌∙◌, subst}
use Rattle.std.proofs.lemmas.Bool.{cases_Bool, cases_eq, eq-eqb, ne_eqb}
use Rattle.std.specs.Prelude.{◌==◌, filter, option_map, if◌then◌else◌}
use Rattle.warm_player.specs.Text.{split, words, has_bytes}
use Rattle.warm_player.specs.Fields.{◌>>=◌, number_up_to}
use Rattle.warm_player.specs.TextHeads.{is_digit, leading_digits, after_digits, head_number}
use Rattle.warm_player.specs.TextHeads.{words_behind}
use Rattle.warm_player.proofs.LeadingDigitLemmas.{digit_more, digit_stop, after_more, after_stop, all_digits, end_or_other, other_number}

-- ---- the first word of a text that begins with no space, and the words behind it

abbrev pub first_word : List ℕ → List ℕ
first_word [] = []
first_word (c ∷ cs) = if c == 32 then [] else c ∷ first_word cs

abbrev pub pieces_behind : List ℕ → List (List ℕ)
pieces_behind [] = []
pieces_behind (c ∷ cs) = if c == 32 then split 32 cs else pieces_behind cs

abbrev pub words_later : List ℕ → List (List ℕ)
words_later text = filter has_bytes (pieces_behind text)

pub word_then : (text : List ℕ) → split 32 text ≡ first_word text ∷ pieces_behind text
word_then [] = refl
word_then (c ∷ cs) = elim (cases_eq c 32) [
  | inl space ↦ rw (eq-eqb c 32 space) refl
  | inr other ↦ rw (ne_eqb c 32 other, word_then cs) refl
]

-- ---- the word has the leading digits of the text, and what follows them there

digit_no_space : (c : ℕ) → is_digit c ≡ true → c ≢ 32
digit_no_space c digit space =
    let never : is_digit 32 ≡ true = subst (λ (n : ℕ). is_digit n ≡ true) space digit in
    absurd (cc)

pub word_digits : (text : List ℕ) → leading_digits (first_word text) ≡ leading_digits text
word_digits [] = refl
word_digits (c ∷ cs) = elim (cases_Bool (is_digit c)) [
  | inl digit ↦
      rw (ne_eqb c 32 (digit_no_space c digit)) (digit_more c (first_word cs) digit ∙ ap (λ (t : List ℕ). c ∷ t) (word_digits cs) ∙ sym (digit_more c cs digit))
  | inr other ↦ elim (cases_eq c 32) [
    | inl space ↦ rw (eq-eqb c 32 space) (sym (digit_stop c cs other))
    | inr more ↦ rw (ne_eqb c 32 more) (digit_stop c (first_word cs) other ∙ sym (digit_stop c cs other))
  ]
]

word_ends : (c : ℕ) (cs : List ℕ) → c ≡ 32 → first_word (c ∷ cs) ≡ []
word_ends c cs space = rw (eq-eqb c 32 space) refl

word_goes_on : (c : ℕ) (cs : List ℕ) → c ≢ 32 → first_word (c ∷ cs) ≡ c ∷ first_word cs
word_goes_on c cs other = rw (ne_eqb c 32 other) refl

pub word_after : (text : List ℕ) → after_digits (first_word text) ≡ first_word (after_digits text)
word_after [] = refl
word_after (c ∷ cs) = elim (cases_Bool (is_digit c)) [
  | inl digit ↦
      ap after_digits (word_goes_on c cs (digit_no_space c digit)) ∙ after_more c (first_word cs) digit ∙ word_after cs ∙ ap first_word (sym (after_more c cs digit))
  | inr other ↦
      let text_after : first_word (after_digits (c ∷ cs)) ≡ first_word (c ∷ cs) = ap first_word (after_stop c cs other) in
      elim (cases_eq c 32) [
        | inl space ↦ ap after_digits (word_ends c cs space) ∙ sym (text_after ∙ word_ends c cs space)
        | inr more ↦ ap after_digits (word_goes_on c cs more) ∙ after_stop c (first_word cs) other ∙ sym (text_after ∙ word_goes_on c cs more)
      ]
]

pieces_after : (text : List ℕ) → pieces_behind (after_digits text) ≡ pieces_behind text
pieces_after [] = refl
pieces_after (c ∷ cs) = elim (cases_Bool (is_digit c)) [
  | inl digit ↦ rw (ne_eqb c 32 (digit_no_space c digit)) (ap pieces_behind (after_more c cs digit) ∙ pieces_after cs)
  | inr other ↦ ap pieces_behind (after_stop c cs other)
]

-- the words behind the word are those behind its digits
pub later_is : (text rest : List ℕ) → after_digits text ≡ rest → words_later text ≡ words_later rest
later_is text rest e = ap (filter has_bytes) (sym (pieces_after text) ∙ ap pieces_behind e)

word_is_digits : (text : List ℕ) → first_word (after_digits text) ≡ []
    → first_word text ≡ leading_digits text
word_is_digits text e = sym (all_digits (first_word text) (word_after text ∙ e)) ∙ word_digits text

-- ---- what is read of a number and of what follows it

-- what follows the number is looked at, and then both are used
pub looks_on : {A B : Type 0} (look : List ℕ → Option B) (make : ℕ → B → Option A)
    (number : Option ℕ) (rest : List ℕ) (found : Option B) → look rest ≡ found
    → (number >>= λ n. found >>= λ b. make n b)
    ≡ (option_map (λ n. (n, rest)) number >>= λ (x : ℕ × List ℕ). look x.1 >>= λ b. make x.0 b)
looks_on look make None rest found e = refl
looks_on look make (Some n) rest found e = sym (ap (λ (o : Option _). o >>= λ b. make n b) e)

pub nothing_then : {A B : Type 0} (o : Option A) (none : A → Option B) → ((a : A) → none a ≡ None)
    → None ≡ (o >>= λ a. none a)
nothing_then None none h = refl
nothing_then (Some a) none h = sym (h a)

-- the first word spells the number of its digits if the word ends behind them
pub number_end : {A : Type 0} (limit : ℕ) (text : List ℕ) (make : ℕ → List (List ℕ) → Option A)
    → (number_up_to limit (first_word text) >>= λ n. make n (words_later text))
    ≡ (head_number limit text >>= λ (x : ℕ × List ℕ). words_behind x.1 >>= λ later. make x.0 later)
unfolding head_number words
number_end limit text make =
    let digits = number_up_to limit (leading_digits text) in
    elim (end_or_other text) [
      | inl none ↦
          rw (word_is_digits text (ap first_word none), later_is text [] none) (looks_on words_behind make digits (after_digits text) (Some []) (ap words_behind none))
      | inr o ↦ elim (cases_eq o.first 32) [
        | inl space ↦
            let ends : first_word (after_digits text) ≡ [] = ap first_word o.parts ∙ word_ends o.first o.others space in
            let later : words_later text ≡ words o.others = later_is text (o.first ∷ o.others) o.parts ∙ (rw (eq-eqb o.first 32 space) refl) in
            let behind : words_behind (after_digits text) ≡ Some (words o.others) = ap words_behind o.parts ∙ (rw (eq-eqb o.first 32 space) refl) in
            rw (word_is_digits text ends, later) (looks_on words_behind make digits (after_digits text) (Some (words o.others)) behind)
        | inr other ↦
            let after : after_digits (first_word text) ≡ o.first ∷ first_word o.others = word_after text ∙ ap first_word o.parts ∙ word_goes_on o.first o.others other in
            let none : number_up_to limit (first_word text) ≡ None = other_number limit (first_word text) (o.first ∷ first_word o.others) after (record { first = o.first; others = first_word o.others; parts = refl; no_digit = o.no_digit }) in
            let behind : words_behind (after_digits text) ≡ None = ap words_behind o.parts ∙ (rw (ne_eqb o.first 32 other) refl) in
            rw none (nothing_then digits (λ n. None) (λ n. refl) ∙ looks_on words_behind make digits (after_digits text) None behind)
      ]
    ]
