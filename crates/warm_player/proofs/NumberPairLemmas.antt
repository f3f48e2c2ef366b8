-- Two numbers at the head of a text, parted by a byte that is no digit and no space.
use Rattle.std.proofs.Common.{◌≡◌, ◌≢◌, ◌⊎◌, inl, inr, ℕ, ◌-◌, true, List, [], ◌∷◌, Option, Some, None, refl, sym, ap, ◌∙◌, subst}
use Rattle.std.proofs.lemmas.Bool.{cases_Bool, cases_eq, eq-eqb, ne_eqb}
use Rattle.std.specs.Prelude.{option_map}
use Rattle.warm_player.specs.Text.{split}
use Rattle.warm_player.specs.Fields.{◌>>=◌, digit_of, digits_after, number_up_to}
use Rattle.warm_player.specs.TextHeads.{is_digit, leading_digits, after_digits, head_number, behind}
use Rattle.warm_player.specs.TextHeads.{words_behind}
use Rattle.warm_player.proofs.LeadingDigitLemmas.{digit_more, digit_stop, after_more, after_stop, no_digit, stop, no_digits, none_up_to}
use Rattle.warm_player.proofs.SplitLemmas.{first_of_split}
use Rattle.warm_player.proofs.NumberWordLemmas.{first_word, words_later, word_digits, word_after, later_is, looks_on, nothing_then, number_end}

-- what is made of two parts that spell numbers
abbrev pub two_of : {A : Type 0} → ℕ → (ℕ → ℕ → Option A) → List (List ℕ) → Option A
two_of limit make (first ∷ second ∷ []) =
    number_up_to limit first >>= λ d.
    number_up_to 18446744073709551615 second >>= λ n. make d n
two_of limit make parts = None

-- ---- the separator behind the digits of a word

-- a digit is no separator
no_separator : (s c : ℕ) → digit_of s ≡ None → is_digit c ≡ true → c ≢ s
no_separator s c none digit same =
    let some : digit_of s ≡ Some (s - 48) = subst (λ (n : ℕ). digit_of n ≡ Some (n - 48)) same (rw digit refl) in
    let never : None ≡ Some (s - 48) = sym none ∙ some in
    absurd (cc)

separator_here : (s c : ℕ) (cs : List ℕ) → c ≡ s → behind s (c ∷ cs) ≡ Some cs
separator_here s c cs same = rw (eq-eqb c s same) refl

other_here : (s c : ℕ) (cs : List ℕ) → c ≢ s → behind s (c ∷ cs) ≡ None
other_here s c cs other = rw (ne_eqb c s other) refl

-- the digits are the first part
split_pair : (s : ℕ) (word rest : List ℕ) → digit_of s ≡ None
    → behind s (after_digits word) ≡ Some rest → split s word ≡ leading_digits word ∷ split s rest
split_pair s [] rest none e = let never : None ≡ Some rest = e in absurd (cc)
split_pair s (c ∷ cs) rest none e = elim (cases_Bool (is_digit c)) [
  | inl digit ↦
      let more = split_pair s cs rest none (ap (behind s) (sym (after_more c cs digit)) ∙ e) in
      rw (ne_eqb c s (no_separator s c none digit), more, digit_more c cs digit) refl
  | inr other ↦
      let here : behind s (c ∷ cs) ≡ Some rest = ap (behind s) (sym (after_stop c cs other)) ∙ e in
      elim (cases_eq c s) [
        | inl same ↦
            let found : Some cs ≡ Some rest = sym (separator_here s c cs same) ∙ here in
            let rest_is : cs ≡ rest = cc in
            rw (eq-eqb c s same, digit_stop c cs other, rest_is) refl
        | inr more ↦
            let never : None ≡ Some rest = sym (other_here s c cs more) ∙ here in
            absurd (cc)
      ]
]

-- a first part that spells no number
record IsBroken (s : ℕ) (word : List ℕ) : Type 0 where
  first : List ℕ
  others : List (List ℕ)
  pieces : split s word ≡ first ∷ others
  no_number : (n : ℕ) → digits_after n first ≡ None

-- no separator there: the word has one part, or is broken
whole_or_broken : (s : ℕ) (word : List ℕ) → digit_of s ≡ None → behind s (after_digits word) ≡ None
    → (split s word ≡ word ∷ []) ⊎ IsBroken s word
whole_or_broken s [] none e = inl refl
whole_or_broken s (c ∷ cs) none e = elim (cases_Bool (is_digit c)) [
  | inl digit ↦
      let other : c ≢ s = no_separator s c none digit in
      elim (whole_or_broken s cs none (ap (behind s) (sym (after_more c cs digit)) ∙ e)) [
        | inl whole ↦ inl (rw (ne_eqb c s other, whole) refl)
        | inr b ↦ inr (record { first = c ∷ b.first; others = b.others; pieces = rw (ne_eqb c s other, b.pieces) refl; no_number = λ n. no_digits n (digit_of c) b.first b.no_number })
      ]
  | inr other ↦
      let here : behind s (c ∷ cs) ≡ None = ap (behind s) (sym (after_stop c cs other)) ∙ e in
      elim (cases_eq c s) [
        | inl same ↦
            let never : None ≡ Some cs = sym here ∙ separator_here s c cs same in
            absurd (cc)
        | inr more ↦
            let next = first_of_split s cs in
            inr (record { first = c ∷ next.0; others = next.1; pieces = rw (ne_eqb c s more, next.2) refl; no_number = λ n. stop n c next.0 (no_digit c other) })
      ]
]

none_of : {A : Type 0} (limit : ℕ) (make : ℕ → ℕ → Option A) (first : List ℕ)
    (others : List (List ℕ)) → number_up_to limit first ≡ None
    → two_of limit make (first ∷ others) ≡ None
none_of limit make first [] e = refl
none_of limit make first (second ∷ []) e = rw e refl
none_of limit make first (second ∷ third ∷ others) e = refl

no_pair : {A : Type 0} (s limit : ℕ) (make : ℕ → ℕ → Option A) (word : List ℕ) → digit_of s ≡ None
    → behind s (after_digits word) ≡ None → two_of limit make (split s word) ≡ None
no_pair s limit make word none e = elim (whole_or_broken s word none e) [
  | inl whole ↦ rw whole refl
  | inr b ↦ rw b.pieces (none_of limit make b.first b.others (none_up_to limit b.first b.no_number))
]

-- ---- a second separator is part of the second number, which it spoils

-- a text that has the separator: it has two pieces at least, and spells no number
record IsParted (s : ℕ) (text : List ℕ) : Type 0 where
  first : List ℕ
  second : List ℕ
  others : List (List ℕ)
  pieces : split s text ≡ first ∷ second ∷ others
  no_number : (n : ℕ) → digits_after n text ≡ None

whole_or_parted : (s : ℕ) (text : List ℕ) → digit_of s ≡ None
    → (split s text ≡ text ∷ []) ⊎ IsParted s text
whole_or_parted s [] none = inl refl
whole_or_parted s (c ∷ cs) none = elim (cases_eq c s) [
  | inl here ↦
      let next = first_of_split s cs in
      inr (record { first = []; second = next.0; others = next.1; pieces = rw (eq-eqb c s here, next.2) refl; no_number = λ n. stop n c cs (ap digit_of here ∙ none) })
  | inr other ↦ elim (whole_or_parted s cs none) [
    | inl whole ↦ inl (rw (ne_eqb c s other, whole) refl)
    | inr p ↦ inr (record { first = c ∷ p.first; second = p.second; others = p.others; pieces = rw (ne_eqb c s other, p.pieces) refl; no_number = λ n. no_digits n (digit_of c) cs p.no_number })
  ]
]

-- nothing is made of two numbers of which the second is none
none_of_two : {A : Type 0} (first second : Option ℕ) (make : ℕ → ℕ → Option A) → second ≡ None
    → None ≡ (first >>= λ d. second >>= λ n. make d n)
none_of_two None second make none = refl
none_of_two (Some d) second make none = sym (ap (λ (o : Option ℕ). o >>= λ n. make d n) none)

two_whole : {A : Type 0} (s limit : ℕ) (make : ℕ → ℕ → Option A) (first second : List ℕ)
    → digit_of s ≡ None → two_of limit make (first ∷ split s second)
    ≡ two_of limit make (first ∷ second ∷ [])
two_whole s limit make first second none = elim (whole_or_parted s second none) [
  | inl whole ↦ rw whole refl
  | inr p ↦ rw p.pieces (none_of_two (number_up_to limit first) (number_up_to 18446744073709551615 second) make (none_up_to _ second p.no_number))
]

-- ---- two numbers, and the end of their word

behind_word : (s : ℕ) (rest : List ℕ) → s ≢ 32
    → behind s (first_word rest) ≡ option_map first_word (behind s rest)
behind_word s [] other = refl
behind_word s (c ∷ cs) other = elim (cases_eq c 32) [
  | inl space ↦
      let more : c ≢ s = λ e. other (sym e ∙ space) in
      rw (eq-eqb c 32 space, ne_eqb c s more) refl
  | inr no_space ↦ elim (cases_eq c s) [
    | inl same ↦ rw (ne_eqb c 32 no_space, eq-eqb c s same) refl
    | inr more ↦ rw (ne_eqb c 32 no_space, ne_eqb c s more) refl
  ]
]

-- the words behind the word are those behind its separator
later_behind : (s : ℕ) (rest after : List ℕ) → s ≢ 32 → behind s rest ≡ Some after
    → words_later rest ≡ words_later after
later_behind s [] after other e = let never : None ≡ Some after = e in absurd (cc)
later_behind s (c ∷ cs) after other e = elim (cases_eq c s) [
  | inl same ↦
      let no_space : c ≢ 32 = λ space. other (sym same ∙ space) in
      let found : Some cs ≡ Some after = sym (separator_here s c cs same) ∙ e in
      let after_is : cs ≡ after = cc in
      rw (ne_eqb c 32 no_space, after_is) refl
  | inr more ↦
      let never : None ≡ Some after = sym (other_here s c cs more) ∙ e in
      absurd (cc)
]

-- what is read of a number goes on alike
same_rest : {A B : Type 0} (o : Option A) (f g : A → Option B) → ((x : A) → f x ≡ g x)
    → (o >>= λ x. f x) ≡ (o >>= λ x. g x)
same_rest None f g e = refl
same_rest (Some x) f g e = e x

-- the first word is two numbers if it ends behind the second; `o` is what is behind the first
-- separator
pub pair_end : {A : Type 0} (s limit : ℕ) (text : List ℕ) (make : ℕ → ℕ → List (List ℕ) → Option A)
    (o : Option (List ℕ)) → digit_of s ≡ None → s ≢ 32 → behind s (after_digits text) ≡ o
    → two_of limit (λ d n. make d n (words_later text)) (split s (first_word text))
    ≡ (head_number limit text >>= λ (d : ℕ × List ℕ). behind s d.1
    >>= λ rest. head_number 18446744073709551615 rest >>= λ (n : ℕ × List ℕ). words_behind n.1
    >>= λ later. make d.0 n.0 later)
unfolding head_number
pair_end s limit text make None none other e =
    let digits = number_up_to limit (leading_digits text) in
    let alone : behind s (after_digits (first_word text)) ≡ None = ap (behind s) (word_after text) ∙ behind_word s (after_digits text) other ∙ ap (option_map first_word) e in
    no_pair s limit (λ d n. make d n (words_later text)) (first_word text) none alone
    ∙ nothing_then digits (λ n. None) (λ n. refl)
    ∙ looks_on (behind s) _ digits (after_digits text) None e
pair_end s limit text make (Some rest) none other e =
    let digits = number_up_to limit (leading_digits text) in
    let parted : behind s (after_digits (first_word text)) ≡ Some (first_word rest) = ap (behind s) (word_after text) ∙ behind_word s (after_digits text) other ∙ ap (option_map first_word) e in
    let pieces : split s (first_word text) ≡ leading_digits text ∷ split s (first_word rest) = split_pair s (first_word text) (first_word rest) none parted ∙ ap (λ (t : List ℕ). t ∷ split s (first_word rest)) (word_digits text) in
    let later : words_later text ≡ words_later rest = later_is text (after_digits text) refl ∙ later_behind s (after_digits text) rest other e in
    ap (two_of limit (λ d n. make d n (words_later text))) pieces
    ∙ two_whole s limit (λ d n. make d n (words_later text)) (leading_digits text) (first_word rest) none
    ∙ (rw later (same_rest digits _ _ (λ d. number_end 18446744073709551615 rest (λ n ws. make d n ws))))
    ∙ looks_on (behind s) _ digits (after_digits text) (Some rest) e
