-- The digits at the head of a text.
use Rattle.std.proofs.Common.{◌≡◌, ◌⊎◌, inl, inr, ℕ, ◌+◌, ◌*◌, suc, true, false, List, [], ◌∷◌, Option, Some, None, refl, sym, ap, ◌∙◌, arith}
use Rattle.std.proofs.lemmas.Bool.{cases_Bool}
use Rattle.std.proofs.lemmas.List.Sums.{take_while-cons}
use Rattle.std.specs.List.{prefix_len}
use Rattle.warm_player.specs.Fields.{◌>>=◌, digit_of, digits_after, number_up_to, up_to}
use Rattle.warm_player.specs.TextHeads.{is_digit, leading_digits, after_digits}

pub digit_more : (c : ℕ) (cs : List ℕ) → is_digit c ≡ true
    → leading_digits (c ∷ cs) ≡ c ∷ leading_digits cs
digit_more c cs e = take_while-cons is_digit c cs ∙ (rw e refl)

pub digit_stop : (c : ℕ) (cs : List ℕ) → is_digit c ≡ false → leading_digits (c ∷ cs) ≡ []
digit_stop c cs e = take_while-cons is_digit c cs ∙ (rw e refl)

pub after_more : (c : ℕ) (cs : List ℕ) → is_digit c ≡ true → after_digits (c ∷ cs) ≡ after_digits cs
after_more c cs e =
    let one : 1 + prefix_len is_digit cs ≡ suc (prefix_len is_digit cs) = omega arith in
    rw (e, one) refl

pub after_stop : (c : ℕ) (cs : List ℕ) → is_digit c ≡ false → after_digits (c ∷ cs) ≡ c ∷ cs
after_stop c cs e = rw e refl

-- a text of digits is its leading digits
pub all_digits : (text : List ℕ) → after_digits text ≡ [] → leading_digits text ≡ text
all_digits [] none = refl
all_digits (c ∷ cs) none = elim (cases_Bool (is_digit c)) [
  | inl digit ↦ digit_more c cs digit ∙ ap (λ (t : List ℕ). c ∷ t) (all_digits cs (sym (after_more c cs digit) ∙ none))
  | inr other ↦
      let never : c ∷ cs ≡ [] = sym (after_stop c cs other) ∙ none in
      absurd (cc)
]

-- ---- texts that spell no number

-- what is no digit spells none
pub no_digit : (c : ℕ) → is_digit c ≡ false → digit_of c ≡ None
no_digit c e = rw e refl

pub stop : (n x : ℕ) (rest : List ℕ) → digit_of x ≡ None → digits_after n (x ∷ rest) ≡ None
stop n x rest h = ap (λ (o : Option ℕ). o >>= λ e. digits_after (10 * n + e) rest) h

pub no_digits : (n : ℕ) (o : Option ℕ) (rest : List ℕ) → ((m : ℕ) → digits_after m rest ≡ None)
    → (o >>= λ d. digits_after (10 * n + d) rest) ≡ None
no_digits n None rest none = refl
no_digits n (Some d) rest none = none (10 * n + d)

pub none_up_to : (limit : ℕ) (text : List ℕ) → ((n : ℕ) → digits_after n text ≡ None)
    → number_up_to limit text ≡ None
unfolding number_up_to
none_up_to limit [] none = refl
none_up_to limit (c ∷ cs) none = ap (up_to limit) (none 0)

-- what follows the leading digits begins with another byte
pub record IsOther (rest : List ℕ) : Type 0 where
  pub first : ℕ
  pub others : List ℕ
  pub parts : rest ≡ first ∷ others
  pub no_digit : is_digit first ≡ false

pub end_or_other : (text : List ℕ) → (after_digits text ≡ []) ⊎ IsOther (after_digits text)
end_or_other [] = inl refl
end_or_other (c ∷ cs) = elim (cases_Bool (is_digit c)) [
  | inl digit ↦ rw (after_more c cs digit) (end_or_other cs)
  | inr other ↦ inr (record { first = c; others = cs; parts = after_stop c cs other; no_digit = other })
]

other_digits : (n : ℕ) (text rest : List ℕ) → after_digits text ≡ rest → IsOther rest
    → digits_after n text ≡ None
other_digits n [] rest after other = let never : [] ≡ other.first ∷ other.others = after ∙ other.parts in absurd (cc)
other_digits n (c ∷ cs) rest after other = elim (cases_Bool (is_digit c)) [
  | inl digit ↦ no_digits n (digit_of c) cs (λ m. other_digits m cs rest (sym (after_more c cs digit) ∙ after) other)
  | inr here ↦ stop n c cs (no_digit c here)
]

pub other_number : (limit : ℕ) (text rest : List ℕ) → after_digits text ≡ rest → IsOther rest
    → number_up_to limit text ≡ None
other_number limit text rest after other = none_up_to limit text (λ n. other_digits n text rest after other)
