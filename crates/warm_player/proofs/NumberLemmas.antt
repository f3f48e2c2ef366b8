-- The number at the head of a text, read digit by digit.
use Rattle.std.proofs.Common.{◌≡◌, ℕ, ◌+◌, ◌-◌, ◌*◌, ◌<◌, ◌≤◌, List, [], ◌∷◌, Option, Some, None, refl, sym, ap, ◌∙◌, arith, true}
use Rattle.std.proofs.lemmas.Bool.{lt-leb, le-leb}
use Rattle.std.specs.List.{prefix_len}
use Rattle.std.specs.Prelude.{option_map}
use Rattle.warm_player.specs.Fields.{◌>>=◌, digit_of, digits_after, number_of, up_to, number_up_to}
use Rattle.warm_player.specs.TextHeads.{is_digit, leading_digits, after_digits, head_number}
use Rattle.warm_player.proofs.LeadingDigitLemmas.{digit_more, after_more}

step : (n x d : ℕ) (rest : List ℕ) → digit_of x ≡ Some d
    → digits_after n (x ∷ rest) ≡ digits_after (10 * n + d) rest
step n x d rest h = ap (λ (o : Option ℕ). o >>= λ e. digits_after (10 * n + e) rest) h

-- a digit at the head of a text
digit_byte : (d : ℕ) → d < 10 → is_digit (48 + d) ≡ true
digit_byte d lt = rw (le-leb 48 (48 + d) (omega arith), le-leb (48 + d) 57 (omega (arith, lt))) refl

pub digit_value : (d : ℕ) → d < 10 → digit_of (48 + d) ≡ Some d
digit_value d lt = let minus : 48 + d - 48 ≡ d = omega arith in rw (digit_byte d lt, minus) refl

pub digits_go_on : (n d : ℕ) (text rest : List ℕ) → d < 10 → text ≡ (48 + d) ∷ rest
    → digits_after n (leading_digits text) ≡ digits_after (10 * n + d) (leading_digits rest)
digits_go_on n d text rest lt e =
    ap (λ (t : List ℕ). digits_after n (leading_digits t)) e ∙ ap (digits_after n) (digit_more (48 + d) rest (digit_byte d lt)) ∙ step n (48 + d) d (leading_digits rest) (digit_value d lt)

pub after_goes_on : (d : ℕ) (text rest : List ℕ) → d < 10 → text ≡ (48 + d) ∷ rest
    → after_digits text ≡ after_digits rest
after_goes_on d text rest lt e = ap after_digits e ∙ after_more (48 + d) rest (digit_byte d lt)

-- the first digit
number_begins : (d : ℕ) (text rest : List ℕ) → d < 10 → text ≡ (48 + d) ∷ rest
    → number_of (leading_digits text) ≡ digits_after 0 (leading_digits text)
number_begins d text rest lt e = rw (e, digit_more (48 + d) rest (digit_byte d lt)) refl

pub first_digits : (d : ℕ) (text rest : List ℕ) → d < 10 → text ≡ (48 + d) ∷ rest
    → digits_after d (leading_digits rest) ≡ number_of (leading_digits text)
first_digits d text rest lt e =
    let zero : 10 * 0 + d ≡ d = omega arith in
    sym (number_begins d text rest lt e ∙ digits_go_on 0 d text rest lt e ∙ ap (λ (n : ℕ). digits_after n (leading_digits rest)) zero)

pub no_digit_ahead : (limit : ℕ) (text : List ℕ) → prefix_len is_digit text ≡ 0
    → None ≡ head_number limit text
unfolding head_number number_up_to
no_digit_ahead limit text e = rw e refl

big_step : (limit n : ℕ) (o : Option ℕ) (cs : List ℕ)
    → ((d : ℕ) → up_to limit (digits_after (10 * n + d) cs) ≡ None)
    → up_to limit (o >>= λ d. digits_after (10 * n + d) cs) ≡ None
big_step limit n None cs h = refl
big_step limit n (Some d) cs h = h d

big : (limit n : ℕ) (cs : List ℕ) → limit < n → up_to limit (digits_after n cs) ≡ None
big limit n [] lt = rw (lt-leb n limit lt) refl
big limit n (c ∷ cs) lt = big_step limit n (digit_of c) cs (λ d. big limit (10 * n + d) cs (omega arith))

-- a number above the limit stays above it
pub is_big : (limit n : ℕ) (text rest : List ℕ) → limit < n
    → digits_after n (leading_digits rest) ≡ number_of (leading_digits text)
    → None ≡ head_number limit text
unfolding head_number number_up_to
is_big limit n text rest lt so_far =
    ap (option_map (λ (n : ℕ). (n, after_digits text))) (sym (big limit n (leading_digits rest) lt) ∙ ap (up_to limit) so_far)

-- no digit is left
pub is_whole : (limit n : ℕ) (text rest : List ℕ) → prefix_len is_digit rest ≡ 0 → n ≤ limit
    → digits_after n (leading_digits rest) ≡ number_of (leading_digits text)
    → after_digits rest ≡ after_digits text
    → Some (n, rest) ≡ head_number limit text
unfolding head_number number_up_to
is_whole limit n text rest none fits so_far after =
    let whole : Some n ≡ number_of (leading_digits text) = (let last : digits_after n (leading_digits rest) ≡ Some n = rw none refl in sym last ∙ so_far) in
    let behind : rest ≡ after_digits text = (let last : after_digits rest ≡ rest = rw none refl in sym last ∙ after) in
    let fitting : up_to limit (Some n) ≡ Some n = rw (le-leb n limit fits) refl in
    ap (λ (t : List ℕ). Some (n, t)) behind ∙ ap (option_map (λ (n : ℕ). (n, after_digits text))) (sym fitting ∙ ap (up_to limit) whole)
