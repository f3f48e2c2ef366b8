-- The first line that threads cannot play.
use Rattle.std.proofs.Common.{◌≡◌, ◌⊎◌, inl, inr, ℕ, ◌+◌, List, [], ◌∷◌, ◌++◌, Option, Some, None, Result, Ok, Err, refl, subst, ap, sym, ◌∙◌, append_assoc}
use Rattle.std.specs.Prelude.{IfErr, IsErrAnd}
use Rattle.warm_world.specs.declared.play_fault.PlayFault.{PlayFault}
use Rattle.warm_world.specs.declared.play_fault.PlayFault.TheVariants.{BadLine, Memory}
use Rattle.warm_world.specs.Sizes.{Sizes}
use Rattle.warm_threads.specs.declared.ask.Ask.{Ask}
use Rattle.warm_threads.specs.declared.ask.NotPlayable.{NotPlayable}
use Rattle.warm_threads.specs.Asks.{asked, asks, bad_from, bad_or, not_playable, with_ask, IsBadLine, IsPlayable}

good_or : (said : Result (Option Ask) NotPlayable) (number : ℕ) (later : Option ℕ) → IsPlayable said
    → bad_or said number later ≡ later
good_or (Err e) number later h = absurd h
good_or (Ok a) number later h = refl

-- a line that can be played is passed over
pub good_here : (s : Sizes) (number : ℕ) (line : List ℕ) (rest : List (List ℕ))
    → IsPlayable (asked s line) → bad_from s number (line ∷ rest) ≡ bad_from s (number + 1) rest
good_here s number line rest h = good_or (asked s line) number (bad_from s (number + 1) rest) h

-- one that cannot is named
pub bad_here : (s : Sizes) (number : ℕ) (line : List ℕ) (rest : List (List ℕ))
    → asked s line ≡ Err not_playable → bad_from s number (line ∷ rest) ≡ Some number
bad_here s number line rest h = ap (λ (said : Result (Option Ask) NotPlayable). bad_or said number (bad_from s (number + 1) rest)) h

pub is_bad_line : (found : Option ℕ) (number : ℕ) (why : PlayFault) → found ≡ Some number
    → why ≡ BadLine number → IsBadLine found why
is_bad_line found number why is named = rw is named

with_here : (said : Result (Option Ask) NotPlayable) (rest : List Ask)
    → with_ask said rest ≡ with_ask said [] ++ rest
with_here (Err e) rest = refl
with_here (Ok None) rest = refl
with_here (Ok (Some a)) rest = refl

-- a line and what follows it, after what was asked before
pub asks_then : (s : Sizes) (before all : List Ask) (line : List ℕ) (rest : List (List ℕ))
    → all ≡ before ++ asks s (line ∷ rest)
    → all ≡ (before ++ with_ask (asked s line) []) ++ asks s rest
asks_then s before all line rest is = is ∙ ap (λ (more : List Ask). before ++ more) (with_here (asked s line) (asks s rest)) ∙ sym (append_assoc before (with_ask (asked s line) []) (asks s rest))

-- the line of this number cannot be played, or an allocation failed
pub line_fault : (s : Sizes) (found : Option ℕ) (number : ℕ) (line : List ℕ) (rest : List (List ℕ))
    (why : PlayFault) → found ≡ bad_from s number (line ∷ rest)
    → (why ≡ Memory) ⊎ ((why ≡ BadLine number) × (asked s line ≡ Err not_playable))
    → (why ≡ Memory) ⊎ IsBadLine found why
line_fault s found number line rest why is (inl memory) = inl memory
line_fault s found number line rest why is (inr bad) = inr (is_bad_line found number why (is ∙ bad_here s number line rest bad.1) bad.0)

-- a fault that is passed on as it is
pub passed_on : {T E : Type 0} (result : Result T E) (fault : E) (P : E → Type 0)
    → IsErrAnd result (λ e. e ≡ fault) → P fault → IfErr result P
passed_on (Ok value) fault P same holds = tt
passed_on (Err e) fault P same holds = subst P (sym same) holds
