-- Going over the keys of a table, and over the elements of an array, up to the first fault.
use Rattle.std.proofs.Common.{◌≡◌, ◌⊎◌, inl, inr, ℕ, List, [], ◌∷◌, ◌++◌, map, drop, get_or, length, ◌+◌, ◌<◌, ◌≤◌, append_assoc, append-nil, add-one, suc, drop-cons, Result, Ok, Err, String, Global, string_bytes, refl, sym, ap, subst, ◌∙◌}
use Rattle.std.proofs.lemmas.List.{drop_all}
use Rattle.std.specs.Result.{IsErrAnd}
use Rattle.toml.specs.Data.{Data}
use Rattle.toml.specs.View.{view, members_view}
use Rattle.toml.specs.declared.value.Value.{Value}
use Rattle.warm_setup.specs.declared.setup.SetupFault.{SetupFault}
use Rattle.warm_setup.specs.declared.setup.SetupFault.TheVariants.{Memory}
use Rattle.warm_setup.specs.SetupFaults.{GivesMeaning}
use Rattle.warm_setup.specs.Setups.{◌>>=◌, key_by_key, each}

abbrev Entry : Type 0
Entry = String Global × Value

-- a fault that is returned as it is
pub passed : {A B : Type 0} (seen : A → B) (meant : Result B SetupFault) (r : Result A SetupFault)
    (fault : SetupFault) → IsErrAnd r (λ f. f ≡ fault) → (fault ≡ Memory) ⊎ (meant ≡ Err fault)
    → GivesMeaning seen meant r
passed seen meant (Ok value) fault is gives = absurd is
passed seen meant (Err other) fault is gives = subst (λ f. (f ≡ Memory) ⊎ (meant ≡ Err f)) (sym is) gives

module _ {A : Type 0} (take : A → List ℕ → Data → Result A SetupFault) (so_far : A)
    (entries rest : List Entry) (key : String Global) (value : Value) (text : List ℕ)
    (meant : Result A SetupFault) (is : entries ≡ (key, value) ∷ rest)
    (same : text ≡ string_bytes key)
    (ends : key_by_key take so_far (members_view entries) ≡ meant) where
  one_key : key_by_key take so_far (members_view entries)
      ≡ (take so_far (string_bytes key) (view value)
      >>= λ next. key_by_key take next (members_view rest))
  unfolding key_by_key
  one_key = ap (λ (es : List Entry). key_by_key take so_far (members_view es)) is

  -- a key that is accepted: the meaning is that of the rest from there
  pub goes_on : (next : A) → take so_far text (view value) ≡ Ok next
      → key_by_key take next (members_view rest) ≡ meant
  goes_on next taken =
      let found : Ok next ≡ take so_far (string_bytes key) (view value) = sym taken ∙ ap (λ (x : List ℕ). take so_far x (view value)) same in
      ap (λ (r : Result A SetupFault). r >>= λ n. key_by_key take n (members_view rest)) found ∙ sym one_key ∙ ends

  -- a key that is refused: the meaning is that fault
  pub stops : (fault : SetupFault) → (fault ≡ Memory) ⊎ (take so_far text (view value) ≡ Err fault)
      → (fault ≡ Memory) ⊎ (meant ≡ Err fault)
  stops fault (inl memory) = inl memory
  stops fault (inr refused) =
      let found : Err fault ≡ take so_far (string_bytes key) (view value) = sym refused ∙ ap (λ (x : List ℕ). take so_far x (view value)) same in
      inr (sym (ap (λ (r : Result A SetupFault). r >>= λ n. key_by_key take n (members_view rest)) found ∙ sym one_key ∙ ends))

pub is_done : {A : Type 0} (take : A → List ℕ → Data → Result A SetupFault) (so_far : A)
    (entries : List Entry) (meant : Result A SetupFault) → entries ≡ []
    → key_by_key take so_far (members_view entries) ≡ meant → meant ≡ Ok so_far
unfolding key_by_key
is_done take so_far entries meant e ends = sym ends ∙ ap (λ (es : List Entry). key_by_key take so_far (members_view es)) e

-- the data of some values
abbrev pub data_of : List Value → List Data
data_of = map view

-- what is meant if some elements are read, and these are left
abbrev pub each_after : {A : Type 0} → (Data → Result A SetupFault) → List A → List Data
    → Result (List A) SetupFault
each_after take done left = each take left >>= λ more. Ok (done ++ more)

-- one more element, in front of those that are left
one_more : {A : Type 0} (done others : List A) (first : A)
    → done ++ first ∷ others ≡ (done ++ first ∷ []) ++ others
one_more done others first = sym (append_assoc done (first ∷ []) others)

after_one : {A : Type 0} (done : List A) (first : A) (others : Result (List A) SetupFault)
    → ((others >>= λ more. Ok (first ∷ more)) >>= λ more. Ok (done ++ more))
    ≡ (others >>= λ more. Ok ((done ++ first ∷ []) ++ more))
after_one done first (Ok others) = ap (λ (xs : List _). Ok xs) (one_more done others first)
after_one done first (Err fault) = refl

each_cons : {A : Type 0} (take : Data → Result A SetupFault) (found : Data) (rest : List Data)
    → each take (found ∷ rest)
    ≡ (take found >>= λ first. each take rest >>= λ others. Ok (first ∷ others))
unfolding each
each_cons take found rest = refl

module _ {A : Type 0} (take : Data → Result A SetupFault) (done : List A) (values : List Value)
    (at : ℕ) (value : Value) (meant : Result (List A) SetupFault)
    (here : value ≡ get_or values at value) (inside : at < length values)
    (ends : each_after take done (data_of (drop at values)) ≡ meant) where
  left : drop at values ≡ value ∷ drop (at + 1) values
  left = rw add-one (drop-cons values at value inside ∙ ap (λ (x : Value). x ∷ drop (suc at) values) (sym here))

  -- what the first of those left makes of what is meant
  meant_by : Result A SetupFault → Result (List A) SetupFault
  meant_by read = (read >>= λ first. each take (data_of (drop (at + 1) values)) >>= λ others. Ok (first ∷ others)) >>= λ more. Ok (done ++ more)

  by_first : meant_by (take (view value)) ≡ meant
  unfolding meant_by
  by_first =
      let split : each take (data_of (drop at values)) ≡ (take (view value) >>= λ first. each take (data_of (drop (at + 1) values)) >>= λ others. Ok (first ∷ others)) = ap (λ (vs : List Value). each take (data_of vs)) left ∙ each_cons take (view value) (data_of (drop (at + 1) values)) in
      sym (ap (λ (r : Result (List A) SetupFault). r >>= λ more. Ok (done ++ more)) split) ∙ ends

  -- an element that is accepted: the meaning is that of the rest after it
  pub each_goes_on : (first : A) (now : List A) → take (view value) ≡ Ok first
      → now ≡ done ++ first ∷ [] → each_after take now (data_of (drop (at + 1) values)) ≡ meant
  unfolding meant_by
  each_goes_on first now taken pushed =
      let to_now : (each take (data_of (drop (at + 1) values)) >>= λ more. Ok ((done ++ first ∷ []) ++ more)) ≡ each_after take now (data_of (drop (at + 1) values))
      = ap (λ (xs : List A). each_after take xs (data_of (drop (at + 1) values))) (sym pushed) in
      sym to_now ∙ sym (after_one done first (each take (data_of (drop (at + 1) values)))) ∙ ap meant_by (sym taken) ∙ by_first

  -- an element that is refused: the meaning is that fault
  pub each_stops : (fault : SetupFault) → (fault ≡ Memory) ⊎ (take (view value) ≡ Err fault)
      → (fault ≡ Memory) ⊎ (meant ≡ Err fault)
  unfolding meant_by
  each_stops fault (inl memory) = inl memory
  each_stops fault (inr refused) = inr (sym by_first ∙ ap meant_by refused)

as_it_is : {A : Type 0} (read : Result (List A) SetupFault)
    → (read >>= λ more. Ok ([] ++ more)) ≡ read
as_it_is (Ok more) = refl
as_it_is (Err fault) = refl

pub each_starts : {A : Type 0} (take : Data → Result A SetupFault) (done : List A)
    (values : List Value) → done ≡ []
    → each_after take done (data_of (drop 0 values)) ≡ each take (data_of values)
each_starts take done values none = ap (λ (xs : List _). each_after take xs (data_of values)) none ∙ as_it_is (each take (data_of values))

pub each_is_done : {A : Type 0} (take : Data → Result A SetupFault) (done : List A)
    (values : List Value) (at : ℕ) (meant : Result (List A) SetupFault) → length values ≤ at
    → each_after take done (data_of (drop at values)) ≡ meant → meant ≡ Ok done
unfolding each
each_is_done take done values at meant past ends =
    let none : each_after take done (data_of (drop at values)) ≡ Ok (done ++ []) = ap (λ (vs : List Value). each_after take done (data_of vs)) (drop_all at values past) in
    sym ends ∙ none ∙ ap (λ (xs : List _). Ok xs) (append-nil done)
