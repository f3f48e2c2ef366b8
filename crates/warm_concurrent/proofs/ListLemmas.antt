-- Items that are added at the end of a list, or taken from its start.
use Rattle.std.proofs.Common.{◌≡◌, inl, inr, ℕ, zero, suc, ◌+◌, ◌<◌, List, [], ◌∷◌, ◌++◌, length, get_or, take, drop, refl, sym, ap, subst, ◌∙◌, arith, get_or-drop}
use Rattle.std.proofs.lemmas.Bool.{cases_eq}
use Rattle.warm_shards.proofs.Places.{read_at}

module _ {A : Type 0} where
  pub get_last : (xs : List A) (a d : A) → get_or (xs ++ a ∷ []) (length xs) d ≡ a
  get_last [] a d = refl
  get_last (x ∷ xs) a d = get_last xs a d

  pub get_front : (xs : List A) (a d : A) (i : ℕ) → i < length xs
      → get_or (xs ++ a ∷ []) i d ≡ get_or xs i d
  get_front [] a d i lt = absurd (omega arith)
  get_front (x ∷ xs) a d zero lt = refl
  get_front (x ∷ xs) a d (suc i) lt = get_front xs a d i (omega arith)

  -- what is true of the first items and of one more is true of each
  pub push_each : (P : ℕ → A → Type 0) (xs : List A) (a d : A) (k : ℕ) → length xs ≡ k
      → ((i : ℕ) → i < k → P i (get_or xs i d)) → P k a → (i : ℕ) → i < k + 1
      → P i (get_or (xs ++ a ∷ []) i d)
  push_each P xs a d k long old new i lt = elim (cases_eq i k) [
    | inl same ↦
        let last : get_or (xs ++ a ∷ []) k d ≡ a = ap (λ j. get_or (xs ++ a ∷ []) j d) (sym long) ∙ get_last xs a d in
        subst (λ j. P j (get_or (xs ++ a ∷ []) j d)) (sym same) (subst (P k) (sym last) new)
    | inr other ↦
        let less : i < k = omega (arith, lt, other) in
        subst (P i) (sym (get_front xs a d i (omega (arith, less, long)))) (old i less)
  ]

  drop_next : (xs : List A) (j : ℕ) → drop 1 (drop j xs) ≡ drop (suc j) xs
  drop_next [] zero = refl
  drop_next [] (suc j) = refl
  drop_next (x ∷ xs) zero = refl
  drop_next (x ∷ xs) (suc j) = drop_next xs j

  -- the items left after the first one was removed
  pub after_remove : (xs rest new : List A) (j : ℕ) → rest ≡ drop j xs
      → new ≡ take 0 rest ++ drop (0 + 1) rest → new ≡ drop (j + 1) xs
  after_remove xs rest new j is gone =
      let next : suc j ≡ j + 1 = omega arith in
      gone ∙ ap (λ l. drop 1 l) is ∙ drop_next xs j ∙ ap (λ n. drop n xs) next

  -- the first of the items left
  pub first_left : (xs rest : List A) (j : ℕ) (a d : A) → rest ≡ drop j xs → j < length xs
      → a ≡ get_or rest 0 a → a ≡ get_or xs j d
  first_left xs rest j a d is lt first =
      let same : j + 0 ≡ j = omega arith in
      read_at xs j a a d lt (first ∙ ap (λ l. get_or l 0 a) is ∙ get_or-drop j xs 0 a ∙ ap (λ n. get_or xs n a) same)
