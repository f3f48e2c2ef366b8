-- Lists whose items have numbers.
use Rattle.std.proofs.Common.{◌≡◌, ◌≢◌, ℕ, zero, suc, ◌+◌, ◌<◌, List, [], ◌∷◌, ◌++◌, length, refl, subst, ap, arith}
use Rattle.std.specs.Prelude.{slice_index_or, slice_set, replicate}
use Rattle.std.specs.List.{All}
use Rattle.warm_replica.specs.Pairs.{Pairs, Triples}
use Rattle.warm_threads.specs.Numbers.{NumberedFrom}

module _ {A : Type 0} where
  pub numbered_map : (n : ℕ) (P Q : ℕ → A → Type 0) (xs : List A)
      → ((j : ℕ) (x : A) → P j x → Q j x) → NumberedFrom n P xs → NumberedFrom n Q xs
  numbered_map n P Q [] f h = tt
  numbered_map n P Q (x ∷ xs) f h = (f n x h.0, numbered_map (n + 1) P Q xs f h.1)

  -- one more
  pub numbered_more : (n m : ℕ) (P : ℕ → A → Type 0) (xs : List A) (x : A) → m ≡ n + length xs
      → NumberedFrom n P xs → P m x → NumberedFrom n P (xs ++ x ∷ [])
  numbered_more n m P [] x is h here =
      let same : m ≡ n = omega (arith, is) in
      (subst (λ k. P k x) same here, tt)
  numbered_more n m P (y ∷ ys) x is h here = (h.0, numbered_more (n + 1) m P ys x (omega (arith, is)) h.1 here)

  -- the item of a number
  pub numbered_at : (n k m : ℕ) (P : ℕ → A → Type 0) (xs : List A) (d : A) → k < length xs
      → m ≡ n + k → NumberedFrom n P xs → P m (slice_index_or xs k d)
  numbered_at n k m P [] d low is h = absurd (omega (arith, low))
  numbered_at n zero m P (x ∷ xs) d low is h =
      let same : n ≡ m = omega (arith, is) in
      subst (λ j. P j x) same h.0
  numbered_at n (suc k) m P (x ∷ xs) d low is h = numbered_at (n + 1) k m P xs d (omega (arith, low)) (omega (arith, is)) h.1

  -- what follows of the items after a number
  numbered_past : (n m : ℕ) (P Q : ℕ → A → Type 0) (xs : List A) → m < n
      → ((j : ℕ) (x : A) → j ≢ m → P j x → Q j x) → NumberedFrom n P xs → NumberedFrom n Q xs
  numbered_past n m P Q [] past f h = tt
  numbered_past n m P Q (x ∷ xs) past f h = (f n x (omega (arith, past)) h.0, numbered_past (n + 1) m P Q xs (omega (arith, past)) f h.1)

  -- one is changed
  pub numbered_set : (n k m : ℕ) (P Q : ℕ → A → Type 0) (xs : List A) (y : A) → k < length xs
      → m ≡ n + k → ((j : ℕ) (x : A) → j ≢ m → P j x → Q j x) → Q m y → NumberedFrom n P xs
      → NumberedFrom n Q (slice_set xs k y)
  numbered_set n k m P Q [] y low is f here h = absurd (omega (arith, low))
  numbered_set n zero m P Q (x ∷ xs) y low is f here h =
      let same : m ≡ n = omega (arith, is) in
      (subst (λ j. Q j y) same here, numbered_past (n + 1) m P Q xs (omega (arith, is)) f h.1)
  numbered_set n (suc k) m P Q (x ∷ xs) y low is f here h =
      (f n x (omega (arith, is)) h.0, numbered_set (n + 1) k m P Q xs y (omega (arith, low)) (omega (arith, is)) f here h.1)

  -- one value, this many times
  pub numbered_replicate : (n k : ℕ) (P : ℕ → A → Type 0) (x : A) → ((j : ℕ) → P j x)
      → NumberedFrom n P (replicate k x)
  numbered_replicate n zero P x each = tt
  numbered_replicate n (suc k) P x each = (each n, numbered_replicate (n + 1) k P x each)

module _ {A B : Type 0} where
  pub pairs_length : (P : A → B → Type 0) (xs : List A) (ys : List B) → Pairs P xs ys
      → length ys ≡ length xs
  pairs_length P [] [] h = refl
  pairs_length P (a ∷ xs) (b ∷ ys) h = ap (λ (n : ℕ). suc n) (pairs_length P xs ys h.1)
  pairs_length P xs ys h = absurd h

  -- one more of each
  pub pairs_more : (P : A → B → Type 0) (xs : List A) (ys : List B) (x : A) (y : B) → Pairs P xs ys
      → P x y → Pairs P (xs ++ x ∷ []) (ys ++ y ∷ [])
  pairs_more P [] [] x y h here = (here, tt)
  pairs_more P (a ∷ xs) (b ∷ ys) x y h here = (h.0, pairs_more P xs ys x y h.1 here)
  pairs_more P xs ys x y h here = absurd h

  -- what follows of the second of each pair by its number
  pub numbered_pairs : (n : ℕ) (P : A → B → Type 0) (Q : ℕ → A → Type 0) (R : ℕ → B → Type 0)
      (xs : List A) (ys : List B) → ((j : ℕ) (x : A) (y : B) → P x y → Q j x → R j y)
      → Pairs P xs ys → NumberedFrom n Q xs → NumberedFrom n R ys
  numbered_pairs n P Q R [] [] f pairs h = tt
  numbered_pairs n P Q R (a ∷ xs) (b ∷ ys) f pairs h = (f n a b pairs.0 h.0, numbered_pairs (n + 1) P Q R xs ys f pairs.1 h.1)
  numbered_pairs n P Q R xs ys f pairs h = absurd pairs

  -- what follows of the second of each pair
  pub all_pairs : (P : A → B → Type 0) (Q : A → Type 0) (R : B → Type 0) (xs : List A) (ys : List B)
      → ((x : A) (y : B) → P x y → Q x → R y) → Pairs P xs ys → All Q xs → All R ys
  all_pairs P Q R [] [] f pairs h k d low = absurd (omega (arith, low))
  all_pairs P Q R (a ∷ xs) (b ∷ ys) f pairs h zero d low = f a b pairs.0 (h 0 a (omega arith))
  all_pairs P Q R (a ∷ xs) (b ∷ ys) f pairs h (suc k) d low = all_pairs P Q R xs ys f pairs.1 (λ j e less. h (suc j) e (omega (arith, less))) k d (omega (arith, low))
  all_pairs P Q R xs ys f pairs h k d low = absurd pairs

module _ {A B D : Type 0} where
  -- the last list of three that agree is as long as the first
  pub triples_length : (P : A → B → D → Type 0) (xs : List A) (ys : List B) (zs : List D)
      → Triples P xs ys zs → length zs ≡ length xs
  triples_length P [] [] [] h = refl
  triples_length P (a ∷ xs) (b ∷ ys) (d ∷ zs) h = ap (λ (n : ℕ). suc n) (triples_length P xs ys zs h.1)
  triples_length P xs ys zs h = absurd h
