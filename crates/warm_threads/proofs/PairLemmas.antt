-- Lists that agree place by place.
use Rattle.std.proofs.Common.{◌≡◌, ℕ, zero, suc, ◌<◌, List, [], ◌∷◌, length, map, Result, Ok, Err, sym, subst, arith}
use Rattle.std.specs.Prelude.{slice_index_or, IfOk}
use Rattle.std.specs.Global.{Vec}
use Rattle.std.specs.List.{All}
use Rattle.warm_replica.specs.Pairs.{Pairs, Triples}

module _ {A B : Type 0} where
  -- what a list of results says of the place of each
  pub pairs_by_place : (P : A → B → Type 0) (xs : List A) (ys : List B) → length ys ≡ length xs
      → ((k : ℕ) (d : B) → k < length xs
      → (x : A) × ((e : A) → slice_index_or xs k e ≡ x) × P x (slice_index_or ys k d))
      → Pairs P xs ys
  pairs_by_place P [] [] same f = tt
  pairs_by_place P (a ∷ xs) (b ∷ ys) same f =
      let here = f 0 b (omega arith) in
      (subst (λ z. P z b) (sym (here.1 a)) here.2, pairs_by_place P xs ys (omega (arith, same)) (λ k d low. f (suc k) d (omega (arith, low))))
  pairs_by_place P [] (b ∷ ys) same f = absurd (omega (arith, same))
  pairs_by_place P (a ∷ xs) [] same f = absurd (omega (arith, same))

-- pairs of pairs
pub pairs_then : {A B D : Type 0} (P : A → B → Type 0) (Q : B → D → Type 0) (S : A → D → Type 0)
    → ((a : A) (b : B) (d : D) → P a b → Q b d → S a d)
    → (xs : List A) (ys : List B) (zs : List D) → Pairs P xs ys → Pairs Q ys zs → Pairs S xs zs
pairs_then P Q S f [] [] [] h g = tt
pairs_then P Q S f (a ∷ xs) (b ∷ ys) (d ∷ zs) h g = (f a b d h.0 g.0, pairs_then P Q S f xs ys zs h.1 g.1)
pairs_then P Q S f [] [] (d ∷ zs) h g = absurd g
pairs_then P Q S f [] (b ∷ ys) zs h g = absurd h
pairs_then P Q S f (a ∷ xs) [] zs h g = absurd h
pairs_then P Q S f (a ∷ xs) (b ∷ ys) [] h g = absurd g

-- what pairs say of three lists that are read off them
pub triples_of : {A B M X Y Z : Type 0} (T : X → Y → Z → Type 0) (p : M → X) (f : A → M) (g : A → Y)
    (h : B → Z)
    → (xs : List A) (ys : List B) → Pairs (λ x y. T (p (f x)) (g x) (h y)) xs ys
    → Triples T (map p (map f xs)) (map g xs) (map h ys)
triples_of T p f g h [] [] all = tt
triples_of T p f g h (a ∷ xs) (b ∷ ys) all = (all.0, triples_of T p f g h xs ys all.1)
triples_of T p f g h [] (b ∷ ys) all = absurd all
triples_of T p f g h (a ∷ xs) [] all = absurd all

-- what follows of a value that there is
pub if_ok_then : {A E : Type 0} (P Q : A → Type 0) (r : Result A E) → ((x : A) → P x → Q x)
    → IfOk r P → IfOk r Q
if_ok_then P Q (Ok x) f h = f x h
if_ok_then P Q (Err e) f h = h

-- the values of results that are all Ok
values_of_ok : {A T E : Type 0} (P : A → T → Type 0) (xs : List A) (results : List (Result T E))
    (ys : List T)
    → Pairs (λ x r. IfOk r (P x)) xs results → Pairs (λ r t. r ≡ Ok t) results ys → Pairs P xs ys
values_of_ok P xs results ys = pairs_then (λ x r. IfOk r (P x)) (λ r t. r ≡ Ok t) P (λ x r t h is. subst (λ q. IfOk q (P x)) is h) xs results ys

-- the same if all are Ok
pub values_if_ok : {A T E : Type 0} (P : A → T → Type 0) (xs : List A) (results : List (Result T E))
    (r : Result (Vec T) E)
    → Pairs (λ x r. IfOk r (P x)) xs results → IfOk r (λ v. Pairs (λ r t. r ≡ Ok t) results v.items)
    → IfOk r (λ v. Pairs P xs v.items)
values_if_ok P xs results r h = if_ok_then (λ v. Pairs (λ r t. r ≡ Ok t) results v.items) (λ v. Pairs P xs v.items) r (λ v. values_of_ok P xs results v.items h)

-- of a list read off another
pub all_mapped : {A B : Type 0} (f : A → B) (Q : B → Type 0) (xs : List A) (ys : List B)
    → map f xs ≡ ys → All Q ys → All (λ x. Q (f x)) xs
all_mapped f Q xs ys is h = at xs (subst (λ zs. All Q zs) (sym is) h)
  where
    at : (xs : List _) → All Q (map f xs) → All (λ x. Q (f x)) xs
    at [] h k d low = absurd (omega (arith, low))
    at (x ∷ xs) h zero d low = h 0 (f x) (omega arith)
    at (x ∷ xs) h (suc k) d low = at xs (λ j e less. h (suc j) e (omega (arith, less))) k d (omega (arith, low))
