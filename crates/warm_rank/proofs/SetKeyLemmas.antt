-- The keys of slots, read and written apart from whether they are set.
use Rattle.std.proofs.Common.{◌≡◌, ℕ, zero, suc, ◌<◌, Bool, true, false, cond, List, [], ◌∷◌, length, get_or, set, replicate, is_some, sym, ap, refl, ◌∙◌, Option, Some, None, arith}
use Rattle.std.specs.Ordering.{is_gt}
use Rattle.std.specs.declared.cmp.Ordering.{Ordering}
use Rattle.warm_rank.specs.Slots.{key_at, keys_set, set_first_cmp}

some_if : {K : Type 0} → (one : Bool) (key : K) → one ≡ is_some (cond one (Some key) None)
some_if true key = refl
some_if false key = refl

module _ {K : Type 0} where
  pub set_read : (all : List Bool) (keys : List K) (slot : ℕ) (one : Bool)
      → length keys ≡ length all → slot < length all → one ≡ get_or all slot one
      → one ≡ is_some (key_at (keys_set all keys) slot)
  set_read [] keys slot one same lt is = absurd (omega arith)
  set_read (x ∷ all) [] slot one same lt is = absurd (omega arith)
  set_read (x ∷ all) (key ∷ keys) zero one same lt is = is ∙ some_if x key
  set_read (x ∷ all) (key ∷ keys) (suc slot) one same lt is = set_read all keys slot one (omega arith) (omega arith) is

  pub length-keys_set : (all : List Bool) (keys : List K) → length keys ≡ length all
      → length (keys_set all keys) ≡ length all
  length-keys_set [] keys same = refl
  length-keys_set (one ∷ all) [] same = absurd (omega arith)
  length-keys_set (one ∷ all) (key ∷ keys) same = ap suc (length-keys_set all keys (omega arith))

  pub key_unset : (all : List Bool) (keys : List K) (slot : ℕ) → length keys ≡ length all
      → slot < length all → get_or all slot false ≡ false → key_at (keys_set all keys) slot ≡ None
  key_unset [] keys slot same lt is = absurd (omega arith)
  key_unset (one ∷ all) [] slot same lt is = absurd (omega arith)
  key_unset (one ∷ all) (key ∷ keys) zero same lt is = ap (λ t. cond t (Some key) None) is
  key_unset (one ∷ all) (key ∷ keys) (suc slot) same lt is = key_unset all keys slot (omega arith) (omega arith) is

  pub key_is : (all : List Bool) (keys : List K) (slot : ℕ) (key : K) → length keys ≡ length all
      → slot < length all → get_or all slot false ≡ true → key ≡ get_or keys slot key
      → key_at (keys_set all keys) slot ≡ Some key
  key_is [] keys slot key same lt is read = absurd (omega arith)
  key_is (one ∷ all) [] slot key same lt is read = absurd (omega arith)
  key_is (one ∷ all) (first ∷ keys) zero key same lt is read = ap (λ t. cond t (Some first) None) is ∙ ap Some (sym read)
  key_is (one ∷ all) (first ∷ keys) (suc slot) key same lt is read = key_is all keys slot key (omega arith) (omega arith) is read

  -- a slot that is set has some key
  pub some_key : (all : List Bool) (keys : List K) (slot : ℕ) → length keys ≡ length all
      → slot < length all → get_or all slot false ≡ true
      → (key : K) × (key_at (keys_set all keys) slot ≡ Some key)
  some_key [] keys slot same lt is = absurd (omega arith)
  some_key (one ∷ all) [] slot same lt is = absurd (omega arith)
  some_key (one ∷ all) (key ∷ keys) zero same lt is = (key, ap (λ t. cond t (Some key) None) is)
  some_key (one ∷ all) (key ∷ keys) (suc slot) same lt is = some_key all keys slot (omega arith) (omega arith) is

  pub set_there : (all : List Bool) (keys : List K) (slot : ℕ) (key : K)
      → keys_set (set all slot true) (set keys slot key) ≡ set (keys_set all keys) slot (Some key)
  set_there [] keys slot key = refl
  set_there (one ∷ all) [] zero key = refl
  set_there (one ∷ all) [] (suc slot) key = refl
  set_there (one ∷ all) (old ∷ keys) zero key = refl
  set_there (one ∷ all) (old ∷ keys) (suc slot) key = ap (λ rest. cond one (Some old) None ∷ rest) (set_there all keys slot key)

  pub unset_there : (all : List Bool) (keys : List K) (slot : ℕ)
      → keys_set (set all slot false) keys ≡ set (keys_set all keys) slot None
  unset_there [] keys slot = refl
  unset_there (one ∷ all) [] zero = refl
  unset_there (one ∷ all) [] (suc slot) = refl
  unset_there (one ∷ all) (key ∷ keys) zero = refl
  unset_there (one ∷ all) (key ∷ keys) (suc slot) = ap (λ rest. cond one (Some key) None ∷ rest) (unset_there all keys slot)

  pub none_set : (n : ℕ) (keys : List K) → length keys ≡ n
      → keys_set (replicate n false) keys ≡ replicate n None
  none_set zero keys same = refl
  none_set (suc n) [] same = absurd (omega arith)
  none_set (suc n) (key ∷ keys) same = ap (λ rest. None ∷ rest) (none_set n keys (omega arith))

-- no key comes before none
pub none_after : {K : Type 0} → (cmp : K → K → Ordering) (key : Option K)
    → false ≡ is_gt (set_first_cmp cmp key None)
none_after cmp None = refl
none_after cmp (Some key) = refl
