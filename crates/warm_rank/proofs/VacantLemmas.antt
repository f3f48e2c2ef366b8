-- Slots in which nothing stands lose their keys.
use Rattle.std.proofs.Common.{◌≡◌, ◌≢◌, ℕ, zero, suc, ◌<◌, List, [], ◌∷◌, length, set, sym, ap, refl, ◌∙◌, true, false, Option, Some, None, arith}
use Rattle.std.specs.Option.{is_some}
use Rattle.std.proofs.Math.Path.{ap₂}
use Rattle.std.specs.Ordering.{is_gt, nat_cmp, ordering_then}
use Rattle.std.specs.declared.cmp.Ordering.{Ordering}
use Rattle.warm_rank.specs.Slots.{key_at, key_while, keys_while, set_first_cmp, slot_cmp}

-- the keys once the first n slots were looked at
abbrev pub keys_so_far : {T : Type 0} → {K : Type 0} → ℕ → List (Option T) → List (Option K)
    → List (Option K)
keys_so_far zero held keys = keys
keys_so_far (suc n) (one ∷ held) (key ∷ keys) = key_while one key ∷ keys_so_far n held keys
keys_so_far (suc n) held keys = keys

pub none_there : {T : Type 0} → (x : Option T) → is_some x ≡ false → x ≡ None
none_there None isnt = refl
none_there (Some x) isnt = absurd (cc)

pub some_there : {T : Type 0} → (x : Option T) → is_some x ≡ true → x ≢ None
some_there x is none = let no : true ≡ false = sym is ∙ ap is_some none in absurd (cc)

module _ {T : Type 0} {K : Type 0} where
  pub length-keys_while : (held : List (Option T)) (keys : List (Option K))
      → length (keys_while held keys) ≡ length keys
  length-keys_while [] keys = refl
  length-keys_while (one ∷ held) [] = refl
  length-keys_while (one ∷ held) (key ∷ keys) = ap suc (length-keys_while held keys)

  -- one slot more
  pub one_cleared : (n : ℕ) (held : List (Option T)) (keys : List (Option K))
      → length held ≡ length keys → n < length held → key_at held n ≡ None
      → set (keys_so_far n held keys) n None ≡ keys_so_far (suc n) held keys
  one_cleared n [] keys same lt none = absurd (omega arith)
  one_cleared n (one ∷ held) [] same lt none = absurd (omega arith)
  one_cleared zero (one ∷ held) (key ∷ keys) same lt none = ap (λ x. key_while x key ∷ keys) (sym none)
  one_cleared (suc n) (one ∷ held) (key ∷ keys) same lt none = ap (λ rest. key_while one key ∷ rest) (one_cleared n held keys (omega arith) (omega arith) none)

  pub one_kept : (n : ℕ) (held : List (Option T)) (keys : List (Option K))
      → length held ≡ length keys → n < length held → key_at held n ≢ None
      → keys_so_far n held keys ≡ keys_so_far (suc n) held keys
  one_kept n [] keys same lt some = absurd (omega arith)
  one_kept n (one ∷ held) [] same lt some = absurd (omega arith)
  one_kept zero (None ∷ held) (key ∷ keys) same lt some = absurd (some refl)
  one_kept zero (Some x ∷ held) (key ∷ keys) same lt some = refl
  one_kept (suc n) (one ∷ held) (key ∷ keys) same lt some = ap (λ rest. key_while one key ∷ rest) (one_kept n held keys (omega arith) (omega arith) some)

  -- all of them
  pub all_looked_at : (held : List (Option T)) (keys : List (Option K)) → length held ≡ length keys
      → keys_so_far (length held) held keys ≡ keys_while held keys
  all_looked_at [] keys same = refl
  all_looked_at (one ∷ held) [] same = absurd (omega arith)
  all_looked_at (one ∷ held) (key ∷ keys) same = ap (λ rest. key_while one key ∷ rest) (all_looked_at held keys (omega arith))

  -- if no slot has a key, none is cleared
  none_while : (one : Option T) → key_while one (let key : Option K = None in key) ≡ None
  none_while None = refl
  none_while (Some x) = refl

  pub none_cleared : (held : List (Option T)) (keys : List (Option K))
      → ((slot : ℕ) → slot < length keys → key_at keys slot ≡ None) → keys ≡ keys_while held keys
  none_cleared [] keys none = refl
  none_cleared (one ∷ held) [] none = refl
  none_cleared (one ∷ held) (key ∷ keys) none =
      let first : key ≡ None = none 0 (omega arith) in
      ap₂ (λ (x : Option K) (rest : List (Option K)). x ∷ rest) (first ∙ sym (none_while one) ∙ ap (key_while one) (sym first)) (none_cleared held keys (λ slot lt. none (suc slot) (omega arith)))

module _ {K : Type 0} (cmp : K → K → Ordering) (keys : List (Option K)) (a b : ℕ)
    (none : key_at keys a ≡ None) where
  -- a slot without a key comes after one with a key
  pub after_some : is_some (key_at keys b) ≡ true → is_gt (slot_cmp cmp keys a b) ≡ true
  after_some some = cases (key_at keys b) refl
    where
      cases : (k : Option K) → key_at keys b ≡ k → is_gt (slot_cmp cmp keys a b) ≡ true
      cases None e = let no : true ≡ false = sym some ∙ ap is_some e in absurd (cc)
      cases (Some k) e = ap is_gt (ap (λ x. ordering_then (set_first_cmp cmp x (key_at keys b)) (nat_cmp a b)) none ∙ ap (λ y. ordering_then (set_first_cmp cmp None y) (nat_cmp a b)) e)

  -- of two slots without a key the lesser comes first
  pub after_none : is_some (key_at keys b) ≡ false
      → is_gt (slot_cmp cmp keys a b) ≡ is_gt (nat_cmp a b)
  after_none unset = ap is_gt (ap (λ x. ordering_then (set_first_cmp cmp x (key_at keys b)) (nat_cmp a b)) none ∙ ap (λ y. ordering_then (set_first_cmp cmp None y) (nat_cmp a b)) (none_there (key_at keys b) unset))
