-- Shares of the right to close, for the crates above: what was halved and put together again is as
-- large as before.
use Rattle.std.proofs.Common.{◌≡◌, ℕ, ◌*◌, ◌<◌, refl, sym, ap, ◌∙◌, arith, le_of_mul-le-mul_right, le_of_eq, le_antisymm}
use Rattle.warm_turn.specs.declared.table.Share.{Share}
use Rattle.warm_turn.specs.Shares.{whole_share, half, both, IsWhole, AsLarge}

-- the two halves of a share are as large as it is
pub both-half : (s : Share) → AsLarge (both (half s) (half s)) s
both-half s = omega arith

-- the order in which shares are put together says nothing
pub both_comm : (s t : Share) → AsLarge (both s t) (both t s)
both_comm s t = omega arith

pub both_assoc : (s t u : Share) → AsLarge (both (both s t) u) (both s (both t u))
both_assoc s t u = omega arith

pub AsLarge-self : (s : Share) → AsLarge s s
AsLarge-self s = refl

pub AsLarge-sym : (s t : Share) → AsLarge s t → AsLarge t s
AsLarge-sym s t e = sym e

-- a common factor goes away
same_times : (a b k : ℕ) → a * k ≡ b * k → 0 < k → a ≡ b
same_times a b k e some = le_antisymm (le_of_mul-le-mul_right (le_of_eq e) some) (le_of_mul-le-mul_right (le_of_eq (sym e)) some)

pub AsLarge-trans : (s t u : Share) → 0 < t.whole → AsLarge s t → AsLarge t u → AsLarge s u
AsLarge-trans s t u some a b =
    let p : s.parts * t.whole * u.whole ≡ t.parts * s.whole * u.whole = ap (λ (k : ℕ). k * u.whole) a in
    let q : t.parts * u.whole * s.whole ≡ u.parts * t.whole * s.whole = ap (λ (k : ℕ). k * s.whole) b in
    same_times (s.parts * u.whole) (u.parts * s.whole) t.whole (omega (arith, p, q)) some

-- halves of shares as large are as large, and so are sums
pub AsLarge-half : (s t : Share) → AsLarge s t → AsLarge (half s) (half t)
AsLarge-half s t e = omega (arith, e)

pub AsLarge-both : (s s' t t' : Share) → AsLarge s s' → AsLarge t t'
    → AsLarge (both s t) (both s' t')
AsLarge-both s s' t t' a b =
    let p : s.parts * s'.whole * (t.whole * t'.whole) ≡ s'.parts * s.whole * (t.whole * t'.whole) = ap (λ (k : ℕ). k * (t.whole * t'.whole)) a in
    let q : t.parts * t'.whole * (s.whole * s'.whole) ≡ t'.parts * t.whole * (s.whole * s'.whole) = ap (λ (k : ℕ). k * (s.whole * s'.whole)) b in
    omega (arith, p, q)

-- a share as large as the whole right is the whole right
pub IsWhole-large : (s t : Share) → 0 < t.whole → AsLarge s t → IsWhole t → IsWhole s
IsWhole-large s t some e is = same_times s.parts s.whole t.whole (e ∙ ap (λ (k : ℕ). k * s.whole) is ∙ omega arith) some

pub IsWhole-first : IsWhole whole_share
IsWhole-first = refl
