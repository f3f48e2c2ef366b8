-- The numbers of a device are those of one state alone.
use Rattle.std.proofs.Common.{◌≡◌, ℕ, Bool, true, false, List, [], ◌∷◌, ◌++◌, length, get_or, drop, refl, ap, arith}
use Rattle.warm_shard_machine.specs.ToldDevices.{ToldAreOne, bit, coded_device, coded_pages}

bit_one : (a b : Bool) → bit a ≡ bit b → a ≡ b
bit_one true true same = refl
bit_one false false same = refl
bit_one true false same = absurd (omega (arith, same))
bit_one false true same = absurd (omega (arith, same))

-- lists as long as each other, with what follows them
split_one : (xs ys a b : List ℕ) → length xs ≡ length ys → xs ++ a ≡ ys ++ b
    → (xs ≡ ys) × (a ≡ b)
split_one [] [] a b long same = (refl, same)
split_one [] (y ∷ ys) a b long same = absurd (omega (arith, long))
split_one (x ∷ xs) [] a b long same = absurd (omega (arith, long))
split_one (x ∷ xs) (y ∷ ys) a b long same =
    let first : x ≡ y = ap (λ (l : List ℕ). get_or l 0 0) same in
    let rest = split_one xs ys a b (omega (arith, long)) (ap (λ (l : List ℕ). drop 1 l) same) in
    ((λ i. first i ∷ rest.0 i), rest.1)

pages_one : (ps qs : List (List ℕ)) → coded_pages ps ≡ coded_pages qs → ps ≡ qs
pages_one [] [] same = refl
pages_one [] (q ∷ qs) same = let no : [] ≡ length q ∷ (q ++ coded_pages qs) = same in absurd (cc)
pages_one (p ∷ ps) [] same = let no : length p ∷ (p ++ coded_pages ps) ≡ [] = same in absurd (cc)
pages_one (p ∷ ps) (q ∷ qs) same =
    let long : length p ≡ length q = ap (λ (l : List ℕ). get_or l 0 0) same in
    let parts = split_one p q (coded_pages ps) (coded_pages qs) long (ap (λ (l : List ℕ). drop 1 l) same) in
    let rest = pages_one ps qs parts.1 in
    λ i. parts.0 i ∷ rest i

pub told_are_one : ToldAreOne
told_are_one d e same =
    let at : (k : ℕ) → get_or (coded_device d) k 0 ≡ get_or (coded_device e) k 0 = λ k. ap (λ (l : List ℕ). get_or l k 0) same in
    let waiting = bit_one d.waiting e.waiting (at 2) in
    let honest = bit_one d.honest e.honest (at 7) in
    let unfailing = bit_one d.unfailing e.unfailing (at 8) in
    let contents = pages_one d.contents e.contents (ap (λ (l : List ℕ). drop 9 l) same) in
    λ i. record {
      pages = at 0 i;
      page_size = at 1 i;
      contents = contents i;
      waiting = waiting i;
      failures = at 3 i;
      calls = record { reads = at 4 i; writes = at 5 i; flushes = at 6 i };
      honest = honest i;
      unfailing = unfailing i;
    }
