-- Pages stored one after the other: each is read and written in its place.
use Rattle.std.proofs.Common.{◌≡◌, ℕ, zero, suc, ◌+◌, ◌*◌, ◌<◌, ◌≤◌, List, [], ◌∷◌, ◌++◌, length, take, drop, replicate, arith, refl, sym, ◌∙◌, ap}
use Rattle.std.proofs.Math.ListN.{get_or, set}
use Rattle.std.proofs.Math.Seq.{take-append_seam, drop-append_seam, drop-nil, take-nil}
use Rattle.std.proofs.lemmas.List.{take-append-drop, take-append-le, drop-append-le, length-take-le, length-drop, take-replicate, drop-replicate}
use Rattle.warm_devices.specs.Pieces.{equal_pieces, with_part}

-- what stands first in a longer list
first : {A : Type 0} (size : ℕ) (xs ys : List A) → length xs ≡ size → take size (xs ++ ys) ≡ xs
first size xs ys long = ap (λ n. take n (xs ++ ys)) (sym long) ∙ take-append_seam xs ys

after : {A : Type 0} (size : ℕ) (xs ys : List A) → length xs ≡ size → drop size (xs ++ ys) ≡ ys
after size xs ys long = ap (λ n. drop n (xs ++ ys)) (sym long) ∙ drop-append_seam xs ys

none : {A : Type 0} (size : ℕ) (xs : List A) → length xs ≡ 0 * size → xs ≡ []
none size [] short = refl
none size (x ∷ xs) short = absurd (omega (arith, short))

-- the piece after this many others
pub piece-at : (n size k : ℕ) (front one back : List ℕ) → k < n → length front ≡ k * size
    → length one ≡ size → get_or (equal_pieces n size (front ++ (one ++ back))) k [] ≡ one
unfolding equal_pieces
piece-at zero size k front one back lt before long = absurd (omega arith)
piece-at (suc n) size zero front one back lt before long = ap (λ f. take size (f ++ (one ++ back))) (none size front before) ∙ first size one back long
piece-at (suc n) size (suc k) front one back lt before long =
    ap (λ bytes. get_or (equal_pieces n size bytes) k []) (drop-append-le size front (one ++ back) (omega (arith, before)))
    ∙ piece-at n size k (drop size front) one back (omega arith) (omega (arith, before, length-drop size front)) long

-- a piece that is written sets one
pub piece-set : (n size k : ℕ) (front one back new : List ℕ) → k < n → length front ≡ k * size
    → length one ≡ size → length new ≡ size
    → equal_pieces n size (front ++ (new ++ back))
    ≡ set (equal_pieces n size (front ++ (one ++ back))) k new
unfolding equal_pieces
piece-set zero size k front one back new lt before long long_new = absurd (omega arith)
piece-set (suc n) size zero front one back new lt before long long_new =
    ap (λ f. equal_pieces (suc n) size (f ++ (new ++ back))) (none size front before)
    ∙ ap (λ x. x ∷ equal_pieces n size (drop size (new ++ back))) (first size new back long_new)
    ∙ ap (λ bytes. new ∷ equal_pieces n size bytes) (after size new back long_new ∙ sym (after size one back long))
    ∙ sym (ap (λ f. set (equal_pieces (suc n) size (f ++ (one ++ back))) zero new) (none size front before))
piece-set (suc n) size (suc k) front one back new lt before long long_new =
    let short : size ≤ length front = omega (arith, before) in
    ap (λ x. x ∷ equal_pieces n size (drop size (front ++ (new ++ back)))) (take-append-le size front (new ++ back) short ∙ sym (take-append-le size front (one ++ back) short))
    ∙ ap (λ rest. take size (front ++ (one ++ back)) ∷ equal_pieces n size rest) (drop-append-le size front (new ++ back) short)
    ∙ ap (λ rest. take size (front ++ (one ++ back)) ∷ rest) (piece-set n size k (drop size front) one back new (omega arith) (omega (arith, before, length-drop size front)) long long_new)
    ∙ ap (λ rest. take size (front ++ (one ++ back)) ∷ set (equal_pieces n size rest) k new) (sym (drop-append-le size front (one ++ back) short))

-- zeros are pieces of zeros
pub pieces-zero : (n size : ℕ)
    → equal_pieces n size (replicate (n * size) 0) ≡ replicate n (replicate size 0)
unfolding equal_pieces
pieces-zero zero size = refl
pieces-zero (suc n) size =
    let more : suc n * size ≡ size + n * size = omega arith in
    ap (λ m. equal_pieces (suc n) size (replicate m 0)) more
    ∙ ap (λ x. x ∷ equal_pieces n size (drop size (replicate (size + n * size) 0))) (take-replicate size (size + n * size) 0 (omega arith))
    ∙ ap (λ rest. replicate size 0 ∷ equal_pieces n size rest) (drop-replicate size (size + n * size) 0 ∙ ap (λ m. replicate m 0) (omega arith))
    ∙ ap (λ rest. replicate size 0 ∷ rest) (pieces-zero n size)

-- ---- a page among the bytes of all

inside : (n size k : ℕ) → k < n → k * size + size ≤ n * size
inside zero size k lt = absurd (omega arith)
inside (suc n) size zero lt = omega arith
inside (suc n) size (suc k) lt = let less : k * size + size ≤ n * size = inside n size k (omega arith) in omega arith

parts : {A : Type 0} (start size : ℕ) (xs : List A)
    → take start xs ++ (take size (drop start xs) ++ drop (start + size) xs) ≡ xs
parts zero size xs = ap (λ n. take size xs ++ drop n xs) (omega arith) ∙ take-append-drop size xs
parts (suc start) size [] = ap (λ t. t ++ drop (suc start + size) []) (take-nil size) ∙ drop-nil (suc start + size)
parts (suc start) size (x ∷ xs) =
    let next : suc start + size ≡ suc (start + size) = omega arith in
    ap (λ n. take (suc start) (x ∷ xs) ++ (take size (drop (suc start) (x ∷ xs)) ++ drop n (x ∷ xs))) next ∙ ap (λ t. x ∷ t) (parts start size xs)

pub page-read : (n size k : ℕ) (bytes : List ℕ) → k < n → length bytes ≡ n * size
    → get_or (equal_pieces n size bytes) k [] ≡ take size (drop (k * size) bytes)
page-read n size k bytes lt all =
    let room = inside n size k lt in
    ap (λ b. get_or (equal_pieces n size b) k []) (sym (parts (k * size) size bytes))
    ∙ piece-at n size k (take (k * size) bytes) (take size (drop (k * size) bytes)) (drop (k * size + size) bytes) lt (length-take-le (k * size) bytes (omega (arith, room, all))) (length-take-le size (drop (k * size) bytes) (omega (arith, room, all, length-drop (k * size) bytes)))

pub page-write : (n size k : ℕ) (bytes new : List ℕ) → k < n → length bytes ≡ n * size
    → length new ≡ size
    → equal_pieces n size (with_part (k * size) (k * size + size) new bytes)
    ≡ set (equal_pieces n size bytes) k new
page-write n size k bytes new lt all sized =
    let room = inside n size k lt in
    piece-set n size k (take (k * size) bytes) (take size (drop (k * size) bytes)) (drop (k * size + size) bytes) new lt (length-take-le (k * size) bytes (omega (arith, room, all))) (length-take-le size (drop (k * size) bytes) (omega (arith, room, all, length-drop (k * size) bytes))) sized
    ∙ ap (λ b. set (equal_pieces n size b) k new) (parts (k * size) size bytes)

pub pieces-count : (n size : ℕ) (bytes : List ℕ) → length (equal_pieces n size bytes) ≡ n
unfolding equal_pieces
pieces-count zero size bytes = refl
pieces-count (suc n) size bytes = ap suc (pieces-count n size (drop size bytes))
