-- Bytes as hexadecimal digits, two for each, and the digits of a slot.
use Rattle.std.proofs.Common.{◌≡◌, ℕ, ◌+◌, ◌*◌, ◌/◌, ◌%◌, ◌<◌, List, [], ◌∷◌, ◌++◌, length, ◌≤◌, get_or, take, drop, refl, sym, ap, ◌∙◌, append_assoc, arith}
use Rattle.std.proofs.Math.ListN.{set, length-set}
use Rattle.std.proofs.lemmas.Grind.{flat_map-append, drop-set_at}
use Rattle.std.proofs.lemmas.List.{take_more, take_more_set, drop-set}
use Rattle.std.specs.Prelude.{codes, decimal, flat_map}
use Rattle.warm_pool.specs.declared.slot.Slot.{Slot}
use Rattle.warm_player.specs.Answers.{byte_text, bytes_text, hex_text, slot_text, answer_text}
use Rattle.warm_world.specs.declared.event.Answer.TheVariants.{Pinned}

-- two items are put behind those that stand there
two_put : (xs : List ℕ) (n : ℕ) (a b : ℕ) → n + 1 < length xs
    → take (n + 1 + 1) (set (set xs n a) (n + 1) b) ≡ take n xs ++ a ∷ b ∷ []
two_put xs n a b lt =
    let first = take_more_set xs n a (omega (arith, lt)) in
    let second = take_more_set (set xs n a) (n + 1) b (omega (arith, lt, length-set xs n a)) in
    second ∙ ap (λ (t : List ℕ). t ++ b ∷ []) first ∙ append_assoc (take n xs) (a ∷ []) (b ∷ [])

-- the digits of one more byte
pub digits_more : (digits bytes : List ℕ) (i high low : ℕ) → 2 * i + 1 < length digits
    → i < length bytes
    → high ≡ hex_text (get_or bytes i 0 / 16) → low ≡ hex_text (get_or bytes i 0 % 16)
    → take (2 * i) digits ≡ flat_map byte_text (take i bytes)
    → take (2 * (i + 1)) (set (set digits (2 * i) high) (2 * i + 1) low)
    ≡ flat_map byte_text (take (i + 1) bytes)
digits_more digits bytes i high low lt there is_high is_low so_far =
    let byte = get_or bytes i 0 in
    let put = set (set digits (2 * i) high) (2 * i + 1) low in
    let place : 2 * (i + 1) ≡ 2 * i + 1 + 1 = omega arith in
    let text : flat_map byte_text (take (i + 1) bytes) ≡ flat_map byte_text (take i bytes) ++ byte_text byte =
    ap (flat_map byte_text) (take_more bytes i 0 there) ∙ flat_map-append byte_text (take i bytes) (byte ∷ []) in
    let pair : high ∷ low ∷ [] ≡ byte_text byte = rw (is_high, is_low) refl in
    ap (λ (n : ℕ). take n put) place ∙ two_put digits (2 * i) high low lt
    ∙ ap (λ (t : List ℕ). t ++ high ∷ low ∷ []) so_far ∙ ap (λ (t : List ℕ). flat_map byte_text (take i bytes) ++ t) pair ∙ sym text

-- bytes are printed after a space
pub some_text : (bytes : List ℕ) → 0 < length bytes
    → bytes_text bytes ≡ codes " " ++ flat_map byte_text bytes
some_text [] some = absurd (omega (arith, some))
some_text (byte ∷ bytes) some = refl

-- the word before a slot, put at a place
pub slot_word : (xs : List ℕ) (at : ℕ) → at + 5 ≤ length xs
    → drop at (set (set (set (set (set xs (at + 4) 32) (at + 3) 116) (at + 2) 111) (at + 1) 108) at 115)
    ≡ codes "slot " ++ drop (at + 5) xs
slot_word xs at fits =
    let a = set xs (at + 4) 32 in
    let b = set a (at + 3) 116 in
    let c = set b (at + 2) 111 in
    let d = set c (at + 1) 108 in
    let size_a = length-set xs (at + 4) 32 in
    let size_b = length-set a (at + 3) 116 in
    let size_c = length-set b (at + 2) 111 in
    let size_d = length-set c (at + 1) 108 in
    let last : at + 4 + 1 ≡ at + 5 = omega arith in
    let space : drop (at + 3 + 1) a ≡ 32 ∷ drop (at + 5) xs = drop-set_at xs (at + 4) (at + 3 + 1) 32 (omega arith) (omega (arith, fits)) ∙ ap (λ (n : ℕ). 32 ∷ drop n xs) last in
    let t : drop (at + 2 + 1) b ≡ 116 ∷ 32 ∷ drop (at + 5) xs = drop-set_at a (at + 3) (at + 2 + 1) 116 (omega arith) (omega (arith, fits, size_a)) ∙ ap (λ (r : List ℕ). 116 ∷ r) space in
    let o : drop (at + 1 + 1) c ≡ 111 ∷ 116 ∷ 32 ∷ drop (at + 5) xs = drop-set_at b (at + 2) (at + 1 + 1) 111 (omega arith) (omega (arith, fits, size_a, size_b)) ∙ ap (λ (r : List ℕ). 111 ∷ r) t in
    let l : drop (at + 1) d ≡ 108 ∷ 111 ∷ 116 ∷ 32 ∷ drop (at + 5) xs = drop-set_at c (at + 1) (at + 1) 108 refl (omega (arith, fits, size_a, size_b, size_c)) ∙ ap (λ (r : List ℕ). 108 ∷ r) o in
    drop-set d at 115 (omega (arith, fits, size_a, size_b, size_c, size_d)) ∙ ap (λ (r : List ℕ). 115 ∷ r) l

-- a slot's line, as its parts are put before one another
pub slot_line : (slot : Slot)
    → codes "slot " ++ (decimal slot.index ++ 46 ∷ (decimal slot.generation ++ 10 ∷ []))
    ≡ answer_text (Pinned slot)
slot_line slot =
    let index = decimal slot.index in
    let generation = decimal slot.generation in
    let parts : index ++ 46 ∷ (generation ++ 10 ∷ []) ≡ slot_text slot ++ codes "\n" =
    sym (append_assoc (index ++ codes ".") generation (codes "\n") ∙ append_assoc index (codes ".") (generation ++ codes "\n")) in
    ap (λ (t : List ℕ). codes "slot " ++ t) parts ∙ sym (append_assoc (codes "slot ") (slot_text slot) (codes "\n"))
