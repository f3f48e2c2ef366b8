-- Schedules drawn at random: the lines of a seed, and their text.
use Rattle.std.specs.Prelude.{ℕ, zero, suc, ◌+◌, ◌%◌, ◌==◌, List, [], ◌∷◌, ◌++◌, Bool, true, false}
use Rattle.std.specs.Prelude.{nat_le, count_by, flat_map, codes, decimal, if◌then◌else◌}
use Rattle.rand_pcg.specs.Lcg.{Lcg, started, increment_of}
use Rattle.rand_pcg.specs.Pcg.{multiplier_64, pcg32}
use Rattle.warm_stamps.specs.declared.TheConstants.{BUCKETS}
use Rattle.warm_random.specs.declared.DrawnLine.{DrawnLine}
use Rattle.warm_random.specs.declared.DrawnLine.TheVariants.{Ref, Flush, Send, Deliver, Show}

-- ---- drawing

-- the generator of a seed, in its stream 1
abbrev pub seeded : ℕ → Lcg
seeded seed = started 64 multiplier_64 seed (increment_of 64 1)

-- a drawn value, and the generator after it
abbrev pub Draw : Type 0 → Type 0
Draw A = Lcg → A × Lcg

-- a value that is not drawn: the generator is unchanged
abbrev pub always : {A : Type 0} → A → Draw A
always a = λ g. (a, g)

infixl 10 ◌>>=◌
-- the second draw goes on with what the first drew
abbrev pub ◌>>=◌ : {A B : Type 0} → Draw A → (A → Draw B) → Draw B
first >>= next = λ g. next (first g).0 (first g).1

-- each use draws the next word of 32 bits
abbrev pub word : Draw ℕ
word = pcg32

-- a draw of a number below n
abbrev pub below : ℕ → Draw ℕ
below n = word >>= λ r. always (r % n)

-- a draw of a number from 1 to n
abbrev pub draw_up_to : ℕ → Draw ℕ
draw_up_to n = word >>= λ r. always (1 + r % n)

-- ---- lines

-- The fields of a line, in their order. `replicas` and `workers` are their numbers, `time` is the
-- line's number, `sends` is the number of sends among the lines before it.
abbrev pub fields : ℕ → ℕ → ℕ → ℕ → ℕ → Draw DrawnLine
fields replicas workers time sends kind =
    if nat_le kind 3 then
    (draw_up_to replicas >>= λ i. draw_up_to workers >>= λ w. below 256
    >>= λ p. always (Ref i w p time))
    else (if kind == 4 then
    (draw_up_to replicas >>= λ i. draw_up_to workers >>= λ w. always (Flush i w))
    else (if kind == 5 then (draw_up_to replicas >>= λ i. below BUCKETS >>= λ b. always (Send i b))
    else (if kind == 6 then
    (draw_up_to replicas >>= λ i. draw_up_to (sends + 1) >>= λ k. always (Deliver i k))
    else (draw_up_to replicas >>= λ i. always (Show i)))))

-- a word chooses the kind of the line
abbrev pub line : ℕ → ℕ → ℕ → ℕ → Draw DrawnLine
line replicas workers time sends = below 8 >>= fields replicas workers time sends

-- whether the line sends a message
abbrev pub is_send : DrawnLine → Bool
is_send (Send i b) = true
is_send _ = false

-- the first n lines
unfoldable pub random_lines : ℕ → ℕ → ℕ → Draw (List DrawnLine)
random_lines replicas workers zero = always []
random_lines replicas workers (suc n) =
    random_lines replicas workers n
    >>= λ before. line replicas workers (n + 1) (count_by is_send before)
    >>= λ next. always (before ++ next ∷ [])

-- ---- text

-- the line as a line of a schedule
abbrev pub line_text : DrawnLine → List ℕ
line_text (Ref i w p time) = codes "ref " ++ decimal i ++ codes " " ++ decimal w ++ codes " 0:"
    ++ decimal p ++ codes " " ++ decimal time ++ codes "\n"
line_text (Flush i w) = codes "flush " ++ decimal i ++ codes " " ++ decimal w ++ codes "\n"
line_text (Send i b) = codes "send " ++ decimal i ++ codes " " ++ decimal b ++ codes "\n"
line_text (Deliver i k) = codes "deliver " ++ decimal i ++ codes " " ++ decimal k ++ codes "\n"
line_text (Show i) = codes "show " ++ decimal i ++ codes "\n"

-- the schedule of a seed, of this many lines
abbrev pub schedule_text : ℕ → ℕ → ℕ → ℕ → List ℕ
schedule_text seed events replicas workers =
    flat_map line_text (random_lines replicas workers events (seeded seed)).0
