-- Worked examples: the published words of the generator, and the first lines of a seed.
use Rattle.std.proofs.Common.{◌≡◌, [], ◌∷◌, codes, refl}
use Rattle.std.specs.Fmt.{digits}
use Rattle.rand_pcg.specs.Lcg.{started, increment_of}
use Rattle.rand_pcg.specs.Pcg.{multiplier_64, pcg32}
use Rattle.warm_random.specs.Drawing.{random_lines, schedule_text, seeded}
use Rattle.warm_random.specs.declared.DrawnLine.TheVariants.{Ref, Deliver}

-- the first word of the state 42 in the stream 54
published_word : (pcg32 (started 64 multiplier_64 42 (increment_of 64 54))).0 ≡ 0xa15c02b7
published_word = refl

no_lines : schedule_text 7 0 3 2 ≡ []
unfolding random_lines
no_lines = refl

two_lines : (random_lines 3 2 2 (seeded 1)).0 ≡ Ref 3 2 211 1 ∷ Deliver 1 1 ∷ []
unfolding random_lines
two_lines = refl

two_lines_of_text : schedule_text 1 2 3 2 ≡ codes "ref 3 2 0:211 1\ndeliver 1 1\n"
unfolding random_lines digits
two_lines_of_text = refl
