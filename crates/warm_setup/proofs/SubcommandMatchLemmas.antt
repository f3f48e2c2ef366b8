-- The subcommand that a parse entered, by its name and its matches.
use Rattle.std.proofs.Common.{◌≡◌, ℕ, ◌+◌, ◌-◌, ◌∙◌, ◌^◌, ◌≤◌, Bool, List, true, false, ap, arith, Option, Some, None, option_map, codes, refl}
use Rattle.std.specs.Prelude.{bytes_eq, option_and_then, Result, Ok, Err}
use Rattle.std.specs.Str.Parse.{ParsesUnsigned, digits_value, without_leading_plus}
use Rattle.clap.proofs.ValueTestLemmas.{Accepts-accepts, accepts-Accepts}
use Rattle.clap.specs.ValueTests.{is_unsigned_in}
use Rattle.clap.specs.declared.builder.value_parser.ValueParser.TheVariants.{Unsigned}
use Rattle.clap.specs.Matches.{ReadsOne}
use Rattle.clap.specs.Words.{Row, Text, first_of}
use Rattle.warm_setup.specs.declared.command.Cmd.TheVariants.{Play, Random, Threads}
use Rattle.warm_setup.specs.Words.{command_by, number_in, argument_number, random_by, threads_by}
use Rattle.warm_setup.specs.declared.command.Cmd.{Cmd}

pub found_is : (found : Option (Text × List Row)) (name : Text) (rows : List Row)
    → Some name ≡ option_map (λ p. p.0) found → Some rows ≡ option_map (λ p. p.1) found
    → found ≡ Some (name, rows)
found_is None name rows e f = absurd cc
found_is (Some p) name rows e f =
    let name_is : p.0 ≡ name = cc in
    let rows_are : p.1 ≡ rows = cc in
    rw (← name_is, ← rows_are) refl

pub asks_play : (found : Option (Text × List Row)) (name : Text) (rows : List Row)
    (file setup : Option Text) → found ≡ Some (name, rows) → true ≡ bytes_eq name (codes "play")
    → file ≡ first_of (codes "file") rows → setup ≡ first_of (codes "setup") rows
    → Some (Play file setup) ≡ option_and_then command_by found
asks_play found name rows file setup is eq f s = rw (is, ← eq, f, s) refl

pub asks_random : (found : Option (Text × List Row)) (name : Text) (rows : List Row)
    (asked : Option Cmd) → found ≡ Some (name, rows) → false ≡ bytes_eq name (codes "play")
    → true ≡ bytes_eq name (codes "random")
    → asked ≡ random_by rows → asked ≡ option_and_then command_by found
asks_random found name rows asked is other eq by = rw (is, ← other, ← eq) by

pub asks_threads : (found : Option (Text × List Row)) (name : Text) (rows : List Row)
    (asked : Option Cmd) → found ≡ Some (name, rows) → false ≡ bytes_eq name (codes "play")
    → false ≡ bytes_eq name (codes "random")
    → true ≡ bytes_eq name (codes "threads") → asked ≡ threads_by rows
    → asked ≡ option_and_then command_by found
asks_threads found name rows asked is other also eq by = rw (is, ← other, ← also, ← eq) by

pub threads_asked : (rows : List Row) (file : Text) (setup : Option Text)
    → Some file ≡ first_of (codes "file") rows → setup ≡ first_of (codes "setup") rows
    → Some (Threads file setup) ≡ threads_by rows
threads_asked rows file setup f s = rw (← f, s) refl

pub random_asked : (rows : List Row) (seed events : ℕ) (setup : Option Text)
    → Some seed ≡ argument_number (2 ^ 64 - 1) (codes "seed") rows
    → Some events ≡ argument_number (2 ^ 32 - 1) (codes "events") rows
    → setup ≡ first_of (codes "setup") rows
    → Some (Random seed events setup) ≡ random_by rows
random_asked rows seed events setup s e f = rw (← s, ← e, f) refl

-- ---- numbers

is_number : (most : ℕ) (t : Text) → is_unsigned_in 0 most t ≡ true
    → Some (digits_value 10 (without_leading_plus t)) ≡ number_in most t
unfolding number_in
is_number most t e = rw e refl

is_no_number : (most : ℕ) (t : Text) → is_unsigned_in 0 most t ≡ false → None ≡ number_in most t
unfolding number_in
is_no_number most t e = rw e refl

-- a typed getter reads the number that the definition reads
reads_number : (E : Type 0) (G : List ℕ → Result ℕ E → Type 0) (k most : ℕ) (t : List ℕ)
    (r : Option ℕ) → ((u : List ℕ) (x : Result ℕ E) → G u x → ParsesUnsigned k 10 u x)
    → most + 1 ≡ 2 ^ k → 2 ^ k ≤ 2 ^ 64 → ReadsOne G t r → r ≡ number_in most t
reads_number E G k most t (Some v) only is few read =
    let parsed = only t (Ok v) read in
    let passes : is_unsigned_in 0 most t ≡ true = Accepts-accepts false (Unsigned 0 most) t (parsed.0.0, omega (arith, parsed.0.1, few), omega arith, omega (arith, parsed.0.1, is)) in
    ap Some parsed.1 ∙ is_number most t passes
reads_number E G k most t None only is few read =
    by_bool (is_unsigned_in 0 most t) (λ passes.
    let inside = accepts-Accepts false (Unsigned 0 most) t passes in
    absurd (only t (Err read.0) read.1 (inside.0, omega (arith, inside.3, is))))
    (λ fails. is_no_number most t fails)
  where
    by_bool : {P : Type 0} (b : Bool) → (b ≡ true → P) → (b ≡ false → P) → P
    by_bool true passes fails = passes refl
    by_bool false passes fails = fails refl

pub reads_argument : (E : Type 0) (G : List ℕ → Result ℕ E → Type 0) (k most : ℕ)
    (given : Option Text) (r : Option ℕ)
    → ((u : List ℕ) (x : Result ℕ E) → G u x → ParsesUnsigned k 10 u x)
    → most + 1 ≡ 2 ^ k → 2 ^ k ≤ 2 ^ 64 → (given ≡ None → r ≡ None)
    → ((t : List ℕ) → given ≡ Some t → ReadsOne G t r) → r ≡ option_and_then (number_in most) given
reads_argument E G k most None r only is few none value = none refl
reads_argument E G k most (Some t) r only is few none value = reads_number E G k most t r only is few (value t refl)

pub mapped_twice : {A B C : Type 0} (f : A → B) (g : B → C) (o : Option A)
    → option_map (λ a. g (f a)) o ≡ option_map g (option_map f o)
mapped_twice f g None = refl
mapped_twice f g (Some a) = refl

pub threads_none : (rows : List Row) → None ≡ first_of (codes "file") rows → None ≡ threads_by rows
threads_none rows none = rw (← none) refl
