-- Words in which clap's definition has no fault ask for `play`, `random` or `threads`: a subcommand
-- is wanted, and `help` is a fault.
use Rattle.std.proofs.Common.{◌≡◌, Err, ℕ, List, [], ◌∷◌, Bool, true, false, not, ◌&&◌, ◌||◌, cond, zero, suc, drop, subst, Option, Some, None, is_some, option_map, codes, refl, sym, ap, ◌⊎◌, inl, inr, ◌∙◌, true≢false}
use Rattle.std.specs.Prelude.{bytes_eq, option_and_then, fold}
use Rattle.std.proofs.lemmas.Slice.Eq.{bytes_eq-Decides}
use Rattle.clap.specs.Lexer.{long_of, short_of}
use Rattle.clap.specs.Kinds.{Kinds, or_else, check_kinds}
use Rattle.clap.specs.declared.error.kind.ErrorKind.{ErrorKind}
use Rattle.clap.specs.Walk.{Held, Names, Outcome, done, waits, plain, refused, Row, Rule, Step, next, trailing, subcommand, value, Text, Waiting, idle, option, positional, Walk, after_flag, after_step, long_or_other, nothing_held, plain_word, short_or_plain, subcommand_met, subcommand_or_other, walk, walk_from, walked, walked_from, word_met, arg_by_index, to_positional, finished}
use Rattle.clap.specs.Simple.{Shape, built, entered, names_of, rows_at, subcommand_of}
use Rattle.clap.specs.Faults.{check_fault, entered_fault, fault_of, other_fault, step_fault, turn_fault, walk_fault, word_fault}
use Rattle.clap.specs.declared.error.kind.ErrorKind.TheVariants.{ValueValidation}
use Rattle.warm_setup.specs.declared.command.CmdFault.{CmdFault}
use Rattle.warm_setup.specs.declared.command.CmdFault.TheVariants.{Memory, Refused}
use Rattle.warm_setup.specs.Words.{Answers, IsRefusal, LacksValue, command_by, command_in, play, warmplay}

both_empty : (first rest : Kinds) → or_else first rest ≡ [] → (first ≡ []) × (rest ≡ [])
both_empty [] rest e = (refl, e)
both_empty (k ∷ ks) rest e = absurd cc

-- ---- no word enters `help`

abbrev IsNoHelp : Text → Type 0
IsNoHelp name = bytes_eq name (codes "help") ≡ false

abbrev EntersNoHelp : Step → Type 0
EntersNoHelp (subcommand name) = IsNoHelp name
EntersNoHelp _ = Unit {0}

abbrev StopsAtNoHelp : Option (Text × List Text) → Type 0
StopsAtNoHelp None = Unit {0}
StopsAtNoHelp (Some stop) = IsNoHelp stop.0

by_plain_word : (c : List Rule) (waiting : Waiting) (word : Text) (h : Held)
    → EntersNoHelp (plain_word c waiting word h).1
by_plain_word c idle word h = tt
by_plain_word c (option id) word h = tt
by_plain_word c positional word h = tt

by_flag : (c : List Rule) (waiting : Waiting) (word : Text) (h : Held) (outcome : Outcome)
    → EntersNoHelp (after_flag c waiting word h outcome).1
by_flag c waiting word h done = tt
by_flag c waiting word h (waits id) = tt
by_flag c waiting word h plain = by_plain_word c waiting word h
by_flag c waiting word h refused = by_plain_word c waiting word h

by_short : (c : List Rule) (waiting : Waiting) (word : Text) (flags : Option Text) (h : Held)
    → EntersNoHelp (short_or_plain c waiting word flags h).1
by_short c waiting word None h = by_plain_word c waiting word h
by_short c waiting word (Some flags) h = by_flag c waiting word _ _

by_long : (c : List Rule) (waiting : Waiting) (word : Text) (long : Option (Text × Option Text))
    (h : Held) → EntersNoHelp (long_or_other c waiting word long h).1
by_long c waiting word None h = by_short c waiting word (short_of word) h
by_long c waiting word (Some p) h = by_flag c waiting word _ _

help_refused : (is_help disabled : Bool) (kind : ErrorKind) (more : Kinds) → disabled ≡ false
    → cond (is_help && not disabled) (kind ∷ more) [] ≡ [] → is_help ≡ false
help_refused false disabled kind more has_help e = refl
help_refused true false kind more has_help e = absurd cc
help_refused true true kind more has_help e = absurd (true≢false has_help)

module _ (s : Shape) (has_help : s.disable_help_subcommand ≡ false) where
  by_other : (met : Option Text) (waiting : Waiting) (position : ℕ) (word : Text) (h : Held)
      → other_fault s met word h ≡ []
      → EntersNoHelp (subcommand_or_other s.rules met waiting position word h).1
  by_other None waiting position word h e =
      elim (bytes_eq word (45 ∷ 45 ∷ [])) as (λ (b : Bool). EntersNoHelp (cond b (h, trailing position) (long_or_other s.rules waiting word (long_of word) h)).1) [
        | true ↦ tt
        | false ↦ by_long s.rules waiting word (long_of word) h
      ]
  by_other (Some name) waiting position word h e = help_refused (bytes_eq name (codes "help")) s.disable_help_subcommand _ _ has_help e

  by_word : (names : Names) (is_trailing : Bool) (waiting : Waiting) (position : ℕ) (word : Text)
      (h : Held) → word_fault s names is_trailing waiting word h ≡ []
      → EntersNoHelp (word_met s.rules names is_trailing waiting position word h).1
  by_word names true waiting position word h e = tt
  by_word names false waiting position word h e = by_other (subcommand_met names waiting word) waiting position word h e

  to_value : (found : Option Rule) (word : Text) (w : Walk) (h : Held) → StopsAtNoHelp w.stopped
      → StopsAtNoHelp (to_positional s.rules found word w h).stopped
  to_value None word w h kept = kept
  to_value (Some a) word w h kept = tt

  by_step : (word : Text) (w : Walk) (h : Held) (step : Step) → EntersNoHelp step
      → StopsAtNoHelp w.stopped → StopsAtNoHelp (after_step s.rules word w h step).stopped
  by_step word w h (next waiting) enters kept = kept
  by_step word w h (trailing position) enters kept = kept
  by_step word w h (subcommand name) enters kept = enters
  by_step word w h value enters kept = to_value (arg_by_index s.rules w.position) word w h kept

  by_turn : (names : Names) (w : Walk) (word : Text) (stopped : Option (Text × List Text))
      → w.stopped ≡ stopped → turn_fault s names w word ≡ [] → StopsAtNoHelp w.stopped
      → StopsAtNoHelp (walked_from s.rules names stopped w word).stopped
  by_turn names w word (Some stop) is e kept = subst StopsAtNoHelp is kept
  by_turn names w word None is e kept =
      let met = word_met s.rules names w.is_trailing w.waiting w.position word w.held in
      let faults : Kinds = or_else (word_fault s names w.is_trailing w.waiting word w.held) (step_fault s w.position met.0 met.1) in
      let none : faults ≡ [] = sym (ap (λ (o : Option (Text × List Text)). cond (is_some o) [] faults) is) ∙ e in
      by_step word w met.0 met.1 (by_word names w.is_trailing w.waiting w.position word w.held (both_empty _ _ none).0) kept

  by_walk : (names : Names) (w : Walk) (words : List Text) → walk_fault s names w words ≡ []
      → StopsAtNoHelp w.stopped → StopsAtNoHelp (fold (walked s.rules names) w words).stopped
  unfolding walk_fault walked
  by_walk names w [] e kept = kept
  by_walk names w (word ∷ rest) e kept =
      let faults = both_empty (turn_fault s names w word) (walk_fault s names (walked s.rules names w word) rest) e in
      by_walk names (walked s.rules names w word) rest faults.1 (by_turn names w word w.stopped refl faults.0 kept)

-- ---- a command is wanted, and is there

wanted_by : (has on_help required on_argument : Bool) → required ≡ true
    → check_kinds (not has && on_help) (not has && required) on_argument ≡ [] → has ≡ true
wanted_by true on_help required on_argument is e = refl
wanted_by false true required on_argument is e = absurd cc
wanted_by false false true on_argument is e = absurd cc
wanted_by false false false on_argument is e = absurd (true≢false (sym is))

wanted : (s : Shape) (rows : List Row) (has : Bool) → s.subcommand_required ≡ true
    → check_fault s rows has ≡ [] → has ≡ true
wanted s rows has is e = wanted_by has _ s.subcommand_required _ is e

help_other : (name : Text) → IsNoHelp name → bytes_eq (codes "help") name ≡ false
help_other name other =
    elim (bytes_eq (codes "help") name) as (λ (b : Bool). bytes_eq (codes "help") name ≡ b → b ≡ false) [
      | true ↦ λ same. absurd (true≢false (ap (λ (t : Text). bytes_eq t (codes "help")) ((bytes_eq-Decides (codes "help") name).0 same) ∙ other))
      | false ↦ λ differs. refl
    ] refl

-- the subcommand of this name
abbrev IsNamed : Text → Option (Text × List Row) → Type 0
IsNamed name found = option_map (λ f. bytes_eq f.0 name) found ≡ Some true

-- a command, or a subcommand that may lack a value
abbrev pub IsAsked : Option (Text × List Row) → Type 0
IsAsked found =
    (is_some (option_and_then command_by found) ≡ true)
    ⊎ (IsNamed (codes "random") found ⊎ IsNamed (codes "threads") found)

abbrev shape_at : ℕ → List Shape → Shape
shape_at n [] = play.top
shape_at zero (s ∷ rest) = s
shape_at (suc n) (s ∷ rest) = shape_at n rest

-- the first of the four subcommands whose name is that of the words
abbrev entered_by : Bool → Bool → Bool → Bool → List Text → Option (Text × List Row)
entered_by is_play is_random is_threads is_help rest = option_map (λ s. rows_at s rest)
    (cond (is_play || false) (Some (shape_at 0 (built warmplay).subs))
    (cond (is_random || false) (Some (shape_at 1 (built warmplay).subs))
    (cond (is_threads || false) (Some (shape_at 2 (built warmplay).subs))
    (cond (is_help || false) (Some (shape_at 3 (built warmplay).subs)) None))))

one_is_asked : (is_play is_random is_threads is_help : Bool) (rest : List Text) → is_help ≡ false
    → is_some (entered_by is_play is_random is_threads is_help rest) ≡ true
    → IsAsked (entered_by is_play is_random is_threads is_help rest)
one_is_asked true is_random is_threads is_help rest other there = inl refl
one_is_asked false true is_threads is_help rest other there = inr (inl refl)
one_is_asked false false true is_help rest other there = inr (inr refl)
one_is_asked false false false false rest other there = absurd (true≢false (sym there))
one_is_asked false false false true rest other there = absurd (true≢false other)

asked_at : (stop : Option (Text × List Text)) → StopsAtNoHelp stop
    → is_some (entered (built warmplay) stop) ≡ true → IsAsked (entered (built warmplay) stop)
asked_at None kept there = absurd (true≢false (sym there))
asked_at (Some p) kept there =
    one_is_asked (bytes_eq (codes "play") p.0) (bytes_eq (codes "random") p.0) (bytes_eq (codes "threads") p.0) (bytes_eq (codes "help") p.0) p.1 (help_other p.0 kept) there

pub is_asked : (words : List Text) → fault_of warmplay words ≡ []
    → IsAsked (subcommand_of warmplay words)
is_asked words e =
    let rest = drop 1 words in
    let top = (built warmplay).top in
    let names = names_of (built warmplay) in
    let stop = (walk top.rules names nothing_held rest).stopped in
    let walks = both_empty (walk_fault top names (walk_from nothing_held) rest) _ e in
    let enters = both_empty (entered_fault (built warmplay) stop) _ walks.1 in
    let settles = both_empty _ _ enters.1 in
    let fills = both_empty _ _ settles.1 in
    asked_at stop (by_walk top refl names (walk_from nothing_held) rest walks.0 tt) (wanted top (finished top.rules (walk top.rules names nothing_held rest).held) (is_some (entered (built warmplay) stop)) refl fills.1)

-- no fault, and no command: a number or a file is wanted
pub lacks_value : (words : List Text) → fault_of warmplay words ≡ [] → None ≡ command_in words
    → LacksValue words
lacks_value words e none = elim (is_asked words e) [
  | inl there ↦ absurd (true≢false (sym (ap is_some none ∙ there)))
  | inr asks ↦ (e, asks, sym none)
]

pub refused_for_value : (words : List Text) (fault : CmdFault) → LacksValue words
    → IsRefusal ValueValidation fault → Answers words (Err fault)
refused_for_value words Memory lacks is = tt
refused_for_value words (Refused error) lacks is = inr (lacks, is)
