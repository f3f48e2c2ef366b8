-- A schedule that is read piece by piece.
use Rattle.std.proofs.Common.{◌≡◌, inl, inr, ℕ, zero, suc, ◌+◌, ◌-◌, ◌<◌, ◌≤◌, Bool, true, false, List, [], ◌∷◌, ◌++◌, length, get_or, take, Option, Some, None, Result, Ok, Err, refl, sym, ap, subst, ◌∙◌, append_assoc, arith}
use Rattle.std.specs.Option.{ok_or, MatchOption}
use Rattle.std.specs.Prelude.{min, IfSome, OnOk, is_ok, nat_lt}
use Rattle.std.specs.Result.{result_ok}
use Rattle.std.specs.Io.KnownBytes.{Appends, Keeps, Consumes, IsAtEnd}
use Rattle.std.proofs.Math.Nat.{min-eq_left, min_comm}
use Rattle.std.proofs.Math.Seq.{take-append-add}
use Rattle.std.proofs.lemmas.Bool.{cases_lt, ne_eqb, lt-ltb, ltb-true, ltb-false}
use Rattle.std.proofs.lemmas.List.{append-nil, take_all, take-append-le, length-take, length-take-le}
use Rattle.warm_random.proofs.AppendLemmas.{Appends-then}
use Rattle.warm_player.specs.Text.{IsLine, split, lines}
use Rattle.warm_player.specs.Grammar.{meaning}
use Rattle.warm_player.specs.Outputs.{LineAnswered, PrintedFrom, Played, EndsIn}
use Rattle.warm_player.specs.Reading.{Reads, PutsBytes, IsPut}
use Rattle.warm_player.specs.Stream.{SessionView, HoldsLine, SessionStands, AddsBytes, AnswersLine, ReadsOn, PrintsEnding, Ends}
use Rattle.warm_player.specs.Refusals.{StopsPlay, PlayRefused}
use Rattle.warm_player.specs.declared.parse.TheConstants.{MAX_LINE}
use Rattle.warm_devices.specs.Device.{DeviceState}
use Rattle.warm_world.specs.declared.play_fault.PlayFault.{PlayFault}
use Rattle.warm_world.specs.declared.play_fault.PlayFault.TheVariants as play_fault
use Rattle.warm_world.specs.Sizes.{Sizes}
use Rattle.warm_world.specs.States.{ModelState, no_replica, no_pool, pool_of, replica}
use Rattle.warm_pool.specs.View.{PoolView}
use Rattle.warm_gossip.specs.State.{NodeView}
use Rattle.warm_world.specs.Lists.{index_of_number}
use Rattle.warm_world.specs.Opening.{AreFitting, FinishFails}
use Rattle.warm_gossip.specs.Step.{IsFailed}
use Rattle.warm_gossip.specs.declared.fault.NodeFault.{NodeFault}
use Rattle.warm_history.specs.Histories.{history_of_entries}
use Rattle.warm_world.specs.WorldStands.{WorldStands, Steps, ReplicaStands}
use Rattle.warm_world.specs.Views.{ReplicaView, WorldView}
use Rattle.warm_gossip.specs.declared.fault.NodeFault.TheVariants as node_fault
use Rattle.warm_world.specs.declared.event.WorldFault.TheVariants.{Node}
use Rattle.warm_player.specs.declared.parse.Line.{Line}
use Rattle.warm_player.specs.declared.parse.Line.TheVariants as meant
use Rattle.warm_player.specs.Answers.{answer_text, refused_text, bad_line, end_refused}
use Rattle.warm_world.specs.declared.event.Event.{Event}
use Rattle.warm_world.specs.declared.event.Answer.{Answer}
use Rattle.warm_player.specs.declared.parse.LineFault.{LineFault}
use Rattle.warm_player.specs.declared.parse.LineFault.TheVariants.{Memory, Bad}

-- ---- the line that has begun, as it is held

-- more bytes of a line of which the first `most` are held
held_more : (most : ℕ) (held line piece : List ℕ) → held ≡ take most line
    → held ++ take (most - length held) piece ≡ take most (line ++ piece)
held_more most held line piece is = elim (cases_lt (length held) most) [
  | inl under ↦
      let short : length line < most = omega (arith, ap (λ (xs : List ℕ). length xs) is, length-take most line, under) in
      let whole : held ≡ line = is ∙ take_all most line (omega (arith, short)) in
      let left : length held + (most - length held) ≡ most = omega (arith, under) in
      sym (ap (λ (xs : List ℕ). take most (xs ++ piece)) (sym whole) ∙ ap (λ (n : ℕ). take n (held ++ piece)) (sym left) ∙ take-append-add held piece (most - length held))
  | inr full ↦
      let long : most ≤ length line = omega (arith, ap (λ (xs : List ℕ). length xs) is, length-take most line, full) in
      let none : most - length held ≡ 0 = omega (arith, full) in
      rw none (append-nil held) ∙ is ∙ sym (take-append-le most line piece long)
]

is_line_more : (line piece : List ℕ) → IsLine line → IsLine piece → IsLine (line ++ piece)
is_line_more [] piece h more = more
is_line_more (c ∷ cs) piece h more = (h.0, is_line_more cs piece h.1 more)

pub holds_more : (held line piece : List ℕ) → IsLine piece → HoldsLine held line
    → HoldsLine (held ++ take (MAX_LINE + 1 - length held) piece) (line ++ piece)
holds_more held line piece more h = record { held_is = held_more (MAX_LINE + 1) held line piece h.held_is; is_line = is_line_more line piece h.is_line more }

take_least : (most : ℕ) (piece : List ℕ) → take (min (length piece) most) piece ≡ take most piece
take_least most piece = elim (cases_lt most (length piece)) [
  | inl lt ↦
      let le : most ≤ length piece = omega (arith, lt) in
      let least : min (length piece) most ≡ most = min_comm (length piece) most ∙ min-eq_left le in
      ap (λ (n : ℕ). take n piece) least
  | inr ge ↦
      let least : min (length piece) most ≡ length piece = min-eq_left ge in
      ap (λ (n : ℕ). take n piece) least ∙ (take_all (length piece) piece (omega arith) ∙ sym (take_all most piece ge))
]

-- bytes are held as they come, up to one more than a line may have
pub adds_held : (a b : SessionView) (piece : List ℕ) (left kept : ℕ) → IsLine piece
    → b.world ≡ a.world → b.number ≡ a.number → left ≡ MAX_LINE + 1 - length a.held
    → kept ≡ min (length piece) left
    → b.held ≡ a.held ++ take kept piece → AddsBytes a piece b
adds_held a b piece left kept more world number left_is least held =
    let taken : take kept piece ≡ take (MAX_LINE + 1 - length a.held) piece = ap (λ (n : ℕ). take n piece) least ∙ take_least left piece ∙ ap (λ (n : ℕ). take n piece) left_is in
    let is : b.held ≡ a.held ++ take (MAX_LINE + 1 - length a.held) piece = held ∙ ap (λ (xs : List ℕ). a.held ++ xs) taken in record {
      begun = λ line h. rw is (holds_more a.held line piece more h);
      world = world;
      number = number;
    }

pub nothing : (xs : List ℕ) → length xs ≡ 0 → xs ≡ []
nothing [] none = refl
nothing (c ∷ cs) none = absurd (omega (arith, none))

-- nothing is held of a line of which nothing has come
none_taken : (most : ℕ) (line : List ℕ) → 0 < most → length (take most line) ≡ 0 → line ≡ []
none_taken most [] some e = refl
none_taken zero (c ∷ cs) some e = absurd (omega (arith, some))
none_taken (suc most) (c ∷ cs) some e = absurd (omega (arith, e))

one_is_held : 0 < MAX_LINE + 1
one_is_held = omega arith

none_begun : (held line : List ℕ) → length held ≡ 0 → HoldsLine held line → line ≡ []
none_begun held line none h = none_taken (MAX_LINE + 1) line one_is_held (sym (ap (λ (xs : List ℕ). length xs) h.held_is) ∙ none)

meaning_long : (line : List ℕ) → MAX_LINE < length line → meaning line ≡ None
unfolding meaning
meaning_long line long = rw (lt-ltb MAX_LINE (length line) long) refl

-- a line that is too long says what its beginning says: it is bad
meaning_cut : (line : List ℕ) → meaning (take (MAX_LINE + 1) line) ≡ meaning line
meaning_cut line =
    elim (nat_lt MAX_LINE (length line)) as (λ (long : Bool). nat_lt MAX_LINE (length line) ≡ long → meaning (take (MAX_LINE + 1) line) ≡ meaning line) [
      | true ↦ λ e.
          let long : MAX_LINE < length line = ltb-true _ _ e in
          meaning_long (take (MAX_LINE + 1) line) (omega (arith, length-take-le (MAX_LINE + 1) line (omega (arith, long)))) ∙ sym (meaning_long line long)
      | false ↦ λ e. ap meaning (take_all (MAX_LINE + 1) line (omega (arith, ltb-false _ _ e)))
    ] refl

-- the meaning of the held line is that of the whole line
pub says : (held line : List ℕ) → HoldsLine held line → meaning held ≡ meaning line
says held line h = ap meaning h.held_is ∙ meaning_cut line

-- what was read of a line
ok_of_ok_or : (o : Option Line) → result_ok (ok_or o Bad) ≡ o
ok_of_ok_or None = refl
ok_of_ok_or (Some l) = refl

pub read_line : (said : Option Line) (l : Line) → Ok l ≡ ok_or said Bad → said ≡ Some l
read_line said l is = sym (ok_of_ok_or said) ∙ ap result_ok (sym is)

pub read_bad : (said : Option Line) → Err Bad ≡ ok_or said Bad → said ≡ None
read_bad said is = sym (ok_of_ok_or said) ∙ ap result_ok (sym is)

pub read_put : (said : Option Line) → MatchOption said ⊥ PutsBytes
    → (event : Event) × (said ≡ Some (meant.Act event)) × IsPut event
read_put None puts = absurd puts
read_put (Some meant.Nothing) puts = absurd puts
read_put (Some (meant.Act event)) puts = (event, refl, puts)

-- ---- what was written

pub Appends-kept : (a b c : Option (List ℕ)) (x : List ℕ) → Appends a b x → Keeps b c
    → Appends a c x
Appends-kept None b c x h k = tt
Appends-kept (Some xs) None c x h k = absurd h
Appends-kept (Some xs) (Some ys) None x h k = absurd k
Appends-kept (Some xs) (Some ys) (Some zs) x h k = k ∙ h

-- what a last call writes comes after what was written before it
pub written_then : {A E : Type 0} (r : Result A E) (a b c : Option (List ℕ)) (x y : List ℕ)
    → Appends a b x → OnOk r (Appends b c y) → OnOk r (Appends a c (x ++ y))
written_then (Ok v) a b c x y h k = Appends-then a b c x y h k
written_then (Err e) a b c x y h k = tt

-- what holds after a successful call
pub done : {A E P : Type 0} (r : Result A E) → true ≡ is_ok r → OnOk r P → P
done (Ok v) well h = h
done (Err e) well h = absurd cc

-- ---- lines

pub line_ends : (line tail : List ℕ) → IsLine line → lines (line ++ (10 ∷ tail)) ≡ line ∷ lines tail
line_ends [] tail h = refl
line_ends (c ∷ cs) tail h =
    let rest : split 10 (cs ++ (10 ∷ tail)) ≡ cs ∷ split 10 tail = line_ends cs tail h.1 in
    rw (ne_eqb c 10 h.0, rest) refl

pub line_last : (line : List ℕ) → IsLine line → lines line ≡ line ∷ []
line_last [] h = refl
line_last (c ∷ cs) h =
    let rest : split 10 cs ≡ cs ∷ [] = line_last cs h.1 in
    rw (ne_eqb c 10 h.0, rest) refl

-- ---- the session

pub Goes-none : (s : SessionView) → ReadsOn s [] [] s
unfolding ReadsOn
Goes-none s = λ state begun h. (state, begun, h, λ tail rest last printed. printed)

pub Goes-then : (a b c : SessionView) (x y o q : List ℕ) → ReadsOn a x o b → ReadsOn b y q c
    → ReadsOn a (x ++ y) (o ++ q) c
unfolding ReadsOn
Goes-then a b c x y o q ab bc = λ state begun h.
    let first = ab state begun h in
    let second = bc first.0 first.1 first.2 in (
      second.0,
      second.1,
      second.2,
      λ tail rest last printed.
          let whole = first.3 (y ++ tail) (q ++ rest) last (second.3 tail rest last printed) in
          rw (append_assoc x y tail, append_assoc o q rest) whole,
    )

-- the same world
stands_too : (a b : WorldView) (state : ModelState) → b ≡ a → WorldStands a state
    → WorldStands b state
stands_too a b state same stands = subst (λ (w : WorldView). WorldStands w state) (sym same) stands

-- bytes that belong to the line
pub Goes-add : (a b : SessionView) (bytes : List ℕ) → AddsBytes a bytes b → ReadsOn a bytes [] b
unfolding ReadsOn
Goes-add a b bytes adds = λ state begun h. (
  state,
  begun ++ bytes,
  record { stands = stands_too a.world b.world state adds.world h.stands; begun = adds.begun begun h.begun },
  λ tail rest last printed.
      subst (λ (text : List ℕ). PrintedFrom state a.number (lines text) rest last) (append_assoc begun bytes tail)
      (subst (λ (n : ℕ). PrintedFrom state n (lines ((begun ++ bytes) ++ tail)) rest last) adds.number printed),
)

-- no byte of a line has come
pub no_line : (held : List ℕ) → held ≡ [] → HoldsLine held []
no_line held none = record { held_is = none; is_line = tt }

-- the same line answers the same
said_so : (old : ModelState) (number : ℕ) (read said : Option Line) (out : List ℕ)
    (new : ModelState) → read ≡ said → LineAnswered old number read out new
    → LineAnswered old number said out new
said_so old number read said out new e answered = subst (λ (o : Option Line). LineAnswered old number o out new) e answered

-- the line that has begun and ends with these bytes was answered by this
abbrev pub AnswersBegun : SessionView → List ℕ → List ℕ → WorldView → Type 0
AnswersBegun old piece out world = (state : ModelState) (begun : List ℕ)
    → SessionStands old state begun → (next : ModelState) × WorldStands world next
    × LineAnswered state old.number (meaning (begun ++ piece)) out next

-- a line that stands whole in its last bytes
pub answers_whole : (a : SessionView) (piece out : List ℕ) (w : WorldView) → length a.held ≡ 0
    → AnswersLine a.world a.number piece out w → AnswersBegun a piece out w
answers_whole a piece out w none answered = λ state begun h.
    let next = answered state h.stands in
    (next.0, next.1, rw (none_begun a.held begun none h.begun) next.2)

-- a line that is held when its last bytes have come
pub answers_held : (a b : SessionView) (piece out : List ℕ) (w : WorldView) → AddsBytes a piece b
    → AnswersLine b.world b.number b.held out w → AnswersBegun a piece out w
answers_held a b piece out w adds answered = λ state begun h.
    let next = answered state (stands_too a.world b.world state adds.world h.stands) in
    let means : meaning b.held ≡ meaning (begun ++ piece) = says b.held (begun ++ piece) (adds.begun begun h.begun) in
    let numbered : LineAnswered state a.number (meaning b.held) out next.0 = subst (λ (n : ℕ). LineAnswered state n (meaning b.held) out next.0) adds.number next.2 in
    (next.0, next.1, said_so state a.number (meaning b.held) (meaning (begun ++ piece)) out next.0 means numbered)

-- the end of a line
pub Goes-end : (a b : SessionView) (piece out : List ℕ) → IsLine piece
    → AnswersBegun a piece out b.world → b.number ≡ a.number + 1 → b.held ≡ []
    → ReadsOn a (piece ++ 10 ∷ []) out b
unfolding ReadsOn
Goes-end a b piece out line answered number none = λ state begun h.
    let next = answered state begun h in
    let all : IsLine (begun ++ piece) = is_line_more begun piece h.begun.is_line line in (
      next.0,
      [],
      record { stands = next.1; begun = no_line b.held none },
      λ tail rest last printed.
          let apart : begun ++ ((piece ++ 10 ∷ []) ++ tail) ≡ (begun ++ piece) ++ (10 ∷ tail) = ap (λ (xs : List ℕ). begun ++ xs) (append_assoc piece (10 ∷ []) tail) ∙ sym (append_assoc begun piece (10 ∷ tail)) in
          rw (apart, line_ends (begun ++ piece) tail all) (out, rest, next.0, next.2, rw (← number) printed, refl),
    )

-- ---- a line, answered

-- the same line is answered the same
pub answers_same : (w v : WorldView) (number : ℕ) (line other out : List ℕ) → line ≡ other
    → AnswersLine w number line out v → AnswersLine w number other out v
answers_same w v number line other out same answered = subst (λ (xs : List ℕ). AnswersLine w number xs out v) same answered

module _ (line : List ℕ) (read : Result Line LineFault)
    (reads : Reads PutsBytes (meaning line) read) where
  read_as : (made : Result Line LineFault) → read ≡ made → Reads PutsBytes (meaning line) made
  read_as made is = subst (λ (r : Result Line LineFault). Reads PutsBytes (meaning line) r) is reads

  pub was_bad : read ≡ Err Bad → None ≡ meaning line
  was_bad is = sym (read_bad (meaning line) (read_as (Err Bad) is))

  pub was_line : (l : Line) → read ≡ Ok l → Some l ≡ meaning line
  was_line l is = sym (read_line (meaning line) l (read_as (Ok l) is))

  pub was_put : read ≡ Err Memory
      → (event : Event) × (Some (meant.Act event) ≡ meaning line) × IsPut event
  was_put is =
      let put = read_put (meaning line) (read_as (Err Memory) is) in
      (put.0, sym put.1, put.2)

module _ (world : WorldView) (number : ℕ) (line : List ℕ) where
  pub answers_bad : None ≡ meaning line → AnswersLine world number line (bad_line number) world
  answers_bad means = λ state stands. (state, stands, said_so state number None _ _ state means (refl, refl))

  pub answers_nothing : Some meant.Nothing ≡ meaning line → AnswersLine world number line [] world
  answers_nothing means = λ state stands. (state, stands, said_so state number (Some meant.Nothing) _ _ state means (refl, refl))

  pub answers_event : (event : Event) (answer : Answer) (w : WorldView)
      → Some (meant.Act event) ≡ meaning line → Steps world event answer w
      → AnswersLine world number line (answer_text answer) w
  answers_event event answer w means steps = λ state stands.
      let step = steps state stands in
      (step.new, step.stands, said_so state number (Some (meant.Act event)) _ _ step.new means (inl (answer, step.next, refl)))

  pub answers_no_memory : ((event : Event) × (Some (meant.Act event) ≡ meaning line)
      × IsPut event) → AnswersLine world number line (refused_text (Node node_fault.Memory)) world
  answers_no_memory put = λ state stands. (state, stands, said_so state number (Some (meant.Act put.0)) _ _ state put.1 (inr (put.2, refl, refl)))

-- the last line is answered, and then it is the end
pub Ends-answer : (a : SessionView) (out more : List ℕ) (w : WorldView)
    → AnswersLine a.world a.number a.held out w → PrintsEnding w more → Ends a out more
unfolding Ends
Ends-answer a out more w answered settles = λ state begun h.
    let next = answered state h.stands in
    let said = said_so state a.number _ _ out next.0 (says a.held begun h.begun) next.2 in
    let printed : PrintedFrom state a.number (lines begun) out next.0 = rw (line_last begun h.begun.is_line) (out, [], next.0, said, (refl, refl), sym (append-nil out)) in
    (next.0, printed, settles next.0 out next.1)

-- the devices did not take what waited for them
pub settles_ill : (old new : WorldView) (why : NodeFault) → FinishFails old why new
    → PrintsEnding old end_refused
settles_ill old new why fails = λ m answers stands.
    let k : ℕ = fails.1.replica in
    let none : ReplicaView = record { node = record { id = 0; history = history_of_entries []; pool = no_pool }; buffers = [] } in
    let there : k < length m.replicas = omega (arith, fails.1.there, stands.replicas.same_length) in
    let here : ReplicaStands m.capacity k (get_or old.replicas k none) (replica m k) = stands.replicas.each k none no_replica fails.1.there in
    let at : index_of_number (k + 1) ≡ k = omega arith in
    let pool : (get_or old.replicas k none).node.pool ≡ pool_of m (k + 1) = ap (λ (v : NodeView). v.pool) here.node_is ∙ ap (λ (n : ℕ). (replica m n).pool) (sym at) in
    let failed : IsFailed (pool_of m (k + 1)) fails.1.pool = subst (λ (p : PoolView). IsFailed p fails.1.pool) pool (fails.1.failed none) in
    inr (
      record {
        replica = k + 1;
        device = failed.0;
        replica_there = record { from_one = omega arith; in_range = omega (arith, there) };
        device_there = failed.1.there;
        may = failed.1.may;
      },
      refl,
    )

-- the same bytes
pub Goes-bytes : (a b : SessionView) (x y out : List ℕ) → x ≡ y → ReadsOn a x out b
    → ReadsOn a y out b
Goes-bytes a b x y out same goes = subst (λ (bytes : List ℕ). ReadsOn a bytes out b) same goes

-- what was printed before is printed first
ends_after : (m : ModelState) (first answers out : List ℕ) → EndsIn m answers out
    → EndsIn m (first ++ answers) (first ++ out)
ends_after m first answers out (inl same) = inl (ap (λ (xs : List ℕ). first ++ xs) same)
ends_after m first answers out (inr refused) = inr (refused.0, ap (λ (xs : List ℕ). first ++ xs) refused.1 ∙ sym (append_assoc first answers end_refused))

-- a session that was fresh and reached the end of the input
pub Goes-whole : (a b : SessionView) (state : ModelState) (bytes out answers closing : List ℕ)
    → ReadsOn a bytes out b → Ends b answers closing → SessionStands a state [] → a.number ≡ 1
    → Played state bytes (out ++ (answers ++ closing))
unfolding ReadsOn Ends
Goes-whole a b state bytes out answers closing goes ends fresh first =
    let g = goes state [] fresh in
    let end = ends g.0 g.1 g.2 in
    let answered : PrintedFrom g.0 b.number (lines (g.1 ++ [])) answers end.0 = rw append-nil end.1 in
    let whole : PrintedFrom state a.number (lines bytes) (out ++ answers) end.0 = rw append-nil at (g.3 [] answers end.0 answered) in (
      out ++ answers,
      end.0,
      subst (λ (n : ℕ). PrintedFrom state n (lines bytes) (out ++ answers) end.0) first whole,
      ends_after end.0 out answers (answers ++ closing) end.2,
    )

-- ---- what was read

pub Consumes-none : (old : Option (List ℕ)) → Consumes old old []
Consumes-none None = tt
Consumes-none (Some xs) = refl

pub Consumes-then : (a b c : Option (List ℕ)) (x y : List ℕ) → Consumes a b x → Consumes b c y
    → Consumes a c (x ++ y)
Consumes-then None b c x y h k = tt
Consumes-then (Some xs) None c x y h k = absurd h
Consumes-then (Some xs) (Some ys) None x y h k = absurd k
Consumes-then (Some xs) (Some ys) (Some zs) x y h k = h ∙ ap (λ (t : List ℕ). x ++ t) k ∙ sym (append_assoc x y zs)

-- all was read
pub Consumes-all : (old new : Option (List ℕ)) (seen : List ℕ) → Consumes old new seen → IsAtEnd new
    → IfSome old (λ text. text ≡ seen)
Consumes-all None new seen h e = tt
Consumes-all (Some xs) None seen h e = absurd h
Consumes-all (Some xs) (Some ys) seen h e = h ∙ ap (λ (t : List ℕ). seen ++ t) e ∙ append-nil seen

pub if_some_map : {A : Type 0} (o : Option A) (P Q : A → Type 0) → ((x : A) → P x → Q x)
    → IfSome o P → IfSome o Q
if_some_map None P Q f h = tt
if_some_map (Some x) P Q f h = f x h

pub Consumes-kept : (a b : Option (List ℕ)) → Keeps a b → Consumes a b []
Consumes-kept None b k = tt
Consumes-kept (Some xs) None k = absurd k
Consumes-kept (Some xs) (Some ys) k = sym k

-- the same text
pub Played-text : (state : ModelState) (a b out : List ℕ) → a ≡ b → Played state a out
    → Played state b out
Played-text state a b out same played = subst (λ (text : List ℕ). Played state text out) same played

-- over devices that fit, what stops a play is why it does not reach its end
pub stopped_play : (setup : Sizes) (devices : List (List DeviceState)) (why : PlayFault)
    → AreFitting setup devices → StopsPlay why → PlayRefused setup devices why
stopped_play setup devices play_fault.BadDevices fits stops = absurd stops
stopped_play setup devices why fits stops = (fits, stops)
