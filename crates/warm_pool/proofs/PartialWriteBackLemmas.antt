-- Some dirty pages are written back, from the first frame on.
use Rattle.std.proofs.Common.{◌≡◌, ℕ, suc, ◌+◌, ◌-◌, ◌<◌, ◌≤◌, cond, Bool, true, false, length, take, Option, Some, None, refl, sym, ◌∙◌, ap, subst, arith, inl, inr}
use Rattle.std.proofs.lemmas.Bool.{cases_eq, ne_eqb, eq-eqb}
use Rattle.std.proofs.lemmas.Option.{same_Some}
use Rattle.warm_frame_table.specs.declared.selection.Devices.TheVariants.{All, One}
use Rattle.warm_frame_table.specs.Frames.{nth_frame, one_if, dirty_count}
use Rattle.warm_frame_table.proofs.CountLemmas.{count_more}
use Rattle.warm_pool.specs.State.{PoolState, nth_device}
use Rattle.warm_pool.specs.View.{view_of}
use Rattle.warm_pool.specs.Unchanged.{FailsAt, KeepsRanks}
use Rattle.warm_pool.specs.WritingBack.{WritesBack, cleaned_selected}
use Rattle.warm_pool.specs.steps.WritingBack.{CleanFails, WritesBackAll}
use Rattle.warm_pool.specs.Calls.{FlushesNone}
use Rattle.warm_pool.specs.WritingSome.{CleansFirst, SomeFails, room_after, IsSettledOn}
use Rattle.warm_pool.proofs.ClosingLemmas.{nth_rest, clean_to}
use Rattle.warm_pool.proofs.FlushLemmas.{same_shape}
use Rattle.warm_pool.proofs.SettleLemmas.{down_view, ranked_to}

-- what is left of the room after a frame
abbrev room_if : Bool → ℕ → Option ℕ
room_if full room = cond full None (Some (room - 1))

pub rest_is : (dirty : Bool) (room rest : ℕ) → room_after dirty room ≡ Some rest
    → rest + one_if dirty ≡ room
rest_is false room rest is = let same : room ≡ rest = same_Some room rest is in omega (arith, same)
rest_is true room rest is = elim (cases_eq room 0) [
  | inl e ↦ let no : None ≡ Some rest = sym (ap (λ (t : Bool). room_if t room) (eq-eqb room 0 e)) ∙ is in absurd (cc)
  | inr ne ↦
      let same : room - 1 ≡ rest = same_Some (room - 1) rest (sym (ap (λ (t : Bool). room_if t room) (ne_eqb room 0 ne)) ∙ is) in
      omega (arith, same, ne)
]

pub none_left : (dirty : Bool) (room : ℕ) → room_after dirty room ≡ None → room ≡ 0
none_left false room is = let no : Some room ≡ None = is in absurd (cc)
none_left true room is = elim (cases_eq room 0) [
  | inl e ↦ e
  | inr ne ↦ let no : Some (room - 1) ≡ None = sym (ap (λ (t : Bool). room_if t room) (ne_eqb room 0 ne)) ∙ is in absurd (cc)
]

-- The pages of the frames before `at` were written back, and room is left for this many more.
pub record SomeSoFar (limit at room : ℕ) (old new : PoolState) : Type 0 where
  pub spent : dirty_count (take at old.frames) + room ≡ limit
  pub down : WritesBack (cleaned_selected All at old.frames) old new
  pub unflushed : FlushesNone old.devices new.devices

-- the current frame is as it was
pub still_dirty : (at : ℕ) (old new : PoolState)
    → WritesBack (cleaned_selected All at old.frames) old new
    → (nth_frame new.frames at).dirty ≡ (nth_frame old.frames at).dirty
still_dirty at old new down = ap (λ fs. (nth_frame fs at).dirty) down.becomes ∙ ap (λ f. f.dirty) (nth_rest All at old.frames at (omega arith))

pub spent_more : (limit at room rest : ℕ) (old new : PoolState) → at < length old.frames
    → SomeSoFar limit at room old new
    → room_after (nth_frame new.frames at).dirty room ≡ Some rest
    → dirty_count (take (at + 1) old.frames) + rest ≡ limit
spent_more limit at room rest old new lt so is =
    let one : suc at ≡ at + 1 = omega arith in
    let more = count_more at old.frames lt in
    let left = rest_is (nth_frame old.frames at).dirty room rest (subst (λ d. room_after d room ≡ Some rest) (still_dirty at old new so.down) is) in
    let spent = so.spent in
    subst (λ n. dirty_count (take n old.frames) + rest ≡ limit) one (omega (arith, more, left, spent))

-- no more may be written, or no frame is left
pub full_first : (limit at room : ℕ) (old new : PoolState) → at < length old.frames
    → SomeSoFar limit at room old new → room_after (nth_frame new.frames at).dirty room ≡ None
    → CleansFirst limit old new
full_first limit at room old new lt so is =
    let none = none_left (nth_frame new.frames at).dirty room is in let spent = so.spent in
    record { upto = at; within = omega (arith, lt); few = omega (arith, spent); whole = λ _. omega (arith, none, spent); down = so.down; unflushed = so.unflushed }

pub all_first : (limit at room : ℕ) (old new : PoolState) → at ≤ length old.frames
    → length old.frames ≤ at → SomeSoFar limit at room old new → CleansFirst limit old new
all_first limit at room old new within all so =
    let spent = so.spent in
    record { upto = at; within = within; few = omega (arith, spent); whole = λ lt. absurd (omega (arith, lt, all)); down = so.down; unflushed = so.unflushed }

-- the write of a frame's page failed
pub some_fails : (limit at room rest : ℕ) (old new later : PoolState) → at < length old.frames
    → SomeSoFar limit at room old new
    → room_after (nth_frame new.frames at).dirty room ≡ Some rest → view_of new ≡ view_of old
    → FlushesNone new.devices later.devices → CleanFails new at later → SomeFails limit old later
some_fails limit at room rest old new later lt so is same none fails =
    let here : nth_frame new.frames at ≡ nth_frame old.frames at = ap (λ fs. nth_frame fs at) so.down.becomes ∙ nth_rest All at old.frames at (omega arith) in
    let was : (nth_frame old.frames at).dirty ≡ true = ap (λ f. f.dirty) (sym here) ∙ fails.dirty in
    let more = spent_more limit at room rest old new lt so is in
    let one : suc at ≡ at + 1 = omega arith in
    let count = count_more at old.frames lt in
    let unit : one_if (nth_frame old.frames at).dirty ≡ 1 = ap one_if was in
    let all : dirty_count (take (suc at) old.frames) + rest ≡ limit = subst (λ n. dirty_count (take n old.frames) + rest ≡ limit) (sym one) more in
    record {
      frame = at;
      page = fails.page;
      there = lt;
      holds = ap (λ f. f.page) (sym here) ∙ fails.holds;
      dirty = was;
      below = omega (arith, count, unit, all);
      frames = fails.frames ∙ so.down.becomes;
      fails = subst (λ v. FailsAt v fails.page.dev (view_of later)) same fails.fails;
      unflushed = λ k. none k ∙ so.unflushed k;
    }

-- before the first frame
pub none_so_far : (limit : ℕ) (s : PoolState) → SomeSoFar limit 0 limit s s
none_so_far limit s = record {
  spent = omega arith;
  down = record {
    becomes = refl;
    devices = record { count = refl; shape = λ k. same_shape (nth_device s.devices k); absent = λ p away. refl; clean = λ i p holds is. refl };
    failures = refl;
    same = (refl, refl);
  };
  unflushed = λ k. refl;
}

-- ranks
pub first_ranked : (limit : ℕ) (old new : PoolState) → CleansFirst limit old new
    → KeepsRanks old new
first_ranked limit old new first = λ h ranked. ranked_to All first.upto old.frames new.frames h first.down.becomes ranked

pub failed_ranked : (limit : ℕ) (old new : PoolState) → SomeFails limit old new
    → KeepsRanks old new
failed_ranked limit old new fails = λ h ranked. ranked_to All fails.frame old.frames new.frames h fails.frames ranked

-- and what a caller sees
pub first_view : (limit : ℕ) (old new : PoolState) → CleansFirst limit old new
    → view_of new ≡ view_of old
first_view limit old new first = down_view All first.upto old new first.down

-- one device
pub settled_on : (dev : ℕ) (old new : PoolState) → WritesBackAll (One dev) old new
    → (nth_device new.devices dev).waiting ≡ false → IsSettledOn dev new
settled_on dev old new down flushed = record {
  clean = λ i on. clean_to (One dev) old.frames new.frames down.becomes i on;
  flushed = flushed;
}
