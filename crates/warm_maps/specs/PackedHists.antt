-- The history of a page in four numbers: two times and two replica numbers. The second replica
-- number is 0, and the second time with it, if the page has only one stamp.
use Rattle.std.specs.Prelude.{◌≡◌, ℕ, ◌==◌, ◌≤◌, Bool, true, false, cond}
use Rattle.std.proofs.Common.{sym, refl}
use Rattle.std.proofs.lemmas.Bool.{eqb-true}
use Rattle.std.specs.declared.cmp.Ordering.TheVariants.{Less}
use Rattle.warm_stamps.specs.declared.Stamp.{Stamp}
use Rattle.warm_stamps.specs.declared.TheConstants.{MAX_REPLICAS}
use Rattle.warm_stamps.specs.Replicas.{IsReplica}
use Rattle.warm_stamps.specs.Stamps.{stamp_at, stamp_cmp}
use Rattle.warm_maps.specs.declared.hist.PageHist.{PageHist}
use Rattle.warm_maps.specs.declared.hist.PageHist.TheVariants.{Once, Twice}

-- the history of these two stamps, or of the first alone if the second has no replica
abbrev pub unpacked : Stamp → Stamp → PageHist
unpacked last prev =
    cond (prev.replica == 0) (Once last) (Twice (record { last = last; prev = prev }))

-- the latest stamp
abbrev pub last_of : PageHist → Stamp
last_of (Once last) = last
last_of (Twice two) = two.last

-- the second latest stamp, or one of no replica
abbrev pub prev_of : PageHist → Stamp
prev_of (Once last) = stamp_at 0 0
prev_of (Twice two) = two.prev

-- what is true of the two stamps: the second is older than the first, and has the time 0 if it has
-- no replica
pub record ArePacked (last prev : Stamp) : Type 0 where
  pub last_replica : IsReplica last.replica
  pub prev_replica : prev.replica ≤ MAX_REPLICAS
  pub none : prev.replica ≡ 0 → prev.time ≡ 0
  pub older : stamp_cmp prev last ≡ Less

-- the history of these four numbers
abbrev pub hist_of_numbers : ℕ → ℕ → ℕ → ℕ → PageHist
hist_of_numbers last last_replica prev prev_replica =
    unpacked (stamp_at last last_replica) (stamp_at prev prev_replica)

-- what is true of the four numbers
abbrev pub ArePackedNumbers : ℕ → ℕ → ℕ → ℕ → Type 0
ArePackedNumbers last last_replica prev prev_replica =
    ArePacked (stamp_at last last_replica) (stamp_at prev prev_replica)

-- ---- what is packed of an unpacked history is what was packed

last_unpacked : (last prev : Stamp) → last_of (unpacked last prev) ≡ last
last_unpacked last prev = cases (prev.replica == 0)
  where
    cases : (b : Bool) → last_of (cond b (Once last) (Twice (record { last = last; prev = prev })))
        ≡ last
    cases true = refl
    cases false = refl

prev_unpacked : (last prev : Stamp) → ArePacked last prev → prev_of (unpacked last prev) ≡ prev
prev_unpacked last prev are = cases (prev.replica == 0) refl
  where
    cases : (b : Bool) → (prev.replica == 0) ≡ b
        → prev_of (cond b (Once last) (Twice (record { last = last; prev = prev }))) ≡ prev
    cases true is =
        let none : prev.replica ≡ 0 = eqb-true prev.replica 0 is in
        λ i. record { time = sym (are.none none) i; replica = sym none i }
    cases false is = refl

-- packing an unpacked history gives what was packed
pub packed_again : {A : Type 0} (pack : Stamp → Stamp → A) (last prev : Stamp) → ArePacked last prev
    → pack (last_of (unpacked last prev)) (prev_of (unpacked last prev)) ≡ pack last prev
packed_again pack last prev are =
    λ i. pack (last_unpacked last prev i) (prev_unpacked last prev are i)
