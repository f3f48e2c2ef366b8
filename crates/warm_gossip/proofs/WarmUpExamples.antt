-- Worked examples: a pool of two frames is warmed up in two steps, the second of which takes the
-- frame of the victim.
use Rattle.std.proofs.Common.{◌≡◌, ◌≢◌, ◌<◌, ℕ, zero, suc, true, false, [], ◌∷◌, length, refl, sym, subst, ◌∙◌, Some, None, inl, inr, arith}
use Rattle.std.specs.List.{Contains}
use Rattle.std.proofs.lemmas.Bool.{false≢true}
use Rattle.warm_stamps.specs.declared.PageId.{PageId}
use Rattle.warm_stamps.specs.declared.Reference.{Reference}
use Rattle.warm_history.specs.ReferenceSets.{ReferenceSet, set_of_list}
use Rattle.warm_history.specs.Histories.{history, references_of}
use Rattle.warm_rank.specs.Ranking.{eviction_cmp, IsBefore, IsVictim, hottest_pages}
use Rattle.warm_pool.specs.View.{PoolView, FrameView, DeviceView, device_at, contents_at, frame_at, is_page, IsAbsent}
use Rattle.warm_pool.specs.Unchanged.{KeepsContents}
use Rattle.warm_pool.specs.Pinning.{HasNoFreeFrame, PutsIn}
use Rattle.warm_pool.proofs.PageByteLemmas.{found_page}
use Rattle.warm_gossip.specs.declared.call.Call.TheVariants.{WarmStep}
use Rattle.warm_gossip.specs.declared.call.Reply.TheVariants.{Loaded}
use Rattle.warm_gossip.specs.State.{NodeView}
use Rattle.warm_gossip.specs.Step.{IsLoadable, IsNextWarm, Step, nth_page}
use Rattle.warm_gossip.specs.Victims.{IsEvicted}
use Rattle.warm_gossip.specs.WarmUps.{WarmSteps}

-- the page 0:n, and a reference to it at a time
abbrev page : ℕ → PageId
page n = record { dev = 0; no = n }

abbrev seen : ℕ → ℕ → Reference
seen n time = record { page = page n; stamp = record { time = time; replica = 1 } }

-- 0:2 is hotter than 0:1, and 0:0 is the coldest
abbrev heated : ReferenceSet
heated = set_of_list (seen 0 1 ∷ seen 1 2 ∷ seen 1 3 ∷ seen 2 4 ∷ seen 2 5 ∷ [])

two_hottest : hottest_pages heated 2 ≡ page 2 ∷ page 1 ∷ []
unfolding eviction_cmp
two_hottest = refl

-- ---- two frames over a device of three pages of one byte

abbrev held : ℕ → ℕ → FrameView
held n generation = record { page = Some (page n); generation = generation; fixes = 0 }

abbrev free : FrameView
free = record { page = None; generation = 0; fixes = 0 }

abbrev pool : FrameView → FrameView → PoolView
pool first second =
    let device : DeviceView = record { pages = 3; honest = true; unfailing = true } in
    record {
      page_size = 1;
      devices = device ∷ [];
      frames = first ∷ second ∷ [];
      contents = ((7 ∷ []) ∷ (8 ∷ []) ∷ (9 ∷ []) ∷ []) ∷ [];
      failures = 0 ∷ [];
    }

abbrev node : FrameView → FrameView → NodeView
node first second = record { id = 1; history = history heated; pool = pool first second }

-- only 0:0 is resident; then 0:2 too; then 0:1 in the place of 0:0
abbrev cold : NodeView
cold = node (held 0 1) free

abbrev warmer : NodeView
warmer = node (held 0 1) (held 2 1)

abbrev hot : NodeView
hot = node (held 1 2) (held 2 1)

-- a page that is in neither frame is in none
away : (first second : FrameView) (p : PageId) → is_page p first.page ≡ false
    → is_page p second.page ≡ false → IsAbsent (pool first second) p
away first second p one other zero held = absurd (false≢true (sym one ∙ found_page p first.page held))
away first second p one other (suc zero) held = absurd (false≢true (sym other ∙ found_page p second.page held))
away first second p one other (suc (suc i)) held = let never : None ≡ Some p = held in absurd (cc)

-- ---- no byte of any page changes

no_bytes : (first second : FrameView) (dev number : ℕ)
    → (device_at (pool first second) dev).honest ≡ false
    → contents_at (pool first second) (record { dev = dev; no = number }) ≡ []
no_bytes first second zero number is = let never : true ≡ false = is in absurd (cc)
no_bytes first second (suc dev) number is = refl

one_byte : (m n g k : ℕ) → length (contents_at (pool (held m g) (held n k)) (page m)) ≡ 1
    → length (contents_at (pool (held m g) (held n k)) (page n)) ≡ 1
    → (i : ℕ) (p : PageId) → (frame_at (pool (held m g) (held n k)) i).page ≡ Some p
    → length (contents_at (pool (held m g) (held n k)) p) ≡ 1
one_byte m n g k first second zero p is = let same : page m ≡ p = cc in subst (λ q. length (contents_at (pool (held m g) (held n k)) q) ≡ 1) same first
one_byte m n g k first second (suc zero) p is = let same : page n ≡ p = cc in subst (λ q. length (contents_at (pool (held m g) (held n k)) q) ≡ 1) same second
one_byte m n g k first second (suc (suc i)) p is = let never : None ≡ Some p = is in absurd (cc)

keeps : (first second : FrameView) (m n g k : ℕ)
    → length (contents_at (pool (held m g) (held n k)) (page m)) ≡ 1
    → length (contents_at (pool (held m g) (held n k)) (page n)) ≡ 1
    → KeepsContents (pool first second) (pool (held m g) (held n k))
keeps first second m n g k one other = record {
  honest = λ p has is. refl;
  resident = λ p was is. refl;
  absent = λ p is away. no_bytes (held m g) (held n k) p.dev p.no is;
  sized = λ p there. one_byte m n g k one other there.frame p there.holds;
}

-- ---- the first step puts 0:2 into the free frame

next_is_2 : IsNextWarm cold (Some (page 2))
unfolding eviction_cmp history
next_is_2 = (0, omega arith, refl, (record { device = omega arith; number = omega arith }, away (held 0 1) free (page 2) refl refl), λ j lt. absurd (omega (arith, lt)))

puts_2 : PutsIn (history heated) (pool (held 0 1) free) (page 2) 0
    (record { index = 1; generation = 1 }) (pool (held 0 1) (held 2 1))
puts_2 = record {
  absent = next_is_2.3.1;
  to_load = inl (record { there = omega arith; free = refl; least = taken });
  below = omega arith;
  current = refl;
  becomes = refl;
  contents = keeps (held 0 1) free 0 2 1 1 refl refl;
}
  where
    taken : (j : ℕ) → j < 1 → (frame_at (pool (held 0 1) free) j).page ≢ None
    taken zero lt is = let never : Some (page 0) ≡ None = is in absurd (cc)
    taken (suc j) lt is = absurd (omega (arith, lt))

first_step : Step cold WarmStep (Loaded (Some (page 2))) warmer
first_step = (next_is_2, (refl, (record { index = 1; generation = 1 }, puts_2)))

-- ---- the second puts 0:1 into the frame of 0:0, the victim

next_is_1 : IsNextWarm warmer (Some (page 1))
unfolding eviction_cmp history
next_is_1 = (1, omega arith, refl, (record { device = omega arith; number = omega arith }, away (held 0 1) (held 2 1) (page 1) refl refl), not_before)
  where
    not_before : (j : ℕ) → j < 1
        → IsLoadable (pool (held 0 1) (held 2 1)) (nth_page (page 2 ∷ page 1 ∷ []) j) → ⊥
    not_before zero lt loadable = loadable.1 1 refl
    not_before (suc j) lt loadable = absurd (omega (arith, lt))

victim_is_0 : IsVictim (references_of (history heated)) (page 0 ∷ page 2 ∷ []) (Some (page 0))
unfolding eviction_cmp history
victim_is_0 = ((0, omega arith, refl), others)
  where
    others : (q : PageId) → Contains (page 0 ∷ page 2 ∷ []) q → q ≢ page 0
        → IsBefore (references_of (history heated)) (page 0) q
    others q (zero, lt, is) differ = absurd (differ (sym is))
    others q (suc zero, lt, is) differ = subst (IsBefore (references_of (history heated)) (page 0)) is refl
    others q (suc (suc k), lt, is) differ = absurd (omega arith)

puts_1 : PutsIn (history heated) (pool (held 0 1) (held 2 1)) (page 1) 0
    (record { index = 0; generation = 2 }) (pool (held 1 2) (held 2 1))
puts_1 = record {
  absent = next_is_1.3.1;
  to_load = inr (record { there = omega arith; full = full; page = page 0; holds = refl; unfixed = refl; victim = victim_is_0 });
  below = omega arith;
  current = refl;
  becomes = refl;
  contents = keeps (held 0 1) (held 2 1) 1 2 2 1 refl refl;
}
  where
    full : HasNoFreeFrame (pool (held 0 1) (held 2 1))
    full zero lt is = let never : Some (page 0) ≡ None = is in absurd (cc)
    full (suc zero) lt is = let never : Some (page 2) ≡ None = is in absurd (cc)
    full (suc (suc i)) lt is = absurd (omega (arith, lt))

second_step : Step warmer WarmStep (Loaded (Some (page 1))) hot
second_step = (next_is_1, (refl, (record { index = 0; generation = 2 }, puts_1)))

two_steps : WarmSteps 2 cold hot
two_steps = (Some (page 2), warmer, first_step, (Some (page 1), hot, second_step, refl))

-- the page 0:0 left
page_0_left : IsEvicted warmer.pool hot.pool (page 0)
page_0_left = (record { frame = 0; there = omega arith; holds = refl }, away (held 1 2) (held 2 1) (page 0) refl refl)
