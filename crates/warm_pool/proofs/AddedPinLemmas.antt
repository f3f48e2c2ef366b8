-- Pins that are added to other pages leave the victim as it is.
use Rattle.std.proofs.Common.{◌≡◌, ◌≢◌, ℕ, suc, zero, ◌+◌, ◌<◌, ◌≤◌, cond, true, List, [], ◌∷◌, length, map, get_or, Option, Some, None, refl, sym, ◌∙◌, ap, subst, inl, inr, arith}
use Rattle.std.specs.List.{Contains, cons_option}
use Rattle.std.proofs.lemmas.Bool.{cases_Bool, cases_eq, ne_eqb, eq-eqb}
use Rattle.std.proofs.lemmas.List.{length-set}
use Rattle.std.proofs.lemmas.Option.{same_Some}
use Rattle.warm_stamps.specs.declared.PageId.{PageId}
use Rattle.warm_history.specs.ReferenceSets.{ReferenceSet}
use Rattle.warm_history.specs.Histories.{references_of}
use Rattle.warm_rank.specs.Ranking.{IsBefore, IsVictim}
use Rattle.warm_rank.specs.Laws.{pages_in}
use Rattle.warm_rank.proofs.EvictionLemmas.{eviction_is_order}
use Rattle.warm_frame_table.proofs.ListLemmas.{at_set}
use Rattle.warm_pool.specs.View.{FrameView, PoolView, frame_at, is_page, unfixed_page, unfixed_pages}
use Rattle.warm_pool.specs.Laws.{AddsPins, PinAddsPins, MorePinsKeepVictim, MorePinsKeepFrame}
use Rattle.warm_pool.proofs.PageByteLemmas.{page_found, found_page}

-- a frame without a page
abbrev pub no_frame : FrameView
no_frame = record { page = None; generation = 0; fixes = 0 }

abbrev nth : List FrameView → ℕ → FrameView
nth fs i = get_or fs i no_frame

-- the pages without a pin

contains_later : (x y : PageId) (xs : List PageId) → Contains xs y → Contains (x ∷ xs) y
contains_later x y xs (k, lt, is) = (suc k, omega arith, is)

cons_fewer : (o p : Option PageId) (us vs : List PageId) (q : PageId)
    → ((x : PageId) → o ≡ Some x → p ≡ Some x) → (Contains us q → Contains vs q)
    → Contains (cons_option o us) q → Contains (cons_option p vs) q
cons_fewer None None us vs q first rest has = rest has
cons_fewer None (Some y) us vs q first rest has = contains_later y q vs (rest has)
cons_fewer (Some x) None us vs q first rest has = let no : None ≡ Some x = first x refl in absurd (cc)
cons_fewer (Some x) (Some y) us vs q first rest (zero, lt, is) = (0, omega arith, same_Some y x (first x refl) ∙ is)
cons_fewer (Some x) (Some y) us vs q first rest (suc k, lt, is) = contains_later y q vs (rest (k, omega arith, is))

still_unfixed : (f g : FrameView) → g.page ≡ f.page → f.fixes ≤ g.fixes → (x : PageId)
    → unfixed_page g ≡ Some x → unfixed_page f ≡ Some x
still_unfixed f g page fixes x is = elim (cases_eq g.fixes 0) [
  | inl none ↦
      let fewest : f.fixes ≡ 0 = omega (arith, fixes, none) in
      ap (λ t. cond t f.page None) (eq-eqb f.fixes 0 fewest) ∙ sym page ∙ sym (ap (λ t. cond t g.page None) (eq-eqb g.fixes 0 none)) ∙ is
  | inr some ↦ let no : None ≡ Some x = sym (ap (λ t. cond t g.page None) (ne_eqb g.fixes 0 some)) ∙ is in absurd (cc)
]

fewer : (fs gs : List FrameView) → length gs ≡ length fs
    → ((i : ℕ) → (nth gs i).page ≡ (nth fs i).page)
    → ((i : ℕ) → (nth fs i).fixes ≤ (nth gs i).fixes) → (q : PageId)
    → Contains (pages_in (map unfixed_page gs)) q → Contains (pages_in (map unfixed_page fs)) q
fewer fs [] count pages fixes q (k, lt, is) = absurd (omega arith)
fewer [] (g ∷ gs) count pages fixes q has = absurd (omega arith)
fewer (f ∷ fs) (g ∷ gs) count pages fixes q has =
    cons_fewer (unfixed_page g) (unfixed_page f) (pages_in (map unfixed_page gs)) (pages_in (map unfixed_page fs)) q
    (still_unfixed f g (pages 0) (fixes 0))
    (fewer fs gs (omega arith) (λ i. pages (suc i)) (λ i. fixes (suc i)) q)
    has

first_of : (o : Option PageId) (us : List PageId) (p : PageId) → o ≡ Some p
    → Contains (cons_option o us) p
first_of None us p is = absurd (cc)
first_of (Some q) us p is = (0, omega arith, same_Some q p is)

later_of : (o : Option PageId) (us : List PageId) (p : PageId) → Contains us p
    → Contains (cons_option o us) p
later_of None us p has = has
later_of (Some q) us p has = contains_later q p us has

unfixed_in : (fs : List FrameView) (i : ℕ) (p : PageId) → i < length fs
    → (nth fs i).page ≡ Some p → (nth fs i).fixes ≡ 0
    → Contains (pages_in (map unfixed_page fs)) p
unfixed_in [] i p lt holds none = absurd (omega arith)
unfixed_in (f ∷ fs) zero p lt holds none =
    first_of (unfixed_page f) (pages_in (map unfixed_page fs)) p (ap (λ t. cond t f.page None) (eq-eqb f.fixes 0 none) ∙ holds)
unfixed_in (f ∷ fs) (suc i) p lt holds none =
    later_of (unfixed_page f) (pages_in (map unfixed_page fs)) p (unfixed_in fs i p (omega arith) holds none)

-- The laws

kept : (S : ReferenceSet) (old new : PoolView) (p : PageId) → AddsPins old new
    → Contains (unfixed_pages new) p → IsVictim S (unfixed_pages old) (Some p)
    → IsVictim S (unfixed_pages new) (Some p)
kept S old new p adds has victim =
    (has, λ q one differ. victim.1 q (fewer old.frames new.frames adds.count adds.pages adds.fixes q one) differ)

nothing_in : (p : PageId) → Contains [] p → ⊥
nothing_in p (k, lt, is) = absurd (omega arith)

-- there is one victim
pub one_victim : (S : ReferenceSet) (U : List PageId) (p : PageId) → IsVictim S U (Some p)
    → (q : Option PageId) → IsVictim S U q → q ≡ Some p
one_victim S U p first None none =
    absurd (nothing_in p (subst (λ V. Contains V p) none first.0))
one_victim S U p first (Some q) second = elim (cases_Bool (is_page p (Some q))) [
  | inl same ↦ page_found p (Some q) same
  | inr other ↦
      let apart : q ≢ p = λ e. let yes : is_page p (Some q) ≡ true = found_page p (Some q) (ap Some e) in absurd (cc) in
      let before : IsBefore S p q = first.1 q second.0 apart in
      let after : IsBefore S q p = second.1 p first.0 (λ e. apart (sym e)) in
      let order = eviction_is_order S in
      absurd (order.irreflexive p (order.transitive p q p before after))
]

pub more_pins_keep_victim : MorePinsKeepVictim
more_pins_keep_victim S old new p adds has victim q =
    let stays = kept S old new p adds has victim in
    (one_victim S (unfixed_pages new) p stays q, λ is. subst (IsVictim S (unfixed_pages new)) (sym is) stays)

pub more_pins_keep_frame : MorePinsKeepFrame
more_pins_keep_frame h old new i adds none (inl free) = inl (record {
  there = subst (λ n. i < n) (sym adds.count) free.there;
  free = adds.pages i ∙ free.free;
  least = λ j lt e. free.least j lt (sym (adds.pages j) ∙ e);
})
more_pins_keep_frame h old new i adds none (inr left) =
    let there : i < length new.frames = subst (λ n. i < n) (sym adds.count) left.there in
    let holds : (frame_at new i).page ≡ Some left.page = adds.pages i ∙ left.holds in
    inr (record {
      there = there;
      full = λ j lt e. left.full j (subst (λ n. j < n) adds.count lt) (sym (adds.pages j) ∙ e);
      page = left.page;
      holds = holds;
      unfixed = none;
      victim = kept (references_of h) old new left.page adds (unfixed_in new.frames i left.page there holds none) left.victim;
    })

pub pin_adds_pins : PinAddsPins
pin_adds_pins old new p slot pin =
    let pinned : FrameView = record (frame_at old slot.index) { fixes = (frame_at old slot.index).fixes + 1 } in
    subst (AddsPins old) (sym pin.becomes) (record {
      count = length-set old.frames slot.index pinned;
      pages = at_set no_frame (λ i f. f.page ≡ (frame_at old i).page) old.frames slot.index pinned pin.there refl (λ i ne. refl);
      fixes = at_set no_frame (λ i f. (frame_at old i).fixes ≤ f.fixes) old.frames slot.index pinned pin.there (omega arith) (λ i ne. omega arith);
    })
