-- A frame is unlinked from its chain, and linked into another.
use Rattle.std.proofs.Common.{◌≡◌, ◌≢◌, ℕ, suc, ◌<◌, ◌≤◌, List, length, get_or, set, sym, ap, refl, ◌∙◌, subst, Option, Some, None, inl, inr, ◌⊎◌, arith, get_or-set_same, get_or-set_other}
use Rattle.std.proofs.lemmas.List.{get_or_read, length-set}
use Rattle.std.proofs.lemmas.Bool.{cases_eq, cases_lt}
use Rattle.warm_frame_table.specs.stored.Chains.{IsFirstFrom, AreChains, IsPredecessor, after, link_after, heads_with_link, next_with_link, chains_without}
use Rattle.warm_frame_table.proofs.ChainLemmas.{not_after, link_first, outside, of_others, passed_over, comes_first, comes_before, other_than, same_count}

pub length-heads_with_link : (heads : List ℕ) (b : ℕ) (last : Option ℕ) (to : ℕ)
    → length (heads_with_link heads b last to) ≡ length heads
length-heads_with_link heads b None to = length-set heads b to
length-heads_with_link heads b (Some x) to = refl

pub length-next_with_link : (next : List ℕ) (last : Option ℕ) (to : ℕ)
    → length (next_with_link next last to) ≡ length next
length-next_with_link next None to = refl
length-next_with_link next (Some x) to = length-set next x to

other_head : (heads : List ℕ) (b c : ℕ) (last : Option ℕ) (to : ℕ) → c ≢ b
    → get_or (heads_with_link heads b last to) c 0 ≡ get_or heads c 0
other_head heads b c None to ne = get_or-set_other heads b c to 0 ne
other_head heads b c (Some x) to ne = refl

other_next : (next : List ℕ) (y : ℕ) (last : Option ℕ) (to : ℕ) → (last ≡ Some y → ⊥)
    → get_or (next_with_link next last to) y 0 ≡ get_or next y 0
other_next next y None to ne = refl
other_next next y (Some x) to ne = get_or-set_other next x y to 0 (λ e. ne (ap Some (sym e)))

-- Frame f changes from one chain into another, and the link to it in chain b now leads on to `to`.
-- If `to` is the first frame of b after each frame from which f was the next, all links of the
-- frames but f's are right again.
module _ (frames heads next : List ℕ) (b f v to : ℕ) (last : Option ℕ) (lt : f < length frames)
    (in_heads : b < length heads) (chains : AreChains frames heads next)
    (is_last : IsPredecessor frames b f last) where
  abbrev now : List ℕ
  now = set frames f v

  abbrev Leads : Type 0
  Leads = (from : ℕ) → from ≤ f → ((y : ℕ) → from ≤ y → y < f → get_or frames y 0 ≢ b) → IsFirstFrom now b from to

  head_of : (last : Option ℕ) → IsPredecessor frames b f last → Leads
      → IsFirstFrom now b 0 (get_or (heads_with_link heads b last to) b 0)
  head_of None before leads = subst (λ n. IsFirstFrom now b 0 n) (sym (get_or-set_same heads b to 0 in_heads)) (leads 0 (omega arith) before.between)
  head_of (Some x) before leads =
      let first = chains.heads_are b in_heads in
      let le : get_or heads b 0 ≤ x = not_after frames b 0 (get_or heads b 0) x first (omega arith) before.is_of.1 in
      let less : suc x ≤ f = before.below in
      outside frames f v b 0 (get_or heads b 0) (inr (omega arith)) first

  pub heads_after : Leads → ((c : ℕ) → c < length heads → c ≢ b → (get_or frames f 0 ≢ c) × (v ≢ c))
      → (c : ℕ) → c < length heads
      → IsFirstFrom now c 0 (get_or (heads_with_link heads b last to) c 0)
  heads_after leads others c low = elim (cases_eq c b) [
    | inl e ↦ subst (λ n. IsFirstFrom now n 0 (get_or (heads_with_link heads b last to) n 0)) (sym e) (head_of last is_last leads)
    | inr ne ↦
        let apart = others c low ne in
        subst (λ n. IsFirstFrom now c 0 n) (sym (other_head heads b c last to ne)) (of_others frames f v c 0 (get_or heads c 0) lt apart.0 apart.1 (chains.heads_are c low))
  ]

  next_before : (last : Option ℕ) → IsPredecessor frames b f last → Leads → (y : ℕ) → y < f
      → get_or frames y 0 ≡ b → IsFirstFrom now b (suc y) (get_or (next_with_link next last to) y 0)
  next_before None before leads y less is = absurd (before.between y (omega arith) less is)
  next_before (Some x) before leads y less is = elim (cases_eq y x) [
    | inl e ↦
        let room : x < length next = subst (λ n. x < n) (sym chains.next_size) before.is_of.0 in
        subst (λ n. IsFirstFrom now b (suc n) (get_or (next_with_link next (Some x) to) n 0)) (sym e)
        (subst (λ n. IsFirstFrom now b (suc x) n) (sym (get_or-set_same next x to 0 room)) (leads (suc x) before.below before.between))
    | inr ne ↦ elim (cases_lt y x) [
      | inl under ↦
          let first : IsFirstFrom frames b (suc y) (get_or next y 0) = link_first frames heads next b (Some y) chains in_heads (omega arith, is) in
          let le : get_or next y 0 ≤ x = not_after frames b (suc y) (get_or next y 0) x first (omega arith) before.is_of.1 in
          let low : suc x ≤ f = before.below in
          subst (λ n. IsFirstFrom now b (suc y) n) (sym (get_or-set_other next x y to 0 ne)) (outside frames f v b (suc y) (get_or next y 0) (inr (omega arith)) first)
      | inr over ↦ absurd (before.between y (omega arith) less is)
    ]
  ]

  -- the last frame below f is neither above it nor of another chain
  not_last : (last : Option ℕ) → IsPredecessor frames b f last → (y : ℕ)
      → (f ≤ y) ⊎ (get_or frames y 0 ≢ b) → last ≡ Some y → ⊥
  not_last None before y out e = absurd (cc)
  not_last (Some x) before y out e =
      let same : x ≡ y = cc in
      let low : suc x ≤ f = before.below in
      elim out [ inl above ↦ omega arith | inr other ↦ other (ap (λ n. get_or frames n 0) (sym same) ∙ before.is_of.1) ]

  pub next_after : Leads → ((c : ℕ) → c < length heads → c ≢ b → (get_or frames f 0 ≢ c) × (v ≢ c))
      → (y : ℕ) → y ≢ f → y < length frames → get_or frames y 0 < length heads
      → IsFirstFrom now (get_or frames y 0) (suc y) (get_or (next_with_link next last to) y 0)
  next_after leads others y ne low in_chain =
      let first = chains.next_are y low in_chain in
      elim (cases_eq (get_or frames y 0) b) [
        | inr other ↦
            let apart = others (get_or frames y 0) in_chain other in
            subst (λ n. IsFirstFrom now (get_or frames y 0) (suc y) n) (sym (other_next next y last to (not_last last is_last y (inr other)))) (of_others frames f v (get_or frames y 0) (suc y) (get_or next y 0) lt apart.0 apart.1 first)
        | inl is ↦ elim (cases_lt y f) [
          | inl less ↦ subst (λ n. IsFirstFrom now n (suc y) (get_or (next_with_link next last to) y 0)) (sym is) (next_before last is_last leads y less is)
          | inr more ↦
              subst (λ n. IsFirstFrom now (get_or frames y 0) (suc y) n) (sym (other_next next y last to (not_last last is_last y (inl more)))) (outside frames f v (get_or frames y 0) (suc y) (get_or next y 0) (inl (omega arith)) first)
        ]
      ]

-- a frame that left its chain is in none
pub unlinked : (frames heads next : List ℕ) (b f : ℕ) (last : Option ℕ) → f < length frames
    → b < length heads → get_or frames f 0 ≡ b → AreChains frames heads next
    → IsPredecessor frames b f last
    → AreChains (chains_without frames f heads) (heads_with_link heads b last (get_or next f 0))
    (next_with_link next last (get_or next f 0))
unlinked frames heads next b f last lt in_heads is chains is_last =
    let n : ℕ = length heads in
    let to : ℕ = get_or next f 0 in
    let now : List ℕ = set frames f n in
    let first : IsFirstFrom frames b (suc f) to = link_first frames heads next b (Some f) chains in_heads (lt, is) in
    let leads : (from : ℕ) → from ≤ f → ((y : ℕ) → from ≤ y → y < f → get_or frames y 0 ≢ b) → IsFirstFrom now b from to =
    λ from low between. passed_over frames f n b from to lt (omega arith) low between first
    in
    let others : (c : ℕ) → c < length heads → c ≢ b → (get_or frames f 0 ≢ c) × (n ≢ c) = λ c low ne. (λ e. ne (sym e ∙ is), λ e. omega arith) in
    record {
      next_size = length-next_with_link next last to ∙ chains.next_size ∙ sym (length-set frames f n);
      heads_are = λ c low. heads_after frames heads next b f n to last lt in_heads chains is_last leads others c (subst (λ m. c < m) (length-heads_with_link heads b last to) low);
      next_are = λ y low in_chain. elim (cases_eq y f) [
        | inl e ↦
            let here : get_or now y 0 ≡ n = ap (λ m. get_or now m 0) e ∙ get_or-set_same frames f n 0 lt in
            absurd (omega (arith, here, in_chain, length-heads_with_link heads b last to))
        | inr ne ↦
            let same : get_or now y 0 ≡ get_or frames y 0 = other_than frames f n y ne in
            subst (λ m. IsFirstFrom now m (suc y) (get_or (next_with_link next last to) y 0)) (sym same)
            (next_after frames heads next b f n to last lt in_heads chains is_last leads others y ne (subst (λ m. y < m) (same_count frames f n) low) (omega (arith, same, in_chain, length-heads_with_link heads b last to)))
      ];
    }

-- a frame's own link, set before the last frame leads to it, changes no other link
linked_elsewhere : (next : List ℕ) (f link : ℕ) (last : Option ℕ) (y : ℕ) → after last ≤ length next
    → y ≢ f → get_or (next_with_link (set next f link) last f) y 0
    ≡ get_or (next_with_link next last f) y 0
linked_elsewhere next f link None y room ne = get_or-set_other next f y link 0 ne
linked_elsewhere next f link (Some x) y room ne = elim (cases_eq y x) [
  | inl e ↦
      let more : x < length (set next f link) = subst (λ n. x < n) (sym (length-set next f link)) room in
      let lt : x < length next = room in
      subst (λ n. get_or (set (set next f link) x f) n 0 ≡ get_or (set next x f) n 0) (sym e) (get_or-set_same (set next f link) x f 0 more ∙ sym (get_or-set_same next x f 0 lt))
  | inr other ↦ get_or-set_other (set next f link) x y f 0 other ∙ get_or-set_other next f y link 0 ne ∙ sym (get_or-set_other next x y f 0 other)
]

linked_here : (next : List ℕ) (f link : ℕ) (last : Option ℕ) → f < length next → after last ≤ f
    → get_or (next_with_link (set next f link) last f) f 0 ≡ link
linked_here next f link None lt low = get_or-set_same next f link 0 lt
linked_here next f link (Some x) lt low = let ne : f ≢ x = omega arith in get_or-set_other (set next f link) x f f 0 ne ∙ get_or-set_same next f link 0 lt

-- a frame that was in no chain is now in its own
pub linked : (frames heads next : List ℕ) (b f : ℕ) (last : Option ℕ) → f < length frames
    → b < length heads → get_or frames f 0 ≡ length heads → AreChains frames heads next
    → IsPredecessor frames b f last
    → AreChains (set frames f b) (heads_with_link heads b last f)
    (next_with_link (set next f (link_after heads next b last)) last f)
linked frames heads next b f last lt in_heads is chains is_last =
    let now : List ℕ = set frames f b in
    let link : ℕ = link_after heads next b last in
    let first : IsFirstFrom frames b (after last) link = link_first frames heads next b last chains in_heads is_last.is_of in
    let was : get_or frames f 0 ≢ b = λ e. let same : length heads ≡ b = sym is ∙ e in omega arith in
    let leads : (from : ℕ) → from ≤ f → ((y : ℕ) → from ≤ y → y < f → get_or frames y 0 ≢ b) → IsFirstFrom now b from f =
    λ from low between. comes_first frames f b b from lt refl low between
    in
    let others : (c : ℕ) → c < length heads → c ≢ b → (get_or frames f 0 ≢ c) × (b ≢ c) = λ c low ne. (λ e. let same : length heads ≡ c = sym is ∙ e in omega arith, λ e. ne (sym e)) in
    let with_link : List ℕ = set next f link in
    let room : length next ≡ length frames = chains.next_size in
    let below : after last ≤ f = is_last.below in
    let linked_chains : (y : ℕ) → y ≢ f → get_or (next_with_link with_link last f) y 0 ≡ get_or (next_with_link next last f) y 0 = λ y ne. linked_elsewhere next f link last y (omega (arith, below, room)) ne in
    record {
      next_size = length-next_with_link with_link last f ∙ length-set next f link ∙ chains.next_size ∙ sym (length-set frames f b);
      heads_are = λ c low. heads_after frames heads next b f b f last lt in_heads chains is_last leads others c (subst (λ m. c < m) (length-heads_with_link heads b last f) low);
      next_are = λ y low in_chain. elim (cases_eq y f) [
        | inl e ↦
            let chain_now : get_or now f 0 ≡ b = get_or-set_same frames f b 0 lt in
            let here : get_or (next_with_link with_link last f) f 0 ≡ link = linked_here next f link last (omega arith) below in
            subst (λ m. IsFirstFrom now (get_or now m 0) (suc m) (get_or (next_with_link with_link last f) m 0)) (sym e)
            (subst (λ m. IsFirstFrom now m (suc f) (get_or (next_with_link with_link last f) f 0)) (sym chain_now)
            (subst (λ m. IsFirstFrom now b (suc f) m) (sym here) (comes_before frames f b b (after last) link was lt is_last.between below first)))
        | inr ne ↦
            let same : get_or now y 0 ≡ get_or frames y 0 = other_than frames f b y ne in
            subst (λ m. IsFirstFrom now m (suc y) (get_or (next_with_link with_link last f) y 0)) (sym same)
            (subst (λ m. IsFirstFrom now (get_or frames y 0) (suc y) m) (sym (linked_chains y ne))
            (next_after frames heads next b f b f last lt in_heads chains is_last leads others y ne (subst (λ m. y < m) (same_count frames f b) low) (omega (arith, same, in_chain, length-heads_with_link heads b last f))))
      ];
    }

-- the same, of links that are given by an equation
pub unlinked_to : (frames heads next heads' next' : List ℕ) (b f to : ℕ) (last : Option ℕ)
    → f < length frames → b < length heads → get_or frames f 0 ≡ b → AreChains frames heads next
    → IsPredecessor frames b f last
    → to ≡ get_or next f to → heads' ≡ heads_with_link heads b last to
    → next' ≡ next_with_link next last to → AreChains (chains_without frames f heads) heads' next'
unlinked_to frames heads next heads' next' b f to last lt in_heads is chains is_last read heads_are next_are =
    let there : to ≡ get_or next f 0 = get_or_read next f to (subst (λ n. f < n) (sym chains.next_size) lt) read 0 in
    subst (λ hs. AreChains (chains_without frames f heads) hs next') (sym (heads_are ∙ ap (heads_with_link heads b last) there))
    (subst (λ ns. AreChains (chains_without frames f heads) (heads_with_link heads b last (get_or next f 0)) ns) (sym (next_are ∙ ap (next_with_link next last) there))
    (unlinked frames heads next b f last lt in_heads is chains is_last))

pub linked_to : (frames heads next heads' next' : List ℕ) (b f link : ℕ) (last : Option ℕ)
    → f < length frames → b < length heads → get_or frames f 0 ≡ length heads
    → AreChains frames heads next → IsPredecessor frames b f last
    → link ≡ link_after heads next b last → heads' ≡ heads_with_link heads b last f
    → next' ≡ next_with_link (set next f link) last f → AreChains (set frames f b) heads' next'
linked_to frames heads next heads' next' b f link last lt in_heads is chains is_last follows heads_are next_are =
    subst (λ hs. AreChains (set frames f b) hs next') (sym heads_are)
    (subst (λ ns. AreChains (set frames f b) (heads_with_link heads b last f) ns) (sym (next_are ∙ ap (λ (to : ℕ). next_with_link (set next f to) last f) follows))
    (linked frames heads next b f last lt in_heads is chains is_last))
