-- The slot of the least key holds the victim.
use Rattle.std.proofs.Common.{◌≡◌, ◌≢◌, ℕ, suc, zero, ◌<◌, List, [], ◌∷◌, length, sym, ap, refl, ◌∙◌, subst, Option, Some, None, IsSome, false, true, arith}
use Rattle.std.specs.List.{Contains}
use Rattle.std.specs.Option.{option_map}
use Rattle.std.specs.Ordering.{nat_cmp, ordering_then}
use Rattle.std.specs.declared.cmp.Ordering.TheVariants.{Less, Greater}
use Rattle.std.proofs.lemmas.Option.{same_Some}
use Rattle.warm_stamps.specs.declared.PageId.{PageId}
use Rattle.warm_stamps.proofs.DistinctLemmas.{by_cases}
use Rattle.warm_history.specs.ReferenceSets.{ReferenceSet}
use Rattle.warm_history.specs.Histories.{hist}
use Rattle.warm_rank.specs.declared.RankKey.{RankKey}
use Rattle.warm_rank.specs.Keys.{rank_key, key_cmp}
use Rattle.warm_rank.specs.Ranking.{eviction_cmp, IsBefore, IsVictim}
use Rattle.warm_rank.specs.Slots.{key_at, set_first_cmp, slot_cmp, ComesFirst}
use Rattle.warm_rank.specs.Laws.{keys_over, pages_in, LeastKeyIsVictim}
use Rattle.warm_rank.proofs.KeyLemmas.{keys_order_pages}
use Rattle.warm_rank.proofs.EvictionLemmas.{eviction_order}

-- the key over S of the page p
abbrev key_over : ReferenceSet → PageId → RankKey
key_over S p = rank_key p (hist S p)

length-keys_over : (S : ReferenceSet) (slots : List (Option PageId))
    → length (keys_over S slots) ≡ length slots
length-keys_over S [] = refl
length-keys_over S (page ∷ slots) = ap suc (length-keys_over S slots)

-- a slot has the key of its page
key_at-keys_over : (S : ReferenceSet) (slots : List (Option PageId)) (slot : ℕ)
    → key_at (keys_over S slots) slot ≡ option_map (key_over S) (key_at slots slot)
key_at-keys_over S [] slot = refl
key_at-keys_over S (page ∷ slots) zero = refl
key_at-keys_over S (page ∷ slots) (suc slot) = key_at-keys_over S slots slot

-- if no slot has a key, none has a page
none_in : (S : ReferenceSet) (slots : List (Option PageId))
    → ((slot : ℕ) → slot < length slots → key_at (keys_over S slots) slot ≡ None)
    → pages_in slots ≡ []
none_in S [] none = refl
none_in S (None ∷ slots) none = none_in S slots (λ slot lt. none (suc slot) (omega arith))
none_in S (Some p ∷ slots) none = let no : Some (key_over S p) ≡ None = none 0 (omega arith) in absurd (cc)

contains_later : {A : Type 0} (x y : A) (xs : List A) → Contains xs y → Contains (x ∷ xs) y
contains_later x y xs (k, lt, is) = (suc k, omega arith, is)

-- the page of a slot is one of the pages in the slots
contains_page : (slots : List (Option PageId)) (slot : ℕ) (p : PageId) → slot < length slots
    → key_at slots slot ≡ Some p → Contains (pages_in slots) p
contains_page [] slot p lt is = absurd (omega arith)
contains_page (None ∷ slots) zero p lt is = absurd (cc)
contains_page (None ∷ slots) (suc slot) p lt is = contains_page slots slot p (omega arith) is
contains_page (Some q ∷ slots) zero p lt is = (0, omega arith, same_Some q p is)
contains_page (Some q ∷ slots) (suc slot) p lt is = contains_later q p (pages_in slots) (contains_page slots slot p (omega arith) is)

-- and each of these pages has a slot
abbrev pub HasSlot : List (Option PageId) → PageId → Type 0
HasSlot slots p = (slot : ℕ) × (slot < length slots) × (key_at slots slot ≡ Some p)

pub slot_later : (page : Option PageId) (slots : List (Option PageId)) (p : PageId)
    → HasSlot slots p → HasSlot (page ∷ slots) p
slot_later page slots p (slot, lt, is) = (suc slot, omega arith, is)

slot_of : (slots : List (Option PageId)) (p : PageId) → Contains (pages_in slots) p
    → HasSlot slots p
slot_of [] p (k, lt, is) = absurd (omega arith)
slot_of (None ∷ slots) p has = slot_later None slots p (slot_of slots p has)
slot_of (Some q ∷ slots) p (zero, lt, is) = (0, omega arith, ap Some is)
slot_of (Some q ∷ slots) p (suc k, lt, is) = slot_later (Some q) slots p (slot_of slots p (k, omega arith, is))

-- the page p of the first slot is evicted before the page q of another
before : (S : ReferenceSet) (slots : List (Option PageId)) (s t : ℕ) (p q : PageId)
    → key_at slots s ≡ Some p → key_at slots t ≡ Some q → q ≢ p
    → slot_cmp key_cmp (keys_over S slots) s t ≡ Less → IsBefore S p q
before S slots s t p q is_p is_q differ less =
    let key_p : key_at (keys_over S slots) s ≡ Some (key_over S p) = key_at-keys_over S slots s ∙ ap (option_map (key_over S)) is_p in
    let key_q : key_at (keys_over S slots) t ≡ Some (key_over S q) = key_at-keys_over S slots t ∙ ap (option_map (key_over S)) is_q in
    let by_key : ordering_then (key_cmp (key_over S p) (key_over S q)) (nat_cmp s t) ≡ Less =
    ap (λ k. ordering_then (set_first_cmp key_cmp (Some (key_over S p)) k) (nat_cmp s t)) (sym key_q) ∙ ap (λ k. ordering_then (set_first_cmp key_cmp k (key_at (keys_over S slots) t)) (nat_cmp s t)) (sym key_p) ∙ less
    in
    let by_page : ordering_then (eviction_cmp S p q) (nat_cmp s t) ≡ Less = ap (λ o. ordering_then o (nat_cmp s t)) (sym (keys_order_pages S p q)) ∙ by_key in
    by_cases (eviction_cmp S p q) _
    (λ is_less. is_less)
    (λ tied. absurd (differ (sym ((eviction_order S).same p q tied))))
    (λ more. let no : Greater ≡ Less = sym (ap (λ o. ordering_then o (nat_cmp s t)) more) ∙ by_page in absurd (cc))

victim_at : (S : ReferenceSet) (slots : List (Option PageId)) (s : ℕ)
    → ComesFirst key_cmp (keys_over S slots) (length (keys_over S slots)) s → (page : Option PageId)
    → key_at slots s ≡ page → IsVictim S (pages_in slots) page
victim_at S slots s comes None is = let no : false ≡ true = subst IsSome (key_at-keys_over S slots s ∙ ap (option_map (key_over S)) is) comes.is_set in absurd (cc)
victim_at S slots s comes (Some p) is =
    let same_length = length-keys_over S slots in
    (contains_page slots s p (omega (arith, comes.in_range)) is, λ q has differ. other q differ (slot_of slots q has))
  where
    other : (q : PageId) → q ≢ p → HasSlot slots q → IsBefore S p q
    other q differ (t, lt, is_q) =
        let same_length = length-keys_over S slots in
        let apart : t ≢ s = λ e. differ (same_Some q p (sym is_q ∙ ap (key_at slots) e ∙ is)) in
        before S slots s t p q is is_q differ (comes.first t (omega arith) apart)

pub least_key_is_victim : LeastKeyIsVictim
least_key_is_victim S slots None none = none_in S slots (λ slot lt. none slot (subst (λ n. slot < n) (sym (length-keys_over S slots)) lt))
least_key_is_victim S slots (Some slot) comes = victim_at S slots slot comes (key_at slots slot) refl
