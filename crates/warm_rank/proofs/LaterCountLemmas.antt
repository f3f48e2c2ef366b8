-- Counting later references turns the order of stamps round.
use Rattle.std.proofs.Common.{◌≡◌, ℕ, ◌+◌, ◌<◌, ◌≤◌, Bool, true, false, cond, List, [], ◌∷◌, sym, ap, refl, ◌∙◌, inl, inr, arith}
use Rattle.std.specs.List.{count_by}
use Rattle.std.specs.Ordering.{is_eq, is_lt, nat_cmp, flip_args}
use Rattle.std.specs.declared.cmp.Ordering.{Ordering}
use Rattle.std.specs.declared.cmp.Ordering.TheVariants.{Less, Equal, Greater}
use Rattle.std.proofs.lemmas.Bool.Decides.{nat_tests}
use Rattle.std.proofs.lemmas.Cmp.{tied_itself}
use Rattle.std.proofs.lemmas.List.Sums.{sum_by-cons}
use Rattle.warm_stamps.specs.declared.Stamp.{Stamp}
use Rattle.warm_stamps.specs.declared.PageId.{PageId}
use Rattle.warm_stamps.specs.declared.Reference.{Reference}
use Rattle.warm_stamps.specs.Stamps.{stamp_cmp, page_cmp, reference_cmp}
use Rattle.warm_stamps.specs.Distinct.{distinct}
use Rattle.warm_stamps.proofs.DistinctLemmas.{Has, by_cases, flipped, has_distinct, has_from_distinct}
use Rattle.warm_stamps.proofs.StampLemmas.{stamp_order, reference_order, IsStrictOrder-flip}
use Rattle.warm_history.specs.ReferenceSets.{ReferenceSet, references}
use Rattle.warm_history.specs.Histories.{stamps}
use Rattle.warm_history.specs.ListHistories.{list_stamps}
use Rattle.warm_history.proofs.ListHistoryLemmas.{told}
use Rattle.warm_rank.specs.Ranking.{count_later}

abbrev pub later : Stamp → Reference → Bool
later s r = is_lt (stamp_cmp s r.stamp)

-- what is later than the later of two stamps is later than the earlier one
later_both : (s t : Stamp) (r : Reference) → stamp_cmp s t ≡ Less → later t r ≡ true
    → later s r ≡ true
later_both s t r less is = cases (stamp_cmp t r.stamp) refl
  where
    cases : (o : Ordering) → stamp_cmp t r.stamp ≡ o → later s r ≡ true
    cases Less e = ap is_lt (stamp_order.total.trans s t r.stamp less e)
    cases Equal e = let no : false ≡ true = rw e at is in absurd (cc)
    cases Greater e = let no : false ≡ true = rw e at is in absurd (cc)

pub counted : (p : Reference → Bool) (x : Reference) (xs : List Reference) → p x ≡ true
    → count_by p (x ∷ xs) ≡ 1 + count_by p xs
counted p x xs holds = sum_by-cons (λ y. cond (p y) 1 0) x xs ∙ ap (λ b. cond b 1 0 + count_by p xs) holds

pub passed : (p : Reference → Bool) (x : Reference) (xs : List Reference) → p x ≡ false
    → count_by p (x ∷ xs) ≡ 0 + count_by p xs
passed p x xs fails = sum_by-cons (λ y. cond (p y) 1 0) x xs ∙ ap (λ b. cond b 1 0 + count_by p xs) fails

count_le : (s t : Stamp) → stamp_cmp s t ≡ Less → (rs : List Reference)
    → count_by (later t) rs ≤ count_by (later s) rs
count_le s t less [] = omega arith
count_le s t less (r ∷ rs) = cases (count_le s t less rs) (later t r) (later s r) refl refl
  where
    cases : (count_by (later t) rs ≤ count_by (later s) rs) → (a b : Bool) → later t r ≡ a
        → later s r ≡ b → count_by (later t) (r ∷ rs) ≤ count_by (later s) (r ∷ rs)
    cases rest true true p q = omega (arith, counted (later t) r rs p, counted (later s) r rs q)
    cases rest true false p q = let no : true ≡ false = sym (later_both s t r less p) ∙ q in absurd (cc)
    cases rest false true p q = omega (arith, passed (later t) r rs p, counted (later s) r rs q)
    cases rest false false p q = omega (arith, passed (later t) r rs p, passed (later s) r rs q)

-- and a reference with the later stamp alone makes the difference strict
count_lt : (s t : Stamp) → stamp_cmp s t ≡ Less → (rs : List Reference) (r : Reference) → Has rs r
    → r.stamp ≡ t → count_by (later t) rs < count_by (later s) rs
count_lt s t less [] r has is = absurd has
count_lt s t less (x ∷ rs) r has is = elim has [
  | inl e ↦
      let stamp : x.stamp ≡ t = ap (λ y. y.stamp) e ∙ is in
      let not_t : later t x ≡ false = ap (λ u. is_lt (stamp_cmp t u)) stamp ∙ ap is_lt (tied_itself stamp_order.total t) in
      let is_s : later s x ≡ true = ap (λ u. is_lt (stamp_cmp s u)) stamp ∙ ap is_lt less in
      let rest = count_le s t less rs in
      omega (arith, passed (later t) x rs not_t, counted (later s) x rs is_s)
  | inr there ↦ cases (count_lt s t less rs r there is) (later t x) (later s x) refl refl
]
  where
    cases : (count_by (later t) rs < count_by (later s) rs) → (a b : Bool) → later t x ≡ a
        → later s x ≡ b → count_by (later t) (x ∷ rs) < count_by (later s) (x ∷ rs)
    cases rest true true p q = omega (arith, counted (later t) x rs p, counted (later s) x rs q)
    cases rest true false p q = let no : true ≡ false = sym (later_both s t x less p) ∙ q in absurd (cc)
    cases rest false true p q = omega (arith, passed (later t) x rs p, counted (later s) x rs q)
    cases rest false false p q = omega (arith, passed (later t) x rs p, passed (later s) x rs q)

-- some reference of S has the stamp
abbrev pub IsStampOf : ReferenceSet → Stamp → Type 0
IsStampOf S s = (r : Reference) × Has (references S) r × (r.stamp ≡ s)

count_later_lt : (S : ReferenceSet) (s t : Stamp) → stamp_cmp s t ≡ Less → IsStampOf S t
    → count_later S t < count_later S s
count_later_lt S s t less of_S = count_lt s t less (distinct reference_cmp (references S)) of_S.0 (has_distinct reference_cmp reference_order (references S) of_S.0 of_S.1) of_S.2

-- among stamps of S, the earlier one has more references later than it
pub counts_rank : (S : ReferenceSet) (s t : Stamp) → IsStampOf S s → IsStampOf S t
    → nat_cmp (count_later S t) (count_later S s) ≡ stamp_cmp s t
counts_rank S s t of_s of_t = by_cases (stamp_cmp s t) _
    (λ less. let lt = count_later_lt S s t less of_t in nat_less (count_later S t) (count_later S s) lt ∙ sym less)
    (λ tied. let same : s ≡ t = stamp_order.same s t tied in ap (λ u. nat_cmp (count_later S t) (count_later S u)) same ∙ nat_tied (count_later S t) ∙ sym tied)
    (λ more. let lt = count_later_lt S t s (flipped stamp_cmp stamp_order s t Greater more) of_s in nat_greater (count_later S t) (count_later S s) lt ∙ sym more)
  where
    nat_less : (m n : ℕ) → m < n → nat_cmp m n ≡ Less
    nat_less m n lt = grind (arith, nat_tests)

    nat_tied : (m : ℕ) → nat_cmp m m ≡ Equal
    nat_tied m = grind (arith, nat_tests)

    nat_greater : (m n : ℕ) → n < m → nat_cmp m n ≡ Greater
    nat_greater m n lt = grind (arith, nat_tests)

-- a stamp that references give a page is the stamp of one of them
told_of : (rs : List Reference) (p : PageId) (s : Stamp) → Has (told rs p) s
    → (r : Reference) × Has rs r × (r.stamp ≡ s)
told_of [] p s has = absurd has
told_of (r ∷ rs) p s has = cases (told_of rs p s) (is_eq (page_cmp r.page p)) refl
  where
    of_tail : ((x : Reference) × Has rs x × (x.stamp ≡ s))
        → (x : Reference) × Has (r ∷ rs) x × (x.stamp ≡ s)
    of_tail (x, there, is) = (x, inr there, is)

    cases : (Has (told rs p) s → (x : Reference) × Has rs x × (x.stamp ≡ s)) → (b : Bool)
        → is_eq (page_cmp r.page p) ≡ b → (x : Reference) × Has (r ∷ rs) x × (x.stamp ≡ s)
    cases rest true here = elim (rw here at has) [ inl e ↦ (r, inl refl, e) | inr there ↦ of_tail (rest there) ]
    cases rest false other = of_tail (rest (rw other at has))

-- the stamps of a page in a list are stamps of its references
pub stamps_in : (rs : List Reference) (p : PageId) (s : Stamp) → Has (list_stamps rs p) s
    → (r : Reference) × Has rs r × (r.stamp ≡ s)
stamps_in rs p s has = told_of rs p s (has_from_distinct (flip_args stamp_cmp) (IsStrictOrder-flip stamp_cmp stamp_order) (told rs p) s has)

-- the stamps of a page are stamps of S
pub stamps_of : (S : ReferenceSet) (p : PageId) (s : Stamp) → Has (stamps S p) s → IsStampOf S s
stamps_of S p s has = told_of (references S) p s (has_from_distinct (flip_args stamp_cmp) (IsStrictOrder-flip stamp_cmp stamp_order) (told (references S) p) s has)
