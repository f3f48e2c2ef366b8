-- A relation holds of the first items of a list, before and after: the next item.
use Rattle.std.proofs.Common.{◌≡◌, inl, inr, ℕ, ◌+◌, ◌<◌, ◌≤◌, List, length, set, get_or, refl, sym, subst, ◌∙◌, arith}
use Rattle.std.proofs.lemmas.Bool.{cases_lt}
use Rattle.std.proofs.lemmas.List.{length-set, set-get_or}
use Rattle.warm_shards.specs.EachShard.{First}
use Rattle.warm_frame_table.proofs.ListLemmas.{at_set}

module _ {A : Type 0} {none : A} (So : ℕ → A → A → Type 0) where
  -- no item
  pub none_first : (old : List A) → First none So 0 old old
  none_first old = record { count = refl; first = λ i lt. absurd (omega arith); others = λ i le. refl }

  -- the next item as well, which is set
  pub next_first : (k : ℕ) (old mid : List A) (a : A) → k < length old → First none So k old mid
      → So k (get_or mid k none) a → First none So (k + 1) old (set mid k a)
  next_first k old mid a lt so next =
      let here : So k (get_or old k none) a = subst (λ b. So k b a) (so.others k (omega arith)) next in
      let there : k < length mid = omega (arith, lt, so.count) in
      record {
        count = length-set mid k a ∙ so.count;
        first = at_set none (λ i x. i < k + 1 → So i (get_or old i none) x) mid k a there (λ less. here) (λ i apart less. so.first i (omega (arith, less, apart)));
        others = at_set none (λ i x. k + 1 ≤ i → x ≡ get_or old i none) mid k a there (λ le. absurd (omega (arith, le))) (λ i apart le. so.others i (omega (arith, le)));
      }

  -- the next item as well: it alone changes
  pub one_first : (k : ℕ) (old mid new : List A) → k < length old → First none So k old mid
      → new ≡ set mid k (get_or new k none) → So k (get_or mid k none) (get_or new k none)
      → First none So (k + 1) old new
  one_first k old mid new lt so others next =
      subst (First none So (k + 1) old) (sym others) (next_first k old mid (get_or new k none) lt so next)

  -- the next item as well, which stays as it was
  pub same_first : (k : ℕ) (old mid : List A) → k < length old → First none So k old mid
      → So k (get_or mid k none) (get_or mid k none) → First none So (k + 1) old mid
  same_first k old mid lt so next = one_first k old mid mid lt so (sym (set-get_or mid k none)) next

  -- what holds of the first items and of those that are unchanged holds of each
  pub each_first : (P : A → A → Type 0) → ((a : A) → P a a) → ((i : ℕ) (a b : A) → So i a b → P a b)
      → (k : ℕ) (old new : List A) → First none So k old new → (i : ℕ)
      → P (get_or old i none) (get_or new i none)
  each_first P self each k old new so i = elim (cases_lt i k) [
    | inl lt ↦ each i (get_or old i none) (get_or new i none) (so.first i lt)
    | inr le ↦ subst (P (get_or old i none)) (sym (so.others i le)) (self (get_or old i none))
  ]
