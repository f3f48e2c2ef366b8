-- What a changed link does to the chains of frames.
use Rattle.std.proofs.Common.{◌≡◌, ◌≢◌, ℕ, suc, ◌<◌, ◌≤◌, List, length, get_or, set, sym, ap, ◌∙◌, subst, Option, Some, None, inl, inr, ◌⊎◌, arith, get_or-set_same, get_or-set_other}
use Rattle.std.proofs.lemmas.List.{length-set}
use Rattle.std.proofs.lemmas.Bool.{cases_eq, cases_lt}
use Rattle.warm_frame_table.specs.stored.Chains.{IsFirstFrom, AreChains, IsOf, after, link_after}

-- the first frame from a place on is none after a frame of the chain
pub not_after : (frames : List ℕ) (b from at y : ℕ) → IsFirstFrom frames b from at → from ≤ y
    → get_or frames y 0 ≡ b → at ≤ y
not_after frames b from at y first low is = elim (cases_lt y at) [
  | inl under ↦ absurd (first.apart y low under is)
  | inr out ↦ out
]

-- the link after a frame leads to the first frame after it
pub link_first : (frames heads next : List ℕ) (b : ℕ) (last : Option ℕ)
    → AreChains frames heads next → b < length heads → IsOf frames b last
    → IsFirstFrom frames b (after last) (link_after heads next b last)
link_first frames heads next b None chains lt of = chains.heads_are b lt
link_first frames heads next b (Some x) chains lt of =
    let in_heads : get_or frames x 0 < length heads = subst (λ n. n < length heads) (sym of.1) lt in
    subst (λ n. IsFirstFrom frames n (suc x) (get_or next x 0)) of.1 (chains.next_are x of.0 in_heads)

module _ (frames : List ℕ) (f v : ℕ) where
  abbrev changed : List ℕ
  changed = set frames f v

  pub other_than : (y : ℕ) → y ≢ f → get_or changed y 0 ≡ get_or frames y 0
  other_than y ne = get_or-set_other frames f y v 0 ne

  pub same_count : length changed ≡ length frames
  same_count = length-set frames f v

  -- a change below the place, or after the first frame, doesn't touch it
  pub outside : (b from at : ℕ) → (f < from) ⊎ (at < f) → IsFirstFrom frames b from at
      → IsFirstFrom changed b from at
  outside b from at out first =
      let low : from ≤ at = first.low in
      let apart : (y : ℕ) → from ≤ y → y ≤ at → y ≢ f = λ y ge le. elim out [ inl under ↦ omega arith | inr over ↦ omega arith ] in
      record {
        low = low;
        high = subst (λ n. at ≤ n) (sym same_count) first.high;
        apart = λ y ge lt is. first.apart y ge lt (sym (other_than y (apart y ge (omega arith))) ∙ is);
        there = λ lt. other_than at (apart at low (omega arith)) ∙ first.there (subst (λ n. at < n) same_count lt);
      }

  -- nor does a change of a frame that is of the chain neither before nor after
  pub of_others : (b from at : ℕ) → f < length frames → get_or frames f 0 ≢ b → v ≢ b
      → IsFirstFrom frames b from at → IsFirstFrom changed b from at
  of_others b from at lt was is first = record {
    low = first.low;
    high = subst (λ n. at ≤ n) (sym same_count) first.high;
    apart = λ y ge under here. elim (cases_eq y f) [
      | inl e ↦ is (sym (ap (λ n. get_or changed n 0) e ∙ get_or-set_same frames f v 0 lt) ∙ here)
      | inr ne ↦ first.apart y ge under (sym (other_than y ne) ∙ here)
    ];
    there = λ under.
        let here : get_or frames at 0 ≡ b = first.there (subst (λ n. at < n) same_count under) in
        let ne : at ≢ f = λ e. was (sym (ap (λ n. get_or frames n 0) e) ∙ here) in
        other_than at ne ∙ here;
  }

  -- after a frame has left the chain, the next one follows the frames before it
  pub passed_over : (b from to : ℕ) → f < length frames → v ≢ b → from ≤ f
      → ((y : ℕ) → from ≤ y → y < f → get_or frames y 0 ≢ b) → IsFirstFrom frames b (suc f) to
      → IsFirstFrom changed b from to
  passed_over b from to lt is low between first =
      let later : suc f ≤ to = first.low in
      record {
        low = omega arith;
        high = subst (λ n. to ≤ n) (sym same_count) first.high;
        apart = λ y ge under here. elim (cases_eq y f) [
          | inl e ↦ is (sym (ap (λ n. get_or changed n 0) e ∙ get_or-set_same frames f v 0 lt) ∙ here)
          | inr ne ↦ elim (cases_lt y f) [
            | inl less ↦ between y ge less (sym (other_than y ne) ∙ here)
            | inr more ↦ first.apart y (omega arith) under (sym (other_than y ne) ∙ here)
          ]
        ];
        there = λ under. other_than to (omega arith) ∙ first.there (subst (λ n. to < n) same_count under);
      }

  -- a frame that is linked into the chain is the first after the frames before it
  pub comes_first : (b from : ℕ) → f < length frames → v ≡ b → from ≤ f
      → ((y : ℕ) → from ≤ y → y < f → get_or frames y 0 ≢ b) → IsFirstFrom changed b from f
  comes_first b from lt is low between = record {
    low = low;
    high = subst (λ n. f ≤ n) (sym same_count) (omega arith);
    apart = λ y ge under here. between y ge under (sym (other_than y (omega arith)) ∙ here);
    there = λ _. get_or-set_same frames f v 0 lt ∙ is;
  }

  -- and what followed those follows it
  pub comes_before : (b from to : ℕ) → get_or frames f 0 ≢ b → f < length frames
      → ((y : ℕ) → from ≤ y → y < f → get_or frames y 0 ≢ b) → from ≤ f
      → IsFirstFrom frames b from to → IsFirstFrom changed b (suc f) to
  comes_before b from to was lt between low first =
      let after_f : f ≤ to = elim (cases_lt to f) [
        | inl under ↦ absurd (between to first.low under (first.there (omega arith)))
        | inr out ↦ out
      ] in
      let ne : to ≢ f = λ e. was (sym (ap (λ n. get_or frames n 0) e) ∙ first.there (subst (λ n. n < length frames) (sym e) lt)) in
      outside b (suc f) to (inl (omega arith)) (record {
        low = omega arith;
        high = first.high;
        apart = λ y ge under. first.apart y (omega arith) under;
        there = first.there;
      })
