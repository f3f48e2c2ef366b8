-- Two lists of maps, merged bucket by bucket.
use Rattle.std.proofs.Common.{◌≡◌, ℕ, ◌+◌, ◌^◌, ◌<◌, zero, suc, inl, inr, List, [], ◌∷◌, ◌++◌, sym, ap, refl, ◌∙◌, subst, arith, length, Option, Some, None, bit_or}
use Rattle.std.specs.List.{cons_option}
use Rattle.std.specs.Option.{option_map, option_or}
use Rattle.warm_maps.specs.declared.hist.PageHist.{PageHist}
use Rattle.warm_maps.specs.PageHists.{kept_hist}
use Rattle.warm_maps.specs.Cuts.{cut_at}
use Rattle.warm_maps.specs.MapPairs.{MapPairs}
use Rattle.warm_maps.specs.BucketMaps.{KeysAscend, found}
use Rattle.warm_maps.specs.Runs.{with_pairs}
use Rattle.warm_maps.specs.Walks.{AreParts, SameElsewhere, merged}
use Rattle.warm_maps.specs.NearJoins.{AddsLeft, HasChanged, joined_maps}
use Rattle.warm_maps.proofs.MergedLemmas.{found_with, into_none, merged_none, merged_differs}
use Rattle.warm_maps.proofs.RunPairs.{none_of}
use Rattle.warm_maps.proofs.WalkLemmas.{parts_more}

-- ---- pairs that are put in

-- they change nothing at other keys
pub same_with : (old fresh now : MapPairs) → now ≡ with_pairs old fresh
    → SameElsewhere fresh old now
same_with old fresh now is q none =
    ap (found q) is
    ∙ found_with q old fresh
    ∙ ap (λ o. option_or o (found q old)) none

pub kept_with : (old fresh : MapPairs) → length fresh ≡ 0 → old ≡ with_pairs old fresh
kept_with old fresh none = sym (ap (with_pairs old) (none_of fresh none))

pub filled_with : (old fresh given made : MapPairs) → length old ≡ 0 → KeysAscend fresh
    → given ≡ fresh → made ≡ given → made ≡ with_pairs old fresh
filled_with old fresh given made free rise is same =
    same ∙ is ∙ sym (ap (λ t. with_pairs t fresh) (none_of old free) ∙ into_none fresh rise)

-- ---- what the pairs of another map change

pub parts_begin : (old run left changed fresh : MapPairs) → changed ≡ [] → fresh ≡ [] → left ≡ run
    → (c f : MapPairs) → AreParts old left c f → AreParts old run (changed ++ c) (fresh ++ f)
parts_begin old run left changed fresh no_change no_new is c f are =
    subst (λ t. AreParts old run (t ++ c) (fresh ++ f)) (sym no_change)
    (subst (λ t. AreParts old run c (t ++ f)) (sym no_new) (subst (λ t. AreParts old t c f) is are))

-- the rest of them, after the first
pub parts_left : (m : ℕ) (old run left rest : MapPairs) (e : ℕ × PageHist) (o : Option PageHist)
    (changed fresh changed' fresh' : MapPairs) → left ≡ e ∷ rest → o ≡ kept_hist m e.1
    → AddsLeft o (found e.0 old) e.0 changed fresh changed' fresh'
    → ((c f : MapPairs) → AreParts old (cut_at m left) c f
    → AreParts old run (changed ++ c) (fresh ++ f)) → (c f : MapPairs)
    → AreParts old (cut_at m rest) c f → AreParts old run (changed' ++ c) (fresh' ++ f)
parts_left m old run left rest e None changed fresh changed' fresh' is none adds goes c f are =
    let cut : cut_at m rest ≡ cut_at m left = ap (λ o. cons_option (option_map (λ h. (e.0, h)) o) (cut_at m rest)) none ∙ ap (cut_at m) (sym is) in
    let all = goes c f (subst (λ t. AreParts old t c f) cut are) in
    subst (λ t. AreParts old run (t ++ c) (fresh' ++ f)) (sym adds.0) (subst (λ t. AreParts old run (changed ++ c) (t ++ f)) (sym adds.1) all)
parts_left m old run left rest e (Some more) changed fresh changed' fresh' is some adds goes c f are =
    let cut : (e.0, more) ∷ cut_at m rest ≡ cut_at m left = ap (λ o. cons_option (option_map (λ h. (e.0, h)) o) (cut_at m rest)) some ∙ ap (cut_at m) (sym is) in
    parts_more old run (cut_at m left) (cut_at m rest) (e.0, more) (found e.0 old) changed fresh changed' fresh' (sym cut) refl adds goes c f are

-- ---- maps merged one after another

pub joined_first : (m : ℕ) (maps more : List MapPairs) (o r n : MapPairs) (os rs ns : List MapPairs)
    → maps ≡ o ∷ os → more ≡ r ∷ rs → n ≡ merged o (cut_at m r) → ns ≡ joined_maps m os rs
    → n ∷ ns ≡ joined_maps m maps more
joined_first m maps more o r n os rs ns is also first rest =
    ap (λ t. t ∷ ns) first
    ∙ ap (λ t. merged o (cut_at m r) ∷ t) rest
    ∙ ap (λ t. joined_maps m t (r ∷ rs)) (sym is)
    ∙ ap (joined_maps m maps) (sym also)

-- whether the first of them has changed
pub changed_first : (m number : ℕ) (maps more : List MapPairs) (o r c f : MapPairs)
    (os rs : List MapPairs) (rest set k : ℕ) → maps ≡ o ∷ os → more ≡ r ∷ rs
    → AreParts o (cut_at m r) c f → KeysAscend o → KeysAscend (cut_at m r)
    → HasChanged m (number + 1) os rs rest
    → k ≡ length c + length f → (k ≡ 0 → set ≡ rest) → (0 < k → set ≡ bit_or rest (2 ^ number))
    → HasChanged m number maps more set
changed_first m number maps more o r c f os rs rest set k is also are rise_old rise_run later count none some =
    subst (λ t. HasChanged m number t more set) (sym is) (subst (λ t. HasChanged m number (o ∷ os) t set) (sym also) (cases k count none some))
  where
    cases : (j : ℕ) → j ≡ length c + length f → (j ≡ 0 → set ≡ rest)
        → (0 < j → set ≡ bit_or rest (2 ^ number)) → HasChanged m number (o ∷ os) (r ∷ rs) set
    cases zero count none some =
        let no_change : length c ≡ 0 = omega (arith, count) in
        let no_new : length f ≡ 0 = omega (arith, count) in
        (rest, later, inl (sym (merged_none o (cut_at m r) c f are rise_old rise_run (none_of c no_change) (none_of f no_new)), none refl))
    cases (suc j) count none some = (
      rest,
      later,
      inr (
        merged_differs o (cut_at m r) c f are rise_old rise_run (λ no_change no_new.
            let short : length c ≡ 0 = ap length no_change in
            let also : length f ≡ 0 = ap length no_new in
            absurd (omega (arith, count, short, also))),
        some (omega arith),
      ),
    )
