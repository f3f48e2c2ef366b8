-- What the contest knows of a frame, as the frame or the contest changes.
use Rattle.std.proofs.Common.{◌≡◌, ◌≢◌, ◌⊎◌, ℕ, zero, suc, ◌<◌, ◌==◌, true, false, Bool, List, [], ◌∷◌, length, map, set, replicate, cond, Option, Some, None, is_some, refl, sym, ◌∙◌, ap, subst, inl, inr, arith, get_or-set_same, get_or-set_other}
use Rattle.std.specs.Ordering.{is_gt}
use Rattle.std.proofs.lemmas.Bool.{ne_eqb}
use Rattle.std.proofs.lemmas.List.{length-set, length-map}
use Rattle.std.proofs.Math.ListN.{get_or-map as mapped}
use Rattle.warm_stamps.specs.declared.PageId.{PageId}
use Rattle.warm_rank.specs.declared.RankKey.{RankKey}
use Rattle.warm_rank.specs.Keys.{key_cmp}
use Rattle.warm_rank.specs.Slots.{key_at, set_first_cmp, key_while, keys_while}
use Rattle.warm_rank.specs.Behind.{IsBehind, AreRepaired, lowered}
use Rattle.warm_rank.proofs.KeyLemmas.{key_order}
use Rattle.warm_rank.proofs.BehindLemmas.{itself, none_last}
use Rattle.warm_frame_table.specs.declared.frame.Status.{Status}
use Rattle.warm_frame_table.specs.declared.selection.Devices.{Devices}
use Rattle.warm_frame_table.specs.Frames.{FrameState, nth_frame, fresh_frame, eviction_key, key_unless_fixed}
use Rattle.warm_frame_table.specs.Selection.{selects}
use Rattle.warm_frame_table.specs.stored.Parts.{FrameBody, frame_of, frames_of}
use Rattle.warm_frame_table.specs.stored.Tied.{LagsBehind}
use Rattle.warm_frame_table.specs.stored.PageTable.{clear_if}

-- the key comes after the other; none comes last
abbrev exceeds : Option RankKey → Option RankKey → Bool
exceeds key other = is_gt (set_first_cmp key_cmp key other)

-- One frame

-- a frame without a rank doesn't compete
pub bare_key : (n : ℕ) (none : Option RankKey) → cond (n == 0) none none ≡ none
bare_key n none = elim (n == 0) as (λ t. cond t none none ≡ none) [ true ↦ refl | false ↦ refl ]

-- a key that is at most the page's rank, whether the page is pinned or not
pub lags_low : (key : Option RankKey) (f : FrameState) → exceeds key f.key ≡ false
    → LagsBehind key f
lags_low key f low = record {
  competes = elim (f.fixes == 0) as (λ t. exceeds key (cond t f.key None) ≡ false) [ true ↦ low | false ↦ none_last key_cmp key_order key ];
  ranked = inr low;
}

-- the key with which the page competes
pub lags_exact : (f : FrameState) → LagsBehind (eviction_key f) f
lags_exact f = record {
  competes = itself key_cmp key_order (eviction_key f);
  ranked = elim (f.fixes == 0) as (λ t. let key : Option RankKey = cond t f.key None in ((key ≡ None) ⊎ (exceeds key f.key ≡ false))) [ true ↦ inr (itself key_cmp key_order f.key) | false ↦ inl refl ];
}

-- the pins and the rank stay
pub lags_kept : (key : Option RankKey) (f g : FrameState) → LagsBehind key f → g.fixes ≡ f.fixes
    → g.key ≡ f.key → LagsBehind key g
lags_kept key f g lags fixes rank = record {
  competes = subst (λ k. exceeds key k ≡ false) (sym (ap (λ n. key_unless_fixed n g.key) fixes ∙ ap (key_unless_fixed f.fixes) rank)) lags.competes;
  ranked = subst (λ k. (key ≡ None) ⊎ (exceeds key k ≡ false)) (sym rank) lags.ranked;
}

-- the page is pinned, and its rank stays
pub lags_fixed : (key : Option RankKey) (f g : FrameState) → LagsBehind key f → 0 < g.fixes
    → g.key ≡ f.key → LagsBehind key g
lags_fixed key f g lags some rank = record {
  competes = subst (λ k. exceeds key k ≡ false) (sym (ap (λ t. cond t g.key None) (ne_eqb g.fixes 0 (λ e. absurd (omega arith))))) (none_last key_cmp key_order key);
  ranked = subst (λ k. (key ≡ None) ⊎ (exceeds key k ≡ false)) (sym rank) lags.ranked;
}

-- the rank stays, and the slot has a key, which is at most that rank
pub lags_set : (key : Option RankKey) (f g : FrameState) → LagsBehind key f → is_some key ≡ true
    → g.key ≡ f.key → LagsBehind key g
lags_set key f g lags some rank = lags_low key g (subst (λ k. exceeds key k ≡ false) (sym rank) (elim lags.ranked [
  | inl none ↦ let no : false ≡ true = sym (ap is_some none) ∙ some in absurd (cc)
  | inr low ↦ low
]))

-- a frame without a page, and a slot without a key
lags_empty : (status : Status) (body : FrameBody) → LagsBehind None (frame_of None status body)
lags_empty status body = record {
  competes = ap (exceeds None) (bare_key status.fixes None);
  ranked = inl refl;
}

-- The contest was updated for one frame: the other slots keep their keys, and the key of this one
-- does not come after the one with which the frame competes now.
pub record IsUpdated (contest : List (Option RankKey)) (i : ℕ) (f : FrameState)
    (keys : List (Option RankKey)) : Type 0 where
  pub count : length keys ≡ length contest
  pub others : (j : ℕ) → j ≢ i → key_at keys j ≡ key_at contest j
  pub here : LagsBehind (key_at keys i) f

pub not_updated : (contest : List (Option RankKey)) (i : ℕ) (f : FrameState)
    → LagsBehind (key_at contest i) f → IsUpdated contest i f contest
not_updated contest i f lags = record { count = refl; others = λ j ne. refl; here = lags }

-- it was given the page's rank
pub updated : (contest : List (Option RankKey)) (i : ℕ) (f : FrameState) (key : Option RankKey)
    → i < length contest → f.key ≡ key → IsUpdated contest i f (set contest i key)
updated contest i f key there is = record {
  count = length-set contest i key;
  others = λ j ne. get_or-set_other contest i j key None ne;
  here = subst (λ k. LagsBehind k f) (sym (get_or-set_same contest i key None there))
      (lags_low key f (subst (λ k. exceeds key k ≡ false) (sym is) (itself key_cmp key_order key)));
}

-- it was given the page's rank if that is less than what it had
pub updated_lower : (contest : List (Option RankKey)) (i : ℕ) (f : FrameState)
    (key : Option RankKey)
    → i < length contest → f.key ≡ key → IsUpdated contest i f (lowered key_cmp contest i key)
updated_lower contest i f key there is = by_cases (exceeds (key_at contest i) key) refl
  where
    by_cases : (t : Bool) → exceeds (key_at contest i) key ≡ t
        → IsUpdated contest i f (cond t (set contest i key) contest)
    by_cases true e = updated contest i f key there is
    by_cases false e = not_updated contest i f (lags_low (key_at contest i) f (subst (λ k. exceeds (key_at contest i) k ≡ false) (sym is) e))

-- All frames

pub fresh_lag : (n : ℕ) (bytes : List ℕ) (i : ℕ)
    → LagsBehind (key_at (replicate n None) i) (nth_frame (replicate n (fresh_frame bytes)) i)
fresh_lag zero bytes i = record { competes = refl; ranked = inl refl }
fresh_lag (suc n) bytes zero = record { competes = refl; ranked = inl refl }
fresh_lag (suc n) bytes (suc i) = fresh_lag n bytes i

one_left : (page : Option PageId) (status : Status) (body : FrameBody) (key : Option RankKey)
    → LagsBehind key (frame_of page status body)
    → LagsBehind (key_while page key) (frame_of page status body)
one_left None status body key lags = lags_empty status body
one_left (Some page) status body key lags = lags

one_cleared : (which : Devices) (page : Option PageId) (status : Status) (body : FrameBody)
    (key : Option RankKey) → LagsBehind key (frame_of page status body)
    → LagsBehind (key_while (clear_if which page) key) (frame_of (clear_if which page) status body)
one_cleared which page status body key lags = elim (selects which page) as (λ t. let left : Option PageId = cond t None page in LagsBehind (key_while left key) (frame_of left status body)) [
  | true ↦ lags_empty status body
  | false ↦ one_left page status body key lags
]

-- the pages of selected frames left, and their slots were cleared
pub all_cleared : (which : Devices) (ps : List (Option PageId)) (ss : List Status)
    (bs : List FrameBody) (contest : List (Option RankKey)) → length ss ≡ length ps
    → length bs ≡ length ps → length contest ≡ length ps
    → ((i : ℕ) → LagsBehind (key_at contest i) (nth_frame (frames_of ps ss bs) i))
    → (i : ℕ) → LagsBehind (key_at (keys_while (map (clear_if which) ps) contest) i)
    (nth_frame (frames_of (map (clear_if which) ps) ss bs) i)
all_cleared which [] ss bs [] h k n each i = each i
all_cleared which [] ss bs (key ∷ keys) h k n each i = absurd (omega arith)
all_cleared which (p ∷ ps) [] bs contest h k n each i = absurd (omega arith)
all_cleared which (p ∷ ps) (s ∷ ss) [] contest h k n each i = absurd (omega arith)
all_cleared which (p ∷ ps) (s ∷ ss) (b ∷ bs) [] h k n each i = absurd (omega arith)
all_cleared which (p ∷ ps) (s ∷ ss) (b ∷ bs) (key ∷ keys) h k n each zero = one_cleared which p s b key (each 0)
all_cleared which (p ∷ ps) (s ∷ ss) (b ∷ bs) (key ∷ keys) h k n each (suc i) = all_cleared which ps ss bs keys (omega arith) (omega arith) (omega arith) (λ j. each (suc j)) i

-- the contest is behind the keys with which the pages compete
pub all_behind : (frames : List FrameState) (contest : List (Option RankKey))
    → length contest ≡ length frames
    → ((i : ℕ) → LagsBehind (key_at contest i) (nth_frame frames i))
    → IsBehind key_cmp contest (map eviction_key frames)
all_behind frames contest count each = record {
  count = count ∙ sym (length-map frames eviction_key);
  below = λ i. subst (λ k. exceeds (key_at contest i) k ≡ false) (sym (mapped eviction_key frames i (fresh_frame []))) (each i).competes;
}

-- and still is, once some slots were repaired
pub all_repaired : (frames : List FrameState) (contest repaired : List (Option RankKey))
    → AreRepaired contest (map eviction_key frames) repaired
    → ((i : ℕ) → LagsBehind (key_at contest i) (nth_frame frames i))
    → (i : ℕ) → LagsBehind (key_at repaired i) (nth_frame frames i)
all_repaired frames contest repaired are each i = elim (are.each i) [
  | inl kept ↦ subst (λ k. LagsBehind k (nth_frame frames i)) (sym kept) (each i)
  | inr now ↦ subst (λ k. LagsBehind k (nth_frame frames i)) (sym (now ∙ mapped eviction_key frames i (fresh_frame []))) (lags_exact (nth_frame frames i))
]
