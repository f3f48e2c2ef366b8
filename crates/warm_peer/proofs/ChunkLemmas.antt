-- What comes after the last page of a chunk is what the next chunks are made of.
use Rattle.std.proofs.Common.{◌≡◌, ℕ, zero, suc, ◌≤◌, Bool, true, false, ◌&&◌, cond, List, [], ◌∷◌, length, take, drop, filter, Option, Some, None, refl, sym, ap, subst, ◌∙◌, arith}
use Rattle.std.specs.Prelude.{◌==◌}
use Rattle.std.specs.List.{AllByRecursion}
use Rattle.std.specs.Ordering.{on}
use Rattle.std.specs.declared.cmp.Ordering.TheVariants.{Less, Greater}
use Rattle.std.proofs.Math.Seq.{take-nil}
use Rattle.std.proofs.Math.Bool.{and-true}
use Rattle.std.proofs.lemmas.Bool.{and_parts}
use Rattle.std.proofs.lemmas.Cmp.{tied_itself}
use Rattle.std.proofs.lemmas.List.{length-drop}
use Rattle.std.proofs.lemmas.List.Elements.{All-weaker, filter_agree, filter_passes, recursion_from_All}
use Rattle.warm_stamps.specs.declared.PageId.{PageId}
use Rattle.warm_stamps.specs.Buckets.{page_bucket}
use Rattle.warm_stamps.specs.Stamps.{page_cmp}
use Rattle.warm_stamps.proofs.DistinctLemmas.{flipped, all_take, rising_filter}
use Rattle.warm_stamps.proofs.StampLemmas.{page_order}
use Rattle.warm_history.specs.Entry.{Entry}
use Rattle.warm_history.specs.ReferenceSets.{ReferenceSet}
use Rattle.warm_history.specs.Histories.{entries_of, history, PagesAscend}
use Rattle.warm_history.specs.Carried.{bucket_entries, comes_after, is_next_in_bucket}
use Rattle.warm_history.proofs.HistoryLemmas.{IsHistory-history}
use Rattle.warm_history.proofs.CarriedLemmas.{history-carried}
use Rattle.warm_frames.proofs.FieldLemmas.{less_is}
use Rattle.warm_frames.specs.Chunks.{chunks_of}
use Rattle.warm_peer.specs.Chunks.{last_page, chunk_after, AreAllChunks, ChunksInTurn}

-- the entries whose page comes after the given one
abbrev later : Option PageId → List Entry → List Entry
later after = filter (λ e. comes_after after e.page)

-- those that are of the bucket, too
abbrev chosen : ℕ → Option PageId → List Entry → List Entry
chosen bucket after = filter (λ e. is_next_in_bucket bucket after e.page)

-- ---- the last page of some entries

-- what is true of each page is true of the last
last_has : (P : PageId → Type 0) (e : Entry) (es : List Entry)
    → AllByRecursion (λ x. P x.page) (e ∷ es) → (q : PageId) × (last_page (e ∷ es) ≡ Some q) × P q
last_has P e [] all = (e.page, refl, all.0)
last_has P e (f ∷ es) all = last_has P f es all.1

-- all that are greater come after
all_later : (p : PageId) (es : List Entry) → AllByRecursion (λ x. page_cmp p x.page ≡ Less) es
    → later (Some p) es ≡ es
all_later p [] all = refl
all_later p (x ∷ es) all = rw all.0 (ap (λ t. x ∷ t) (all_later p es all.1))

-- of rising entries those after the last page of the first ones are the others
later-drop : (n : ℕ) (e : Entry) (es : List Entry) → PagesAscend (e ∷ es)
    → later (last_page (take (suc n) (e ∷ es))) (e ∷ es) ≡ drop (suc n) (e ∷ es)
later-drop zero e es rise = rw (tied_itself page_order.total e.page) (all_later e.page es rise.0)
later-drop (suc n) e [] rise = rw (tied_itself page_order.total e.page) refl
later-drop (suc n) e (f ∷ es) rise =
    let last = last_has (λ p. page_cmp e.page p ≡ Less) f (take n es) (all_take (λ x. page_cmp e.page x.page ≡ Less) (suc n) (f ∷ es) rise.0) in
    let before : page_cmp last.0 e.page ≡ Greater = flipped page_cmp page_order e.page last.0 Less last.2 in
    let away : comes_after (last_page (take (suc n) (f ∷ es))) e.page ≡ false = ap (λ o. comes_after o e.page) last.1 ∙ rw before refl in
    rw away (later-drop n f es rise.1)

-- ---- later entries of a bucket

comes_after_too : (after : Option PageId) (q p : PageId) → comes_after after q ≡ true
    → comes_after (Some q) p ≡ true → comes_after after p ≡ true
comes_after_too None q p first second = refl
comes_after_too (Some a) q p first second = rw (page_order.total.trans a q p (less_is _ first) (less_is _ second)) refl

-- after a chosen page come those of the chosen ones that come after it
chosen-later : (bucket : ℕ) (after : Option PageId) (q : PageId) → comes_after after q ≡ true
    → (es : List Entry) → chosen bucket (Some q) es ≡ later (Some q) (chosen bucket after es)
chosen-later bucket after q first [] = refl
chosen-later bucket after q first (e ∷ es) = cases (page_bucket e.page == bucket) (comes_after after e.page) (comes_after (Some q) e.page) refl (comes_after_too after q e.page first) (chosen-later bucket after q first es)
  where
    cases : (b u v : Bool) → comes_after (Some q) e.page ≡ v
        → (comes_after (Some q) e.page ≡ true → u ≡ true)
        → chosen bucket (Some q) es ≡ later (Some q) (chosen bucket after es)
        → cond (b && v) (e ∷ chosen bucket (Some q) es) (chosen bucket (Some q) es)
        ≡ later (Some q) (cond (b && u) (e ∷ chosen bucket after es) (chosen bucket after es))
    cases false u v is too rest = rest
    cases true true true is too rest = rw is (ap (λ t. e ∷ t) rest)
    cases true true false is too rest = rw is rest
    cases true false true is too rest = let never : false ≡ true = too is in absurd (cc)
    cases true false false is too rest = rest

all_chosen : (bucket : ℕ) (after : Option PageId) (es : List Entry)
    → AllByRecursion (λ x. comes_after after x.page ≡ true) (chosen bucket after es)
all_chosen bucket after es = recursion_from_All (λ e. comes_after after e.page ≡ true) (chosen bucket after es) (All-weaker (λ e. is_next_in_bucket bucket after e.page ≡ true) (λ e. comes_after after e.page ≡ true)
    (λ e passes. (and_parts (page_bucket e.page == bucket) (comes_after after e.page) passes).1) (chosen bucket after es) (filter_passes (λ e. is_next_in_bucket bucket after e.page) es))

-- all of a bucket are chosen if no page is given
chosen-first : (bucket : ℕ) (es : List Entry) → bucket_entries bucket es ≡ chosen bucket None es
chosen-first bucket es = filter_agree (λ e. page_bucket e.page == bucket) (λ e. is_next_in_bucket bucket None e.page) (λ e. sym (and-true (page_bucket e.page == bucket))) es

-- ---- chunks

-- what is sent is the first part of what is chosen
chunk_is : (S : ReferenceSet) (bucket limit : ℕ) (after : Option PageId) (es : List Entry)
    → es ≡ chosen bucket after (entries_of (history S))
    → chunk_after S bucket limit after ≡ take limit es
chunk_is S bucket limit after es is = sym (history-carried S bucket after limit) ∙ ap (take limit) (sym is)

in_turn_from : (S : ReferenceSet) (bucket size n : ℕ) (after : Option PageId) (es : List Entry)
    → es ≡ chosen bucket after (entries_of (history S)) → length es ≤ n
    → AreAllChunks S bucket (suc size) after (chunks_of (suc size) n es)
in_turn_from S bucket size zero after [] is few = chunk_is S bucket (suc size) after [] is ∙ take-nil (suc size)
in_turn_from S bucket size zero after (x ∷ xs) is few = absurd (omega (arith, few))
in_turn_from S bucket size (suc n) after [] is few = chunk_is S bucket (suc size) after [] is ∙ take-nil (suc size)
in_turn_from S bucket size (suc n) after (x ∷ xs) is few =
    let es : List Entry = x ∷ xs in
    let all = entries_of (history S) in
    let rise : PagesAscend es = subst PagesAscend (sym is) (rising_filter (on (λ e. e.page) page_cmp) (λ e. is_next_in_bucket bucket after e.page) all (IsHistory-history S).pages_ascend) in
    let each : AllByRecursion (λ e. comes_after after e.page ≡ true) es = subst (AllByRecursion (λ e. comes_after after e.page ≡ true)) (sym is) (all_chosen bucket after all) in
    let last = last_has (λ p. comes_after after p ≡ true) x (take size xs) (all_take (λ e. comes_after after e.page ≡ true) (suc size) es each) in
    let others : drop (suc size) es ≡ chosen bucket (last_page (take (suc size) es)) all =
    sym (later-drop size x xs rise)
    ∙ ap (λ q. later q es) last.1
    ∙ ap (later (Some last.0)) is
    ∙ sym (chosen-later bucket after last.0 last.2 all)
    ∙ sym (ap (λ q. chosen bucket q all) last.1) in
    let fewer : length (drop (suc size) es) ≤ n = omega (arith, length-drop (suc size) es) in
    (sym (chunk_is S bucket (suc size) after es is), omega arith, in_turn_from S bucket size n (last_page (take (suc size) es)) (drop (suc size) es) others fewer)

pub chunks_in_turn : ChunksInTurn
chunks_in_turn S bucket zero some = absurd (omega (arith, some))
chunks_in_turn S bucket (suc size) some =
    let es = bucket_entries bucket (entries_of (history S)) in
    in_turn_from S bucket size (length es) None es (chosen-first bucket (entries_of (history S))) (omega arith)
