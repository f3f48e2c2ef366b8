-- A change of a bucket's map is a change of all maps together, and each map keeps to its own
-- bucket.
use Rattle.std.proofs.Common.{◌≡◌, ℕ, List, [], ◌∷◌, ◌++◌, sym, ap, subst, refl, ◌∙◌, arith, Option, Some, None, length, zero, suc, ◌+◌, ◌<◌, IfOk, OnErr}
use Rattle.std.specs.List.{AllByRecursion}
use Rattle.std.specs.BTreeMap.{insert_entry}
use Rattle.std.specs.Ordering.{nat_cmp}
use Rattle.std.specs.declared.cmp.Ordering.TheVariants.{Less}
use Rattle.std.specs.declared.result.Result.{Result}
use Rattle.std.specs.declared.result.Result.TheVariants.{Ok, Err}
use Rattle.warm_stamps.proofs.DistinctLemmas.{by_cases}
use Rattle.warm_stamps.specs.declared.PageId.{PageId}
use Rattle.warm_maps.specs.declared.hist.PageHist.{PageHist}
use Rattle.warm_maps.specs.declared.bucket_map.UndoNote.{UndoNote}
use Rattle.warm_maps.specs.PageHists.{latest_of, hist_stamps, known_stamps}
use Rattle.warm_maps.specs.MapKeys.{key_of_page, IsMapKey}
use Rattle.warm_maps.specs.MapPairs.{MapPairs, AreKept}
use Rattle.warm_maps.specs.Undo.{put_back, notes_of, Undoes}
use Rattle.warm_maps.specs.BucketMaps.{all_pairs, LiesIn, AreBuckets, map_at, with_map, KeysAscend, found, IsUndoNote, RecordsStamps, SaysNote}
use Rattle.warm_maps.proofs.MapPairLemmas.{kept_more, put_back-insert, found_inserted}
use Rattle.warm_maps.proofs.BucketLemmas.{find_joined, insert_joined, set_joined, remove_joined}

-- ---- the maps with one changed

pub with_same : (ms : List MapPairs) (i : ℕ) → with_map ms i (map_at ms i) ≡ ms
with_same [] i = refl
with_same (m ∷ ms) zero = refl
with_same (m ∷ ms) (suc i) = ap (λ t. m ∷ t) (with_same ms i)

-- ---- each map stays with its own bucket

abbrev pub AllIn : ℕ → MapPairs → Type 0
AllIn bucket pairs = AllByRecursion (λ e. LiesIn bucket e.0) pairs

shifted : (b i : ℕ) (m : MapPairs) → AllIn (b + 1 + i) m → AllIn (b + suc i) m
shifted b i m all = let same : b + 1 + i ≡ b + suc i = omega arith in subst (λ k. AllIn k m) same all

back : (b i : ℕ) (m : MapPairs) → AllIn (b + suc i) m → AllIn (b + 1 + i) m
back b i m all = let same : b + suc i ≡ b + 1 + i = omega arith in subst (λ k. AllIn k m) same all

first_in : (b : ℕ) (m : MapPairs) → AllIn b m → AllIn (b + zero) m
first_in b m all = let same : b ≡ b + zero = omega arith in subst (λ k. AllIn k m) same all

first_back : (b : ℕ) (m : MapPairs) → AllIn (b + zero) m → AllIn b m
first_back b m all = let same : b + zero ≡ b = omega arith in subst (λ k. AllIn k m) same all

pub bucket_in : (b i : ℕ) (ms : List MapPairs) → AreBuckets b ms → AllIn (b + i) (map_at ms i)
bucket_in b i [] are = tt
bucket_in b zero (m ∷ ms) are = first_in b m are.0
bucket_in b (suc i) (m ∷ ms) are = shifted b i (map_at ms i) (bucket_in (b + 1) i ms are.1)

pub buckets_with : (b i : ℕ) (n : MapPairs) (ms : List MapPairs) → AreBuckets b ms → AllIn (b + i) n
    → AreBuckets b (with_map ms i n)
buckets_with b i n [] are all = tt
buckets_with b zero n (m ∷ ms) are all = (first_back b n all, are.1)
buckets_with b (suc i) n (m ∷ ms) are all = (are.0, buckets_with (b + 1) i n ms are.1 (back b i n all))

pub in_insert : (b p : ℕ) (h : PageHist) (m : MapPairs) → LiesIn b p → AllIn b m
    → AllIn b (insert_entry nat_cmp m p h)
in_insert b p h [] is all = (is, tt)
in_insert b p h (e ∷ m) is all = by_cases (nat_cmp p e.0) _
    (λ pe. rw pe (is, all))
    (λ pe. rw pe all)
    (λ pe. rw pe (all.0, in_insert b p h m is all.1))

-- ---- what is put back

pub put_back_joined : (b i p : ℕ) (known : Option PageHist) (ms : List MapPairs) → AreBuckets b ms
    → LiesIn (b + i) p → put_back p known (all_pairs ms)
    ≡ all_pairs (with_map ms i (put_back p known (map_at ms i)))
put_back_joined b i p None ms are is = remove_joined b i p ms are is
put_back_joined b i p (Some h) ms are is = set_joined b i p h ms are is

-- ---- keys that rise in all maps rise in each

pub rise_later : (m n : MapPairs) → KeysAscend (m ++ n) → KeysAscend n
rise_later [] n rise = rise
rise_later (e ∷ m) n rise = rise_later m n rise.1

above_first : (k : ℕ) (m n : MapPairs)
    → AllByRecursion (λ (e : ℕ × PageHist). nat_cmp k e.0 ≡ Less) (m ++ n)
    → AllByRecursion (λ (e : ℕ × PageHist). nat_cmp k e.0 ≡ Less) m
above_first k [] n all = tt
above_first k (e ∷ m) n all = (all.0, above_first k m n all.1)

pub rise_first : (m n : MapPairs) → KeysAscend (m ++ n) → KeysAscend m
rise_first [] n rise = tt
rise_first (e ∷ m) n rise = (above_first e.0 m n rise.0, rise_first m n rise.1)

pub map_rises : (i : ℕ) (ms : List MapPairs) → KeysAscend (all_pairs ms) → KeysAscend (map_at ms i)
map_rises i [] rise = tt
map_rises zero (m ∷ ms) rise = rise_first m (all_pairs ms) rise
map_rises (suc i) (m ∷ ms) rise = map_rises i ms (rise_later m (all_pairs ms) rise)

-- ---- what a bucket's map records, all maps record

note_joined : (b i : ℕ) (page : PageId) (p : ℕ) (h : PageHist) (note : Option UndoNote)
    (ms : List MapPairs) (n : MapPairs) → AreBuckets b ms → LiesIn (b + i) p
    → IsUndoNote note page p h (map_at ms i) n
    → IsUndoNote note page p h (all_pairs ms) (all_pairs (with_map ms i n))
note_joined b i page p h None ms n are is same = ap (λ t. all_pairs (with_map ms i t)) same ∙ ap all_pairs (with_same ms i)
note_joined b i page p h (Some k) ms n are is known = (known.0, known.1 ∙ sym (find_joined b i p ms are is), known.2)

pub records_joined : (b i : ℕ) (page : PageId) (p : ℕ) (more : PageHist) (note : Option UndoNote)
    (ms : List MapPairs) (n : MapPairs) → AreBuckets b ms → LiesIn (b + i) p → i < length ms
    → RecordsStamps (map_at ms i) page p more note n
    → RecordsStamps (all_pairs ms) page p more note (all_pairs (with_map ms i n))
records_joined b i page p more note ms n are is there records = (
  records.0,
  records.1 ∙ ap (λ k. latest_of (hist_stamps more ++ known_stamps k)) (sym (find_joined b i p ms are is)),
  ap (λ t. all_pairs (with_map ms i t)) records.2 ∙ sym (insert_joined b i p records.0 ms are is there),
  note_joined b i page p records.0 note ms n are is records.3,
)

pub records_whole : (old new : MapPairs) (page : PageId) (p : ℕ) (more : PageHist)
    (change : Option UndoNote) → IsMapKey p → AreKept old → RecordsStamps old page p more change new
    → AreKept new
records_whole old new page p more change is are records = kept_more old new p records.0 (hist_stamps more ++ known_stamps (found p old)) is are records.1 records.2

pub records_undo : (old new : MapPairs) (page : PageId) (more : PageHist) (note : Option UndoNote)
    → AreKept old → RecordsStamps old page (key_of_page page) more note new
    → Undoes (notes_of note) new old
records_undo old new page more None are records = records.3
records_undo old new page more (Some k) are records =
    let p = key_of_page page in
    ap (λ q. put_back (key_of_page q) k.hist new) records.3.0
    ∙ ap (put_back p k.hist) records.2
    ∙ put_back-insert p records.0 old are.keys_ascend k.hist records.3.1

-- a note implies a change
pub records_tell : (old new : MapPairs) (page : PageId) (p : ℕ) (more : PageHist)
    (note : Option UndoNote) → RecordsStamps old page p more note new → SaysNote note p old new
records_tell old new page p more None records = records.3
records_tell old new page p more (Some k) records = λ same.
    let now : found p new ≡ Some records.0 = ap (found p) records.2 ∙ found_inserted p records.0 old in
    records.3.2 (records.3.1 ∙ sym same ∙ now)

pub either_way : {A E : Type 0} (r : Result A E) (P : A → Type 0) (Q R : Type 0)
    → ((a : A) → P a → R) → (Q → R) → IfOk r P → OnErr r Q → R
either_way (Ok a) P Q R ok err holds failed = ok a holds
either_way (Err e) P Q R ok err holds failed = err failed
