-- Bodies: entries one after the other, and tables of digests.
use Rattle.std.proofs.Common.{◌≡◌, ℕ, zero, suc, ◌+◌, ◌*◌, ◌^◌, ◌<◌, ◌≤◌, true, eqb, leb, List, [], ◌∷◌, ◌++◌, length, get_or, drop, Option, Some, None, Ok, refl, sym, ap, subst, ◌∙◌, append_assoc, arith}
use Rattle.std.specs.Int.{w32, to_be_bytes}
use Rattle.std.specs.List.{AllByRecursion, flat_map}
use Rattle.std.specs.Simd.{first_chunks}
use Rattle.std.proofs.lemmas.Bool.{eqb-true}
use Rattle.std.proofs.lemmas.Bool.Decides.{nat_tests}
use Rattle.std.proofs.lemmas.List.{append-nil, nil_from_length, take_at, drop_at, take-append-drop, length-append, length-take, length-drop}
use Rattle.std.proofs.lemmas.List.Concat.{flat_map-cons}
use Rattle.warm_stamps.specs.declared.TheConstants.{BUCKETS}
use Rattle.warm_stamps.specs.declared.PageId.{PageId}
use Rattle.warm_stamps.proofs.ByteLemmas.{IsBytes}
use Rattle.warm_history.specs.PageHist.{PageHist}
use Rattle.warm_history.specs.PageHist.TheVariants.{Once, Twice}
use Rattle.warm_history.specs.Entry.{Entry}
use Rattle.warm_history.specs.Carried.{comes_after}
use Rattle.warm_history.specs.Histories.{PagesAscend}
use Rattle.warm_history.proofs.MergeLemmas.{rises_on}
use Rattle.warm_frames.specs.declared.format.Format.{Format}
use Rattle.warm_frames.specs.declared.format.Format.TheVariants.{Narrow, Wide}
use Rattle.warm_frames.specs.declared.layout.TheConstants.{MAX_ENTRIES, DIGEST_SIZE}
use Rattle.warm_frames.specs.declared.fault.FrameFault.TheVariants.{BadLength, BadCount}
use Rattle.warm_frames.specs.Entries.{hist_bytes, page_bytes_in, entry_bytes_in, entries_bytes_in, IsEntry, IsEntryList}
use Rattle.warm_frames.specs.Digests.{IsDigestTable, table_size}
use Rattle.warm_frames.specs.Reading.{◌>>=◌, entry_size, number_at, want, entry_at, entries_at, count_at, all_entries, read_entries, read_digests}
use Rattle.warm_frames.proofs.FieldLemmas.{bind_ok, want_ok, chosen_ok, ok_is, Takes, Takes-then, wide32, number_takes, number_again, IsNarrowIn, entry_takes, entry_again, less_is, less_true}

-- ---- entries

-- each page comes after the one before, and the first after the given one
abbrev pub RiseFrom : Option PageId → List Entry → Type 0
RiseFrom before [] = Unit {0}
RiseFrom before (e ∷ es) = (comes_after before e.page ≡ true) × RiseFrom (Some e.page) es

rise_all : (before : Option PageId) (es : List Entry) → RiseFrom before es → PagesAscend es
rise_all before [] rise = tt
rise_all before (e ∷ []) rise = (tt, tt)
rise_all before (e ∷ f ∷ es) rise = rises_on e f es (rise_all (Some e.page) (f ∷ es) rise.1) (less_is _ rise.1.0)

rise_after : (e : Entry) (es : List Entry) → PagesAscend (e ∷ es) → RiseFrom (Some e.page) es
rise_after e [] rise = tt
rise_after e (f ∷ es) rise = (less_true _ rise.0.0, rise_after f es rise.1)

rise_from : (es : List Entry) → PagesAscend es → RiseFrom None es
rise_from [] rise = tt
rise_from (e ∷ es) rise = (refl, rise_after e es rise)

pub record TakesEntries (format : Format) (n : ℕ) (before : Option PageId) (bytes : List ℕ)
    (x : List Entry × List ℕ) : Type 0 where
  pub taken : Takes bytes (entries_bytes_in format x.0) x.1
  pub count : length x.0 ≡ n
  pub each : AllByRecursion IsEntry x.0
  pub narrow : AllByRecursion (λ e. IsNarrowIn format e.page) x.0
  pub rise : RiseFrom before x.0

entries_take : (format : Format) (n : ℕ) (before : Option PageId) (bytes : List ℕ)
    (x : List Entry × List ℕ) → IsBytes bytes → entries_at format n before bytes ≡ Ok x
    → TakesEntries format n before bytes x
unfolding entries_at
entries_take format zero before bytes x fits e =
    subst (TakesEntries format 0 before bytes) (ok_is ([], bytes) x e) (record { taken = record { parts = refl; rest_fits = fits }; count = refl; each = tt; narrow = tt; rise = tt })
entries_take format (suc n) before bytes x fits e =
    let a = bind_ok (entry_at format before bytes) (λ first. entries_at format n (Some first.0.page) first.1 >>= λ later. Ok (first.0 ∷ later.0, later.1)) x e in
    let b = bind_ok (entries_at format n (Some a.0.0.page) a.0.1) (λ later. Ok (a.0.0 ∷ later.0, later.1)) x a.2 in
    let first = entry_takes format before bytes a.0 fits a.1 in
    let later = entries_take format n (Some a.0.0.page) a.0.1 b.0 first.taken.rest_fits b.1 in
    let both = Takes-then bytes (entry_bytes_in format a.0.0) a.0.1 (entries_bytes_in format b.0.0) b.0.1 first.taken later.taken in
    let made : List Entry × List ℕ = (a.0.0 ∷ b.0.0, b.0.1) in
    subst (TakesEntries format (suc n) before bytes) (ok_is made x b.2) (record {
      taken = record { parts = both.parts ∙ ap (λ (w : List ℕ). w ++ b.0.1) (sym (flat_map-cons (entry_bytes_in format) a.0.0 b.0.0)); rest_fits = both.rest_fits };
      count = ap suc later.count;
      each = (first.fits, later.each);
      narrow = (first.narrow, later.narrow);
      rise = (first.greater, later.rise);
    })

entries_again : (format : Format) (es : List Entry) (before : Option PageId) (rest : List ℕ)
    → AllByRecursion IsEntry es → AllByRecursion (λ e. IsNarrowIn format e.page) es
    → RiseFrom before es → entries_at format (length es) before (entries_bytes_in format es ++ rest)
    ≡ Ok (es, rest)
unfolding entries_at
entries_again format [] before rest fits narrow rise = refl
entries_again format (e ∷ es) before rest fits narrow rise =
    let regrouped : entries_bytes_in format (e ∷ es) ++ rest ≡ entry_bytes_in format e ++ (entries_bytes_in format es ++ rest) = ap (λ (w : List ℕ). w ++ rest) (flat_map-cons (entry_bytes_in format) e es) ∙ append_assoc (entry_bytes_in format e) (entries_bytes_in format es) rest in
    ap (entries_at format (suc (length es)) before) regrouped ∙ rw (entry_again format before e (entries_bytes_in format es ++ rest) fits.0 narrow.0 rise.0, entries_again format es (Some e.page) rest fits.1 narrow.1 rise.1) refl

pub record CountsEntries (body : List ℕ) (x : ℕ × List ℕ) : Type 0 where
  pub taken : Takes body (to_be_bytes w32 x.0) x.1
  pub few : x.0 ≤ MAX_ENTRIES

pub count_takes : (body : List ℕ) (x : ℕ × List ℕ) → IsBytes body → count_at body ≡ Ok x
    → CountsEntries body x
unfolding count_at
count_takes body x fits e =
    let a = bind_ok (number_at w32 BadLength body) (λ count. want (leb count.0 MAX_ENTRIES) BadCount >>= λ few. Ok count) x e in
    let g = want_ok (leb a.0.0 MAX_ENTRIES) BadCount (λ few. Ok a.0) x a.2 in
    let t = number_takes w32 (2 ^ 32) BadLength wide32 body a.0 fits a.1 in
    let few : a.0.0 ≤ MAX_ENTRIES = grind (arith, nat_tests, g.0) in
    subst (CountsEntries body) (ok_is a.0 x g.1) (record { taken = t.0; few = few })

pub record AreEntries (format : Format) (count : ℕ) (bytes : List ℕ)
    (es : List Entry) : Type 0 where
  pub text : bytes ≡ entries_bytes_in format es
  pub as_many : length es ≡ count
  pub each : AllByRecursion IsEntry es
  pub narrow : AllByRecursion (λ e. IsNarrowIn format e.page) es
  pub rise : PagesAscend es

-- all bytes after a count are the entries
pub all_take : (format : Format) (count : ℕ) (bytes : List ℕ) (es : List Entry) → IsBytes bytes
    → all_entries format count bytes ≡ Ok es → AreEntries format count bytes es
unfolding all_entries
all_take format count bytes es fits e =
    let a = bind_ok (entries_at format count None bytes) (λ entries. want (eqb (length entries.1) 0) BadLength >>= λ ended. Ok entries.0) es e in
    let g = want_ok (eqb (length a.0.1) 0) BadLength (λ ended. Ok a.0.0) es a.2 in
    let t = entries_take format count None bytes a.0 fits a.1 in
    let nothing : a.0.1 ≡ [] = nil_from_length a.0.1 (eqb-true _ _ g.0) in
    subst (AreEntries format count bytes) (ok_is a.0.0 es g.1) (record {
      text = t.taken.parts ∙ ap (λ (r : List ℕ). entries_bytes_in format a.0.0 ++ r) nothing ∙ append-nil (entries_bytes_in format a.0.0);
      as_many = t.count;
      each = t.each;
      narrow = t.narrow;
      rise = rise_all None a.0.0 t.rise;
    })

-- what is read after a count is a list for a frame
pub all_listed : (format : Format) (body : List ℕ) (count : ℕ) (rest : List ℕ) (es : List Entry)
    → IsBytes body → count_at body ≡ Ok (count, rest) → all_entries format count rest ≡ Ok es
    → IsEntryList es
all_listed format body count rest es fits h e =
    let c = count_takes body (count, rest) fits h in
    let t = all_take format count rest es c.taken.rest_fits e in
    record { pages_ascend = t.rise; at_most = rw t.as_many c.few; each = t.each }

pub record ListsEntries (format : Format) (body : List ℕ) (es : List Entry) : Type 0 where
  pub text : body ≡ to_be_bytes w32 (length es) ++ entries_bytes_in format es
  pub listed : IsEntryList es
  pub narrow : AllByRecursion (λ e. IsNarrowIn format e.page) es

pub entries_body : (format : Format) (body : List ℕ) (es : List Entry) → IsBytes body
    → read_entries format body ≡ Ok es → ListsEntries format body es
unfolding read_entries
entries_body format body es fits e =
    let a = bind_ok (count_at body) (λ count. all_entries format count.0 count.1) es e in
    let c = count_takes body a.0 fits a.1 in
    let t = all_take format a.0.0 a.0.1 es c.taken.rest_fits a.2 in
    record {
      text = c.taken.parts ∙ ap (λ (w : List ℕ). to_be_bytes w32 a.0.0 ++ w) t.text ∙ ap (λ (n : ℕ). to_be_bytes w32 n ++ entries_bytes_in format es) (sym t.as_many);
      listed = record { pages_ascend = t.rise; at_most = rw t.as_many c.few; each = t.each };
      narrow = t.narrow;
    }

pub body_again : (format : Format) (es : List Entry) → IsEntryList es
    → AllByRecursion (λ e. IsNarrowIn format e.page) es
    → read_entries format (to_be_bytes w32 (length es) ++ entries_bytes_in format es) ≡ Ok es
unfolding read_entries count_at all_entries
body_again format es listed narrow =
    let few : leb (length es) MAX_ENTRIES ≡ true = let h = listed.at_most in grind (arith, nat_tests) in
    let count = number_again w32 (2 ^ 32) BadLength wide32 (length es) (entries_bytes_in format es) (let h = listed.at_most in omega arith) in
    let rest : entries_at format (length es) None (entries_bytes_in format es) ≡ Ok (es, []) = ap (entries_at format (length es) None) (sym (append-nil (entries_bytes_in format es))) ∙ entries_again format es None [] listed.each narrow (rise_from es listed.pages_ascend) in
    rw (count, few, rest) refl

-- ---- the length of entries

short_hist : (h : PageHist) → length (hist_bytes h) ≤ 21
short_hist (Once last) = omega arith
short_hist (Twice two) = omega arith

short_page : (format : Format) (p : PageId)
    → length (page_bytes_in format p) + 21 ≡ entry_size format
short_page Narrow p = refl
short_page Wide p = refl

pub short_entries : (format : Format) (es : List Entry)
    → length (entries_bytes_in format es) ≤ entry_size format * length es
short_entries format [] = omega arith
short_entries format (e ∷ es) =
    let whole : length (entries_bytes_in format (e ∷ es)) ≡ length (entry_bytes_in format e) + length (entries_bytes_in format es) = ap length (flat_map-cons (entry_bytes_in format) e es) ∙ length-append (entry_bytes_in format e) (entries_bytes_in format es) in
    let own : length (entry_bytes_in format e) ≡ length (page_bytes_in format e.page) + length (hist_bytes e.hist) = length-append (page_bytes_in format e.page) (hist_bytes e.hist) in
    let more : entry_size format * suc (length es) ≡ entry_size format + entry_size format * length es = grind arith in
    omega (arith, whole, own, more, short_page format e.page, short_hist e.hist, short_entries format es)

-- ---- tables of digests

joined_chunks : (n k : ℕ) (xs : List ℕ) → length xs ≡ n * k
    → flat_map (λ x. x) (first_chunks n k xs) ≡ xs
joined_chunks n zero xs len = sym (nil_from_length xs (omega (arith, len)))
joined_chunks n (suc k) xs len =
    let e : n * suc k ≡ n + n * k = grind arith in
    let later = joined_chunks n k (drop n xs) (omega (arith, e, length-drop n xs)) in
    rw (flat_map-cons, later) (take-append-drop n xs)

chunks_long : (n k : ℕ) (xs : List ℕ) → length xs ≡ n * k
    → AllByRecursion (λ digest. length digest ≡ n) (first_chunks n k xs)
chunks_long n zero xs len = tt
chunks_long n (suc k) xs len =
    let e : n * suc k ≡ n + n * k = grind arith in
    (omega (arith, e, length-take n xs), chunks_long n k (drop n xs) (omega (arith, e, length-drop n xs)))

length-chunks : (n k : ℕ) (xs : List ℕ) → length (first_chunks n k xs) ≡ k
length-chunks n zero xs = refl
length-chunks n (suc k) xs = ap suc (length-chunks n k (drop n xs))

chunks_joined : (n : ℕ) (digests : List (List ℕ))
    → AllByRecursion (λ digest. length digest ≡ n) digests
    → first_chunks n (length digests) (flat_map (λ x. x) digests) ≡ digests
chunks_joined n [] all = refl
chunks_joined n (s ∷ digests) all =
    rw (flat_map-cons, take_at s (flat_map (λ x. x) digests) n all.0, drop_at s (flat_map (λ x. x) digests) n all.0, chunks_joined n digests all.1) refl

length-joined : (n : ℕ) (digests : List (List ℕ))
    → AllByRecursion (λ digest. length digest ≡ n) digests
    → length (flat_map (λ x. x) digests) ≡ n * length digests
length-joined n [] all = omega arith
length-joined n (s ∷ digests) all =
    let e : n * suc (length digests) ≡ n + n * length digests = grind arith in
    let later = length-joined n digests all.1 in
    let whole : length (flat_map (λ x. x) (s ∷ digests)) ≡ length s + length (flat_map (λ x. x) digests) = ap length (flat_map-cons (λ x. x) s digests) ∙ length-append s (flat_map (λ x. x) digests) in
    omega (arith, e, later, all.0, whole)

-- digests of this many bytes each, place by place
pub digests_long : (digests : List (List ℕ))
    → ((i : ℕ) → i < length digests → length (get_or digests i []) ≡ DIGEST_SIZE)
    → AllByRecursion (λ digest. length digest ≡ DIGEST_SIZE) digests
digests_long [] each = tt
digests_long (s ∷ digests) each = (each 0 (omega arith), digests_long digests (λ i lt. each (suc i) (omega (arith, lt))))

pub length-digests : (digests : List (List ℕ)) → IsDigestTable digests
    → length (flat_map (λ x. x) digests) ≡ table_size
length-digests digests table = omega (arith, length-joined DIGEST_SIZE digests table.each, table.count)

pub record HoldsDigests (body : List ℕ) (digests : List (List ℕ)) : Type 0 where
  pub text : body ≡ flat_map (λ x. x) digests
  pub table : IsDigestTable digests

pub digests_body : (body : List ℕ) (digests : List (List ℕ)) → read_digests body ≡ Ok digests
    → HoldsDigests body digests
unfolding read_digests
digests_body body digests e =
    let g = chosen_ok (eqb (length body) table_size) BadLength (first_chunks DIGEST_SIZE BUCKETS body) digests e in
    let len : length body ≡ table_size = eqb-true _ _ g.0 in
    subst (HoldsDigests body) g.1 (record { text = sym (joined_chunks DIGEST_SIZE BUCKETS body len); table = record { count = length-chunks DIGEST_SIZE BUCKETS body; each = chunks_long DIGEST_SIZE BUCKETS body len } })

pub digests_again : (digests : List (List ℕ)) → IsDigestTable digests
    → read_digests (flat_map (λ x. x) digests) ≡ Ok digests
unfolding read_digests
digests_again digests table =
    let again : first_chunks DIGEST_SIZE BUCKETS (flat_map (λ x. x) digests) ≡ digests = subst (λ (k : ℕ). first_chunks DIGEST_SIZE k (flat_map (λ x. x) digests) ≡ digests) table.count (chunks_joined DIGEST_SIZE digests table.each) in
    rw (length-digests digests table, again) refl
