-- What is written of a history is a dump of it.
use Rattle.std.proofs.Common.{◌≡◌, inl, inr, ℕ, zero, suc, ◌+◌, ◌<◌, ◌≤◌, ◌^◌, true, false, cond, List, [], ◌∷◌, ◌++◌, length, take, drop, map, None, refl, sym, ap, subst, ◌∙◌, append-nil, arith, flat_map}
use Rattle.std.specs.Prelude.{◌*◌, ◌==◌, Result, Ok, Err, IsOk, slice_index}
use Rattle.std.specs.Int.{w32, to_be_bytes}
use Rattle.std.specs.List.{AllByRecursion, range_with_len}
use Rattle.std.specs.Ordering.{on, flip_args}
use Rattle.std.proofs.lemmas.Bool.{cases_eq, eq-eqb, ne_eqb}
use Rattle.std.proofs.lemmas.List.{length-append, length-drop, length-map, length-take, take-append-drop}
use Rattle.std.proofs.lemmas.List.FromFn.{length-range_with_len}
use Rattle.std.proofs.lemmas.List.Concat.{flat_map-append, flat_map-cons}
use Rattle.sha2.specs.Sha256.{digest_bytes, final_hash, initial_hash_256, sha256}
use Rattle.warm_stamps.specs.declared.PageId.{PageId}
use Rattle.warm_stamps.specs.declared.Stamp.{Stamp}
use Rattle.warm_stamps.specs.declared.TheConstants.{BUCKETS}
use Rattle.warm_stamps.specs.Buckets.{page_bucket}
use Rattle.warm_stamps.specs.Distinct.{distinct}
use Rattle.warm_stamps.specs.Replicas.{IsReplica}
use Rattle.warm_stamps.specs.Stamps.{stamp_cmp, page_cmp}
use Rattle.warm_stamps.proofs.DistinctLemmas.{all_append, all_filter, all_take, rising_filter, rising_take}
use Rattle.warm_history.specs.Entry.{Entry}
use Rattle.warm_history.specs.ListHistories.{known_stamps, list_hist, first_two}
use Rattle.warm_history.specs.Carried.{bucket_entries}
use Rattle.warm_history.specs.Histories.{HistoryView, PagesAscend, IsHistory, entries_of, references_of_entries, history, references_of}
use Rattle.warm_history.proofs.HistoryLemmas.{same_hists}
use Rattle.warm_history.proofs.JoinLemmas.{history_of_own_references}
use Rattle.warm_history.proofs.KeptLemmas.{kept_alike}
use Rattle.warm_history.proofs.ListHistoryLemmas.{get, told, told-append, told_refs}
use Rattle.warm_history.proofs.OrderLemmas.{get-filter}
use Rattle.warm_frames.specs.declared.layout.TheConstants.{DIGEST_SIZE, MAGIC, MAX_ENTRIES}
use Rattle.warm_frames.specs.declared.message.Message.{Message}
use Rattle.warm_frames.specs.declared.message.Message.TheVariants.{Entries}
use Rattle.warm_frames.specs.Digests.{IsDigestTable}
use Rattle.warm_frames.specs.Entries.{IsEntry, entries_bytes}
use Rattle.warm_frames.specs.Pieces.{EncodeAll, texts_of}
use Rattle.warm_frames.specs.Encoding.{IsValidMessage, Encodes, encoding}
use Rattle.warm_frames.specs.Reading.{format_of}
use Rattle.warm_digest.specs.BucketDigests.{bucket_digest, digests_of}
use Rattle.warm_digest.specs.Exchange.{Fits}
use Rattle.warm_frames.specs.Chunks.{chunks_of, bucket_messages}
use Rattle.warm_dump.specs.Dumps.{history_messages, last_message, text_of}
use Rattle.warm_dump.specs.Laws.{DumpReadsBack}
use Rattle.warm_dump.specs.Reading.{IsEntriesAt, AreEntriesAt, brought, entries_brought, references_in}
use Rattle.warm_frames.proofs.ChunkLemmas.{pages_ascend_drop}
use Rattle.warm_dump.proofs.DumpLemmas.{messages_below, range_more}
use Rattle.warm_dump.proofs.BuilderLemmas.{references_of_entries-append}

-- ---- frames and their spellings

text_is : (fs : List Message) → texts_of (map encoding fs) ≡ text_of fs
text_is [] = refl
text_is (f ∷ fs) = ap (λ (w : List ℕ). encoding f ++ w) (text_is fs) ∙ sym (flat_map-cons encoding f fs)

-- the encoding that is written, in the format of these letters: it has no name outside its crate
never : false ≡ true → ⊥
never is = absurd (cc)

abbrev value_of : {A E : Type 0} (r : Result A E) → IsOk r → A
value_of (Ok x) is = x
value_of (Err e) is = absurd (never is)

spelled : (f : Message) → IsValidMessage f → Encodes (encoding f) f
spelled f fits = (value_of (format_of MAGIC) refl, record { fits = fits; holds = tt; text = refl })

all_encoded : (fs : List Message) → AllByRecursion IsValidMessage fs
    → EncodeAll (map encoding fs) fs
all_encoded [] all = tt
all_encoded (f ∷ fs) all = (spelled f all.0, all_encoded fs all.1)

-- ---- the frames of a list

all_drop : {A : Type 0} (P : A → Type 0) (n : ℕ) (xs : List A) → AllByRecursion P xs
    → AllByRecursion P (drop n xs)
all_drop P zero xs all = all
all_drop P (suc n) [] all = tt
all_drop P (suc n) (x ∷ xs) all = all_drop P n xs all.1

chunks_encoded : (sender horizon n : ℕ) (es : List Entry) → IsReplica sender → horizon < 2 ^ 64
    → PagesAscend es → AllByRecursion IsEntry es
    → AllByRecursion IsValidMessage
    (map (λ chunk. Entries sender horizon chunk) (chunks_of MAX_ENTRIES n es))
chunks_encoded sender horizon zero es replica low rise all = tt
chunks_encoded sender horizon (suc n) [] replica low rise all = tt
chunks_encoded sender horizon (suc n) (e ∷ es) replica low rise all =
    let by_page = on (λ (e : Entry). e.page) page_cmp in (
      (
        replica,
        low,
        record {
          pages_ascend = rising_take by_page MAX_ENTRIES (e ∷ es) rise;
          at_most = omega (arith, length-take MAX_ENTRIES (e ∷ es));
          each = all_take IsEntry MAX_ENTRIES (e ∷ es) all;
        },
      ),
      chunks_encoded sender horizon n (drop MAX_ENTRIES (e ∷ es)) replica low (pages_ascend_drop MAX_ENTRIES (e ∷ es) (drop MAX_ENTRIES (e ∷ es)) refl rise) (all_drop IsEntry MAX_ENTRIES (e ∷ es) all),
    )

chunks_entries : (sender horizon n : ℕ) (es : List Entry)
    → AreEntriesAt horizon
    (map (λ chunk. Entries sender horizon chunk) (chunks_of MAX_ENTRIES n es))
chunks_entries sender horizon zero es = tt
chunks_entries sender horizon (suc n) [] = tt
chunks_entries sender horizon (suc n) (e ∷ es) = (refl, chunks_entries sender horizon n (drop MAX_ENTRIES (e ∷ es)))

chunks_bring : (sender horizon n : ℕ) (es : List Entry) → length es ≤ n
    → entries_brought (map (λ chunk. Entries sender horizon chunk) (chunks_of MAX_ENTRIES n es))
    ≡ es
chunks_bring sender horizon zero [] few = refl
chunks_bring sender horizon zero (e ∷ es) few = absurd (omega (arith, few))
chunks_bring sender horizon (suc n) [] few = refl
chunks_bring sender horizon (suc n) (e ∷ es) few =
    let more : List Entry = drop MAX_ENTRIES (e ∷ es) in
    let messages : List Message = map (λ chunk. Entries sender horizon chunk) (chunks_of MAX_ENTRIES n more) in
    flat_map-cons brought (Entries sender horizon (take MAX_ENTRIES (e ∷ es))) messages
    ∙ ap (λ (x : List Entry). take MAX_ENTRIES (e ∷ es) ++ x) (chunks_bring sender horizon n more (omega (arith, few, length-drop MAX_ENTRIES (e ∷ es))))
    ∙ take-append-drop MAX_ENTRIES (e ∷ es)

-- ---- the frames of all buckets

all_flat_map : {A B : Type 0} (P : B → Type 0) (f : A → List B) (xs : List A)
    → ((x : A) → AllByRecursion P (f x)) → AllByRecursion P (flat_map f xs)
all_flat_map P f [] each = tt
all_flat_map P f (x ∷ xs) each = subst (AllByRecursion P) (sym (flat_map-cons f x xs)) (all_append P (f x) (flat_map f xs) (each x) (all_flat_map P f xs each))

-- the entries of a bucket rise, and there are such
bucket_rise : (h : HistoryView) (bucket : ℕ) → IsHistory h
    → PagesAscend (bucket_entries bucket (entries_of h))
bucket_rise h bucket whole = rising_filter (on (λ (e : Entry). e.page) page_cmp) (λ e. page_bucket e.page == bucket) (entries_of h) whole.pages_ascend

all_frames : (sender : ℕ) (h : HistoryView) → IsReplica sender → h.horizon < 2 ^ 64 → IsHistory h
    → Fits h → AllByRecursion IsValidMessage (history_messages sender h)
all_frames sender h replica low whole fits = all_flat_map IsValidMessage (bucket_messages sender h) (range_with_len 0 BUCKETS) (λ bucket.
    let es : List Entry = bucket_entries bucket (entries_of h) in
    chunks_encoded sender h.horizon (length es) es replica low (bucket_rise h bucket whole) (all_filter IsEntry (λ e. page_bucket e.page == bucket) (entries_of h) fits))

all_entries : (sender : ℕ) (h : HistoryView) → AreEntriesAt h.horizon (history_messages sender h)
all_entries sender h = all_flat_map (IsEntriesAt h.horizon) (bucket_messages sender h) (range_with_len 0 BUCKETS) (λ bucket.
    let es : List Entry = bucket_entries bucket (entries_of h) in
    chunks_entries sender h.horizon (length es) es)

-- ---- what they tell of a page

-- the stamps that the first buckets' frames hold of the page p
abbrev told_below : ℕ → HistoryView → ℕ → PageId → List Stamp
told_below sender h n p = told (references_of_entries (entries_brought (messages_below sender h n))) p

bucket_brings : (sender n : ℕ) (h : HistoryView)
    → entries_brought (messages_below sender h (n + 1))
    ≡ entries_brought (messages_below sender h n) ++ bucket_entries n (entries_of h)
bucket_brings sender n h =
    let es : List Entry = bucket_entries n (entries_of h) in
    let B = bucket_messages sender h in
    ap (λ (ks : List ℕ). entries_brought (flat_map B ks)) (range_more n)
    ∙ ap entries_brought (flat_map-append B (range_with_len 0 n) (n ∷ []) ∙ ap (λ (fs : List Message). messages_below sender h n ++ fs) (append-nil (B n)))
    ∙ flat_map-append brought (messages_below sender h n) (B n)
    ∙ ap (λ (x : List Entry). entries_brought (messages_below sender h n) ++ x) (chunks_bring sender h.horizon (length es) es (omega arith))

told_more : (sender n : ℕ) (h : HistoryView) (p : PageId)
    → told_below sender h (suc n) p
    ≡ told_below sender h n p ++ told (references_of_entries (bucket_entries n (entries_of h))) p
told_more sender n h p =
    let before : List Entry = entries_brought (messages_below sender h n) in
    let es : List Entry = bucket_entries n (entries_of h) in
    let next : suc n ≡ n + 1 = omega arith in
    ap (λ (k : ℕ). told_below sender h k p) next
    ∙ ap (λ (x : List Entry). told (references_of_entries x) p) (bucket_brings sender n h)
    ∙ ap (λ rs. told rs p) (references_of_entries-append before es)
    ∙ told-append (references_of_entries before) (references_of_entries es) p

-- what a bucket tells of a page: all, if it is the page's own, and nothing otherwise
told_in : (h : HistoryView) (n : ℕ) (p : PageId) → IsHistory h
    → told (references_of_entries (bucket_entries n (entries_of h))) p
    ≡ known_stamps (cond (page_bucket p == n) (get (entries_of h) p) None)
told_in h n p whole = told_refs (bucket_entries n (entries_of h)) (bucket_rise h n whole) p ∙ ap known_stamps (get-filter (λ q. page_bucket q == n) (entries_of h) p)

told_own : (h : HistoryView) (n : ℕ) (p : PageId) → IsHistory h → page_bucket p ≡ n
    → told (references_of_entries (bucket_entries n (entries_of h))) p
    ≡ told (references_of_entries (entries_of h)) p
told_own h n p whole is =
    told_in h n p whole ∙ ap (λ b. known_stamps (cond b (get (entries_of h) p) None)) (eq-eqb (page_bucket p) n is) ∙ sym (told_refs (entries_of h) whole.pages_ascend p)

told_elsewhere : (h : HistoryView) (n : ℕ) (p : PageId) → IsHistory h → (page_bucket p == n) ≡ false
    → told (references_of_entries (bucket_entries n (entries_of h))) p ≡ []
told_elsewhere h n p whole other = told_in h n p whole ∙ ap (λ b. known_stamps (cond b (get (entries_of h) p) None)) other

told_none : (sender n : ℕ) (h : HistoryView) (p : PageId) → IsHistory h → n ≤ page_bucket p
    → told_below sender h n p ≡ []
told_none sender zero h p whole low = refl
told_none sender (suc n) h p whole low =
    let other : (page_bucket p == n) ≡ false = ne_eqb (page_bucket p) n (λ is. omega (arith, is, low)) in
    told_more sender n h p
    ∙ ap (λ (ss : List Stamp). ss ++ told (references_of_entries (bucket_entries n (entries_of h))) p) (told_none sender n h p whole (omega (arith, low)))
    ∙ told_elsewhere h n p whole other

told_all : (sender n : ℕ) (h : HistoryView) (p : PageId) → IsHistory h → page_bucket p < n
    → told_below sender h n p ≡ told (references_of_entries (entries_of h)) p
told_all sender zero h p whole low = absurd (omega (arith, low))
told_all sender (suc n) h p whole low = elim (cases_eq (page_bucket p) n) [
  | inl is ↦ told_more sender n h p
      ∙ ap (λ (ss : List Stamp). ss ++ told (references_of_entries (bucket_entries n (entries_of h))) p) (told_none sender n h p whole (omega (arith, is)))
      ∙ told_own h n p whole is
  | inr other ↦ told_more sender n h p
      ∙ ap (λ (ss : List Stamp). ss ++ told (references_of_entries (bucket_entries n (entries_of h))) p) (told_all sender n h p whole (omega (arith, low, other)))
      ∙ ap (λ (ss : List Stamp). told (references_of_entries (entries_of h)) p ++ ss) (told_elsewhere h n p whole (ne_eqb (page_bucket p) n other))
      ∙ append-nil (told (references_of_entries (entries_of h)) p)
]

low_bucket : (p : PageId) → page_bucket p < BUCKETS
low_bucket p = omega arith

-- the frames tell the history
told_back : (sender : ℕ) (h : HistoryView) → IsHistory h
    → h ≡ history (references_in h.horizon (history_messages sender h))
told_back sender h whole =
    let S = references_in h.horizon (history_messages sender h) in
    let alike : (p : PageId) → list_hist (references_of_entries (entries_of h)) p ≡ list_hist (references_of_entries (entries_brought (history_messages sender h))) p =
    λ p. ap (λ (ss : List Stamp). first_two (distinct (flip_args stamp_cmp) ss)) (sym (told_all sender BUCKETS h p whole (low_bucket p))) in
    sym (history_of_own_references h whole) ∙ same_hists (references_of h) S refl (kept_alike h.horizon (references_of_entries (entries_of h)) (references_of_entries (entries_brought (history_messages sender h))) alike)

-- ---- the digests

digest_size : (h : List ℕ) (n : ℕ) → length (digest_bytes h n) ≡ n * 4
unfolding digest_bytes
digest_size h zero = refl
digest_size h (suc n) =
    let word : length (to_be_bytes w32 (slice_index h n)) ≡ 4 = refl in
    omega (arith, digest_size h n, length-append (digest_bytes h n) (to_be_bytes w32 (slice_index h n)), word)

sha_size : (text : List ℕ) → length (sha256 text) ≡ 32
unfolding sha256
sha_size text = digest_size (final_hash initial_hash_256 text) 8

all_sized : (es : List Entry) (buckets : List ℕ)
    → AllByRecursion (λ digest. length digest ≡ DIGEST_SIZE) (map (bucket_digest es) buckets)
all_sized es [] = tt
all_sized es (bucket ∷ buckets) = (sha_size (entries_bytes (bucket_entries bucket es)), all_sized es buckets)

digests_fit : (es : List Entry) → IsDigestTable (digests_of es)
digests_fit es = record { count = length-map (range_with_len 0 BUCKETS) (bucket_digest es) ∙ length-range_with_len 0 BUCKETS; each = all_sized es (range_with_len 0 BUCKETS) }

-- ---- the dump

all_last : {A : Type 0} (P : A → Type 0) (xs : List A) (x : A) → AllByRecursion P xs → P x
    → AllByRecursion P (xs ++ x ∷ [])
all_last P xs x all last = all_append P xs (x ∷ []) all (last, tt)

text_last : (fs : List Message) (f : Message) → text_of (fs ++ f ∷ []) ≡ text_of fs ++ encoding f
text_last fs f = flat_map-append encoding fs (f ∷ []) ∙ ap (λ (w : List ℕ). text_of fs ++ w) (append-nil (encoding f))

pub dump_reads_back : DumpReadsBack
dump_reads_back sender h replica low whole fits =
    let messages : List Message = history_messages sender h in
    let last : Message = last_message sender h in
    let all : List Message = messages ++ last ∷ [] in
    let is_last : IsValidMessage last = (replica, low, digests_fit (entries_of h)) in
    record {
      messages = messages;
      sender = sender;
      digests = digests_of (entries_of h);
      whole = record {
        texts = map encoding all;
        whole = sym (text_last messages last) ∙ sym (text_is all) ∙ sym (append-nil (texts_of (map encoding all)));
        each = all_encoded all (all_last IsValidMessage messages last (all_frames sender h replica low whole fits) is_last);
      };
      entries = all_entries sender h;
      given = told_back sender h whole;
      same_digests = refl;
    }
