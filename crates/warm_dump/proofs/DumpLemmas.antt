-- The messages of a history, chunk by chunk and bucket by bucket, and their text.
use Rattle.std.proofs.Common.{◌≡◌, ℕ, ◌+◌, ◌<◌, ◌≤◌, List, [], ◌∷◌, ◌++◌, length, take, drop, Option, sym, ap, subst, ◌∙◌, append_assoc, append-nil, map-id, arith, flat_map}
use Rattle.std.specs.Io.KnownBytes.{Appends}
use Rattle.std.specs.List.{range_with_len}
use Rattle.std.proofs.KnownBytes.{Appends-trans}
use Rattle.std.proofs.lemmas.List.Concat.{flat_map-append, flat_map-cons}
use Rattle.std.proofs.lemmas.List.FromFn.{map-range_with_len_more}
use Rattle.std.proofs.lemmas.List.{length-drop, length-take, take_at, drop_at, take_all, drop_all}
use Rattle.warm_history.specs.Entry.{Entry}
use Rattle.warm_history.specs.Carried.{bucket_entries}
use Rattle.warm_history.specs.Histories.{HistoryView, entries_of}
use Rattle.warm_frames.specs.declared.layout.TheConstants.{MAX_ENTRIES}
use Rattle.warm_frames.specs.declared.message.Message.{Message}
use Rattle.warm_frames.specs.declared.message.Message.TheVariants.{Entries}
use Rattle.warm_frames.specs.Encoding.{encoding}
use Rattle.warm_frames.specs.Chunks.{entry_messages, bucket_messages}
use Rattle.warm_frames.proofs.ChunkLemmas.{entry_messages-cons}
use Rattle.warm_dump.specs.Dumps.{text_of}

-- the messages of the first buckets
abbrev pub messages_below : ℕ → HistoryView → ℕ → List Message
messages_below sender h n = flat_map (bucket_messages sender h) (range_with_len 0 n)

-- ---- the next chunk, entry by entry

pub chunk_item : (chunk left next all : List Entry) (e : Entry) → chunk ++ left ≡ all
    → left ≡ e ∷ next → (chunk ++ e ∷ []) ++ next ≡ all
chunk_item chunk left next all e is first = append_assoc chunk (e ∷ []) next ∙ ap (λ (l : List Entry). chunk ++ l) (sym first) ∙ is

pub chunk_full : (n : ℕ) (chunk left all : List Entry) → chunk ++ left ≡ all → length chunk ≡ n
    → (chunk ≡ take n all) × (left ≡ drop n all)
chunk_full n chunk left all is len = (sym (ap (take n) (sym is) ∙ take_at chunk left n len), sym (ap (drop n) (sym is) ∙ drop_at chunk left n len))

pub chunk_last : (n : ℕ) (chunk left next all : List Entry) → chunk ++ left ≡ all → left ≡ []
    → next ≡ [] → length chunk ≤ n → (chunk ≡ take n all) × (next ≡ drop n all)
chunk_last n chunk left next all is none over few =
    let whole : chunk ≡ all = sym (append-nil chunk) ∙ ap (λ (l : List Entry). chunk ++ l) (sym none) ∙ is in
    (sym (ap (take n) (sym whole) ∙ take_all n chunk few), over ∙ sym (ap (drop n) (sym whole) ∙ drop_all n chunk few))

-- ---- the messages of a bucket

-- a message of the first entries, and then those of the others
bucket_more : (sender horizon : ℕ) (left : List Entry) → 0 < length left
    → text_of (entry_messages sender horizon left)
    ≡ encoding (Entries sender horizon (take MAX_ENTRIES left))
    ++ text_of (entry_messages sender horizon (drop MAX_ENTRIES left))
bucket_more sender horizon left some =
    ap text_of (entry_messages-cons sender horizon left some)
    ∙ flat_map-cons encoding (Entries sender horizon (take MAX_ENTRIES left)) (entry_messages sender horizon (drop MAX_ENTRIES left))

-- what a bucket's messages add to the writer, if those of a chunk were written after some others
pub chunk_more : (sender horizon : ℕ) (out text : List ℕ) (chunk left next : List Entry)
    → chunk ≡ take MAX_ENTRIES left → next ≡ drop MAX_ENTRIES left → 0 < length chunk
    → out ++ text_of (entry_messages sender horizon left) ≡ text
    → (out ++ encoding (Entries sender horizon chunk))
    ++ text_of (entry_messages sender horizon next) ≡ text
chunk_more sender horizon out text chunk left next first later some is =
    let some_left : 0 < length left = omega (arith, some, ap (λ (es : List Entry). length es) first, length-take MAX_ENTRIES left) in
    let F = λ (es : List Entry). encoding (Entries sender horizon es) in
    let R = λ (es : List Entry). text_of (entry_messages sender horizon es) in
    append_assoc out (F chunk) (R next)
    ∙ ap (λ (es : List Entry). out ++ (F es ++ R next)) first
    ∙ ap (λ (es : List Entry). out ++ (F (take MAX_ENTRIES left) ++ R es)) later
    ∙ ap (λ (t : List ℕ). out ++ t) (sym (bucket_more sender horizon left some_left))
    ∙ is

-- no chunk is left
pub no_chunk : (sender horizon : ℕ) (out text : List ℕ) (chunk left : List Entry)
    → chunk ≡ take MAX_ENTRIES left → length chunk ≡ 0
    → out ++ text_of (entry_messages sender horizon left) ≡ text → out ≡ text
no_chunk sender horizon out text chunk [] first none is = sym (append-nil out) ∙ is
no_chunk sender horizon out text chunk (e ∷ left) first none is = absurd (omega (arith, none, ap (λ (es : List Entry). length es) first, length-take MAX_ENTRIES (e ∷ left)))

pub left_shorter : (chunk left next : List Entry) → chunk ≡ take MAX_ENTRIES left
    → next ≡ drop MAX_ENTRIES left → 0 < length chunk → length next < length left
left_shorter chunk left next first later some =
    omega (arith, some, ap (λ (es : List Entry). length es) first, length-take MAX_ENTRIES left, ap (λ (es : List Entry). length es) later, length-drop MAX_ENTRIES left)

-- ---- bucket after bucket

pub range_more : (n : ℕ) → range_with_len 0 (n + 1) ≡ range_with_len 0 n ++ n ∷ []
range_more n = sym (map-id (range_with_len 0 (n + 1))) ∙ map-range_with_len_more (λ k. k) 0 n n (omega arith) ∙ ap (λ (ks : List ℕ). ks ++ n ∷ []) (map-id (range_with_len 0 n))

messages_more : (sender n : ℕ) (h : HistoryView)
    → messages_below sender h (n + 1) ≡ messages_below sender h n ++ bucket_messages sender h n
messages_more sender n h =
    ap (flat_map (bucket_messages sender h)) (range_more n)
    ∙ flat_map-append (bucket_messages sender h) (range_with_len 0 n) (n ∷ [])
    ∙ ap (λ (fs : List Message). messages_below sender h n ++ fs) (append-nil (bucket_messages sender h n))

pub bucket_written : (a b c : Option (List ℕ)) (sender bucket n horizon : ℕ) (h : HistoryView)
    (es : List Entry) → bucket ≡ n → horizon ≡ h.horizon → es ≡ bucket_entries bucket (entries_of h)
    → Appends a b (text_of (messages_below sender h n))
    → Appends b c (text_of (entry_messages sender horizon es))
    → Appends a c (text_of (messages_below sender h (n + 1)))
bucket_written a b c sender bucket n horizon h es is same all before this =
    let of_bucket : text_of (entry_messages sender horizon es) ≡ text_of (bucket_messages sender h n) =
    ap (λ (m : ℕ). text_of (entry_messages sender m es)) same ∙ ap (λ (x : List Entry). text_of (entry_messages sender h.horizon x)) all ∙ ap (λ (k : ℕ). text_of (entry_messages sender h.horizon (bucket_entries k (entries_of h)))) is in
    let both : text_of (messages_below sender h n) ++ text_of (bucket_messages sender h n) ≡ text_of (messages_below sender h (n + 1)) =
    sym (flat_map-append encoding (messages_below sender h n) (bucket_messages sender h n)) ∙ ap text_of (sym (messages_more sender n h)) in
    subst (Appends a c) both (Appends-trans a b c _ _ before (subst (Appends b c) of_bucket this))
