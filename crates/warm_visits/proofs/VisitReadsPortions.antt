-- The entries of a bucket in portions: what one errand sends, and what those after it send.
use Rattle.std.proofs.Common.{◌≡◌, ℕ, zero, suc, ◌+◌, ◌<◌, ◌≤◌, true, List, [], ◌∷◌, ◌++◌, length, take, drop, Option, Some, None, refl, sym, ap, ◌∙◌, arith, append_assoc, append-nil}
use Rattle.std.specs.Prelude.{◌==◌, slice_get}
use Rattle.std.proofs.Math.Bool.{and-true}
use Rattle.std.proofs.lemmas.Bool.{le-leb}
use Rattle.std.proofs.lemmas.List.{drop_all, length-take, take_all}
use Rattle.std.proofs.lemmas.List.Elements.{filter_agree}
use Rattle.warm_stamps.specs.declared.PageId.{PageId}
use Rattle.warm_stamps.specs.Buckets.{page_bucket}
use Rattle.warm_history.specs.Entry.{Entry}
use Rattle.warm_history.specs.PageHist.{PageHist}
use Rattle.warm_history.specs.PageHist.TheVariants.{Once, Twice}
use Rattle.warm_history.specs.Carried.{bucket_entries, is_next_in_bucket, later_of_bucket}
use Rattle.warm_history.specs.Histories.{HistoryView, IsHistory, entries_of}
use Rattle.warm_history.specs.KeptEntries.{is_recent}
use Rattle.warm_history.specs.Since.{entries_since, recent_entries}
use Rattle.warm_history.proofs.SinceLaws.{portions_go_on}
use Rattle.warm_frames.specs.Chunks.{bucket_messages, entry_messages}
use Rattle.warm_frames.specs.declared.layout.TheConstants.{MAX_ENTRIES}
use Rattle.warm_frames.specs.declared.message.Message.{Message}
use Rattle.warm_frames.specs.declared.message.Message.TheVariants.{Entries}
use Rattle.warm_frames.proofs.ChunkLemmas.{entry_messages-cons}
use Rattle.warm_peer.specs.Chunks.{last_page}
use Rattle.warm_peer.specs.Since.{sent_since}
use Rattle.warm_visits.specs.Visits.{answered, with_message}
use Rattle.warm_visits.proofs.PartEntryLemmas.{since_entries}

-- ---- what is left of a bucket after a page

abbrev pub left_of_bucket : HistoryView → ℕ → Option PageId → List Entry
left_of_bucket h bucket after = entries_since bucket 0 after (entries_of h)

-- no stamp is before the time 0
always_recent : (h : PageHist) → is_recent 0 h ≡ true
always_recent (Once last) = le-leb 0 last.time (omega arith)
always_recent (Twice two) = le-leb 0 two.last.time (omega arith)

all_recent : (es : List Entry) → recent_entries 0 es ≡ es
all_recent [] = refl
all_recent (e ∷ es) = rw (always_recent e.hist) (ap (λ t. e ∷ t) (all_recent es))

-- if no page was sent, all are left
whole_bucket : (h : HistoryView) (bucket : ℕ)
    → left_of_bucket h bucket None ≡ bucket_entries bucket (entries_of h)
whole_bucket h bucket =
    all_recent (later_of_bucket bucket None (entries_of h))
    ∙ filter_agree (λ e. is_next_in_bucket bucket None e.page) (λ e. page_bucket e.page == bucket) (λ e. and-true (page_bucket e.page == bucket)) (entries_of h)

-- the messages that are still to be sent
abbrev pub messages_left : ℕ → HistoryView → ℕ → Option PageId → List Message
messages_left id h bucket after = entry_messages id h.horizon (left_of_bucket h bucket after)

pub messages_first : (id : ℕ) (h : HistoryView) (bucket : ℕ)
    → messages_left id h bucket None ≡ bucket_messages id h bucket
messages_first id h bucket = ap (λ es. entry_messages id h.horizon es) (whole_bucket h bucket)

-- ---- one portion

pub portion_is : (id : ℕ) (h : HistoryView) (bucket : ℕ) (after : Option PageId) → IsHistory h
    → sent_since id h bucket 0 after
    ≡ Entries id h.horizon (take MAX_ENTRIES (left_of_bucket h bucket after))
portion_is id h bucket after valid =
    ap (λ es. Entries id h.horizon es) (since_entries h bucket 0 after MAX_ENTRIES valid)

-- the page of the last of the first ones
pub last_of_first : (k : ℕ) (es : List Entry) → k < length es
    → (e : Entry) × (slice_get es k ≡ Some e) × (last_page (take (suc k) es) ≡ Some e.page)
last_of_first k [] lt = absurd (omega (arith, lt))
last_of_first zero (e ∷ es) lt = (e, refl, refl)
last_of_first (suc k) (e ∷ []) lt = absurd (omega (arith, lt))
last_of_first (suc k) (e ∷ f ∷ es) lt = last_of_first k (f ∷ es) (omega (arith, lt))

-- behind the last page that was sent, the others are left
pub left_behind : (size k : ℕ) (h : HistoryView) (bucket : ℕ) (after : Option PageId) → IsHistory h
    → size ≡ suc k → size < length (left_of_bucket h bucket after)
    → left_of_bucket h bucket (last_page (take size (left_of_bucket h bucket after)))
    ≡ drop size (left_of_bucket h bucket after)
left_behind size k h bucket after valid is lt =
    let es = left_of_bucket h bucket after in
    let last = last_of_first k es (omega (arith, lt, is)) in
    let same : size ≡ k + 1 = omega (arith, is) in
    ap (λ n. left_of_bucket h bucket (last_page (take n es))) is
    ∙ ap (λ p. left_of_bucket h bucket p) last.2
    ∙ portions_go_on h bucket 0 after k last.0 valid last.1
    ∙ ap (λ n. drop n es) (sym same)

-- ---- messages with one more

with_one : (ms : List Message) (id horizon : ℕ) (es : List Entry) → 0 < length es
    → with_message (answered ms) (Entries id horizon es)
    ≡ answered (ms ++ Entries id horizon es ∷ [])
with_one ms id horizon [] some = absurd (omega (arith, some))
with_one ms id horizon (e ∷ es) some = refl

no_messages : (id horizon : ℕ) (es : List Entry) → es ≡ [] → entry_messages id horizon es ≡ []
no_messages id horizon es none = ap (λ (x : List Entry). entry_messages id horizon x) none

-- the last portion; one without entries is none
pub with_last : (ms : List Message) (id horizon : ℕ) (es : List Entry) → length es ≤ MAX_ENTRIES
    → with_message (answered ms) (Entries id horizon (take MAX_ENTRIES es))
    ≡ answered (ms ++ entry_messages id horizon es)
with_last ms id horizon [] few =
    ap (λ (x : List Entry). with_message (answered ms) (Entries id horizon x)) (take_all MAX_ENTRIES [] few)
    ∙ ap answered (sym (append-nil ms))
with_last ms id horizon (e ∷ es) few =
    let all : List Entry = e ∷ es in
    let more = entry_messages-cons id horizon all (omega arith) in
    let none = no_messages id horizon (drop MAX_ENTRIES all) (drop_all MAX_ENTRIES all few) in
    ap (λ (x : List Entry). with_message (answered ms) (Entries id horizon x)) (take_all MAX_ENTRIES all few)
    ∙ ap (λ (x : List Entry). answered (ms ++ Entries id horizon x ∷ [])) (sym (take_all MAX_ENTRIES all few))
    ∙ ap (λ (x : List Message). answered (ms ++ Entries id horizon (take MAX_ENTRIES all) ∷ x)) (sym none)
    ∙ ap (λ (x : List Message). answered (ms ++ x)) (sym more)

-- a portion that is followed by more
pub with_more : (ms : List Message) (id horizon : ℕ) (es : List Entry) → MAX_ENTRIES < length es
    → with_message (answered ms) (Entries id horizon (take MAX_ENTRIES es))
    ≡ answered (ms ++ Entries id horizon (take MAX_ENTRIES es) ∷ [])
with_more ms id horizon es lt =
    with_one ms id horizon (take MAX_ENTRIES es) (omega (arith, length-take MAX_ENTRIES es, lt))

pub then_more : (ms others : List Message) (id horizon : ℕ) (es : List Entry)
    → MAX_ENTRIES < length es
    → (ms ++ Entries id horizon (take MAX_ENTRIES es) ∷ [])
    ++ (entry_messages id horizon (drop MAX_ENTRIES es) ++ others)
    ≡ ms ++ (entry_messages id horizon es ++ others)
then_more ms others id horizon es lt =
    append_assoc ms (Entries id horizon (take MAX_ENTRIES es) ∷ []) (entry_messages id horizon (drop MAX_ENTRIES es) ++ others)
    ∙ ap (λ (t : List Message). ms ++ (t ++ others)) (sym (entry_messages-cons id horizon es (omega (arith, lt))))
