-- Chunks of lists, and the messages that are made of them: for the crates above.
use Rattle.std.proofs.Common.{◌≡◌, ℕ, zero, suc, ◌-◌, ◌<◌, ◌≤◌, min, List, [], ◌∷◌, ◌++◌, length, take, drop, map, refl, sym, ap, subst, ◌∙◌, append_assoc, arith}
use Rattle.std.specs.Prelude.{◌==◌}
use Rattle.std.specs.Ordering.{on}
use Rattle.std.specs.declared.cmp.Ordering.{Ordering}
use Rattle.std.proofs.lemmas.List.{length-drop, length-take, take_min, drop_min}
use Rattle.warm_stamps.specs.Buckets.{page_bucket}
use Rattle.warm_stamps.specs.Distinct.{IsAscending}
use Rattle.warm_stamps.specs.Stamps.{page_cmp}
use Rattle.warm_stamps.proofs.DistinctLemmas.{rising_filter, rising_take}
use Rattle.warm_history.specs.Entry.{Entry}
use Rattle.warm_history.specs.Carried.{bucket_entries}
use Rattle.warm_history.specs.Histories.{HistoryView, entries_of, PagesAscend, IsHistory}
use Rattle.warm_frames.specs.declared.layout.TheConstants.{MAX_ENTRIES}
use Rattle.warm_frames.specs.declared.message.Message.{Message}
use Rattle.warm_frames.specs.declared.message.Message.TheVariants.{Entries}
use Rattle.warm_frames.specs.Chunks.{chunks_of, chunks, entry_messages}
use Rattle.warm_frames.specs.Entries.{FitsInFrame}

-- ---- chunks

-- more fuel than there are items changes nothing
same_chunks : {A : Type 0} (size n m : ℕ) (xs : List A) → 0 < size → length xs ≤ n → length xs ≤ m
    → chunks_of size n xs ≡ chunks_of size m xs
same_chunks size zero zero xs pos a b = refl
same_chunks size zero (suc m) [] pos a b = refl
same_chunks size zero (suc m) (x ∷ xs) pos a b = absurd (omega (arith, a))
same_chunks size (suc n) zero [] pos a b = refl
same_chunks size (suc n) zero (x ∷ xs) pos a b = absurd (omega (arith, b))
same_chunks size (suc n) (suc m) [] pos a b = refl
same_chunks size (suc n) (suc m) (x ∷ xs) pos a b =
    let left : length (drop size (x ∷ xs)) ≡ length (x ∷ xs) - size = length-drop size (x ∷ xs) in
    ap (λ t. take size (x ∷ xs) ∷ t) (same_chunks size n m (drop size (x ∷ xs)) pos (omega arith) (omega arith))

-- the first chunk, and those of the other items
pub chunks-cons : {A : Type 0} (size : ℕ) (xs : List A) → 0 < size → 0 < length xs
    → chunks size xs ≡ take size xs ∷ chunks size (drop size xs)
chunks-cons size [] pos some = absurd (omega (arith, some))
chunks-cons size (x ∷ xs) pos some =
    let left : length (drop size (x ∷ xs)) ≡ length (x ∷ xs) - size = length-drop size (x ∷ xs) in
    ap (λ t. take size (x ∷ xs) ∷ t) (same_chunks size (length xs) (length (drop size (x ∷ xs))) (drop size (x ∷ xs)) pos (omega arith) (omega arith))

-- ---- messages of entries

-- the message of the first entries, and those of the others
pub entry_messages-cons : (sender horizon : ℕ) (es : List Entry) → 0 < length es
    → entry_messages sender horizon es
    ≡ Entries sender horizon (take MAX_ENTRIES es)
    ∷ entry_messages sender horizon (drop MAX_ENTRIES es)
entry_messages-cons sender horizon es some =
    ap (λ (parts : List (List Entry)). map (λ chunk. Entries sender horizon chunk) parts) (chunks-cons MAX_ENTRIES es (omega arith) some)

-- the same after other messages, if as many entries were taken as there are, up to MAX_ENTRIES
pub message_more : (sender horizon : ℕ) (messages : List Message) (rest : List Entry)
    → 0 < length rest
    → (messages ++ Entries sender horizon (take (min MAX_ENTRIES (length rest)) rest) ∷ [])
    ++ entry_messages sender horizon (drop (min MAX_ENTRIES (length rest)) rest)
    ≡ messages ++ entry_messages sender horizon rest
message_more sender horizon messages rest some =
    rw (take_min MAX_ENTRIES rest, drop_min MAX_ENTRIES rest)
    (append_assoc messages (Entries sender horizon (take MAX_ENTRIES rest) ∷ []) (entry_messages sender horizon (drop MAX_ENTRIES rest))
    ∙ ap (λ (parts : List Message). messages ++ parts) (sym (entry_messages-cons sender horizon rest some)))

-- ---- pages ascend in parts of entries

rising_drop : {A : Type 0} (cmp : A → A → Ordering) (n : ℕ) (xs : List A) → IsAscending cmp xs
    → IsAscending cmp (drop n xs)
rising_drop cmp zero xs rising = rising
rising_drop cmp (suc n) [] rising = tt
rising_drop cmp (suc n) (x ∷ xs) rising = rising_drop cmp n xs rising.1

pub pages_ascend_take : (n : ℕ) (es part : List Entry) → part ≡ take n es → PagesAscend es
    → PagesAscend part
pages_ascend_take n es part is ascend = subst PagesAscend (sym is) (rising_take (on (λ e. e.page) page_cmp) n es ascend)

pub pages_ascend_drop : (n : ℕ) (es later : List Entry) → later ≡ drop n es → PagesAscend es
    → PagesAscend later
pages_ascend_drop n es later is ascend = subst PagesAscend (sym is) (rising_drop (on (λ e. e.page) page_cmp) n es ascend)

-- and in a bucket
pub bucket_ascends : (bucket : ℕ) (h : HistoryView) (es : List Entry)
    → es ≡ bucket_entries bucket (entries_of h) → IsHistory h → PagesAscend es
bucket_ascends bucket h es is whole = subst PagesAscend (sym is) (rising_filter (on (λ e. e.page) page_cmp) (λ e. page_bucket e.page == bucket) (entries_of h) whole.pages_ascend)

-- a chunk of entries fits in a frame
pub chunk_fits : (chunk left : List Entry) → chunk ≡ take MAX_ENTRIES left → PagesAscend left
    → FitsInFrame chunk
chunk_fits chunk left first ascend = (
  pages_ascend_take MAX_ENTRIES left chunk first ascend,
  omega (arith, ap (λ (es : List Entry). length es) first, length-take MAX_ENTRIES left),
)
