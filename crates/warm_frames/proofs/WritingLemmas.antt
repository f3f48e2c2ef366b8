-- What is written, piece by piece.
use Rattle.std.proofs.Common.{◌≡◌, ℕ, ◌+◌, ◌<◌, ◌^◌, List, [], ◌∷◌, ◌++◌, length, take, get_or, sym, ap, ◌∙◌, arith}
use Rattle.std.specs.List.{flat_map}
use Rattle.std.proofs.lemmas.List.{append-nil, take_more, length-append}
use Rattle.std.proofs.lemmas.List.Concat.{flat_map-append}
use Rattle.warm_stamps.specs.Bytes.{bytes_of_page, IsReplica}
use Rattle.warm_history.specs.Entry.{Entry}
use Rattle.warm_frames.specs.declared.format.Format.TheVariants.{Wide}
use Rattle.warm_frames.specs.declared.message.Message.TheVariants as messages
use Rattle.warm_frames.specs.Entries.{hist_bytes, entry_bytes, entries_bytes}
use Rattle.warm_frames.specs.Digests.{IsDigestTable, table_size}
use Rattle.warm_frames.specs.Encoding.{header_bytes, EncodesIn}
use Rattle.warm_frames.proofs.BodyLemmas.{length-digests}

-- the bytes of one entry more come last
pub bytes_and_one : (es : List Entry) (e : Entry)
    → entries_bytes (es ++ e ∷ []) ≡ entries_bytes es ++ entry_bytes e
bytes_and_one es e = flat_map-append entry_bytes es (e ∷ []) ∙ ap (λ (w : List ℕ). entries_bytes es ++ w) (append-nil (entry_bytes e))

-- the same of the first entries of a list
pub entries_and_one : (es : List Entry) (i : ℕ) (e : Entry) → i < length es → e ≡ get_or es i e
    → entries_bytes (take (i + 1) es) ≡ entries_bytes (take i es) ++ entry_bytes e
entries_and_one es i e lt is = rw (take_more es i e lt, ← is) (bytes_and_one (take i es) e)

-- the length of one entry more
pub length_and_one : (es : List Entry) (i len more : ℕ) (e : Entry) → i < length es
    → e ≡ get_or es i e → more ≡ length (hist_bytes e.hist)
    → len ≡ length (entries_bytes (take i es))
    → len + (10 + more) ≡ length (entries_bytes (take (i + 1) es))
length_and_one es i len more e lt is one so_far =
    let own : length (entry_bytes e) ≡ 10 + length (hist_bytes e.hist) = length-append (bytes_of_page e.page) (hist_bytes e.hist) in
    let whole : length (entries_bytes (take (i + 1) es)) ≡ length (entries_bytes (take i es)) + length (entry_bytes e) = ap length (entries_and_one es i e lt is) ∙ length-append (entries_bytes (take i es)) (entry_bytes e) in
    omega (arith, own, whole)

pub digests_encoded : (text : List ℕ) (sender horizon : ℕ) (digests : List (List ℕ))
    → IsReplica sender → horizon < 2 ^ 64 → IsDigestTable digests
    → text ≡ header_bytes Wide 2 sender horizon table_size ++ flat_map (λ digest. digest) digests
    → EncodesIn Wide text (messages.Digest sender horizon digests)
digests_encoded text sender horizon digests good few table is = record {
  fits = (good, few, table);
  holds = tt;
  text = is ∙ ap (λ (n : ℕ). header_bytes Wide 2 sender horizon n ++ flat_map (λ digest. digest) digests) (sym (length-digests digests table));
}
