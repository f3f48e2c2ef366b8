-- Messages that begin a text, beside those that encode all of it.
use Rattle.std.proofs.Common.{◌≡◌, ℕ, ◌<◌, List, [], ◌∷◌, ◌++◌, length, drop, refl, sym, ap, subst, ◌∙◌, append_assoc, append-nil, arith}
use Rattle.std.specs.List.{AllByRecursion}
use Rattle.std.proofs.lemmas.List.{drop_at}
use Rattle.warm_frames.specs.declared.message.Message.{Message}
use Rattle.warm_frames.specs.declared.message.Message.TheVariants.{Entries, Digest, Want}
use Rattle.warm_frames.specs.Pieces.{EncodeAll, texts_of, Splits}
use Rattle.warm_frames.specs.Encoding.{Encodes}
use Rattle.warm_frames.proofs.FrameLemmas.{encoding_is_injective}
use Rattle.warm_frames.proofs.StreamLemmas.{nothing_is_part, no_empty_frame, first_text}
use Rattle.warm_history.specs.Histories.{HistoryView}
use Rattle.warm_dump.specs.Reading.{IsEntriesAt, AreEntriesAt, IsPartAt, Begins, IsDump}

-- ---- the first messages

-- messages that begin a text which others encode whole are the first of those
pub first_messages : (ts us : List (List ℕ)) (fs gs : List Message) (rest : List ℕ)
    → EncodeAll ts fs → EncodeAll us gs → texts_of ts ≡ texts_of us ++ rest
    → (vs : List (List ℕ)) × (more : List Message) × EncodeAll vs more × (fs ≡ gs ++ more)
    × (rest ≡ texts_of vs)
first_messages ts [] fs [] rest a b same = (ts, fs, a, refl, sym same)
first_messages ts [] fs (g ∷ gs) rest a b same = absurd b
first_messages ts (u ∷ us) fs [] rest a b same = absurd b
first_messages [] (u ∷ us) (f ∷ fs) (g ∷ gs) rest a b same = absurd a
first_messages (t ∷ ts) (u ∷ us) [] (g ∷ gs) rest a b same = absurd a
first_messages [] ([] ∷ us) [] (g ∷ gs) rest a b same = absurd (no_empty_frame g b.0)
first_messages [] ((c ∷ u) ∷ us) [] (g ∷ gs) rest a b same = absurd (cc)
first_messages (t ∷ ts) (u ∷ us) (f ∷ fs) (g ∷ gs) rest a b same =
    let x = texts_of ts in
    let y = texts_of us ++ rest in
    let both : t ++ x ≡ u ++ y = same ∙ append_assoc u (texts_of us) rest in
    let text : t ≡ u = first_text t u f g x y a.0 b.0 both in
    let first : f ≡ g = encoding_is_injective u f g (subst (λ (w : List ℕ). Encodes w f) text a.0) b.0 in
    let behind : x ≡ y = sym (drop_at t x (length t) refl) ∙ ap (drop (length t)) both ∙ drop_at u y (length t) (sym (ap length text)) in
    let later = first_messages ts us fs gs rest a.1 b.1 behind in
    (later.0, later.1, later.2, (λ i. first i ∷ later.3 i), later.4)

-- ---- the messages of a dump

pub dump_splits : (text : List ℕ) (h : HistoryView) (d : IsDump text h)
    → Splits text (d.messages ++ Digest d.sender h.horizon d.digests ∷ []) []
dump_splits text h d = record { texts = d.whole.texts; whole = d.whole.whole; each = d.whole.each; part = nothing_is_part }

-- what begins a dump
pub begins_dump : (text : List ℕ) (h : HistoryView) (d : IsDump text h) (gs : List Message)
    (rest : List ℕ) → Begins text gs rest
    → (vs : List (List ℕ)) × (more : List Message) × EncodeAll vs more
    × (d.messages ++ Digest d.sender h.horizon d.digests ∷ [] ≡ gs ++ more) × (rest ≡ texts_of vs)
begins_dump text h d gs rest b =
    first_messages d.whole.texts b.texts (d.messages ++ Digest d.sender h.horizon d.digests ∷ []) gs rest d.whole.each b.each (sym (append-nil (texts_of d.whole.texts)) ∙ sym d.whole.whole ∙ b.whole)

-- a message of something else than entries
abbrev pub IsOther : Message → Type 0
IsOther (Entries sender own es) = ⊥
IsOther (Digest sender own digests) = Unit {0}
IsOther (Want sender own request) = Unit {0}

pub never_both : {A : Type 0} (horizon : ℕ) (f : Message) → IsEntriesAt horizon f → IsOther f → A
never_both horizon (Entries sender own es) is other = absurd other
never_both horizon (Digest sender own digests) is other = absurd is
never_both horizon (Want sender own request) is other = absurd is

-- behind messages of entries the first other one stands at one place
pub one_front : (a b : ℕ) (fs gs : List Message) (d e : Message) (more : List Message)
    → AreEntriesAt a fs → AreEntriesAt b gs → IsOther d → IsOther e → fs ++ d ∷ [] ≡ gs ++ e ∷ more
    → (fs ≡ gs) × (d ≡ e) × (more ≡ [])
one_front a b [] [] d e more all these first second same =
    let head : d ≡ e = cc in
    let tail : more ≡ [] = cc in
    (refl, head, tail)
one_front a b [] (g ∷ gs) d e more all these first second same =
    let head : d ≡ g = cc in
    never_both b d (subst (IsEntriesAt b) (sym head) these.0) first
one_front a b (f ∷ fs) [] d e more all these first second same =
    let head : f ≡ e = cc in
    never_both a e (subst (IsEntriesAt a) head all.0) second
one_front a b (f ∷ fs) (g ∷ gs) d e more all these first second same =
    let head : f ≡ g = cc in
    let tail : fs ++ d ∷ [] ≡ gs ++ e ∷ more = cc in
    let later = one_front a b fs gs d e more all.1 these.1 first second tail in
    ((λ i. head i ∷ later.0 i), later.1, later.2)

pub all_parts : {A : Type 0} (P : A → Type 0) (xs ys : List A) → AllByRecursion P (xs ++ ys)
    → AllByRecursion P xs × AllByRecursion P ys
all_parts P [] ys all = (tt, all)
all_parts P (x ∷ xs) ys all = ((all.0, (all_parts P xs ys all.1).0), (all_parts P xs ys all.1).1)

-- ---- the horizons of a dump's messages

entries_part : (horizon : ℕ) (f : Message) → IsEntriesAt horizon f → IsPartAt horizon f
entries_part horizon (Entries sender own es) is = is
entries_part horizon (Digest sender own digests) is = absurd is
entries_part horizon (Want sender own request) is = absurd is

parts_and : (horizon : ℕ) (fs : List Message) (d : Message) → AreEntriesAt horizon fs
    → IsPartAt horizon d → AllByRecursion (IsPartAt horizon) (fs ++ d ∷ [])
parts_and horizon [] d all last = (last, tt)
parts_and horizon (f ∷ fs) d all last = (entries_part horizon f all.0, parts_and horizon fs d all.1 last)

pub dump_parts : (text : List ℕ) (h : HistoryView) (d : IsDump text h)
    → AllByRecursion (IsPartAt h.horizon) (d.messages ++ Digest d.sender h.horizon d.digests ∷ [])
dump_parts text h d = parts_and h.horizon d.messages (Digest d.sender h.horizon d.digests) d.entries refl

pub one_horizon : (a b : ℕ) (f : Message) → IsPartAt a f → IsPartAt b f → a ≡ b
one_horizon a b (Entries sender own es) one other = sym one ∙ other
one_horizon a b (Digest sender own digests) one other = sym one ∙ other
one_horizon a b (Want sender own request) one other = absurd one

pub first_horizon : (a b : ℕ) (fs : List Message) → 0 < length fs → AreEntriesAt a fs
    → AllByRecursion (IsPartAt b) fs → a ≡ b
first_horizon a b [] some all parts = absurd (omega (arith, some))
first_horizon a b (f ∷ fs) some all parts = one_horizon a b f (entries_part a f all.0) parts.0
