-- The part of a shard of entries and of a batch, and the references that these stand for.
use Rattle.std.proofs.Common.{◌≡◌, ℕ, take, Option, sym, ap, ◌∙◌, Bool, true, false, cond, List, [], ◌∷◌, ◌++◌, map, filter, nat_eq, refl, ◌≢◌, length, arith}
use Rattle.warm_stamps.specs.declared.PageId.{PageId}
use Rattle.warm_history.specs.Histories.{HistoryView, IsHistory, entries_of, history, references_of, history_of_entries_at}
use Rattle.warm_history.specs.Since.{carried_since, entries_since}
use Rattle.warm_history.proofs.JoinLemmas.{history_of_own_references}
use Rattle.warm_history.proofs.SinceLemmas.{history-since}
use Rattle.std.proofs.lemmas.List.Elements.{filter-append}
use Rattle.warm_stamps.specs.declared.Stamp.{Stamp}
use Rattle.warm_stamps.specs.declared.Reference.{Reference}
use Rattle.warm_history.specs.Entry.{Entry}
use Rattle.warm_history.specs.ListHistories.{hist_stamps, list_references_of, references_of_entry}
use Rattle.warm_visits.specs.ShardNumbers.{shard_of, of_shard}
use Rattle.warm_visits.specs.Parts.{part_of_entries, part_of_batch}
use Rattle.warm_history.specs.PageHist.{PageHist}
use Rattle.warm_history.specs.PageHist.TheVariants.{Once, Twice}
use Rattle.warm_history.specs.ReferenceSets.{set_of_list}

pub since_entries : (h : HistoryView) (bucket since : ℕ) (after : Option PageId) (limit : ℕ)
    → IsHistory h
    → entries_of (history (carried_since (references_of h) bucket since after limit))
    ≡ take limit (entries_since bucket since after (entries_of h))
since_entries h bucket since after limit valid =
    sym (history-since (references_of h) bucket since after limit)
    ∙ ap (λ (g : HistoryView). take limit (entries_since bucket since after g.entries)) (history_of_own_references h valid)

-- ---- the references that parts hold

all_alike : (test : Reference → Bool) (f : Stamp → Reference) (b : Bool)
    → ((s : Stamp) → test (f s) ≡ b) → (ss : List Stamp)
    → filter test (map f ss) ≡ cond b (map f ss) []
all_alike test f true same [] = refl
all_alike test f true same (s ∷ ss) = rw (same s) (ap (λ rs. f s ∷ rs) (all_alike test f true same ss))
all_alike test f false same [] = refl
all_alike test f false same (s ∷ ss) = rw (same s) (all_alike test f false same ss)

pub parts_hold : (count i : ℕ) (es : List Entry)
    → list_references_of (part_of_entries count i es)
    ≡ filter (λ r. nat_eq (shard_of count r.page) i) (list_references_of es)
parts_hold count i [] = refl
parts_hold count i (e ∷ es) = cases (nat_eq (shard_of count e.page) i) refl (parts_hold count i es)
  where
    test : Reference → Bool
    test r = nat_eq (shard_of count r.page) i

    rest : List Reference
    rest = list_references_of es

    own : (b : Bool) → nat_eq (shard_of count e.page) i ≡ b
        → cond b (references_of_entry e) [] ++ filter test rest ≡ filter test (references_of_entry e ++ rest)
    own b is =
        ap (λ rs. rs ++ filter test rest) (sym (all_alike test (λ s. record { page = e.page; stamp = s }) b (λ s. is) (hist_stamps e.hist)))
        ∙ sym (filter-append test (references_of_entry e) rest)

    cases : (b : Bool) → nat_eq (shard_of count e.page) i ≡ b
        → list_references_of (part_of_entries count i es) ≡ filter test rest
        → list_references_of (part_of_entries count i (e ∷ es)) ≡ filter test (references_of_entry e ++ rest)
    cases true is later = rw is (ap (λ rs. references_of_entry e ++ rs) later ∙ own true is)
    cases false is later = rw is (later ∙ own false is)

-- an entry has a stamp
stamps_some : (h : PageHist) → (s : Stamp) × (ss : List Stamp) × (hist_stamps h ≡ s ∷ ss)
stamps_some (Once s) = (s, [], refl)
stamps_some (Twice two) = (two.last, two.prev ∷ [], refl)

-- so if there are entries, there are references
pub held_some : (es : List Entry) → (length es ≡ 0 → ⊥) → list_references_of es ≢ []
held_some [] some none = some refl
held_some (e ∷ es) some none =
    let has = stamps_some e.hist in
    let first : references_of_entry e ≡ record { page = e.page; stamp = has.0 } ∷ map (λ (s : Stamp). let r : Reference = record { page = e.page; stamp = s } in r) has.1 = ap (λ ss. map (λ (s : Stamp). let r : Reference = record { page = e.page; stamp = s } in r) ss) has.2 in
    let no : (record { page = e.page; stamp = has.0 } ∷ map (λ (s : Stamp). let r : Reference = record { page = e.page; stamp = s } in r) has.1) ++ list_references_of es ≡ [] = ap (λ rs. rs ++ list_references_of es) (sym first) ∙ none in
    absurd (cc)

pub held_none : (es : List Entry) → length es ≡ 0 → list_references_of es ≡ []
held_none [] none = refl
held_none (e ∷ es) none = absurd (omega (arith, none))

-- the references of a part are those of the whole to pages of the shard
pub part_refs : (count long shard horizon : ℕ) (es part : List Entry) → count ≡ long
    → part ≡ part_of_entries count shard es
    → references_of (history_of_entries_at horizon part)
    ≡ of_shard long shard (references_of (history_of_entries_at horizon es))
part_refs count long shard horizon es part same is =
    let here : part ≡ part_of_entries long shard es = is ∙ ap (λ n. part_of_entries n shard es) same in
    let given : list_references_of part ≡ (of_shard long shard (references_of (history_of_entries_at horizon es))).given = ap list_references_of here ∙ parts_hold long shard es in
    λ i. record { horizon = horizon; given = given i }

-- and so it is with a batch
pub batch_refs : (count long shard : ℕ) (batch part : List Reference) → count ≡ long
    → part ≡ part_of_batch count shard batch
    → set_of_list part ≡ of_shard long shard (set_of_list batch)
batch_refs count long shard batch part same is =
    ap set_of_list (is ∙ ap (λ n. part_of_batch n shard batch) same)
