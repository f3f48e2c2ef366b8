-- What is taken in of what isn't older than a horizon.
use Rattle.std.proofs.Common.{◌≡◌, ℕ, List, [], ◌∷◌, ◌++◌, filter, map, refl, sym, ap, ◌∙◌, subst, append_assoc, map-id, Option, None}
use Rattle.std.specs.Iterator.{Drains}
use Rattle.std.proofs.lemmas.Iterator.{YieldsList}
use Rattle.std.proofs.lemmas.Iterator.Consumers.{YieldsList-end}
use Rattle.std.proofs.lemmas.List.{append-nil}
use Rattle.warm_stamps.specs.declared.Stamp.{Stamp}
use Rattle.warm_stamps.specs.declared.Reference.{Reference}
use Rattle.warm_maps.specs.declared.hist.PageHist.{PageHist}
use Rattle.warm_maps.specs.declared.hist.PageHist.TheVariants.{Once}
use Rattle.warm_maps.specs.declared.hist.Entry.{Entry}
use Rattle.warm_history.specs.ReferenceSets.{is_kept, references_from}
use Rattle.warm_history.specs.ListHistories.{hist_stamps, references_of_entry, list_references_of, list_history}
use Rattle.warm_maps.specs.MapKeys.{key_of_page, page_of_key}
use Rattle.warm_maps.specs.MapPairs.{MapPairs, as_entries, AreKept}
use Rattle.warm_history.specs.maps.KeptPairs.{kept, references_at, PairsTakeIn, TakesStamps, TakesRecent, TakesReferences, TakesEntries}
use Rattle.warm_history.proofs.KeptLemmas.{recent_entry, kept-append, kept_alike}
use Rattle.warm_history.proofs.ListJoinLemmas.{history_alike, history_first, history_of_own_references}
use Rattle.warm_history.proofs.maps.KeptPairLemmas.{IsHistory-kept, hist-pairs}

-- the references at a key that aren't older than the horizon are those of the stamps that aren't
told_recent : (m p : ℕ) (more : PageHist) (ss : List Stamp)
    → ss ≡ filter (is_kept m) (hist_stamps more)
    → references_from m (references_at p more)
    ≡ map (λ s. record { page = page_of_key p; stamp = s }) ss
told_recent m p more ss is = recent_entry m (page_of_key p) (hist_stamps more) ∙ ap (map (λ s. record { page = page_of_key p; stamp = s })) (sym is)

-- if none is left
pub takes_none : (m : ℕ) (old : MapPairs) (p : ℕ) (more : PageHist) → AreKept old
    → [] ≡ filter (is_kept m) (hist_stamps more) → TakesRecent m old p more old
takes_none m old p more are none =
    sym (history_of_own_references (kept old) (IsHistory-kept old are))
    ∙ ap list_history (sym (append-nil (list_references_of (kept old))))
    ∙ ap (λ rs. list_history (list_references_of (kept old) ++ rs)) (sym (told_recent m p more [] none))

-- if some are
pub takes_some : (m : ℕ) (old new : MapPairs) (p : ℕ) (more left : PageHist)
    → hist_stamps left ≡ filter (is_kept m) (hist_stamps more) → TakesStamps old p left new
    → TakesRecent m old p more new
takes_some m old new p more left some takes = takes ∙ ap (λ rs. list_history (list_references_of (kept old) ++ rs)) (sym (told_recent m p more (hist_stamps left) some))

-- the only stamp of a page is one reference
pub takes_reference : (m : ℕ) (old new : MapPairs) (r : Reference)
    → page_of_key (key_of_page r.page) ≡ r.page
    → TakesRecent m old (key_of_page r.page) (Once r.stamp) new → TakesReferences m old (r ∷ []) new
takes_reference m old new r back takes = subst (λ q. PairsTakeIn old (references_from m (record { page = q; stamp = r.stamp } ∷ [])) new) back takes

-- the first of what is left to take in, and the rest
pub recent_more : (m : ℕ) (first rest left : List Reference) → left ≡ first ++ rest
    → references_from m left ≡ references_from m first ++ references_from m rest
recent_more m first rest left is = ap (references_from m) is ∙ kept-append m first rest

-- the pairs, or what they keep, may be taken in
pub references_by_recent : (m : ℕ) (S : List Reference) (pairs : MapPairs) → AreKept pairs
    → list_history (S ++ references_from m (list_references_of (as_entries pairs)))
    ≡ list_history (S ++ references_from m (list_references_of (kept pairs)))
references_by_recent m S pairs are = history_alike S S (references_from m (list_references_of (as_entries pairs))) (references_from m (list_references_of (kept pairs))) (λ p. refl) (kept_alike m (list_references_of (as_entries pairs)) (list_references_of (kept pairs)) (hist-pairs pairs are))

-- ---- entries taken in one by one

references_last : (es : List Entry) (e : Entry)
    → list_references_of (es ++ e ∷ []) ≡ list_references_of es ++ references_of_entry e
references_last [] e = append-nil (references_of_entry e)
references_last (x ∷ es) e = ap (λ t. references_of_entry x ++ t) (references_last es e) ∙ sym (append_assoc (references_of_entry x) (list_references_of es) (references_of_entry e))

-- none yet
pub takes_no_entries : (m : ℕ) (old : MapPairs) → AreKept old → TakesEntries m old [] old
takes_no_entries m old are = sym (history_of_own_references (kept old) (IsHistory-kept old are)) ∙ ap list_history (sym (append-nil (list_references_of (kept old))))

-- one more
pub takes_last : (m : ℕ) (first old new : MapPairs) (es : List Entry) (e : Entry)
    → TakesEntries m first es old → PairsTakeIn old (references_from m (references_of_entry e)) new
    → TakesEntries m first (es ++ e ∷ []) new
takes_last m first old new es e so takes =
    let told : List Reference = list_references_of (kept first) in
    let before : List Reference = references_from m (list_references_of es) in
    let more : List Reference = references_from m (references_of_entry e) in
    takes
    ∙ ap (λ h. list_history (list_references_of h ++ more)) so
    ∙ history_first (told ++ before) more
    ∙ ap list_history (append_assoc told before more)
    ∙ ap (λ rs. list_history (told ++ rs)) (sym (ap (references_from m) (references_last es e) ∙ kept-append m (list_references_of es) (references_of_entry e)))

-- all that an iterator yields
pub takes_yielded : {S : Type 0} {steps : S → Option Entry → S → Type 0} {s : S} (m : ℕ)
    (old new : MapPairs) (all : List Entry) → YieldsList steps (λ x. x) s all
    → (es : List Entry) × Drains steps s es × TakesEntries m old es new → TakesEntries m old all new
takes_yielded {S} {steps} {s} m old new all yields taken =
    let end = taken.1.1 in
    subst (λ es. TakesEntries m old es new) (sym (map-id taken.0) ∙ (YieldsList-end yields taken.0 end.0 end.1 None taken.1.0 refl end.2).0) taken.2

-- references are the entries of their pages with one stamp each
pub references_as_entries : (rs : List Reference)
    → list_references_of (map (λ r. record { page = r.page; hist = Once r.stamp }) rs) ≡ rs
references_as_entries [] = refl
references_as_entries (r ∷ rs) = ap (λ t. r ∷ t) (references_as_entries rs)
