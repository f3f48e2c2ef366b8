-- What a replica receives in messages one after the other, and the result of a round of gossip.
use Rattle.std.proofs.Common.{◌≡◌, ◌^◌, ◌⊎◌, inl, inr, ℕ, zero, suc, ◌<◌, ◌≤◌, Bool, true, false, ◌&&◌, ◌||◌, cond, List, [], ◌∷◌, ◌++◌, length, take, drop, map, filter, max, None, refl, sym, ap, subst, ◌∙◌, append_assoc, arith, flat_map, if◌then◌else◌}
use Rattle.std.specs.Prelude.{◌==◌, ◌≢◌}
use Rattle.std.specs.Cmp.{nat_eq_equiv}
use Rattle.std.specs.Int.{bit_at}
use Rattle.std.specs.List.{AllByRecursion, Contains, list_any, range_with_len}
use Rattle.std.proofs.Math.Nat.{le_refl}
use Rattle.std.proofs.lemmas.Bool.{cases_eq, eq-eqb, eqb-true}
use Rattle.std.proofs.lemmas.List.{append-nil, length-drop, take-append-drop}
use Rattle.std.proofs.lemmas.List.Concat.{flat_map-append}
use Rattle.std.proofs.lemmas.List.Elements.{filter-append}
use Rattle.std.proofs.lemmas.List.FromFn.{get_or-range_with_len}
use Rattle.std.proofs.lemmas.Map.Views.{any-filter_same, list_any-from_Contains}
use Rattle.std.proofs.lemmas.Nat.Bits.{bit_at-zero, bit_at-lt, same_from_bits_below}
use Rattle.warm_stamps.specs.declared.PageId.{PageId}
use Rattle.warm_stamps.specs.declared.Reference.{Reference}
use Rattle.warm_stamps.specs.declared.TheConstants.{BUCKETS}
use Rattle.warm_stamps.specs.Buckets.{page_bucket}
use Rattle.warm_stamps.proofs.DistinctLemmas.{all_append}
use Rattle.warm_history.specs.PageHist.{PageHist}
use Rattle.warm_history.specs.PageHist.TheVariants.{Once, Twice}
use Rattle.warm_history.specs.Entry.{Entry}
use Rattle.warm_history.specs.KeptEntries.{is_recent, shortened, shortened_entry, kept_entries}
use Rattle.warm_history.specs.ReferenceSets.{ReferenceSet, is_kept, references_from, references, set_of_list, with_horizon, ◌∪◌}
use Rattle.warm_history.specs.ListHistories.{list_history}
use Rattle.warm_history.specs.ListHistories.{list_hist}
use Rattle.warm_history.specs.Histories.{HistoryView, IsHistory, entries_of, references_of_entry, references_of_entries, history, history_of_entries, history_of_entries_at, join, references_of}
use Rattle.warm_history.specs.Carried.{bucket_entries}
use Rattle.warm_history.proofs.KeptLemmas.{kept_alike, history-kept}
use Rattle.warm_history.proofs.CarriedLemmas.{references-those}
use Rattle.warm_history.proofs.ListHistoryLemmas.{joined, hist-append, hist_swap, hist_refs-history}
use Rattle.warm_history.proofs.ListJoinLemmas as join_list
use Rattle.warm_history.proofs.HistoryLemmas.{IsHistory-history, horizon-history, entries-history, kept-references, never_older, same_hists}
use Rattle.warm_history.proofs.JoinLemmas.{both_assoc, history_alike, history_first, history_second, history_received, history_of_own_references, history_swap, raised_to_no_later}
use Rattle.warm_frames.specs.declared.layout.TheConstants.{MAX_ENTRIES}
use Rattle.warm_frames.specs.declared.message.Message.{Message}
use Rattle.warm_frames.specs.declared.message.Message.TheVariants.{Entries, Want}
use Rattle.warm_frames.specs.Entries.{IsEntry, IsHist}
use Rattle.warm_digest.specs.BucketDigests.{digests_of}
use Rattle.warm_digest.specs.Exchange.{Fits, IsCollision, IsDifferenceOf, in_buckets}
use Rattle.warm_digest.proofs.CachedLemmas.{digest_is}
use Rattle.warm_digest.proofs.ExchangeLemmas.{kept, hist-kept, joined_same, joined_none, exchange_joins}
use Rattle.warm_frames.specs.Chunks.{chunks_of, chunks, entry_messages, bucket_messages}
use Rattle.warm_peer.specs.Answers.{requested_buckets, requested_messages, IsDiffering, refs_in, history_after}
use Rattle.warm_peer.specs.Round.{Receives, HistoryRound, GossipRoundEnds, HistoryRoundJoins, OwnDigestsUnanswered, EntriesBringAll, offer}
use Rattle.warm_peer.proofs.AnswerLemmas.{if_other}

pub no_greater : (a b : ℕ) → b ≤ a → max a b ≡ a
no_greater a b le = omega (arith, le)

-- ---- what messages bring

-- what all messages bring
abbrev pub all_refs : List Message → ReferenceSet
all_refs [] = set_of_list []
all_refs (message ∷ messages) = refs_in message ∪ all_refs messages

-- the references alone
abbrev given_in : Message → List Reference
given_in message = (refs_in message).given

abbrev pub all_given : List Message → List Reference
all_given messages = flat_map given_in messages

given-all : (messages : List Message) → (all_refs messages).given ≡ all_given messages
given-all [] = refl
given-all (message ∷ messages) = ap (λ t. given_in message ++ t) (given-all messages)

none_more : (S : ReferenceSet) → S ∪ set_of_list [] ≡ S
none_more S = λ i. record { horizon = no_greater S.horizon 0 (omega arith) i; given = append-nil S.given i }

-- messages that come one after the other bring all that each brings
pub receives_refs : (id : ℕ) (S : ReferenceSet) (messages answers : List Message)
    (new : HistoryView) → Receives id (history S) messages answers new
    → new ≡ history (S ∪ all_refs messages)
receives_refs id S [] answers new receives = receives.1 ∙ ap history (sym (none_more S))
receives_refs id S (message ∷ messages) answers new receives =
    receives_refs id (S ∪ refs_in message) messages receives.1 new (subst (λ h. Receives id h messages receives.1 new) (history_first S (refs_in message)) receives.3)
    ∙ ap history (both_assoc S (refs_in message) (all_refs messages))

pub entries_bring_all : EntriesBringAll
entries_bring_all sender S R =
    history_first S (references_of (history_of_entries_at R.horizon (entries_of (history R))))
    ∙ history_received S R R.horizon (entries_of (history R)) refl refl

-- ---- messages of entries are not answered

abbrev CarriesEntries : Message → Type 0
CarriesEntries (Entries sender horizon entries) = Unit {0}
CarriesEntries other = ⊥

-- if messages of entries come, and then a request, only the request is answered, from what is known
-- in the end
receives_request : (id sender horizon request : ℕ) (h : HistoryView)
    (messages answers : List Message) (new : HistoryView) → AllByRecursion CarriesEntries messages
    → Receives id h (messages ++ Want sender horizon request ∷ []) answers new
    → answers ≡ requested_messages id new request
receives_request id sender horizon request h [] answers new all receives =
    receives.4 ∙ ap (λ t. receives.0 ++ t) receives.3.0 ∙ append-nil receives.0 ∙ receives.2 ∙ ap (λ (k : HistoryView). requested_messages id k request) (sym receives.3.1)
receives_request id sender horizon request h (Entries from time entries ∷ messages) answers new all receives =
    receives.4 ∙ ap (λ t. t ++ receives.1) receives.2 ∙ receives_request id sender horizon request (history_after h (Entries from time entries)) messages receives.1 new all.1 receives.3
receives_request id sender horizon request h (other ∷ messages) answers new all receives = absurd all.0

-- if only messages of entries come, there is no answer
none_answered : (id : ℕ) (h : HistoryView) (messages answers : List Message) (new : HistoryView)
    → AllByRecursion CarriesEntries messages → Receives id h messages answers new → answers ≡ []
none_answered id h [] answers new all receives = receives.0
none_answered id h (Entries sender horizon entries ∷ messages) answers new all receives =
    receives.4 ∙ ap (λ t. t ++ receives.1) receives.2 ∙ none_answered id (history_after h (Entries sender horizon entries)) messages receives.1 new all.1 receives.3
none_answered id h (other ∷ messages) answers new all receives = absurd all.0

-- what is true of messages of entries is true of the messages of buckets
entries_in_messages : (P : Message → Type 0) (id horizon : ℕ)
    → ((part : List Entry) → P (Entries id horizon part)) → (parts : List (List Entry))
    → AllByRecursion P (map (λ part. Entries id horizon part) parts)
entries_in_messages P id horizon each [] = tt
entries_in_messages P id horizon each (part ∷ parts) = (each part, entries_in_messages P id horizon each parts)

bucket_by_bucket : (P : Message → Type 0) (id : ℕ) (h : HistoryView)
    → ((part : List Entry) → P (Entries id h.horizon part)) → (buckets : List ℕ)
    → AllByRecursion P (flat_map (bucket_messages id h) buckets)
bucket_by_bucket P id h each [] = tt
bucket_by_bucket P id h each (bucket ∷ buckets) =
    all_append P (bucket_messages id h bucket) (flat_map (bucket_messages id h) buckets) (entries_in_messages P id h.horizon each (chunks MAX_ENTRIES (bucket_entries bucket (entries_of h)))) (bucket_by_bucket P id h each buckets)

wanted_carry : (id request : ℕ) (h : HistoryView)
    → AllByRecursion CarriesEntries (requested_messages id h request)
wanted_carry id request h = bucket_by_bucket CarriesEntries id h (λ part. tt) (requested_buckets request)

-- ---- their horizons

abbrev IsAt : ℕ → Message → Type 0
IsAt horizon message = (refs_in message).horizon ≡ horizon

wanted_at : (id request : ℕ) (h : HistoryView)
    → AllByRecursion (IsAt h.horizon) (requested_messages id h request)
wanted_at id request h = bucket_by_bucket (IsAt h.horizon) id h (λ part. refl) (requested_buckets request)

at_most : (horizon : ℕ) (messages : List Message) → AllByRecursion (IsAt horizon) messages
    → (all_refs messages).horizon ≤ horizon
at_most horizon [] all = omega arith
at_most horizon (message ∷ messages) all = omega (arith, all.0, at_most horizon messages all.1)

at_last : (horizon : ℕ) (messages : List Message) (last : Message)
    → AllByRecursion (IsAt horizon) messages → IsAt horizon last
    → (all_refs (messages ++ last ∷ [])).horizon ≡ horizon
at_last horizon [] last all is = omega (arith, is)
at_last horizon (message ∷ messages) last all is = omega (arith, all.0, at_last horizon messages last all.1 is)

-- ---- the references of wanted messages

held_by-append : (es fs : List Entry)
    → references_of_entries (es ++ fs) ≡ references_of_entries es ++ references_of_entries fs
held_by-append [] fs = refl
held_by-append (e ∷ es) fs = ap (λ t. references_of_entry e ++ t) (held_by-append es fs) ∙ sym (append_assoc (references_of_entry e) (references_of_entries es) (references_of_entries fs))

-- chunks together hold what the list holds
chunks_hold : (id horizon size n : ℕ) (es : List Entry) → 0 < size → length es ≤ n
    → all_given (map (λ part. Entries id horizon part) (chunks_of size n es))
    ≡ references_of_entries es
chunks_hold id horizon size zero [] some few = refl
chunks_hold id horizon size zero (e ∷ es) some few = absurd (omega (arith, few))
chunks_hold id horizon size (suc n) [] some few = refl
chunks_hold id horizon size (suc n) (e ∷ es) some few =
    let front : List Entry = take size (e ∷ es) in
    let later : List Entry = drop size (e ∷ es) in
    let fewer : length later ≤ n = omega (arith, length-drop size (e ∷ es), some, few) in
    ap (λ t. references_of_entries front ++ t) (chunks_hold id horizon size n later some fewer)
    ∙ sym (held_by-append front later)
    ∙ ap references_of_entries (take-append-drop size (e ∷ es))

entry_messages_hold : (id horizon : ℕ) (es : List Entry)
    → all_given (entry_messages id horizon es) ≡ references_of_entries es
entry_messages_hold id horizon es = chunks_hold id horizon MAX_ENTRIES (length es) es (omega arith) (omega arith)

-- whether an entry is chosen by its page, or its references are, is the same
kept_entry : (test : PageId → Bool) (page : PageId) (h : PageHist)
    → kept test (references_of_entry (record { page = page; hist = h }))
    ≡ cond (test page) (references_of_entry (record { page = page; hist = h })) []
kept_entry test page (Once s) =
    let r : Reference = record { page = page; stamp = s } in
    elim (test page) as (λ b. cond b (r ∷ []) [] ≡ cond b (r ∷ []) []) [ true ↦ refl | false ↦ refl ]
kept_entry test page (Twice t) =
    let r : Reference = record { page = page; stamp = t.last } in
    let older : Reference = record { page = page; stamp = t.prev } in
    elim (test page) as (λ b. cond b (r ∷ cond b (older ∷ []) []) (cond b (older ∷ []) []) ≡ cond b (r ∷ older ∷ []) []) [ true ↦ refl | false ↦ refl ]

held_by-filter : (test : PageId → Bool) (es : List Entry)
    → references_of_entries (filter (λ e. test e.page) es) ≡ kept test (references_of_entries es)
held_by-filter test [] = refl
held_by-filter test (e ∷ es) =
    cases (test e.page) (held_by-filter test es)
    ∙ ap (λ t. t ++ kept test (references_of_entries es)) (sym (kept_entry test e.page e.hist))
    ∙ sym (filter-append (λ (r : Reference). test r.page) (references_of_entry e) (references_of_entries es))
  where
    chosen : List Entry
    chosen = filter (λ e. test e.page) es

    cases : (t : Bool) → references_of_entries chosen ≡ kept test (references_of_entries es)
        → references_of_entries (cond t (e ∷ chosen) chosen)
        ≡ cond t (references_of_entry e) [] ++ kept test (references_of_entries es)
    cases true later = ap (λ t. references_of_entry e ++ t) later
    cases false later = later

-- the references of R to pages of the bucket
abbrev of_bucket : List Reference → ℕ → List Reference
of_bucket R bucket = kept (λ p. page_bucket p == bucket) R

buckets_hold : (id : ℕ) (h : HistoryView) (buckets : List ℕ)
    → all_given (flat_map (bucket_messages id h) buckets)
    ≡ flat_map (of_bucket (references_of_entries (entries_of h))) buckets
buckets_hold id h [] = refl
buckets_hold id h (bucket ∷ buckets) =
    flat_map-append given_in (bucket_messages id h bucket) (flat_map (bucket_messages id h) buckets)
    ∙ ap (λ t. t ++ all_given (flat_map (bucket_messages id h) buckets)) (entry_messages_hold id h.horizon (bucket_entries bucket (entries_of h)) ∙ held_by-filter (λ p. page_bucket p == bucket) (entries_of h))
    ∙ ap (λ t. of_bucket (references_of_entries (entries_of h)) bucket ++ t) (buckets_hold id h buckets)

-- ---- what they say of each page

none_joined : (S : List Reference) (p : PageId) → joined None (list_hist S p) ≡ list_hist S p
none_joined S p = sym (hist-append [] S p)

-- the references of some buckets say of their pages what all say
hist-buckets : (R : List Reference) (buckets : List ℕ) (p : PageId)
    → list_hist (flat_map (of_bucket R) buckets) p
    ≡ cond (list_any (λ bucket. page_bucket p == bucket) buckets) (list_hist R p) None
hist-buckets R [] p = refl
hist-buckets R (bucket ∷ buckets) p =
    let any = list_any (λ b. page_bucket p == b) buckets in
    hist-append (of_bucket R bucket) (flat_map (of_bucket R) buckets) p
    ∙ ap (λ x. joined x (list_hist (flat_map (of_bucket R) buckets) p)) (hist-kept (λ q. page_bucket q == bucket) R p)
    ∙ ap (joined (cond (page_bucket p == bucket) (list_hist R p) None)) (hist-buckets R buckets p)
    ∙ cases (page_bucket p == bucket) any
  where
    cases : (x y : Bool) → joined (cond x (list_hist R p) None) (cond y (list_hist R p) None)
        ≡ cond (x || y) (list_hist R p) None
    cases true true = joined_same R p
    cases true false = joined_none R p
    cases false true = none_joined R p
    cases false false = refl

any_bucket : (request : ℕ) (p : PageId)
    → list_any (λ bucket. page_bucket p == bucket) (requested_buckets request)
    ≡ (bit_at request (page_bucket p) == 1)
unfolding requested_buckets
any_bucket request p =
    let n : ℕ = page_bucket p in
    let there : Contains (range_with_len 0 BUCKETS) n = (n, omega arith, get_or-range_with_len 0 BUCKETS n n (omega arith) ∙ omega arith) in
    any-filter_same (λ bucket. n == bucket) (λ bucket. bit_at request bucket == 1) (bit_at request n == 1) (λ bucket same. ap (λ b. bit_at request b == 1) (sym (eqb-true n bucket same))) (range_with_len 0 BUCKETS)
    ∙ ap (λ t. (bit_at request n == 1) && t) (list_any-from_Contains nat_eq_equiv n (range_with_len 0 BUCKETS) there)
    ∙ elim (bit_at request n == 1) as (λ b. (b && true) ≡ b) [ true ↦ refl | false ↦ refl ]

-- the pages of the buckets of the request
abbrev in_request : ℕ → PageId → Bool
in_request request p = bit_at request (page_bucket p) == 1

-- wanted messages say of each page what the references of the wanted buckets do
hist-wanted : (id request : ℕ) (h : HistoryView) (p : PageId)
    → list_hist (all_given (requested_messages id h request)) p
    ≡ list_hist (kept (in_request request) (references_of_entries (entries_of h))) p
hist-wanted id request h p =
    ap (λ (R : List Reference). list_hist R p) (buckets_hold id h (requested_buckets request))
    ∙ hist-buckets (references_of_entries (entries_of h)) (requested_buckets request) p
    ∙ ap (λ b. cond b (list_hist (references_of_entries (entries_of h)) p) None) (any_bucket request p)
    ∙ sym (hist-kept (in_request request) (references_of_entries (entries_of h)) p)

-- ---- what both know in the end

-- a list said before another, and in it again, says what it says once
hist_again : (S T : List Reference) (p : PageId)
    → joined (list_hist T p) (joined (list_hist S p) (list_hist T p))
    ≡ joined (list_hist T p) (list_hist S p)
hist_again S T p =
    ap (joined (list_hist T p)) (sym (hist-append S T p) ∙ hist_swap S T p)
    ∙ sym (hist-append T (T ++ S) p)
    ∙ ap (λ (R : List Reference). list_hist R p) (sym (append_assoc T T S))
    ∙ hist-append (T ++ T) S p
    ∙ ap (λ x. joined x (list_hist S p)) (hist-append T T p ∙ joined_same T p)

-- the answer for the wanted buckets says no more than they said before the request
hist_back : (request : ℕ) (S T : List Reference) (p : PageId)
    → list_hist (T ++ kept (in_request request) (S ++ kept (in_request request) T)) p
    ≡ list_hist (T ++ kept (in_request request) S) p
hist_back request S T p =
    let test = in_request request in
    hist-append T (kept test (S ++ kept test T)) p
    ∙ ap (joined (list_hist T p)) (hist-kept test (S ++ kept test T) p)
    ∙ ap (λ x. joined (list_hist T p) (cond (test p) x None)) (hist-append S (kept test T) p ∙ ap (joined (list_hist S p)) (hist-kept test T p))
    ∙ cases (test p)
    ∙ sym (ap (joined (list_hist T p)) (hist-kept test S p))
    ∙ sym (hist-append T (kept test S) p)
  where
    cases : (t : Bool) → joined (list_hist T p)
        (cond t (joined (list_hist S p) (cond t (list_hist T p) None)) None)
        ≡ joined (list_hist T p) (cond t (list_hist S p) None)
    cases true = hist_again S T p
    cases false = refl

-- sets that, united with S, agree on each page and have the same horizon, have one history with it
given_alike : (S A B : ReferenceSet) → max S.horizon A.horizon ≡ max S.horizon B.horizon
    → ((p : PageId) → list_hist (S.given ++ A.given) p ≡ list_hist (S.given ++ B.given) p)
    → history (S ∪ A) ≡ history (S ∪ B)
given_alike S A B horizons alike = same_hists (S ∪ A) (S ∪ B) horizons (λ p.
    ap (λ m. list_hist (references_from m (S.given ++ A.given)) p) horizons
    ∙ kept_alike (max S.horizon B.horizon) (S.given ++ A.given) (S.given ++ B.given) alike p)

-- the same if the second sets say the same of each page
second_alike : (S A B : ReferenceSet) → max S.horizon A.horizon ≡ max S.horizon B.horizon
    → ((p : PageId) → list_hist A.given p ≡ list_hist B.given p) → history (S ∪ A) ≡ history (S ∪ B)
second_alike S A B horizons alike = given_alike S A B horizons (λ p. hist-append S.given A.given p ∙ ap (joined (list_hist S.given p)) (alike p) ∙ sym (hist-append S.given B.given p))

-- the request of i, and the answer of j, of the buckets of the request
abbrev Exchanged : ℕ → HistoryView → HistoryView → HistoryView → HistoryView → Type 0
Exchanged request h g h' g' = (h' ≡ history (references_of h ∪ in_buckets request (references_of g))) × (g' ≡ history (references_of g ∪ in_buckets request (references_of h)))

-- what j answers to the digests of h, by the request of the buckets that differ
abbrev asking : ℕ → HistoryView → ℕ → List Message
asking j g request = requested_messages j g request ++ Want j g.horizon request ∷ []

-- i takes in what j has of these buckets
first_after : (i j request : ℕ) (h g : HistoryView) (given : List Message) (h' : HistoryView)
    → IsHistory h → Receives i h (asking j g request) given h'
    → h' ≡ history (references_of h ∪ in_buckets request (references_of g))
first_after i j request h g given h' whole received =
    let S = references_of h in
    let messages : List Message = requested_messages j g request in
    let last : Message = Want j g.horizon request in
    let A : ReferenceSet = all_refs (messages ++ last ∷ []) in
    let given_is : A.given ≡ all_given messages = given-all (messages ++ last ∷ []) ∙ flat_map-append given_in messages (last ∷ []) ∙ append-nil (all_given messages) in
    let at : A.horizon ≡ g.horizon = at_last g.horizon messages last (wanted_at j request g) refl in
    receives_refs i S (messages ++ last ∷ []) given h' (subst (λ k. Receives i k (messages ++ last ∷ []) given h') (sym (history_of_own_references h whole)) received)
    ∙ second_alike S A (in_buckets request (references_of g)) (ap (max h.horizon) at) (λ p. ap (λ (R : List Reference). list_hist R p) given_is ∙ hist-wanted j request g p)

-- and j receives what i then has of them, which for j is no more than what i had before
second_after : (i j request : ℕ) (h g : HistoryView) (given last : List Message)
    (h' g' : HistoryView) → IsHistory g → h.horizon ≤ g.horizon
    → h' ≡ history (references_of h ∪ in_buckets request (references_of g))
    → given ≡ requested_messages i h' request → Receives j g given last g'
    → g' ≡ history (references_of g ∪ in_buckets request (references_of h))
second_after i j request h g given last h' g' whole le is answered back =
    let S = references_of h in
    let T = references_of g in
    let test = in_request request in
    let X : ReferenceSet = S ∪ in_buckets request T in
    let Z : ReferenceSet = in_buckets request X in
    let B : ReferenceSet = record { horizon = X.horizon; given = references Z } in
    let G : ReferenceSet = all_refs given in
    let horizon : h'.horizon ≡ X.horizon = ap (λ (k : HistoryView). k.horizon) is ∙ horizon-history X in
    let entries : entries_of h' ≡ list_history (references X) = ap entries_of is ∙ entries-history X in
    let low : G.horizon ≤ h'.horizon = at_most h'.horizon given (subst (AllByRecursion (IsAt h'.horizon)) (sym answered) (wanted_at i request h')) in
    let hists_alike : (p : PageId) → list_hist G.given p ≡ list_hist B.given p = λ p.
    ap (λ (R : List Reference). list_hist R p) (given-all given ∙ ap all_given answered)
    ∙ hist-wanted i request h' p
    ∙ hist-kept test (references_of_entries (entries_of h')) p
    ∙ ap (λ x. cond (test p) x None) (ap (λ es. list_hist (references_of_entries es) p) entries ∙ hist_refs-history (references X) p)
    ∙ sym (hist-kept test (references X) p)
    ∙ ap (λ (R : List Reference). list_hist R p) (sym (references-those (λ r. test r.page) X)) in
    receives_refs j T given last g' (subst (λ k. Receives j k given last g') (sym (history_of_own_references g whole)) back)
    ∙ second_alike T G B (omega (arith, le, low, horizon)) hists_alike
    ∙ history_alike T T B Z refl refl (λ p. refl) (λ p. ap (λ (R : List Reference). list_hist R p) (kept-references Z))
    ∙ given_alike T Z (in_buckets request S) (omega (arith, le)) (λ p. hist_back request S.given T.given p)

exchanged : (i j request : ℕ) (h g : HistoryView) (given last : List Message) (h' g' : HistoryView)
    → IsHistory h → IsHistory g → h.horizon ≤ g.horizon
    → Receives i h (asking j g request) given h' → Receives j g given last g'
    → Exchanged request h g h' g'
exchanged i j request h g given last h' g' whole other le received back =
    let first = first_after i j request h g given h' whole received in
    let answered = receives_request i j g.horizon request h (requested_messages j g request) given h' (wanted_carry j request g) received in
    (first, second_after i j request h g given last h' g' other le first answered back)

-- no bucket is in the request 0
none_wanted : (S : List Reference) → kept (in_request 0) S ≡ []
none_wanted [] = refl
none_wanted (r ∷ S) = rw (bit_at-zero (page_bucket r.page)) (none_wanted S)

-- so nothing is exchanged by it but the horizon
nothing_wanted : (S : ReferenceSet) (h : HistoryView)
    → history (S ∪ in_buckets 0 (references_of h)) ≡ history (with_horizon h.horizon S)
nothing_wanted S h = ap (λ (R : List Reference). history (S ∪ record { horizon = h.horizon; given = R })) (none_wanted (references_of_entries (entries_of h)))

-- ---- the digests

same_difference : (request : ℕ) (h g : HistoryView)
    → IsDiffering (digests_of (entries_of h)) g request → IsDifferenceOf h g request
same_difference request h g differ bucket low = rw (← digest_is (entries_of h) bucket low, ← digest_is (entries_of g) bucket low) (differ bucket low)

other_way : (request : ℕ) (h g : HistoryView) → IsDifferenceOf h g request
    → IsDifferenceOf g h request
other_way request h g differ bucket low = ((λ set same. (differ bucket low).0 set (sym same)), (λ other. (differ bucket low).1 (λ same. other (sym same))))

collision_too : (h g : HistoryView) → IsCollision h g → IsCollision g h
collision_too h g c = record { bucket = c.bucket; low = c.low; differ = (λ same. c.differ (sym same)); same_digest = sym c.same_digest }

-- no bit of a request is set if no digest differs
own_request : (request : ℕ) (h : HistoryView) → request < 2 ^ 64
    → IsDiffering (digests_of (entries_of h)) h request → request ≡ 0
own_request request h fits differ = same_from_bits_below 64 request 0 fits (omega arith) (λ bucket low.
    let set : bit_at request bucket ≢ 1 = λ one. (differ bucket low).0 one refl in
    omega (arith, bit_at-lt request bucket, bit_at-zero bucket, set))

if_zero : {A : Type 0} (request : ℕ) (x y : A) → request ≡ 0 → (if request == 0 then x else y) ≡ x
if_zero request x y none = ap (λ (t : Bool). if t then x else y) (eq-eqb request 0 none)

-- ---- the exchange, of histories

-- exchanging the differing buckets of l and k gives the join of g and h, which they are
abbrev Gives : HistoryView → HistoryView → HistoryView → HistoryView → Type 0
Gives h g k l = Fits k → Fits l → (request : ℕ) → IsDifferenceOf k l request → (history (references_of g ∪ in_buckets request (references_of h)) ≡ join g h) ⊎ IsCollision k l

exchange_gives : (h g : HistoryView) → IsHistory h → IsHistory g → Gives h g h g
exchange_gives h g whole other =
    let law : Gives h g (history (references_of h)) (history (references_of g)) = λ fits others request differ. exchange_joins (references_of h) (references_of g) request fits others differ in
    subst (λ (k : HistoryView). Gives h g k g) (history_of_own_references h whole)
    (subst (λ (l : HistoryView). Gives h g (history (references_of h)) l) (history_of_own_references g other) law)

-- if no bucket differs, all entries are the same, whatever the horizons
without_horizon : (h : HistoryView) → IsHistory h → IsHistory (history_of_entries (entries_of h))
without_horizon h whole = record { pages_ascend = whole.pages_ascend; stamps_descend = whole.stamps_descend; none_older = never_older (entries_of h) }

held_alone : (h g : HistoryView) → IsHistory h → IsHistory g → Fits h → Fits g
    → IsDifferenceOf h g 0
    → (history_of_entries (entries_of g)
    ≡ join (history_of_entries (entries_of g)) (history_of_entries (entries_of h)))
    ⊎ IsCollision h g
held_alone h g whole other fits others differ =
    let k = history_of_entries (entries_of h) in
    let l = history_of_entries (entries_of g) in
    elim (exchange_gives k l (without_horizon h whole) (without_horizon g other) fits others 0 differ) [
      | inl joins ↦ inl (sym (raised_to_no_later l 0 (without_horizon g other) (omega arith)) ∙ sym (nothing_wanted (references_of l) k) ∙ joins)
      | inr c ↦ inr (record { bucket = c.bucket; low = c.low; differ = c.differ; same_digest = c.same_digest })
    ]

same_entries : (h g : HistoryView) → IsHistory h → IsHistory g → Fits h → Fits g
    → IsDifferenceOf h g 0 → (entries_of h ≡ entries_of g) ⊎ IsCollision h g
same_entries h g whole other fits others differ = elim (held_alone h g whole other fits others differ) [
  | inr c ↦ inr c
  | inl second ↦ elim (held_alone g h other whole others fits (other_way 0 h g differ)) [
    | inr c ↦ inr (collision_too g h c)
    | inl first ↦ inl (ap entries_of (first ∙ history_swap (references_of (history_of_entries (entries_of h))) (references_of (history_of_entries (entries_of g))) ∙ sym second))
  ]
]

-- ---- what is left of a history at a horizon

shortened_fits : (horizon : ℕ) (h : PageHist) → IsHist h → IsHist (shortened horizon h)
shortened_fits horizon (Once last) is = is
shortened_fits horizon (Twice two) is = elim (is_kept horizon two.prev) as (λ b. IsHist (cond b (Twice two) (Once two.last))) [ true ↦ is | false ↦ is.0 ]

kept_fits : (horizon : ℕ) (es : List Entry) → AllByRecursion IsEntry es
    → AllByRecursion IsEntry (kept_entries horizon es)
kept_fits horizon [] all = tt
kept_fits horizon (e ∷ es) all =
    let rest : List Entry = filter (λ e. is_recent horizon e.hist) es in
    let here : IsEntry (shortened_entry horizon e) = record { page = all.0.page; hist = shortened_fits horizon e.hist all.0.hist } in
    elim (is_recent horizon e.hist) as (λ b. AllByRecursion IsEntry (map (shortened_entry horizon) (cond b (e ∷ rest) rest))) [ true ↦ (here, kept_fits horizon es all.1) | false ↦ kept_fits horizon es all.1 ]

-- a history of valid entries has only valid entries after it is raised
raised_fits : (h : HistoryView) (time : ℕ) → IsHistory h → Fits h
    → Fits (history (with_horizon time (references_of h)))
raised_fits h time whole fits =
    let m : ℕ = max h.horizon time in
    let es = entries_of h in
    let own : list_history (references_of_entries es ++ []) ≡ es = ap list_history (append-nil (references_of_entries es)) ∙ join_list.history_of_own_references es (record { pages_ascend = whole.pages_ascend; stamps_descend = whole.stamps_descend }) in
    let left : entries_of (history (with_horizon time (references_of h))) ≡ kept_entries m es = entries-history (with_horizon time (references_of h)) ∙ sym (history-kept m (references_of_entries es ++ [])) ∙ ap (kept_entries m) own in
    subst (AllByRecursion IsEntry) (sym left) (kept_fits m es fits)

-- the join with a history that is raised to one's own horizon is the join with it
join_offered : (h g : HistoryView)
    → join h (history (with_horizon h.horizon (references_of g))) ≡ join h g
join_offered h g =
    let a : ℕ = h.horizon in
    let b : ℕ = g.horizon in
    let horizons : max a (max b a) ≡ max a b = omega arith in
    let same : references_of h ∪ with_horizon a (references_of g) ≡ references_of h ∪ references_of g = λ i. record { horizon = horizons i; given = references_of_entries (entries_of h) ++ append-nil (references_of_entries (entries_of g)) i } in
    history_second (references_of h) (with_horizon a (references_of g)) ∙ ap history same

-- ---- the round

pub own_digests_unanswered : OwnDigestsUnanswered
own_digests_unanswered i j h answers whole is =
    let same : history_after h (offer i h) ≡ h = raised_to_no_later h h.horizon whole (le_refl h.horizon) in
    let differ : IsDiffering (digests_of (entries_of h)) h is.0 = subst (λ (k : HistoryView). IsDiffering (digests_of (entries_of h)) k is.0) same is.2 in
    is.3 ∙ if_zero is.0 [] (asking j (history_after h (offer i h)) is.0) (own_request is.0 h is.1 differ)

-- what j answers is nothing, or it is not: so then is what comes after it
abbrev Asked : ℕ → ℕ → HistoryView → HistoryView → HistoryView → HistoryView → ℕ → List Message
    → List Message → List Message → Type 0
Asked i j h g h' g' request messages given last =
    ((request ≡ 0) × (messages ≡ []) × (last ≡ []) × (h' ≡ h) × (g' ≡ g)) ⊎ (Receives i h (asking j g request) given h' × Receives j g given last g')

asked : (i j : ℕ) (h g h' g' : HistoryView) (round : HistoryRound i j h g h' g')
    → Asked i j h (history_after g (offer i h)) h' g' round.offered.0 round.asked round.given
    round.last
asked i j h g h' g' round =
    let request : ℕ = round.offered.0 in
    let k : HistoryView = history_after g (offer i h) in
    elim (cases_eq request 0) [
      | inl none ↦
          let nothing : round.asked ≡ [] = round.offered.3 ∙ if_zero request [] (asking j k request) none in
          let first : Receives i h [] round.given h' = subst (λ messages. Receives i h messages round.given h') nothing round.received in
          let second : Receives j k [] round.last g' = subst (λ messages. Receives j k messages round.last g') first.0 round.back in
          inl (none, nothing, second.0, first.1, second.1)
      | inr some ↦
          let all : round.asked ≡ asking j k request = round.offered.3 ∙ if_other request [] (asking j k request) some in
          inr (subst (λ messages. Receives i h messages round.given h') all round.received, round.back)
    ]

-- both have the entries of one history, which is all that j has and, if messages were requested,
-- all that i has
abbrev Both : HistoryView → HistoryView → HistoryView → List Message → Type 0
Both all h' g' messages = (entries_of h' ≡ entries_of all) × (g' ≡ all) × ((messages ≡ [] → ⊥) → h' ≡ all)

both_join : (i j request : ℕ) (h g h' g' : HistoryView) (messages given last : List Message)
    → IsHistory h → IsHistory g → h.horizon ≤ g.horizon → Fits h → Fits g
    → IsDifferenceOf h g request
    → Asked i j h g h' g' request messages given last
    → Both (join h g) h' g' messages ⊎ IsCollision h g
both_join i j request h g h' g' messages given last whole other le fits others differ (inl (zero_is, nothing, ended, first, second)) =
    let none : IsDifferenceOf h g 0 = subst (λ m. IsDifferenceOf h g m) zero_is differ in
    elim (same_entries h g whole other fits others none) [
      | inr c ↦ inr c
      | inl same ↦ elim (exchange_gives h g whole other fits others 0 none) [
        | inr c ↦ inr c
        | inl joins ↦
            let all : g ≡ join h g = sym (raised_to_no_later g h.horizon other le) ∙ sym (nothing_wanted (references_of g) h) ∙ joins ∙ history_swap (references_of g) (references_of h) in
            inl (ap entries_of first ∙ same ∙ ap entries_of all, second ∙ all, λ some. absurd (some nothing))
      ]
    ]
both_join i j request h g h' g' messages given last whole other le fits others differ (inr (received, back)) =
    let done = exchanged i j request h g given last h' g' whole other le received back in
    elim (exchange_gives g h other whole others fits request (other_way request h g differ)) [
      | inr c ↦ inr (collision_too g h c)
      | inl first ↦ elim (exchange_gives h g whole other fits others request differ) [
        | inr c ↦ inr c
        | inl second ↦
            let all : h' ≡ join h g = done.0 ∙ first in
            inl (ap entries_of all, done.1 ∙ second ∙ history_swap (references_of g) (references_of h), λ some. all)
      ]
    ]

pub gossip_round_joins : HistoryRoundJoins
gossip_round_joins i j h g h' g' whole other fits others round =
    let k : HistoryView = history (with_horizon h.horizon (references_of g)) in
    let later : h.horizon ≤ k.horizon = omega (arith, horizon-history (with_horizon h.horizon (references_of g))) in
    let differ : IsDifferenceOf h k round.offered.0 = same_difference round.offered.0 h k round.offered.2 in
    let both : Both (join h k) h' g' round.asked ⊎ IsCollision h k =
    both_join i j round.offered.0 h k h' g' round.asked round.given round.last whole (IsHistory-history (with_horizon h.horizon (references_of g))) later fits (raised_fits g h.horizon other others) differ (asked i j h g h' g' round) in
    subst (λ (all : HistoryView). Both all h' g' round.asked ⊎ IsCollision h k) (join_offered h g) both

pub gossip_round_ends : GossipRoundEnds
gossip_round_ends i j h g h' g' whole round = elim (asked i j h g h' g' round) [
  | inl nothing ↦ nothing.2
  | inr some ↦
      let request : ℕ = round.offered.0 in
      let k : HistoryView = history_after g (offer i h) in
      let given : round.given ≡ requested_messages i h' request = receives_request i j k.horizon request h (requested_messages j k request) round.given h' (wanted_carry j request k) some.0 in
      none_answered j k round.given round.last g' (subst (AllByRecursion CarriesEntries) (sym given) (wanted_carry i request h')) some.1
]
