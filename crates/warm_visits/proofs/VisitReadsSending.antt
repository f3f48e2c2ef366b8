-- One portion: what becomes of the visit, and that fewer entries are left.
use Rattle.std.proofs.Common.{◌≡◌, ℕ, zero, suc, ◌+◌, ◌*◌, ◌-◌, ◌^◌, ◌%◌, ◌<◌, ◌≤◌, Bool, true, false, List, [], ◌∷◌, ◌++◌, length, filter, map, get_or, Option, Some, None, MatchOption, refl, sym, ap, subst, ◌∙◌, arith}
use Rattle.std.specs.Prelude.{◌==◌, ◌↔◌, IsTrue, slice_get}
use Rattle.std.specs.Int.{bit_at}
use Rattle.std.specs.List.{All, range_with_len}
use Rattle.std.specs.Ordering.{is_lt, nat_cmp, ordering_then}
use Rattle.std.specs.declared.cmp.Ordering.{Ordering}
use Rattle.std.specs.declared.cmp.Ordering.TheVariants.{Equal, Greater, Less}
use Rattle.std.proofs.lemmas.Bool.{and_parts}
use Rattle.std.proofs.lemmas.Cmp.{ranked}
use Rattle.std.proofs.lemmas.List.Elements.{All-filter, filter_passes}
use Rattle.std.proofs.lemmas.Option.{get_or_from_slice_get, slice_get_within}
use Rattle.warm_stamps.specs.declared.PageId.{PageId}
use Rattle.warm_stamps.specs.Buckets.{buckets_in, page_bucket}
use Rattle.warm_stamps.specs.declared.TheConstants.{BUCKETS}
use Rattle.warm_stamps.specs.Stamps.{page_cmp}
use Rattle.warm_history.specs.Entry.{Entry}
use Rattle.warm_history.specs.Carried.{comes_after, is_next_in_bucket, later_of_bucket}
use Rattle.warm_history.specs.Histories.{HistoryView, IsHistory, entries_of}
use Rattle.warm_history.specs.KeptEntries.{is_recent}
use Rattle.warm_frames.specs.Limits.{entries_in}
use Rattle.warm_frames.specs.declared.message.Message.{Message}
use Rattle.warm_peer.specs.Answers.{requested_buckets}
use Rattle.warm_peer.specs.Chunks.{last_page}
use Rattle.warm_peer.specs.Since.{HasMoreSince, sent_since}
use Rattle.warm_gossip.specs.State.{NodeState}
use Rattle.warm_visits.specs.declared.sending.Sending.{Sending}
use Rattle.warm_visits.specs.VisitReads.{HasReadOne, IsPageOrNone, asks_for, send_from, sending_visit}
use Rattle.warm_visits.specs.Visits.{After, Errand, HasEntered, answered, at_shard, begun, entries_after, entries_for, entries_for_all, goes_on, pages_after, send_plan, sending, sent, with_message}
use Rattle.warm_visits.proofs.GivenLemmas.{bytes_same}
use Rattle.warm_visits.proofs.VisitReadsPortions.{last_of_first, left_of_bucket, portion_is}

-- the page of the last entry, as the code reads it
pub last_read : (es : List Entry) (d : Entry) → 0 < length es
    → Some (get_or es (length es - 1) d).page ≡ last_page es
last_read [] d some = absurd (omega (arith, some))
last_read (e ∷ []) d some = refl
last_read (e ∷ f ∷ es) d some =
    let index : length (e ∷ f ∷ es) - 1 ≡ suc (length (f ∷ es) - 1) = omega arith in
    ap (λ i. Some (get_or (e ∷ f ∷ es) i d).page) index ∙ last_read (f ∷ es) d (omega arith)

-- ---- a later page

-- an entry that is left comes after the page
left_is_later : (h : HistoryView) (bucket : ℕ) (after : Option PageId) (k : ℕ) (e : Entry)
    → slice_get (left_of_bucket h bucket after) k ≡ Some e → comes_after after e.page ≡ true
left_is_later h bucket after k e is =
    let next : Entry → Bool = λ x. is_next_in_bucket bucket after x.page in
    let es = left_of_bucket h bucket after in
    let all : All (λ x. next x ≡ true) es = All-filter (λ x. is_recent 0 x.hist) (λ x. next x ≡ true) (later_of_bucket bucket after (entries_of h)) (filter_passes next (entries_of h)) in
    let here : next e ≡ true = subst (λ x. next x ≡ true) (get_or_from_slice_get es k e e is) (all k e (slice_get_within es k e is)) in
    (and_parts (page_bucket e.page == bucket) (comes_after after e.page) here).1

pages_rise : (p q : PageId) → p.no < 2 ^ 64 → is_lt (page_cmp p q) ≡ true
    → p.dev * 2 ^ 64 + p.no < q.dev * 2 ^ 64 + q.no
pages_rise p q fits less = cases (nat_cmp p.dev q.dev) refl less
  where
    same : (o : Ordering) → nat_cmp p.no q.no ≡ o → p.dev ≡ q.dev → is_lt o ≡ true
        → p.dev * 2 ^ 64 + p.no < q.dev * 2 ^ 64 + q.no
    same Less is dev lt = let no = ranked p.no q.no Less (sym is) in omega (arith, no, dev)
    same Equal is dev lt = let never : false ≡ true = lt in absurd (cc)
    same Greater is dev lt = let never : false ≡ true = lt in absurd (cc)

    cases : (o : Ordering) → nat_cmp p.dev q.dev ≡ o
        → is_lt (ordering_then o (nat_cmp p.no q.no)) ≡ true
        → p.dev * 2 ^ 64 + p.no < q.dev * 2 ^ 64 + q.no
    cases Less is lt = let dev = ranked p.dev q.dev Less (sym is) in omega (arith, dev, fits)
    cases Equal is lt = same (nat_cmp p.no q.no) refl (ranked p.dev q.dev Equal (sym is)) lt
    cases Greater is lt = let never : false ≡ true = lt in absurd (cc)

-- fewer pages are after a later one
fewer_pages : (after : Option PageId) (q : PageId) → IsPageOrNone after → comes_after after q ≡ true
    → pages_after (Some q) < pages_after after
fewer_pages None q page later = omega arith
fewer_pages (Some p) q page later =
    let rise = pages_rise p q page.1 later in
    let dev = page.0 in
    let no = page.1 in
    omega (arith, rise, dev, no)

-- ---- the visit after a portion

-- the bucket's errands are followed by those of the later ones
abbrev later_errands : ℕ → List ℕ → List Errand
later_errands count bs = map (λ b. at_shard (b % count) (sending b None)) bs

has_sent : (id count bucket : ℕ) (s t : Sending) (n : NodeState) (message : Message) (more : Bool)
    → s.bucket ≡ Some bucket → t.want ≡ s.want
    → message ≡ sent_since n.id n.history bucket 0 s.after
    → (IsTrue more ↔ HasMoreSince n.history bucket 0 s.after)
    → answered t.messages.items ≡ with_message (answered s.messages.items) message
    → send_from count t.bucket t.later t.after
    ≡ goes_on (bucket % count) bucket message more ++ later_errands count s.later
    → HasEntered (sending_visit id count s) n (sending_visit id count t) n
has_sent id count bucket s t n message more at want is follow made plan =
    let i = bucket % count in
    let rest = later_errands count s.later in (
      at_shard i (sending bucket s.after),
      sent message more,
      record {
        ready = refl;
        rest = rest;
        next = ap (λ b. send_from count b s.later s.after) at;
        says = (is, follow, (refl, bytes_same n.pool));
        takes = λ j. begun id count (plan j) (made j) (asks_for id (want j));
      },
    )

shorter_plan : (a b : ℕ) (es fs rest : List Errand) (e : Errand) (x : ℕ) → es ≡ e ∷ rest
    → entries_for_all fs ≡ x + entries_for_all rest → x < entries_for e.ask → b ≡ a
    → entries_for_all fs + b < entries_for_all es + a
shorter_plan a b es fs rest e x is others lt same =
    let all = ap entries_for_all is in
    omega (arith, all, others, lt, same)

-- more of the bucket follows
pub sends_more : (id count bucket : ℕ) (s t : Sending) (n : NodeState) (message : Message)
    → s.bucket ≡ Some bucket → t.bucket ≡ s.bucket → t.later ≡ s.later → t.want ≡ s.want
    → message ≡ sent_since n.id n.history bucket 0 s.after
    → (IsTrue true ↔ HasMoreSince n.history bucket 0 s.after)
    → answered t.messages.items ≡ with_message (answered s.messages.items) message
    → t.after ≡ last_page (entries_in message) → IsHistory n.history → IsPageOrNone s.after
    → HasReadOne (sending_visit id count s) n (sending_visit id count t) n
sends_more id count bucket s t n message at bucket_is later want is follow made last valid page =
    let i = bucket % count in
    let es = left_of_bucket n.history bucket s.after in
    let rest = later_errands count s.later in
    let e = last_of_first 999 es (omega (arith, follow.0 refl)) in
    let next : t.after ≡ Some e.0.page = last ∙ ap (λ m. last_page (entries_in m)) (is ∙ portion_is n.id n.history bucket s.after valid) ∙ e.2 in
    let plan : send_from count t.bucket t.later t.after ≡ at_shard i (sending bucket t.after) ∷ rest =
    λ j. send_from count ((bucket_is ∙ at) j) (later j) t.after in
    let fewer : pages_after t.after < pages_after s.after = subst (λ p. pages_after p < pages_after s.after) (sym next) (fewer_pages s.after e.0.page page (left_is_later n.history bucket s.after 999 e.0 e.1)) in
    record {
      entered = has_sent id count bucket s t n message true at want is follow made (plan ∙ ap (λ p. at_shard i (sending bucket p) ∷ rest) last);
      id = refl;
      going = refl;
      made = tt;
      shorter = shorter_plan (entries_after (asks_for id s.want)) (entries_after (asks_for id t.want)) (send_from count s.bucket s.later s.after) (send_from count t.bucket t.later t.after) rest (at_shard i (sending bucket s.after)) (pages_after t.after + 1)
          (ap (λ b. send_from count b s.later s.after) at) (ap entries_for_all plan) (omega (arith, fewer)) (ap (λ x. entries_after (asks_for id x)) want);
      count = refl;
    }

-- the next bucket is the first of the later ones
next_bucket : (count : ℕ) (bucket : Option ℕ) (bs later : List ℕ)
    → MatchOption bucket ((bs ≡ []) × (later ≡ [])) (λ b. bs ≡ b ∷ later)
    → send_from count bucket later None ≡ later_errands count bs
next_bucket count None bs later steps = sym (ap (later_errands count) steps.0)
next_bucket count (Some b) bs later steps = sym (ap (later_errands count) steps)

-- it was the last portion of the bucket
pub sends_last : (id count bucket : ℕ) (s t : Sending) (n : NodeState) (message : Message)
    → s.bucket ≡ Some bucket → t.want ≡ s.want
    → MatchOption t.bucket ((s.later ≡ []) × (t.later ≡ [])) (λ b. s.later ≡ b ∷ t.later)
    → t.after ≡ None → message ≡ sent_since n.id n.history bucket 0 s.after
    → (IsTrue false ↔ HasMoreSince n.history bucket 0 s.after)
    → answered t.messages.items ≡ with_message (answered s.messages.items) message
    → HasReadOne (sending_visit id count s) n (sending_visit id count t) n
sends_last id count bucket s t n message at want steps none is follow made =
    let i = bucket % count in
    let rest = later_errands count s.later in
    let plan : send_from count t.bucket t.later t.after ≡ rest = ap (λ p. send_from count t.bucket t.later p) none ∙ next_bucket count t.bucket s.later t.later steps in
    record {
      entered = has_sent id count bucket s t n message false at want is follow made plan;
      id = refl;
      going = refl;
      made = tt;
      shorter = shorter_plan (entries_after (asks_for id s.want)) (entries_after (asks_for id t.want)) (send_from count s.bucket s.later s.after) (send_from count t.bucket t.later t.after) rest (at_shard i (sending bucket s.after)) 0
          (ap (λ b. send_from count b s.later s.after) at) (omega (arith, ap entries_for_all plan)) (omega arith) (ap (λ x. entries_after (asks_for id x)) want);
      count = refl;
    }

-- ---- a request

-- the buckets of a request are sent from the first one on
pub sends_of : (id count request : ℕ) (bucket : Option ℕ) (bs later : List ℕ)
    (messages : List Message) (after : After) → bs ≡ buckets_in request
    → MatchOption bucket ((bs ≡ []) × (later ≡ [])) (λ b. bs ≡ b ∷ later) → messages ≡ []
    → begun id count (send_from count bucket later None) (answered messages) after
    ≡ begun id count (send_plan count request) (answered []) after
unfolding requested_buckets
sends_of id count request bucket bs later messages after is steps none =
    let plan : send_from count bucket later None ≡ send_plan count request = next_bucket count bucket bs later steps ∙ ap (later_errands count) is in
    λ j. begun id count (plan j) (answered (none j)) after

-- one errand for each bucket
each_bucket : (count : ℕ) (bs : List ℕ)
    → entries_for_all (later_errands count bs) ≡ length bs * entries_for (sending 0 None)
each_bucket count [] = refl
each_bucket count (b ∷ bs) = let rest = each_bucket count bs in omega (arith, rest)

few_buckets : (set first n : ℕ)
    → length (filter (λ b. bit_at set b == 1) (range_with_len first n)) ≤ n
few_buckets set first zero = omega arith
few_buckets set first (suc n) = cases (bit_at set first == 1) refl (few_buckets set (first + 1) n)
  where
    cases : (t : Bool) → (bit_at set first == 1) ≡ t
        → length (filter (λ b. bit_at set b == 1) (range_with_len (first + 1) n)) ≤ n
        → length (filter (λ b. bit_at set b == 1) (range_with_len first (suc n))) ≤ suc n
    cases true is le = rw is (omega (arith, le))
    cases false is le = rw is (omega (arith, le))

-- a request takes no more entries than there may be after a comparison
pub few_entries : (count request : ℕ)
    → entries_for_all (send_plan count request) ≤ BUCKETS * entries_for (sending 0 None)
unfolding requested_buckets
few_entries count request =
    let few = few_buckets request 0 BUCKETS in
    let all = each_bucket count (buckets_in request) in
    omega (arith, few, all)
