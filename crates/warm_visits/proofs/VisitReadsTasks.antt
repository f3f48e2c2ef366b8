-- One entry of a visit that gathers digests, or that copies.
use Rattle.std.proofs.Common.{◌≡◌, ◌⊎◌, inl, inr, ℕ, ◌+◌, ◌*◌, ◌<◌, ◌≤◌, Bool, true, false, List, [], ◌∷◌, if◌then◌else◌, Option, None, Ok, Some, refl, sym, ap, subst, ◌∙◌, arith}
use Rattle.std.specs.Prelude.{◌==◌}
use Rattle.warm_stamps.specs.declared.TheConstants.{BUCKETS}
use Rattle.warm_history.specs.Histories.{HistoryView, join}
use Rattle.warm_frames.specs.declared.message.Message.{Message}
use Rattle.warm_frames.specs.declared.message.Message.TheVariants.{Want}
use Rattle.warm_gossip.specs.State.{NodeState}
use Rattle.warm_visits.specs.declared.gathering.Gathering.{Gathering}
use Rattle.warm_visits.specs.declared.copying.Copying.{Copying}
use Rattle.warm_visits.specs.declared.sending.Sending.{Sending}
use Rattle.warm_visits.specs.Visits.{After, ComparesOffers, Errand, HasEntered, Made, NodeSays, VisitState, at_shard, begun, compares, copied, copying, ends, entries_after, entries_for, entries_for_all, entries_left, gathered, joined, offered, offering, refused, requests, sending}
use Rattle.warm_visits.specs.Plans.{from_shard}
use Rattle.warm_visits.specs.VisitReads.{AddsOffer, HasReadOne, IsBeforeLast, copying_visit, gathered_in, gathering_visit, sending_visit, waits_for}
use Rattle.warm_visits.proofs.GivenLemmas.{bytes_same}
use Rattle.warm_visits.proofs.ErrandLemmas.{errand_here, errand_none}
use Rattle.warm_visits.proofs.VisitReadsSending.{few_entries}

-- ---- a copy

pub copies_one : (id count : ℕ) (c d : Copying) (h : HistoryView) (n : NodeState) → c.shard < count
    → h ≡ n.history → d.history ≡ join c.history h → d.shard ≡ c.shard + 1
    → HasReadOne (copying_visit id count c) n (copying_visit id count d) n
copies_one id count c d h n lt at joins on =
    let here = errand_here c.shard count copying lt in
    let later = from_shard (c.shard + 1) count copying in
    let fewer = ap entries_for_all here in
    let left : from_shard d.shard count copying ≡ later = ap (λ i. from_shard i count copying) on in
    let rest = ap entries_for_all left in
    record {
      entered = (
        at_shard c.shard copying,
        copied h,
        record {
          ready = refl;
          rest = later;
          next = here;
          says = (at, (refl, bytes_same n.pool));
          takes = λ j. begun id count (left j) (joined (joins j)) ends;
        },
      );
      shorter = omega (arith, fewer, rest);
      id = refl;
      count = refl;
      going = refl;
      made = tt;
    }

pub copies_refused : (id count : ℕ) (c : Copying) (n : NodeState) → c.shard < count
    → HasEntered (copying_visit id count c) n (record (copying_visit id count c) { stopped = true }) n
copies_refused id count c n lt = (
  at_shard c.shard copying,
  refused,
  record {
    ready = refl;
    rest = from_shard (c.shard + 1) count copying;
    next = errand_here c.shard count copying lt;
    says = (refl, bytes_same n.pool);
    takes = refl;
  },
)

-- ---- an offer

-- nothing is compared if a shard has not offered yet, or if no digests wait
compares_none : (rest : List Errand) (after : After) (made : Made) (v : VisitState)
    → ((e : Errand) × (es : List Errand) × (rest ≡ e ∷ es)) ⊎ (after ≡ ends)
    → ComparesOffers rest after made v v
compares_none rest after made v (inl (e, es, some)) =
    subst (λ (xs : List Errand). ComparesOffers xs after made v v) (sym some) refl
compares_none [] after made v (inr none) =
    subst (λ (x : After). ComparesOffers [] x made v v) (sym none) refl
compares_none (e ∷ rest) after made v (inr none) = refl

-- an entry at which a shard offers
has_offered : (id count : ℕ) (g h : Gathering) (n m : NodeState) (w : VisitState)
    → g.shard < count → (added : AddsOffer count n g (Ok tt) m h)
    → ComparesOffers (from_shard (g.shard + 1) count offering) (waits_for g.waiting) (gathered_in h)
    (begun id count (from_shard (g.shard + 1) count offering) (gathered_in h) (waits_for g.waiting)) w
    → HasEntered (gathering_visit id count g) n w m
has_offered id count g h n m w lt (horizon, table, says, gathers, on, waits) compared = (
  at_shard g.shard offering,
  offered horizon table,
  record {
    ready = refl;
    rest = from_shard (g.shard + 1) count offering;
    next = errand_here g.shard count offering lt;
    says = says;
    takes = (gathered_in h, gathers, compared);
  },
)

-- the shards after the next one
plan_after : (count : ℕ) (g h : Gathering) → h.shard ≡ g.shard + 1
    → from_shard h.shard count offering ≡ from_shard (g.shard + 1) count offering
plan_after count g h on = ap (λ i. from_shard i count offering) on

-- no digests are compared yet
pub gathers_next : (id count : ℕ) (g h : Gathering) (n m : NodeState) → g.shard < count
    → AddsOffer count n g (Ok tt) m h → (h.shard < count) ⊎ (h.waiting ≡ None)
    → HasReadOne (gathering_visit id count g) n (gathering_visit id count h) m
gathers_next id count g h n m lt added more =
    let on : h.shard ≡ g.shard + 1 = added.4 in
    let waits : h.waiting ≡ g.waiting = added.5 in
    let later = from_shard (g.shard + 1) count offering in
    let plan = plan_after count g h on in
    let v = begun id count later (gathered_in h) (waits_for g.waiting) in
    let same : v ≡ gathering_visit id count h = λ j. begun id count (sym plan j) (gathered_in h) (waits_for (sym waits j)) in
    let fewer = ap entries_for_all (errand_here g.shard count offering lt) in
    let left = ap entries_for_all plan in
    let after = ap (λ x. entries_after (waits_for x)) waits in
    let none : ComparesOffers later (waits_for g.waiting) (gathered_in h) v v = compares_none later (waits_for g.waiting) (gathered_in h) v (elim more [
      | inl some ↦ inl (at_shard (g.shard + 1) offering, from_shard (g.shard + 1 + 1) count offering, errand_here (g.shard + 1) count offering (omega (arith, some, on)))
      | inr nothing ↦ inr (ap waits_for (sym waits ∙ nothing))
    ]) in
    record {
      entered = subst (λ (w : VisitState). HasEntered (gathering_visit id count g) n w m) same (has_offered id count g h n m v lt added none);
      shorter = omega (arith, fewer, left, after);
      id = refl;
      count = refl;
      going = refl;
      made = tt;
    }

-- ---- a comparison

-- what follows is no comparison
no_compare : (request : ℕ) (message : Message)
    → entries_after (if request == 0 then ends else requests message) ≡ 0
no_compare request message = cases (request == 0)
  where
    cases : (b : Bool) → entries_after (if b then ends else requests message) ≡ 0
    cases true = refl
    cases false = refl

compared_left : (v w : VisitState) (digests : List (List ℕ)) (horizon : ℕ) (table : List (List ℕ))
    → ComparesOffers [] (compares digests) (gathered horizon table) v w
    → entries_left w ≤ BUCKETS * entries_for (sending 0 None)
compared_left v w digests horizon table (request, fits, differ, is) =
    let all = few_entries v.count request in
    let none = no_compare request (Want v.id horizon request) in
    subst (λ (x : VisitState). entries_left x ≤ BUCKETS * entries_for (sending 0 None)) (sym is) (omega (arith, all, none))

-- the last shard has offered, and digests wait
pub gathers_last : (id count : ℕ) (g h : Gathering) (n m : NodeState) (s : Sending)
    (digests : List (List ℕ)) → g.shard < count → AddsOffer count n g (Ok tt) m h
    → count ≤ h.shard → h.waiting ≡ Some digests
    → ((v : VisitState) → ComparesOffers [] (compares digests) (gathered_in h) v (sending_visit v.id v.count s))
    → HasReadOne (gathering_visit id count g) n (sending_visit id count s) m
gathers_last id count g h n m s digests lt added over wait compared =
    let on : h.shard ≡ g.shard + 1 = added.4 in
    let waits : waits_for g.waiting ≡ compares digests = ap waits_for (sym added.5 ∙ wait) in
    let later = from_shard (g.shard + 1) count offering in
    let none : later ≡ [] = errand_none (g.shard + 1) count offering (omega (arith, over, on)) in
    let w = sending_visit id count s in
    let v = begun id count later (gathered_in h) (waits_for g.waiting) in
    let is : ComparesOffers later (waits_for g.waiting) (gathered_in h) v w = subst (λ (x : After). ComparesOffers later x (gathered_in h) v w) (sym waits) (subst (λ (xs : List Errand). ComparesOffers xs (compares digests) (gathered_in h) v w) (sym none) (compared v)) in
    let fewer = ap entries_for_all (errand_here g.shard count offering lt) in
    let after = ap entries_after waits in
    let few = compared_left v w digests h.horizon h.digests (compared v) in
    record {
      entered = has_offered id count g h n m w lt added is;
      shorter = omega (arith, fewer, after, few);
      id = refl;
      count = refl;
      going = refl;
      made = tt;
    }

pub gathers_refused : (id count : ℕ) (g : Gathering) (n m : NodeState) → g.shard < count
    → NodeSays n offering refused m
    → HasEntered (gathering_visit id count g) n (record (gathering_visit id count g) { stopped = true }) m
gathers_refused id count g n m lt says = (
  at_shard g.shard offering,
  refused,
  record {
    ready = refl;
    rest = from_shard (g.shard + 1) count offering;
    next = errand_here g.shard count offering lt;
    says = says;
    takes = refl;
  },
)

pub before_some : (shard count : ℕ) (waiting : Option (List (List ℕ))) → shard < count
    → IsBeforeLast shard count waiting
before_some shard count None lt = omega (arith, lt)
before_some shard count (Some digests) lt = lt

pub before_none : (shard count : ℕ) (waiting : Option (List (List ℕ))) → shard ≤ count
    → waiting ≡ None → IsBeforeLast shard count waiting
before_none shard count waiting le none = subst (IsBeforeLast shard count) (sym none) le

pub none_if : {A : Type 0} (x : Option A) → ((y : A) → x ≡ Some y → ⊥) → x ≡ None
none_if None not = refl
none_if (Some y) not = absurd (not y refl)
