-- A visit that sends the entries of buckets, and that nobody interrupts.
use Rattle.std.proofs.Common.{◌≡◌, inl, inr, ℕ, ◌<◌, ◌≤◌, ◌%◌, Bool, true, false, List, [], ◌∷◌, ◌++◌, length, map, take, drop, flat_map, refl, sym, ap, subst, ◌∙◌, arith, append-nil, append_assoc, set}
use Rattle.std.specs.Prelude.{◌↔◌, IsTrue, None, Option}
use Rattle.std.specs.List.{AllByRecursion}
use Rattle.warm_stamps.specs.declared.PageId.{PageId}
use Rattle.warm_history.specs.Histories.{HistoryView}
use Rattle.warm_history.proofs.HistoryLemmas.{IsHistory-history}
use Rattle.warm_frames.specs.Chunks.{bucket_messages, entry_messages}
use Rattle.warm_frames.specs.declared.layout.TheConstants.{MAX_ENTRIES}
use Rattle.warm_frames.specs.declared.message.Message.{Message}
use Rattle.warm_frames.specs.declared.message.Message.TheVariants.{Entries}
use Rattle.warm_peer.specs.Answers.{requested_buckets, requested_messages}
use Rattle.warm_peer.specs.Chunks.{last_page}
use Rattle.warm_peer.specs.Since.{HasMoreSince, sent_since}
use Rattle.warm_gossip.specs.State.{NodeState}
use Rattle.warm_shards.specs.Clauses.{SameShards}
use Rattle.warm_shards.specs.Shards.{AreShards, held, shard_at, whole}
use Rattle.warm_shards.specs.VisitLaws.{Alone, EntersAlone}
use Rattle.warm_visits.specs.Visits.{After, Ask, Enters, Errand, NodeSays, Said, Takes, VisitState}
use Rattle.warm_visits.specs.Visits.{answered, at_shard, goes_on, onward}
use Rattle.warm_visits.specs.Visits.{answers_of, next_shard, send_plan, sending, with_message}
use Rattle.warm_shards.proofs.AnswerLemmas.{more_same, not_later, sent_since_same}
use Rattle.warm_shards.proofs.AreShardsLemmas.{some_shards}
use Rattle.warm_shards.proofs.Calls.{same_histories, same_ids}
use Rattle.warm_shards.proofs.VisitReads.{no_errand, same_read, sending_said, visit_at}
use Rattle.warm_visits.proofs.VisitReadsPortions.{left_behind, left_of_bucket, messages_first, messages_left, portion_is, then_more, with_last, with_more}

-- the messages that errands still bring of a history
abbrev pub brought : ℕ → HistoryView → Ask → List Message
brought id h (sending bucket after) = messages_left id h bucket after
brought id h ask = []

abbrev pub all_brought : ℕ → HistoryView → List Errand → List Message
all_brought id h plan = flat_map (λ e. brought id h e.ask) plan

-- each errand sends of a bucket of its shard
abbrev pub IsOwnSend : ℕ → ℕ → Ask → Type 0
IsOwnSend count i (sending bucket after) = bucket % count ≡ i
IsOwnSend count i ask = ⊥

abbrev pub AreOwnSends : ℕ → List Errand → Type 0
AreOwnSends count plan = AllByRecursion (λ e. IsOwnSend count e.shard e.ask) plan

-- The visit sends of shards that a caller sees as they were: its messages, and those that its
-- errands bring, are these.
pub record Sends (mid : List NodeState) (all : List Message) (after : After) (s : Alone)
    : Type 0 where
  pub same : SameShards mid s.shards
  pub plan : List Errand
  pub so_far : List Message
  pub stopped : Bool
  pub visit : s.visit ≡ visit_at (shard_at mid 0).id (length mid) plan (answered so_far) after stopped
  pub own : AreOwnSends (length mid) plan
  pub total : so_far ++ all_brought (shard_at mid 0).id (whole mid) plan ≡ all

-- ---- one portion

-- what a shard sends is what all together send
sent_of_whole : (mid ns : List NodeState) (i bucket : ℕ) (after : Option PageId) → AreShards mid
    → i < length mid → bucket % length mid ≡ i → SameShards mid ns
    → sent_since (shard_at ns i).id (shard_at ns i).history bucket 0 after
    ≡ Entries (shard_at mid 0).id (whole mid).horizon (take MAX_ENTRIES (left_of_bucket (whole mid) bucket after))
sent_of_whole mid ns i bucket after are lt own same =
    let id = same_ids mid ns same i in
    let h = same_histories mid ns same i in
    (λ j. sent_since (id j) (h j) bucket 0 after)
    ∙ sent_since_same mid i bucket 0 after are lt own
    ∙ portion_is (shard_at mid 0).id (whole mid) bucket after (IsHistory-history (held mid))

more_of_whole : (mid ns : List NodeState) (i bucket : ℕ) (after : Option PageId) → AreShards mid
    → i < length mid → bucket % length mid ≡ i → SameShards mid ns
    → HasMoreSince (shard_at ns i).history bucket 0 after
    ≡ (MAX_ENTRIES < length (left_of_bucket (whole mid) bucket after))
more_of_whole mid ns i bucket after are lt own same =
    ap (λ h. HasMoreSince h bucket 0 after) (same_histories mid ns same i)
    ∙ more_same mid i bucket 0 after are lt own

-- the visit after a portion, more of which follow or not
sends_portion : (mid : List NodeState) (all : List Message) (after : After) (y : Alone)
    (i bucket : ℕ) (page : Option PageId) (rest : List Errand) (so_far : List Message) (more : Bool)
    → SameShards mid y.shards → bucket % length mid ≡ i → AreOwnSends (length mid) rest
    → (IsTrue more ↔ MAX_ENTRIES < length (left_of_bucket (whole mid) bucket page))
    → so_far ++ (messages_left (shard_at mid 0).id (whole mid) bucket page
    ++ all_brought (shard_at mid 0).id (whole mid) rest) ≡ all
    → y.visit ≡ (let M = Entries (shard_at mid 0).id (whole mid).horizon (take MAX_ENTRIES (left_of_bucket (whole mid) bucket page)) in
    visit_at (shard_at mid 0).id (length mid) (goes_on i bucket M more ++ rest) (with_message (answered so_far) M) after false)
    → Sends mid all after y
sends_portion mid all after y i bucket page rest so_far true same own others is total visit =
    let id = (shard_at mid 0).id in
    let h = whole mid in
    let es = left_of_bucket h bucket page in
    let lt = is.0 refl in
    let last = last_page (take MAX_ENTRIES es) in
    let later : left_of_bucket h bucket last ≡ drop MAX_ENTRIES es = left_behind MAX_ENTRIES 999 h bucket page (IsHistory-history (held mid)) refl lt in
    record {
      same = same;
      plan = at_shard i (sending bucket last) ∷ rest;
      so_far = so_far ++ Entries id h.horizon (take MAX_ENTRIES es) ∷ [];
      stopped = false;
      visit = visit ∙ ap (λ m. visit_at id (length mid) (at_shard i (sending bucket last) ∷ rest) m after false) (with_more so_far id h.horizon es lt);
      own = (own, others);
      total = ap (λ fs. (so_far ++ Entries id h.horizon (take MAX_ENTRIES es) ∷ []) ++ (entry_messages id h.horizon fs ++ all_brought id h rest)) later
          ∙ then_more so_far (all_brought id h rest) id h.horizon es lt
          ∙ total;
    }
sends_portion mid all after y i bucket page rest so_far false same own others is total visit =
    let id = (shard_at mid 0).id in
    let h = whole mid in
    let es = left_of_bucket h bucket page in
    let few : length es ≤ MAX_ENTRIES = not_later false MAX_ENTRIES (length es) refl is.1 in
    record {
      same = same;
      plan = rest;
      so_far = so_far ++ messages_left id h bucket page;
      stopped = false;
      visit = visit ∙ ap (λ m. visit_at id (length mid) rest m after false) (with_last so_far id h.horizon es few);
      own = others;
      total = append_assoc so_far (messages_left id h bucket page) (all_brought id h rest) ∙ total;
    }

-- ---- one entry

sends_at : (mid : List NodeState) (all : List Message) (after : After) → AreShards mid
    → (s y : Alone) (have : Sends mid all after s) (i : ℕ) (ask : Ask) (rest : List Errand)
    → (said : Said) → have.stopped ≡ false
    → NodeSays (shard_at s.shards i) ask said (shard_at y.shards i)
    → Takes (visit_at (shard_at mid 0).id (length mid) have.plan (answered have.so_far) after have.stopped) i ask rest said y.visit
    → y.shards ≡ set s.shards i (shard_at y.shards i) → IsOwnSend (length mid) i ask
    → AreOwnSends (length mid) rest
    → have.so_far ++ (brought (shard_at mid 0).id (whole mid) ask
    ++ all_brought (shard_at mid 0).id (whole mid) rest) ≡ all → Sends mid all after y
sends_at mid all after are s y have i (sending bucket page) rest said ready says takes set_to own others total =
    let id = (shard_at mid 0).id in
    let v = visit_at id (length mid) have.plan (answered have.so_far) after have.stopped in
    let lt : i < length mid = omega (arith, own, some_shards mid are) in
    let there : i < length s.shards = omega (arith, lt, have.same.count) in
    elim (sending_said (shard_at s.shards i) (shard_at y.shards i) bucket page said says) [
      | inl (message, more, is, sent_is, more_is, same) ↦
          let M : message ≡ Entries id (whole mid).horizon (take MAX_ENTRIES (left_of_bucket (whole mid) bucket page)) = sent_is ∙ sent_of_whole mid s.shards i bucket page are lt own have.same in
          let follow : IsTrue more ↔ MAX_ENTRIES < length (left_of_bucket (whole mid) bucket page) = subst (λ T. IsTrue more ↔ T) (more_of_whole mid s.shards i bucket page are lt own have.same) more_is in
          let visit : y.visit ≡ onward v (goes_on i bucket message more ++ rest) (with_message (answered have.so_far) message) = subst (λ x. Takes v i (sending bucket page) rest x y.visit) is takes in
          sends_portion mid all after y i bucket page rest have.so_far more (same_read mid s.shards y.shards i there have.same set_to same) own others follow total
          (visit ∙ (λ j. visit_at id (length mid) (goes_on i bucket (M j) more ++ rest) (with_message (answered have.so_far) (M j)) after (ready j)))
      | inr (is, same) ↦
          let visit : y.visit ≡ record v { stopped = true } = subst (λ x. Takes v i (sending bucket page) rest x y.visit) is takes in
          record {
            same = same_read mid s.shards y.shards i there have.same set_to same;
            plan = have.plan;
            so_far = have.so_far;
            stopped = true;
            visit = visit;
            own = have.own;
            total = have.total;
          }
    ]
sends_at mid all after are s y have i ask rest said ready says takes set_to own others total = absurd own

pub sends_on : (mid : List NodeState) (all : List Message) (after : After) → AreShards mid
    → (s y : Alone) (e : Errand) (said : Said) → Sends mid all after s → EntersAlone s e said y
    → Sends mid all after y
sends_on mid all after are s y e said have (enters, set_to) =
    let id = (shard_at mid 0).id in
    let n = shard_at s.shards e.shard in
    let m = shard_at y.shards e.shard in
    let v = visit_at id (length mid) have.plan (answered have.so_far) after have.stopped in
    let here : Enters v n e said y.visit m = subst (λ (x : VisitState). Enters x n e said y.visit m) have.visit enters in
    let own : AreOwnSends (length mid) (e ∷ here.rest) = subst (AreOwnSends (length mid)) here.next have.own in
    let total : have.so_far ++ all_brought id (whole mid) (e ∷ here.rest) ≡ all = subst (λ es. have.so_far ++ all_brought id (whole mid) es ≡ all) here.next have.total in
    sends_at mid all after are s y have e.shard e.ask here.rest said here.ready here.says here.takes set_to own.0 own.1 total

-- ---- the first one

own_sends : (count : ℕ) (bs : List ℕ)
    → AreOwnSends count (map (λ b. at_shard (b % count) (sending b None)) bs)
own_sends count [] = tt
own_sends count (b ∷ bs) = (refl, own_sends count bs)

brings_buckets : (count id : ℕ) (h : HistoryView) (bs : List ℕ)
    → all_brought id h (map (λ b. at_shard (b % count) (sending b None)) bs)
    ≡ flat_map (bucket_messages id h) bs
brings_buckets count id h [] = refl
brings_buckets count id h (b ∷ bs) =
    λ j. messages_first id h b j ++ brings_buckets count id h bs j

-- a visit begins to send buckets
pub sends_first : (mid ns : List NodeState) (request : ℕ) (after : After) → SameShards mid ns
    → (s : Alone) → s.shards ≡ ns
    → s.visit ≡ visit_at (shard_at mid 0).id (length mid) (send_plan (length mid) request) (answered []) after false
    → Sends mid (requested_messages (shard_at mid 0).id (whole mid) request) after s
sends_first mid ns request after same s at visit = record {
  same = subst (SameShards mid) (sym at) same;
  plan = send_plan (length mid) request;
  so_far = [];
  stopped = false;
  visit = visit;
  own = own_sends (length mid) (requested_buckets request);
  total = brings_buckets (length mid) (shard_at mid 0).id (whole mid) (requested_buckets request);
}

-- ---- the last one

-- all is sent
pub all_sent : (mid : List NodeState) (all : List Message) (after : After) (t : Alone)
    → Sends mid all after t → next_shard t.visit ≡ None → t.visit.stopped ≡ false
    → answers_of t.visit.made t.visit.after ≡ answers_of (answered all) after
all_sent mid all after t have over going =
    let id = (shard_at mid 0).id in
    let here : have.stopped ≡ false = ap (λ (x : VisitState). x.stopped) (sym have.visit) ∙ going in
    let none : have.plan ≡ [] = no_errand have.stopped have.plan here (ap next_shard (sym have.visit) ∙ over) in
    let done : have.so_far ≡ all = sym (append-nil have.so_far) ∙ ap (λ es. have.so_far ++ all_brought id (whole mid) es) (sym none) ∙ have.total in
    ap (λ (x : VisitState). answers_of x.made x.after) have.visit ∙ ap (λ ms. answers_of (answered ms) after) done
