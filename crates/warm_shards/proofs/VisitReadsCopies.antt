-- A visit that copies the history of each shard, and that nobody interrupts.
use Rattle.std.proofs.Common.{◌≡◌, inl, inr, ℕ, ◌+◌, ◌<◌, ◌≤◌, Bool, true, false, List, length, take, refl, sym, ap, subst, ◌∙◌, arith, add-one}
use Rattle.std.specs.Prelude.{None}
use Rattle.std.proofs.lemmas.List.{take_all}
use Rattle.warm_history.specs.Histories.{HistoryView, join}
use Rattle.warm_gossip.specs.State.{NodeState}
use Rattle.warm_shards.specs.Clauses.{SameShards}
use Rattle.warm_shards.specs.Shards.{shard_at, whole}
use Rattle.warm_shards.specs.VisitLaws.{Alone, EntersAlone}
use Rattle.warm_visits.specs.Visits.{Errand, Said, Takes, VisitState}
use Rattle.warm_visits.specs.Visits.{copying, ends, joined, next_shard, onward}
use Rattle.warm_shards.proofs.Calls.{same_histories}
use Rattle.warm_shards.proofs.WholeLemmas.{whole_more}
use Rattle.warm_visits.specs.Plans.{from_shard}
use Rattle.warm_shards.proofs.VisitReads.{EntersAt, all_there, copying_said, enters_at, next_there, same_read, visit_at}
use Rattle.warm_visits.proofs.ErrandLemmas.{errand_here}

-- the visit has the histories of the first k shards
abbrev pub copies_visit : List NodeState → ℕ → Bool → VisitState
copies_visit old k stopped =
    visit_at (shard_at old 0).id (length old) (from_shard k (length old) copying) (joined (whole (take k old))) ends stopped

-- The first k shards are copied, and the visit has the others left; or one has refused.
pub record Copies (old : List NodeState) (s : Alone) : Type 0 where
  pub k : ℕ
  pub within : k ≤ length old
  pub same : SameShards old s.shards
  pub stopped : Bool
  pub visit : s.visit ≡ copies_visit old k stopped

copies_at : (old : List NodeState) → (s y : Alone) (said : Said) (have : Copies old s)
    → have.k < length old
    → EntersAt (copies_visit old have.k have.stopped) s.shards have.k copying (from_shard (have.k + 1) (length old) copying) said y
    → Copies old y
copies_at old s y said have lt here =
    let k = have.k in
    let count = length old in
    let later = from_shard (k + 1) count copying in
    let v = copies_visit old k have.stopped in
    let there : k < length s.shards = omega (arith, lt, have.same.count) in
    elim (copying_said (shard_at s.shards k) (shard_at y.shards k) said here.says) [
      | inl (h, is, at, same) ↦
          let takes : y.visit ≡ onward v later (joined (join (whole (take k old)) h)) = subst (λ x. Takes v k copying later x y.visit) is here.takes in
          let whole_is : join (whole (take k old)) h ≡ whole (take (k + 1) old) =
          ap (λ (g : HistoryView). join (whole (take k old)) g) (at ∙ same_histories old s.shards have.same k)
          ∙ sym (whole_more old k lt)
          ∙ ap (λ (x : ℕ). whole (take x old)) (sym (add-one k)) in
          record {
            k = k + 1;
            within = omega (arith, lt);
            same = same_read old s.shards y.shards k there have.same here.changed same;
            stopped = have.stopped;
            visit = takes ∙ ap (λ (g : HistoryView). visit_at (shard_at old 0).id count later (joined g) ends have.stopped) whole_is;
          }
      | inr (is, same) ↦
          let visit : y.visit ≡ record v { stopped = true } = subst (λ x. Takes v k copying later x y.visit) is here.takes in
          record {
            k = k;
            within = have.within;
            same = same_read old s.shards y.shards k there have.same here.changed same;
            stopped = true;
            visit = visit;
          }
    ]

pub copies_on : (old : List NodeState) (s y : Alone) (e : Errand) (said : Said) → Copies old s
    → EntersAlone s e said y → Copies old y
copies_on old s y e said have entered =
    let count = length old in
    let v = copies_visit old have.k have.stopped in
    let lt : have.k < count = next_there s y e said v have.k count copying have.visit refl have.within entered in
    copies_at old s y said have lt (enters_at s y e said v have.k copying (from_shard (have.k + 1) count copying) have.visit (errand_here have.k count copying lt) entered)

-- all are copied
pub all_copied : (old : List NodeState) (t : Alone) → Copies old t → next_shard t.visit ≡ None
    → t.visit.stopped ≡ false → t.visit.made ≡ joined (whole old)
all_copied old t have over going =
    let here : have.stopped ≡ false = ap (λ (x : VisitState). x.stopped) (sym have.visit) ∙ going in
    let all : have.k ≡ length old = all_there have.k (length old) copying have.stopped have.within here (ap next_shard (sym have.visit) ∙ over) in
    ap (λ (x : VisitState). x.made) have.visit
    ∙ ap (λ ns. joined (whole ns)) (take_all have.k old (omega (arith, all)))
