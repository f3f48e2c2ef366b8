-- Runs one after the other, and what a fan-out of jobs and a closed turn say together.
use Rattle.std.proofs.Common.{◌≡◌, suc, List, [], ◌∷◌, ◌++◌, map, sym, subst, arith}
use Rattle.std.specs.Global.{Vec}
use Rattle.std.specs.List.{All}
use mathlib.Core.Option.{some}
use lib.ListN.{get_elem?}
use Rattle.warm_turn.specs.declared.table.View.{View}
use Rattle.warm_machine.specs.Runs.{Runs}
use Rattle.warm_turn.specs.CallHistories.{IsLast, first_pass}
use Rattle.warm_gossip.specs.declared.call.Call.{Call}
use Rattle.warm_gossip.specs.declared.call.Reply.{Reply}
use Rattle.warm_replica.specs.declared.job.Job.{Job}
use Rattle.warm_replica.specs.Jobs.{Calls, JobsWent}
use Rattle.warm_replica.specs.Pairs.{Pairs}
use Rattle.warm_replica.specs.Replied.{AreTaken, Replied}
use Rattle.warm_threads.specs.Exchanges.{SendsAll, IsReceipt}
use Rattle.warm_threads.specs.Works.{LeadsBy, Works, WentOn, Went}
use Rattle.warm_threads.proofs.PairLemmas.{pairs_then, triples_of}

module _ {X : Type 0} (goes : X → Call → Reply → X → Type 0) where
  pub runs_then : (x y z : X) (first second : Calls) → Runs goes x first y → Runs goes y second z
      → Runs goes x (first ++ second) z
  runs_then x y z [] second h g = subst (λ w. Runs goes w second z) (sym h) g
  runs_then x y z (e ∷ es) second h g = (h.0, h.1, runs_then h.0 y z es second h.2 g)

  -- jobs that were run from the opening of a turn on, and a machine that the turn gave back
  pub jobs_work : (x z : X) (w : View X Call Reply) (jobs : List Job) (replies : List Replied)
      → JobsWent (first_pass x) jobs replies w → All AreTaken replies → IsLast goes x w z
      → Works goes jobs x z
  jobs_work x z w jobs replies went taken last =
      let fan = went.0 in
      let more = went.1 in
      let held : w.ended ≡ fan ∷ more = went.2.ended in
      record {
        calls = last.history;
        runs = last.reaches;
        replies = replies;
        taken = taken;
        workers = more;
        each = went.4;
        stand = λ k e at. last.others (suc k) e (subst (λ es. get_elem? es (suc k) ≡ some e) (sym held) at);
        apart = λ a b e f at bt same. omega (arith, last.legal.apart (suc a) (suc b) e f (subst (λ es. get_elem? es (suc a) ≡ some e) (sym held) at) (subst (λ es. get_elem? es (suc b) ≡ some f) (sym held) bt) same);
      }

  -- a machine that has sent and received
  record Exchanged (x z : X) : Type 0 where
    shared : X
    sends : LeadsBy goes SendsAll x shared
    receives : LeadsBy goes (All IsReceipt) shared z

  -- runs of these machines and jobs that have worked, and machines that have sent and received
  -- since
  pub went_all : {C K H M : Type 0} (view : M → X) (first : List M) (lists : List (Vec Job))
      (cs : List C) (ks : List K) (hs : List H) (ms : List M)
      → (machine : C → M) (jobs : C → Vec Job) (known : K → M) (heard : H → M)
      → map machine cs ≡ first → map jobs cs ≡ lists
      → Pairs (λ r k. Works goes (jobs r).items (view (machine r)) (view (known k))) cs ks
      → Pairs (λ k h. LeadsBy goes SendsAll (view (known k)) (view (heard h))) ks hs
      → Pairs (λ h m. LeadsBy goes (All IsReceipt) (view (heard h)) (view m)) hs ms
      → Went goes (map view first) lists (map view ms)
  went_all {C} {K} {H} {M} view first lists cs ks hs ms machine jobs known heard are have worked sent received =
      let led : Pairs (λ (k : K) (m : M). Exchanged (view (known k)) (view m)) ks ms =
      pairs_then _ _ _ (λ k h m a b. record { shared = view (heard h); sends = a; receives = b }) ks hs ms sent received in
      let went : Pairs (λ (r : C) (m : M). WentOn goes (jobs r).items (view (machine r)) (view m)) cs ms =
      pairs_then _ _ _ (λ r k m a b. record { worked = view (known k); shared = b.shared; works = a; sends = b.sends; receives = b.receives }) cs ks ms worked led in
      subst (λ (zs : List M). Went goes (map view zs) lists (map view ms)) are
      (subst (λ (ls : List (Vec Job)). Went goes (map view (map machine cs)) ls (map view ms)) have
      (triples_of (λ x list z. WentOn goes list.items x z) view machine jobs view cs ms went))
