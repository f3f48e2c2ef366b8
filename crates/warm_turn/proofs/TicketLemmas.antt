-- The first pass of the rule: each step keeps the words and the slot in turn.
use Rattle.std.proofs.Common.{◌≡◌, ◌≢◌, ℕ, ◌+◌, ◌%◌, ◌^◌, ◌<◌, ◌≤◌, List, [], ◌∷◌, ◌++◌, length, get_or, set, Option, Some, true, false, refl, sym, ap, ◌∙◌, subst, inl, inr, ⊎_elim, arith, le_refl, length-set, get_or-set_other, get_or-set_same}
use mathlib.Core.Logic.{dite}
use mathlib.Core.Option.{some}
use mathlib.Core.Option as maybe
use native.Mathlib.Decide.{ℕ_discrete}
use lib.ListN.{get_elem?}
use lib.Seq.{set-get_or}
use Rattle.atomic_table.specs.Table.{State, keeps, stepped, opening}
use Rattle.atomic_table.proofs.Lists.{at_longer, set_else, set_here}
use Rattle.warm_machine.specs.declared.operation.Operation.{Operation}
use Rattle.warm_turn.specs.declared.table.View.{View}
use Rattle.warm_turn.specs.declared.table.CellContents.{CellContents}
use Rattle.warm_turn.specs.CallHistories.{nobody, first_pass}
use Rattle.warm_turn.specs.Steps.{waiting, server, after_call}
use Rattle.warm_turn.specs.Rule.{ticket_word, serving_word, IsQueued, IsHeld, HomeOrOut, InTurn}
use Rattle.warm_turn.proofs.ListLemmas.{off, same_at, now_at, at_end, one_member, each_set, put, put_here, put_else}

module _ {X C R : Type 0} where
  -- what the words say of a seat that has no ticket and no mark
  pub idle_queued : (t n : ℕ) (taker : ℕ → ℕ) (j : ℕ) (v : View X C R) → v.waits ≡ false
      → v.serves ≡ false → v.found_last ≡ false → IsQueued t n taker j v
  idle_queued t n taker j v idle rests unmarked = record {
    ticket = λ h. off h idle;
    serving = λ h. off h rests;
    full = λ h. off h unmarked;
  }

  -- what the words say of a seat depends only on its ticket and its marks
  pub same_queued : (t n : ℕ) (taker : ℕ → ℕ) (j : ℕ) (v w : View X C R) → v.owns ≡ w.owns
      → v.waits ≡ w.waits → v.serves ≡ w.serves → v.found_last ≡ w.found_last → v.ticket ≡ w.ticket
      → IsQueued t n taker j v → IsQueued t n taker j w
  same_queued t n taker j v w owns waits serves found ticket q = record {
    ticket = λ h. let k = q.ticket (waits ∙ h) in (sym owns ∙ k.0, subst (λ z. n ≤ z) ticket k.1, subst (λ z. z < t) ticket k.2, ap taker (sym ticket) ∙ k.3);
    serving = λ h. let k = q.serving (serves ∙ h) in (sym waits ∙ k.0, sym ticket ∙ k.1);
    full = λ h. q.full (found ∙ h);
  }

  -- a seat that keeps its ticket may change the rest of its view
  held_set : (vs : List (View X C R)) (me : ℕ) (v w : View X C R) → get_elem? vs me ≡ some v
      → (v.waits ≡ true → (w.waits ≡ true) × (w.ticket ≡ v.ticket)) → (j k : ℕ) → IsHeld vs j k
      → IsHeld (set vs me w) j k
  held_set vs me v w at waits j k h = dite (ℕ_discrete j me)
      (λ (e : j ≡ me). let same : h.0 ≡ v = same_at vs me h.0 v (subst (λ i. get_elem? vs i ≡ some h.0) e h.1) at in
      let t = waits (ap (λ (u : View X C R). u.waits) (sym same) ∙ h.2) in
      (w, subst (λ i. get_elem? (set vs me w) i ≡ some w) (sym e) (now_at vs me v w at), t.0, t.1 ∙ (ap (λ (u : View X C R). u.ticket) (sym same) ∙ h.3)))
      (λ (n : j ≢ me). (h.0, set_else vs me j w n ∙ h.1, h.2, h.3))

module _ {M X C R : Type 0} where
  -- a seat that has the machine has the served ticket
  pub away_below : (s : State (Option (CellContents M C R)) (View X C R)) (r : InTurn s) (j : ℕ)
      (u : View X C R) → get_elem? s.views j ≡ some u → u.serves ≡ true
      → (serving_word s < ticket_word s) × (r.taker (serving_word s) ≡ j)
  away_below s r j u at serves =
      let f = r.each j u at in
      let t = f.serving serves in
      let k = f.ticket t.0 in
      (subst (λ z. z < ticket_word s) t.1 k.2, ap r.taker (sym t.1) ∙ k.3)

  -- no two seats have the machine
  pub alone : (s : State (Option (CellContents M C R)) (View X C R)) (r : InTurn s) (i j : ℕ)
      (v u : View X C R) → get_elem? s.views i ≡ some v → v.serves ≡ true
      → get_elem? s.views j ≡ some u → u.serves ≡ true → j ≡ i
  alone s r i j v u at serves at' serves' = sym (away_below s r j u at' serves').1 ∙ (away_below s r i v at serves).1

  -- a seat that still has the machine may change the rest of its view
  home_set : (q : ℕ) (homes : List (maybe.Option (Option (CellContents M C R))))
      (vs : List (View X C R)) (me : ℕ) (v w : View X C R) → get_elem? vs me ≡ some v
      → (v.serves ≡ true → w.serves ≡ true) → HomeOrOut q homes vs → HomeOrOut q homes (set vs me w)
  home_set q homes vs me v w at serves h = ⊎_elim (λ a. inl a) (λ a. inr (dite (ℕ_discrete q me)
      (λ (e : q ≡ me). let same : a.0 ≡ v = same_at vs me a.0 v (subst (λ k. get_elem? vs k ≡ some a.0) e a.2) at in
      (w, a.1, subst (λ k. get_elem? (set vs me w) k ≡ some w) (sym e) (now_at vs me v w at), serves (ap (λ (u : View X C R). u.serves) (sym same) ∙ a.3)))
      (λ (n : q ≢ me). (a.0, a.1, set_else vs me q w n ∙ a.2, a.3)))) h

  -- a view alone is changed
  pub changes : (s : State (Option (CellContents M C R)) (View X C R)) (r : InTurn s) (me : ℕ)
      (v w : View X C R) → get_elem? s.views me ≡ some v → (v.serves ≡ true → w.serves ≡ true)
      → (v.waits ≡ true → (w.waits ≡ true) × (w.ticket ≡ v.ticket))
      → IsQueued (ticket_word s) (serving_word s) r.taker me w
      → InTurn record { words = s.words; homes = s.homes; views = set s.views me w }
  changes s r me v w at serves waits mine = record {
    taker = r.taker;
    two = r.two;
    one = r.one;
    order = r.order;
    small = r.small;
    home = home_set (r.taker (serving_word s)) s.homes s.views me v w at serves r.home;
    each = each_set (IsQueued (ticket_word s) (serving_word s) r.taker) s.views me w mine (λ j u n e. r.each j u e);
    held = λ k le lt. held_set s.views me v w at waits (r.taker k) k (r.held k le lt);
  }

  -- a step that changes a view alone
  pub stays : (s : State (Option (CellContents M C R)) (View X C R)) (r : InTurn s) (i me : ℕ)
      (cs : List (ℕ × Option (CellContents M C R))) (v w : View X C R)
      → get_elem? s.views me ≡ some v → (v.serves ≡ true → w.serves ≡ true)
      → (v.waits ≡ true → (w.waits ≡ true) × (w.ticket ≡ v.ticket))
      → IsQueued (ticket_word s) (serving_word s) r.taker me w
      → InTurn (stepped s i (get_or s.words i 0) me cs w keeps)
  stays s r i me cs v w at serves waits mine = subst (λ (ws : List ℕ). InTurn record { words = ws; homes = s.homes; views = set s.views me w }) (sym (set-get_or s.words i 0)) (changes s r me v w at serves waits mine)

  -- the rule, at words that are known
  makes : (ws : List ℕ) (homes : List (maybe.Option (Option (CellContents M C R))))
      (vs : List (View X C R)) (t n : ℕ) → get_or ws 0 0 ≡ t → get_or ws 1 0 ≡ n → length ws ≡ 2
      → length homes ≡ 1 → n ≤ t → t < 2 ^ 64
      → (taker : ℕ → ℕ) → HomeOrOut (taker n) homes vs
      → ((j : ℕ) (u : View X C R) → get_elem? vs j ≡ some u → IsQueued t n taker j u)
      → ((k : ℕ) → n ≤ k → k < t → IsHeld vs (taker k) k)
      → InTurn record { words = ws; homes = homes; views = vs }
  makes ws homes vs t n et en two one le small taker home each held = record {
    taker = taker;
    two = two;
    one = one;
    order = subst (λ (z : ℕ × ℕ). z.1 ≤ z.0) (λ i. (sym et i, sym en i)) le;
    small = subst (λ (z : ℕ). z < 2 ^ 64) (sym et) small;
    home = subst (λ (z : ℕ). HomeOrOut (taker z) homes vs) (sym en) home;
    each = subst (λ (z : ℕ × ℕ). (j : ℕ) (u : View X C R) → get_elem? vs j ≡ some u → IsQueued z.0 z.1 taker j u) (λ i. (sym et i, sym en i)) each;
    held = subst (λ (z : ℕ × ℕ). (k : ℕ) → z.1 ≤ k → k < z.0 → IsHeld vs (taker k) k) (λ i. (sym et i, sym en i)) held;
  }

  -- the next ticket is taken
  pub takes_ticket : (s : State (Option (CellContents M C R)) (View X C R)) (r : InTurn s) (me : ℕ)
      (cs : List (ℕ × Option (CellContents M C R))) (v : View X C R) → get_elem? s.views me ≡ some v
      → v.owns ≡ true → v.waits ≡ false → v.serves ≡ false
      → (new : ℕ) → new ≡ ticket_word s + 1 → new < 2 ^ 64
      → InTurn (stepped s 0 new me cs (waiting v (ticket_word s)) keeps)
  takes_ticket s r me cs v at owns idle rests new up small =
      let t : ℕ = ticket_word s in
      let n : ℕ = serving_word s in
      let w : View X C R = waiting v t in
      let vs : List (View X C R) = set s.views me w in
      let taker : ℕ → ℕ = put r.taker t me in
      let f = r.each me v at in
      let two = r.two in
      let le = r.order in
      makes (set s.words 0 new) s.homes vs (t + 1) n (get_or-set_same s.words 0 new 0 (omega arith) ∙ up) (get_or-set_other s.words 0 1 new 0 (λ e. omega arith))
      (length-set s.words 0 new ∙ two) r.one (omega arith) (omega arith) taker
      (⊎_elim (λ a. inl a)
      (λ a. let b = away_below s r (r.taker n) a.0 a.2 a.3 in let l = b.0 in
      subst (λ (q : ℕ). HomeOrOut q s.homes vs) (sym (put_else r.taker t me n (λ e. omega arith))) (home_set (r.taker n) s.homes s.views me v w at (λ h. off h rests) (inr a)))
      r.home)
      (each_set (IsQueued (t + 1) n taker) s.views me w
      record {
        ticket = λ h. (owns, le, omega arith, put_here r.taker t me t refl);
        serving = λ h. off h rests;
        full = λ h. let z = f.full h in absurd (omega arith);
      }
      (λ j u other e.
      let g = r.each j u e in
      record {
        ticket = λ h. let z = g.ticket h in let l = z.2 in (z.0, z.1, omega arith, put_else r.taker t me u.ticket (λ b. omega arith) ∙ z.3);
        serving = g.serving;
        full = λ h. let z = g.full h in absurd (omega arith);
      }))
      (λ k least most. dite (ℕ_discrete k t)
      (λ (e : k ≡ t). (w, subst (λ j. get_elem? vs j ≡ some w) (sym (put_here r.taker t me k e)) (now_at s.views me v w at), refl, sym e))
      (λ (n' : k ≢ t). subst (λ j. IsHeld vs j k) (sym (put_else r.taker t me k n')) (held_set s.views me v w at (λ h. off h idle) (r.taker k) k (r.held k least (omega arith)))))

  -- the holder of the served ticket takes the machine
  pub takes_machine : (s : State (Option (CellContents M C R)) (View X C R)) (r : InTurn s) (me : ℕ)
      (v : View X C R) (h : CellContents M C R) (log : List (Operation C R)) (x : X)
      → get_elem? s.views me ≡ some v → v.waits ≡ true → serving_word s ≡ v.ticket
      → get_elem? s.homes 0 ≡ some (some (Some h))
      → InTurn record {
        words = set s.words 1 (get_or s.words 1 0);
        homes = set s.homes 0 maybe.none;
        views = set s.views me (server v log x);
      }
  takes_machine s r me v h log x at waits mine home =
      let w : View X C R = server v log x in
      let vs : List (View X C R) = set s.views me w in
      let f = r.each me v at in
      let k = f.ticket waits in
      subst (λ (ws : List ℕ). InTurn record { words = ws; homes = set s.homes 0 maybe.none; views = vs }) (sym (set-get_or s.words 1 0)) record {
        taker = r.taker;
        two = r.two;
        one = length-set s.homes 0 maybe.none ∙ r.one;
        order = r.order;
        small = r.small;
        home = inr (
          w,
          now_at s.homes 0 (some (Some h)) maybe.none home,
          subst (λ q. get_elem? vs q ≡ some w) (sym (ap r.taker mine ∙ k.3)) (now_at s.views me v w at),
          refl,
        );
        each = each_set (IsQueued (ticket_word s) (serving_word s) r.taker) s.views me w
            record {
              ticket = f.ticket;
              serving = λ _. (waits, sym mine);
              full = f.full;
            }
            (λ j u other e. r.each j u e);
        held = λ k le lt. held_set s.views me v w at (λ h. (h, refl)) (r.taker k) k (r.held k le lt);
      }

  -- the holder of the served ticket gives the machine back, and the next ticket is served
  pub passes_on : (s : State (Option (CellContents M C R)) (View X C R)) (r : InTurn s) (me : ℕ)
      (v : View X C R) (h : CellContents M C R) (e : Operation C R) → get_elem? s.views me ≡ some v
      → v.serves ≡ true
      → InTurn record {
        words = set s.words 1 ((serving_word s + 1) % 2 ^ 64);
        homes = set s.homes 0 (some (Some h));
        views = set s.views me (after_call v e);
      }
  passes_on s r me v h e at serves =
      let t : ℕ = ticket_word s in
      let n : ℕ = serving_word s in
      let w : View X C R = after_call v e in
      let vs : List (View X C R) = set s.views me w in
      let f = r.each me v at in
      let two = r.two in
      let one = r.one in
      let le = r.order in
      let small = r.small in
      let below : n < t = (away_below s r me v at serves).0 in
      let seat : r.taker n ≡ me = (away_below s r me v at serves).1 in
      let up : (n + 1) % 2 ^ 64 ≡ n + 1 = omega arith in
      makes (set s.words 1 ((n + 1) % 2 ^ 64)) (set s.homes 0 (some (Some h))) vs t (n + 1)
      (get_or-set_other s.words 1 0 ((n + 1) % 2 ^ 64) 0 (λ z. omega arith)) (get_or-set_same s.words 1 ((n + 1) % 2 ^ 64) 0 (omega arith) ∙ up)
      (length-set s.words 1 ((n + 1) % 2 ^ 64) ∙ two) (length-set s.homes 0 (some (Some h)) ∙ one) (omega arith) small r.taker
      (inl (h, set_here s.homes 0 (some (Some h)) (omega arith)))
      (each_set (IsQueued t (n + 1) r.taker) s.views me w
      record {
        ticket = λ no. off no refl;
        serving = λ no. off no refl;
        full = f.full;
      }
      (λ j u other at'.
      let g = r.each j u at' in
      record {
        ticket = λ waits'. let z = g.ticket waits' in let least = z.1 in let apart : u.ticket ≢ n = (λ q. other (sym z.3 ∙ (ap r.taker q ∙ seat))) in (z.0, omega arith, z.2, z.3);
        serving = λ serves'. absurd (other (alone s r me j v u at serves at' serves'));
        full = g.full;
      }))
      (λ k least most.
      let g = r.held k (omega arith) most in
      let own = (f.serving serves).1 in
      let apart : r.taker k ≢ me = λ e. let same : g.0 ≡ v = same_at s.views me g.0 v (subst (λ j. get_elem? s.views j ≡ some g.0) e g.1) at in
      let is : v.ticket ≡ k = ap (λ (u : View X C R). u.ticket) (sym same) ∙ g.3 in omega arith in
      (g.0, set_else s.views me (r.taker k) w apart ∙ g.1, g.2, g.3))

  -- one more ticket is served
  pub serves_next : (s : State (Option (CellContents M C R)) (View X C R)) (r : InTurn s) (me : ℕ)
      (v : View X C R) → get_elem? s.views me ≡ some v → v.serves ≡ true
      → get_or (set s.words 1 ((serving_word s + 1) % 2 ^ 64)) 1 0 ≡ serving_word s + 1
  serves_next s r me v at serves =
      let n : ℕ = serving_word s in
      let two = r.two in
      let small = r.small in
      let below : n < ticket_word s = (away_below s r me v at serves).0 in
      let up : (n + 1) % 2 ^ 64 ≡ n + 1 = omega arith in
      get_or-set_same s.words 1 ((n + 1) % 2 ^ 64) 0 (omega arith) ∙ up

  -- a new seat has no ticket
  pub enters : (s : State (Option (CellContents M C R)) (View X C R)) (r : InTurn s)
      (w : View X C R) → w.waits ≡ false → w.serves ≡ false → w.found_last ≡ false
      → InTurn record { words = s.words; homes = s.homes; views = s.views ++ w ∷ [] }
  enters s r w idle rests unmarked =
      record {
        taker = r.taker;
        two = r.two;
        one = r.one;
        order = r.order;
        small = r.small;
        home = ⊎_elim (λ a. inl a) (λ a. inr (a.0, a.1, at_longer s.views (w ∷ []) (r.taker (serving_word s)) a.0 a.2, a.3)) r.home;
        each = λ j u e. ⊎_elim
            (λ (old : get_elem? s.views j ≡ some u). r.each j u old)
            (λ (new : (j ≡ length s.views) × (w ≡ u)).
            subst (λ (z : View X C R). IsQueued (ticket_word s) (serving_word s) r.taker j z) new.1 (idle_queued (ticket_word s) (serving_word s) r.taker j w idle rests unmarked))
            (at_end s.views w u j e);
        held = λ k le lt. let h = r.held k le lt in (h.0, at_longer s.views (w ∷ []) (r.taker k) h.0 h.1, h.2, h.3);
      }

  -- a seat that does not have the machine is used up, and another seat changes only what it has
  -- learned
  pub merges : (s : State (Option (CellContents M C R)) (View X C R)) (r : InTurn s) (me other : ℕ)
      (v u w : View X C R) → get_elem? s.views me ≡ some v
      → get_elem? (set s.views me w) other ≡ some u → u.waits ≡ false → u.serves ≡ false
      → (v.serves ≡ true → w.serves ≡ true)
      → (v.waits ≡ true → (w.waits ≡ true) × (w.ticket ≡ v.ticket))
      → IsQueued (ticket_word s) (serving_word s) r.taker me w
      → InTurn record {
        words = s.words;
        homes = s.homes;
        views = set (set s.views me w) other nobody;
      }
  merges s r me other v u w at there idle rests serves waits mine =
      let vs : List (View X C R) = set s.views me w in
      let P = IsQueued (ticket_word s) (serving_word s) r.taker in
      record {
        taker = r.taker;
        two = r.two;
        one = r.one;
        order = r.order;
        small = r.small;
        home = home_set (r.taker (serving_word s)) s.homes vs other u nobody there (λ h. off h rests) (home_set (r.taker (serving_word s)) s.homes s.views me v w at serves r.home);
        each = each_set P vs other nobody (idle_queued (ticket_word s) (serving_word s) r.taker other nobody refl refl refl)
            (λ j z n e. each_set P s.views me w mine (λ i y n' e'. r.each i y e') j z e);
        held = λ k le lt. held_set vs other u nobody there (λ h. off h idle) (r.taker k) k (held_set s.views me v w at waits (r.taker k) k (r.held k le lt));
      }

  pub begins : (h : CellContents M C R) (o : X)
      → InTurn (opening (0 ∷ 0 ∷ []) (Some h ∷ []) (first_pass o))
  begins h o = record {
    taker = λ _. 0;
    two = refl;
    one = refl;
    order = le_refl 0;
    small = omega arith;
    home = inl (h, refl);
    each = λ j u e. subst (λ (z : View X C R). IsQueued 0 0 (λ _. 0) j z) (one_member (first_pass o) u j e) (idle_queued 0 0 (λ _. 0) j (first_pass o) refl refl refl);
    held = λ k le lt. absurd (omega arith);
  }
