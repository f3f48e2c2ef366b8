-- Each step keeps the three passes of the rule, and its seat learns what it says.
use Rattle.std.proofs.Common.{◌≡◌, ◌≢◌, ℕ, ◌+◌, ◌%◌, ◌^◌, ◌<◌, ◌≤◌, eqb, List, [], ◌∷◌, length, get_or, ◌++◌, set, Option, Some, Bool, true, false, refl, sym, ap, ◌∙◌, subst, ⊎_elim, arith, eq-eqb, ne_eqb, get_or-set_other}
use mathlib.Core.Logic.{dite}
use mathlib.Core.Option.{some}
use mathlib.Core.Option as maybe
use mathlib.Core.List.{IsPrefix}
use native.Mathlib.Decide.{ℕ_discrete}
use lib.ListN.{get_elem?}
use lib.Seq.{set-get_or, set-set}
use Rattle.atomic_table.proofs.Lists.{set_again, set_else}
use Rattle.std.proofs.lemmas.Option.{same_Some}
use Rattle.warm_turn.specs.declared.fault.Busy.{Busy}
use prog.Atomic.{either}
use Rattle.atomic_table.specs.Table.{State, Me, step, keeps, takes, gives, stepped, Allows, Enters, Splits, Joins, Final, Seen, opening}
use Rattle.warm_machine.specs.declared.operation.Operation.{Operation}
use Rattle.warm_turn.specs.declared.table.View.{View}
use Rattle.warm_turn.specs.declared.table.CallMade.{CallMade}
use Rattle.warm_turn.specs.declared.table.CellContents.{CellContents}
use Rattle.warm_machine.specs.Runs.{operation, Runs}
use Rattle.warm_turn.specs.CallHistories.{HoldsNumber, nobody, calls_by, IsLast, IsNote, IsPass, first_pass, pass_note, halved, heir_of, numbered, as_spent, learned, joined}
use Rattle.warm_turn.specs.CallHistories.{settled}
use Rattle.warm_turn.specs.Rule.{HasHolder, ticket_word, serving_word, IsQueued, InTurn, IsRecorded, OneHistory, IsShared, TicketRuleHolds, AreWords}
use Rattle.warm_turn.specs.Shares.{IsWhole}
use Rattle.warm_turn.specs.Steps.{waiting, glancing, server, after_call, glanced, forgot, seized, took, looked, passed, caught_up, came, became_pass}
use Rattle.warm_turn.proofs.ListLemmas.{off, never, now_at, same_at, same_carried, IsPrefix-self, IsPrefix-length}
use Rattle.warm_turn.proofs.TicketLemmas as tickets
use Rattle.warm_turn.proofs.HistoryLemmas as histories
use Rattle.warm_turn.proofs.HistoryLemmas.{StaysPass}
use Rattle.warm_turn.proofs.WeightLemmas as sharing

module _ {M X C R : Type 0} (view_of : M → X) (goes : X → C → R → X → Type 0) (o : X) where
  abbrev V : Type 0
  V = View X C R

  abbrev H : Type 0
  H = CellContents M C R

  abbrev St : Type 0
  St = State (Option H) V

  abbrev Rule : St → Type 0
  Rule = TicketRuleHolds view_of goes o

  -- a history of as many calls
  of_count : {n k : ℕ} (homes : List (maybe.Option (Option H))) (vs : List V) → k ≡ n
      → OneHistory view_of goes o n homes vs → OneHistory view_of goes o k homes vs
  of_count homes vs e h = subst (λ m. OneHistory view_of goes o m homes vs) (sym e) h

  -- a step that changes a view alone
  quiet : (s : St) (r : Rule s) (i me : ℕ) (cs : List (ℕ × Option H)) (v w : V)
      → get_elem? s.views me ≡ some v → v.sees ≡ true → (v.serves ≡ true → w.serves ≡ true)
      → (v.waits ≡ true → (w.waits ≡ true) × (w.ticket ≡ v.ticket)) → StaysPass v w
      → IsQueued (ticket_word s) (serving_word s) r.turns.taker me w
      → IsRecorded o r.history.log r.history.state r.history.owner (set s.views me w) me w
      → IsShared (set s.views me w) → Rule (stepped s i (get_or s.words i 0) me cs w keeps)
  quiet s r i me cs v w at sees serves waits same queued recorded shares = record {
    turns = tickets.stays s r.turns i me cs v w at serves waits queued;
    history = of_count s.homes (set s.views me w) (ap (λ ws. get_or ws 1 0) (set-get_or s.words i 0)) (histories.stays view_of goes o s.homes s.views r.history me v w at sees same recorded);
    shares = shares;
  }

  -- each seat keeps its share
  same_shares : (s : St) (r : Rule s) (me : ℕ) (v w : V) → get_elem? s.views me ≡ some v
      → w.share ≡ v.share → w.owns ≡ v.owns → IsShared (set s.views me w)
  same_shares s r me v w at same owns = sharing.keeps s.views r.shares me v w at same (λ h. sharing.has_share s.views r.shares me v at (sym owns ∙ h))

  -- a step that changes nothing
  still : (s : St) (r : Rule s) (i me : ℕ) (cs : List (ℕ × Option H)) (v : V)
      → get_elem? s.views me ≡ some v → v.sees ≡ true
      → Rule (stepped s i (get_or s.words i 0) me cs v keeps)
  still s r i me cs v at sees = quiet s r i me cs v v at sees (λ h. h) (λ h. (h, refl)) (λ h. (h, refl, refl)) (r.turns.each me v at)
      (histories.same_recorded o r.history.log r.history.state r.history.owner s.views me v v at sees refl refl refl refl refl refl refl refl refl refl refl (r.history.each me v at))
      (same_shares s r me v v at refl refl)

  pub catches_up : (slots me : ℕ) (v : V) (cs : List (ℕ × Option H)) → v.owns ≡ true
      → v.waits ≡ false → v.serves ≡ false
      → Allows Rule slots me (v, cs) 0 (λ n. n)
      (caught_up goes (step slots 0 0 0 maybe.none) (v, cs))
  catches_up slots me v cs owns idle rests s r wide at small =
      let w : V = settled v r.history.log in
      let t = histories.settles view_of goes o s.homes s.views r.history me v at owns idle rests (sharing.has_share s.views r.shares me v at owns) in
      let f = r.history.each me v at in
      let sees = (f.own owns).0 in
      let queued = tickets.same_queued (ticket_word s) (serving_word s) r.turns.taker me v w refl refl refl refl refl (r.turns.each me v at) in (
        w,
        keeps,
        tt,
        quiet s r 0 me cs v w at sees (λ h. h) (λ h. (h, refl)) (λ h. (h, refl, refl)) queued t.0 (same_shares s r me v w at refl refl),
        (r.history.log, refl, (f.sight sees).1, (f.sight sees).2, t.1, (f.sight sees).0 ∙ sym (f.sight sees).3),
      )

  pub becomes_pass : (slots me : ℕ) (v : V) (cs : List (ℕ × Option H)) → v.sees ≡ true
      → v.owns ≡ false → 0 < v.share.parts
      → Allows Rule slots me (v, cs) 0 (λ n. n)
      (became_pass goes (step slots 0 0 0 maybe.none) (v, cs))
  becomes_pass slots me v cs sees not_yet share s r wide at small =
      let w : V = numbered v me in
      let t = histories.becomes view_of goes o s.homes s.views r.history me v at sees not_yet share in
      let q = r.turns.each me v at in
      let never : v.serves ≡ true → w.serves ≡ true = λ h. off ((q.ticket (q.serving h).0).0) not_yet in
      let queued = tickets.idle_queued (ticket_word s) (serving_word s) r.turns.taker me w refl refl refl in (
        w,
        keeps,
        tt,
        quiet s r 0 me cs v w at sees never (λ h. off (q.ticket h).0 not_yet) (λ h. off h not_yet) queued t.0 (sharing.keeps s.views r.shares me v w at refl (λ _. share)),
        (me, refl, t.1),
      )

  -- the next ticket is taken
  takes_next : (s : St) (r : Rule s) (me : ℕ) (cs : List (ℕ × Option H)) (v : V)
      → get_elem? s.views me ≡ some v → v.owns ≡ true → v.waits ≡ false → v.serves ≡ false
      → (new : ℕ) → new ≡ ticket_word s + 1 → new < 2 ^ 64
      → Rule (stepped s 0 new me cs (waiting v (ticket_word s)) keeps)
  takes_next s r me cs v at owns idle rests new up small =
      let w : V = waiting v (ticket_word s) in
      let f = r.history.each me v at in
      let sees = (f.own owns).0 in
      record {
        turns = tickets.takes_ticket s r.turns me cs v at owns idle rests new up small;
        history = of_count s.homes (set s.views me w) (get_or-set_other s.words 0 1 new 0 (λ e. omega arith)) (histories.stays view_of goes o s.homes s.views r.history me v w at sees (λ h. (h, refl, refl))
            (histories.same_recorded o r.history.log r.history.state r.history.owner s.views me v w at sees refl refl refl refl refl refl refl refl refl refl refl f));
        shares = same_shares s r me v w at refl refl;
      }

  -- the holder of the served ticket takes the machine
  takes_served : (s : St) (r : Rule s) (me : ℕ) (v : V) (h : H) → get_elem? s.views me ≡ some v
      → v.owns ≡ true → v.waits ≡ true → serving_word s ≡ v.ticket
      → get_elem? s.homes 0 ≡ some (some (Some h))
      → Rule (stepped s 1 (serving_word s) me [] (server v r.history.log (view_of h.machine)) (takes 0 (Some h)))
  takes_served s r me v h at owns waits mine home =
      let w : V = server v r.history.log (view_of h.machine) in
      record {
        turns = tickets.takes_machine s r.turns me v h r.history.log (view_of h.machine) at waits mine home;
        history = of_count (set s.homes 0 maybe.none) (set s.views me w) (ap (λ ws. get_or ws 1 0) (set-get_or s.words 1 0))
            (histories.takes_machine view_of goes o s.homes s.views r.history me v h at owns home);
        shares = same_shares s r me v w at refl refl;
      }

  -- if every ticket was served, the machine is at home
  at_home : (s : St) → Rule s → serving_word s ≡ ticket_word s
      → (h : H) × (get_elem? s.homes 0 ≡ some (some (Some h)))
  at_home s r even = ⊎_elim
      (λ (a : (h : H) × (get_elem? s.homes 0 ≡ some (some (Some h)))). a)
      (λ (a : (u : V) × (get_elem? s.homes 0 ≡ some maybe.none) × (get_elem? s.views (r.turns.taker (serving_word s)) ≡ some u) × (u.serves ≡ true)).
      let below = (tickets.away_below s r.turns (r.turns.taker (serving_word s)) a.0 a.2 a.3).0 in absurd (omega arith))
      r.turns.home

  -- a seat glances at a beginning of the history
  glances_at : (s : St) (r : Rule s) (me : ℕ) (v : V) (es : List (Operation C R))
      → get_elem? s.views me ≡ some v → v.sees ≡ true → IsPrefix es r.history.log
      → Rule record { words = s.words; homes = s.homes; views = set s.views me (glancing v es) }
  glances_at s r me v es at sees begins =
      let w : V = glancing v es in
      record {
        turns = tickets.changes s r.turns me v w at (λ h. h) (λ h. (h, refl)) (tickets.same_queued (ticket_word s) (serving_word s) r.turns.taker me v w refl refl refl refl refl (r.turns.each me v at));
        history = histories.stays view_of goes o s.homes s.views r.history me v w at sees (λ h. (h, refl, refl))
            (histories.glanced_recorded o r.history.log r.history.state r.history.owner s.views me v es at sees begins (r.history.each me v at));
        shares = same_shares s r me v w at refl refl;
      }

  -- the same as a step that changes no word
  glancing_stays : (s : St) (r : Rule s) (i me : ℕ) (cs : List (ℕ × Option H)) (v : V)
      (es : List (Operation C R))
      → get_elem? s.views me ≡ some v → v.sees ≡ true → IsPrefix es r.history.log
      → Rule (stepped s i (get_or s.words i 0) me cs (glancing v es) keeps)
  glancing_stays s r i me cs v es at sees begins = subst (λ (ws : List ℕ). Rule record { words = ws; homes = s.homes; views = set s.views me (glancing v es) })
      (sym (set-get_or s.words i 0)) (glances_at s r me v es at sees begins)

  pub glances : (slots me : ℕ) (v : V) (cs : List (ℕ × Option H)) → v.sees ≡ true
      → Allows Rule slots me (v, cs) 1 (λ n. n) (glanced (step slots 1 0 0 maybe.none) (v, cs))
  glances slots me v cs sees s r wide at _ = (
    glancing v r.history.log,
    keeps,
    tt,
    glancing_stays s r 1 me cs v r.history.log at sees (IsPrefix-self r.history.log),
    (r.history.log, refl, r.history.count),
  )

  pub forgets : (slots me : ℕ) (v : V) (cs : List (ℕ × Option H)) → v.sees ≡ true
      → Allows Rule slots me (v, cs) 0 (λ n. n) (forgot (step slots 0 0 0 maybe.none) (v, cs))
  forgets slots me v cs sees s r wide at _ = (
    glancing v [],
    keeps,
    tt,
    glancing_stays s r 0 me cs v [] at sees (r.history.log, refl),
    refl,
  )

  -- if the next ticket is served, it is taken, and the machine with it
  seizes_next : (s : St) (r : Rule s) (me : ℕ) (v : V) → get_elem? s.views me ≡ some v
      → v.sees ≡ true → v.owns ≡ true → v.waits ≡ false → v.serves ≡ false
      → serving_word s ≡ ticket_word s → (new : ℕ) → new ≡ ticket_word s + 1 → new < 2 ^ 64
      → (log : List (Operation C R)) × (h : H) × (get_elem? s.homes 0 ≡ some (some (Some h)))
      × Rule (stepped s 0 new me [] (server (waiting (glancing v []) (ticket_word s)) log (view_of h.machine)) (takes 0 (Some h)))
      × IsPrefix v.seen log
  seizes_next s r me v at sees owns idle rests even new up small =
      let t : ℕ = ticket_word s in
      let v0 : V = glancing v [] in
      let s0 : St = record { words = s.words; homes = s.homes; views = set s.views me v0 } in
      let r0 : Rule s0 = glances_at s r me v [] at sees (r.history.log, refl) in
      let at0 = now_at s.views me v v0 at in
      let w0 : V = waiting v0 t in
      let s1 : St = stepped s0 0 new me [] w0 keeps in
      let r1 : Rule s1 = takes_next s0 r0 me [] v0 at0 owns idle rests new up small in
      let at1 = now_at s0.views me v0 w0 at0 in
      let home = at_home s r even in
      let log : List (Operation C R) = r1.history.log in
      let w : V = server w0 log (view_of home.0.machine) in
      let r2 = takes_served s1 r1 me w0 home.0 at1 owns refl (get_or-set_other s.words 0 1 new 0 (λ e. omega arith) ∙ even) home.1 in
      let words : set (set s.words 0 new) 1 (serving_word s1) ≡ set s.words 0 new = set-get_or (set s.words 0 new) 1 0 in
      let views : set (set (set s.views me v0) me w0) me w ≡ set s.views me w = set-set (set s.views me v0) me w0 w ∙ set-set s.views me v0 w in (
        log,
        home.0,
        home.1,
        subst (λ (z : List ℕ × List V). Rule record { words = z.0; homes = set s.homes 0 maybe.none; views = z.1 }) (λ i. (words i, views i)) r2,
        ((r1.history.each me w0 at1).sight sees).1,
      )

  pub seizes : (slots me : ℕ) (v : V) (old new : ℕ) → v.owns ≡ true → v.waits ≡ false
      → v.serves ≡ false → length v.also ≡ old → new ≡ old + 1 → new < 2 ^ 64
      → Allows Rule slots me (v, []) 0 (λ n. either (eqb n old) new n)
      (seized view_of (step slots 0 old new maybe.none) (v, []))
  seizes slots me v old new owns idle rests many up small s r wide at _ =
      let t : ℕ = ticket_word s in
      let f = r.history.each me v at in
      let q = r.turns.each me v at in
      let sees = (f.own owns).0 in
      dite (ℕ_discrete t old)
      (λ (hit : t ≡ old).
      let unmarked : v.found_last ≡ false = never v.found_last (λ h. let full = q.full h in omega arith) in
      let order = r.turns.order in
      let least : length v.also ≤ length r.history.log = IsPrefix-length v.also r.history.log (f.sight sees).2 in
      let count = r.history.count in
      let even : serving_word s ≡ t = omega arith in
      let k = seizes_next s r me v at sees owns idle rests even new (up ∙ ap (λ n. n + 1) (sym hit)) small in
      let w : V = server (waiting (glancing v []) t) k.0 (view_of k.1.machine) in
      let served : Me (Option H) V = (w, (0, Some k.1) ∷ []) in (
        w,
        takes 0 (Some k.1),
        k.2,
        subst (λ (b : Bool). Rule (stepped s 0 (either b new t) me [] w (takes 0 (Some k.1)))) (sym (eq-eqb t old hit)) k.3,
        ((λ _. (t, unmarked, (k.0, k.1, refl {a = served}, k.4))), (λ miss. absurd {A = served ≡ (glancing v [], [])} (miss hit))),
      ))
      (λ (miss : t ≢ old). (
        glancing v [],
        keeps,
        tt,
        subst (λ (b : Bool). Rule (stepped s 0 (either b new t) me [] (glancing v []) keeps)) (sym (ne_eqb t old miss)) (glancing_stays s r 0 me [] v [] at sees (r.history.log, refl)),
        ((λ hit. absurd (miss hit)), (λ _. refl)),
      ))

  pub tries : (slots me : ℕ) (v : V) (cs : List (ℕ × Option H)) (old new : ℕ) → v.owns ≡ true
      → v.waits ≡ false → v.serves ≡ false → new ≡ old + 1 → new < 2 ^ 64
      → Allows Rule slots me (v, cs) 0 (λ n. either (eqb n old) new n)
      (took (step slots 0 old new maybe.none) (v, cs))
  tries slots me v cs old new owns idle rests up small s r wide at _ =
      let t : ℕ = ticket_word s in
      let f = r.history.each me v at in
      let q = r.turns.each me v at in
      let sees = (f.own owns).0 in
      dite (ℕ_discrete t old)
      (λ (hit : t ≡ old).
      let w : V = waiting v t in
      let unmarked : v.found_last ≡ false = never v.found_last (λ h. let full = q.full h in omega arith) in
      let kept : Rule (stepped s 0 new me cs w keeps) = takes_next s r me cs v at owns idle rests new (up ∙ ap (λ k. k + 1) (sym hit)) small in (
        w,
        keeps,
        tt,
        subst (λ (b : Bool). Rule (stepped s 0 (either b new t) me cs w keeps)) (sym (eq-eqb t old hit)) kept,
        ((λ _. (unmarked, refl)), (λ miss. absurd (miss hit)), (λ miss. absurd (miss hit))),
      ))
      (λ (miss : t ≢ old). dite (ℕ_discrete (t + 1) (2 ^ 64))
      (λ (most : t + 1 ≡ 2 ^ 64).
      let w : V = as_spent v in (
        w,
        keeps,
        tt,
        subst (λ (b : Bool). Rule (stepped s 0 (either b new t) me cs w keeps)) (sym (ne_eqb t old miss)) (quiet s r 0 me cs v w at sees (λ h. h) (λ h. (h, refl)) (λ h. (h, refl, refl))
            record {
              ticket = q.ticket;
              serving = q.serving;
              full = λ _. most;
            }
            (histories.same_recorded o r.history.log r.history.state r.history.owner s.views me v w at sees refl refl refl refl refl refl refl refl refl refl refl f)
            (same_shares s r me v w at refl refl)),
        ((λ hit. absurd (miss hit)), (λ _ _. refl), (λ _ less. absurd (less most))),
      ))
      (λ (less : t + 1 ≢ 2 ^ 64). (
        v,
        keeps,
        tt,
        subst (λ (b : Bool). Rule (stepped s 0 (either b new t) me cs v keeps)) (sym (ne_eqb t old miss)) (still s r 0 me cs v at sees),
        ((λ hit. absurd (miss hit)), (λ _ most. absurd (less most)), (λ _ _. refl)),
      )))

  pub looks : (slots me : ℕ) (v : V) → v.waits ≡ true → v.serves ≡ false
      → Allows Rule slots me (v, []) 1 (λ n. n)
      (looked view_of (step slots 1 0 0 maybe.none) (v, []))
  looks slots me v waits rests s r wide at _ =
      let n : ℕ = serving_word s in
      let k = (r.turns.each me v at).ticket waits in
      let owns = k.0 in
      let f = r.history.each me v at in
      let sees = (f.own owns).0 in
      dite (ℕ_discrete n v.ticket)
      (λ (mine : n ≡ v.ticket). ⊎_elim
      (λ (a : (h : H) × (get_elem? s.homes 0 ≡ some (some (Some h)))).
      let h : H = a.0 in (
        server v r.history.log (view_of h.machine),
        takes 0 (Some h),
        a.1,
        takes_served s r me v h at owns waits mine a.1,
        ((λ not. absurd (not mine)), (λ _. (r.history.log, h, refl, (f.sight sees).1))),
      ))
      (λ (a : (u : V) × (get_elem? s.homes 0 ≡ some maybe.none) × (get_elem? s.views (r.turns.taker n) ≡ some u) × (u.serves ≡ true)).
      off (ap (λ (u : V). u.serves) (same_at s.views me v a.0 at (subst (λ q. get_elem? s.views q ≡ some a.0) (ap r.turns.taker mine ∙ k.3) a.2)) ∙ a.3) rests)
      r.turns.home)
      (λ (not : n ≢ v.ticket). (
        v,
        keeps,
        tt,
        still s r 1 me [] v at sees,
        ((λ _. refl), (λ is. absurd (not is))),
      ))

  pub passes : (slots me : ℕ) (v : V) (h : H) (d : CallMade C R) (x : X) → v.serves ≡ true
      → v.also ≡ [] → v.state ≡ Some x → h.made ≡ Some d
      → goes x d.call.value d.reply.value (view_of h.machine)
      → Allows Rule slots me (v, (0, Some h) ∷ []) 1 (λ n. (n + 1) % 2 ^ 64)
      (passed goes (step slots 1 1 0 maybe.none) (v, (0, Some h) ∷ []))
  passes slots me v h d x serves also state made did s r wide at _ =
      let q = r.turns.each me v at in
      let owns = (q.ticket (q.serving serves).0).0 in
      let e : Operation C R = operation v.number d.call.value d.reply.value in
      let w : V = after_call v e in
      let alone : (j : ℕ) (u : V) → j ≢ me → get_elem? s.views j ≡ some u → u.serves ≡ true → ⊥ = λ j u other at' serves'. other (tickets.alone s r.turns me j v u at serves at' serves') in
      let t = histories.passes_on view_of goes o s.homes s.views r.history me v h x e at owns serves (sharing.has_share s.views r.shares me v at owns) also state r.turns.one alone refl did in (
        w,
        gives,
        tt,
        record {
          turns = tickets.passes_on s r.turns me v h e at serves;
          history = of_count (set s.homes 0 (some (Some h))) (set s.views me w) (tickets.serves_next s r.turns me v at serves) t.0;
          shares = same_shares s r me v w at refl refl;
        },
        λ h' d' took' made'.
            let one_slot : h ≡ h' = same_carried h h' 0 took' in
            let one_call : d ≡ d' = same_Some d d' (sym made ∙ (ap (λ (z : H). z.made) one_slot ∙ made')) in (
              subst (λ (z : CallMade C R). let u : Me (Option H) V = (w, []) in u ≡ (after_call v (operation v.number z.call.value z.reply.value), [])) one_call refl,
              t.1,
            ),
      )

  -- a new seat, which knows what some view does, and is no pass yet
  sits : (s : St) → InTurn s
      → (r : OneHistory view_of goes o (serving_word s) s.homes s.views) (v : V)
      → v.opening ≡ Some o → IsPrefix v.seen r.log → IsShared (s.views ++ pass_note v ∷ [])
      → Rule record { words = s.words; homes = s.homes; views = s.views ++ pass_note v ∷ [] }
  sits s turns r v opens begins_with shares = record {
    turns = tickets.enters s turns (pass_note v) refl refl refl;
    history = histories.enters view_of goes o s.homes s.views r (pass_note v) opens opens begins_with (r.log, refl) refl refl;
    shares = shares;
  }

  pub comes : (slots : ℕ)
      → Enters Rule slots 0
      (λ n w. came {M = M} (step slots 0 0 0 maybe.none) (first_pass o, []) n (w, []))
  comes slots s r wide small = (pass_note (first_pass o), sits s r.turns r.history (first_pass o) refl (r.history.log, refl) (sharing.enters s.views r.shares (pass_note (first_pass o)) refl refl), refl)

  pub gives_note : (me : ℕ) (v : V) → v.sees ≡ true → Splits Rule me v v (pass_note v)
  gives_note me v sees s r at =
      let sight = (r.history.each me v at).sight sees in
      subst (λ (l : List V). Rule record { words = s.words; homes = s.homes; views = l ++ pass_note v ∷ [] }) (sym (set_again s.views me v at)) (sits s r.turns r.history v sight.0 sight.1 (sharing.enters s.views r.shares (pass_note v) refl refl))

  -- a pass gives half of its share to a seat that is to be a pass too
  pub gives_heir : (me : ℕ) (v : V) → v.sees ≡ true → Splits Rule me v (halved v) (heir_of v)
  gives_heir me v sees s r at =
      let w : V = halved v in
      let t : St = record { words = s.words; homes = s.homes; views = set s.views me w } in
      let turns : InTurn t = tickets.changes s r.turns me v w at (λ h. h) (λ h. (h, refl)) (tickets.same_queued (ticket_word s) (serving_word s) r.turns.taker me v w refl refl refl refl refl (r.turns.each me v at)) in
      let history : OneHistory view_of goes o (serving_word s) s.homes (set s.views me w) = histories.stays view_of goes o s.homes s.views r.history me v w at sees (λ h. (h, refl, refl))
      (histories.same_recorded o r.history.log r.history.state r.history.owner s.views me v w at sees refl refl refl refl refl refl refl refl refl refl refl (r.history.each me v at)) in
      let sight = (history.each me w (now_at s.views me v w at)).sight sees in
      record {
        turns = tickets.enters t turns (heir_of v) refl refl refl;
        history = histories.enters view_of goes o s.homes (set s.views me w) history (heir_of v) sight.0 sight.0 sight.1 (history.log, refl) refl refl;
        shares = sharing.divides s.views r.shares me v at;
      }

  pub learns : (me other : ℕ) (v u : V) → v.owns ≡ true → IsNote u
      → Joins Rule me v other u (learned v u) nobody
  learns me other v u owns note s r at apart there = record {
    turns = tickets.merges s r.turns me other v u (learned v u) at there
        (never u.waits (λ h. off ((r.turns.each other u (sym (set_else s.views me other (learned v u) apart) ∙ there)).ticket h).0 note.1)) note.2 (λ h. h) (λ h. (h, refl))
        (tickets.same_queued (ticket_word s) (serving_word s) r.turns.taker me v (learned v u) refl refl refl refl refl (r.turns.each me v at));
    history = histories.learns view_of goes o s.homes s.views r.history me other v u at apart there owns note;
    shares = sharing.loses s.views r.shares me other v u (learned v u) at there apart refl refl;
  }

  pub ends : (me other : ℕ) (v u : V) → v.owns ≡ true → u.owns ≡ true → u.waits ≡ false
      → u.serves ≡ false
      → Joins Rule me v other u (joined v u) nobody
  ends me other v u owns owns' idle rests s r at apart there = record {
    turns = tickets.merges s r.turns me other v u (joined v u) at there idle rests (λ h. h) (λ h. (h, refl))
        (tickets.same_queued (ticket_word s) (serving_word s) r.turns.taker me v (joined v u) refl refl refl refl refl (r.turns.each me v at));
    history = histories.ends view_of goes o s.homes s.views r.history me other v u at apart there owns owns';
    shares = sharing.adds s.views r.shares me other v u (joined v u) at there apart refl owns;
  }

  pub begins : (h : H) → view_of h.machine ≡ o
      → Rule (opening (0 ∷ 0 ∷ []) (Some h ∷ []) (first_pass o))
  begins h is = record {
    turns = tickets.begins h o;
    history = histories.begins view_of goes o h is;
    shares = sharing.begins o;
  }

  -- if a pass has the whole right, who holds a number is this pass
  held_by_me : (s : St) (r : Rule s) (me : ℕ) (v : V) → get_elem? s.views me ≡ some v
      → IsWhole v.share → (n : ℕ) → HasHolder s.views n → HoldsNumber v n
  held_by_me s r me v at whole n (i, u, here, owns, holds) = dite (ℕ_discrete i me)
      (λ (same : i ≡ me). subst (λ (z : V). HoldsNumber z n) (same_at s.views me u v (subst (λ k. get_elem? s.views k ≡ some u) same here) at) holds)
      (λ (other : i ≢ me). absurd (sharing.only_one s.views r.shares me i v u at whole here owns other))

  -- at the end, if every ticket was served, the machine is at home
  pub closes : (me : ℕ) (v : V) (ws : List ℕ) (xs : List (Option H)) → IsPass goes v
      → Final (Seen Rule me v) ws xs → get_or ws 0 0 ≡ get_or ws 1 0 → (x : Option H)
      → get_elem? xs 0 ≡ some x
      → (h : H) × (x ≡ Some h) × IsLast goes o v (view_of h.machine)
  closes me v ws xs pass last even x there =
      let s : St = last.0 in
      let r = last.1.0 in
      let at = last.1.1 in
      let f = r.history.each me v at in
      let owns = pass.alive.1 in
      let sees = pass.alive.0 in
      let words : s.words ≡ ws = last.2 in
      let even' : ticket_word s ≡ serving_word s = ap (λ l. get_or l 0 0) words ∙ (even ∙ sym (ap (λ l. get_or l 1 0) words)) in
      ⊎_elim
      (λ (a : (h : H) × (get_elem? s.homes 0 ≡ some (some (Some h)))). (
        a.0,
        same_at xs 0 x (Some a.0) there (last.4 0 (Some a.0) a.1),
        record {
          history = r.history.log;
          begins = (f.sight sees).1;
          reaches = subst (Runs goes o r.history.log) (sym (r.history.home a.0 a.1)) r.history.legal;
          own = ap (λ k. calls_by k r.history.log) ((f.own owns).1) ∙ (f.own owns).2;
          others = λ b e at'. (f.others owns b e at').1;
          all = λ whole. histories.each_is_by (HasHolder s.views) (HoldsNumber v) r.history.log (λ n. held_by_me s r me v at whole n) r.history.held;
          opens = (f.sight sees).0;
          legal = pass;
        },
      ))
      (λ (a : (u : V) × (get_elem? s.homes 0 ≡ some maybe.none) × (get_elem? s.views (r.turns.taker (serving_word s)) ≡ some u) × (u.serves ≡ true)).
      let below = (tickets.away_below s r.turns (r.turns.taker (serving_word s)) a.0 a.2 a.3).0 in absurd (omega arith))
      r.turns.home

  -- at the end, if a pass that does not wait has the whole right, every ticket was served
  pub even_at_end : (me : ℕ) (v : V) (ws : List ℕ) (xs : List (Option H)) → v.waits ≡ false
      → IsWhole v.share → Final (Seen Rule me v) ws xs → get_or ws 0 0 ≡ get_or ws 1 0
  even_at_end me v ws xs idle whole last =
      let s : St = last.0 in
      let r = last.1.0 in
      let at = last.1.1 in
      let order = r.turns.order in
      let even : ticket_word s ≡ serving_word s = dite (ℕ_discrete (ticket_word s) (serving_word s)) (λ e. e) (λ (uneven : ticket_word s ≢ serving_word s).
      let h = r.turns.held (serving_word s) (omega arith) (omega arith) in
      let j : ℕ = r.turns.taker (serving_word s) in
      let apart : j ≢ me = λ e. off h.2 (ap (λ (u : V). u.waits) (same_at s.views me h.0 v (subst (λ i. get_elem? s.views i ≡ some h.0) e h.1) at) ∙ idle) in
      absurd (sharing.only_one s.views r.shares me j v h.0 at whole h.1 ((r.turns.each j h.0 h.1).ticket h.2).0 apart)) in
      sym (ap (λ l. get_or l 0 0) last.2) ∙ (even ∙ ap (λ l. get_or l 1 0) last.2)

  -- at the end a mark implies that the last number was reached
  pub mark_at_end : (me : ℕ) (v : V) (ws : List ℕ) (xs : List (Option H))
      → Final (Seen Rule me v) ws xs → v.found_last ≡ true → get_or ws 0 0 + 1 ≡ 2 ^ 64
  mark_at_end me v ws xs last mark = ap (λ l. get_or l 0 0 + 1) (sym last.2) ∙ (last.1.0.turns.each me v last.1.1).full mark

  -- at the end the words are those of a state that the rule allows, in which the pass has its view
  pub words_at_end : (me : ℕ) (v : V) (ws : List ℕ) (xs : List (Option H)) (found : Busy)
      → Final (Seen Rule me v) ws xs → get_or ws 0 0 ≡ found.ticket → get_or ws 1 0 ≡ found.serving
      → AreWords view_of goes o v found
  words_at_end me v ws xs found last ticket serving = record {
    state = last.0;
    kept = last.1.0;
    seat = me;
    view = last.1.1;
    ticket = ap (λ l. get_or l 0 0) last.2 ∙ ticket;
    serving = ap (λ l. get_or l 1 0) last.2 ∙ serving;
  }
