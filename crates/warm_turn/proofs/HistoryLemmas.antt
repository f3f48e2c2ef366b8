-- The second pass of the rule: each step keeps one legal history, which contains the calls of each
-- pass once.
use Rattle.std.proofs.Common.{◌≡◌, ◌≢◌, ℕ, zero, suc, ◌+◌, ◌<◌, ◌≤◌, eqb, List, [], ◌∷◌, ◌++◌, length, set, Option, Some, true, false, refl, sym, ap, ◌∙◌, subst, ⊎_elim, arith, length-set, eq-eqb, ne_eqb, length-append, append-nil, inl, inr}
use mathlib.Core.Logic.{dite}
use mathlib.Core.Option.{some, some-injective, some-ne-none}
use mathlib.Core.Option as maybe
use mathlib.Core.List.{IsPrefix}
use native.Mathlib.Decide.{ℕ_discrete}
use lib.ListN.{get_elem?}
use prog.Atomic.{either}
use Rattle.atomic_table.proofs.Lists.{at_longer, set_else, set_here}
use Rattle.std.proofs.lemmas.Option.{same_Some}
use Rattle.warm_machine.specs.declared.operation.Operation.{Operation}
use Rattle.warm_turn.specs.declared.table.EndedPass.{EndedPass}
use Rattle.warm_turn.specs.declared.table.View.{View}
use Rattle.warm_turn.specs.declared.table.CellContents.{CellContents}
use Rattle.warm_machine.specs.Runs.{Runs}
use Rattle.warm_turn.specs.CallHistories.{EachIsBy, HoldsNumber, IsAmong, nobody, calls_by, NoRepeat, IsNote, IsPass, first_pass, numbered, learned, as_ended, joined, settled}
use Rattle.warm_turn.specs.Steps.{glancing, server, after_call}
use Rattle.warm_turn.specs.Rule.{HasHolder, IsGone, IsRecorded, OneHistory}
use Rattle.warm_turn.proofs.ListLemmas.{off, inside, same_at, now_at, at_end, at_either, one_member, each_set, IsPrefix-self, IsPrefix-append, calls_by-mine, calls_by-other, calls_by-prefix, NoRepeat-join, NoRepeat-one, Runs-push, Runs-front}

module _ {C R : Type 0} where
  -- what holds of the numbers of operations
  pub each_is_by : (P Q : ℕ → Type 0) (es : List (Operation C R)) → ((n : ℕ) → P n → Q n)
      → EachIsBy P es → EachIsBy Q es
  each_is_by P Q [] more all = tt
  each_is_by P Q (e ∷ es) more all = (more e.by all.0, each_is_by P Q es more all.1)

  each_and_one : (P : ℕ → Type 0) (es : List (Operation C R)) (e : Operation C R) → EachIsBy P es
      → P e.by → EachIsBy P (es ++ e ∷ [])
  each_and_one P [] e all last = (last, tt)
  each_and_one P (f ∷ es) e all last = (all.0, each_and_one P es e all.1 last)

  among_first : (n : ℕ) (es fs : List (EndedPass C R)) → IsAmong n es → IsAmong n (es ++ fs)
  among_first n [] fs none = absurd none
  among_first n (e ∷ es) fs among = ⊎_elim (λ here. inl here) (λ later. inr (among_first n es fs later)) among

  among_last : (n : ℕ) (es fs : List (EndedPass C R)) → IsAmong n fs → IsAmong n (es ++ fs)
  among_last n [] fs among = among
  among_last n (e ∷ es) fs among = inr (among_last n es fs among)

module _ {X C R : Type 0} where
  -- a seat that sees is not spent
  pub apart_of : (vs : List (View X C R)) (me n : ℕ) (v : View X C R) → get_elem? vs me ≡ some v
      → v.sees ≡ true → IsGone vs n → n ≢ me
  apart_of vs me n v at sees g e = off sees (ap (λ (u : View X C R). u.sees) (same_at vs me v g.0 at (subst (λ k. get_elem? vs k ≡ some g.0) e g.1)) ∙ g.2)

  gone_set : (vs : List (View X C R)) (me : ℕ) (v w : View X C R) → get_elem? vs me ≡ some v
      → v.sees ≡ true → (n : ℕ) → IsGone vs n → IsGone (set vs me w) n
  gone_set vs me v w at sees n g = (g.0, set_else vs me n w (apart_of vs me n v at sees g) ∙ g.1, g.2, g.3)

  gone_longer : (vs ws : List (View X C R)) (n : ℕ) → IsGone vs n → IsGone (vs ++ ws) n
  gone_longer vs ws n g = (g.0, at_longer vs ws n g.0 g.1, g.2, g.3)

  -- if more seats are used up, what the history says of a seat is unchanged
  more_gone : (o : X) (log : List (Operation C R)) (x : X) (owner : ℕ → ℕ) (vs vs' : List (View X C R))
      (j : ℕ) (u : View X C R)
      → ((m : ℕ) → IsGone vs m → IsGone vs' m) → IsRecorded o log x owner vs j u
      → IsRecorded o log x owner vs' j u
  more_gone o log x owner vs vs' j u more f = record {
    sight = f.sight;
    unused = f.unused;
    own = f.own;
    others = λ h a e at. let z = f.others h a e at in (z.0, z.1, more e.number z.2);
    apart = f.apart;
    serving = f.serving;
  }

  -- what the history says of a used-up seat
  nobody_recorded : (o : X) (log : List (Operation C R)) (x : X) (owner : ℕ → ℕ)
      (vs : List (View X C R)) (j : ℕ) → IsRecorded o log x owner vs j nobody
  nobody_recorded o log x owner vs j = record {
    sight = λ h. off h refl;
    unused = λ h. off h refl;
    own = λ h. off h refl;
    others = λ h. off h refl;
    apart = λ h. off h refl;
    serving = λ h. off h refl;
  }

  -- what the history says of a seat does not depend on its ticket or its marks
  pub same_recorded : (o : X) (log : List (Operation C R)) (x : X) (owner : ℕ → ℕ)
      (vs : List (View X C R)) (me : ℕ) (v w : View X C R)
      → get_elem? vs me ≡ some v → v.sees ≡ true → w.sees ≡ v.sees → w.owns ≡ v.owns
      → w.serves ≡ v.serves → w.number ≡ v.number → w.opening ≡ v.opening → w.state ≡ v.state
      → w.seen ≡ v.seen → w.also ≡ v.also → w.also_opening ≡ v.also_opening → w.mine ≡ v.mine
      → w.ended ≡ v.ended
      → IsRecorded o log x owner vs me v → IsRecorded o log x owner (set vs me w) me w
  same_recorded o log x owner vs me v w at sees sees' owns serves number opening state seen also also_opening mine ended f = record {
    sight = λ h. let z = f.sight sees in (opening ∙ z.0, subst (λ l. IsPrefix l log) (sym seen) z.1, subst (λ l. IsPrefix l log) (sym also) z.2, also_opening ∙ z.3);
    unused = λ h no. f.unused sees (sym owns ∙ no);
    own = λ h. let z = f.own (sym owns ∙ h) in (sees' ∙ z.0, number ∙ z.1, z.2 ∙ sym mine);
    others = λ h a e here. let z = f.others (sym owns ∙ h) a e (subst (λ (l : List (EndedPass C R)). get_elem? l a ≡ some e) ended here) in (z.0, z.1, gone_set vs me v w at sees e.number z.2);
    apart = λ h. subst (λ (l : List (EndedPass C R)). NoRepeat l) (sym ended) (f.apart (sym owns ∙ h));
    serving = λ h. let z = f.serving (sym serves ∙ h) in (seen ∙ z.0, state ∙ z.1);
  }

  -- a seat may glance at any beginning of the history
  pub glanced_recorded : (o : X) (log : List (Operation C R)) (x : X) (owner : ℕ → ℕ)
      (vs : List (View X C R)) (me : ℕ) (v : View X C R) (es : List (Operation C R))
      → get_elem? vs me ≡ some v → v.sees ≡ true → IsPrefix es log → IsRecorded o log x owner vs me v
      → IsRecorded o log x owner (set vs me (glancing v es)) me (glancing v es)
  glanced_recorded o log x owner vs me v es at sees begins f = record {
    sight = λ h. let z = f.sight h in (z.0, z.1, begins, z.3);
    unused = f.unused;
    own = f.own;
    others = λ h a e here. let z = f.others h a e here in (z.0, z.1, gone_set vs me v (glancing v es) at sees e.number z.2);
    apart = f.apart;
    serving = f.serving;
  }

  -- the view is still a pass's, with this number and with these passes ended into it
  abbrev pub StaysPass : View X C R → View X C R → Type 0
  StaysPass v w = v.owns ≡ true → (w.owns ≡ true) × (w.number ≡ v.number) × (w.ended ≡ v.ended)

  holds_same : (v w : View X C R) (n : ℕ) → w.number ≡ v.number → w.ended ≡ v.ended
      → HoldsNumber v n → HoldsNumber w n
  holds_same v w n number ended holds = ⊎_elim
      (λ (own : v.number ≡ n). inl (number ∙ own))
      (λ (among : IsAmong n v.ended). inr (subst (λ (es : List (EndedPass C R)). IsAmong n es) (sym ended) among))
      holds

  -- a number is still held after one view is set, if the new view holds what the old one held
  holder_set : (vs : List (View X C R)) (me : ℕ) (v w : View X C R) (n : ℕ) → get_elem? vs me ≡ some v
      → (v.owns ≡ true → HoldsNumber v n → (w.owns ≡ true) × HoldsNumber w n)
      → HasHolder vs n → HasHolder (set vs me w) n
  holder_set vs me v w n at keeps (i, u, here, owns, holds) = dite (ℕ_discrete i me)
      (λ (same : i ≡ me).
      let is : u ≡ v = same_at vs me u v (subst (λ k. get_elem? vs k ≡ some u) same here) at in
      let kept = keeps (ap (λ (z : View X C R). z.owns) (sym is) ∙ owns) (subst (λ (z : View X C R). HoldsNumber z n) is holds) in
      (me, w, now_at vs me v w at, kept.0, kept.1))
      (λ (other : i ≢ me). (i, u, set_else vs me i w other ∙ here, owns, holds))

  holder_stays : (vs : List (View X C R)) (me : ℕ) (v w : View X C R) (n : ℕ)
      → get_elem? vs me ≡ some v → StaysPass v w → HasHolder vs n → HasHolder (set vs me w) n
  holder_stays vs me v w n at stays = holder_set vs me v w n at (λ owns holds. let t = stays owns in (t.0, holds_same v w n t.1 t.2 holds))

  holder_longer : (vs ws : List (View X C R)) (n : ℕ) → HasHolder vs n → HasHolder (vs ++ ws) n
  holder_longer vs ws n (i, u, here, owns, holds) = (i, u, at_longer vs ws i u here, owns, holds)

module _ {M X C R : Type 0} (view_of : M → X) (goes : X → C → R → X → Type 0) (o : X) where
  abbrev V : Type 0
  V = View X C R

  abbrev H : Type 0
  H = CellContents M C R

  abbrev Homes : Type 0
  Homes = List (maybe.Option (Option H))

  abbrev One : ℕ → Homes → List V → Type 0
  One = OneHistory view_of goes o

  -- a step that changes a view alone
  pub stays : {n : ℕ} (homes : Homes) (vs : List V) (r : One n homes vs) (me : ℕ) (v w : V)
      → get_elem? vs me ≡ some v → v.sees ≡ true → StaysPass v w
      → IsRecorded o r.log r.state r.owner (set vs me w) me w → One n homes (set vs me w)
  stays homes vs r me v w at sees same mine = record {
    log = r.log;
    state = r.state;
    owner = r.owner;
    legal = r.legal;
    count = r.count;
    home = r.home;
    each = each_set (IsRecorded o r.log r.state r.owner (set vs me w)) vs me w mine
        (λ j u n e. more_gone o r.log r.state r.owner vs (set vs me w) j u (gone_set vs me v w at sees) (r.each j u e));
    unborn = λ j le. r.unborn j (subst (λ k. k ≤ j) (length-set vs me w) le);
    held = each_is_by (HasHolder vs) (HasHolder (set vs me w)) r.log (λ n. holder_stays vs me v w n at same) r.held;
  }

  -- an idle pass sees the history so far
  pub settles : {n : ℕ} (homes : Homes) (vs : List V) (r : One n homes vs) (me : ℕ) (v : V)
      → get_elem? vs me ≡ some v → v.owns ≡ true → v.waits ≡ false → v.serves ≡ false
      → 0 < v.share.parts
      → IsRecorded o r.log r.state r.owner (set vs me (settled v r.log)) me (settled v r.log)
      × IsPass goes (settled v r.log)
  settles homes vs r me v at owns idle rests share =
      let f = r.each me v at in
      let sees = (f.own owns).0 in
      let w = settled v r.log in (
        record {
          sight = λ h. ((f.sight sees).0, IsPrefix-self r.log, (r.log, refl), (f.sight sees).0);
          unused = f.unused;
          own = f.own;
          others = λ h a e at'. let z = f.others owns a e at' in (z.0, z.1, gone_set vs me v w at sees e.number z.2);
          apart = f.apart;
          serving = λ h. off h rests;
        },
        record {
          alive = (sees, owns);
          idle = (idle, rests, refl);
          legal = (o, r.state, (f.sight sees).0, r.legal);
          own = ap (λ k. calls_by k r.log) ((f.own owns).1) ∙ (f.own owns).2;
          others = λ a e at'. let z = f.others owns a e at' in (z.1, (λ same. apart_of vs me e.number v at sees z.2 (same ∙ (f.own owns).1)));
          apart = f.apart owns;
          share = share;
        },
      )

  -- a seat that is no pass becomes one, of a number that has no operation
  pub becomes : {n : ℕ} (homes : Homes) (vs : List V) (r : One n homes vs) (me : ℕ) (v : V)
      → get_elem? vs me ≡ some v → v.sees ≡ true → v.owns ≡ false → 0 < v.share.parts
      → IsRecorded o r.log r.state r.owner (set vs me (numbered v me)) me (numbered v me)
      × IsPass goes (numbered v me)
  becomes homes vs r me v at sees not_yet share =
      let f = r.each me v at in
      let none_yet = f.unused sees not_yet in
      let here = f.sight sees in
      let front = Runs-front goes o r.state v.seen here.1.0 (subst (λ l. Runs goes o l r.state) (sym here.1.1) r.legal) in (
        record {
          sight = λ h. (here.0, here.1, (r.log, refl), here.0);
          unused = λ _ h. off refl h;
          own = λ h. (refl, refl, none_yet);
          others = λ h a e at'. absurd (some-ne-none e (sym at'));
          apart = λ h a b e g p. absurd (some-ne-none e (sym p));
          serving = λ h. off h refl;
        },
        record {
          alive = (refl, refl);
          idle = (refl, refl, refl);
          legal = (o, front.0, here.0, front.1);
          own = calls_by-prefix me v.seen r.log here.1 none_yet;
          others = λ a e at'. absurd (some-ne-none e (sym at'));
          apart = λ a b e g p. absurd (some-ne-none e (sym p));
          share = share;
        },
      )

  -- a pass takes the machine, and sees the history so far
  pub takes_machine : {n : ℕ} (homes : Homes) (vs : List V) (r : One n homes vs) (me : ℕ) (v : V)
      (h : H) → get_elem? vs me ≡ some v → v.owns ≡ true → get_elem? homes 0 ≡ some (some (Some h))
      → One n (set homes 0 maybe.none) (set vs me (server v r.log (view_of h.machine)))
  takes_machine homes vs r me v h at owns home =
      let w : V = server v r.log (view_of h.machine) in
      let ws : List V = set vs me w in
      let f = r.each me v at in
      let sees = (f.own owns).0 in
      record {
        log = r.log;
        state = r.state;
        owner = r.owner;
        legal = r.legal;
        count = r.count;
        home = λ k there. absurd (some-ne-none (Some k) (sym (same_at (set homes 0 maybe.none) 0 maybe.none (some (Some k)) (now_at homes 0 (some (Some h)) maybe.none home) there)));
        each = each_set (IsRecorded o r.log r.state r.owner ws) vs me w
            record {
              sight = λ _. ((f.sight sees).0, IsPrefix-self r.log, (f.sight sees).2, (f.sight sees).3);
              unused = f.unused;
              own = f.own;
              others = λ h' b e at'. let z = f.others h' b e at' in (z.0, z.1, gone_set vs me v w at sees e.number z.2);
              apart = f.apart;
              serving = λ _. (refl, ap Some (r.home h home));
            }
            (λ j u other e. more_gone o r.log r.state r.owner vs ws j u (gone_set vs me v w at sees) (r.each j u e));
        unborn = λ j le. r.unborn j (subst (λ z. z ≤ j) (length-set vs me w) le);
        held = each_is_by (HasHolder vs) (HasHolder ws) r.log (λ n. holder_stays vs me v w n at (λ owned. (owned, refl, refl))) r.held;
      }

  -- the pass that has the machine adds its call to the history and gives the machine back. It has
  -- then seen the whole history, and is idle
  pub passes_on : {n : ℕ} (homes : Homes) (vs : List V) (r : One n homes vs) (me : ℕ) (v : V)
      (h : H) (x : X) (e : Operation C R) → get_elem? vs me ≡ some v → v.owns ≡ true → v.serves ≡ true
      → 0 < v.share.parts → v.also ≡ [] → v.state ≡ Some x
      → length homes ≡ 1 → ((j : ℕ) (u : V) → j ≢ me → get_elem? vs j ≡ some u → u.serves ≡ true
      → ⊥) → e.by ≡ v.number → goes x e.call e.reply (view_of h.machine)
      → One (n + 1) (set homes 0 (some (Some h))) (set vs me (after_call v e))
      × IsPass goes (after_call v e)
  passes_on homes vs r me v h x e at owns serves share also state one alone by did =
      let f = r.each me v at in
      let a = f.serving serves in
      let sees = (f.own owns).0 in
      let number : e.by ≡ me = by ∙ (f.own owns).1 in
      let w : V = after_call v e in
      let log : List (Operation C R) = r.log ++ e ∷ [] in
      let y : X = view_of h.machine in
      let ws : List V = set vs me w in
      let same : x ≡ r.state = same_Some x r.state (sym state ∙ a.1) in
      let legal : Runs goes o log y = Runs-push goes o r.state y r.log e r.legal (subst (λ z. goes z e.call e.reply y) same did) in
      let grown : v.seen ++ e ∷ [] ≡ log = ap (λ l. l ++ e ∷ []) a.0 in
      let elsewhere : (j : ℕ) → j ≢ me → e.by ≢ j = λ j other here. other (sym here ∙ number) in
      let own' : calls_by me log ≡ v.mine ++ e ∷ [] = calls_by-mine me r.log e number ∙ ap (λ l. l ++ e ∷ []) ((f.own owns).2) in
      let sight' = f.sight sees in
      let others' : (b : ℕ) (c : EndedPass C R) → get_elem? v.ended b ≡ some c → (calls_by c.number log ≡ c.calls) × (c.number ≢ me) =
      λ b c at'. let z = f.others owns b c at' in let not = apart_of vs me c.number v at sees z.2 in (calls_by-other c.number r.log e (elsewhere c.number not) ∙ z.1, not) in (
        record {
          log = log;
          state = y;
          owner = r.owner;
          legal = legal;
          count = length-append r.log (e ∷ []) ∙ ap (λ k. k + 1) r.count;
          home = λ k there. ap (λ (z : H). view_of z.machine) (sym (same_Some h k (some-injective (Some h) (Some k) (some-injective (some (Some h)) (some (Some k)) (sym (set_here homes 0 (some (Some h)) (omega arith)) ∙ there)))));
          each = each_set (IsRecorded o log y r.owner ws) vs me w
              record {
                sight = λ _. (sight'.0, ([], append-nil (v.seen ++ e ∷ []) ∙ grown), IsPrefix-append v.also r.log (e ∷ []) sight'.2, sight'.3);
                unused = λ _ no. off owns no;
                own = λ _. (sees, (f.own owns).1, own');
                others = λ _ b c at'. let z = f.others owns b c at' in (z.0, (others' b c at').0, gone_set vs me v w at sees c.number z.2);
                apart = f.apart;
                serving = λ no. off no refl;
              }
              (λ j u other at'.
              let g = r.each j u at' in
              record {
                sight = λ sees'. let z = g.sight sees' in (z.0, IsPrefix-append u.seen r.log (e ∷ []) z.1, IsPrefix-append u.also r.log (e ∷ []) z.2, z.3);
                unused = λ sees' no. calls_by-other j r.log e (elsewhere j other) ∙ g.unused sees' no;
                own = λ owns'. let z = g.own owns' in (z.0, z.1, calls_by-other j r.log e (elsewhere j other) ∙ z.2);
                others = λ owns' b c at''. let z = g.others owns' b c at'' in let not = apart_of vs me c.number v at sees z.2 in
                    (z.0, calls_by-other c.number r.log e (elsewhere c.number not) ∙ z.1, gone_set vs me v w at sees c.number z.2);
                apart = g.apart;
                serving = λ serves'. absurd (alone j u other at' serves');
              });
          unborn = λ j le'. let long : length vs ≤ j = subst (λ z. z ≤ j) (length-set vs me w) le' in let here = inside vs me v at in
              calls_by-other j r.log e (elsewhere j (λ q. omega arith)) ∙ r.unborn j long;
          held = each_and_one (HasHolder ws) r.log e
              (each_is_by (HasHolder vs) (HasHolder ws) r.log (λ n. holder_stays vs me v w n at (λ owned. (owned, refl, refl))) r.held)
              (me, w, now_at vs me v w at, owns, inl (sym by));
        },
        record {
          alive = (sees, owns);
          idle = (refl, refl, also);
          legal = (o, y, sight'.0, subst (λ l. Runs goes o l y) (sym grown) legal);
          own = ap (λ l. calls_by v.number l) grown ∙ (ap (λ z. calls_by z log) ((f.own owns).1) ∙ own');
          others = λ b c at'. let z = others' b c at' in (ap (calls_by c.number) grown ∙ z.0, (λ q. z.1 (q ∙ (f.own owns).1)));
          apart = f.apart owns;
          share = share;
        },
      )

  -- a new seat has seen a beginning of the history, and no operation has its number
  pub enters : {n : ℕ} (homes : Homes) (vs : List V) (r : One n homes vs) (w : V)
      → w.opening ≡ Some o → w.also_opening ≡ Some o → IsPrefix w.seen r.log → IsPrefix w.also r.log
      → w.owns ≡ false → w.serves ≡ false → One n homes (vs ++ w ∷ [])
  enters homes vs r w opens also begins_with more owns rests =
      let ws : List V = vs ++ w ∷ [] in
      record {
        log = r.log;
        state = r.state;
        owner = r.owner;
        legal = r.legal;
        count = r.count;
        home = r.home;
        each = λ j u e. ⊎_elim
            (λ (old : get_elem? vs j ≡ some u). more_gone o r.log r.state r.owner vs ws j u (gone_longer vs (w ∷ [])) (r.each j u old))
            (λ (new : (j ≡ length vs) × (w ≡ u)).
            subst (λ (z : V). IsRecorded o r.log r.state r.owner ws j z) new.1 record {
              sight = λ _. (opens, begins_with, more, also);
              unused = λ _ _. let here = new.0 in r.unborn j (omega arith);
              own = λ no. off no owns;
              others = λ no. off no owns;
              apart = λ no. off no owns;
              serving = λ no. off no rests;
            })
            (at_end vs w u j e);
        unborn = λ j le. let long = length-append vs (w ∷ []) in r.unborn j (omega arith);
        held = each_is_by (HasHolder vs) (HasHolder ws) r.log (λ n. holder_longer vs (w ∷ []) n) r.held;
      }

  -- a seat is spent, and another takes what it knows and holds
  merges : {n : ℕ} (homes : Homes) (vs : List V) (r : One n homes vs) (me other : ℕ) (w : V)
      (owner : ℕ → ℕ)
      → IsRecorded o r.log r.state owner (set (set vs me w) other nobody) me w
      → ((j : ℕ) (z : V) → j ≢ me → j ≢ other → get_elem? vs j ≡ some z
      → IsRecorded o r.log r.state owner (set (set vs me w) other nobody) j z)
      → ((k : ℕ) → HasHolder vs k → HasHolder (set (set vs me w) other nobody) k)
      → One n homes (set (set vs me w) other nobody)
  merges homes vs r me other w owner mine others holders =
      let us : List V = set (set vs me w) other nobody in
      let F = IsRecorded o r.log r.state owner us in
      record {
        log = r.log;
        state = r.state;
        owner = owner;
        legal = r.legal;
        count = r.count;
        home = r.home;
        each = each_set F (set vs me w) other nobody (nobody_recorded o r.log r.state owner us other)
            (λ j z n e. each_set (λ i y. i ≢ other → F i y) vs me w (λ _. mine) (λ i y n' e' n''. others i y n' n'' e') j z e n);
        unborn = λ j le. r.unborn j (subst (λ k. k ≤ j) (length-set (set vs me w) other nobody ∙ length-set vs me w) le);
        held = each_is_by (HasHolder vs) (HasHolder us) r.log holders r.held;
      }

  -- seats that are spent stay so, and the other is
  gone_both : (vs : List V) (me other : ℕ) (v u w : V) → get_elem? vs me ≡ some v
      → get_elem? (set vs me w) other ≡ some u → v.sees ≡ true → u.sees ≡ true
      → (n : ℕ) → IsGone vs n → IsGone (set (set vs me w) other nobody) n
  gone_both vs me other v u w at there sees sees' n g = gone_set (set vs me w) other u nobody there sees' n (gone_set vs me v w at sees n g)

  -- a pass learns what a note says
  pub learns : {n : ℕ} (homes : Homes) (vs : List V) (r : One n homes vs) (me other : ℕ) (v u : V)
      → get_elem? vs me ≡ some v → other ≢ me → get_elem? (set vs me (learned v u)) other ≡ some u
      → v.owns ≡ true → IsNote u
      → One n homes (set (set vs me (learned v u)) other nobody)
  learns homes vs r me other v u at apart there owns note =
      let w : V = learned v u in
      let f = r.each me v at in
      let sees = (f.own owns).0 in
      let g = r.each other u (sym (set_else vs me other w apart) ∙ there) in
      let more = gone_both vs me other v u w at there sees note.0 in
      merges homes vs r me other w r.owner
      record {
        sight = λ _. ((f.sight sees).0, (f.sight sees).1, (g.sight note.0).1, (g.sight note.0).0);
        unused = f.unused;
        own = f.own;
        others = λ h a e at'. let z = f.others h a e at' in (z.0, z.1, more e.number z.2);
        apart = f.apart;
        serving = f.serving;
      }
      (λ j z _ _ e. more_gone o r.log r.state r.owner vs (set (set vs me w) other nobody) j z more (r.each j z e))
      (λ k has. holder_set (set vs me w) other u nobody k there (λ owned. off owned note.1) (holder_stays vs me v w k at (λ owned. (owned, refl, refl)) has))

  -- a number that was held is still held after a pass is ended into another
  ended_holder : (vs : List V) (me other : ℕ) (v u : V) (n : ℕ) → get_elem? vs me ≡ some v
      → other ≢ me → get_elem? (set vs me (joined v u)) other ≡ some u → v.owns ≡ true
      → HasHolder vs n → HasHolder (set (set vs me (joined v u)) other nobody) n
  ended_holder vs me other v u n at apart there owns (i, z, here, owned, holds) =
      let w : V = joined v u in
      let there' : get_elem? vs other ≡ some u = sym (set_else vs me other w apart) ∙ there in
      let mine : get_elem? (set (set vs me w) other nobody) me ≡ some w = set_else (set vs me w) other me nobody (λ e. apart (sym e)) ∙ now_at vs me v w at in
      dite (ℕ_discrete i me)
      (λ (same : i ≡ me).
      let is : z ≡ v = same_at vs me z v (subst (λ k. get_elem? vs k ≡ some z) same here) at in
      let had : HoldsNumber v n = subst (λ (y : V). HoldsNumber y n) is holds in (
        me,
        w,
        mine,
        owns,
        ⊎_elim
            (λ (own : v.number ≡ n). inl own)
            (λ (among : IsAmong n v.ended). inr (among_first n v.ended (as_ended u ∷ u.ended) among))
            had,
      ))
      (λ (not_me : i ≢ me). dite (ℕ_discrete i other)
      (λ (same : i ≡ other).
      let is : z ≡ u = same_at vs other z u (subst (λ k. get_elem? vs k ≡ some z) same here) there' in
      let had : HoldsNumber u n = subst (λ (y : V). HoldsNumber y n) is holds in (
        me,
        w,
        mine,
        owns,
        inr (among_last n v.ended (as_ended u ∷ u.ended) (⊎_elim
            (λ (own : u.number ≡ n). inl own)
            (λ (among : IsAmong n u.ended). inr among)
            had)),
      ))
      (λ (not_other : i ≢ other). (i, z, set_else (set vs me w) other i nobody not_other ∙ (set_else vs me i w not_me ∙ here), owned, holds)))

  -- a pass is ended into another
  pub ends : {n : ℕ} (homes : Homes) (vs : List V) (r : One n homes vs) (me other : ℕ) (v u : V)
      → get_elem? vs me ≡ some v → other ≢ me → get_elem? (set vs me (joined v u)) other ≡ some u
      → v.owns ≡ true → u.owns ≡ true
      → One n homes (set (set vs me (joined v u)) other nobody)
  ends homes vs r me other v u at apart there owns owns' =
      let w : V = joined v u in
      let f = r.each me v at in
      let sees = (f.own owns).0 in
      let there' : get_elem? vs other ≡ some u = sym (set_else vs me other w apart) ∙ there in
      let g = r.each other u there' in
      let sees' = (g.own owns').0 in
      let number : u.number ≡ other = (g.own owns').1 in
      let more = gone_both vs me other v u w at there sees sees' in
      let us : List V = set (set vs me w) other nobody in
      let owner : ℕ → ℕ = λ n. either (eqb n other) me (either (eqb (r.owner n) other) me (r.owner n)) in
      let owner_other : (n : ℕ) → n ≡ other → owner n ≡ me = λ n e. ap (λ b. either b me (either (eqb (r.owner n) other) me (r.owner n))) (eq-eqb n other e) in
      let owner_else : (n : ℕ) → n ≢ other → owner n ≡ either (eqb (r.owner n) other) me (r.owner n) = λ n e. ap (λ b. either b me (either (eqb (r.owner n) other) me (r.owner n))) (ne_eqb n other e) in
      let owner_moved : (n : ℕ) → n ≢ other → r.owner n ≡ other → owner n ≡ me = λ n e h. owner_else n e ∙ ap (λ b. either b me (r.owner n)) (eq-eqb (r.owner n) other h) in
      let owner_kept : (n j : ℕ) → n ≢ other → r.owner n ≡ j → j ≢ other → owner n ≡ j = λ n j e h k. owner_else n e ∙ (ap (λ b. either b me (r.owner n)) (ne_eqb (r.owner n) other (λ q. k (sym h ∙ q))) ∙ h) in
      let alive : (n : ℕ) → IsGone vs n → n ≢ other = λ n gone. apart_of vs other n u there' sees' gone in
      let held : (a : ℕ) (e : EndedPass C R) → get_elem? w.ended a ≡ some e → (owner e.number ≡ me) × (calls_by e.number r.log ≡ e.calls) × IsGone us e.number =
      λ a e at'. ⊎_elim
      (λ (x : get_elem? v.ended a ≡ some e). let z = f.others owns a e x in (owner_kept e.number me (alive e.number z.2) z.0 (λ q. apart (sym q)), z.1, more e.number z.2))
      (λ (x : (b : ℕ) × (a ≡ length v.ended + b) × (get_elem? (as_ended u ∷ u.ended) b ≡ some e)). ⊎_elim
      (λ (y : get_elem? (as_ended u ∷ []) x.0 ≡ some e).
      subst (λ (c : EndedPass C R). (owner c.number ≡ me) × (calls_by c.number r.log ≡ c.calls) × IsGone us c.number) (one_member (as_ended u) e x.0 y)
      (owner_other u.number number, ap (λ k. calls_by k r.log) number ∙ (g.own owns').2, subst (λ k. IsGone us k) (sym number) (nobody, now_at (set vs me w) other u nobody there, refl, refl)))
      (λ (y : (b : ℕ) × (x.0 ≡ 1 + b) × (get_elem? u.ended b ≡ some e)). let z = g.others owns' y.0 e y.2 in (owner_moved e.number (alive e.number z.2) z.0, z.1, more e.number z.2))
      (at_either (as_ended u ∷ []) u.ended x.0 e x.2))
      (at_either v.ended (as_ended u ∷ u.ended) a e at') in
      merges homes vs r me other w owner
      record {
        sight = λ _. ((f.sight sees).0, (f.sight sees).1, (g.sight sees').1, (g.sight sees').0);
        unused = f.unused;
        own = f.own;
        others = λ _. held;
        apart = λ _. NoRepeat-join v.ended (as_ended u ∷ u.ended) (f.apart owns)
            (NoRepeat-join (as_ended u ∷ []) u.ended (NoRepeat-one (as_ended u)) (g.apart owns')
            (λ a b e c p q same. let z = g.others owns' b c q in alive c.number z.2 (sym same ∙ (ap (λ (k : EndedPass C R). k.number) (sym (one_member (as_ended u) e a p)) ∙ number))))
            (λ a b e c p q same. let z = f.others owns a e p in ⊎_elim
            (λ (y : get_elem? (as_ended u ∷ []) b ≡ some c). alive e.number z.2 (same ∙ (ap (λ (k : EndedPass C R). k.number) (sym (one_member (as_ended u) c b y)) ∙ number)))
            (λ (y : (d : ℕ) × (b ≡ 1 + d) × (get_elem? u.ended d ≡ some c)). let x = g.others owns' y.0 c y.2 in apart (sym x.0 ∙ (ap r.owner (sym same) ∙ z.0)))
            (at_either (as_ended u ∷ []) u.ended b c q));
        serving = f.serving;
      }
      (λ j z _ k e.
      let i = r.each j z e in
      record {
        sight = i.sight;
        unused = i.unused;
        own = i.own;
        others = λ h a c at'. let x = i.others h a c at' in (owner_kept c.number j (alive c.number x.2) x.0 k, x.1, more c.number x.2);
        apart = i.apart;
        serving = i.serving;
      })
      (λ n has. ended_holder vs me other v u n at apart there owns has)

  pub begins : (h : H) → view_of h.machine ≡ o → One 0 (some (Some h) ∷ []) (first_pass o ∷ [])
  begins h is = record {
    log = [];
    state = o;
    owner = λ _. 0;
    legal = refl;
    count = refl;
    home = λ k there. ap (λ (z : H). view_of z.machine) (sym (same_Some h k (some-injective (Some h) (Some k) (some-injective (some (Some h)) (some (Some k)) there)))) ∙ is;
    each = λ j u e. subst (λ (z : V). IsRecorded o [] o (λ _. 0) (first_pass o ∷ []) j z) (one_member (first_pass o) u j e) record {
      sight = λ _. (refl, ([], refl), ([], refl), refl);
      unused = λ _ no. off refl no;
      own = λ _. (refl, number_of j u e, refl);
      others = λ _ a c at'. absurd (some-ne-none c (sym at'));
      apart = λ _ a b c d p. absurd (some-ne-none c (sym p));
      serving = λ no. off no refl;
    };
    unborn = λ j le. refl;
    held = tt;
  }
    where
      number_of : (j : ℕ) (u : V) → get_elem? (first_pass o ∷ []) j ≡ some u → 0 ≡ j
      number_of zero u e = refl
      number_of (suc j) u e = absurd (some-ne-none u (sym e))
