use Rattle.std.proofs.Common.{◌≡◌, ◌+◌, ℕ, cond, List, [], ◌∷◌, ◌++◌, count_by, flat_map, refl, ap, ◌∙◌, subst, arith}
use Rattle.std.specs.Io.KnownBytes.{Appends}
use Rattle.std.specs.Int.{from_bool}
use Rattle.rand_pcg.specs.Lcg.{Lcg}
use Rattle.warm_random.specs.Drawing.{is_send, line, line_text, random_lines, seeded}
use Rattle.warm_random.proofs.AppendLemmas.{Appends-none, Appends-then}
use Rattle.warm_random.proofs.DrawnLineLemmas.{draws_more, one_if, one_at_most, sends_more, text_more}
use Rattle.warm_random.specs.declared.DrawnLine.{DrawnLine}
use Rattle.warm_random.proofs.write_schedule.Goals as goal

pub loop-before-init : goal.loop-before-init
unfolding random_lines
loop-before-init g c = record {
  written = Appends-none _;
  words = c.new-words.ensures;
  sends = refl;
  few = omega arith;
}

pub loop-before-preserved : goal.loop-before-preserved
loop-before-preserved g c =
    let so_far = c.loop-before.invariant in
    let contents = g.W.Write.contents in
    let before = c.loop-before.before in
    let start : Lcg = seeded c.args.seed in
    let next = c.draw_line-line.result in
    let drawn = random_lines c.args.replicas c.args.workers before start in
    let line_drawn : (next, c.draw_line-line.new.words) ≡ line c.args.replicas c.args.workers (before + 1) c.loop-before.sends c.loop-before.words =
    rw (← c.from.ensures, ← c.from-in-loop-before.ensures) c.draw_line-line.ensures in
    let more : (drawn.0 ++ next ∷ [], c.draw_line-line.new.words) ≡ random_lines c.args.replicas c.args.workers (before + 1) start =
    draws_more c.args.replicas c.args.workers before c.loop-before.sends next start c.loop-before.words c.draw_line-line.new.words so_far.words so_far.sends line_drawn in
    let all = ap (λ (x : List DrawnLine × Lcg). x.0) more in
    let one : c.from-sends.result ≡ cond (is_send next) 1 0 = one_if (is_send next) c.from-sends.result (c.from-sends.ensures ∙ ap from_bool c.is_send.ensures) in
    record {
      written = subst (λ (t : List ℕ). Appends (contents c.args.writer.now) (contents c.write_to.new.writer) t) (text_more drawn.0 next ∙ ap (flat_map line_text) all)
          (Appends-then _ _ _ (flat_map line_text drawn.0) (line_text next) so_far.written (c.in_ok-write_to.ensures));
      words = ap (λ (x : List DrawnLine × Lcg). x.1) more;
      sends = sends_more drawn.0 next c.loop-before.sends c.from-sends.result so_far.sends one ∙ ap (count_by is_send) all;
      few = omega (arith, so_far.few, one_at_most next c.from-sends.result one);
    }
