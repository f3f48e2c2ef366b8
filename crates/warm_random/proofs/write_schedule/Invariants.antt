use Rattle.std.proofs.Common.{◌≡◌, ◌≤◌, count_by, flat_map}
use Rattle.std.specs.Io.KnownBytes.{Appends}
use Rattle.warm_random.specs.Drawing.{is_send, line_text, random_lines, seeded}
use Rattle.warm_random.proofs.write_schedule.Given as goal

abbrev pub invariant-loop-before : goal.invariant-loop-before
invariant-loop-before g l =
    let contents = g.W.Write.contents in
    let drawn = random_lines l.replicas l.workers l.before (seeded l.seed) in
    record {
      written : Appends (contents l.fn.writer) (contents l.writer) (flat_map line_text drawn.0);
      words : l.words ≡ drawn.1;
      sends : l.sends ≡ count_by is_send drawn.0;
      few : l.sends ≤ l.before;
    }
