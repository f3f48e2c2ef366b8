use Rattle.std.specs.Prelude.{◌≡◌, ◌++◌, flat_map}
use Rattle.std.specs.Io.KnownBytes.{Appends}
use Rattle.warm_player.specs.Answers.{entry_text}
use Rattle.warm_player.proofs.printer.print_entries.Given as goal

abbrev pub invariant-loop-entry : goal.invariant-loop-entry
invariant-loop-entry g l =
    let contents = g.W.Write.contents in
    record {
      split : l.yielded ++ l.entry-iterator ≡ l.fn.entries;
      written : Appends (contents l.fn.writer) (contents l.writer) (flat_map entry_text l.yielded);
    }
