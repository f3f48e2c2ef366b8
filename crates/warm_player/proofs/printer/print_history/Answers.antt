use Rattle.std.proofs.Common.{◌++◌, OnOk, length, subst}
use Rattle.std.specs.Prelude.{flat_map}
use Rattle.std.specs.Io.KnownBytes.{Appends}
use Rattle.warm_history.specs.Histories.{entries_of}
use Rattle.warm_player.specs.Answers.{entry_text, end_text}
use Rattle.warm_player.proofs.StreamLemmas.{written_then}
use Rattle.warm_player.proofs.printer.print_history.Goals as goal

pub returns : goal.returns
returns g c =
    let old = g.W.Write.contents c.args.writer.now in
    let middle = g.W.Write.contents c.print_entries.new.writer in
    let new = g.W.Write.contents c.print_end.new.writer in
    let count = length (entries_of c.args.history.now) in
    let end = subst (λ n. OnOk c.print_end.result (Appends middle new (end_text n))) c.len.ensures.count c.print_end.ensures in
    subst (λ entries. OnOk c.print_end.result (Appends old new (flat_map entry_text entries ++ end_text count))) c.iter.ensures
    (written_then c.print_end.result old middle new _ (end_text count) c.in_ok-print_entries.ensures end)
