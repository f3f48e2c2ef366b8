use Rattle.std.proofs.Common.{take}
use Rattle.std.specs.Io.KnownBytes.{Appends}
use Rattle.warm_player.specs.Answers.{pages_text}
use Rattle.warm_player.proofs.printer.print_pages.Given as goal

abbrev pub invariant-loop-page : goal.invariant-loop-page
invariant-loop-page g l =
    let contents = g.W.Write.contents in
    Appends (contents l.fn.writer) (contents l.writer) (pages_text (take l.page-index l.pages))
