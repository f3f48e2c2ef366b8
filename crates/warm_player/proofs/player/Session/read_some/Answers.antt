use Rattle.std.proofs.Common.{[]}
use Rattle.std.specs.Io.KnownBytes.{Consumes}
use Rattle.warm_random.proofs.AppendLemmas.{Appends-none}
use Rattle.warm_player.proofs.StreamLemmas.{Consumes-kept, Goes-none}
use Rattle.warm_player.proofs.player.Session.read_some.Goals as goal

pub returns-in-Ok-eq0-clause-goes : goal.returns-in-Ok-eq0-clause-goes
returns-in-Ok-eq0-clause-goes g c =
    let nothing : Consumes (g.R.Read.remaining c.args.reader.now) (g.R.Read.remaining c.read.new.self) [] = rw c.in-Ok-eq0.field-0-test at c.in-Ok-eq0.ensures.bytes.0 in
    ([], [], nothing, Appends-none _, Goes-none _)

pub returns-else-ne-clause-goes : goal.returns-else-ne-clause-goes
returns-else-ne-clause-goes g c = ([], [], Consumes-kept _ _ c.in-Err.ensures.bytes, Appends-none _, Goes-none _)
