use Rattle.std.proofs.Common.{refl}
use Rattle.warm_dump.proofs.ReadLemmas.{nothing_read}
use Rattle.warm_dump.proofs.reading.DumpReader.new.Goals as goal

pub returns : goal.returns
returns c = nothing_read _ refl c.new.ensures refl c.new-2.ensures refl refl
