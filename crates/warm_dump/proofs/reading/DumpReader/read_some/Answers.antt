use Rattle.std.proofs.Common.{[], List, ℕ, sym, subst, append-nil}
use Rattle.std.specs.Io.KnownBytes.{Consumes}
use Rattle.std.proofs.KnownBytes.{Consumes-nil, Consumes-kept}
use Rattle.warm_dump.specs.Progress.{HasRead}
use Rattle.warm_dump.proofs.reading.DumpReader.read_some.Goals as goal

pub returns-in-Ok-eq0-clause-read : goal.returns-in-Ok-eq0-clause-read
returns-in-Ok-eq0-clause-read g c =
    let nothing : Consumes (g.R.Read.remaining c.args.reader.now) (g.R.Read.remaining c.read.new.self) [] = rw c.in-Ok-eq0.field-0-test at c.in-Ok-eq0.ensures.bytes.0 in
    ([], nothing, (λ seen read. subst (λ (w : List ℕ). HasRead w c.args.self.now) (sym (append-nil seen)) read))

pub returns-else-ne-clause-read : goal.returns-else-ne-clause-read
returns-else-ne-clause-read g c =
    let a = g.R.Read.remaining c.args.reader.now in
    ([], Consumes-kept a a (g.R.Read.remaining c.read.new.self) [] (Consumes-nil a) c.in-Err.ensures.bytes, (λ seen read. subst (λ (w : List ℕ). HasRead w c.args.self.now) (sym (append-nil seen)) read))
