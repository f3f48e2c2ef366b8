use Rattle.std.proofs.Common.{◌≡◌, ℕ, List, vec_len}
use Rattle.std.specs.Io.KnownBytes.{Consumes}
use Rattle.warm_dump.specs.Progress.{HasRead}
use Rattle.warm_dump.proofs.reading.DumpReader.read_all.Given as goal

abbrev pub invariant-loop : goal.invariant-loop
invariant-loop g l =
    let remaining = g.R.Read.remaining in
    record {
      goes : (seen : List ℕ) × Consumes (remaining l.fn.reader) (remaining l.reader) seen × HasRead seen l.self;
      size : vec_len l.buffer ≡ 65536;
    }
