use Rattle.std.proofs.Common.{◌≡◌, vec_len}
use Rattle.std.specs.Io.KnownBytes.{Consumes}
use Rattle.warm_threads.proofs.reading.read_whole.Given as goal

-- the text is what was read so far
abbrev pub invariant-loop : goal.invariant-loop
invariant-loop g l = record {
  reads : Consumes (g.R.Read.remaining l.fn.reader) (g.R.Read.remaining l.reader) l.text.items;
  size : vec_len l.buffer ≡ 65536;
}
