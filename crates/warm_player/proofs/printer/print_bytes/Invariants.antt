use Rattle.std.proofs.Common.{◌≡◌, ◌++◌, ℕ, List}
use Rattle.std.specs.Prelude.{codes, flat_map}
use Rattle.std.specs.Io.KnownBytes.{Appends}
use Rattle.std.specs.Slice.Iter.{chunks_rest, chunks_size}
use Rattle.warm_player.specs.Answers.{byte_text}
use Rattle.warm_player.specs.declared.printer.TheConstants.{AT_ONCE}
use Rattle.warm_player.proofs.printer.print_bytes.Given as goal

-- the bytes before those that are left are printed
abbrev pub invariant-loop-chunk : goal.invariant-loop-chunk
invariant-loop-chunk g l =
    let contents = g.W.Write.contents in
    record {
      next : (goal.iterator-loop-chunk g).can_next l.chunk-iterator;
      finite : (goal.iterator-loop-chunk g).is_finite l.chunk-iterator;
      size : chunks_size l.chunk-iterator ≡ AT_ONCE;
      written : (done : List ℕ) × (done ++ chunks_rest l.chunk-iterator ≡ l.bytes)
          × Appends (contents l.fn.writer) (contents l.writer)
          (codes " " ++ flat_map byte_text done);
    }
