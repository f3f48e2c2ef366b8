use Rattle.std.proofs.Common.{◌≡◌, ℕ, List, ◌+◌, ◌≤◌, ◌++◌, length}
use Rattle.std.specs.Io.KnownBytes.{Appends}
use Rattle.warm_player.specs.Stream.{session, ReadsOn}
use Rattle.warm_player.proofs.player.Session.feed.Given as goal

abbrev pub invariant-loop-piece : goal.invariant-loop-piece
invariant-loop-piece g l =
    let contents = g.W.Write.contents in
    record {
      goes : (taken out : List ℕ) × (l.bytes ≡ taken ++ l.rest)
          × Appends (contents l.fn.writer) (contents l.writer) out
          × ReadsOn (session l.fn.self) taken out (session l.self);
      number : l.self.number + length l.rest ≤ l.fn.self.number + length l.bytes;
    }

abbrev pub decreases-loop-piece : goal.decreases-loop-piece
decreases-loop-piece g l = length l.rest
