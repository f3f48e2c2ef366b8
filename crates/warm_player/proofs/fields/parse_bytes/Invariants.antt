use Rattle.std.proofs.Common.{◌≡◌, ◌+◌, ◌*◌, ◌≤◌, ◌/◌, length, vec_capacity}
use Rattle.warm_player.specs.Fields.{hex_pairs}
use Rattle.warm_player.proofs.HexReadingLemmas.{with_read}
use Rattle.warm_player.proofs.fields.parse_bytes.Given as goal

abbrev pub invariant-loop-byte : goal.invariant-loop-byte
invariant-loop-byte l = record {
  read : with_read l.bytes.items (hex_pairs l.rest) ≡ hex_pairs l.word;
  size : 2 * length l.bytes.items + length l.rest ≡ length l.word;
  capacity : length l.word / 2 ≤ vec_capacity l.bytes;
}

abbrev pub decreases-loop-byte : goal.decreases-loop-byte
decreases-loop-byte l = length l.rest
