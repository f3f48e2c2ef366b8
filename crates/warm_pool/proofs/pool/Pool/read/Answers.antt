use Rattle.std.proofs.Common.{length, arith}
use Rattle.warm_pool.proofs.WriteLemmas.{read_lent}
use Rattle.warm_pool.proofs.pool.Pool.read.Goals as goal

pub returns-clause-done : goal.returns-clause-done
returns-clause-done g c = record {
  read = read_lent _ c.args.slot c.args.at c.copy_from_slice.new.self c.bytes-bytes.result.now (length c.args.into.now) _ c.bytes-bytes.ensures
      c.copy_from_slice.ensures.after (omega arith) c.copy_from_slice.ensures.len (c.is_within.ensures.0 c.if-not-is_within.false);
  len = c.copy_from_slice.ensures.len;
}
