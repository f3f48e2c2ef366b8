use Rattle.std.proofs.Common.{◌<◌, ◌++◌, length, vec_len, sym, ◌∙◌, arith}
use Rattle.std.proofs.KnownBytes.{Appends-trans}
use Rattle.std.proofs.lemmas.Bool.{eqb-false}
use Rattle.warm_frames.specs.declared.message.Message.TheVariants.{Entries}
use Rattle.warm_frames.specs.Encoding.{encoding}
use Rattle.warm_frames.specs.declared.layout.TheConstants.{MAX_ENTRIES}
use Rattle.warm_frames.proofs.ChunkLemmas.{chunk_fits, pages_ascend_drop}
use Rattle.warm_dump.proofs.DumpLemmas.{chunk_more, left_shorter}
use Rattle.warm_dump.proofs.writing.write_bucket.Goals as goal

pub holding-entries-requires : goal.holding-entries-requires
holding-entries-requires g c = chunk_fits _ _ c.in_ok-chunk.ensures.chunk c.loop-chunk.invariant.rise

pub loop-chunk-smaller-in_ok-write_message : goal.loop-chunk-smaller-in_ok-write_message
loop-chunk-smaller-in_ok-write_message g c =
    let some : 0 < length c.in_ok-chunk.chunk.items = omega (arith, eqb-false (vec_len c.in_ok-chunk.chunk) 0 (sym c.is_empty.ensures ∙ c.if-is_empty.false), c.in_ok-chunk.chunk.ok.0) in
    left_shorter _ _ _ c.in_ok-chunk.ensures.chunk c.in_ok-chunk.ensures.left some

pub loop-chunk-preserved-in_ok-write_message : goal.loop-chunk-preserved-in_ok-write_message
loop-chunk-preserved-in_ok-write_message g c =
    let some : 0 < length c.in_ok-chunk.chunk.items = omega (arith, eqb-false (vec_len c.in_ok-chunk.chunk) 0 (sym c.is_empty.ensures ∙ c.if-is_empty.false), c.in_ok-chunk.chunk.ok.0) in
    let before = c.loop-chunk.invariant.goes in
    let written = rw c.holding-entries.ensures at c.in_ok-write_message.ensures.written in
    record {
      rise = pages_ascend_drop MAX_ENTRIES _ _ c.in_ok-chunk.ensures.left c.loop-chunk.invariant.rise;
      goes = (
        before.0 ++ encoding (Entries c.args.sender c.args.horizon c.in_ok-chunk.chunk.items),
        Appends-trans (g.W.Write.contents c.args.writer.now) (g.W.Write.contents c.loop-chunk.writer) (g.W.Write.contents c.write_message.new.writer) before.0 (encoding (Entries c.args.sender c.args.horizon c.in_ok-chunk.chunk.items)) before.1 written,
        chunk_more c.args.sender c.args.horizon before.0 _ _ _ _ c.in_ok-chunk.ensures.chunk c.in_ok-chunk.ensures.left some before.2,
      );
    }
