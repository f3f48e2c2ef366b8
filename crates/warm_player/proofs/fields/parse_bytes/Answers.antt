use Rattle.std.proofs.Common.{List, ℕ, Option, ap, arith, length, length-append, sym, ◌∙◌}
use Rattle.std.specs.Option.{ok_or}
use Rattle.warm_player.specs.Fields.{hex_pairs}
use Rattle.warm_player.proofs.HexReadingLemmas.{one_more, read_all, some_digits, with_read}
use Rattle.warm_player.specs.declared.parse.LineFault.TheVariants.{Bad}
use Rattle.warm_player.proofs.fields.parse_bytes.Goals as goal

pub loop-byte-preserved : goal.loop-byte-preserved
loop-byte-preserved c = record {
  read = rw c.push_reserved.ensures.items (sym (ap (with_read c.loop-byte.bytes.items) c.in-Some.ensures.spelled ∙ one_more c.loop-byte.bytes.items c.in-Some.byte (hex_pairs c.in-Some.after.now)) ∙ c.loop-byte.invariant.read);
  size = omega (arith, simp length-append at (ap (λ (xs : List ℕ). length xs) c.push_reserved.ensures.items), c.in-Some.ensures.shorter, c.loop-byte.invariant.size);
  capacity = omega (arith, c.push_reserved.ensures.capacity, c.loop-byte.invariant.capacity);
}

pub returns : goal.returns
returns c =
    let spells = sym c.spells_bytes.ensures ∙ c.if-not-spells_bytes.false in
    rw c.of.ensures (ap (λ (o : Option (List ℕ)). ok_or o Bad) (read_all c.loop-byte.bytes.items c.args.word.now c.loop-byte.rest.now spells (some_digits c.args.word.now spells) c.in_default.ensures.spelled c.loop-byte.invariant.read))
