use Rattle.std.proofs.Common.{◌≡◌, ◌∙◌, ◌++◌, ℕ, List, [], ap, sym, subst, append_assoc, rules}
use Rattle.std.specs.Prelude.{codes, flat_map}
use Rattle.std.specs.Io.KnownBytes.{Appends}
use Rattle.std.proofs.lemmas.Grind.{flat_map-append}
use Rattle.std.proofs.lemmas.List.{append-nil, nil_from_length}
use Rattle.warm_random.proofs.AppendLemmas.{Appends-then}
use Rattle.warm_player.specs.Answers.{byte_text}
use Rattle.warm_player.proofs.HexDigitLemmas.{some_text}
use Rattle.warm_player.proofs.SplitLemmas.{some_bytes}
use Rattle.warm_player.proofs.printer.print_bytes.Goals as goal

pub loop-chunk-init : goal.loop-chunk-init
loop-chunk-init g c = record {
  next = search rules;
  finite = search rules;
  size = search rules;
  written = ([], search rules, search rules);
}

pub loop-chunk-preserved : goal.loop-chunk-preserved
loop-chunk-preserved g c =
    let contents = g.W.Write.contents in
    let so_far = c.loop-chunk.invariant.written in
    let chunk = c.in-Some.chunk.now in
    let steps = c.in-Some.ensures.steps in
    let text : (codes " " ++ flat_map byte_text so_far.0) ++ flat_map byte_text chunk ≡ codes " " ++ flat_map byte_text (so_far.0 ++ chunk) =
    append_assoc (codes " ") (flat_map byte_text so_far.0) (flat_map byte_text chunk) ∙ ap (λ (t : List ℕ). codes " " ++ t) (sym (flat_map-append byte_text so_far.0 chunk)) in
    record {
      next = search rules;
      finite = search rules;
      size = steps.0 ∙ c.loop-chunk.invariant.size;
      written = (
        so_far.0 ++ chunk,
        append_assoc so_far.0 chunk _ ∙ ap (λ (rest : List ℕ). so_far.0 ++ rest) (sym steps.1.0) ∙ so_far.1,
        subst (λ (t : List ℕ). Appends (contents c.args.writer.now) (contents c.print_digits.new.writer) t) text
            (Appends-then _ (contents c.loop-chunk.writer) _ _ (flat_map byte_text chunk) so_far.2 c.in_ok-print_digits.ensures),
      );
    }

pub returns : goal.returns
returns g c =
    let contents = g.W.Write.contents in
    let so_far = c.loop-chunk.invariant.written in
    let none = nil_from_length _ c.in-None.ensures.steps.1.0 in
    let all : so_far.0 ≡ c.args.bytes.now = sym (append-nil so_far.0) ∙ ap (λ (rest : List ℕ). so_far.0 ++ rest) (sym none) ∙ so_far.1 in
    let text = ap (λ (bytes : List ℕ). codes " " ++ flat_map byte_text bytes) all ∙ sym (some_text c.args.bytes.now (some_bytes _ _ c.is_empty.ensures c.if-is_empty.false)) in
    subst (λ (t : List ℕ). Appends (contents c.args.writer.now) (contents c.loop-chunk.writer) t) text so_far.2
