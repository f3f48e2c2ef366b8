use Rattle.std.proofs.Common.{◌∙◌, ◌∷◌, ◌++◌, [], ap, sym, subst, append_assoc}
use Rattle.std.specs.Prelude.{flat_map}
use Rattle.std.specs.Io.KnownBytes.{Appends}
use Rattle.std.proofs.lemmas.Grind.{flat_map-append}
use Rattle.std.proofs.lemmas.List.{append-nil}
use Rattle.std.proofs.lemmas.List.Concat.{flat_map-cons}
use Rattle.warm_random.proofs.AppendLemmas.{Appends-none, Appends-then}
use Rattle.warm_player.specs.Answers.{entry_text}
use Rattle.warm_player.proofs.printer.print_entries.Goals as goal

pub loop-entry-init : goal.loop-entry-init
loop-entry-init g c = record {
  split = c.into_iter-entry-iterator.ensures.into_iter_gives;
  written = Appends-none (g.W.Write.contents c.args.writer.now);
}

pub loop-entry-preserved : goal.loop-entry-preserved
loop-entry-preserved g c =
    let contents = g.W.Write.contents in
    let so_far = c.loop-entry.yielded in
    let entry = c.in-Some.entry in
    let last = flat_map-append entry_text so_far (entry ∷ []) ∙ ap (λ t. flat_map entry_text so_far ++ t) (flat_map-cons entry_text entry [] ∙ append-nil (entry_text entry)) in
    record {
      split = append_assoc so_far (entry ∷ []) c.next.new.self ∙ (ap (λ r. so_far ++ r) (sym c.in-Some.ensures.steps) ∙ c.loop-entry.invariant.split);
      written = subst (λ t. Appends (contents c.args.writer.now) (contents c.print_entry.new.writer) t) (sym last)
          (Appends-then (contents c.args.writer.now) (contents c.loop-entry.writer) (contents c.print_entry.new.writer) (flat_map entry_text so_far) (entry_text entry) c.loop-entry.invariant.written c.in_ok-print_entry.ensures);
    }
