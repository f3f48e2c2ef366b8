use Rattle.std.proofs.Common.{length, ap, sym, ◌∙◌}
use Rattle.std.proofs.lemmas.List.{length-map}
use Rattle.warm_rank.specs.Slots.{keys_while}
use Rattle.warm_frame_table.specs.stored.PageTable.{clear_if}
use Rattle.warm_frame_table.proofs.VacateLemmas.{vacated_seen, vacated_tied}
use Rattle.warm_frame_table.proofs.frames.Frames.vacate_selected.Goals as goal

pub clear_vacant-requires : goal.clear_vacant-requires
clear_vacant-requires c =
    ap length (c.pages.ensures ∙ c.clear_selected.ensures) ∙ length-map c.self.inside.page_table (clear_if c.args.which) ∙ sym c.self.invariant.contest_each

pub invariant_of-self : goal.invariant_of-self
invariant_of-self c =
    vacated_tied c.args.which c.self.invariant c.self.view_is c.clear_selected.ensures
    (c.clear_vacant.ensures ∙ ap (λ held. keys_while held c.self.inside.contest) c.pages.ensures)

pub returns : goal.returns
returns c = vacated_seen c.args.which c.self.invariant c.self.view_is c.clear_selected.ensures c.requires
