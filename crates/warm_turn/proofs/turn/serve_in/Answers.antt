use Rattle.std.proofs.Common.{◌≡◌, refl, sym, ◌∙◌, subst}
use Rattle.std.proofs.lemmas.Option.{same_Some}
use Rattle.warm_turn.specs.declared.table.CellContents.{CellContents}
use Rattle.warm_turn.proofs.turn.serve_in.Goals as goal

pub returns : goal.returns
returns g c =
    let made = c.serve_held.ensures.made in
    let d = made.0 in
    let k = c.serve_held.new.held in
    let view_of = g.M.Machine.view in
    let goes = g.M.Machine.goes in record {
      made = (
        d.call.value,
        d.reply.value,
        made.2,
        λ h is.
            let same : c.in-Some.held ≡ h = same_Some c.in-Some.held h (sym c.in-Some.is ∙ is) in
            (k, d, refl, made.1, refl, refl, subst (λ (m : CellContents g.row.M.Denot g.row.M-Call.Denot g.row.M-Reply.Denot). goes (view_of m.machine) d.call.value d.reply.value (view_of k.machine)) same made.3),
      );
    }
