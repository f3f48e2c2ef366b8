use Rattle.std.proofs.Common.{sym, ◌∙◌}
use Rattle.std.proofs.lemmas.Slice.Eq.{slice_eq-Decides, bytes_eq-Decides}
use Rattle.warm_dump.proofs.builder.has_digests.Goals as goal

pub returns-clause-same : goal.returns-clause-same
returns-clause-same c =
    let same = slice_eq-Decides bytes_eq-Decides c.in_ok-own.own c.args.table.now c.eq.result c.eq.ensures in
    ((λ yes. sym (same.0 yes) ∙ c.in_ok-own.ensures), (λ is. same.1 (c.in_ok-own.ensures ∙ sym is)))
