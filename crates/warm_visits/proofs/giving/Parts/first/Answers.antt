use Rattle.std.proofs.Common.{sym, subst}
use Rattle.warm_visits.specs.VisitParts.{IsFirstPart}
use Rattle.warm_visits.specs.declared.giving.Parts.{Parts}
use Rattle.warm_visits.proofs.VisitPlans.{first_of_entries}
use Rattle.warm_visits.proofs.giving.Parts.first.Goals as goal

pub returns-in-Entries : goal.returns-in-Entries
returns-in-Entries c =
    subst (λ (p : Parts). IsFirstPart p c.args.from c.first_some-in-Entries.result) (sym c.in-Entries.is)
    (first_of_entries c.in-Entries.field-0 c.in-Entries.parts c.args.from c.first_some-in-Entries.result c.first_some-in-Entries.ensures)
