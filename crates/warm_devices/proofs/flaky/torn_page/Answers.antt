use Rattle.std.proofs.lemmas.List.{take-replicate}
use Rattle.warm_devices.specs.declared.TheConstants.{MAX_PAGE_SIZE}
use Rattle.warm_devices.proofs.flaky.torn_page.Goals as goal

pub returns : goal.returns
returns c = take-replicate c.args.len MAX_PAGE_SIZE 238 c.requires
