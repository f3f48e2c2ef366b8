use Rattle.std.proofs.lemmas.List.{take-replicate}
use Rattle.warm_devices.specs.declared.TheConstants.{MAX_PAGE_SIZE}
use Rattle.warm_pool.proofs.zeroed.zeros.Goals as goal

pub returns : goal.returns
returns c = take-replicate c.args.len MAX_PAGE_SIZE 0 c.requires
