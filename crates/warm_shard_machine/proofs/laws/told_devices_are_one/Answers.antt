use Rattle.warm_shard_machine.proofs.ToldDeviceLemmas.{told_are_one}
use Rattle.warm_shard_machine.proofs.laws.told_devices_are_one.Goals as goal

pub returns : goal.returns
returns c = told_are_one
