use Rattle.warm_shards.proofs.WholeParts.{batch_is_of_parts, history_is_of_parts, message_is_of_parts}
use Rattle.warm_shards.proofs.laws.parts_are_the_whole.Goals as goal

pub returns : goal.returns
returns c = record { batch = batch_is_of_parts; message = message_is_of_parts; history = history_is_of_parts }
