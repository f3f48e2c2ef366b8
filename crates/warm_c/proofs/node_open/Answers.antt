use Rattle.std.proofs.Common.{rules, to_z, of_z, w32}
use Rattle.warm_gossip.specs.declared.fault.NodeFault.TheVariants.{Memory}
use Rattle.warm_c_base.specs.declared.status.Refusal.TheVariants.{Node}
use Rattle.warm_c_calls.specs.Opening.{open_request}
use Rattle.warm_c.proofs.HandleLemmas.{open_refused}
use Rattle.warm_c.proofs.node_open.Goals as goal

pub returns : goal.returns
returns c =
    open_refused (open_request c.args.replica c.args.frames c.args.page_size c.args.devices.now) c.args.handle.now.held.node c.take.new.self.held.node
    (to_z w32 (of_z w32 c.status_of-in-Err-new.result)) (Node Memory) (search rules) (search rules) (search rules) tt
