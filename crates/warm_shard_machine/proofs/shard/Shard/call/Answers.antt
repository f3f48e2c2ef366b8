use Rattle.std.proofs.Common.{refl, subst, sym}
use Rattle.warm_shard_machine.specs.ShardSteps.{ShardState, ShardStep, shard_over}
use Rattle.warm_shard_machine.specs.declared.calls.ShardReply.{ShardReply}
use Rattle.warm_shard_machine.specs.declared.calls.ShardReply.TheVariants.{Refused}
use Rattle.warm_shard_machine.proofs.ShardStepLemmas.{made_step}
use Rattle.warm_shard_machine.proofs.shard.Shard.call.Goals.{in-Ok, in-Err}
use Rattle.warm_shard_machine.proofs.shard.Shard.call.Goals as goal

pub returns : goal.returns
returns g c =
    let s = c.self.inside in
    let o = shard_over s.count s.number s.node in
    let is = shard_over s.count s.number c.answer.new.node in
    let all : ShardStep o c.args.call c.match-answer.result is = elim c.match-answer.branch [
      | in-Ok w ↦ subst (λ (r : ShardReply). ShardStep o c.args.call r is) (sym w.result-is) (made_step o c.answer.new.node c.args.call w.in-Ok.reply (c.if-not-is_own.ensures.0 refl) w.in-Ok.ensures)
      | in-Err w ↦ subst (λ (r : ShardReply). ShardStep o c.args.call r is) (sym w.result-is) (made_step o c.answer.new.node c.args.call (Refused w.in-Err.fault) (c.if-not-is_own.ensures.0 refl) w.in-Err.ensures)
    ] in
    subst (λ (x : ShardState). ShardStep x c.args.call c.match-answer.result is) c.self.view_is all
