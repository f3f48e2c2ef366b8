use Rattle.std.proofs.Common.{◌≤◌, replicate, ap, sym, subst, ◌∙◌}
use Rattle.warm_devices.specs.declared.TheConstants.{MAX_PAGE_SIZE}
use Rattle.warm_pool.proofs.ZeroingLemmas.{zeros_whole, zeros_fixed, written_holds}
use Rattle.warm_pool.proofs.pool.Pool.fix_zeroed.Goals as goal

pub clear-requires : goal.clear-requires
clear-requires g c = subst (λ n. n ≤ MAX_PAGE_SIZE) (sym c.bytes_mut.ensures.lent.size) c.prove_is_pool.ensures.few_bytes

pub returns-clause-fixed : goal.returns-clause-fixed
returns-clause-fixed g c =
    let is = c.clear.ensures ∙ ap (λ n. replicate n 0) c.bytes_mut.ensures.lent.size in
    let whole = zeros_whole c.add_fix.new.self c.in_ok-placed.placed.slot c.clear.new.bytes c.prove_is_pool.ensures c.in_ok-placed.ensures.holds is in
    zeros_fixed c.args.self.now c.add_fix.new.self _ c.args.at c.in_ok-placed.placed.slot c.clear.new.bytes c.requires.held whole
    c.in_ok-placed.ensures.fixed c.in_ok-placed.ensures.others c.in_ok-placed.ensures.kept.devices is

pub returns-clause-ranked : goal.returns-clause-ranked
returns-clause-ranked g c =
    let is = c.clear.ensures ∙ ap (λ n. replicate n 0) c.bytes_mut.ensures.lent.size in
    let whole = zeros_whole c.add_fix.new.self c.in_ok-placed.placed.slot c.clear.new.bytes c.prove_is_pool.ensures c.in_ok-placed.ensures.holds is in
    λ h ranked. whole.ranked h (c.in_ok-placed.ensures.ranked h ranked)

pub returns-clause-holds : goal.returns-clause-holds
returns-clause-holds g c =
    let is = c.clear.ensures ∙ ap (λ n. replicate n 0) c.bytes_mut.ensures.lent.size in
    let whole = zeros_whole c.add_fix.new.self c.in_ok-placed.placed.slot c.clear.new.bytes c.prove_is_pool.ensures c.in_ok-placed.ensures.holds is in
    written_holds _ _ c.in_ok-placed.placed.slot 0 c.clear.new.bytes whole.written c.in_ok-placed.ensures.holds
