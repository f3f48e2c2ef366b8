use Rattle.std.proofs.Common.{◌≤◌, length, replicate, ap, sym, subst, refl, ◌∙◌}
use Rattle.warm_devices.specs.declared.TheConstants.{MAX_PAGE_SIZE}
use Rattle.warm_pool.proofs.ZeroingLemmas.{zeros_left, loaded_there, loaded_bytes}
use Rattle.warm_pool.proofs.zeroed.install_zeros.Goals as goal

pub bytes_mut-requires : goal.bytes_mut-requires
bytes_mut-requires c = record {
  there = loaded_there c.args.frames.now c.install.new.self c.args.at c.args.page c.args.key c.args.bytes.now.items c.requires.there c.install.ensures.frames;
}

pub clear-requires : goal.clear-requires
clear-requires c =
    let size = ap length (c.bytes_mut.ensures.bytes ∙ loaded_bytes c.args.frames.now c.install.new.self c.args.at c.args.page c.args.key c.args.bytes.now.items c.requires.there c.install.ensures.frames) in
    subst (λ n. n ≤ MAX_PAGE_SIZE) (sym size) c.requires.sized

pub returns-clause-frames : goal.returns-clause-frames
returns-clause-frames c =
    let size = ap length (c.bytes_mut.ensures.bytes ∙ loaded_bytes c.args.frames.now c.install.new.self c.args.at c.args.page c.args.key c.args.bytes.now.items c.requires.there c.install.ensures.frames) in
    zeros_left c.args.frames.now c.install.new.self _ c.args.at c.args.page c.args.key c.args.bytes.now.items c.clear.new.bytes c.requires.there c.install.ensures.frames refl
    (c.clear.ensures ∙ ap (λ n. replicate n 0) size)
