use Rattle.std.proofs.Common.{ℕ, ◌≡◌, ◌<◌, ◌-◌, suc, length, replicate, sym, ap, ◌∙◌, subst, arith}
use Rattle.std.proofs.lemmas.List.{length-replicate}
use Rattle.warm_frame_table.specs.stored.Chains.{AreChains}
use Rattle.warm_frame_table.proofs.PlaceLemmas.{count_chains}
use Rattle.warm_frame_table.proofs.RelinkLemmas.{linked_from, length-linked_from, not_yet, none_yet, comes_before_all, linked_next}
use Rattle.warm_frame_table.proofs.page_table.link_all.Goals as goal

pub loop-frame-init : goal.loop-frame-init
loop-frame-init g c =
    let pages : _ = c.args.pages.now in
    let heads : _ = c.clear_heads.new.heads.items in
    let next : _ = c.args.next.now.items in
    let room : ℕ = length c.args.heads.now.items in
    let count : length g.frames ≡ length pages = ap length c.requires.0 ∙ count_chains pages in
    let none : heads ≡ replicate room (length g.frames) = c.clear_heads.ensures ∙ ap (replicate room) (sym count) in
    let chains = none_yet g.frames heads next room none (c.requires.1.1.1 ∙ sym count) in
    record {
      high = omega arith;
      size = ap length none ∙ length-replicate room (length g.frames) ∙ c.requires.1.1.0;
      chains = subst (λ n. AreChains (linked_from n (length heads) g.frames) heads next) count chains;
    }

pub link-requires : goal.link-requires
link-requires g c =
    let f : ℕ = c.loop-frame.frame - 1 in
    let out : ℕ = length c.loop-frame.heads.items in
    let count : length g.frames ≡ length c.args.pages.now = ap length c.requires.0 ∙ count_chains c.args.pages.now in
    let lt : f < length g.frames = omega (arith, c.loop-frame.invariant.high) in
    let wide = length-linked_from (suc f) out g.frames in
    let next : c.loop-frame.frame ≡ suc f = omega arith in
    let chain : c.chain_of-chain.result < out = omega (arith, c.chain_of-chain.ensures.low, c.loop-frame.invariant.size) in (
      omega (arith, wide),
      (
        chain,
        (
          not_yet (suc f) out g.frames f (omega arith) lt,
          (
            subst (λ n. AreChains (linked_from n out g.frames) c.loop-frame.heads.items c.loop-frame.next.items) next c.loop-frame.invariant.chains,
            comes_before_all g.frames f out c.chain_of-chain.result lt chain,
          ),
        ),
      ),
    )

pub loop-frame-preserved : goal.loop-frame-preserved
loop-frame-preserved g c =
    let f : ℕ = c.loop-frame.frame - 1 in
    let lt : f < length c.args.pages.now = omega (arith, c.loop-frame.invariant.high) in
    record {
      high = omega (arith, c.loop-frame.invariant.high);
      size = c.link.ensures.size ∙ c.loop-frame.invariant.size;
      chains = linked_next g.frames c.args.pages.now _ _ f _ c.chain_of-chain.result c.requires.0 lt c.chain_of-chain.ensures.is c.link.ensures.size c.link.ensures.chains;
    }
