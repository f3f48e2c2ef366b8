use Rattle.std.proofs.Common.{ℕ, ◌<◌, Some, get_or, length, sym, subst, arith}
use Rattle.std.proofs.lemmas.Bool.{false≢true}
use Rattle.warm_frame_table.specs.stored.Chains.{IsFirstFrom, chain_of, chains_of}
use Rattle.warm_frame_table.proofs.PlaceLemmas.{passed_first, passed_more, next_in_chain}
use Rattle.warm_frame_table.proofs.page_table.find_in.Goals as goal

pub loop-at-init : goal.loop-at-init
loop-at-init c =
    let pages = c.args.pages.now in
    let b : ℕ = chain_of (length pages) (Some c.args.page) in
    let first : IsFirstFrom (chains_of pages) b 0 (get_or c.args.heads.now c.chain_of.result 0) =
    subst (λ n. IsFirstFrom (chains_of pages) b 0 (get_or c.args.heads.now n 0)) (sym c.chain_of.ensures.is)
    (c.requires.chains.heads_are b (subst (λ n. n < length c.args.heads.now) c.chain_of.ensures.is (omega arith)))
    in
    record { next = (0, first); passed = passed_first pages c.args.page _ first }

pub loop-at-preserved : goal.loop-at-preserved
loop-at-preserved c =
    let next = next_in_chain c.args.pages.now c.args.heads.now c.args.next.now c.args.page _ c.loop-at.at c.requires c.loop-at-test.true c.loop-at.invariant.next.1 in
    record {
      next = (_, next);
      passed = passed_more c.args.pages.now c.args.page c.loop-at.at _ c.loop-at.invariant.passed (λ is. false≢true (c.if-holds.ensures.1 is)) next;
    }
