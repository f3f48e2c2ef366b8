use Rattle.std.proofs.Common.{◌≡◌, ◌≢◌, ◌<◌, ◌+◌, ◌/◌, ◌*◌, length, set, sym, ap, subst, refl, ◌∙◌, arith, get_or-set_other}
use Rattle.warm_rank.specs.Keys.{key_cmp}
use Rattle.warm_rank.specs.WinnerTree.{IsPlayedBut}
use Rattle.warm_rank.proofs.WinnerLemmas.{match_at, match_read, match_in_range, played_shape, play_step, played_out, changed_leaf, settled, path_up, read_below}
use Rattle.warm_rank.proofs.winners.play_above.Goals as goal

pub loop-node-init : goal.loop-node-init
loop-node-init c =
    let begin = changed_leaf key_cmp c.args.keys.now c.args.nodes.now.items c.args.slot c.requires.changed c.requires.range in
    record {
      shape = begin.shape;
      high = omega (arith, c.requires.range);
      rest = subst (λ n. IsPlayedBut key_cmp c.args.keys.now c.args.nodes.now.items (n + c.args.slot)) (sym c.len.ensures) begin.rest;
      path = (0, ap (λ n. n + c.args.slot) (sym c.len.ensures));
      same = λ j lt. refl;
    }

pub winner_of-now-requires-clause-first : goal.winner_of-now-requires-clause-first
winner_of-now-requires-clause-first c = read_below (length c.args.keys.now) c.loop-node.nodes.items c.loop-node.invariant.shape (2 * (c.loop-node.node / 2)) _ (omega (arith, c.loop-node.invariant.high)) c.index-first.ensures

pub winner_of-now-requires-clause-second : goal.winner_of-now-requires-clause-second
winner_of-now-requires-clause-second c = read_below (length c.args.keys.now) c.loop-node.nodes.items c.loop-node.invariant.shape (2 * (c.loop-node.node / 2) + 1) _ (omega (arith, c.loop-node.invariant.high)) c.index-second.ensures

pub loop-node-preserved : goal.loop-node-preserved
loop-node-preserved c =
    let keys : _ = c.args.keys.now in
    let nodes : _ = c.loop-node.nodes.items in
    let inv : _ = c.loop-node.invariant in
    let low : 1 < c.loop-node.node = c.loop-node-test.true in
    let high : c.loop-node.node < 2 * length keys = inv.high in
    let p : _ = c.loop-node.node / 2 in
    let lt : p < length keys = omega (arith, high) in
    let is : c.winner_of-now.result ≡ match_at key_cmp keys nodes p = match_read key_cmp keys nodes p _ _ _ inv.shape lt c.index-first.ensures c.index-second.ensures c.winner_of-now.ensures in
    record {
      shape = played_shape (length keys) nodes inv.shape p c.winner_of-now.result lt (subst (λ t. t < length keys) (sym is) (match_in_range key_cmp keys nodes inv.shape p lt));
      high = omega (arith, high);
      rest = subst (λ t. IsPlayedBut key_cmp keys (set nodes p t) p) (sym is) (play_step key_cmp keys nodes c.loop-node.node inv.shape low high inv.rest);
      path = path_up (length keys + c.args.slot) c.loop-node.node inv.path;
      same = λ j below. let other : j ≢ p = omega (arith, below) in let under : j < c.loop-node.node = omega (arith, below, low) in get_or-set_other nodes p j c.winner_of-now.result 0 other ∙ inv.same j under;
    }

pub returns-then-is_settled : goal.returns-then-is_settled
returns-then-is_settled c =
    let keys : _ = c.args.keys.now in
    let nodes : _ = c.loop-node.nodes.items in
    let inv : _ = c.loop-node.invariant in
    let p : _ = c.loop-node.node / 2 in
    let high : c.loop-node.node < 2 * length keys = inv.high in
    let lt : p < length keys = omega (arith, high) in
    let is : c.winner_of-now.result ≡ match_at key_cmp keys nodes p = match_read key_cmp keys nodes p _ _ _ inv.shape lt c.index-first.ensures c.index-second.ensures c.winner_of-now.ensures in
    settled key_cmp keys c.args.nodes.now.items nodes c.args.slot c.loop-node.node _ c.winner_of-now.result c.requires.changed c.requires.range inv.shape inv.rest inv.path inv.same c.loop-node-test.true high c.index-before.ensures is (c.is_settled.ensures c.if-is_settled.true)

pub returns : goal.returns
returns c = played_out key_cmp c.args.keys.now c.loop-node.nodes.items c.loop-node.node c.loop-node.invariant.shape c.loop-node-test.false c.loop-node.invariant.rest
