use Rattle.std.proofs.Common.{◌≡◌, ◌<◌, ◌≤◌, ◌-◌, ◌+◌, length, set, sym, subst, arith}
use Rattle.warm_rank.specs.Keys.{key_cmp}
use Rattle.warm_rank.proofs.WinnerLemmas.{match_at, match_read, match_in_range, played_shape, play_next, ArePlayedFrom}
use Rattle.warm_rank.proofs.winners.play_all.Goals as goal

pub loop-node-preserved : goal.loop-node-preserved
loop-node-preserved c =
    let keys : _ = c.args.keys.now in
    let nodes : _ = c.loop-node.nodes.items in
    let inv : _ = c.loop-node.invariant in
    let low : 1 < c.loop-node.node = c.loop-node-test.true in
    let high : c.loop-node.node ≤ length keys = inv.high in
    let p : _ = c.loop-node.node - 1 in
    let some : 0 < p = omega arith in
    let lt : p < length keys = omega arith in
    let next : c.loop-node.node ≡ p + 1 = omega arith in
    let is : c.winner_of.result ≡ match_at key_cmp keys nodes p = match_read key_cmp keys nodes p _ _ _ inv.shape lt c.index-first.ensures c.index-second.ensures c.winner_of.ensures in
    record {
      shape = played_shape (length keys) nodes inv.shape p c.winner_of.result lt (subst (λ t. t < length keys) (sym is) (match_in_range key_cmp keys nodes inv.shape p lt));
      low = some;
      high = omega arith;
      rest = subst (λ t. ArePlayedFrom key_cmp keys (set nodes p t) p) (sym is) (play_next key_cmp keys nodes p inv.shape some lt (subst (ArePlayedFrom key_cmp keys nodes) next inv.rest));
    }
