use Rattle.std.proofs.Common.{◌≡◌, ◌+◌, ◌-◌, length, refl, arith}
use Rattle.warm_player.specs.declared.parse.TheConstants.{MAX_LINE}
use Rattle.warm_player.proofs.StreamLemmas.{adds_held}
use Rattle.warm_player.proofs.player.Session.add.Goals as goal

pub returns-clause-adds : goal.returns-clause-adds
returns-clause-adds g c =
    let line = c.args.self.now.line in
    let left : c.saturating_sub-left.result ≡ MAX_LINE + 1 - length line.items = omega (arith, line.ok.0, c.len.ensures, c.saturating_sub-left.ensures) in
    adds_held _ _ c.args.piece.now c.saturating_sub-left.result c.min-kept.result c.requires refl refl left c.min-kept.ensures c.in_ok-extend_from_slice.ensures.items
