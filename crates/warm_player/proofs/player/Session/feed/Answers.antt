use Rattle.std.proofs.Common.{List, ℕ, [], ◌∷◌, ◌++◌, refl, sym, ◌∙◌, ap, append_assoc, length, length-append, arith}
use Rattle.warm_random.proofs.AppendLemmas.{Appends-none, Appends-then}
use Rattle.warm_player.proofs.StreamLemmas.{Goes-none, Goes-then, Goes-bytes, Goes-add}
use Rattle.warm_player.proofs.player.Session.feed.Goals as goal

pub loop-piece-init : goal.loop-piece-init
loop-piece-init g c = record {
  goes = ([], [], refl, Appends-none _, Goes-none _);
  number = omega arith;
}

pub loop-piece-preserved : goal.loop-piece-preserved
loop-piece-preserved g c =
    let so_far = c.loop-piece.invariant.goes in
    let next = c.in_ok-end_line.ensures.goes in
    let piece = c.in-Some.piece.now in
    let after = c.in-Some.after.now in
    record {
      goes = (
        so_far.0 ++ (piece ++ 10 ∷ []),
        so_far.1 ++ next.0,
        so_far.2 ∙ ap (λ (xs : List ℕ). so_far.0 ++ xs) (c.in-Some.ensures.parts ∙ sym (append_assoc piece (10 ∷ []) after)) ∙ sym (append_assoc so_far.0 (piece ++ 10 ∷ []) after),
        Appends-then _ _ _ so_far.1 next.0 so_far.3 next.1,
        Goes-then _ _ _ so_far.0 (piece ++ 10 ∷ []) so_far.1 next.0 so_far.4 next.2,
      );
      number = omega (arith, c.in_ok-end_line.ensures.number, c.loop-piece.invariant.number, ap (λ (xs : List ℕ). length xs) c.in-Some.ensures.parts, length-append piece (10 ∷ after));
    }

pub returns : goal.returns
returns g c =
    let so_far = c.loop-piece.invariant.goes in
    record {
      goes = (
        so_far.1 ++ [],
        Appends-then _ _ _ so_far.1 [] so_far.3 (Appends-none _),
        Goes-bytes _ _ _ _ (so_far.1 ++ []) (sym so_far.2) (Goes-then _ _ _ so_far.0 c.loop-piece.rest.now so_far.1 [] so_far.4 (Goes-add _ _ c.loop-piece.rest.now c.in_ok-add.ensures.adds)),
      );
      number = omega (arith, c.loop-piece.invariant.number, c.in_ok-add.ensures.number);
      stopped = tt;
    }
