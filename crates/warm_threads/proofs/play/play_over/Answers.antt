use Rattle.std.proofs.Common.{◌≡◌, length, map, arith}
use Rattle.std.proofs.lemmas.List.{length-map}
use Rattle.warm_threads.proofs.NumberLemmas.{triples_length}
use Rattle.warm_threads.proofs.play.play_over.Goals as goal

pub returns-clause-each : goal.returns-clause-each
returns-clause-each g c =
    let view = g.M.Machine.view in
    let many : length (map view c.in_ok-machines.machines.items) ≡ length (map view c.args.machines.items) = triples_length _ _ _ _ c.in_ok-machines.ensures in
    omega (arith, many, length-map c.in_ok-machines.machines.items view, length-map c.args.machines.items view, c.requires)
