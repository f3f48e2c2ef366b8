use Rattle.warm_world.proofs.RunLemmas.{runs_are_right}
use Rattle.warm_player.specs.Text.{lines}
use Rattle.warm_player.proofs.RunLemmas.{run_of_lines}
use Rattle.warm_player.proofs.laws.play_is_run.Goals as goal

pub returns : goal.returns
returns c = λ state last text out printed.
    let r = run_of_lines state last 1 (lines text) out printed in
    record { events = r.events; answers = r.answers; lines_are = r.lines_are; run = r.run; right = runs_are_right state r.events r.answers last r.run }
