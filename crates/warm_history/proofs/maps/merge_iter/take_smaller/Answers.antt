use Rattle.std.proofs.Common.{rules}
use Rattle.warm_history.proofs.maps.MergeIterLemmas.{takes_other, takes_one}
use Rattle.warm_history.proofs.maps.merge_iter.take_smaller.Goals as goal

pub returns-then-is_later-clause-first : goal.returns-then-is_later-clause-first
returns-then-is_later-clause-first g c = search (rules, takes_other, takes_one)

pub returns-then-is_later-clause-rest : goal.returns-then-is_later-clause-rest
returns-then-is_later-clause-rest g c = search (rules, takes_other, takes_one)

pub returns-clause-first : goal.returns-clause-first
returns-clause-first g c = search (rules, takes_other, takes_one)

pub returns-clause-rest : goal.returns-clause-rest
returns-clause-rest g c = search (rules, takes_other, takes_one)
