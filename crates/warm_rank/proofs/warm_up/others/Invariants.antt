use Rattle.std.proofs.Common.{◌≡◌, ◌++◌, drop}
use Rattle.warm_rank.specs.Relisting.{keys_of_others}
use Rattle.warm_rank.proofs.warm_up.others.Given as goal

-- the keys so far and those of the other pages among the keys that are left
abbrev pub invariant-loop-key : goal.invariant-loop-key
invariant-loop-key l =
    l.others.items ++ keys_of_others l.pages (drop l.key-index l.keys) ≡ keys_of_others l.pages l.keys
