use Rattle.std.proofs.Common.{◌≡◌, List, length}
use Rattle.warm_rank.specs.declared.RankKey.{RankKey}
use Rattle.warm_rank.specs.Slots.{keys_set}
use Rattle.warm_rank.proofs.VacantLemmas.{keys_so_far}
use Rattle.warm_rank.proofs.slot_keys.unset_vacant.Given as goal

-- the slots before the current one have a key only if they are occupied
abbrev pub invariant-loop-slot : goal.invariant-loop-slot
invariant-loop-slot g l = record {
  count : length l.is_set.items ≡ length l.fn.is_set.items;
  keys : (keys : List RankKey) → length keys ≡ length l.fn.is_set.items → keys_set l.is_set.items keys ≡ keys_so_far l.slot l.fn.held (keys_set l.fn.is_set.items keys);
}
