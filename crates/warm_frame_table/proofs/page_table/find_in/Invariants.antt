use Rattle.std.proofs.Common.{◌-◌, ℕ, length, Some}
use Rattle.warm_frame_table.specs.stored.Chains.{IsFirstFrom, chain_of, chains_of}
use Rattle.warm_frame_table.proofs.PlaceLemmas.{ArePassed}
use Rattle.warm_frame_table.proofs.page_table.find_in.Given as goal

-- the current frame is the next one of the chain, and no frame before it holds the page
abbrev pub invariant-loop-at : goal.invariant-loop-at
invariant-loop-at l = record {
  next : (from : ℕ) × IsFirstFrom (chains_of l.pages) (chain_of (length l.pages) (Some l.page)) from l.at;
  passed : ArePassed l.pages l.page l.at;
}

abbrev pub decreases-loop-at : goal.decreases-loop-at
decreases-loop-at l = length l.pages - l.at
