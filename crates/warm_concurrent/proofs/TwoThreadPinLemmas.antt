-- Two threads that unpin what the other pinned, and one that closes: no page is pinned.
use Rattle.std.proofs.Common.{◌≡◌, ℕ, List, [], ◌∷◌, length, refl, ◌∙◌, arith}
use Rattle.warm_shard_machine.specs.declared.calls.ShardCall.TheVariants.{Pin, Unpin}
use Rattle.warm_shard_machine.specs.declared.calls.ShardReply.TheVariants.{Done, Pinned}
use Rattle.warm_concurrent.specs.Attached.{AttachedView, ShardPass}
use Rattle.warm_concurrent.specs.Pins.{IsCounted, TwoThreadsUnpin}
use Rattle.warm_concurrent.specs.Rights.{Come, HasWholeRight, Threads}
use Rattle.warm_concurrent.proofs.ClosedPinLemmas.{closes_unpinned}
use Rattle.warm_concurrent.proofs.CloseRightLemmas.{alone_has_all, calls_keep}
use Rattle.warm_concurrent.proofs.ThreadPinLemmas.{pins_are_counted}
use Rattle.warm_concurrent.proofs.TwoThreadBatchLemmas.{moves_there}

-- a thread with these passes, which counts this many pins
abbrev thread : List ShardPass → ℕ → AttachedView
thread passes pins = record { passes = passes; pins = pins }

pub two_threads_unpin : TwoThreadsUnpin
two_threads_unpin opened turns first here there mine yours done other all i j p q a b results opens none start halved split in_i in_j pinned also unpinned back joined are closes =
    let here_long : length here ≡ length turns = halved.count ∙ start.count in
    let there_long : length there ≡ length turns = split.count ∙ start.count in
    let ours = calls_keep.called here mine i (Pin p) (Pinned a) (omega (arith, in_i, here_long)) pinned in
    let theirs = calls_keep.called there yours j (Pin q) (Pinned b) (omega (arith, in_j, there_long)) also in
    let mine_long : length mine ≡ length turns = ours.count ∙ here_long in
    let yours_long : length yours ≡ length turns = theirs.count ∙ there_long in
    let ours_gone = calls_keep.called mine done j (Unpin b) Done (omega (arith, in_j, mine_long)) unpinned in
    let theirs_gone = calls_keep.called yours other i (Unpin a) Done (omega (arith, in_i, yours_long)) back in
    let done_long : length done ≡ length turns = ours_gone.count ∙ mine_long in
    let other_long : length other ≡ length turns = theirs_gone.count ∙ yours_long in
    let between : List Threads = (here ∷ there ∷ []) ∷ (mine ∷ there ∷ []) ∷ (mine ∷ yours ∷ []) ∷ (done ∷ yours ∷ []) ∷ (done ∷ other ∷ []) ∷ (all ∷ []) ∷ [] in
    let come : Come (first ∷ []) between (all ∷ []) = (
      moves_there [] (first ∷ []) (here ∷ there ∷ []) [] (halved, split),
      (
        moves_there [] (here ∷ []) (mine ∷ []) (there ∷ []) ours,
        (
          moves_there (mine ∷ []) (there ∷ []) (yours ∷ []) [] theirs,
          (
            moves_there [] (mine ∷ []) (done ∷ []) (yours ∷ []) ours_gone,
            (
              moves_there (done ∷ []) (yours ∷ []) (other ∷ []) [] theirs_gone,
              (moves_there [] (done ∷ other ∷ []) (all ∷ []) [] joined, refl),
            ),
          ),
        ),
      ),
    ) in
    let right : HasWholeRight (length turns) all = alone_has_all turns first all between start come in
    let law = pins_are_counted in
    let ours_first : IsCounted (thread here 0) = law.counts 0 0 (thread first 0) (thread here 0) (law.shared turns first start) (law.halved first here halved) refl in
    let ours_one : IsCounted (thread mine 1) = law.counts 1 0 (thread here 0) (thread mine 1) ours_first ((law.calls here mine).called i (Pin p) (Pinned a) (omega (arith, in_i, here_long)) pinned) refl in
    let ours_none : IsCounted (thread done 0) = law.counts 0 1 (thread mine 1) (thread done 0) ours_one ((law.calls mine done).called j (Unpin b) Done (omega (arith, in_j, mine_long)) unpinned) refl in
    let theirs_one : IsCounted (thread yours 1) = law.counts 1 0 (thread there 0) (thread yours 1) (law.attached first there split) ((law.calls there yours).called j (Pin q) (Pinned b) (omega (arith, in_j, there_long)) also) refl in
    let theirs_none : IsCounted (thread other 0) = law.counts 0 1 (thread yours 1) (thread other 0) theirs_one ((law.calls yours other).called i (Unpin a) Done (omega (arith, in_i, yours_long)) back) refl in
    let detached = law.detached done all (thread other 0) (omega (arith, other_long, done_long)) theirs_none refl joined in
    let counted : IsCounted (thread all 0) = law.counts detached.0 detached.0 (thread done 0) (thread all 0) ours_none detached.1 (omega arith) in
    closes_unpinned turns (thread all 0) results are refl closes opened opens none right counted
