-- The times that a message speaks of, against a limit.
use Rattle.std.specs.Prelude.{ℕ, ◌≤◌, List, []}
use Rattle.std.specs.List.{AllByRecursion}
use Rattle.warm_history.specs.Entry.{Entry}
use Rattle.warm_history.specs.Histories.{hist_stamps}
use Rattle.warm_frames.specs.declared.message.Message.{Message}
use Rattle.warm_frames.specs.declared.message.Message.TheVariants.{Entries, Digest, Want}

-- the horizon of the sender
abbrev pub horizon_in : Message → ℕ
horizon_in (Entries sender horizon entries) = horizon
horizon_in (Digest sender horizon digests) = horizon
horizon_in (Want sender horizon request) = horizon

-- the entries that the message carries: none, unless it is one of entries
abbrev pub entries_in : Message → List Entry
entries_in (Entries sender horizon entries) = entries
entries_in (Digest sender horizon digests) = []
entries_in (Want sender horizon request) = []

-- no stamp of the entries is later than the limit
abbrev pub StampsBy : ℕ → List Entry → Type 0
StampsBy limit es =
    AllByRecursion (λ e. AllByRecursion (λ s. s.time ≤ limit) (hist_stamps e.hist)) es

-- the message speaks of no time later than the limit: neither its horizon is later nor a stamp of
-- its entries
pub record SpeaksBy (limit : ℕ) (message : Message) : Type 0 where
  pub horizon : horizon_in message ≤ limit
  pub stamps : StampsBy limit (entries_in message)
