-- The limits of what a message brings, beyond which it is refused.
use Rattle.std.specs.Prelude.{◌⊎◌, ◌+◌, ◌<◌, ◌≡◌, ◌≤◌, ℕ, length}
use Rattle.warm_frames.specs.declared.limit.TimeFault.TheVariants.{LateHorizon, LateStamp}
use Rattle.warm_frames.specs.declared.message.Message.{Message}
use Rattle.warm_frames.specs.Limits.{SpeaksBy, StampsBy, entries_in, horizon_in}
use Rattle.warm_c_base.specs.declared.status.Refusal.{Refusal}
use Rattle.warm_c_base.specs.declared.status.Refusal.TheVariants.{Late, TooManyPages}
use Rattle.warm_c_calls.specs.declared.message_limits.NodeLimits.{NodeLimits}

-- The message speaks of no time later than the limit, and its horizon is by a limit of its own.
abbrev pub KeepsTimes : NodeLimits → Message → Type 0
KeepsTimes limits message = SpeaksBy limits.time message × (horizon_in message ≤ limits.horizon)

-- there are no entries, or with as many pages more the history would know no more than the limit
abbrev pub HasRoom : NodeLimits → ℕ → Type 0
HasRoom limits entries = (entries ≡ 0) ⊎ (limits.known + entries ≤ limits.pages)

-- the message keeps its limits; each entry counts as a page more
pub record KeepsLimits (limits : NodeLimits) (message : Message) : Type 0 where
  pub times : KeepsTimes limits message
  pub pages : HasRoom limits (length (entries_in message))

-- Which limit a message does not keep: its horizon is later than one of two; or else a stamp of its
-- entries is later than the first of these; or else its entries are too many.
abbrev pub ExceedsLimits : NodeLimits → Message → Refusal → Type 0
ExceedsLimits limits message (Late LateHorizon) = (limits.time < horizon_in message)
    ⊎ (limits.horizon < horizon_in message)
ExceedsLimits limits message (Late LateStamp) = (horizon_in message ≤ limits.time)
    × (horizon_in message ≤ limits.horizon) × (StampsBy limits.time (entries_in message) → ⊥)
ExceedsLimits limits message TooManyPages = KeepsTimes limits message
    × (HasRoom limits (length (entries_in message)) → ⊥)
ExceedsLimits limits message why = ⊥
