-- What a send of what is new since a time does, and what it writes.
use Rattle.std.specs.Prelude.{ℕ, ◌-◌, ◌≡◌, ◌⊎◌, List, length, Option, Some}
use Rattle.std.specs.Prelude.{None, Ok, Err, slice_get}
use Rattle.warm_stamps.specs.Buckets.{IsBucket}
use Rattle.warm_stamps.specs.declared.PageId.{PageId}
use Rattle.warm_history.specs.Entry.{Entry}
use Rattle.warm_frames.specs.declared.message.Message.{Message}
use Rattle.warm_frames.specs.Limits.{entries_in}
use Rattle.warm_peer.specs.Since.{HasMoreSince, sent_since}
use Rattle.warm_c_calls.specs.declared.open_node.OpenNode.{OpenNode}
use Rattle.warm_c_base.specs.declared.status.Refusal.TheVariants.{BadBucket}
use Rattle.warm_c_base.specs.declared.values.WarmPage.{WarmPage}
use Rattle.warm_c_calls.specs.Calls.{Ending, PutsFrame}
use Rattle.warm_c_base.specs.Values.{c_page, IsBool}

-- what stands behind the pointers of a send of a bucket since a time: the buffer, the length of the
-- frame, how many entries it has, whether more follow, and the last page
pub record SendBuffers : Type 0 where
  pub frame : List ℕ
  pub len : ℕ
  pub entries : ℕ
  pub more : ℕ
  pub last : WarmPage

-- this frame, its length, how many entries it has, whether more follow, and this last page, behind
-- the pointers
abbrev pub send_buffers : List ℕ → ℕ → ℕ → ℕ → WarmPage → SendBuffers
send_buffers frame len entries more last =
    record { frame = frame; len = len; entries = entries; more = more; last = last }

-- the page of an entry; if there is none, the page as it was
abbrev pub page_or : WarmPage → Option Entry → WarmPage
page_or before None = before
page_or before (Some entry) = c_page entry.page

-- the page of the last entry of a message
abbrev pub last_in : Message → WarmPage → WarmPage
last_in message before =
    page_or before (slice_get (entries_in message) (length (entries_in message) - 1))

-- the message of what is new of a bucket since a time
abbrev pub message_since : ℕ → ℕ → Option PageId → OpenNode → Message
message_since bucket since after h = sent_since h.node.id h.node.history bucket since after

-- how many entries there are, whether more follow, and the page of the last one are written; a
-- refused call writes none of them
abbrev pub PutsPlace : ℕ → ℕ → Option PageId → SendBuffers → SendBuffers → OpenNode → Ending
    → Type 0
PutsPlace bucket since after old new h (Ok given) =
    (new.entries ≡ length (entries_in (message_since bucket since after h)))
    × IsBool new.more (HasMoreSince h.node.history bucket since after)
    × (new.last ≡ last_in (message_since bucket since after h) old.last)
PutsPlace bucket since after old new h (Err why) = (new.entries ≡ old.entries)
    × (new.more ≡ old.more) × (new.last ≡ old.last)

-- the number is no bucket's, and nothing has changed; or the message of that bucket is put into the
-- buffer
abbrev pub SendsSince : ℕ → ℕ → Option PageId → SendBuffers → SendBuffers → OpenNode → Ending
    → OpenNode → Type 0
SendsSince bucket since after old new h ending h' =
    ((IsBucket bucket → ⊥) × (ending ≡ Err BadBucket) × (new ≡ old) × (h' ≡ h))
    ⊎ (IsBucket bucket
    × PutsFrame (message_since bucket since after h) old.frame old.len new.frame new.len ending
    × PutsPlace bucket since after old new h ending × (h' ≡ h))
