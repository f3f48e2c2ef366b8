-- What a message of the entries since a time brings.
use Rattle.std.proofs.Common.{◌≡◌, ℕ, List, take, Option, subst}
use Rattle.warm_stamps.specs.declared.PageId.{PageId}
use Rattle.warm_history.specs.Entry.{Entry}
use Rattle.warm_history.specs.Histories.{HistoryView, entries_of}
use Rattle.warm_history.specs.ListHistories.{list_references_of}
use Rattle.warm_history.specs.References.{IsIn}
use Rattle.warm_history.specs.Since.{entries_since}
use Rattle.warm_history.proofs.SinceLaws.{from_kept, in_kept, portion_is_held}
use Rattle.warm_frames.specs.declared.message.Message.TheVariants.{Entries}
use Rattle.warm_peer.specs.Since.{BringsHeld}

-- a message of the first entries since a time brings references that the history holds
pub brings_held : (id : ℕ) (h : HistoryView) (bucket since limit : ℕ) (after : Option PageId)
    (es : List Entry) → es ≡ take limit (entries_since bucket since after (entries_of h))
    → BringsHeld h (Entries id h.horizon es)
brings_held id h bucket since limit after es is r here =
    let from = from_kept h.horizon r (list_references_of es) here in
    in_kept h.horizon r (list_references_of (entries_of h)) (portion_is_held bucket since limit after (entries_of h) r (subst (λ fs. IsIn r (list_references_of fs)) is from.0)) from.1
