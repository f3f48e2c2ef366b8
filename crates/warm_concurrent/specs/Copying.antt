-- A copy of the history of all shards, shard by shard: the hottest pages of it, and what it answers
-- to a message.
use Rattle.std.specs.Prelude.{◌≡◌, ℕ, List, length, Some}
use Rattle.warm_stamps.specs.declared.PageId.{PageId}
use Rattle.warm_history.specs.Histories.{HistoryView, references_of}
use Rattle.warm_rank.specs.Ranking.{hottest_pages}
use Rattle.warm_frames.specs.declared.message.Message.{Message}
use Rattle.warm_peer.specs.Answers.{IsAnswer}
use Rattle.warm_visits.specs.Visits.{VisitState, copy_of, copy_visit}
use Rattle.warm_concurrent.specs.declared.fault.SharedFault.{SharedFault}
use Rattle.warm_concurrent.specs.Attached.{OpenedAs, ShardPass, ShardTurn, opened_id}
use Rattle.warm_concurrent.specs.Visiting.{GoneThrough, VisitOrEndFails}

-- the history of each shard of the replica of this number was copied in one turn, and this is their
-- join
abbrev pub CopiesAll : ℕ → HistoryView → List ShardPass → List ShardPass → Type 0
CopiesAll id copy old new = (w : VisitState)
    × GoneThrough (copy_visit id (length old)) w old new × (copy_of w.made ≡ Some copy)

-- the copy stopped at shard k; or it was made, and no memory was left for what is made of it
abbrev pub CopyFails : ℕ → ℕ → SharedFault → List ShardPass → List ShardPass → Type 0
CopyFails id k why old new = VisitOrEndFails (copy_visit id (length old)) k why old new

-- the history of each shard was copied in one turn, and these are the n hottest pages of their join
abbrev pub ListsAll : ℕ → ℕ → List PageId → List ShardPass → List ShardPass → Type 0
ListsAll id n pages old new = (copy : HistoryView) × CopiesAll id copy old new
    × (pages ≡ hottest_pages (references_of copy) n)

-- the history of each shard was copied in one turn, and a replica that has their join, of the number
-- with which the shards opened, answers the message with these messages
abbrev pub AnswersByCopy : List ShardTurn → Message → List Message → List ShardPass
    → List ShardPass → Type 0
AnswersByCopy turns message answers old new = OpenedAs (opened_id turns) turns
    × (copy : HistoryView) × CopiesAll (opened_id turns) copy old new
    × IsAnswer (opened_id turns) copy message answers
