use Rattle.std.proofs.Common.{◌≡◌, ◌++◌, length}
use Rattle.warm_history.specs.Histories.{PagesAscend}
use Rattle.warm_frames.specs.Chunks.{entry_messages}
use Rattle.warm_peer.proofs.answers.push_messages.Given as goal

-- the messages of what is left would make it whole
abbrev pub invariant-loop-rest : goal.invariant-loop-rest
invariant-loop-rest l = record {
  rise : PagesAscend l.rest;
  goes_on : l.messages.items ++ entry_messages l.id l.horizon l.rest ≡ l.fn.messages.items ++ entry_messages l.id l.horizon l.fn.entries;
}

abbrev pub decreases-loop-rest : goal.decreases-loop-rest
decreases-loop-rest l = length l.rest
