use Rattle.std.proofs.Common.{◌≡◌, ◌-◌, List, Some, length, sym, subst, arith}
use Rattle.warm_history.specs.Entry.{Entry}
use Rattle.warm_frames.specs.declared.message.Message.{Message}
use Rattle.warm_peer.specs.Chunks.{last_page}
use Rattle.warm_frames.specs.Limits.{entries_in}
use Rattle.warm_threads.proofs.ExchangeLemmas.{last_page_at}
use Rattle.warm_threads.proofs.exchange.next_after.Goals as goal

pub returns-in-Some-clause-last : goal.returns-in-Some-clause-last
returns-in-Some-clause-last c =
    let list = c.as_slice-list.result.now in
    let last : last_page list ≡ Some c.in-Some.entry.now.page = last_page_at list (length list - 1) c.in-Some.entry.now (omega (arith, c.if-list-lt-MAX_ENTRIES.false)) c.in-Some.ensures.item.1 in
    subst (λ (m : Message). last_page (entries_in m) ≡ Some c.in-Some.entry.now.page) (sym c.in-Entries.is)
    (subst (λ (es : List Entry). last_page es ≡ Some c.in-Some.entry.now.page) c.as_slice-list.ensures.value last)
