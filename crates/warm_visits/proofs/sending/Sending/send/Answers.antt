use Rattle.std.proofs.Common.{Bool, None, refl, subst}
use Rattle.std.specs.Prelude.{◌↔◌, IsTrue}
use Rattle.warm_history.specs.Histories.{IsHistory}
use Rattle.warm_peer.specs.Since.{HasMoreSince}
use Rattle.warm_visits.specs.declared.sending.Sending.{Sending}
use Rattle.warm_visits.proofs.VisitReadsSending.{sends_last, sends_more}
use Rattle.warm_visits.proofs.sending.Sending.send.Goals as goal

pub returns-then-more-clause-sent : goal.returns-then-more-clause-sent
returns-then-more-clause-sent g c id count =
    let s = c.args.self.now in
    let n = c.args.node.now in
    let t : Sending = record { bucket = s.bucket; later = s.later; after = c.last_page_of-last.result; messages = c.add_message.new.messages; want = s.want } in
    let more = subst (λ (b : Bool). IsTrue b ↔ HasMoreSince n.history c.args.bucket 0 s.after) c.if-more.true c.in_ok-message.ensures.more in
    sends_more id count c.args.bucket s t n c.in_ok-message.field-0.message c.requires.bucket refl refl refl c.in_ok-message.ensures.sent more c.in_ok-add_message.ensures.added c.last_page_of-last.ensures.value (subst IsHistory c.history.ensures c.prove_is_history.ensures) c.requires.page

pub returns-clause-sent : goal.returns-clause-sent
returns-clause-sent g c id count =
    let s = c.args.self.now in
    let n = c.args.node.now in
    let t : Sending = record { bucket = c.next-self.result; later = c.next-self.new.self; after = None; messages = c.add_message.new.messages; want = s.want } in
    let more = subst (λ (b : Bool). IsTrue b ↔ HasMoreSince n.history c.args.bucket 0 s.after) c.if-more.false c.in_ok-message.ensures.more in
    sends_last id count c.args.bucket s t n c.in_ok-message.field-0.message c.requires.bucket refl c.next-self.ensures.steps refl c.in_ok-message.ensures.sent more c.in_ok-add_message.ensures.added
