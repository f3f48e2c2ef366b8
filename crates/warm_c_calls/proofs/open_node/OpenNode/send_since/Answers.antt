use Rattle.std.proofs.Common.{rules, ◌≡◌, ◌↔◌, length, Ok, IsTrue, inr, refl, subst}
use Rattle.warm_frames.specs.Limits.{entries_in}
use Rattle.warm_peer.specs.Since.{HasMoreSince}
use Rattle.warm_c_calls.specs.Calls.{PutsFrame}
use Rattle.warm_c_calls.specs.Since.{last_in, message_since}
use Rattle.warm_c_calls.proofs.BoolLemmas.{bool_same}
use Rattle.warm_c_calls.proofs.open_node.OpenNode.send_since.Goals as goal

pub returns : goal.returns
returns c =
    let same : c.in-Some.bucket ≡ c.args.bucket = search rules in
    let message = c.in_ok-sent.sent.message in
    let is : message ≡ message_since c.args.bucket c.args.since c.args.after c.args.self.now = subst (λ b. message ≡ message_since b c.args.since c.args.after c.args.self.now) same c.in_ok-sent.ensures.sent in
    let more = subst (λ b. IsTrue c.in_ok-sent.sent.more ↔ HasMoreSince c.args.self.now.node.history b c.args.since c.args.after) same c.in_ok-sent.ensures.more in
    inr (
      search rules,
      subst (λ m. PutsFrame m c.args.frame.now c.args.len.now c.put_frame.new.frame c.put_frame.new.len (Ok tt)) is (search rules),
      (
        subst (λ m. c.entry_count.result ≡ length (entries_in m)) is c.entry_count.ensures,
        bool_same c.c_bool.result c.c_bool.ensures more,
        subst (λ m. c.put_last.new.last ≡ last_in m c.args.last.now) is c.put_last.ensures,
      ),
      refl,
    )
