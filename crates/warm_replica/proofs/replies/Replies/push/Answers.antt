use Rattle.std.proofs.Common.{◌∙◌, ap, length, [], ◌∷◌, ◌++◌, arith}
use Rattle.std.proofs.lemmas.List.{length-append}
use Rattle.warm_replica.specs.Replied.{Replied, replies_of}
use Rattle.warm_replica.proofs.ReplyLemmas.{reply_more, replies_long}
use Rattle.warm_replica.proofs.replies.Replies.push.Goals as goal

pub push_reserved-requires : goal.push_reserved-requires
push_reserved-requires c =
    let s = c.self.inside in
    omega (arith, replies_long s.runs.items s.touched, ap (λ (v : Replied). length v.items) c.self.view_is, ap (λ (v : Replied). v.capacity) c.self.view_is, c.requires.capacity, s.runs.ok.0)

pub invariant_of-self-in_default : goal.invariant_of-self-in_default
invariant_of-self-in_default c =
    let s = c.self.inside in
    let more = ap (λ rs. replies_of rs 0) c.push_reserved.ensures.items ∙ reply_more s.runs.items _ in
    omega (arith, ap length more, length-append (replies_of s.runs.items s.touched) (c.args.reply ∷ []), c.self.invariant)

pub returns-in_default : goal.returns-in_default
returns-in_default c =
    let s = c.self.inside in
    let more = ap (λ rs. replies_of rs 0) c.push_reserved.ensures.items ∙ reply_more s.runs.items _ in
    record {
      items = more ∙ ap (λ (v : Replied). v.items ++ c.args.reply ∷ []) c.self.view_is;
      capacity = omega (arith, ap (λ (v : Replied). v.capacity) c.self.view_is, c.push_reserved.ensures.capacity);
    }
