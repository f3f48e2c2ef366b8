use Rattle.std.proofs.Common.{◌≡◌, List, ap, sym, subst, ◌∙◌}
use Rattle.std.specs.Prelude.{◌↔◌, IsTrue}
use Rattle.std.proofs.lemmas.Result.{IfOk-weaker}
use Rattle.warm_history.specs.Entry.{Entry}
use Rattle.warm_history.specs.Histories.{HistoryView, entries_of, history_of_entries_at, join}
use Rattle.warm_history.specs.Losses.{raised}
use Rattle.warm_digest.specs.BucketDigests.{digests_of}
use Rattle.warm_dump.proofs.BuilderLemmas.{closed}
use Rattle.warm_dump.proofs.builder.HistoryBuilder.ends_with.Goals as goal

pub returns-clause-raised : goal.returns-clause-raised
returns-clause-raised c =
    let h : HistoryView = c.self.inside.history in
    let exact = c.in_ok-join_all.ensures.exact ∙ ap (λ (es : List Entry). join h (history_of_entries_at h.horizon es)) c.as_slice.ensures.value ∙ c.self.view_is in
    let all = closed c.join_all.new.history c.raise.new.self c.args.horizon c.clear.new.self.items c.raise.ensures.exact c.clear.ensures.items in
    IfOk-weaker c.has_digests.result _ _ (λ same is_same. all ∙ c.raise.ensures.exact ∙ ap (raised c.args.horizon) exact) c.has_digests.ensures.same

pub returns-clause-same : goal.returns-clause-same
returns-clause-same c =
    let all = closed c.join_all.new.history c.raise.new.self c.args.horizon c.clear.new.self.items c.raise.ensures.exact c.clear.ensures.items in
    IfOk-weaker c.has_digests.result _ _ (λ same is_same. subst (λ (h : HistoryView). IsTrue same ↔ (c.args.table.now ≡ digests_of (entries_of h))) (sym all) is_same) c.has_digests.ensures.same
