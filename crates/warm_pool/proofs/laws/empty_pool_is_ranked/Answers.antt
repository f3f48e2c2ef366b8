use Rattle.std.proofs.Common.{◌≡◌, None, sym, ap, ◌∙◌}
use Rattle.std.specs.Option.{option_map}
use Rattle.warm_history.specs.Histories.{hist, references_of}
use Rattle.warm_rank.specs.Keys.{rank_key}
use Rattle.warm_frame_table.specs.Frames.{nth_frame}
use Rattle.warm_pool.proofs.PageByteLemmas.{frame_seen}
use Rattle.warm_pool.proofs.laws.empty_pool_is_ranked.Goals as goal

pub returns : goal.returns
returns c = λ s h w none i.
    let bare : (nth_frame s.frames i).page ≡ None = sym (ap (λ f. f.page) (frame_seen s i)) ∙ none i in
    (w.bare i bare).0 ∙ ap (option_map (λ p. rank_key p (hist (references_of h) p))) (sym bare)
