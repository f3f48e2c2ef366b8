use Rattle.std.proofs.Common.{map, subst, sym, ap, ◌∙◌}
use Rattle.warm_rank.specs.Behind.{IsBehind, AreRepaired}
use Rattle.warm_rank.specs.Keys.{key_cmp}
use Rattle.warm_frame_table.specs.Frames.{eviction_key}
use Rattle.warm_frame_table.specs.stored.Parts.{frames_of}
use Rattle.warm_frame_table.proofs.StoredLemmas.{tied_behind, repaired_tied}
use Rattle.warm_frame_table.proofs.frames.Frames.least.Goals as goal

pub settle-requires : goal.settle-requires
settle-requires c =
    subst (λ fs. IsBehind key_cmp c.self.inside.contest (map eviction_key fs))
    (sym (ap (λ ps. frames_of ps c.all.result.now c.deref.result.now) c.pages.ensures ∙ ap (λ ss. frames_of c.self.inside.page_table ss c.deref.result.now) c.all.ensures ∙ ap (frames_of c.self.inside.page_table c.self.inside.statuses) c.deref.ensures.value))
    (tied_behind c.self.invariant)

pub invariant_of-self : goal.invariant_of-self
invariant_of-self c =
    repaired_tied c.self.invariant (subst (λ fs. AreRepaired c.self.inside.contest (map eviction_key fs) c.settle.new.self)
    (ap (λ ps. frames_of ps c.all.result.now c.deref.result.now) c.pages.ensures ∙ ap (λ ss. frames_of c.self.inside.page_table ss c.deref.result.now) c.all.ensures ∙ ap (frames_of c.self.inside.page_table c.self.inside.statuses) c.deref.ensures.value)
    c.settle.ensures.repaired)
