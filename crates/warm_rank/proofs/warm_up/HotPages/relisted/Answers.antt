use Rattle.std.proofs.Common.{◌≡◌, ◌∙◌, ◌++◌, ap, subst, sym}
use Rattle.warm_history.specs.Histories.{references_of}
use Rattle.warm_rank.specs.Relisting.{WereHottest, candidates, greatest_keys, keys_of_others, named_keys}
use Rattle.warm_rank.proofs.FallingLemmas.{relisted_is}
use Rattle.warm_rank.proofs.warm_up.HotPages.relisted.Goals as goal

pub returns : goal.returns
returns c =
    let h = c.args.history.now in
    let T = references_of h in
    let pages = c.in_ok-pages.pages.items in
    let keys = c.self.inside.keys.items in
    let were = subst (WereHottest h c.args.n c.args.changed.now) (sym c.self.view_is) c.requires in
    let stay : c.in_ok-candidates.candidates.items ≡ keys_of_others pages keys =
    c.in_ok-candidates.ensures
    ∙ ap (λ ks. keys_of_others c.deref-2.result.now ks) c.deref.ensures.value
    ∙ ap (λ ps. keys_of_others ps keys) c.deref-2.ensures.value
    in
    let all : c.add_named.new.keys.items ≡ candidates T pages keys =
    c.in_ok-add_named.ensures
    ∙ ap (λ ks. ks ++ named_keys T c.deref-3.result.now) stay
    ∙ ap (λ ps. keys_of_others pages keys ++ named_keys T ps) c.deref-3.ensures.value
    in
    relisted_is h c.args.n c.args.changed.now pages keys _ c.prove_is_history.ensures were c.in_ok-pages.ensures.same_pages (c.in_ok-keys.ensures ∙ ap (λ ks. greatest_keys ks c.args.n) all)
