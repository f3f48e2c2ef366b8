use Rattle.std.proofs.Common.{◌≡◌, ◌<◌, ◌∙◌, ap, length, sym, subst, arith}
use Rattle.std.proofs.lemmas.List.{get_or-map}
use Rattle.warm_rank.specs.Keys.{ranked_page}
use Rattle.warm_rank.specs.Relisting.{listed_page}
use Rattle.warm_rank.proofs.warm_up.HotPages.page.Goals as goal

pub index-requires : goal.index-requires
index-requires c =
    let within : c.args.at < length c.self.inside.keys.items = subst (λ keys. c.args.at < length keys) (sym c.self.view_is) c.requires in
    omega (arith, within, c.self.inside.keys.ok.0)

pub returns : goal.returns
returns c =
    let within : c.args.at < length c.self.inside.keys.items = subst (λ keys. c.args.at < length keys) (sym c.self.view_is) c.requires in
    c.page.ensures
    ∙ ap ranked_page c.index.ensures
    ∙ sym (get_or-map ranked_page c.self.inside.keys.items c.args.at _ _ within)
    ∙ ap (λ keys. listed_page keys c.args.at) c.self.view_is
