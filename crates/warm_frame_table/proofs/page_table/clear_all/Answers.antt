use Rattle.std.proofs.Common.{◌≡◌, ◌+◌, length, replicate, set, None, sym, ap, ◌∙◌, subst, rules}
use Rattle.warm_frame_table.specs.stored.Chains.{AreInTurn}
use Rattle.warm_frame_table.proofs.PlaceLemmas.{count_chains, none_linked}
use Rattle.warm_frame_table.proofs.VacateLemmas.{none_left}
use Rattle.warm_frame_table.proofs.page_table.clear_all.Goals as goal

pub returns-clause-pages : goal.returns-clause-pages
returns-clause-pages c =
    let pages = c.args.pages.now.items in
    let filled : c.fill.new.self.items ≡ replicate (length pages) None = search (rules, c.fill.ensures.items) in
    filled ∙ sym (none_left pages)

pub returns-clause-linked : goal.returns-clause-linked
returns-clause-linked c =
    let pages = c.args.pages.now.items in
    let n = length pages in
    let filled : c.fill.new.self.items ≡ replicate n None = search (rules, c.fill.ensures.items) in
    let is : c.len-frames.result ≡ n = search rules in
    let no_heads : set c.clear_heads.new.heads.items c.len-frames.result 0 ≡ set (replicate (n + 1) n) n 0 =
    ap (λ heads. set heads c.len-frames.result 0) c.clear_heads.ensures ∙ ap (λ m. set (replicate m c.len-frames.result) c.len-frames.result 0) c.requires.size ∙ ap (λ m. set (replicate (n + 1) m) m 0) is in
    let count : length c.args.next.now.items ≡ n = c.requires.chains.next_size ∙ count_chains pages in
    none_linked n c.fill.new.self.items _ c.link_in_turn.new.next.items filled no_heads (subst (λ m. AreInTurn m c.link_in_turn.new.next.items) count c.link_in_turn.ensures) c.requires.few
