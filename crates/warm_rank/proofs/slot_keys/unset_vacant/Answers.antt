use Rattle.std.proofs.Common.{not, ◌≡◌, ◌<◌, ◌+◌, suc, ℕ, List, length, sym, ap, ◌∙◌, false, None, arith, add-one, set}
use Rattle.std.proofs.lemmas.List.{get_or_read, length-set}
use Rattle.warm_rank.specs.declared.RankKey.{RankKey}
use Rattle.warm_rank.specs.Slots.{key_at, keys_set}
use Rattle.warm_rank.proofs.SetKeyLemmas.{length-keys_set, unset_there}
use Rattle.warm_rank.proofs.VacantLemmas.{keys_so_far, one_cleared, one_kept, all_looked_at, none_there, some_there}
use Rattle.warm_rank.proofs.slot_keys.unset_vacant.Goals.{then-is_none, else-is_none}
use Rattle.warm_rank.proofs.slot_keys.unset_vacant.Goals as goal

pub loop-slot-preserved : goal.loop-slot-preserved
loop-slot-preserved g c =
    let held : _ = c.args.held.now in
    let all : _ = c.args.is_set.now.items in
    let slot : ℕ = c.loop-slot.slot in
    let lt : slot < length held = c.loop-slot-test.true in
    let read : c.index-held-slot.result ≡ key_at held slot = get_or_read held slot _ lt c.index-held-slot.is None in
    let same : (keys : List RankKey) → length keys ≡ length all → length held ≡ length (keys_set all keys) = λ keys each. c.requires ∙ sym (length-keys_set all keys each) in
    let next : slot + 1 ≡ suc slot = add-one slot in
    elim c.if-is_none.branch [
      | then-is_none w ↦ record {
        count = ap (λ v. length v.items) w.is_set-is ∙ length-set c.loop-slot.is_set.items slot false ∙ c.loop-slot.invariant.count;
        keys = λ keys each. ap (λ v. keys_set v.items keys) w.is_set-is ∙ unset_there c.loop-slot.is_set.items keys slot ∙ ap (λ ks. set ks slot None) (c.loop-slot.invariant.keys keys each)
            ∙ one_cleared slot held (keys_set all keys) (same keys each) lt (sym read ∙ none_there _ (c.is_none.ensures ∙ ap not w.if-is_none.true)) ∙ ap (λ n. keys_so_far n held (keys_set all keys)) (sym next);
      }
      | else-is_none w ↦ record {
        count = ap (λ v. length v.items) w.is_set-is ∙ c.loop-slot.invariant.count;
        keys = λ keys each. ap (λ v. keys_set v.items keys) w.is_set-is ∙ c.loop-slot.invariant.keys keys each
            ∙ one_kept slot held (keys_set all keys) (same keys each) lt (λ none. some_there _ (c.is_none.ensures ∙ ap not w.if-is_none.false) (read ∙ none)) ∙ ap (λ n. keys_so_far n held (keys_set all keys)) (sym next);
      }
    ]

pub returns-clause-keys : goal.returns-clause-keys
returns-clause-keys g c keys each =
    let held : _ = c.args.held.now in
    let all : _ = c.args.is_set.now.items in
    let end : c.loop-slot.slot ≡ length held = omega (arith, c.loop-slot-test.false, c.loop-slot.auto.slot-end) in
    c.loop-slot.invariant.keys keys each ∙ ap (λ n. keys_so_far n held (keys_set all keys)) end ∙ all_looked_at held (keys_set all keys) (c.requires ∙ sym (length-keys_set all keys each))
