use Rattle.std.proofs.Common.{◌≡◌, ◌<◌, ◌≤◌, ap, ◌∙◌, sym, subst, arith, ◌&&◌, Bool, true, false, refl}
use Rattle.std.specs.Ordering.{nat_cmp, is_lt, is_le}
use Rattle.std.specs.BTreeMap.Range.{entries_between}
use Rattle.std.specs.declared.ops.Bound.TheVariants.{Included, Excluded, Unbounded}
use Rattle.warm_stamps.specs.Stamps.{page_cmp}
use Rattle.warm_maps.specs.MapKeys.{full_key, near_key, near_page}
use Rattle.warm_maps.specs.MapPairs.{as_entries}
use Rattle.warm_maps.specs.NearPairs.{widened}
use Rattle.warm_maps.proofs.NearKeys.{page_near, past_near, from_near}
use Rattle.warm_maps.proofs.NearParts.{range_after}
use Rattle.warm_maps.proofs.bucket_map.near_after.Goals as goal

always : (b : Bool) → (b && true) ≡ b
always true = refl
always false = refl

pub returns-then-near_page-last : goal.returns-then-near_page-last
returns-then-near_page-last c =
    let b = c.args.number in
    let last = c.args.last in
    let near = c.args.map.now.entries in
    let fits : last.no < 18446744073709551616 = omega arith in
    let low : last.dev < 64 = c.requires.near in
    let before : (near_page b (near_key last)).no ≤ last.no = subst (λ k. (near_page b k).no ≤ last.no) c.near_key-key.ensures.value (subst (λ q. q.no ≤ last.no) c.near_page.ensures c.if-near_page-last.true) in
    ap (λ t. as_entries (widened b t)) (c.range.ensures.between tt)
    ∙ ap (λ k. as_entries (widened b (entries_between nat_cmp (Excluded k) Unbounded near))) c.near_key-key.ensures.value
    ∙ range_after (full_key b) (λ k. k < 18446744073709551616) (Excluded (near_key last)) last
    (λ k small. always (is_lt (nat_cmp (near_key last) k)) ∙ past_near b last k low fits before ∙ ap (λ q. is_lt (page_cmp last q)) (sym (page_near b k small))) near c.requires.keys

pub returns : goal.returns
returns c =
    let b = c.args.number in
    let last = c.args.last in
    let near = c.args.map.now.entries in
    let fits : last.no < 18446744073709551616 = omega arith in
    let low : last.dev < 64 = c.requires.near in
    let after : last.no < (near_page b (near_key last)).no = subst (λ k. last.no < (near_page b k).no) c.near_key-key.ensures.value (subst (λ q. last.no < q.no) c.near_page.ensures c.if-near_page-last.false) in
    ap (λ t. as_entries (widened b t)) (c.range-2.ensures.between tt)
    ∙ ap (λ k. as_entries (widened b (entries_between nat_cmp (Included k) Unbounded near))) c.near_key-key.ensures.value
    ∙ range_after (full_key b) (λ k. k < 18446744073709551616) (Included (near_key last)) last
    (λ k small. always (is_le (nat_cmp (near_key last) k)) ∙ from_near b last k low fits after ∙ ap (λ q. is_lt (page_cmp last q)) (sym (page_near b k small))) near c.requires.keys
