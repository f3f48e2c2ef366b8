-- The third pass of the rule: each step keeps the shares of the right to close.
use Rattle.std.proofs.Common.{◌≡◌, ◌≢◌, ℕ, zero, suc, ◌+◌, ◌*◌, ◌<◌, ◌≤◌, List, [], ◌∷◌, ◌++◌, length, set, true, false, refl, sym, ap, ◌∙◌, subst, ⊎_elim, arith, add-one, length-set, length-append, le_of_mul-le-mul_right, le_of_eq, mul-pos}
use mathlib.Core.Logic.{dite}
use mathlib.Core.Option.{some}
use native.Mathlib.Decide.{ℕ_discrete}
use lib.ListN.{get_elem?}
use Rattle.atomic_table.proofs.Lists.{set_else}
use Rattle.warm_turn.specs.declared.table.Share.{Share}
use Rattle.warm_turn.specs.declared.table.View.{View}
use Rattle.warm_turn.specs.Shares.{IsWhole, both, half, no_share}
use Rattle.warm_turn.specs.CallHistories.{nobody, first_pass, halved, heir_of}
use Rattle.warm_turn.specs.Rule.{weigh, IsWeighed, IsShared}
use Rattle.warm_turn.proofs.ListLemmas.{off, inside, at_end, one_member, each_set, put, put_here, put_else}

-- Weights

weigh_same : (n : ℕ) (f g : ℕ → ℕ) → ((j : ℕ) → j < n → f j ≡ g j) → weigh n f ≡ weigh n g
weigh_same zero f g same = refl
weigh_same (suc n) f g same =
    let h : weigh n f ≡ weigh n g = weigh_same n f g (λ j less. same j (omega arith)) in
    let last : f n ≡ g n = same n (omega arith) in
    omega arith

-- one weight past the end counts nothing
weigh_past : (n : ℕ) (f : ℕ → ℕ) (i a : ℕ) → n ≤ i → weigh n (put f i a) ≡ weigh n f
weigh_past n f i a past = weigh_same n (put f i a) f (λ j less. put_else f i a j (λ e. omega arith))

-- one weight is replaced
weigh_put : (n : ℕ) (f : ℕ → ℕ) (i a : ℕ) → i < n → weigh n (put f i a) + f i ≡ weigh n f + a
weigh_put zero f i a less = absurd (omega arith)
weigh_put (suc n) f i a less = dite (ℕ_discrete i n)
    (λ (e : i ≡ n).
    let past : weigh n (put f i a) ≡ weigh n f = weigh_past n f i a (omega arith) in
    let here : put f i a n ≡ a = put_here f i a n (sym e) in
    let same : f i ≡ f n = ap f e in
    omega arith)
    (λ (other : i ≢ n).
    let h : weigh n (put f i a) + f i ≡ weigh n f + a = weigh_put n f i a (omega arith) in
    let last : put f i a n ≡ f n = put_else f i a n (λ e. other (sym e)) in
    omega arith)

weigh_twice : (n : ℕ) (f : ℕ → ℕ) → weigh n (λ j. 2 * f j) ≡ 2 * weigh n f
weigh_twice zero f = refl
weigh_twice (suc n) f = let h : weigh n (λ j. 2 * f j) ≡ 2 * weigh n f = weigh_twice n f in omega arith

weigh_one : (n : ℕ) (f : ℕ → ℕ) (i : ℕ) → i < n → f i ≤ weigh n f
weigh_one n f i less = let h : weigh n (put f i 0) + f i ≡ weigh n f + 0 = weigh_put n f i 0 less in omega arith

-- two seats weigh no more than all do
weigh_two : (n : ℕ) (f : ℕ → ℕ) (i j : ℕ) → i < n → j < n → j ≢ i → f i + f j ≤ weigh n f
weigh_two n f i j less less' other =
    let h : weigh n (put f i 0) + f i ≡ weigh n f + 0 = weigh_put n f i 0 less in
    let k : put f i 0 j ≤ weigh n (put f i 0) = weigh_one n (put f i 0) j less' in
    let same : put f i 0 j ≡ f j = put_else f i 0 j other in
    omega arith

-- a seat with half of a share has the same weight on a scale that is twice as large
weighs_half : (all weight : ℕ) (s t : Share) → t ≡ half s → weight * s.whole ≡ all * s.parts
    → weight * t.whole ≡ 2 * all * t.parts
weighs_half all weight s t is e = subst (λ (u : Share). weight * u.whole ≡ 2 * all * u.parts) (sym is) (omega (arith, e))

module _ {X C R : Type 0} where
  -- what has no share weighs nothing
  weighs_nothing : (all : ℕ) (v : View X C R) → v.share ≡ no_share → v.owns ≡ false → IsWeighed all 0 v
  weighs_nothing all v none owns =
      let parts : v.share.parts ≡ 0 = ap (λ (s : Share). s.parts) none in
      let whole : v.share.whole ≡ 1 = ap (λ (s : Share). s.whole) none in
      record {
        share = (let none' : all * v.share.parts ≡ all * 0 = ap (λ (k : ℕ). all * k) parts in omega (arith, none'));
        whole = omega arith;
        pass = λ h. off h owns;
      }

  -- a pass has a share
  pub has_share : (vs : List (View X C R)) (r : IsShared vs) (me : ℕ) (v : View X C R) → get_elem? vs me ≡ some v
      → v.owns ≡ true → 0 < v.share.parts
  has_share vs r me v at owns = (r.each me v at).pass owns

  -- a seat that changes keeps its share
  pub keeps : (vs : List (View X C R)) (r : IsShared vs) (me : ℕ) (v w : View X C R) → get_elem? vs me ≡ some v
      → w.share ≡ v.share → (w.owns ≡ true → 0 < v.share.parts) → IsShared (set vs me w)
  keeps vs r me v w at same owner =
      let f = r.each me v at in
      record {
        all = r.all;
        weight = r.weight;
        positive = r.positive;
        most = subst (λ (n : ℕ). weigh n r.weight ≤ r.all) (sym (length-set vs me w)) r.most;
        each = each_set (λ j u. IsWeighed r.all (r.weight j) u) vs me w
            record {
              share = subst (λ (s : Share). r.weight me * s.whole ≡ r.all * s.parts) (sym same) f.share;
              whole = subst (λ (s : Share). 0 < s.whole) (sym same) f.whole;
              pass = λ h. subst (λ (s : Share). 0 < s.parts) (sym same) (owner h);
            }
            (λ j u n e. r.each j u e);
      }

  -- a new seat has no share
  pub enters : (vs : List (View X C R)) (r : IsShared vs) (w : View X C R) → w.share ≡ no_share → w.owns ≡ false
      → IsShared (vs ++ w ∷ [])
  enters vs r w none owns =
      let n : ℕ = length vs in
      let weight : ℕ → ℕ = put r.weight n 0 in
      let long : length (vs ++ w ∷ []) ≡ suc n = length-append vs (w ∷ []) ∙ add-one n in
      let past : weigh n weight ≡ weigh n r.weight = weigh_past n r.weight n 0 (omega arith) in
      let here : weight n ≡ 0 = put_here r.weight n 0 n refl in
      let most : weigh n r.weight ≤ r.all = r.most in
      record {
        all = r.all;
        weight = weight;
        positive = r.positive;
        most = subst (λ (m : ℕ). weigh m weight ≤ r.all) (sym long) (omega arith);
        each = λ j u e. ⊎_elim
            (λ (old : get_elem? vs j ≡ some u). let less = inside vs j u old in
            subst (λ (k : ℕ). IsWeighed r.all k u) (sym (put_else r.weight n 0 j (λ is. omega arith))) (r.each j u old))
            (λ (new : (j ≡ length vs) × (w ≡ u)).
            subst (λ (k : ℕ). IsWeighed r.all k u) (sym (put_here r.weight n 0 j new.0)) (subst (λ (z : View X C R). IsWeighed r.all 0 z) new.1 (weighs_nothing r.all w none owns)))
            (at_end vs w u j e);
      }

  -- a pass gives half of its share to a new seat
  pub divides : (vs : List (View X C R)) (r : IsShared vs) (me : ℕ) (v : View X C R) → get_elem? vs me ≡ some v
      → IsShared (set vs me (halved v) ++ heir_of v ∷ [])
  divides vs r me v at =
      let n : ℕ = length vs in
      let f = r.each me v at in
      let own : ℕ = r.weight me in
      let w : View X C R = halved v in
      let u : View X C R = heir_of v in
      let us : List (View X C R) = set vs me w in
      let all : ℕ = 2 * r.all in
      let twice : ℕ → ℕ = λ j. 2 * r.weight j in
      let first : ℕ → ℕ = put twice me own in
      let weight : ℕ → ℕ = put first n own in
      let less : me < n = inside vs me v at in
      let size : length us ≡ n = length-set vs me w in
      let long : length (us ++ u ∷ []) ≡ suc n = length-append us (u ∷ []) ∙ (ap (λ (k : ℕ). k + 1) size ∙ add-one n) in
      let past : weigh n weight ≡ weigh n first = weigh_past n first n own (omega arith) in
      let one : weigh n first + 2 * own ≡ weigh n twice + own = weigh_put n twice me own less in
      let two : weigh n twice ≡ 2 * weigh n r.weight = weigh_twice n r.weight in
      let last : weight n ≡ own = put_here first n own n refl in
      let most : weigh n r.weight ≤ r.all = r.most in
      let positive : 0 < r.all = r.positive in
      let whole : 0 < v.share.whole = f.whole in
      let of_half : (x : View X C R) → x.share ≡ half v.share → (x.owns ≡ true → 0 < v.share.parts) → IsWeighed all own x = λ x is owner. record {
        share = weighs_half r.all own v.share x.share is f.share;
        whole = subst (λ (s : Share). 0 < s.whole) (sym is) (omega arith);
        pass = λ h. subst (λ (s : Share). 0 < s.parts) (sym is) (owner h);
      } in
      let at_other : (j : ℕ) (x : View X C R) → j < n → j ≢ me → IsWeighed r.all (r.weight j) x → IsWeighed all (weight j) x = λ j x below other g.
      subst (λ (k : ℕ). IsWeighed all k x) (sym (put_else first n own j (λ is. omega arith) ∙ put_else twice me own j other))
      (let was = g.share in record { share = omega (arith, was); whole = g.whole; pass = g.pass }) in
      record {
        all = all;
        weight = weight;
        positive = omega arith;
        most = subst (λ (m : ℕ). weigh m weight ≤ all) (sym long) (omega arith);
        each = λ j x e. ⊎_elim
            (λ (old : get_elem? us j ≡ some x). each_set (λ i (y : View X C R). i < n → IsWeighed all (weight i) y) vs me w
            (λ _. subst (λ (k : ℕ). IsWeighed all k w) (sym (put_else first n own me (λ is. omega arith) ∙ put_here twice me own me refl)) (of_half w refl f.pass))
            (λ i y other e' below. at_other i y below other (r.each i y e'))
            j x old (subst (λ (k : ℕ). j < k) size (inside us j x old)))
            (λ (new : (j ≡ length us) × (u ≡ x)).
            subst (λ (k : ℕ). IsWeighed all k x) (sym (put_here first n own j (new.0 ∙ size)))
            (subst (λ (z : View X C R). IsWeighed all own z) new.1 (of_half u refl (λ h. off h refl))))
            (at_end us u x j e);
      }

  -- a seat is used up, and another weighs no more than both did
  merges : (vs : List (View X C R)) (r : IsShared vs) (me other : ℕ) (v u w : View X C R) → get_elem? vs me ≡ some v
      → get_elem? (set vs me w) other ≡ some u → other ≢ me → (now : ℕ)
      → now ≤ r.weight me + r.weight other → IsWeighed r.all now w
      → IsShared (set (set vs me w) other nobody)
  merges vs r me other v u w at there apart now le mine =
      let n : ℕ = length vs in
      let us : List (View X C R) = set vs me w in
      let first : ℕ → ℕ = put r.weight me now in
      let weight : ℕ → ℕ = put first other 0 in
      let size : length us ≡ n = length-set vs me w in
      let long : length (set us other nobody) ≡ n = length-set us other nobody ∙ size in
      let less : me < n = inside vs me v at in
      let less' : other < n = subst (λ (k : ℕ). other < k) size (inside us other u there) in
      let one : weigh n first + r.weight me ≡ weigh n r.weight + now = weigh_put n r.weight me now less in
      let two : weigh n weight + first other ≡ weigh n first + 0 = weigh_put n first other 0 less' in
      let same : first other ≡ r.weight other = put_else r.weight me now other apart in
      let most : weigh n r.weight ≤ r.all = r.most in
      record {
        all = r.all;
        weight = weight;
        positive = r.positive;
        most = subst (λ (m : ℕ). weigh m weight ≤ r.all) (sym long) (omega arith);
        each = each_set (λ j (x : View X C R). IsWeighed r.all (weight j) x) us other nobody
            (subst (λ (k : ℕ). let spent : View X C R = nobody in IsWeighed r.all k spent) (sym (put_here first other 0 other refl)) (weighs_nothing r.all nobody refl refl))
            (λ j x n' e. subst (λ (k : ℕ). IsWeighed r.all k x) (sym (put_else first other 0 j n'))
            (each_set (λ i (y : View X C R). IsWeighed r.all (first i) y) vs me w
            (subst (λ (k : ℕ). IsWeighed r.all k w) (sym (put_here r.weight me now me refl)) mine)
            (λ i y n'' e'. subst (λ (k : ℕ). IsWeighed r.all k y) (sym (put_else r.weight me now i n'')) (r.each i y e'))
            j x e));
      }

  -- what the used-up seat had is lost
  pub loses : (vs : List (View X C R)) (r : IsShared vs) (me other : ℕ) (v u w : View X C R) → get_elem? vs me ≡ some v
      → get_elem? (set vs me w) other ≡ some u → other ≢ me → w.share ≡ v.share
      → w.owns ≡ v.owns
      → IsShared (set (set vs me w) other nobody)
  loses vs r me other v u w at there apart same owns =
      let f = r.each me v at in
      merges vs r me other v u w at there apart (r.weight me) (omega arith) record {
        share = subst (λ (s : Share). r.weight me * s.whole ≡ r.all * s.parts) (sym same) f.share;
        whole = subst (λ (s : Share). 0 < s.whole) (sym same) f.whole;
        pass = λ h. subst (λ (s : Share). 0 < s.parts) (sym same) (f.pass (sym owns ∙ h));
      }

  -- the other gets what the used-up seat had
  pub adds : (vs : List (View X C R)) (r : IsShared vs) (me other : ℕ) (v u w : View X C R) → get_elem? vs me ≡ some v
      → get_elem? (set vs me w) other ≡ some u → other ≢ me → w.share ≡ both v.share u.share
      → v.owns ≡ true
      → IsShared (set (set vs me w) other nobody)
  adds vs r me other v u w at there apart is owns =
      let f = r.each me v at in
      let g = r.each other u (sym (set_else vs me other w apart) ∙ there) in
      let a : ℕ = r.weight me in
      let b : ℕ = r.weight other in
      let s : Share = v.share in
      let t : Share = u.share in
      let p : a * s.whole * t.whole ≡ r.all * s.parts * t.whole = ap (λ (k : ℕ). k * t.whole) f.share in
      let q : b * t.whole * s.whole ≡ r.all * t.parts * s.whole = ap (λ (k : ℕ). k * s.whole) g.share in
      let sum : (a + b) * (s.whole * t.whole) ≡ r.all * (s.parts * t.whole + t.parts * s.whole) = omega (arith, p, q) in
      let some_whole : 0 < s.whole * t.whole = mul-pos f.whole g.whole in
      let some_parts : 0 < s.parts * t.whole = mul-pos (f.pass owns) g.whole in
      merges vs r me other v u w at there apart (a + b) (omega arith) record {
        share = subst (λ (z : Share). (a + b) * z.whole ≡ r.all * z.parts) (sym is) sum;
        whole = subst (λ (z : Share). 0 < z.whole) (sym is) some_whole;
        pass = λ _. subst (λ (z : Share). 0 < z.parts) (sym is) (omega (arith, some_parts));
      }

  pub begins : (o : X) → let v : View X C R = first_pass o in IsShared (v ∷ [])
  begins o = record {
    all = 1;
    weight = λ _. 1;
    positive = omega arith;
    most = omega arith;
    each = λ j u e. subst (λ (z : View X C R). IsWeighed 1 1 z) (one_member (first_pass o) u j e) record {
      share = refl;
      whole = omega arith;
      pass = λ _. omega arith;
    };
  }

  -- a pass that has the whole right is the only one
  pub only_one : (vs : List (View X C R)) (r : IsShared vs) (me j : ℕ) (v u : View X C R) → get_elem? vs me ≡ some v
      → IsWhole v.share → get_elem? vs j ≡ some u → u.owns ≡ true → j ≢ me → ⊥
  only_one vs r me j v u at whole there owns other =
      let f = r.each me v at in
      let g = r.each j u there in
      let own : r.weight me * v.share.whole ≡ r.all * v.share.whole = f.share ∙ ap (λ (k : ℕ). r.all * k) whole in
      let full : r.all ≤ r.weight me = le_of_mul-le-mul_right (le_of_eq (sym own)) f.whole in
      let two : r.weight me + r.weight j ≤ weigh (length vs) r.weight = weigh_two (length vs) r.weight me j (inside vs me v at) (inside vs j u there) other in
      let most : weigh (length vs) r.weight ≤ r.all = r.most in
      let none : r.weight j ≡ 0 = omega arith in
      let nothing : 0 * u.share.whole ≡ r.all * u.share.parts = ap (λ (k : ℕ). k * u.share.whole) (sym none) ∙ g.share in
      let something : 0 < r.all * u.share.parts = mul-pos r.positive (g.pass owns) in
      omega (arith, nothing, something)
