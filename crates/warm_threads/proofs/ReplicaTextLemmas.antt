-- The text of replicas one after the other.
use Rattle.std.proofs.Common.{◌≡◌, ℕ, ◌+◌, ◌<◌, List, [], ◌∷◌, ◌++◌, length, map, take, get_or, sym, ap, ◌∙◌, append_assoc, arith}
use Rattle.std.proofs.lemmas.List.{append-nil, length-map, length-take-le, map-append, take_more}
use Rattle.warm_gossip.specs.State.{NodeView}
use Rattle.warm_threads.specs.ReplicaTexts.{replica_text, replicas_text}

-- one more
one_more_shown : (i j : ℕ) (shown : List NodeView) (node : NodeView) → j ≡ i + length shown
    → replicas_text i (shown ++ node ∷ []) ≡ replicas_text i shown ++ replica_text j node.history
one_more_shown i j [] node is =
    let same : i ≡ j = omega (arith, is) in
    append-nil (replica_text i node.history) ∙ ap (λ (n : ℕ). replica_text n node.history) same
one_more_shown i j (first ∷ rest) node is =
    ap (λ (t : List ℕ). replica_text i first.history ++ t) (one_more_shown (i + 1) j rest node (omega (arith, is)))
    ∙ sym (append_assoc (replica_text i first.history) (replicas_text (i + 1) rest) (replica_text j node.history))

-- one more of a list
pub one_more_printed : {A : Type 0} (f : A → NodeView) (xs : List A) (i n : ℕ) (x : A)
    → i < length xs → x ≡ get_or xs i x → n ≡ i + 1
    → replicas_text 1 (map f (take (i + 1) xs))
    ≡ replicas_text 1 (map f (take i xs)) ++ replica_text n (f x).history
one_more_printed {A} f xs i n x low is number =
    let more : take (i + 1) xs ≡ take i xs ++ x ∷ [] = take_more xs i x low ∙ ap (λ (y : A). take i xs ++ y ∷ []) (sym is) in
    let many : n ≡ 1 + length (map f (take i xs)) = omega (arith, number, length-map (take i xs) f, length-take-le i xs (omega (arith, low))) in
    ap (λ (ys : List A). replicas_text 1 (map f ys)) more ∙ (ap (λ (nodes : List NodeView). replicas_text 1 nodes) (map-append f (take i xs) (x ∷ [])) ∙ one_more_shown 1 n (map f (take i xs)) (f x) many)
