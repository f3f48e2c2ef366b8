-- Lists of devices, and a replica over each.
use Rattle.std.proofs.Common.{◌≡◌, ℕ, zero, suc, ◌+◌, ◌<◌, ◌≤◌, ◌++◌, List, [], ◌∷◌, length, map, get_or, refl, sym, ◌∙◌, ap, subst, inl, inr, arith}
use Rattle.std.specs.Global.{Vec}
use Rattle.std.specs.List.{All}
use Rattle.std.proofs.Math.Seq.{get_or-append_seam}
use Rattle.std.proofs.lemmas.Bool.{cases_lt}
use Rattle.std.proofs.lemmas.List.{get_or-map, length-append, length-map, map-append}
use Rattle.warm_devices.specs.Device.{DeviceState}
use Rattle.warm_pool.specs.declared.TheConstants.{MAX_DEVICES}
use Rattle.warm_pool.specs.DeviceCalls.{AreOfSize}
use Rattle.warm_gossip.specs.State.{NodeState}
use Rattle.warm_world.specs.Lists.{Pairwise}
use Rattle.warm_world.specs.Nodes.{AreUsable, node_over, nodes_over}
use Rattle.warm_world.specs.Opening.{AreFew, AreSized, devices_at}
use Rattle.warm_world.specs.Views.{ReplicaView}
use Rattle.warm_world.specs.Sizes.{Sizes}
use Rattle.warm_world.specs.States.{opened_over}
use Rattle.warm_world.specs.WorldStands.{ReplicaStands}
use Rattle.warm_world.proofs.PairLemmas.{Pairwise-push}

-- ---- the devices of each list

module _ {B : Type 0} (f : B → DeviceState) where
  abbrev pub shown : List (Vec B) → List (List DeviceState)
  shown lists = map (λ ds. map f ds.items) lists

  listed_at : (lists : List (Vec B)) (k : ℕ) (v : Vec B) → k < length lists → v ≡ get_or lists k v
      → devices_at (shown lists) k ≡ map f v.items
  listed_at lists k v lt is = get_or-map (λ (ds : Vec B). map f ds.items) lists k v [] lt ∙ ap (λ (ds : Vec B). map f ds.items) (sym is)

  pub count : (lists : List (Vec B)) → length (shown lists) ≡ length lists
  count lists = length-map lists (λ (ds : Vec B). map f ds.items)

  -- of lists of devices of one size each is of that size
  pub sized_at : (size : ℕ) (lists : List (Vec B)) (k : ℕ) (v : Vec B) → k < length lists
      → v ≡ get_or lists k v → AreSized size (shown lists)
      → AreOfSize size (length v.items) (map f v.items)
  sized_at size lists k v lt is all =
      let here = subst (λ ds. AreOfSize size (length ds) ds) (listed_at lists k v lt is) (all k (subst (λ n. k < n) (sym (count lists)) lt)) in
      λ j low. here j (subst (λ n. j < n) (sym (length-map v.items f)) low)

  -- one list more is of the size
  pub sized_more : (size : ℕ) (lists : List (Vec B)) (k : ℕ) (v : Vec B) → k < length lists
      → v ≡ get_or lists k v → AreOfSize size (length v.items) (map f v.items)
      → ((j : ℕ) → j < k → AreOfSize size (length (devices_at (shown lists) j))
      (devices_at (shown lists) j))
      → (j : ℕ) → j < k + 1
      → AreOfSize size (length (devices_at (shown lists) j)) (devices_at (shown lists) j)
  sized_more size lists k v lt is here so_far j low = elim (cases_lt j k) [
    | inl before ↦ so_far j before
    | inr other ↦
        let same : j ≡ k = omega (arith, low, other) in
        subst (λ i. AreOfSize size (length (devices_at (shown lists) i)) (devices_at (shown lists) i)) (sym same)
        (subst (λ ds. AreOfSize size (length ds) ds) (sym (listed_at lists k v lt is)) (λ i high. here i (subst (λ n. i < n) (length-map v.items f) high)))
  ]

  pub sized_all : (size : ℕ) (lists : List (Vec B)) (n : ℕ)
      → ((j : ℕ) → j < n → AreOfSize size (length (devices_at (shown lists) j))
      (devices_at (shown lists) j)) → length lists ≤ n → AreSized size (shown lists)
  sized_all size lists n each all j low = each j (omega (arith, all, low, count lists))

  pub sized_as : (size size' : ℕ) (xs ys : List (Vec B)) → size ≡ size' → xs ≡ ys
      → AreSized size (shown xs) → AreSized size' (shown ys)
  sized_as size size' xs ys same are all = subst (λ n. AreSized n (shown ys)) same (subst (λ zs. AreSized size (shown zs)) are all)

  -- the same of a list that is read as a slice
  pub sized_slice : (size : ℕ) (xs ys : List B) → xs ≡ ys → AreOfSize size (length xs) (map f xs)
      → AreOfSize size (length ys) (map f ys)
  sized_slice size xs ys same = subst (λ zs. AreOfSize size (length zs) (map f zs)) same

  -- the list after those so far
  at_seam : (so_far rest : List (Vec B)) (v : Vec B) (lists : List (Vec B))
      → so_far ++ v ∷ rest ≡ lists
      → (length so_far < length lists) × (v ≡ get_or lists (length so_far) v)
  at_seam so_far rest v lists all = (
    omega (arith, ap length all, length-append so_far (v ∷ rest)),
    sym (subst (λ xs. get_or xs (length so_far) v ≡ v) all (get_or-append_seam so_far v rest v)),
  )

  pub few_here : (so_far rest : List (Vec B)) (v : Vec B) (lists : List (Vec B))
      → so_far ++ v ∷ rest ≡ lists → AreFew (shown lists) → length v.items ≤ MAX_DEVICES
  few_here so_far rest v lists all few =
      let there = at_seam so_far rest v lists all in
      subst (λ n. n ≤ MAX_DEVICES) (ap length (listed_at lists (length so_far) v there.0 there.1) ∙ length-map v.items f) (few (length so_far) (subst (λ n. length so_far < n) (sym (count lists)) there.0))

  -- a replica over one list more
  pub one_more : {A : Type 0} (g : A → ReplicaView) (s : Sizes) (rs rs' : List A) (r : A)
      (so_far : List (Vec B)) (v : Vec B) → rs' ≡ rs ++ r ∷ []
      → Pairwise (ReplicaStands s.buffer) (map g rs) (map (opened_over s) (shown so_far))
      → ReplicaStands s.buffer (length rs) (g r) (opened_over s (map f v.items))
      → Pairwise (ReplicaStands s.buffer) (map g rs')
      (map (opened_over s) (shown (so_far ++ v ∷ [])))
  one_more g s rs rs' r so_far v more stand here =
      rw (more, map-append g rs (r ∷ []), map-append (λ (ds : Vec B). map f ds.items) so_far (v ∷ []), map-append (opened_over s) (shown so_far) (map f v.items ∷ []))
      (Pairwise-push (ReplicaStands s.buffer) (map g rs) (map (opened_over s) (shown so_far)) (g r) (opened_over s (map f v.items)) stand
      (subst (λ n. ReplicaStands s.buffer n (g r) (opened_over s (map f v.items))) (sym (length-map rs g)) here))

  -- ---- nodes over lists

  -- lists of devices that a page can name
  pub few_shown : (lists : List (Vec B)) → All (λ v. length v.items ≤ MAX_DEVICES) lists
      → AreFew (shown lists)
  few_shown [] few k low = absurd (omega (arith, low))
  few_shown (v ∷ vs) few zero low =
      let here : length v.items ≤ MAX_DEVICES = few 0 v (omega arith) in
      omega (arith, here, length-map v.items f)
  few_shown (v ∷ vs) few (suc k) low = few_shown vs (λ j d less. few (suc j) d (omega (arith, less))) k (omega (arith, low))

  pub few_of_shown : (lists : List (Vec B)) → AreFew (shown lists)
      → All (λ v. length v.items ≤ MAX_DEVICES) lists
  few_of_shown [] few k d low = absurd (omega (arith, low))
  few_of_shown (v ∷ vs) few zero d low =
      let here : length (map f v.items) ≤ MAX_DEVICES = few 0 (omega arith) in
      omega (arith, here, length-map v.items f)
  few_of_shown (v ∷ vs) few (suc k) d low = few_of_shown vs (λ j less. few (suc j) (omega (arith, less))) k d (omega (arith, low))

  pub usable_lists : (s : Sizes) (lists : List (Vec B)) (size : ℕ) → length lists ≡ s.replicas
      → size ≡ s.page_size → AreSized size (shown lists)
      → All (λ v. length v.items ≤ MAX_DEVICES) lists → AreUsable s (shown lists)
  usable_lists s lists size many same sized few = ((count lists ∙ many, subst (λ (n : ℕ). AreSized n (shown lists)) same sized), few_shown lists few)

  -- a node over one list more
  nodes_more : (s : Sizes) (n m : ℕ) (so_far : List (List DeviceState)) (devices : List DeviceState)
      → m ≡ n + length so_far
      → nodes_over s n (so_far ++ devices ∷ [])
      ≡ nodes_over s n so_far ++ node_over s m devices ∷ []
  nodes_more s n m [] devices is =
      let same : n ≡ m = omega (arith, is) in
      ap (λ (k : ℕ). node_over s k devices ∷ []) same
  nodes_more s n m (first ∷ rest) devices is = ap (λ (nodes : List NodeState). node_over s n first ∷ nodes) (nodes_more s (n + 1) m rest devices (omega (arith, is)))

  pub node_more : (s : Sizes) (m : ℕ) (nodes nodes' : List NodeState) (node : NodeState)
      (so_far : List (Vec B)) (v : Vec B) → nodes' ≡ nodes ++ node ∷ [] → m ≡ 1 + length so_far
      → node ≡ node_over s m (map f v.items) → nodes ≡ nodes_over s 1 (shown so_far)
      → nodes' ≡ nodes_over s 1 (shown (so_far ++ v ∷ []))
  node_more s m nodes nodes' node so_far v more number here before =
      let many : m ≡ 1 + length (shown so_far) = omega (arith, number, count so_far) in
      let all : nodes_over s 1 (shown (so_far ++ v ∷ [])) ≡ nodes_over s 1 (shown so_far) ++ node_over s m (map f v.items) ∷ [] =
      ap (λ (lists : List (List DeviceState)). nodes_over s 1 lists) (map-append (λ (ds : Vec B). map f ds.items) so_far (v ∷ [])) ∙ nodes_more s 1 m (shown so_far) (map f v.items) many in
      rw (more, all, before, here) refl
