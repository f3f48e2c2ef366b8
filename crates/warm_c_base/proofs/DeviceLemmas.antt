-- The devices of `node_open`: those made so far, and why none are made.
use Rattle.std.proofs.Common.{◌≡◌, inl, inr, ◌<◌, ◌+◌, ℕ, ℤ, List, [], ◌∷◌, ◌++◌, Contains, ⊎_elim, add-one, ap, ◌∙◌, get_or, length, map, refl, sym, subst, take, take-suc}
use Rattle.std.proofs.lemmas.List.Elements.{Contains-push_cases}
use Rattle.warm_devices.specs.Device.{DeviceState}
use Rattle.warm_c_base.specs.declared.fd_device.FdDevice.{FdDevice}
use Rattle.warm_c_base.specs.declared.status.Refusal.{Refusal}
use Rattle.warm_c_base.specs.declared.values.WarmDevice.{WarmDevice}
use Rattle.warm_c_base.specs.FdParts.{fd_opened, fd_state}
use Rattle.warm_c_base.specs.DeviceLists.{AreDevices, IsClash, DevicesRefused, fd_devices}

-- devices that may be opened, each by itself, but not together
pub clash_refuses : (page_size : ℕ) (devices : List WarmDevice) (why : Refusal)
    → AreDevices page_size devices → IsClash devices why → DevicesRefused page_size devices why
clash_refuses page_size devices why are (inl memory) = subst (DevicesRefused page_size devices) (sym memory) tt
clash_refuses page_size devices why are (inr clash) = subst (DevicesRefused page_size devices) (sym clash.0) (are, clash.1)

-- what holds of the first i items, and of the next one, holds of the first i + 1
pub contains_next : {A : Type 0} (xs : List A) (i : ℕ) (x : A) (P : A → Type 0) → i < length xs
    → ((y : A) → Contains (take i xs) y → P y) → P (get_or xs i x) → (y : A)
    → Contains (take (i + 1) xs) y → P y
contains_next {A} xs i x P below so next y has =
    ⊎_elim (so y) (λ is. subst P is next) (Contains-push_cases (take i xs) (get_or xs i x) y (subst (λ (l : List A). Contains l y) (rw add-one (take-suc xs i x below)) has))

map_push : {A B : Type 0} (f : A → B) (xs : List A) (x : A)
    → map f (xs ++ x ∷ []) ≡ map f xs ++ f x ∷ []
map_push f [] x = refl
map_push f (y ∷ ys) x = ap (λ rest. f y ∷ rest) (map_push f ys x)

-- one more device is made, over the descriptor of the next
pub made_next : (ds : List WarmDevice) (i : ℕ) (x : WarmDevice) (page_size : ℕ)
    (made : List FdDevice) (device : FdDevice) (fd : ℤ) → i < length ds
    → map fd_state made ≡ fd_devices page_size (take i ds) → fd ≡ (get_or ds i x).fd
    → fd_state device ≡ fd_opened fd (get_or ds i x).pages page_size
    → map fd_state (made ++ device ∷ []) ≡ fd_devices page_size (take (i + 1) ds)
made_next ds i x page_size made device fd below so same opened =
    let shown : WarmDevice → DeviceState = λ d. fd_opened d.fd d.pages page_size in
    let next : fd_state device ≡ shown (get_or ds i x) = opened ∙ ap (λ (n : ℤ). fd_opened n (get_or ds i x).pages page_size) same in
    map_push fd_state made device ∙ ap (λ (states : List DeviceState). states ++ fd_state device ∷ []) so ∙ ap (λ (s : DeviceState). fd_devices page_size (take i ds) ++ s ∷ []) next
    ∙ sym (map_push shown (take i ds) (get_or ds i x)) ∙ ap (map shown) (sym (rw add-one (take-suc ds i x below)))
