-- What a reader's bytes are after they were read to the end, or up to a fault.
use Rattle.std.proofs.Common.{ℕ, List, ◌++◌, Option, Some, None, Result, Ok, Err, IfSome, IfOk, IfErr, OnOk, sym, ap, subst, ◌∙◌, append-nil}
use Rattle.std.specs.Io.KnownBytes.{Consumes, IsAtEnd}

pub whole_text : (a b : Option (List ℕ)) (bs : List ℕ) (P : List ℕ → Type 0) → Consumes a b bs
    → IsAtEnd b → P bs → IfSome a P
whole_text None b bs P p e x = tt
whole_text (Some t) None bs P p e x = absurd p
whole_text (Some t) (Some y) bs P p e x = subst P (sym (p ∙ ap (λ (w : List ℕ). bs ++ w) e ∙ append-nil bs)) x

pub if_ok_map : {T E : Type 0} (r : Result T E) (P Q : T → Type 0) → ((x : T) → P x → Q x)
    → IfOk r P → IfOk r Q
if_ok_map (Ok x) P Q f p = f x p
if_ok_map (Err e) P Q f p = tt

pub if_err_map : {T E : Type 0} (r : Result T E) (P Q : E → Type 0) → ((e : E) → P e → Q e)
    → IfErr r P → IfErr r Q
if_err_map (Ok x) P Q f p = tt
if_err_map (Err e) P Q f p = f e p

pub any_text : (a : Option (List ℕ)) (P : List ℕ → Type 0) → ((t : List ℕ) → P t) → IfSome a P
any_text None P f = tt
any_text (Some t) P f = f t

pub on_ok : {T E : Type 0} (r : Result T E) (P : Type 0) → P → OnOk r P
on_ok (Ok x) P p = p
on_ok (Err e) P p = tt

pub some_map : (a : Option (List ℕ)) (P Q : List ℕ → Type 0) → ((t : List ℕ) → P t → Q t)
    → IfSome a P → IfSome a Q
some_map None P Q f p = tt
some_map (Some t) P Q f p = f t p
