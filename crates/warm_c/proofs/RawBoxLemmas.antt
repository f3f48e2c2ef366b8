-- A `RawBox` as a machine value: a pointer with the bits of an allocator after it. Walks open one,
-- and close one.
use Rattle.std.proofs.Common.{◌≡◌, ℕ, List, [], ◌∷◌, ◌++◌, refl, ap, ◌∙◌}
use mathlib.Core.Bool.{true, ◌&&◌}
use lib.Dec.{T}
use seplogic.Ra.Ura.{Ura}
use mir.Syntax.{impl, tnil, dnil}
use mir.Raw.{raw as bare}
use mir.Val.{Val, vptr, vstruct, vcons, vnil, of_list, has_ty, WT}
use base.Logic.{never, fst∗}
use types.Logic.{Logic, sem}
use types.Kit.{Item, Goal, Seq, Step, step, ‵, ◌$◌, move, drop, fsplit, fjoin, fpick, fpack, feq_i, feq_l}
use denote.RattleType.{RattleType, Valss}
use denote.Builtin.{RawPtr}
use denote.Memory.{lone}
use denote.RawPtr.{Ptr, block_ptr, null_ptr, ptr_val, in_a_block}
use denote.Steps.{nothing}
use denote.Param.{layout}
use denote.Param.Laws.{Laws}
use denote.Struct.Struct.{within}
use denote.Struct.Owning.{shape}
use Rattle.core.specs.declared.alloc.Allocator.{Ghosts}
use Rattle.core.proofs.alloc.Calls.{Al, handle_tells}
use Rattle.core.proofs.cell.Inside.{Good}
use Rattle.std_alloc.specs.Box.Ownership.{box_owns}
use Rattle.std_alloc.proofs.ResultValues.{and_tt}
use Rattle.warm_c.specs.contracts.raw_box.RawBox as raw_box

-- a struct of two values
abbrev pub pair : Val → Val → Val
pair v w = vstruct (vcons v (vcons w vnil))

-- what a struct of two fields is made of, once each field is known
pub pair_is : (whole first second : List Val) (v w : Val)
    → whole ≡ vstruct (of_list (first ++ (second ++ []))) ∷ [] → first ≡ v ∷ [] → second ≡ w ∷ []
    → whole ≡ pair v w ∷ []
pair_is whole first second v w made one other = made ∙ (λ i. vstruct (of_list (one i ++ (other i ++ []))) ∷ [])

-- the same, if the first is a pointer that is known to point into a block
pub pointer_is : (whole first second : List Val) (p : Ptr) (b o : ℕ) (w : Val)
    → whole ≡ vstruct (of_list (first ++ (second ++ []))) ∷ [] → first ≡ ptr_val p ∷ []
    → p ≡ block_ptr b o → second ≡ w ∷ []
    → whole ≡ pair (vptr b o) w ∷ []
pointer_is whole first second p b o w made one into other = pair_is whole first second (vptr b o) w made (one ∙ ap (λ (q : Ptr). ptr_val q ∷ []) into) other

module _ (X A : RattleType) (laws : Laws A) (ghosts : Ghosts A.Denot) where
  -- a box of X by A, taken apart
  abbrev pub Apart : RattleType
  Apart = raw_box.the_row X A ghosts

  abbrev handler : Al
  handler = record { row = A; laws = laws; g = ghosts; d = impl [] tnil dnil; drops = impl [] tnil dnil }

  pub pair_typed : (b o : ℕ) (w : Val) → Good (layout A) w
      → T (has_ty (layout A) w && true) × WT (pair (vptr b o) w)
  pair_typed b o w good = (and_tt (has_ty (layout A) w) good.0, (tt, (good.1, tt)))

  module _ {M : Type 1} {𝓤 : Ura M} {𝓛 : Logic 𝓤} {K : Type 0} {Γ : List (Item 𝓤)}
      {G : Goal 𝓤 𝓛.H} where
    -- opens one: its pointer points into a block, which is owned with the value there, and beside
    -- it is the allocator
    pub opened : K → (l : Apart.Denot) (vs : List Val)
        → ((b o : ℕ) (w : Val) → l.pointer ≡ block_ptr b o → vs ≡ pair (vptr b o) w ∷ []
        → Good (layout A) w
        → Seq K 𝓛 (‵ (box_owns (ghosts.dealloc_token l.allocator) X (block_ptr b o) l.content)
        ∷ ‵ (A.own_val l.allocator (w ∷ [])) ∷ Γ) G)
        → Seq K 𝓛 (‵ (Apart.own_val l vs) ∷ Γ) G
    opened t l vs next =
        fsplit t $ fpick t (λ parts. fsplit t $ feq_l t (λ made. fsplit t $ feq_l t (λ one. fsplit t $
        handle_tells handler t l.allocator parts.1.0 (λ w other good. move t (1 ∷ []) $ drop t $ move t (1 ∷ []) $
        in_a_block t l.pointer (λ p. box_owns (ghosts.dealloc_token l.allocator) X p l.content)
        (fst∗ 𝓤 (never 𝓤) (sem 𝓛 (ghosts.dealloc_token l.allocator (bare (lone X.mir)) null_ptr)))
        (λ b o into. next b o w into (pointer_is vs parts.0 parts.1.0 l.pointer b o w made one into other) good)))))

    -- closes one again
    pub closed : K → (b o : ℕ) (w : Val) (a : A.Denot) (x : X.Denot)
        → Step K 𝓛 (‵ (Apart.own_val
        (record { pointer = block_ptr b o; allocator = a; content = x }) (pair (vptr b o) w ∷ []))
        ∷ Γ) G
        (‵ (box_owns (ghosts.dealloc_token a) X (block_ptr b o) x) ∷ ‵ (A.own_val a (w ∷ [])) ∷ Γ) G
    closed t b o w a x = step (λ rest.
        let whole : List Val = pair (vptr b o) w ∷ [] in let first : List Val = vptr b o ∷ [] in
        nothing t $ move t (2 ∷ 0 ∷ []) $ fjoin t $ feq_i t (List Val) first first refl $ fjoin t $ feq_i t (List Val) whole whole refl $ fjoin t $
        fpack t (Valss (RawPtr ∷ A ∷ [])) (within (shape (raw_box.the_type X A ghosts)) (block_ptr b o, (a, tt)) whole) (first, (w ∷ [], tt)) $ fjoin t $ rest)
