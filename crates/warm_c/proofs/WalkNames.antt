-- The names that the walks of `HeldPointer` cite, passed on from one place. Declares nothing.
pub use Rattle.std.proofs.Common.{◌≡◌, List, [], ◌∷◌, ◌++◌, refl, sym, subst}
pub use mir.Syntax.{Fn}
pub use mir.Val.{Val}
pub use base.Logic.{SProp, ent, emp, id⊢}
pub use base.Fml.{ftrue}
pub use prog.Wp.{WpFn}
pub use contract.Monad.{fact, fact_i}
pub use contract.Running.{tables}
pub use types.Kit.{‵, raw, ◌⊛◌, ◌$◌, ◌∵◌, !, qed, by, move, keep, use0, use1, split, fsplit, fjoin, fpack, feq_i, rewrite, suffices}
pub use types.Part.{agg, whole, sub}
pub use types.Run.{lit, no_more, and_then, returns, enter, stop, fld, of_opd}
pub use types.ByLocal.{alloc_all, pass_all, free_all, look_at, get, sets, get_in}
pub use denote.RattleType.{Valss, owns}
pub use denote.RawPtr.{null_ptr, ptr_val, Ptr}
pub use denote.Signature.{types_at, type_at}
pub use denote.Steps.{nothing, heard}
pub use denote.Struct.Struct.{within}
pub use denote.Struct.Owning.{shape, to}
pub use denote.Triple.Entry.{alive}
pub use denote.Triple.Walked.{Stays, stay_dropped, walk_of}
pub use Rattle.core.proofs.alloc.Calls.{Goes-blank}
pub use Rattle.std.proofs.raw_atomic.Walks.{proved_at, leaves}
pub use Rattle.std.specs.Prelude.{None, Some, Option, IsSome}
pub use Rattle.core.proofs.atomic.Steps.{Ptr-Good}
