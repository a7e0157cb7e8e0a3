-- The words of a proof that walks through a function's code.
pub use mathlib.Core.Path.{ap, refl, subst, sym, ◌∙◌, ◌≡◌}
pub use mathlib.Core.List.{List, [], ◌++◌, ◌∷◌}
pub use seplogic.Ra.Ura.{Ura}
pub use base.Fml.{Fml, GName, flft, fsep, ftrue}
pub use base.Fraction.{full_share}
pub use base.Logic.{SProp, emp, ent, fst∗, id⊢, never, sep}
pub use contract.BorrowLft.{◌⊑◌}
pub use contract.Monad.{Fun, fact}
pub use contract.Running.{tables}
unfoldable pub use contract.Running.{tables_of}
pub use denote.Exit.{no, yes}
pub use denote.Follow.{Part, follows, lends_Part}
pub use denote.Memory.{cell_at, lone, mem, part_at}
unfoldable pub use denote.Memory.{part_of}
pub use denote.RattleType.{RattleType}
pub use denote.RawPtr.{Ptr, block_ptr, in_a_block, null_ptr}
pub use denote.Ref.{MutRef, mut_Tells, mut_vals}
pub use denote.Signature.{mut_ref_to, plain}
pub use denote.Steps.{heard, nothing, only, opens}
pub use denote.Triple.Clauses.{Clauses, Ended}
pub use denote.Triple.Spec.{triple_of}
pub use denote.Triple.Statement.{Contract, Triple}
pub use denote.Triple.Table.{entered}
pub use denote.Triple.Walked.{Goes-dropped, Goes-spent_ref, Stays, ends_at, says, stay_dropped, walk_Meets, walk_of}
pub use mir.MapTy.{inst_fn}
pub use mir.Syntax.{Fn, named}
pub use mir.Val.{Val, vptr}
pub use prog.Memory.{Memory}
pub use prog.Routine.{Routine}
pub use prog.Wp.{Tables, WpFn}
pub use sound.WpLaws.{WpFn-mono, fm_of}
pub use types.ByLocal.{alloc_all, env, free_all, get, get_in, look_at, pass_all, sets, sets_last, through}
pub use types.Kit.{Item, !, at_ret, await, by, done, drop, fjoin, fpack, frame, fsplit, fsplit3, group, join, keep, later, move, pick, qed}
pub use types.Kit.{raw, rewrite, some, split, split3, suffices, use1, ‵, ◌$◌, ◌∵◌, ◌⊛◌}
pub use types.Logic.{Logic, sem}
pub use types.Part.{agg, look_in, sub, whole}
pub use types.Run.{addr, and_then, blocks, enter, exec, first, fld, load, no_more, of_opd, returns, stop}
pub use Rattle.core.proofs.alloc.Calls.{Goes-blank, token}
pub use Rattle.std.proofs.Common.{ℕ}
pub use Rattle.std.proofs.VecSteps.Shapes.{after}
pub use Rattle.std.proofs.raw_atomic.Walks.{proved}
pub use Rattle.std_alloc.proofs.BoxSteps.Form.{B, Bx, D, P, R, box_typed, word}
pub use Rattle.std_alloc.proofs.BoxSteps.Steps.{box_in, box_out}
pub use Rattle.std_alloc.specs.Box.Ownership.{box_owns}
use mir.Syntax.{Sym, Ty, ty_ptr, ty_struct, tcons, tnil}
use Rattle.core.proofs.alloc.Calls.{α}

-- the name of a struct, by its code
abbrev pub name_in : Ty → Sym
name_in (ty_struct name fields) = name
name_in _ = []

abbrev pub name_of : RattleType → Sym
name_of T = name_in (lone T.mir)

-- the code of a struct with the fields of a box
abbrev pub box_code : Bx → RattleType → Ty
box_code E T = ty_struct (name_of T) (tcons ty_ptr (tcons (α E.al) tnil))
