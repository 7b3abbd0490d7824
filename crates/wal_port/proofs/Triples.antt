-- What the proofs by hand of this crate cite of the logic, handed on from one place. Declares nothing.
pub use seplogic.Ra.Ura.{Ura}
pub use mir.Val.{Val, vunit, vptr, vstruct, vcons, vnil}
pub use base.Logic.{SProp, ent, sep, emp, via, fst∗, id⊢}
pub use prog.Memory.{Memory}
pub use prog.Routine.{Routine}
pub use prog.Wp.{Calls, Loops, WpFn, Tables}
pub use types.Logic.{Logic}
pub use contract.Monad.{Fun}
pub use contract.Running.{tables}
unfoldable pub use contract.Running.{tables_of}
pub use types.Kit.{‵, ◌⊛◌, ◌$◌, ◌∵◌, !, qed, by, move, keep, drop, use1, split, join, fsplit, fsplit3, fjoin, fjoin3, feq_i, suffices, frame, done, raw}
pub use types.Run.{unit_lit, of_opd, returns, enter, no_more, and_then}
pub use types.ByLocal.{alloc_all, pass_all, free_all, look_at, sets, get}
pub use sound.WpLaws.{WpFn-mono}
pub use denote.Steps.{opens, closes, nothing}
pub use denote.Triple.Entry.{on_entry}
pub use denote.Triple.Spec.{Meets, triple_of}
pub use denote.Triple.Table.{entered}
pub use denote.Triple.Walked.{says, Stays, stay_ref, walk_of, AllGo, Goes-ref, Walks, ends_at, walked, walk_Meets, stay_none_slice, Goes-none_slice}
