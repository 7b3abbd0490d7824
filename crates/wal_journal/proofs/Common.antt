-- What the proofs of this crate cite from elsewhere, and of its own definitions, handed on from one place. Declares nothing.
pub use Rattle.std.proofs.Common.{◌≡◌, ◌⊎◌, inl, inr, ℕ, ◌+◌, ◌*◌, ◌<◌, ◌≤◌, List, [], ◌∷◌, ◌++◌, length, take, drop, refl, sym, arith, length-append, length-drop, Option, Result, Ok, Err, IfOk, IfErr, ap, ◌∙◌, subst, OnOk, OnErr, ◌≢◌, Some, None, get_or, ◌^◌, Bool, ⊎_elim, ◌-◌, ◌↔◌, true, rules}
pub use Rattle.std.proofs.Math.Logic.{∥∥₁_elim, ∥∥₁_map}
pub use Rattle.std.proofs.lemmas.Bool.{cases_lt, cases_eq}
pub use Rattle.std.proofs.lemmas.Grind.{merely, common_steps}
pub use Rattle.std.proofs.lemmas.List.{take_at, drop_at, take_all, drop-append-le, take-append-le, append_assoc, drop-drop, drop_more, take-append-drop, length-take-le, drop_all, append-nil, ext_get_or, length-take, get_or-take, get_or-drop, take_more}
pub use Rattle.std.proofs.lemmas.Nat.{be_bytes_4, from_be_bytes-to_be_bytes_4}
pub use Rattle.std.proofs.lemmas.Result.{on_err_weaker}
pub use Rattle.std.specs.Int.{w32, from_be_bytes, to_be_bytes}
pub use Rattle.wal_shape.specs.Shape.{most_bytes}
pub use Rattle.wal_shape.specs.declared.BlobId.{BlobId}
pub use Rattle.wal_shape.specs.declared.part.Part.{Part}
pub use Rattle.wal_store.proofs.CallLaws.{after_calls-append, lawful-append}
pub use Rattle.wal_store.specs.Answer.{HasRoom, IsPutAnswer}
pub use Rattle.wal_store.specs.Calls.{Call, after_call, Put, no_contents, DropPart, DropId, after_calls, IsLawfulCall, AreLawful}
pub use Rattle.wal_store.specs.Contents.{Contents, free_of, needed_for, part_at}
pub use Rattle.wal_journal.specs.Crash.{LeavesOnly, GoesOnAfter, Holds, EachKeeps, last_of, Keeps}
pub use Rattle.wal_journal.specs.Disk.{Agrees, Elapses, put_at, Writes, IsIn, Syncs}
pub use Rattle.wal_journal.specs.Held.{IsJournal}
pub use Rattle.wal_journal.specs.Journal.{disk_of, span, EndsChange, FitsEitherWay, disk_after, IsDiskFull, IsTried, IsPutWhy, Takes}
pub use Rattle.wal_journal.specs.Packing.{put_in, is_lawful, and_more, puts_of, AcceptsFront, Packs}
pub use Rattle.wal_journal.specs.Reading.{HadRoomForPuts, ReadTo, IsBad, IsFull}
pub use Rattle.wal_journal.specs.Record.{spelling, records, Accepts, fields, part_byte, IsWholeRecord, EitherWay, Fields, fields_text, AreWholeRecords, Stands}
unfoldable pub use Rattle.wal_journal.specs.Record.{size_text}
pub use Rattle.wal_journal.specs.declared.journal.ChangeRefusal.{ChangeRefusal}
pub use Rattle.wal_journal.specs.declared.journal.ChangeRefusal.TheVariants.{Kept, Stopped}
pub use Rattle.wal_journal.specs.declared.journal.Journal.{Journal}
pub use Rattle.wal_journal.specs.declared.mem_disk.Step.TheVariants.{Written, Synced}
pub use Rattle.wal_journal.specs.inside.Append.{BeforeGate}
pub use Rattle.wal_journal.specs.inside.Held.{IsReady, FitsSome, FitsWithOne, WithOne}
pub use Rattle.wal_journal.specs.inside.Reading.{head_text, HasHead, IsHead, IsNext, Steps, Still}
