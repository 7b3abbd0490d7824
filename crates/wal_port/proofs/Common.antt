-- What the proofs of this crate cite from elsewhere, and of its own definitions, handed on from one place. Declares nothing.
pub use Rattle.std.proofs.Common.{◌≡◌, ℕ, ◌+◌, ◌-◌, ◌^◌, ◌<◌, ◌≤◌, ◌⊎◌, min, List, [], ◌∷◌, ◌++◌, length, take, drop, refl, sym, ap, ◌∙◌, inl, inr, arith, take-append-drop, length-append, length-drop, Option, subst, MutBor, vec_len}
pub use Rattle.std.proofs.Math.ListN.{drop_of_length-le}
pub use Rattle.std.proofs.Math.Seq.{drop-append_seam, take-append_seam, take-length, take-add}
pub use Rattle.std.proofs.lemmas.List.{append-nil, append_assoc, drop-drop, length-take-le, take_all, take_min, length-take}
pub use Rattle.std.specs.Io.KnownBytes.{Consumes, Appends}
pub use Rattle.wal_port.specs.declared.noted.Noted.{Noted}
