-- What the proofs of this crate cite from elsewhere, and of its own definitions, handed on from one place. Declares nothing.
pub use Rattle.clap.specs.Words.{found_of, kind_of, first_value, matched_of, raw_values}
pub use Rattle.std.proofs.Common.{◌≡◌, ◌≤◌, ℕ, ◌*◌, List, [], ◌∷◌, get_or, codes, Option, Some, None, IfSome, IfNone, Result, Ok, sym, ap, ◌∙◌, arith, map, slice_index, refl, subst, length, ◌<◌, Err, unwrap_or, option_map, true, inl, inr, rules, String, Global, decimal}
pub use Rattle.std.proofs.lemmas.Fmt.{decimal_injective, parse-decimal}
pub use Rattle.wal_words.specs.Task.{Asks, HasFormat, HasNumber, HasOptions, IsAudit, IsAxis, IsBeacon, IsFormat, IsTask, IsIdentifier, IsNumber, IsRow, identify, encode, read, recover, check, serve, replay, sample, image, unpack, bundle, member, challenge, verify, gateway, NoTask}
