-- The command that makes a bundle of the members in recorded envelopes.
use Rattle.std.specs.Prelude.{◌≡◌, ◌⊎◌, ℕ, codes, Ok, Err}
use Rattle.wal_bundle.specs.declared.answer.BundleError.TheVariants.{TooLong, TooMany}
use Rattle.wal_bundle.specs.Layout.{Bundles}
use Rattle.wal_run.specs.Command.{Command, bare, envelopes}

-- the payloads are the members
abbrev pub bundling : ℕ → Command
bundling f = record (bare 134217728 envelopes) {
  -- the bundle as it is
  Succeeds = λ members text. Bundles f members (Ok text);
  -- a bundle: there are too many members, or it would be too long
  Lacks = λ members text. (Bundles f members (Err TooMany) × (text ≡ codes "too many members\n"))
      ⊎ (Bundles f members (Err TooLong) × (text ≡ codes "bundle too long\n"));
}
