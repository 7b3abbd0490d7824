-- The command that reads a member of a bundle from recorded envelopes.
use Rattle.std.specs.Prelude.{◌≡◌, ◌⊎◌, ℕ, List, codes}
use Rattle.wal_shape.specs.declared.metadata.BlobId.{BlobId}
use Rattle.wal_bundle.specs.declared.answer.MemberAnswer.TheVariants.{BadIndex, Member, Missing}
use Rattle.wal_bundle.specs.declared.answer.MemberAnswer.TheVariants.{NoMember}
use Rattle.wal_bundle.specs.Member.{IsMember}
use Rattle.wal_run.specs.Command.{Command, bare, envelopes_of}
use Rattle.wal_run.specs.Lines.{number_text}

-- what the payloads tell of member k
abbrev pub unbundling : (List ℕ → List ℕ) → BlobId → ℕ → Command
unbundling digest id k = record (bare 134217728 (envelopes_of id)) {
  -- the member as it is
  Succeeds = λ recorded text. IsMember digest id.0 k recorded.payloads (Member text);
  -- the index of the bundle is a bad one
  Rejects = λ recorded text. IsMember digest id.0 k recorded.payloads BadIndex
      × (text ≡ codes "bad index\n");
  -- a column that is needed, or a member of this number
  Lacks = λ recorded text. ((j : ℕ) × IsMember digest id.0 k recorded.payloads (Missing j)
      × (text ≡ number_text (codes "missing column ") j))
      ⊎ ((count : ℕ) × IsMember digest id.0 k recorded.payloads (NoMember count)
      × (text ≡ number_text (codes "no member of ") count));
}
