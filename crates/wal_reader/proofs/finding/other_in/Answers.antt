use Rattle.wal_reader.proofs.Common.{◌≡◌, ◌∙◌, sym, rules, metadata_shown, metadata_text-injective, Commits, read_of}
use Rattle.wal_reader.proofs.Gathering.{one_metadata}
use Rattle.wal_reader.proofs.finding.other_in.Goals as goal
use Rattle.wal_reader.proofs.finding.other_in.Goals.{else-ne-via-then-ne+else-metadata_holds, else-ne-via-else-ne}

pub returns-else-ne-clause-none : goal.returns-else-ne-clause-none
returns-else-ne-clause-none g c = λ x carries.
    let other = metadata_shown c.in-Some.other in
    let is = one_metadata (read_of c.args.payload.now) x other carries.0 c.in-Some.ensures.some in
    elim c.else-ne.branch [
      | else-ne-via-then-ne+else-metadata_holds w ↦
          let refused : Commits g.H.Hash32.digest c.args.id.now.0 other → ⊥ = search rules in
          absurd (refused (rw is at carries.1))
      | else-ne-via-else-ne w ↦
          let same : c.bytes.result.now ≡ c.bytes-in-Some.result.now = search rules in
          is ∙ metadata_text-injective other (metadata_shown c.args.m) c.bytes.ensures.metadata
          c.bytes-in-Some.ensures.metadata
          (sym c.bytes.ensures.spelling ∙ same ∙ c.bytes-in-Some.ensures.spelling)
    ]
