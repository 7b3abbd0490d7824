use Rattle.wal_frame.proofs.Common.{◌∷◌, Ok, sym, ap, subst, ◌∙◌, arith, One, BlobMetadata, spelled_metadata, metadata_shown, spelled_by, Metadata}
use Rattle.wal_frame.proofs.KindLaws.{Outcome, metadata_is, metadata_found}
use Rattle.wal_frame.proofs.reading.metadata_of.Goals as goal

pub unreachable-requires : goal.unreachable-requires
unreachable-requires c =
    let bytes = c.args.bytes.now in
    let found = metadata_found One bytes (spelled_metadata bytes) (λ i. omega (arith, c.type_inv.bytes i)) (subst (Outcome (0x10 ∷ bytes)) c.in_ok-check_metadata.ensures (metadata_is bytes)) in
    c.in-None.ensures.none (spelled_metadata bytes) found.0 found.1

pub returns-clause-frame : goal.returns-clause-frame
returns-clause-frame c =
    c.in_ok-check_metadata.ensures
    ∙ ap (λ (m : BlobMetadata). Ok (Metadata m)) (spelled_by c.args.bytes.now (metadata_shown c.in-Some.metadata) c.in-Some.ensures.metadata c.in-Some.ensures.spelled).1

pub returns-clause-kind : goal.returns-clause-kind
returns-clause-kind c =
    let bytes = c.args.bytes.now in
    let found = metadata_found One bytes (spelled_metadata bytes) (λ i. omega (arith, c.type_inv.bytes i)) (subst (Outcome (0x10 ∷ bytes)) c.in_ok-check_metadata.ensures (metadata_is bytes)) in
    ap (λ (m : BlobMetadata). m.format) (sym (spelled_by bytes (metadata_shown c.in-Some.metadata) c.in-Some.ensures.metadata c.in-Some.ensures.spelled).1) ∙ found.2
