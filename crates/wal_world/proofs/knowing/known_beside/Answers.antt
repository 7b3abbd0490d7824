use Rattle.wal_world.proofs.Common.{rules, ◌≡◌, sym, ◌∙◌, metadata_shown, metadata_text}
use Rattle.wal_shape.proofs.MetadataLaws.{metadata_text-injective}
use Rattle.wal_world.proofs.Recoveries.{only_beside, only_first}
use Rattle.wal_world.proofs.knowing.known_beside.Goals as goal

pub returns-then-eq : goal.returns-then-eq
returns-then-eq g c f parts h =
    let bytes : c.bytes.result.now ≡ c.bytes-in-Some.result.now = search rules in
    let text : metadata_text (metadata_shown c.view.result) ≡ metadata_text (metadata_shown c.args.m) = sym c.bytes.ensures.spelling ∙ bytes ∙ c.bytes-in-Some.ensures.spelling in
    let same : c.in-Some.own ≡ metadata_shown c.args.m
    = sym c.view.ensures.value ∙ metadata_text-injective (metadata_shown c.view.result) (metadata_shown c.args.m) c.bytes.ensures.metadata c.bytes-in-Some.ensures.metadata text in
    only_beside g.H.Hash32.digest f c.args.id.now parts c.args.payloads.now (metadata_shown c.args.m) c.in-Some.own c.args.own c.requires.one same c.in-Some.is h

pub returns-in_ok-of-in-None : goal.returns-in_ok-of-in-None
returns-in_ok-of-in-None g c f parts h =
    only_first g.H.Hash32.digest f c.args.id.now parts c.args.payloads.now (metadata_shown c.args.m) c.in_ok-of-in-None.field-0 c.args.own c.requires.one c.requires.commits c.in_ok-of-in-None.ensures c.in-None.is h
