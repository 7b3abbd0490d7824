use Rattle.wal_challenge.proofs.Common.{rules, ◌≡◌, ◌<◌, length, ap, refl, ◌∙◌, arith, slice_get_read, metadata_shown, shard_count, AnswersDraw}
use Rattle.wal_challenge.proofs.AnswerLaws.{same_draw}
use Rattle.wal_challenge.proofs.VerdictLaws.{first_more}
use Rattle.wal_challenge.proofs.checking.first_wrong.Goals as goal

pub each-preserved : goal.each-preserved
each-preserved g c =
    let digest = g.H.Hash32.digest in
    let m = metadata_shown c.args.m in
    let claims = c.args.claims.now in
    let claim = c.index-claims-d.result in
    let draw = c.draw-draw.result in
    let within : c.each.d < length claims = omega (arith, c.each-test.true) in
    let n_is = c.n-n.ensures.value ∙ ap (λ s. shard_count s.f) c.shape.ensures.value in
    let draw_is = same_draw digest m c.args.beacon.now c.identify-id.result.0 c.n-n.result c.args.shard c.each.d draw c.draw-draw.ensures.drawn c.identify-id.ensures.identifier n_is in
    let is : AnswersDraw digest m c.args.shard draw claim = search rules in
    first_more digest m c.args.beacon.now c.args.shard claims c.each.d claim c.each.invariant
    (slice_get_read claims (length claims) c.each.d claim refl within c.index-claims-d.is)
    (rw draw_is at is)

pub returns-clause-none : goal.returns-clause-none
returns-clause-none g c =
    let all : c.each.d ≡ length c.args.claims.now = omega (arith, c.each-test.false, c.each.auto.d-end) in
    rw all at c.each.invariant
