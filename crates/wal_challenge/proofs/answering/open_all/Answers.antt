use Rattle.wal_challenge.proofs.Common.{◌≡◌, ap, ◌∙◌, arith, metadata_shown, shard_count}
use Rattle.wal_challenge.proofs.AnswerLaws.{answers_more, same_draw}
use Rattle.wal_challenge.proofs.answering.open_all.Goals as goal

pub each-preserved : goal.each-preserved
each-preserved g c = λ primary secondary are.
    let digest = g.H.Hash32.digest in
    let m = metadata_shown c.args.m in
    let draw = c.draw-draw.result in
    let n_is = c.n-n.ensures.value ∙ ap (λ s. shard_count s.f) c.shape.ensures.value in
    let draw_is = same_draw digest m c.args.beacon.now c.identify-id.result.0 c.n-n.result c.args.shard c.each.d draw c.draw-draw.ensures.drawn c.identify-id.ensures.identifier n_is in
    answers_more digest m c.args.beacon.now c.args.shard c.each.d primary secondary c.each.openings.items c.push.new.self.items c.in_ok-open.field-0 draw
    (c.each.invariant primary secondary are) draw_is (c.in_ok-open.ensures primary secondary are) c.in_ok-push.ensures.items

pub returns : goal.returns
returns g c = λ primary secondary are.
    let all : c.each.d ≡ c.args.count = omega (arith, c.each-test.false, c.each.auto.d-end) in
    rw all at (c.each.invariant primary secondary are)
