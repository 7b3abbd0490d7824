use Rattle.wal_run.proofs.Common.{◌≡◌, suc, length, Some, sym, ap, ◌∙◌, arith}
use Rattle.wal_run.proofs.ListingLaws.{to_come, none_listed, one_next, one_listed, all_listed}
use Rattle.wal_run.proofs.unpack.contents_lines.Goals as goal

pub loop-id-init : goal.loop-id-init
loop-id-init g c = none_listed (g.K.Keep.contents c.args.keep.now) c.new-text.result.items c.new-text.ensures.items

pub loop-id-smaller : goal.loop-id-smaller
loop-id-smaller g c =
    let held = g.K.Keep.contents c.args.keep.now in
    let step : length (to_come held c.loop-id.last) ≡ suc (length (to_come held (Some c.in-Some.id))) = ap length (one_next held c.loop-id.last c.in-Some.id (sym c.in-Some.is ∙ c.next_id.ensures.value)) in
    omega (arith, step)

pub loop-id-preserved : goal.loop-id-preserved
loop-id-preserved g c =
    one_listed (g.K.Keep.contents c.args.keep.now) c.loop-id.last c.in-Some.id c.loop-id.text.items c.add_holding.new.text.items (sym c.in-Some.is ∙ c.next_id.ensures.value) c.in_ok-add_holding.ensures c.loop-id.invariant

pub returns : goal.returns
returns g c = all_listed (g.K.Keep.contents c.args.keep.now) c.loop-id.last c.next_id.result c.loop-id.text.items c.in_default.not-Some c.next_id.ensures.value c.loop-id.invariant
