use Rattle.wal_run.proofs.Common.{rules, ◌≡◌, ◌+◌, ◌++◌, ◌∙◌, length, ap, arith, sliver_frame, length-sliver_frame}
use Rattle.wal_run.proofs.ShardTexts.{envelope_joins}
use Rattle.wal_run.proofs.envelope.begin_sliver.Goals as goal

pub returns-clause-joins : goal.returns-clause-joins
returns-clause-joins c = λ bytes is.
    let id_size : length c.args.id.0 ≡ 32 = search rules in
    let frame = sliver_frame c.args.id.0 c.args.axis c.args.index bytes in
    let long : length frame ≡ 40 + c.args.size = omega (arith, length-sliver_frame c.args.id.0 c.args.axis c.args.index bytes id_size, is) in
    ap (λ b. b.bytes ++ bytes) c.put.ensures
    ∙ envelope_joins c.args.shard (40 + c.args.size) c.begin.new.out.bytes c.sliver_head.result bytes frame c.begin.ensures.text (c.sliver_head.ensures.joins bytes is) long
