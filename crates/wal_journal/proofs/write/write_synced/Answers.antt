use Rattle.wal_journal.proofs.Common.{◌∙◌, on_err_weaker}
use Rattle.wal_journal.proofs.Moments.{put_agrees, write_left, sync_left, goes_on, write_run}
use Rattle.wal_journal.proofs.write.write_synced.Goals as goal

pub returns-in_err-write_at-clause-any_moment : goal.returns-in_err-write_at-clause-any_moment
returns-in_err-write_at-clause-any_moment g c = λ told.
    let wrote = c.write_at.ensures in
    write_run (g.met.D.Disk.only_now told) c.write_at.result c.args.at c.args.bytes.now c.args.disk.now
    c.write_at.new.self c.requires (wrote.told told) wrote.written wrote.torn (wrote.time told)

pub returns-clause-any_moment : goal.returns-clause-any_moment
returns-clause-any_moment g c = λ told.
    let wrote = c.write_at.ensures in
    let first = write_run (g.met.D.Disk.only_now told) c.write_at.result c.args.at c.args.bytes.now c.args.disk.now
    c.write_at.new.self c.requires (wrote.told told) wrote.written wrote.torn (wrote.time told) in
    goes_on first (c.sync.ensures.time told) (λ image left.
    write_left c.write_at.result c.args.at c.args.bytes.now _ _ _ _ _ _ c.requires (wrote.told told) wrote.written
    wrote.torn image (sync_left c.sync.result _ _ _ _ _ _ c.sync.ensures.now (c.sync.ensures.told told) image left))

pub returns-clause-torn : goal.returns-clause-torn
returns-clause-torn g c =
    on_err_weaker c.sync.result (λ rose.
    put_agrees c.args.at c.args.bytes.now _ _ c.requires (c.sync.ensures.now ∙ c.in_ok-write_at.ensures.written))
    c.sync.ensures.failed
