use Rattle.wal_world.proofs.Common.{Option, option_to_list, ◌++◌, subst, sym, IsFromIterResult, BlobId, id_cmp}
use Rattle.wal_world.proofs.Tallies.{put_one}
use Rattle.wal_world.proofs.tally.put_id.Goals as goal

pub returns-in_ok-insert-in-Some : goal.returns-in_ok-insert-in-Some
returns-in_ok-insert-in-Some c = λ seen from.
    let From : Option BlobId → Type 0 = λ o. IsFromIterResult id_cmp (seen ++ option_to_list o) c.insert.new.self in
    subst From (sym c.in-Some.is) (put_one seen c.args.ids.now c.insert.new.self c.in-Some.id from c.in_ok-insert-in-Some.ensures.updates c.insert.ensures.ordered)
