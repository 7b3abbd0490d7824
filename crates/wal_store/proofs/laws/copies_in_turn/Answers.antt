use Rattle.wal_store.proofs.CallLaws.{copies_join, copies_make_all}
use Rattle.wal_store.proofs.laws.copies_in_turn.Goals as goal

pub returns : goal.returns
returns c = record { join = copies_join; all = copies_make_all }
