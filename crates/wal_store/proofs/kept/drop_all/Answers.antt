use Rattle.wal_store.proofs.KeptLaws.{entries_sorted, all_gone}
use Rattle.wal_store.proofs.kept.drop_all.Goals as goal

pub returns-clause-entries : goal.returns-clause-entries
returns-clause-entries c =
    all_gone _ _ _ _ _ c.args.id.now (entries_sorted _ _ c.requires) (entries_sorted _ _ c.drop_one.ensures.owns)
    (entries_sorted _ _ c.drop_one-2.ensures.owns)
    c.drop_one.ensures.entries c.drop_one-2.ensures.entries c.drop_one-3.ensures.entries c.drop_one-4.ensures.entries
