use Rattle.wal_store.proofs.Common.{◌∙◌, sym, ap, option_copied_mut}
use Rattle.wal_store.proofs.IdentifierLaws.{part_written}
use Rattle.wal_store.proofs.map_keep.store.Goals as goal

pub returns-in-Some-clause-stored : goal.returns-in-Some-clause-stored
returns-in-Some-clause-stored c =
    let found = sym c.get_mut.ensures.value ∙ ap option_copied_mut c.in-Some.is in
    (c.get_mut.follows.holds c.set.new.self).0
    ∙ part_written _ c.args.id.now c.args.part _ _ _ c.get_mut.ensures.ordered found c.set.ensures
