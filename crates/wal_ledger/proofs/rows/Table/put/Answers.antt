use Rattle.wal_ledger.proofs.Common.{Contains, List, inl, refl, sym, subst, BlobId}
use Rattle.wal_ledger.proofs.Living.{put_in}
use Rattle.wal_ledger.proofs.rows.Table.put.Goals as goal

pub wake-requires : goal.wake-requires
wake-requires c = subst (λ (l : List BlobId). Contains l c.args.id.now) (sym c.keep.ensures.ids) (put_in c.args.self.now.ids c.args.id.now c.args.id.now (inl refl))
