-- The put is a run of one call, and no put of a run wants memory.
use Rattle.wal_store.proofs.Common.{◌≢◌, [], ◌∷◌, Err, refl, All-head, Memory, Put, PutAnswer}
use Rattle.wal_store.proofs.CallLaws.{never_wants}
use Rattle.wal_store.proofs.laws.put_in_pool.Goals as goal

pub returns-clause-never : goal.returns-clause-never
returns-clause-never c =
    let old = c.args.keep.now in let put = Put c.args.id.now c.args.part c.args.bytes.now in
    let none = never_wants _ _ _ (put ∷ []) (c.put.result ∷ []) (c.put.ensures.run old.contents [] [] refl) in
    All-head (λ (answer : PutAnswer). answer ≢ Err Memory) c.put.result [] none
