use Rattle.wal_store.proofs.Common.{◌≡◌, ◌-◌, suc, ℕ, length, arith, pages_for}
use Rattle.wal_store.proofs.ChainLaws.{stored_none, stored_more, pages_reach, pages_hold}
use Rattle.wal_store.proofs.stored.store.Goals as goal

pub loop-left-init : goal.loop-left-init
loop-left-init c =
    let count = c.pages_for-left.ensures.value in
    let none : pages_for (length c.args.bytes.now) - c.pages_for-left.result ≡ 0 = omega (arith, count) in (
      omega (arith, count),
      rw none (stored_none 4096 _ _ _ 0 (omega (arith, count, pages_hold (length c.args.bytes.now)))),
    )

pub chunk_at-requires-clause-within : goal.chunk_at-requires-clause-within
chunk_at-requires-clause-within c =
    let reach = pages_reach (length c.args.bytes.now) (c.loop-left.left - 1) (omega (arith, c.loop-left.invariant.0)) in omega (arith, reach)

pub loop-left-preserved : goal.loop-left-preserved
loop-left-preserved c =
    let n : ℕ = c.loop-left.left - 1 in let all = pages_for (length c.args.bytes.now) in
    let more : c.loop-left.left ≡ suc n = omega arith in
    let done : all - n ≡ suc (all - suc n) = omega (arith, c.loop-left.invariant.0) in
    let next = c.prepend-first.ensures in (
      omega (arith, c.loop-left.invariant.0),
      rw done (stored_more 4096 _ _ _ _ c.chunk_at.result.now _ n _ _ (rw more at c.loop-left.invariant.1)
          next.adds next.next next.size next.front c.chunk_at.ensures.value next.free),
    )
