use Rattle.wal_store.proofs.Common.{◌≡◌, ◌-◌, ◌≤◌, length, take, drop, links, joined}
use Rattle.wal_store.proofs.ChainLaws.{Walking, Reading}
use Rattle.wal_store.proofs.stored.read.Given as goal

abbrev pub invariant-loop : goal.invariant-loop
invariant-loop l = Walking l.chains 4096 l.count l.first l.at l.counter l.page

abbrev pub invariant-loop-done : goal.invariant-loop-done
invariant-loop-done l =
    let want = take (length l.fn.out) (drop l.fn.at (joined l.chains.states (links l.chains.next l.fn.count l.fn.first))) in
    Reading l.chains 4096 want (length l.fn.out) l.done l.offset l.left l.page
    × (l.done ≤ length l.fn.out) × (length l.out ≡ length l.fn.out) × (take l.done l.out ≡ take l.done want)

abbrev pub decreases-loop-done : goal.decreases-loop-done
decreases-loop-done l = length l.out - l.done
