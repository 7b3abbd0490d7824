use Rattle.wal_store.proofs.Common.{◌≡◌, ◌+◌, count_by, is_free, links}
use Rattle.wal_store.proofs.ChainLaws.{Giving}
use Rattle.wal_store.proofs.stored.discard.Given as goal

abbrev pub invariant-loop-left : goal.invariant-loop-left
invariant-loop-left l =
    Giving l.fn.chains l.chains (links l.fn.chains.next l.count l.fn.first) (links l.fn.chains.next l.left l.page)
    × (count_by is_free l.chains.states + l.left ≡ count_by is_free l.fn.chains.states + l.count)

abbrev pub decreases-loop-left : goal.decreases-loop-left
decreases-loop-left l = l.left
