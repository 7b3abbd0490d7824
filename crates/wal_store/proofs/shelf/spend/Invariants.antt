use Rattle.wal_store.proofs.Common.{◌≡◌, None, All, vec_len}
use Rattle.wal_store.proofs.shelf.spend.Given as goal

abbrev pub invariant-loop-token : goal.invariant-loop-token
invariant-loop-token l = All (λ t. t ≡ None) l.tokens.items

abbrev pub decreases-loop-token : goal.decreases-loop-token
decreases-loop-token l = vec_len l.tokens
