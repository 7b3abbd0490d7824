use Rattle.wal_store.proofs.Common.{◌≡◌, ◌≤◌, replicate, None, vec_len, vec_capacity}
use Rattle.wal_store.proofs.shelf.no_tokens.Given as goal

abbrev pub invariant-loop : goal.invariant-loop
invariant-loop l = (l.tokens.items ≡ replicate l.counter None) × (vec_len l.tokens ≡ l.counter) × (l.pages ≤ vec_capacity l.tokens)
