use Rattle.wal_lanes.proofs.Common.{◌≡◌, digest_bytes, put_at}
use Rattle.wal_lanes.proofs.bytes.put_words.Given as goal

abbrev pub invariant-each : goal.invariant-each
invariant-each l = l.out ≡ put_at l.at l.fn.out (digest_bytes l.words l.word)
