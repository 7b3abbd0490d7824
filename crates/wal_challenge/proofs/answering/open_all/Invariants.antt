-- The openings so far answer their draws.
use Rattle.wal_challenge.proofs.Common.{ℕ, List, metadata_shown, AreAnswers, AreWordsOf}
use Rattle.wal_challenge.proofs.answering.open_all.Given as goal

abbrev pub invariant-each : goal.invariant-each
invariant-each g l =
    let m = metadata_shown l.m in
    (primary secondary : List ℕ) → AreWordsOf m primary secondary l.answerer
    → AreAnswers g.H.Hash32.digest m l.beacon l.shard l.d primary secondary l.openings.items
