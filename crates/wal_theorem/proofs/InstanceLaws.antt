-- The rules of the world have the laws that its safety rests on.
use Rattle.wal_theorem.proofs.Common.{◌≡◌, ℕ, ◌≤◌, List, length, Laws, rules_of, none_sound, without_sliver_sound, Primary, Secondary, with_part, None}
use Rattle.wal_theorem.proofs.InstanceHoldings.{refuted}
use Rattle.wal_theorem.proofs.InstancePuts.{put_sound, put_adds}
use Rattle.wal_theorem.proofs.InstanceRecoveries.{recover_sound, recover_adds, recover_commits}
use Rattle.wal_theorem.proofs.InstanceReads.{read_backed, write_backed, read_completes}
use Rattle.wal_theorem.proofs.InstanceSymbols.{secondary_recovers, primary_recovers}

-- for a digest of 32 bytes, and the number of faults of a committee
pub laws_of : (digest : List ℕ → List ℕ) → ((text : List ℕ) → length (digest text) ≡ 32) → (f : ℕ) → f ≤ 333 → Laws (rules_of digest f)
laws_of digest size f few = record {
  nothing_sound = λ id shard. none_sound digest f shard id.0;
  put_sound = λ log shard old. put_sound digest f log shard old;
  recover_sound = λ id shard axis old new payloads word r one was. recover_sound digest f id shard old was axis new payloads word r;
  forget_sound = λ id shard p was.
      without_sliver_sound digest f shard id.0 Secondary (with_part p Primary None)
      (without_sliver_sound digest f shard id.0 Primary p was);
  put_adds = λ log shard old new frame answer. put_adds digest f log shard old new frame answer;
  recover_adds = λ id shard axis old new payloads word. recover_adds digest f id shard axis old new payloads word;
  recover_commits = λ id shard axis old new payloads bytes r one was. recover_commits digest f id shard old was axis new payloads bytes r;
  refutes = λ id shard parts. refuted digest f id shard parts;
  read_backed = λ id payloads word evidence shown. read_backed digest f id payloads word evidence shown;
  write_backed = λ format blob id message. write_backed digest size f format blob id message;
  read_completes = λ id payloads word evidence heard enough replied r. read_completes digest size f few id payloads word evidence heard enough replied r;
  secondary_recovers = λ id shard old new payloads word heard enough helped inside was one r.
      secondary_recovers digest size f few id shard inside payloads old new word heard enough helped r;
  primary_recovers = λ id shard old new payloads word heard enough helped inside was one r.
      primary_recovers digest size f few id shard inside payloads old new word heard enough helped r;
}
