-- What serves private functions and proofs beside Serving.
use Rattle.std.specs.Prelude.{◌*◌, ◌≤◌}
use Rattle.wal_words.specs.declared.task.Service.{Service}

-- the numbers of a shard that serves are in their range
pub record MayServe (service : Service) : Type 0 where
  pub some : 1 ≤ service.faults
  pub few : service.faults ≤ 333
  pub of_committee : service.shard ≤ 3 * service.faults
  pub room : service.blobs ≤ 65536
  pub some_pages : 1 ≤ service.pages
  pub few_pages : service.pages ≤ 262144
