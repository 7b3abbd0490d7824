use Rattle.wal_theorem.proofs.Common.{IsDigest}
use Rattle.wal_theorem.proofs.EveryRun.{step_exists, run_exists}
use Rattle.wal_theorem.proofs.KeptBytes.{bytes_start, bytes_kept}
use Rattle.wal_theorem.proofs.laws.every_event.Goals as goal

pub returns : goal.returns
returns g c =
    let is : IsDigest g.H.Hash32.digest = record { size = g.met.H.Hash32.size; bytes = g.met.H.Hash32.bytes } in
    record {
      step = λ f old event. step_exists g.H.Hash32.digest is f old event;
      run = λ s. run_exists g.H.Hash32.digest is s;
      start = λ s. bytes_start g.H.Hash32.digest is s;
      kept = λ f old event said new. bytes_kept g.H.Hash32.digest is f old event said new;
    }
