use Rattle.wal_theorem.specs.Instance.{rules_of}
use Rattle.wal_protocol.proofs.EveryWord.{surely, then}
use Rattle.wal_theorem.proofs.EveryRead.{every_read}
use Rattle.wal_theorem.proofs.InstanceLaws.{laws_of}
use Rattle.wal_network.proofs.Safe.{safe_network}
use Rattle.wal_network.proofs.Whole.{run_of_world}
use Rattle.wal_network.proofs.laws.every_network.Goals as goal

pub returns : goal.returns
returns g c =
    let digest = g.H.Hash32.digest in
    let size = g.met.H.Hash32.size in
    record {
      safe = λ n many history. safe_network (rules_of digest n.start.f) (laws_of digest size n.start.f history.fits.most)
          (λ id payloads are one. then (every_read digest n.start.f id payloads are one) (λ read. surely (read.0, read.1, read.2.0.0))) n many history;
      run = λ n many history. run_of_world (rules_of digest n.start.f) (laws_of digest size n.start.f history.fits.most) n many history;
    }
