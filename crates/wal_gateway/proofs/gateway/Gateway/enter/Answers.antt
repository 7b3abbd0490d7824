-- The list after a blob entered, and after memory was wanted.
use Rattle.wal_gateway.proofs.Common.{◌≤◌, sym, subst, LruCache, BlobId, CheckedBlob, AreChecked}
use Rattle.wal_gateway.proofs.Sound.{entered_invariant, entered_shown}
use Rattle.wal_gateway.proofs.gateway.Gateway.enter.Goals as goal

pub invariant_of-self : goal.invariant_of-self
invariant_of-self g c =
    subst (λ (k : LruCache BlobId CheckedBlob). AreChecked g.H.Hash32.digest k.entries × (1 ≤ k.cap)) (sym c.in_err-put.ensures.err) c.self.invariant

pub invariant_of-self-2 : goal.invariant_of-self-2
invariant_of-self-2 g c =
    entered_invariant g.H.Hash32.digest c.self.inside.blobs c.put.new.self c.args.self.now c.args.id.now c.args.blob c.self.view_is c.requires.new c.self.invariant c.requires.checked
    c.in_ok-put.ensures.entries

pub returns-clause-entered : goal.returns-clause-entered
returns-clause-entered g c = (
  c.in_ok-found.ensures,
  entered_shown c.self.inside.blobs c.put.new.self c.args.self.now c.args.id.now c.args.blob c.self.view_is c.requires.new c.self.invariant.1 c.in_ok-put.ensures.entries,
)
