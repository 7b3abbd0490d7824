use Rattle.wal_commit.proofs.Common.{◌≡◌, ◌*◌, ◌<◌, length, vec_len, ap, sym, subst, ◌∙◌, arith, take_at, symbol_size, symbol_size-least, shards, symbol_bytes, AreLeafDigests}
use Rattle.wal_commit.proofs.LeafTables.{digested_are, whole_pieces}
use Rattle.wal_commit.proofs.leaves.leaf_digests.Goals as goal

pub digest_pieces-requires-clause-whole : goal.digest_pieces-requires-clause-whole
digest_pieces-requires-clause-whole g c =
    let e = c.args.e.now in
    let size : c.symbol_size.result ≡ symbol_bytes e = c.symbol_size.ensures.value ∙ ap (λ s. symbol_size s.f s.length) c.shape-2.ensures in
    let some : 0 < symbol_bytes e = omega (arith, (symbol_size-least e.shape.f e.shape.length).positive) in
    whole_pieces (shards e * shards e) (symbol_bytes e) c.symbol_size.result (length c.cells.result.now) some size c.cells.ensures.long

pub returns : goal.returns
returns g c =
    let e = c.args.e.now in
    let out = c.digest_pieces.new.out in
    let size : c.symbol_size.result ≡ symbol_bytes e = c.symbol_size.ensures.value ∙ ap (λ s. symbol_size s.f s.length) c.shape-2.ensures in
    let some : 0 < symbol_bytes e = omega (arith, (symbol_size-least e.shape.f e.shape.length).positive) in
    let whole : length e.cells ≡ shards e * shards e * symbol_bytes e = sym (ap length c.cells.ensures.value) ∙ c.cells.ensures.long in
    let written = rw (c.cells.ensures.value, size) at c.digest_pieces.ensures in
    let filled : length out ≡ vec_len c.in_ok-digests.digests = c.digest_pieces.auto.out ∙ c.deref_mut.ensures.len in
    subst (AreLeafDigests g.H.Hash32.digest (shards e) (symbol_bytes e) e.cells) (sym (take_at out _ _ filled))
    (digested_are g.H.Hash32.digest (shards e) (symbol_bytes e) e.cells out some whole written)
