use Rattle.wal_commit.proofs.Common.{◌≡◌, ◌*◌, length, vec_len, sym, ap, subst, ◌∙◌, take_at, shard_count, symbol_size, AreLeafDigests, BlobState, symbols_of}
use Rattle.wal_commit.proofs.Symbols.{symbols_digested}
use Rattle.wal_commit.proofs.strips.strip_digests.Goals as goal

pub returns-clause-digests : goal.returns-clause-digests
returns-clause-digests g c =
    λ e is.
    let digest = g.H.Hash32.digest in
    let shape = c.args.shape.now in
    let b : BlobState = record { shape = shape; bytes = c.args.bytes.now } in
    let out = c.digest_strips.new.out in
    let count : c.n.result * c.n-2.result ≡ symbols_of b = ap (λ z. z * c.n-2.result) c.n.ensures.value ∙ ap (λ z. shard_count shape.f * z) c.n-2.ensures.value in
    let made = rw (c.in_ok-pieces.ensures, count) at c.in_ok-digest_strips.ensures.digests in
    let filled : length out ≡ vec_len c.in_ok-digests.digests = c.digest_strips.auto.out ∙ c.deref_mut.ensures.len in
    subst (AreLeafDigests digest (shard_count shape.f) (symbol_size shape.f shape.length) e) (sym (take_at out _ _ filled))
    (rw c.requires at (symbols_digested digest b out made e is))
