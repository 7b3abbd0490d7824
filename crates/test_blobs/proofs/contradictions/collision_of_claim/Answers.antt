-- The opening holds for the metadata of the bytes, and its symbol is not that of their matrix.
use Rattle.std.proofs.Common.{◌≡◌, ◌≢◌, ◌∙◌, ◌*◌, ℕ, List, take, drop, sym, ap, subst, rules}
use Rattle.wal_shape.specs.declared.axis.Axis.{Axis}
use Rattle.wal_shape.specs.declared.axis.Axis.TheVariants.{Primary}
use Rattle.wal_shape.specs.declared.claim.Claim.{Claim}
use Rattle.wal_shape.specs.declared.opening.Opening.{Opening}
use Rattle.wal_shape.specs.Opening.{opening_shown}
use Rattle.wal_shape.specs.MetaRef.{metadata_shown}
use Rattle.wal_shape.specs.Metadata.{BlobMetadata}
use Rattle.wal_shape.specs.Shape.{BlobShape, shard_count, symbol_size}
use Rattle.wal_matrix.specs.Matrix.{EncodedBlob, IsExtended, line_of, row_of, shards, symbol_bytes}
use Rattle.wal_commit.specs.Held.{HoldsOpening}
use Rattle.wal_commit.specs.Identifier.{metadata_over}
use Rattle.wal_challenge.specs.Verdict.{IsFalseClaim}
use Rattle.test_blobs.proofs.contradictions.collision_of_claim.Goals as goal

-- the run of so many bytes at this place
abbrev symbol_in : ℕ → List ℕ → ℕ → List ℕ
symbol_in size line place = take size (drop (size * place) line)

false_claim : (digest : List ℕ → List ℕ) (shape : BlobShape) (made : EncodedBlob) (bytes : List ℕ) (claim : Claim) (m : BlobMetadata) (own : List ℕ)
    → made.shape ≡ shape → IsExtended shape.f bytes made.cells → m ≡ metadata_over digest made.shape made.cells → claim.axis ≡ Primary
    → HoldsOpening digest m claim.axis claim.index claim.opening
    → own ≡ take (symbol_bytes made) (drop (symbol_bytes made * claim.opening.cross) (row_of (shards made) (symbol_bytes made) made.cells claim.index))
    → claim.opening.symbol ≢ own → IsFalseClaim digest shape bytes claim
false_claim digest shape made bytes claim m own shape_is extended m_is axis_is holds own_is apart = record {
  matrix = made.cells;
  extended = extended;
  holds = subst (λ (x : BlobMetadata). HoldsOpening digest x claim.axis claim.index claim.opening) (m_is ∙ ap (λ (s : BlobShape). metadata_over digest s made.cells) shape_is) holds;
  apart = λ same. apart (same
      ∙ ap (λ (a : Axis). symbol_in (symbol_size shape.f shape.length) (line_of a shape.f (symbol_size shape.f shape.length) made.cells claim.index) claim.opening.cross) axis_is
      ∙ ap (λ (s : BlobShape). symbol_in (symbol_size s.f s.length) (row_of (shard_count s.f) (symbol_size s.f s.length) made.cells claim.index) claim.opening.cross) (sym shape_is)
      ∙ sym own_is);
}

pub claim_collision-requires-clause-false_claim : goal.claim_collision-requires-clause-false_claim
claim_collision-requires-clause-false_claim g c =
    let digest = g.H.Hash32.digest in
    let claim = c.args.claim.now in
    let made = c.in_ok-matrix.matrix in
    let m = metadata_shown c.view.result in
    let axis : claim.axis ≡ Primary = search rules in
    let shown : HoldsOpening digest m claim.axis claim.index (opening_shown c.view-opening.result) = search rules in
    let same : opening_shown c.view-opening.result ≡ claim.opening = search rules in
    let differ : c.view-opening.result.symbol.now ≢ c.in-Some.own.now = search rules in
    let own = c.in-Some.ensures
    ∙ ap (λ (place : ℕ). take (symbol_bytes made) (drop (symbol_bytes made * place) (row_of (shards made) (symbol_bytes made) made.cells claim.index))) c.view-opening.ensures.cross in
    false_claim digest c.args.shape.now made c.args.bytes.now claim m c.in-Some.own.now c.in_ok-matrix.ensures.shape c.in_ok-matrix.ensures.matrix
    (c.view.ensures.value ∙ c.in_ok-metadata.ensures) axis (subst (λ (o : Opening). HoldsOpening digest m claim.axis claim.index o) same shown) own
    (λ is. differ (c.view-opening.ensures.symbol ∙ is))
