use Rattle.wal_world.proofs.Common.{rules, ◌≡◌, ℕ, List, sym, ap, ◌∙◌, subst, One, Two, BlobShape, IsIdentifierOf}
use Rattle.wal_world.proofs.Firsts.{other_format}
use Rattle.wal_world.proofs.answering.shape_for.Goals as goal

pub returns-else-eq-clause-identifier : goal.returns-else-eq-clause-identifier
returns-else-eq-clause-identifier g c =
    let digest = g.H.Hash32.digest in
    let blob = c.args.blob.now in
    let id = c.args.id.now.0 in
    let only : (other : List ℕ) → IsIdentifierOf digest c.shape_of-one.result.format c.shape_of-one.result.f blob other → other ≡ c.in_ok-blob_id.field-0.0 = c.in_ok-blob_id.ensures.only in
    let first : (other : List ℕ) → IsIdentifierOf digest One c.args.f blob other → other ≡ c.in_ok-blob_id.field-0.0
    = subst (λ (s : BlobShape). (other : List ℕ) → IsIdentifierOf digest s.format s.f blob other → other ≡ c.in_ok-blob_id.field-0.0) c.shape_of-one.ensures only in
    let other : IsIdentifierOf digest Two c.args.f blob id = other_format digest c.args.f blob id c.in_ok-blob_id.field-0.0 c.requires.identifier.0 c.requires.identifier.1 first (search rules) in
    let shape = c.with_format.ensures ∙ ap (λ (s : BlobShape). record s { format = Two }) c.shape_of-one.ensures in
    subst (λ (s : BlobShape). IsIdentifierOf digest s.format s.f blob id) (sym shape) other
