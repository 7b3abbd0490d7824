-- The identifier and the envelopes of a blob: a blob has one of each, and they are what the code writes.
use Rattle.wal_run.proofs.Common.{◌≡◌, ℕ, ◌≤◌, List, length, refl, arith, Format, BlobShape, BlobMetadata, IsExtended, IsIdentifierOf, metadata_over, identifier_of, IsResult, succeeds, success, all_envelopes}
use Rattle.wal_matrix.proofs.MatrixLaws.{extended_unique}
use Rattle.wal_run.specs.Encoding.{encoding}
use Rattle.wal_run.specs.Identifying.{identifying}
use Rattle.wal_run.proofs.CommandLaws.{Determined, same, told_so}

-- ---- one identifier, and one text

pub one_identifier : (digest : List ℕ → List ℕ) (format : Format) (f : ℕ) (blob i j : List ℕ) → IsIdentifierOf digest format f blob i → IsIdentifierOf digest format f blob j → i ≡ j
one_identifier digest format f blob i j a b =
    let matrix = extended_unique f blob a.1.0 b.1.0 a.1.3.1 a.1.1 b.1.1 in
    rw (a.2.identifier, b.2.identifier, a.1.2, b.1.2, matrix) refl

-- `id` has one result
pub identified : (digest : List ℕ → List ℕ) (f : ℕ) (format : Format) → Determined digest (identifying digest f format)
identified digest f format input blob spells _ _ _ _ (succeeds x (i, of_i, x_is)) (succeeds y (j, of_j, y_is)) =
    same _ _ _ _ refl (cc (x_is, y_is, one_identifier digest format f blob i j of_i of_j))
identified digest f format input blob spells s x t y a b =
    let so = told_so digest (identifying digest f format) blob in absurd (grind (arith, so s x a, so t y b))

-- `encode` has one result
pub encoded : (digest : List ℕ → List ℕ) (f : ℕ) (format : Format) → f ≤ 333 → Determined digest (encoding digest f format)
encoded digest f format few input blob spells _ _ _ _ (succeeds x (e, of_e, x_is)) (succeeds y (d, of_d, y_is)) =
    same _ _ _ _ refl (cc (x_is, y_is, extended_unique f blob e d few of_e of_d))
encoded digest f format few input blob spells s x t y a b =
    let so = told_so digest (encoding digest f format) blob in absurd (grind (arith, so s x a, so t y b))

-- ---- what the code writes

-- the envelopes of what was made for a blob are those of the blob
pub encoded_is : (digest : List ℕ → List ℕ) (f : ℕ) (format : Format) (blob : List ℕ) (shape held : BlobShape) (e : List ℕ) (m : BlobMetadata) (id : List ℕ)
    → shape ≡ record { format = format; f = f; length = length blob } → held ≡ shape → IsExtended shape.f blob e
    → m ≡ metadata_over digest shape e → id ≡ identifier_of digest m → IsResult digest (encoding digest f format) blob 0 (all_envelopes id m held e)
encoded_is digest f format blob shape held e m id shape_is held_is extended m_is id_is =
    success _ (blob, refl, (e, rw shape_is at extended, rw (id_is, m_is, held_is, shape_is) refl))
