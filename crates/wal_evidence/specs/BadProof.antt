-- Proofs of bad encoding, and the result of checking one.
use Rattle.std.specs.Prelude.{◌≡◌, ◌≢◌, ℕ, List, length, take, map, All, Some, slice_get}
use Rattle.std.specs.List.{flat_map}
use Rattle.wal_code.specs.Codeword.{Distinct}
use Rattle.wal_shape.specs.declared.axis.Axis.{Axis}
use Rattle.wal_shape.specs.declared.opening.Opening.{Opening}
use Rattle.wal_shape.specs.Shape.{sliver_symbols, symbol_size}
use Rattle.wal_shape.specs.Metadata.{BlobMetadata, roots_of}
use Rattle.wal_shape.specs.EncodingProof.{EncodingProof}
use Rattle.wal_tree.specs.Tree.{root_over}
use Rattle.wal_matrix.specs.Word.{IsWordThrough}
use Rattle.wal_commit.specs.Held.{HoldsOpening}
use Rattle.wal_evidence.specs.declared.proof.ProofVerdict.{ProofVerdict}
use Rattle.wal_evidence.specs.declared.proof.ProofVerdict.TheVariants.{WrongCount, Repeated}
use Rattle.wal_evidence.specs.declared.proof.ProofVerdict.TheVariants.{BadOpening, Consistent}
use Rattle.wal_evidence.specs.declared.proof.ProofVerdict.TheVariants.{Inconsistent}

-- the crosses of openings
abbrev pub crosses_of : List Opening → List ℕ
crosses_of openings = map (λ shown. shown.cross) openings

-- the symbols of openings, one after the other
abbrev pub symbols_of : List Opening → List ℕ
symbols_of openings = flat_map (λ shown. shown.symbol) openings

-- the codeword of an axis that has the openings' symbols at their crosses
abbrev pub IsLineThrough : BlobMetadata → Axis → List Opening → List ℕ → Type 0
IsLineThrough metadata axis openings word =
    IsWordThrough axis metadata.f (symbol_size metadata.f metadata.length)
    (crosses_of openings) (symbols_of openings) word

-- as many openings of distinct crosses as a sliver of the axis has symbols, each of which holds
pub record AreEnough (digest : List ℕ → List ℕ) (metadata : BlobMetadata)
    (axis : Axis) (index : ℕ) (openings : List Opening) : Type 0 where
  pub count : length openings ≡ sliver_symbols axis metadata.f
  pub distinct : Distinct (crosses_of openings)
  pub held : All (HoldsOpening digest metadata axis index) openings

-- the root over a codeword is the one that the metadata has for this axis and index
abbrev pub HasRoot : (List ℕ → List ℕ) → BlobMetadata → Axis → ℕ → List ℕ → Type 0
HasRoot digest metadata axis index word =
    slice_get (roots_of axis metadata) index
    ≡ Some (root_over digest (symbol_size metadata.f metadata.length) word)

-- there are enough openings, and this is the codeword through them
pub record ShowLine (digest : List ℕ → List ℕ) (metadata : BlobMetadata) (axis : Axis)
    (index : ℕ) (openings : List Opening) (word : List ℕ) : Type 0 where
  pub enough : AreEnough digest metadata axis index openings
  pub through : IsLineThrough metadata axis openings word

-- a proof shows a codeword with another root than the metadata's
pub record IsBadProof (digest : List ℕ → List ℕ)
    (metadata : BlobMetadata) (proof : EncodingProof) : Type 0 where
  pub word : List ℕ
  pub line : ShowLine digest metadata proof.axis proof.index proof.openings word
  pub root : HasRoot digest metadata proof.axis proof.index word → ⊥

-- a proof shows a codeword with the metadata's root
pub record IsConsistent (digest : List ℕ → List ℕ)
    (metadata : BlobMetadata) (proof : EncodingProof) : Type 0 where
  pub word : List ℕ
  pub line : ShowLine digest metadata proof.axis proof.index proof.openings word
  pub root : HasRoot digest metadata proof.axis proof.index word

-- the opening at this place is the first that does not hold
pub record IsFirstBad (digest : List ℕ → List ℕ) (metadata : BlobMetadata)
    (proof : EncodingProof) (place : ℕ) : Type 0 where
  pub before : All (HoldsOpening digest metadata proof.axis proof.index) (take place proof.openings)
  pub opening : Opening
  pub there : slice_get proof.openings place ≡ Some opening
  pub bad : HoldsOpening digest metadata proof.axis proof.index opening → ⊥

-- the result of a check; one of these cases applies
abbrev pub Checks : (List ℕ → List ℕ) → BlobMetadata → EncodingProof → ProofVerdict → Type 0
Checks digest metadata proof WrongCount =
    length proof.openings ≢ sliver_symbols proof.axis metadata.f
Checks digest metadata proof Repeated =
    (length proof.openings ≡ sliver_symbols proof.axis metadata.f)
    × (Distinct (crosses_of proof.openings) → ⊥)
Checks digest metadata proof (BadOpening place) =
    (length proof.openings ≡ sliver_symbols proof.axis metadata.f)
    × Distinct (crosses_of proof.openings)
    × IsFirstBad digest metadata proof place
Checks digest metadata proof Consistent = IsConsistent digest metadata proof
Checks digest metadata proof Inconsistent = IsBadProof digest metadata proof
