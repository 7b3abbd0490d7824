-- The verdict on claims in answer to draws.
use Rattle.std.specs.Prelude.{◌≡◌, ◌≢◌, ◌⊎◌, ℕ, ◌+◌, ◌<◌, List, [], ◌∷◌, length, Some, slice_get}
use Rattle.wal_kernel.specs.Region.{region}
use Rattle.wal_shape.specs.declared.claim.Claim.{Claim}
use Rattle.wal_shape.specs.declared.opening.Opening.{Opening}
use Rattle.wal_shape.specs.Shape.{BlobShape, crossing, symbol_size}
use Rattle.wal_shape.specs.Metadata.{BlobMetadata}
use Rattle.wal_tree.specs.Path.{MeetOnPaths, path_over}
use Rattle.wal_matrix.specs.Matrix.{IsExtended, line_of}
use Rattle.wal_commit.specs.Held.{HoldsOpening}
use Rattle.wal_commit.specs.Identifier.{metadata_over}
use Rattle.wal_challenge.specs.declared.checking.AnswerVerdict.{AnswerVerdict}
use Rattle.wal_challenge.specs.declared.checking.AnswerVerdict.TheVariants.{Accepted, Wrong}
use Rattle.wal_challenge.specs.declared.checking.AnswerVerdict.TheVariants.{WrongCount}
use Rattle.wal_challenge.specs.declared.drawing.Draw.{Draw}
use Rattle.wal_challenge.specs.Answer.{draw_of, drawn_index}

-- the claim answers the draw: its target is the sliver of the crossing axis whose index is the
-- drawn place, its cross is the shard's own sliver of the drawn axis, and the metadata commits it
pub record AnswersDraw (digest : List ℕ → List ℕ) (metadata : BlobMetadata)
    (shard : ℕ) (draw : Draw) (claim : Claim) : Type 0 where
  pub axis : claim.axis ≡ crossing draw.axis
  pub index : claim.index ≡ draw.place
  pub cross : claim.opening.cross ≡ drawn_index metadata shard draw
  pub holds : HoldsOpening digest metadata claim.axis claim.index claim.opening

-- each of the first claims answers its own draw
abbrev pub FirstAnswer : (List ℕ → List ℕ) → BlobMetadata → List ℕ → ℕ → List Claim → ℕ → Type 0
FirstAnswer digest metadata beacon shard claims count =
    (draw : ℕ) (claim : Claim) → draw < count → slice_get claims draw ≡ Some claim
    → AnswersDraw digest metadata shard (draw_of digest metadata beacon shard draw) claim

-- this claim is the first that does not answer its draw
pub record IsFirstWrong (digest : List ℕ → List ℕ) (metadata : BlobMetadata)
    (beacon : List ℕ) (shard : ℕ) (claims : List Claim) (draw : ℕ) : Type 0 where
  pub before : FirstAnswer digest metadata beacon shard claims draw
  pub claim : Claim
  pub there : slice_get claims draw ≡ Some claim
  pub wrong : AnswersDraw digest metadata shard (draw_of digest metadata beacon shard draw) claim
      → ⊥

-- the verdict on claims in answer to `count` draws; one of these cases applies
abbrev pub AnswersComeTo : (List ℕ → List ℕ) → BlobMetadata → List ℕ → ℕ → ℕ → List Claim
    → AnswerVerdict → Type 0
-- there are k of them, and k is another number
AnswersComeTo digest metadata beacon shard count claims (WrongCount k) =
    (length claims ≡ k) × (k ≢ count)
-- the first that does not answer its draw has this number
AnswersComeTo digest metadata beacon shard count claims (Wrong draw) =
    (length claims ≡ count) × IsFirstWrong digest metadata beacon shard claims draw
-- each answers its draw
AnswersComeTo digest metadata beacon shard count claims Accepted =
    (length claims ≡ count) × FirstAnswer digest metadata beacon shard claims count

-- the claim that an opening is one of the target of this draw
abbrev pub claim_of : (List ℕ → List ℕ) → BlobMetadata → List ℕ → ℕ → ℕ → Opening → Claim
claim_of digest metadata beacon shard draw shown =
    record {
      axis = crossing (draw_of digest metadata beacon shard draw).axis;
      index = (draw_of digest metadata beacon shard draw).place;
      opening = shown;
    }

-- the claims that openings are of the targets of this draw and of those after it, in order
abbrev pub claims_from : (List ℕ → List ℕ) → BlobMetadata → List ℕ → ℕ → ℕ → List Opening
    → List Claim
claims_from digest metadata beacon shard draw [] = []
claims_from digest metadata beacon shard draw (opening ∷ openings) =
    claim_of digest metadata beacon shard draw opening
    ∷ claims_from digest metadata beacon shard (draw + 1) openings

-- the claim's symbol is that of the matrix at the drawn place of the shard's own row or column
abbrev pub HasDrawnSymbol : BlobMetadata → List ℕ → ℕ → Draw → Claim → Type 0
HasDrawnSymbol metadata coded shard draw claim =
    claim.opening.symbol
    ≡ region (symbol_size metadata.f metadata.length)
    (line_of draw.axis metadata.f (symbol_size metadata.f metadata.length)
    coded (drawn_index metadata shard draw))
    draw.place

-- the metadata of these bytes commits the claim's opening, whose symbol is not the one that their
-- matrix has there
pub record IsFalseClaim (digest : List ℕ → List ℕ) (shape : BlobShape)
    (bytes : List ℕ) (claim : Claim) : Type 0 where
  pub matrix : List ℕ
  pub extended : IsExtended shape.f bytes matrix
  pub holds : HoldsOpening digest (metadata_over digest shape matrix)
      claim.axis claim.index claim.opening
  pub apart : claim.opening.symbol
      ≢ region (symbol_size shape.f shape.length)
      (line_of claim.axis shape.f (symbol_size shape.f shape.length) matrix claim.index)
      claim.opening.cross

-- left and right are the texts in which the claim's path meets that of the symbol that the matrix
-- of these bytes has there, in the tree of the line that crosses the target
abbrev pub AreDigestedForClaim : (List ℕ → List ℕ) → BlobShape → List ℕ → Claim → List ℕ → List ℕ
    → Type 0
AreDigestedForClaim digest shape bytes claim left right =
    (coded : List ℕ) × IsExtended shape.f bytes coded
    × (let size = symbol_size shape.f shape.length in
    let line = line_of (crossing claim.axis) shape.f size coded claim.opening.cross in
    MeetOnPaths digest claim.index claim.opening.symbol claim.opening.path
    (region size line claim.index) (path_over digest size line claim.index) left right)

-- for the metadata of the blob with this matrix: each claim shows the drawn symbol of the
-- matrix, or is false
abbrev pub AreOwnOrFalse : (List ℕ → List ℕ) → BlobMetadata → List ℕ → ℕ → List Claim → List ℕ
    → List ℕ → Type 0
AreOwnOrFalse digest metadata beacon shard claims blob coded =
    (draw : ℕ) (claim : Claim) → slice_get claims draw ≡ Some claim
    → HasDrawnSymbol metadata coded shard (draw_of digest metadata beacon shard draw) claim
    ⊎ IsFalseClaim digest
    (record { format = metadata.format; f = metadata.f; length = length blob }) blob claim
