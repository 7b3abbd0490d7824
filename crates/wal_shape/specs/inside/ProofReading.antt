-- What serves private functions and proofs beside ProofReading.
use Rattle.std.specs.Prelude.{◌≡◌, ℕ, zero, suc, ◌≤◌, List, [], ◌∷◌, drop, Option, Some, None}
use Rattle.std.specs.Prelude.{Result, Ok, Err}
use Rattle.std.specs.Int.{w8, w16}
use Rattle.wal_shape.specs.declared.opening.Opening.{Opening}
use Rattle.wal_shape.specs.declared.body.BodyFault.{BodyFault}
use Rattle.wal_shape.specs.declared.proof.Head.{Head}
use Rattle.wal_shape.specs.Spelling.{proof_text}
use Rattle.wal_shape.specs.FieldReading.{◌>>=◌, number_at}
use Rattle.wal_shape.specs.BodyReading.{body_at}
use Rattle.wal_shape.specs.ProofReading.{axis_of, proof_of}

-- what stands before the openings, and the bytes after it
unfoldable pub head_at : List ℕ → Result (Head × List ℕ) BodyFault
head_at bytes = do
  axis ← number_at w8 0 1 bytes
  index ← number_at w16 1 999 axis.1
  count ← number_at w16 3 1000 index.1
  Ok (record { axis = axis_of axis.0; index = index.0; count = count.0 }, count.1)

-- what stands behind an opening that was read
abbrev pub behind : Result (Opening × List ℕ) BodyFault → (List ℕ → Option (List ℕ))
    → Option (List ℕ)
behind (Ok pair) others = others pair.1
behind (Err fault) others = None

-- the bytes after n bodies, if all can be read
unfoldable pub bodies_end : ℕ → List ℕ → Option (List ℕ)
bodies_end zero bytes = Some bytes
bodies_end (suc n) bytes = behind (body_at bytes) (bodies_end n)

-- bytes with this head spell a proof: its numbers are fit, all bodies are there, nothing else is,
-- and the bytes are the proof's spelling
abbrev pub SpellProof : Head → List ℕ → Type 0
SpellProof head bytes =
    (head.index ≤ 999) × (head.count ≤ 1000) × (bodies_end head.count (drop 5 bytes) ≡ Some [])
    × (proof_text (proof_of head bytes) ≡ bytes)

-- the head, if nothing is left behind the last body
abbrev pub ended : Head → Option (List ℕ) → Option Head
ended head None = None
ended head (Some []) = Some head
ended head (Some (byte ∷ bytes)) = None

abbrev pub whole_head : Result (Head × List ℕ) BodyFault → Option Head
whole_head (Ok pair) = ended pair.0 (bodies_end pair.0.count pair.1)
whole_head (Err fault) = None

-- the head of the proof that the bytes spell, if they spell one
unfoldable pub head_in : List ℕ → Option Head
head_in bytes = whole_head (head_at bytes)
