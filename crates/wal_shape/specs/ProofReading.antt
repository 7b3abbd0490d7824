-- The proof that bytes spell.
use Rattle.std.specs.Prelude.{ℕ, zero, suc, List, [], ◌∷◌, drop, Result, Ok, Err}
use Rattle.wal_shape.specs.declared.axis.Axis.{Axis}
use Rattle.wal_shape.specs.declared.axis.Axis.TheVariants.{Primary, Secondary}
use Rattle.wal_shape.specs.declared.opening.Opening.{Opening}
use Rattle.wal_shape.specs.declared.body.BodyFault.{BodyFault}
use Rattle.wal_shape.specs.declared.proof.Head.{Head}
use Rattle.wal_shape.specs.EncodingProof.{EncodingProof}
use Rattle.wal_shape.specs.BodyReading.{body_at}

-- the axis of this number
abbrev pub axis_of : ℕ → Axis
axis_of zero = Primary
axis_of (suc n) = Secondary

-- an opening that was read, and the others that stand behind it
abbrev pub with_others : Result (Opening × List ℕ) BodyFault → (List ℕ → List Opening)
    → List Opening
with_others (Ok pair) others = pair.0 ∷ others pair.1
with_others (Err fault) others = []

-- the openings of n bodies, up to the first that cannot be read
unfoldable pub openings_in : ℕ → List ℕ → List Opening
openings_in zero bytes = []
openings_in (suc n) bytes = with_others (body_at bytes) (openings_in n)

-- the proof of this head and these openings
abbrev pub proof_with : Head → List Opening → EncodingProof
proof_with head openings = record { axis = head.axis; index = head.index; openings = openings }

-- the proof of bytes with this head
abbrev pub proof_of : Head → List ℕ → EncodingProof
proof_of head bytes = proof_with head (openings_in head.count (drop 5 bytes))
