-- Openings that hold have a spelling.
use Rattle.wal_recover.proofs.Common.{◌≡◌, ℕ, ◌*◌, ◌≤◌, List, length, get_or, arith, refl, Axis, Opening, IsShape, most_bytes, sliver_symbols, symbol_size, BlobMetadata, IsProof, AreEnough, target_within, symbols_load}
use Rattle.std.proofs.lemmas.List.Elements.{recursion_from_All}
use Rattle.wal_shape.specs.Opening.{IsBody}
use Rattle.wal_matrix.specs.Tools.{longest_sliver}
use Rattle.wal_commit.proofs.Bodies.{body_of}

-- few symbols
pub sliver_few : (axis : Axis) (f : ℕ) → f ≤ 333 → sliver_symbols axis f ≤ 1000
sliver_few axis f few = grind arith

-- the proof of enough openings
pub proof_fits : (digest : List ℕ → List ℕ) (m : BlobMetadata) (axis : Axis) (index : ℕ) (openings : List Opening) → IsShape m.f m.length
    → AreEnough digest m axis index openings → IsProof (record { axis = axis; index = index; openings = openings })
proof_fits digest m axis index openings shape are =
    record {
      index = omega (arith, shape.1, target_within digest m axis index openings are);
      count = omega (arith, are.count, sliver_few axis m.f shape.1);
      bodies = recursion_from_All IsBody openings (λ k d l. body_of digest m axis index (get_or openings k d) shape (are.held k d l));
    }

-- the tools have room for the symbols of a sliver
pub sliver_loads : (axis : Axis) (f length kept total : ℕ) → length ≤ most_bytes → kept ≡ f → total ≡ sliver_symbols axis f * symbol_size f length
    → total ≤ longest_sliver kept
sliver_loads axis f length kept total short kept_is total_is =
    let room = symbols_load axis f length kept (symbol_size f length) (sliver_symbols axis f) short kept_is refl refl in
    omega (arith, room, total_is)
