-- A payload that carries a sliver carries no other one.
use Rattle.wal_reader.proofs.Common.{◌≡◌, ℕ, List, Ok, arith, ap, ◌∙◌, Axis, BlobMetadata, Sliver, read_of, HoldsSliver, CarriesHeldSliver}

-- where the sliver that it carries is not wanted, it carries none that is
pub not_held : (digest : List ℕ → List ℕ) (id : List ℕ) (m : BlobMetadata) (axis : Axis) (index : ℕ) (payload : List ℕ) (at : ℕ) (bytes : List ℕ)
    → read_of payload ≡ Ok (Sliver id axis at bytes) → ((at ≡ index) × HoldsSliver digest m axis index bytes → ⊥)
    → (other : List ℕ) → CarriesHeldSliver digest id m axis index payload other → ⊥
not_held digest id m axis index payload at bytes read refused other carries =
    let same : (at ≡ index) × (bytes ≡ other) = grind (arith, read, carries.0) in refused (same.0, rw same.1 carries.1)

-- and where it is, it carries it
pub is_carried : (digest : List ℕ → List ℕ) (id : List ℕ) (m : BlobMetadata) (axis : Axis) (index : ℕ) (payload : List ℕ) (at : ℕ) (bytes : List ℕ)
    → read_of payload ≡ Ok (Sliver id axis at bytes) → (at ≡ index) × HoldsSliver digest m axis index bytes
    → CarriesHeldSliver digest id m axis index payload bytes
is_carried digest id m axis index payload at bytes read held =
    (read ∙ ap (λ (k : ℕ). Ok (Sliver id axis k bytes)) held.0, held.1)
