-- The openings of a sliver are those of the claims whose target it is.
use Rattle.wal_reader.proofs.Common.{◌≡◌, ℕ, Bool, true, false, ◌&&◌, nat_eq, List, [], ◌∷◌, ◌++◌, Result, Ok, if◌then◌else◌, refl, ap₂, ◌∙◌, Axis, Frame, Opening, read_of, FrameError, claim_for, claims_in, opening_at, opening_for, openings_in, same_axis, append-nil}
use Rattle.std.specs.List.{flat_map}
use Rattle.std.specs.Cmp.Lexicographic.{pointwise}
use Rattle.std.proofs.lemmas.List.Concat.{flat_map-append}
use Rattle.wal_shape.specs.declared.claim.Claim.{Claim}

-- a claim that is taken by a test
chosen : (axis : Axis) (index : ℕ) (test : Bool) (c : Claim)
    → flat_map (opening_at axis index) (if test then c ∷ [] else [])
    ≡ (if test && (same_axis c.axis axis && nat_eq c.index index) then c.opening ∷ [] else [])
chosen axis index true c = append-nil (opening_at axis index c)
chosen axis index false c = refl

-- the same of a frame
frame_claim : (id : List ℕ) (axis : Axis) (index : ℕ) (read : Result Frame FrameError)
    → flat_map (opening_at axis index) (claim_for id read) ≡ opening_for id axis index read
frame_claim id axis index (Ok (Opening i a k o)) = chosen axis index (pointwise nat_eq i id) (record { axis = a; index = k; opening = o })
frame_claim id axis index read = refl

pub claims_openings : (id : List ℕ) (axis : Axis) (index : ℕ) (payloads : List (List ℕ))
    → flat_map (opening_at axis index) (claims_in id payloads) ≡ openings_in id axis index payloads
claims_openings id axis index [] = refl
claims_openings id axis index (payload ∷ payloads) =
    flat_map-append (opening_at axis index) (claim_for id (read_of payload)) (claims_in id payloads)
    ∙ ap₂ ◌++◌ (frame_claim id axis index (read_of payload)) (claims_openings id axis index payloads)
