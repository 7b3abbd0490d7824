-- Enough carried slivers lead to a verdict, and what the evidence of an outcome is.
use Rattle.wal_reader.proofs.Common.{ℕ, ◌≤◌, List, length, arith, Contains, nat_eq, Distinct, BlobMetadata, Outcome, Short, NoMetadata, Collision, HasEnough, HoldsFew, IsVerdict, IsMetadataIn, IsOutcome}
use Rattle.std.proofs.lemmas.Bool.Decides.{Decides-eqb}
use Rattle.std.proofs.lemmas.Cmp.{nat_eq_equiv}
use Rattle.std.proofs.lemmas.Map.Made.{IsDistinct-from_AllPairs, is_member-Decides, length-le_from_is_member}
use Rattle.wal_reader.proofs.Collections.{collects_all}
use Rattle.wal_reader.proofs.OneOutcome.{not_two}

-- numbers of a list without repetition, each of which is in another
pub no_more : (xs ys : List ℕ) → Distinct xs → ((x : ℕ) → Contains xs x → Contains ys x) → length xs ≤ length ys
no_more xs ys distinct among =
    length-le_from_is_member nat_eq_equiv xs ys (IsDistinct-from_AllPairs {eq = nat_eq} Decides-eqb xs distinct)
    (λ q yes. (is_member-Decides {eq = nat_eq} Decides-eqb ys q).1
    (among q ((is_member-Decides {eq = nat_eq} Decides-eqb xs q).0 yes)))

-- enough are not few
pub not_both : (digest : List ℕ → List ℕ) (id : List ℕ) (m : BlobMetadata) (payloads : List (List ℕ)) (have : ℕ) → HasEnough digest id m payloads
    → HoldsFew digest id m payloads have → ⊥
not_both digest id m payloads have enough few =
    let least = no_more enough.0 few.0 enough.1 (λ x known.
    collects_all digest id m payloads few.0 few.1 few.2 (omega (arith, few.3, few.4)) x
    (rw known.2 at (enough.3 known.0 x known.1))) in
    omega (arith, least, enough.2, few.3, few.4)

-- one metadata and enough slivers lead to a verdict, whatever else the payloads are
pub enough : (digest : List ℕ → List ℕ) (id : List ℕ) (payloads : List (List ℕ)) (m : BlobMetadata) (outcome : Outcome) → IsOutcome digest id payloads outcome
    → IsMetadataIn digest id payloads m → HasEnough digest id m payloads → IsVerdict outcome
enough digest id payloads m (Short have need) is one has =
    not_both digest id m payloads have has (rw (one.1 is.0 is.1.0) at is.2)
enough digest id payloads m NoMetadata is one has = is m one.0
enough digest id payloads m (Collision clash) is one has = not_two digest id payloads m is.0 is.1 one is.2
enough digest id payloads m outcome is one has = tt
