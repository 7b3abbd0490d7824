-- What is kept is settled exactly where the payloads are.
use Rattle.wal_reader.proofs.Common.{◌↔◌, ℕ, IsTrue, Bool, List, length, refl, arith, inl, inr, ⊎_elim, cases_lt, row_count, BlobMetadata, Known, Waiting, One, Two, HasEnough, IsMetadataIn, HasHeard, HasKept, HasKnown, HeardState, IsEnough, IsSettledKept, IsSettledState}
use Rattle.wal_reader.specs.declared.kept.Kept.{Kept}
use Rattle.wal_reader.specs.Settled.{IsSettled}
use Rattle.wal_reader.proofs.Collections.{collects_carried, collects_distinct, collects_few}
use Rattle.wal_reader.proofs.Enough.{not_both}
use Rattle.wal_reader.proofs.FirstOnes.{first_two}
use Rattle.wal_reader.proofs.OneOutcome.{no_two}

-- enough that are held are enough
enough_held : (digest : List ℕ → List ℕ) (id : List ℕ) (k : Known) (payloads : List (List ℕ)) → HasKnown digest id k payloads → IsEnough k
    → HasEnough digest id k.metadata payloads
enough_held digest id k payloads was enough =
    let is = k.collected.indices.items in
    let js = k.collected.joined.items in
    (is, collects_distinct digest id k.metadata payloads is js was.1.slivers, enough, collects_carried digest id k.metadata payloads is js was.1.slivers)

-- and enough are held where there are enough
held_enough : (digest : List ℕ → List ℕ) (id : List ℕ) (k : Known) (payloads : List (List ℕ)) (m : BlobMetadata) → HasKnown digest id k payloads
    → IsMetadataIn digest id payloads m → HasEnough digest id m payloads → IsEnough k
held_enough digest id k payloads m was one has =
    let few = collects_few digest id k.metadata payloads k.collected.indices.items k.collected.joined.items was.1.slivers in
    ⊎_elim
    (λ less. absurd (not_both digest id k.metadata payloads _ (rw (was.0.1 m one.0) at has)
    (k.collected.indices.items, k.collected.joined.items, was.1.slivers, refl, less)))
    (λ least. omega arith)
    (cases_lt (length k.collected.indices.items) (row_count k.metadata.f))

settled_to : (digest : List ℕ → List ℕ) (id : List ℕ) (kept : Kept) (payloads : List (List ℕ)) → HasKept digest id kept payloads → IsSettledKept kept
    → IsSettled digest id payloads
settled_to digest id (Waiting parts) payloads was settled = absurd settled
settled_to digest id (One k) payloads was settled = inr (k.metadata, was.0, enough_held digest id k payloads was settled)
settled_to digest id (Two clash) payloads was settled =
    let two = first_two digest id payloads was.0 was.1 was.2 in
    inl (was.0, was.1, two.0, two.1, two.2)

settled_from : (digest : List ℕ → List ℕ) (id : List ℕ) (kept : Kept) (payloads : List (List ℕ)) → HasKept digest id kept payloads → IsSettled digest id payloads
    → IsSettledKept kept
settled_from digest id (Waiting parts) payloads was (inl two) = was.0 two.0 two.2
settled_from digest id (Waiting parts) payloads was (inr one) = was.0 one.0 one.1.0
settled_from digest id (One k) payloads was (inl two) =
    absurd (two.4 (no_two digest id payloads k.metadata two.0 two.1 was.0 two.2 two.3))
settled_from digest id (One k) payloads was (inr one) = held_enough digest id k payloads one.0 was one.1 one.2
settled_from digest id (Two clash) payloads was settled = tt

-- the test for the one is the test for the other
pub settled_heard : (digest : List ℕ → List ℕ) (id : List ℕ) (heard : HeardState) (payloads : List (List ℕ)) (b : Bool) → HasHeard digest id heard payloads
    → (IsTrue b ↔ IsSettledState heard) → (IsTrue b ↔ IsSettled digest id payloads)
settled_heard digest id heard payloads b was is =
    rw (← was.0) (
      λ yes. settled_to digest heard.id heard.kept payloads was.1 (is.0 yes),
      λ settled. is.1 (settled_from digest heard.id heard.kept payloads was.1 settled),
    )
