-- The evidence of a read that gives another blob contradicts the blob that the gateway keeps.
use Rattle.std.proofs.Common.{◌≡◌, ◌≢◌, ◌∙◌, ◌+◌, ◌⊎◌, ℕ, List, Option, Some, true, length, nat_le, take, drop, inl, inr, sym, ap, subst, arith, rules}
use Rattle.std.proofs.lemmas.Bool.{cond-true, le-leb}
use Rattle.std.proofs.lemmas.List.{take_all}
use Rattle.wal_shape.specs.declared.metadata.BlobId.{BlobId}
use Rattle.wal_evidence.specs.declared.evidence.Evidence.{Evidence}
use Rattle.wal_reader.specs.declared.outcome.Outcome.{Outcome}
use Rattle.wal_reader.specs.declared.outcome.Outcome.TheVariants as read
use Rattle.wal_reader.specs.declared.outcome.ReadAnswer.{ReadAnswer}
use Rattle.wal_reader.specs.Outcome.{IsAnswer, IsVerdict}
use Rattle.wal_gateway.specs.declared.answer.Found.{Found}
use Rattle.wal_gateway.specs.declared.answer.Found.TheVariants.{Range, OutOfRange}
use Rattle.wal_gateway.specs.declared.answer.GetAnswer.{GetAnswer}
use Rattle.wal_gateway.specs.Getting.{Cache, asked, found_of, range_of}
use Rattle.wal_gateway.specs.Kept.{ContradictsKept, IsFreshOrContrary}
use Rattle.test_blobs.proofs.contradictions.collision_of_kept.Goals as goal

whole_range : (bytes : List ℕ) (size : ℕ) → length bytes ≡ size → range_of 0 size bytes ≡ Range bytes
whole_range bytes size long =
    cond-true (nat_le (0 + size) (length bytes)) (Range (take size (drop 0 bytes))) (OutOfRange (length bytes)) (le-leb (0 + size) (length bytes) (omega (arith, long)))
    ∙ ap Range (take_all size bytes (omega (arith, long)))

same_range : (a b : List ℕ) → Range a ≡ Range b → a ≡ b
same_range a b same = cc

same_some : (a b : Evidence) → Some a ≡ Some b → b ≡ a
same_some a b same = cc

verdict_of : (bytes : List ℕ) (outcome : Outcome) → outcome ≡ read.Bytes bytes → IsVerdict outcome
verdict_of bytes outcome is = subst IsVerdict (sym is) tt

contradicts : (digest : List ℕ → List ℕ) (cache : Cache) (id : BlobId) (size : ℕ) (payloads : List (List ℕ)) (answer : GetAnswer) (fresh : ReadAnswer) (kept bytes : List ℕ) (e : Evidence)
    → IsFreshOrContrary digest cache (asked id 0 size payloads) answer → IsAnswer digest id.0 payloads fresh → fresh.outcome ≡ read.Bytes bytes → fresh.evidence ≡ Some e
    → length bytes ≡ size → answer.found ≡ Range kept → kept ≢ bytes → ContradictsKept digest cache id e
contradicts digest cache id size payloads answer fresh kept bytes e contrary is outcome_is evidence_is long found_is apart =
    by (contrary fresh is (verdict_of bytes fresh.outcome outcome_is))
  where
    by : (answer.found ≡ found_of 0 size fresh.outcome) ⊎ ((other : Evidence) × (fresh.evidence ≡ Some other) × ContradictsKept digest cache id other) → ContradictsKept digest cache id e
    by (inl same) = absurd (apart (same_range kept bytes (sym found_is ∙ same ∙ ap (found_of 0 size) outcome_is ∙ whole_range bytes size long)))
    by (inr other) = subst (λ (x : Evidence). ContradictsKept digest cache id x) (same_some e other.0 (sym evidence_is ∙ other.1)) other.2

pub collision-requires : goal.collision-requires
collision-requires g c =
    let fresh = c.in_ok-fresh.fresh in
    let bytes = c.in-Bytes-Some-Range.bytes in
    let kept = c.in-Bytes-Some-Range.kept in
    let hit : c.in_ok-answer.answer.hit ≡ true = search rules in
    let long : length bytes ≡ c.args.size = search rules in
    let differ : c.as_slice-else-as_slice-size.result.now ≢ c.as_slice-else-as_slice-size-2.result.now = search rules in
    let apart : kept ≢ bytes = λ same. differ (c.as_slice-else-as_slice-size.ensures ∙ same ∙ sym c.as_slice-else-as_slice-size-2.ensures) in
    contradicts g.H.Hash32.digest c.get.new.self c.args.id.now c.args.size c.args.payloads.now c.in_ok-answer.answer fresh kept bytes c.in-Bytes-Some-Range.e
    (c.in_ok-answer.ensures.fresh hit) (c.in_ok-fresh.ensures.outcome, c.in_ok-fresh.ensures.only, c.in_ok-fresh.ensures.evidence)
    c.in-Bytes-Some-Range.is-0 c.in-Bytes-Some-Range.is-1 long c.in-Bytes-Some-Range.is-2 apart
