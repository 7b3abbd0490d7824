-- The ledger's answers of a blob are told by the context and the blob's record.
use Rattle.std.proofs.Common.{◌≡◌, ◌↔◌, ℕ, ◌+◌, ◌-◌, ◌<◌, ◌≤◌, Bool, true, false, cond, ◌&&◌, nat_lt, nat_le, nat_eq, refl, sym, ap, ◌∙◌, arith, Option, Some, None, IfSome, IfNone, inl, inr}
use Rattle.std.proofs.lemmas.Bool.{cases_lt, cases_eq, ltb-true, lt-ltb, eq-eqb, ne_eqb, and_parts, and_from, false≢true}
use Rattle.std.specs.Prelude.{is_some}
use Rattle.std.proofs.Math.Bool.{or-false}
use Rattle.wal_shape.specs.declared.metadata.BlobId.{BlobId}
use Rattle.wal_shape.specs.declared.axis.Side.{Side}
use Rattle.wal_shape.specs.declared.axis.Side.TheVariants.{Now, Next}
use Rattle.wal_ledger.specs.declared.entry.Kind.{Kind}
use Rattle.wal_ledger.specs.declared.entry.Kind.TheVariants.{Holds, Denies}
use Rattle.wal_ledger.specs.Shards.{committee_size, quorum_size, count_below}
use Rattle.wal_ledger.specs.Ledger.{Log, writing, is_moving, is_live, until_of, owners_at, own_entries, signers, signer_count, home_of, IsCertified, IsInvalid, MustHold}
use Rattle.wal_ledger.specs.Kept.{IsLawful}
use Rattle.wal_ledger.specs.Answers.{IsCertificate}
use Rattle.wal_ledger.proofs.TallyLaws.{count_below-same}
use Rattle.wal_ledger.proofs.Handover.{must_hold_now}
use Rattle.wal_record.specs.Record.{within, FirstQuorum, last_of, votes_of, blob_record}
use Rattle.wal_record.specs.Context.{context_of, signed_in, first_quorum}
use Rattle.wal_record.specs.Questions.{signed_at, count_now, home_in, certificate_in, is_invalid_in, is_before, must_hold_in}
use Rattle.wal_record.proofs.Last.{signers_late}
use Rattle.wal_record.proofs.Stepping.{last_writing}
use Rattle.wal_record.proofs.Firsts.{IsFirstOf, first_of}

-- who signed in the writing epoch, of the shards of the committee
pub signed_now : (log : Log) (id : BlobId) (kind : Kind) (shard : ℕ) → IsLawful log → shard < committee_size log.f
    → signed_in (votes_of log id kind) (writing log) shard ≡ signers log id kind (writing log) shard
signed_now log id kind shard lawful lt = elim (cases_eq (last_of kind (own_entries log id)) (writing log)) [
  | inl e ↦ rw (eq-eqb (last_of kind (own_entries log id)) (writing log) e, lt-ltb shard (committee_size log.f) lt) (ap (λ (n : ℕ). signers log id kind n shard) e)
  | inr ne ↦ rw (ne_eqb (last_of kind (own_entries log id)) (writing log) ne) (sym (signers_late (owners_at log (writing log)) kind (writing log) shard (own_entries log id) (omega (arith, last_writing log id kind lawful))))
]

-- how many did
pub counted_now : (log : Log) (id : BlobId) (kind : Kind) → IsLawful log → count_now (context_of log) (votes_of log id kind) ≡ signer_count log id kind (writing log)
counted_now log id kind lawful =
    count_below-same (committee_size log.f) (signers log id kind (writing log)) (signed_in (votes_of log id kind) (writing log)) (λ s lt. signed_now log id kind s lawful lt)

-- the committee that answers for a blob
pub home_is : (log : Log) (id : BlobId) → IsLawful log → home_of log id ≡ home_in (context_of log) (blob_record log id)
home_is log id lawful = ap {B = Side} (λ (n : ℕ). cond (is_moving log && nat_le (quorum_size log.f) n) Next Now) (sym (counted_now log id Holds lawful))

-- its certificate
pub certificate_is : (log : Log) (id : BlobId) → IsLawful log
    → IfSome (certificate_in (context_of log) (blob_record log id)) (λ q. IsCertificate log id q.epoch (count_below (committee_size log.f) q.signed) × (q.signed ≡ within (committee_size log.f) (signers log id Holds q.epoch)))
    × IfNone (certificate_in (context_of log) (blob_record log id)) (IsCertified log id → ⊥)
certificate_is log id lawful = by (is_live log id) refl (first_quorum log.f (votes_of log id Holds)) (first_of log id Holds)
  where
    by : (live : Bool) → is_live log id ≡ live → (q : Option FirstQuorum) → IsFirstOf log id Holds q
        → IfSome (cond live q None) (λ c. IsCertificate log id c.epoch (count_below (committee_size log.f) c.signed) × (c.signed ≡ within (committee_size log.f) (signers log id Holds c.epoch))) × IfNone (cond live q None) (IsCertified log id → ⊥)
    by false over q first = (tt, λ certified. false≢true (sym over ∙ certified.live))
    by true live None none = (tt, λ certified. omega (arith, none certified.quorum.0, certified.quorum.1))
    by true live (Some q) first = ((record { live = live; counted = first.counted; quorum = omega (arith, first.counted, first.enough); least = first.least }, first.told), tt)

-- whether it is invalid
pub invalid_is : (log : Log) (id : BlobId) → IsLawful log → (is_invalid_in (context_of log) (blob_record log id) ≡ true) ↔ IsInvalid log id
invalid_is log id lawful = by (first_quorum log.f (votes_of log id Denies)) (first_of log id Denies)
  where
    by : (q : Option FirstQuorum) → IsFirstOf log id Denies q → ((is_live log id && is_some q) ≡ true) ↔ IsInvalid log id
    by None none = (λ h. absurd (false≢true (and_parts (is_live log id) false h).1), λ invalid. absurd (omega (arith, none invalid.quorum.0, invalid.quorum.1)))
    by (Some q) first = (
      λ h. record { live = (and_parts (is_live log id) true h).0; quorum = (q.epoch, first.enough) },
      λ invalid. and_from (is_live log id) true invalid.live refl,
    )

-- whether a shard must hold it
pub must_hold_is : (log : Log) (id : BlobId) → IsLawful log → (must_hold_in (context_of log) (blob_record log id) ≡ true) ↔ MustHold log id
must_hold_is log id lawful = by (is_moving log) refl (first_quorum log.f (votes_of log id Holds)) (first_of log id Holds)
  where
    by : (moving : Bool) → is_moving log ≡ moving → (q : Option FirstQuorum) → IsFirstOf log id Holds q
        → ((moving && (nat_lt (writing log) (until_of log id) && is_before (writing log) q)) ≡ true) ↔ MustHold log id
    by false serves q first = (λ h. absurd (false≢true h), λ must. absurd (false≢true (sym serves ∙ must.moving)))
    by true moves None none = (
      λ h. absurd (false≢true (and_parts (nat_lt (writing log) (until_of log id)) false h).1),
      λ must. let on = (must_hold_now log id lawful (lawful.dated moves) moves).0 must in absurd (omega (arith, none on.1.0, on.1.1.1)),
    )
    by true moves (Some q) first = (
      λ h. let parts = and_parts (nat_lt (writing log) (until_of log id)) (nat_lt q.epoch (writing log)) h in
          (must_hold_now log id lawful (lawful.dated moves) moves).1
          (ltb-true (writing log) (until_of log id) parts.0, (q.epoch, (ltb-true q.epoch (writing log) parts.1, first.enough))),
      λ must. let on = (must_hold_now log id lawful (lawful.dated moves) moves).0 must in
          and_from (nat_lt (writing log) (until_of log id)) (nat_lt q.epoch (writing log))
          (lt-ltb (writing log) (until_of log id) on.0)
          (lt-ltb q.epoch (writing log) (elim (cases_lt q.epoch (writing log)) [ inl lt ↦ lt | inr le ↦ absurd (omega (arith, first.least on.1.0 (omega (arith, on.1.1.0)), on.1.1.1)) ])),
    )

-- who signed in the reading epoch or the writing one
pub signed_is : (log : Log) (id : BlobId) (kind : Kind) (epoch shard : ℕ) → IsLawful log → shard < committee_size log.f → writing log ≤ epoch + 1
    → signed_at (votes_of log id kind) epoch shard ≡ signers log id kind epoch shard
signed_is log id kind epoch shard lawful lt near = elim (cases_eq last epoch) [
  | inl e ↦
      let past : nat_eq last (epoch + 1) ≡ false = ne_eqb last (epoch + 1) (λ h. omega (arith, e)) in
      rw (past, or-false, eq-eqb last epoch e, lt-ltb shard (committee_size log.f) lt) (ap (λ (n : ℕ). signers log id kind n shard) e)
  | inr ne ↦ elim (cases_eq last (epoch + 1)) [
    | inl e ↦
        let back : ◌≡◌ {A = ℕ} (last - 1) epoch = omega (arith, e) in
        let some : nat_lt 0 last ≡ true = lt-ltb 0 last (omega (arith, e)) in
        rw (ne_eqb last epoch ne, eq-eqb last (epoch + 1) e, some, lt-ltb shard (committee_size log.f) lt) (ap (λ (n : ℕ). signers log id kind n shard) back)
    | inr far ↦
        rw (ne_eqb last epoch ne, ne_eqb last (epoch + 1) far)
        (sym (signers_late (owners_at log epoch) kind epoch shard (own_entries log id) (omega (arith, last_writing log id kind lawful))))
  ]
]
  where
    last : ℕ
    last = last_of kind (own_entries log id)
