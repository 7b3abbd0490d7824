-- What the first epoch is that reaches a size.
use Rattle.std.proofs.Common.{◌∙◌}
use Rattle.std.proofs.Common.{◌≡◌, ℕ, zero, suc, ◌<◌, ◌≤◌, nat_le, refl, ap, arith, Option, Some, None, inl, inr, Bool}
use Rattle.std.proofs.lemmas.Bool.{cond_both, cases_lt, cases_eq, leb-true, leb-false}
use Rattle.wal_shape.specs.declared.metadata.BlobId.{BlobId}
use Rattle.wal_ledger.specs.declared.entry.Kind.{Kind}
use Rattle.wal_ledger.specs.Shards.{count_below, committee_size, quorum_size}
use Rattle.wal_ledger.specs.Ledger.{Log, owners_at, own_entries, signers, signer_count}
use Rattle.wal_ledger.proofs.Quorums.{count_below-none}
use Rattle.wal_record.specs.Record.{within, FirstQuorum, reached, or_else, first_below, last_of, votes_of}
use Rattle.wal_record.specs.Context.{first_quorum}
use Rattle.wal_record.proofs.Last.{signers_late}
use Rattle.wal_record.proofs.Sets.{count_within}

-- the least epoch below n in which a quorum signed
pub record IsLeastBelow (f : ℕ) (signed : ℕ → ℕ → Bool) (n : ℕ) (quorum : FirstQuorum) : Type 0 where
  pub below : quorum.epoch < n
  pub told : quorum.signed ≡ signed quorum.epoch
  pub enough : quorum_size f ≤ count_below (committee_size f) (signed quorum.epoch)
  pub least : (e : ℕ) → e < quorum.epoch → count_below (committee_size f) (signed e) < quorum_size f

abbrev pub IsFirst : ℕ → (ℕ → ℕ → Bool) → ℕ → Option FirstQuorum → Type 0
IsFirst f signed n None = (e : ℕ) → e < n → count_below (committee_size f) (signed e) < quorum_size f
IsFirst f signed n (Some quorum) = IsLeastBelow f signed n quorum

first_next : (f : ℕ) (signed : ℕ → ℕ → Bool) (n : ℕ) (q : Option FirstQuorum) → IsFirst f signed n q → IsFirst f signed (suc n) (or_else q (reached f n (signed n)))
first_next f signed n (Some q) first = record { below = omega (arith, first.below); told = first.told; enough = first.enough; least = first.least }
first_next f signed n None none =
    cond_both (nat_le (quorum_size f) (count_below (committee_size f) (signed n))) (Some (record { epoch = n; signed = signed n })) None (IsFirst f signed (suc n))
    (λ enough. record { below = omega arith; told = refl; enough = leb-true (quorum_size f) (count_below (committee_size f) (signed n)) enough; least = none })
    (λ few e lt. elim (cases_eq e n) [
      | inl here ↦ omega (arith, leb-false (quorum_size f) (count_below (committee_size f) (signed n)) few, ap (λ (k : ℕ). count_below (committee_size f) (signed k)) here)
      | inr other ↦ none e (omega arith)
    ])

pub first_is : (f : ℕ) (signed : ℕ → ℕ → Bool) (n : ℕ) → IsFirst f signed n (first_below f signed n)
first_is f signed zero = λ e lt. absurd (omega arith)
first_is f signed (suc n) = first_next f signed n (first_below f signed n) (first_is f signed n)

-- nobody signed after the last epoch
pub count_late : (log : Log) (id : BlobId) (kind : Kind) (e : ℕ) → last_of kind (own_entries log id) < e → signer_count log id kind e ≡ 0
count_late log id kind e past = count_below-none (committee_size log.f) (signers log id kind e) (λ s. signers_late (owners_at log e) kind e s (own_entries log id) past)

-- the least epoch in which a quorum of the ledger signed, and who did
pub record IsLeast (log : Log) (id : BlobId) (kind : Kind) (quorum : FirstQuorum) : Type 0 where
  pub told : quorum.signed ≡ within (committee_size log.f) (signers log id kind quorum.epoch)
  pub counted : count_below (committee_size log.f) quorum.signed ≡ signer_count log id kind quorum.epoch
  pub enough : quorum_size log.f ≤ signer_count log id kind quorum.epoch
  pub least : (e : ℕ) → e < quorum.epoch → signer_count log id kind e < quorum_size log.f

-- the first quorum that the votes of a blob tell is that of the ledger
abbrev pub IsFirstOf : Log → BlobId → Kind → Option FirstQuorum → Type 0
IsFirstOf log id kind None = (e : ℕ) → signer_count log id kind e < quorum_size log.f
IsFirstOf log id kind (Some quorum) = IsLeast log id kind quorum

pub first_of : (log : Log) (id : BlobId) (kind : Kind) → IsFirstOf log id kind (first_quorum log.f (votes_of log id kind))
first_of log id kind =
    by (first_below log.f sets (suc last)) (first_is log.f sets (suc last))
  where
    last : ℕ
    last = last_of kind (own_entries log id)

    sets : ℕ → ℕ → Bool
    sets e = within (committee_size log.f) (signers log id kind e)

    counts : (e : ℕ) → count_below (committee_size log.f) (sets e) ≡ signer_count log id kind e
    counts e = count_within (committee_size log.f) (signers log id kind e)

    by : (q : Option FirstQuorum) → IsFirst log.f sets (suc last) q → IsFirstOf log id kind q
    by None none = λ e. elim (cases_lt last e) [ inl past ↦ omega (arith, count_late log id kind e past) | inr le ↦ omega (arith, none e (omega arith), counts e) ]
    by (Some q) first = record {
      told = first.told;
      counted = ap (count_below (committee_size log.f)) first.told ∙ counts q.epoch;
      enough = omega (arith, first.enough, counts q.epoch);
      least = λ e lt. omega (arith, first.least e lt, counts e);
    }
