-- Of a blob that is not live nothing need be kept.
use Rattle.std.proofs.Common.{◌≡◌, ℕ, ◌≤◌, inl, inr, false, cond, ◌&&◌, nat_le, None, refl, sym, ap, ◌∙◌, arith}
use Rattle.std.proofs.lemmas.Bool.{cases_Bool, ltb-false, le-leb, le-ltb, and_right}
use Rattle.wal_ledger.specs.declared.entry.Body.{Body}
use Rattle.wal_ledger.specs.declared.entry.Body.TheVariants.{Register, Ack, Attest, Ready, Begin, Finish}
use Rattle.wal_ledger.specs.declared.entry.Kind.{Kind}
use Rattle.wal_ledger.specs.declared.entry.Kind.TheVariants.{Holds, Denies}
use Rattle.wal_ledger.specs.declared.answers.RegisterAnswer.TheVariants as registering
use Rattle.wal_record.specs.declared.outcome.Said.TheVariants as saying
use Rattle.wal_record.specs.Record.{BlobRecord, no_record}
use Rattle.wal_record.specs.Context.{Context, writes, turn}
use Rattle.wal_record.specs.Questions.{lives, certificate_in, is_invalid_in, must_hold_in, claim, register}
use Rattle.wal_record.specs.Follow.{enter, kept, ServesAlike}

-- the reading epoch does not fall
epoch_grows : (c : Context) (b : Body) → c.epoch ≤ (turn c b).epoch
epoch_grows c Finish = omega arith
epoch_grows c (Register id until) = omega arith
epoch_grows c (Ack s id) = omega arith
epoch_grows c (Attest s id) = omega arith
epoch_grows c (Ready s) = omega arith
epoch_grows c (Begin owners) = omega arith

module _ (c : Context) where
  over_lives : (r : BlobRecord) → r.until ≤ c.epoch → lives c r ≡ false
  over_lives r over = le-ltb c.epoch r.until over

  over_kept : (r : BlobRecord) → r.until ≤ c.epoch → kept c r ≡ no_record
  over_kept r over = rw (over_lives r over) refl

  over_claim : (kind : Kind) (shard : ℕ) (r : BlobRecord) → r.until ≤ c.epoch → claim kind c r shard ≡ (saying.Unregistered, r)
  over_claim kind shard r over = rw (le-leb r.until c.epoch over) refl

  over_must : (r : BlobRecord) → r.until ≤ c.epoch → must_hold_in c r ≡ false
  over_must r over = rw (le-ltb (writes c) r.until (omega arith)) (and_right c.moving false refl)

  none_over : no_record.until ≤ c.epoch
  none_over = omega arith

  over_certificate : (r : BlobRecord) → r.until ≤ c.epoch → certificate_in c r ≡ None
  over_certificate r over = rw (over_lives r over) refl

  over_invalid : (r : BlobRecord) → r.until ≤ c.epoch → is_invalid_in c r ≡ false
  over_invalid r over = rw (over_lives r over) refl

  over_register : (r : BlobRecord) (until : ℕ) → r.until ≤ c.epoch
      → register c r until ≡ cond (nat_le until (writes c)) (registering.Past, r) (registering.Registered until, record no_record { until = until })
  over_register r until over =
      let extends : (c.moving && lives c r) ≡ false = and_right c.moving (lives c r) (over_lives r over) in
      rw (extends, le-leb r.until c.epoch over) refl

  -- two records that have ended are entered alike
  pub AreAlike : BlobRecord → BlobRecord → Body → Type 0
  AreAlike q r b = ((enter c q b).0 ≡ (enter c r b).0) × (kept c (enter c q b).1 ≡ kept c (enter c r b).1)

  both_over : (q r : BlobRecord) → q.until ≤ c.epoch → r.until ≤ c.epoch → kept c q ≡ kept c r
  both_over q r q_over r_over = over_kept q q_over ∙ sym (over_kept r r_over)

  over_enter : (q r : BlobRecord) → q.until ≤ c.epoch → r.until ≤ c.epoch → (b : Body) → AreAlike q r b
  unfolding AreAlike
  over_enter q r q_over r_over (Register id until) = rw (over_register q until q_over, over_register r until r_over) (elim (cases_Bool (nat_le until (writes c))) [
    | inl past ↦ rw past (refl, both_over q r q_over r_over)
    | inr beyond ↦ rw beyond (refl, refl)
  ])
  over_enter q r q_over r_over (Ack shard id) = rw (over_claim Holds shard q q_over, over_claim Holds shard r r_over) (refl, both_over q r q_over r_over)
  over_enter q r q_over r_over (Attest shard id) = rw (over_claim Denies shard q q_over, over_claim Denies shard r r_over) (refl, both_over q r q_over r_over)
  over_enter q r q_over r_over (Ready shard) = (refl, both_over q r q_over r_over)
  over_enter q r q_over r_over (Begin owners) = (refl, both_over q r q_over r_over)
  over_enter q r q_over r_over Finish = (refl, both_over q r q_over r_over)

over_turned : (c : Context) (r : BlobRecord) (b : Body) → r.until ≤ c.epoch → kept (turn c b) no_record ≡ kept (turn c b) r
over_turned c r b over = both_over (turn c b) no_record r (omega arith) (omega (arith, epoch_grows c b))

pub serves_alike : (c : Context) (r : BlobRecord) → ServesAlike c r
unfolding AreAlike
serves_alike c r = elim (cases_Bool (lives c r)) [
  | inl live ↦
      let e : kept c r ≡ r = rw live refl in record {
        live = ap (lives c) e;
        certificate = ap (certificate_in c) e;
        invalid = ap (is_invalid_in c) e;
        must_hold = ap (must_hold_in c) e;
        answers = λ b. ap (λ (q : BlobRecord). (enter c q b).0) e;
        entered = λ b. ap (λ (q : BlobRecord). kept c (enter c q b).1) e;
        turned = λ b. ap (kept (turn c b)) e;
      }
  | inr ended ↦
      let over : r.until ≤ c.epoch = ltb-false c.epoch r.until ended in
      let none : no_record.until ≤ c.epoch = omega arith in
      let e : kept c r ≡ no_record = over_kept c r over in record {
        live = ap (lives c) e ∙ over_lives c no_record none ∙ sym ended;
        certificate = ap (certificate_in c) e ∙ over_certificate c no_record none ∙ sym (over_certificate c r over);
        invalid = ap (is_invalid_in c) e ∙ over_invalid c no_record none ∙ sym (over_invalid c r over);
        must_hold = ap (must_hold_in c) e ∙ over_must c no_record none ∙ sym (over_must c r over);
        answers = λ b. ap (λ (q : BlobRecord). (enter c q b).0) e ∙ (over_enter c no_record r none over b).0;
        entered = λ b. ap (λ (q : BlobRecord). kept c (enter c q b).1) e ∙ (over_enter c no_record r none over b).1;
        turned = λ b. ap (kept (turn c b)) e ∙ over_turned c r b over;
      }
]
