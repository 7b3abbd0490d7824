-- Votes are of epochs in which the blob was registered, so one that is not live has none in the writing epoch.
use Rattle.std.proofs.Common.{◌≡◌, ℕ, ◌<◌, ◌≤◌, max, inl, inr, Bool, false, cond, ◌&&◌, nat_eq, nat_le, refl, sym, ap, ◌∙◌, arith}
use Rattle.std.proofs.lemmas.Bool.{cases_Bool, leb-false, ltb-false, and_left, and_right, ne_eqb, lt-leb}
use Rattle.wal_shape.specs.declared.axis.Side.{Side}
use Rattle.wal_shape.specs.declared.axis.Side.TheVariants.{Now, Next}
use Rattle.wal_ledger.specs.declared.entry.Body.{Body}
use Rattle.wal_ledger.specs.declared.entry.Body.TheVariants.{Register, Ack, Attest}
use Rattle.wal_ledger.specs.declared.entry.Kind.{Kind}
use Rattle.wal_ledger.specs.declared.entry.Kind.TheVariants.{Holds, Denies}
use Rattle.wal_ledger.specs.Shards.{committee_size, quorum_size}
use Rattle.wal_ledger.proofs.Quorums.{count_below-none}
use Rattle.wal_record.specs.Record.{Votes, BlobRecord, no_record}
use Rattle.wal_record.specs.Context.{Context, writes, writers, voted, signed_in, registered}
use Rattle.wal_record.specs.Questions.{lives, home_in, count_now, register, claim, votes_in, with_votes}
use Rattle.wal_record.specs.Follow.{enter, kept, IsTimely}

timely_registered : (c : Context) (r : BlobRecord) (until : ℕ) → writes c < until → IsTimely r → IsTimely (registered c.epoch until r)
timely_registered c r until beyond timely = elim (cases_Bool (nat_le r.until c.epoch)) [
  | inl over ↦ rw over (let some : 0 < until = omega arith in inr (some, some))
  | inr live ↦ rw live (elim timely [
    | inl none ↦ absurd (omega (arith, leb-false r.until c.epoch live, ap (λ (q : BlobRecord). q.until) none))
    | inr both ↦ let h : r.holds.epoch < max r.until until = omega (arith, both.0) in let d : r.denies.epoch < max r.until until = omega (arith, both.1) in inr (h, d)
  ])
]

timely_register : (c : Context) (r : BlobRecord) (until : ℕ) → IsTimely r → IsTimely (register c r until).1
timely_register c r until timely = elim (cases_Bool (nat_le until (writes c))) [
  | inl past ↦ rw past timely
  | inr beyond ↦ rw beyond (elim (cases_Bool (c.moving && lives c r)) [
    | inl extends ↦ rw extends timely
    | inr fresh ↦ rw fresh (timely_registered c r until (leb-false until (writes c) beyond) timely)
  ])
]

timely_voted : (c : Context) (r : BlobRecord) (kind : Kind) (v : Votes) → writes c < r.until → v.epoch ≡ writes c → IsTimely r → IsTimely (with_votes kind v r)
timely_voted c r kind v live is (inl none) = absurd (omega (arith, ap (λ (q : BlobRecord). q.until) none))
timely_voted c r Holds v live is (inr both) = let h : v.epoch < r.until = omega (arith, is) in inr (h, both.1)
timely_voted c r Denies v live is (inr both) = let d : v.epoch < r.until = omega (arith, is) in inr (both.0, d)

timely_claim : (c : Context) (r : BlobRecord) (kind : Kind) (shard : ℕ) → IsTimely r → IsTimely (claim kind c r shard).1
timely_claim c r kind shard timely = elim (cases_Bool (nat_le r.until c.epoch)) [
  | inl over ↦ rw over timely
  | inr live ↦ rw live (elim (cases_Bool (nat_le r.until (writes c))) [
    | inl ends ↦ rw ends timely
    | inr lasts ↦ rw lasts (elim (cases_Bool (signed_in (votes_in kind r) (writes c) shard)) [
      | inl signed ↦ rw signed timely
      | inr first ↦ rw first (timely_voted c r kind (voted c.f (writes c) (writers c) shard (votes_in kind r)) (leb-false r.until (writes c) lasts) refl timely)
    ])
  ])
]

pub timely_enter : (c : Context) (r : BlobRecord) (b : Body) → IsTimely r → IsTimely (enter c r b).1
timely_enter c r (Register id until) timely = timely_register c r until timely
timely_enter c r (Ack shard id) timely = timely_claim c r Holds shard timely
timely_enter c r (Attest shard id) timely = timely_claim c r Denies shard timely
timely_enter c r _ timely = timely

-- where nobody signed in the writing epoch, the present committee answers
home_now : (c : Context) (r : BlobRecord) → ((s : ℕ) → signed_in r.holds (writes c) s ≡ false) → home_in c r ≡ Now
home_now c r none =
    let zeroed = count_below-none (committee_size c.f) (signed_in r.holds (writes c)) none in
    let below : nat_le (quorum_size c.f) (count_now c r.holds) ≡ false = lt-leb (quorum_size c.f) (count_now c r.holds) (omega (arith, zeroed)) in
    ap {B = Side} (λ (b : Bool). cond b Next Now) (and_right c.moving (nat_le (quorum_size c.f) (count_now c r.holds)) below)

pub home_kept : (c : Context) (r : BlobRecord) → IsTimely r → home_in c (kept c r) ≡ home_in c r
home_kept c r timely = elim (cases_Bool (lives c r)) [
  | inl live ↦ rw live refl
  | inr over ↦ rw over (home_now c no_record (λ s. and_right (nat_eq 0 (writes c)) false refl) ∙ sym (home_now c r (nobody timely (ltb-false c.epoch r.until over))))
]
  where
    nobody : IsTimely r → r.until ≤ c.epoch → (s : ℕ) → signed_in r.holds (writes c) s ≡ false
    nobody (inl none) ended s = ap (λ (q : BlobRecord). signed_in q.holds (writes c) s) none ∙ and_right (nat_eq 0 (writes c)) false refl
    nobody (inr both) ended s = and_left (nat_eq r.holds.epoch (writes c)) (r.holds.signed s) (ne_eqb r.holds.epoch (writes c) (λ h. omega (arith, both.0, h)))
