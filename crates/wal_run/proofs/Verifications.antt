-- The verdict on claims in answer to a challenge is one result of the command that verifies.
use Rattle.wal_run.proofs.Common.{◌≡◌, ◌⊎◌, inl, inr, ⊎_elim, ℕ, List, arith, refl, claims_in, Audit, Recorded, Told, lacks, rejects, succeeds, HasShard, LacksShard, ClaimsCome, verifying}
use Rattle.wal_challenge.specs.declared.checking.AnswerVerdict.{AnswerVerdict}
use Rattle.wal_challenge.specs.declared.checking.AnswerVerdict.TheVariants.{Accepted, Wrong, WrongCount}
use Rattle.wal_challenge.proofs.VerdictLaws.{one_verdict}
use Rattle.wal_run.specs.Verifying.{verdict_text}
use Rattle.wal_run.specs.inside.Verifying.{verdict_status}
use Rattle.wal_run.proofs.CommandLaws.{Determined, Same, ToldBy, one_by, same, told_so}

module _ (digest : List ℕ → List ℕ) (a : Audit) (r : Recorded) where
  -- a verdict is the result
  verdict_is : HasShard a r → (v : AnswerVerdict) → ClaimsCome digest a r v → Told digest (verifying digest a) r (verdict_status v) (verdict_text a.count v)
  verdict_is has (WrongCount k) come = lacks _ (inr (has, k, come, refl))
  verdict_is has (Wrong d) come = rejects _ (has, d, come, refl)
  verdict_is has Accepted come = succeeds _ (has, come, refl)

  -- the status and the text of a verdict are what `verify` tells
  pub verdict_as : HasShard a r → (v : AnswerVerdict) (s : ℕ) (text : List ℕ) → ClaimsCome digest a r v → s ≡ verdict_status v → text ≡ verdict_text a.count v
      → Told digest (verifying digest a) r s text
  verdict_as has v s text come status line = rw (status, line) (verdict_is has v come)

  -- a result is that there is no such shard, or a verdict
  abbrev Shardless : ℕ → List ℕ → Type 0
  Shardless s x = (s ≡ 4) × LacksShard a r x

  abbrev Verdict : ℕ → List ℕ → Type 0
  Verdict s x = HasShard a r × ToldBy (ClaimsCome digest a r) verdict_status (verdict_text a.count) s x

  verdict_of : (s : ℕ) (x : List ℕ) → Told digest (verifying digest a) r s x → Shardless s x ⊎ Verdict s x
  verdict_of _ _ (succeeds text is) = inr (is.0, (Accepted, is.1, refl, is.2))
  verdict_of _ _ (rejects text is) = inr (is.0, (Wrong is.1, is.2, refl, is.3))
  verdict_of _ _ (lacks text is) =
      ⊎_elim (λ none. inl (refl, none)) (λ some. inr (some.0, (WrongCount some.1, some.2, refl, some.3))) is
  verdict_of s x told = absurd (grind (arith, told_so digest (verifying digest a) r s x told))

  one_of : (s : ℕ) (x : List ℕ) (t : ℕ) (y : List ℕ) → Shardless s x ⊎ Verdict s x → Shardless t y ⊎ Verdict t y → Same s x t y
  one_of s x t y (inl p) (inl q) = same s t x y (cc) (cc)
  one_of s x t y (inl p) (inr q) = absurd (omega (arith, p.1.0, q.0))
  one_of s x t y (inr p) (inl q) = absurd (omega (arith, q.1.0, p.0))
  one_of s x t y (inr p) (inr q) =
      one_by (ClaimsCome digest a r) verdict_status (verdict_text a.count) (λ v w is also.
      rw (one_verdict digest r.metadata a.beacon a.shard a.count (claims_in a.id.0 r.payloads) v w is also) (refl, inl refl)) p.1 q.1

pub verified_once : (digest : List ℕ → List ℕ) (a : Audit) → Determined digest (verifying digest a)
verified_once digest a input r spells s x t y one other = one_of digest a r s x t y (verdict_of digest a r s x one) (verdict_of digest a r t y other)
