-- What a step needs of the crates below to be one; and a certificate is one word.
use Rattle.wal_protocol.proofs.Common.{◌≡◌, ℕ, ◌≤◌, false, List, Option, sym, ap, subst, ◌∙◌, arith, BlobId, Axis, Evidence, Frame, ReadWord, RecoverWord, CertificateWord, quorum_size, Log, Parts, Contents, PutAnswer, World, Rules, is_clash, CertificateStep}
use Rattle.wal_shape.specs.declared.shape.Format.{Format}

-- ---- what the crates below leave no choice of

-- one answer to a put; two that found another metadata may differ in their texts
abbrev pub SamePut : PutAnswer → PutAnswer → Type 0
SamePut a b = (is_clash a ≡ is_clash b) × (is_clash a ≡ false → a ≡ b)

-- one frame, one answer, one message, one reply, one outcome with its evidence
pub record Only (r : Rules) : Type 0 where
  pub put_frame : (bytes : List ℕ) (a b : Frame) → r.IsPutFrame bytes a → r.IsPutFrame bytes b → a ≡ b
  pub puts : (log : Log) (shard : ℕ) (old : Contents) (frame : Frame) (a b : PutAnswer) (x y : Contents) → r.Puts log shard old frame a x → r.Puts log shard old frame b y
      → SamePut a b × (x ≡ y)
  pub message : (format : Format) (blob : List ℕ) (i j : BlobId) (a b : ℕ → List Frame) → r.IsMessage format blob i a → r.IsMessage format blob j b → (i ≡ j) × (a ≡ b)
  pub symbol_reply : (id : BlobId) (helper : ℕ) (parts : Parts) (axis : Axis) (shard : ℕ) (a b : List (List ℕ)) → r.IsSymbolReply id helper parts axis shard a
      → r.IsSymbolReply id helper parts axis shard b → a ≡ b
  pub reads : (id : BlobId) (payloads : List (List ℕ)) (w v : ReadWord) (a b : Option Evidence) → r.Reads id payloads w a → r.Reads id payloads v b → (w ≡ v) × (a ≡ b)
  pub reads_one : (id : BlobId) (payloads : List (List ℕ)) (w : ReadWord) (a : Option Evidence) → r.Reads id payloads w a → r.HasTwoMetadata id payloads → ⊥
  pub recovers : (id : BlobId) (shard : ℕ) (axis : Axis) (old : Contents) (payloads : List (List ℕ)) (w v : RecoverWord) (x y : Contents)
      → r.Recovers id shard axis old payloads w x → r.Recovers id shard axis old payloads v y → (w ≡ v) × (x ≡ y)

-- ---- certificates

pub one_certificate : (w : World) (id : BlobId) (a b : CertificateWord) → CertificateStep w id a → CertificateStep w id b → a ≡ b
one_certificate w id (CertificateWord.Certified e i) (CertificateWord.Certified g j) a b =
    grind (arith, a.least g, b.least e)
one_certificate w id (CertificateWord.Certified e i) (CertificateWord.Pending j) a b =
    absurd (b.0 (record { live = a.live; quorum = (e, subst (λ (k : ℕ). quorum_size w.log.f ≤ k) a.counted a.quorum) }))
one_certificate w id (CertificateWord.Pending i) (CertificateWord.Certified g j) a b =
    absurd (a.0 (record { live = b.live; quorum = (g, subst (λ (k : ℕ). quorum_size w.log.f ≤ k) b.counted b.quorum) }))
one_certificate w id (CertificateWord.Pending i) (CertificateWord.Pending j) a b = ap CertificateWord.Pending (a.1 ∙ sym b.1)
