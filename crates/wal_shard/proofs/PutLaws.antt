-- What comparing a metadata with the held one comes to, as what a put answers.
use Rattle.wal_shard.proofs.Common.{◌≡◌, ℕ, Bool, List, refl, BlobId, BlobMetadata, Contents, part_at, Metadata, PutAnswer, Held, OtherMetadata, PutDesk, IsAccepted, PutsOrWants, Compares, put_id}
use Rattle.wal_shape.specs.declared.part.Part.TheVariants as parts

-- a metadata that is accepted, beside one that is held: it is the same, or two texts are given
pub compared_puts : (digest : List ℕ → List ℕ) (may_want : Bool) (d : PutDesk) (old : Contents) (m : BlobMetadata) (id : BlobId) (answer : PutAnswer)
    → put_id digest (Metadata m) ≡ id → IsAccepted digest d old (Metadata m) → Compares digest (part_at old id parts.Metadata) m answer
    → PutsOrWants digest may_want d old (Metadata m) answer old
compared_puts digest may_want d old m id Held same a c = (a, rw same c, refl)
compared_puts digest may_want d old m id (OtherMetadata clash) same a c = (a, m, c.0, refl, rw same c.1, c.2, c.3, refl)
compared_puts digest may_want d old m id answer same a c = absurd c
