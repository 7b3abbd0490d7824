-- What a shard's answer tells of what it holds.
use Rattle.wal_protocol.proofs.Common.{◌≡◌, ◌∙◌, ℕ, true, false, is_ok, Result, Ok, Err, sym, ap, subst, arith, BlobId, Side, Kind, Log, IsOpen, Contents, parts_at, backs, Vouches, World, contents_of, held, side_of, writing_side}
use Rattle.wal_shard.specs.declared.answers.AckRefusal.{AckRefusal}
use Rattle.wal_protocol.proofs.Lookups.{held_is}

answer_is : (kind : Kind) (log : Log) (contents : Contents) (id : BlobId) (r : Result (Unit {0}) AckRefusal) → IsOpen log id → Vouches kind log contents id r
    → is_ok r ≡ backs kind (parts_at contents id)
answer_is kind log contents id (Ok done) is v = sym v.1
answer_is kind log contents id (Err AckRefusal.Unregistered) is v = absurd (let e : true ≡ false = sym is.live ∙ v in cc)
answer_is kind log contents id (Err AckRefusal.Expires) is v = absurd (omega (arith, is.outlasts, v.1))
answer_is kind log contents id (Err AckRefusal.Declined) is v = sym v.1

-- what a shard vouches for is a step of the world
pub vouched : (kind : Kind) (w : World) (log : Log) (contents : Contents) (side : Side) (shard : ℕ) (id : BlobId) (r : Result (Unit {0}) AckRefusal) → log ≡ w.log → side ≡ writing_side w
    → contents ≡ contents_of (side_of side w) shard → IsOpen w.log id → Vouches kind log contents id r → is_ok r ≡ backs kind (held (side_of (writing_side w) w) shard id)
vouched kind w log contents side shard id r same here holds is v =
    let P : Log → Type 0 = λ l. IsOpen l id in
    let place : contents ≡ contents_of (side_of (writing_side w) w) shard = holds ∙ ap (λ s. contents_of (side_of s w) shard) here in
    answer_is kind log contents id r (subst P (sym same) is) v ∙ ap (λ m. backs kind (parts_at m id)) place ∙ ap (backs kind) (sym (held_is (side_of (writing_side w) w) shard id))
