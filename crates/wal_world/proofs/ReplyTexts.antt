-- Replies in a network's buffer.
use Rattle.wal_world.proofs.Common.{◌≡◌, ℕ, ◌+◌, ◌<◌, ◌^◌, List, [], ◌∷◌, ◌++◌, length, true, Result, Ok, Err, ap, ◌∙◌, arith, length-append, append-nil, slice_index_or, flat_map, AllByRecursion, flat_map-append, BlobId, Side, committee_size, Reply, Buffer, envelope, IsPayload, IsStream, Splits, Parts, parts_at, ShardState, WritesReply, World, side_of, is_present, held, Rules, read_payloads, reply_payloads, ledger_of, IsNetwork, shards_of, world_of, Network, IsLike}
use Rattle.wal_frame.specs.declared.stream.SplitError.{SplitError}
use Rattle.wal_frame.specs.declared.stream.SplitError.TheVariants.{Malformed}
use Rattle.wal_frame.proofs.StreamLaws.{joined}
use Rattle.wal_world.proofs.Shards.{shard_is}

-- the payloads of a text of less than 2^32 bytes fit their envelopes
payloads_fit : (sender : ℕ) (payloads : List (List ℕ)) → length (flat_map (envelope sender) payloads) < 2 ^ 32 → AllByRecursion IsPayload payloads
payloads_fit sender [] h = tt
payloads_fit sender (p ∷ ps) h =
    let long : length (flat_map (envelope sender) (p ∷ ps)) ≡ 7 + length p + length (flat_map (envelope sender) ps) = omega (arith, length-append (envelope sender p) (flat_map (envelope sender) ps)) in
    (omega (arith, h, long), payloads_fit sender ps (omega (arith, h, long)))

pub is_stream : (sender : ℕ) (payloads : List (List ℕ)) (bytes : List ℕ) → bytes ≡ flat_map (envelope sender) payloads → length bytes < 2 ^ 32 → IsStream payloads bytes
is_stream sender payloads bytes e h =
    rw e (joined sender payloads (payloads_fit sender payloads (rw e at h)))

-- a stream is not malformed
pub not_malformed : (r : Result (List (List ℕ)) SplitError) (e : SplitError) (place : ℕ) (payloads : List (List ℕ)) → r ≡ Err e → e ≡ Malformed place → Splits r (Ok payloads) → ⊥
not_malformed r e place payloads is malformed h =
    let apart : ◌≡◌ {A = Result (List (List ℕ)) ℕ} (Ok payloads) (Err place) = rw (is, malformed) at h in cc

-- the world is the same
pub like_world : {H : Type 0} {old new : Network H} → IsLike old new → world_of new ≡ world_of old
like_world l = cc (l.format, l.books, l.few, l.sides, l.answers)

pub like_trans : {H : Type 0} {a b c : Network H} → IsLike a b → IsLike b c → IsLike a c
like_trans l m = record {
  format = m.format ∙ l.format;
  books = m.books ∙ l.books;
  few = m.few ∙ l.few;
  sides = m.sides ∙ l.sides;
  answers = m.answers ∙ l.answers;
  work = m.work ∙ l.work;
}

-- one more reply to a reader
pub payloads_more : (r : Rules) (w : World) (id : BlobId) (front : List Reply) (one : Reply) → read_payloads r w id (front ++ one ∷ []) ≡ read_payloads r w id front ++ reply_payloads r w id one
payloads_more r w id front one =
    flat_map-append (reply_payloads r w id) front (one ∷ []) ∙ ap (λ (t : List (List ℕ)). read_payloads r w id front ++ t) (append-nil (reply_payloads r w id one))

-- a reply of a shard of a side, by its place, stands in an empty buffer
pub written_by : {H : Type 0} (side : Side) (n : Network H) (list : List ShardState) (shard k : ℕ) (s : ShardState) (id : BlobId) (reply : ℕ → Parts → List (List ℕ)) (old new : Buffer) (count : ℕ)
    → IsNetwork n → is_present side (world_of n) ≡ true → list ≡ shards_of side n → k ≡ shard → shard < committee_size (ledger_of n.books).log.f → s ≡ slice_index_or list k s
    → old.bytes ≡ [] → WritesReply s.index old (reply s.index (parts_at s.contents id)) count new
    → new.bytes ≡ flat_map (envelope shard) (reply shard (held (side_of side (world_of n)) shard id))
unfolding held
written_by side n list shard k s id reply old new count is there same place less at empty w =
    let of_side = shard_is side n list shard k s is there same place less at in
    rw (w.written, empty, of_side.index, of_side.contents)
