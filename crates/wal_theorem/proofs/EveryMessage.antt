-- Every blob has an honest writer's message, and each of its frames an answer.
use Rattle.wal_theorem.proofs.Common.{ℕ, ◌<◌, ◌≤◌, List, length, Contains, refl, subst, AllByRecursion, All-from_recursion, BlobId, Axis, Primary, Secondary, Format, most_bytes, shard_count, row_count, symbol_size, held_index, secondary_of, sliver_of, AreBytes, bytes_within, bytes_of_primary, bytes_of_column, identifier_of, metadata_over, Frame, IsFrame, stored_bytes, committee_size, Log, IsAnswered, IsMessageOf, message_to, message_fits, IsDigest, honest_bytes}
use Rattle.wal_theorem.proofs.ByteRules.{byte_rules}
use Rattle.wal_theorem.proofs.EveryPut.{every_put}
use Rattle.wal_matrix.proofs.Existence.{extended_exists}

-- what is sent is bytes
sliver_bytes : (axis : Axis) (n s : ℕ) (e : List ℕ) (i : ℕ) → AreBytes e → AreBytes (sliver_of axis n s e i)
unfolding secondary_of
sliver_bytes Primary n s e i are = bytes_of_primary n s e i are
sliver_bytes Secondary n s e i are = bytes_of_column (shard_count n) s e (row_count n) i are

module _ (digest : List ℕ → List ℕ) (is : IsDigest digest) (f : ℕ) (some : 1 ≤ f) (few : f ≤ 333) where
  pub message_exists : (format : Format) (blob : List ℕ) → length blob ≤ most_bytes → AreBytes blob → (id : BlobId) × (message : ℕ → List Frame) × IsMessageOf digest f format blob id message
  message_exists format blob short are =
      let found = extended_exists f blob few are in
      let e = found.0 in
      let m = metadata_over digest (record { format = format; f = f; length = length blob }) e in
      let id = identifier_of digest m in
      (record { 0 = id }, message_to m id e, record { metadata = m; is_metadata = (e, found.1, refl, (some, few, short)); identifier = refl; frames = refl })

  -- ---- answers

  abbrev IsSent : Frame → Type 0
  IsSent frame = IsFrame frame × AreBytes (stored_bytes frame)

  pub put_message : (format : Format) (blob : List ℕ) (id : BlobId) (message : ℕ → List Frame) → IsMessageOf digest f format blob id message → (log : Log) (shard : ℕ) → shard < committee_size f
      → (frame : Frame) → Contains (message shard) frame → IsAnswered (byte_rules digest f) log shard frame
  put_message format blob id message honest log shard within frame has old was =
      let m = honest.metadata in
      let e = honest.is_metadata.0 in
      let e_bytes = bytes_within e honest.is_metadata.1.coded.fits in
      let s = symbol_size m.f m.length in
      let fits : AllByRecursion IsFrame (message_to m id.0 e shard) =
      rw honest.frames at (message_fits digest is.size f format blob id message honest shard within) in
      let own : AllByRecursion IsSent (message_to m id.0 e shard) = (
        (fits.0, honest_bytes digest is format f blob m honest.is_metadata),
        (
          (fits.1.0, sliver_bytes Primary m.f s e (held_index m.format m.f Primary shard) e_bytes),
          ((fits.1.1.0, sliver_bytes Secondary m.f s e (held_index m.format m.f Secondary shard) e_bytes), tt),
        ),
      ) in
      let all : AllByRecursion IsSent (message shard) = rw honest.frames own in
      let sent = subst IsSent has.2 (All-from_recursion IsSent (message shard) all has.0 frame has.1) in
      every_put digest is f log shard old was frame sent.0 sent.1
