-- What a get of a blob's bytes answers over a list of blobs that were checked before, and the list
-- that it leaves.
use Rattle.std.specs.Prelude.{◌≡◌, ℕ, ◌+◌, List, [], ◌∷◌, length, take, drop, cond, nat_le, Option}
use Rattle.std.specs.Prelude.{MatchOption, true, false}
use Rattle.std.specs.Map.{lookup, remove_entry}
use Rattle.wal_shape.specs.declared.metadata.BlobId.{BlobId}
use Rattle.wal_shape.specs.Identifiers.{id_eq}
use Rattle.wal_shape.specs.Metadata.{BlobMetadata}
use Rattle.wal_reader.specs.Outcome.{IsMetadataIn, IsOutcome}
use Rattle.wal_reader.specs.declared.outcome.Outcome.{Outcome}
use Rattle.wal_reader.specs.declared.outcome.Outcome.TheVariants as read
use Rattle.wal_gateway.specs.declared.answer.Found.{Found}
use Rattle.wal_gateway.specs.declared.answer.Found.TheVariants.{Range, OutOfRange, Reject, Short}
use Rattle.wal_gateway.specs.declared.answer.Found.TheVariants.{NoMetadata, Collision}
use Rattle.wal_gateway.specs.declared.answer.GetAnswer.{GetAnswer}
use Rattle.wal_gateway.specs.declared.checked.CheckedBlob.{CheckedBlob}

-- the pairs of an identifier and the blob that was checked for it, the last used first, and how
-- many there may be
pub record Cache : Type 0 where
  pub pairs : List (BlobId × CheckedBlob)
  pub capacity : ℕ

-- what is asked for: so many bytes of a blob from a place on; and what shards sent for it
pub record Get : Type 0 where
  pub id : BlobId
  pub from : ℕ
  pub size : ℕ
  pub payloads : List (List ℕ)

-- this is asked for
abbrev pub asked : BlobId → ℕ → ℕ → List (List ℕ) → Get
asked id from size payloads = record { id = id; from = from; size = size; payloads = payloads }

-- the blob in the list that has this identifier
abbrev pub kept_blob : Cache → BlobId → Option CheckedBlob
kept_blob cache id = lookup (id_eq id) cache.pairs

-- the pair of the identifier goes to the front
abbrev pub used : Cache → BlobId → CheckedBlob → Cache
used cache id blob = record cache { pairs = (id, blob) ∷ remove_entry (id_eq id) cache.pairs }

-- a pair is put at the front, and the last one beyond the capacity goes
abbrev pub entered : Cache → BlobId → CheckedBlob → Cache
entered cache id blob = record cache { pairs = take cache.capacity ((id, blob) ∷ cache.pairs) }

-- so many of the bytes from a place on, or how many there are, if they end before
abbrev pub range_of : ℕ → ℕ → List ℕ → Found
range_of from size bytes =
    cond (nat_le (from + size) (length bytes))
    (Range (take size (drop from bytes))) (OutOfRange (length bytes))

-- what is found if a read has this outcome
abbrev pub found_of : ℕ → ℕ → Outcome → Found
found_of from size (read.Bytes bytes) = range_of from size bytes
found_of from size read.Reject = Reject
found_of from size (read.Short have need) = Short have need
found_of from size read.NoMetadata = NoMetadata
found_of from size (read.Collision clash) = Collision clash

-- these bytes as a blob of the metadata
abbrev pub blob_with : BlobMetadata → List ℕ → CheckedBlob
blob_with metadata bytes =
    record {
      shape = record { format = metadata.format; f = metadata.f; length = metadata.length };
      bytes = bytes;
    }

-- the list that a read with this outcome leaves: the blob enters it, and anything else leaves it as
-- it was
abbrev pub Leaves : (List ℕ → List ℕ) → Cache → Get → Outcome → Cache → Type 0
Leaves digest old get (read.Bytes bytes) new =
    (metadata : BlobMetadata) × IsMetadataIn digest get.id.0 get.payloads metadata
    × (new ≡ entered old get.id (blob_with metadata bytes))
Leaves digest old get read.Reject new = new ≡ old
Leaves digest old get (read.Short have need) new = new ≡ old
Leaves digest old get read.NoMetadata new = new ≡ old
Leaves digest old get (read.Collision clash) new = new ≡ old

-- the identifier is in the list: the answer is from that blob, whatever the payloads are
abbrev pub Hits : Cache → Get → CheckedBlob → GetAnswer → Cache → Type 0
Hits old get blob answer new =
    (answer ≡ record { hit = true; found = range_of get.from get.size blob.bytes })
    × (new ≡ used old get.id blob)

-- it is not: the answer is from a read of the payloads
abbrev pub Misses : (List ℕ → List ℕ) → Cache → Get → GetAnswer → Cache → Type 0
Misses digest old get answer new =
    (outcome : Outcome) × IsOutcome digest get.id.0 get.payloads outcome
    × (answer ≡ record { hit = false; found = found_of get.from get.size outcome })
    × Leaves digest old get outcome new

-- what a get over the list answers, and the list that it leaves
abbrev pub AnswersGet : (List ℕ → List ℕ) → Cache → Get → GetAnswer → Cache → Type 0
AnswersGet digest old get answer new =
    MatchOption (kept_blob old get.id) (Misses digest old get answer new)
    (λ blob. Hits old get blob answer new)

-- the answers of gets, one after the other, and the list that the last one leaves
abbrev pub AnswersAll : (List ℕ → List ℕ) → Cache → List Get → List GetAnswer → Cache → Type 0
AnswersAll digest old [] [] new = new ≡ old
AnswersAll digest old (get ∷ gets) (answer ∷ answers) new =
    (between : Cache) × AnswersGet digest old get answer between
    × AnswersAll digest between gets answers new
AnswersAll digest old [] (answer ∷ answers) new = ⊥
AnswersAll digest old (get ∷ gets) [] new = ⊥
