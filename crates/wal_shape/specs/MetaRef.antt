-- What a reference to metadata shows.
use Rattle.wal_shape.specs.declared.metadata.MetaRef.{MetaRef}
use Rattle.wal_shape.specs.Metadata.{BlobMetadata}
use Rattle.wal_shape.specs.MetadataReading.{spelled_metadata}

-- the metadata that the lent bytes spell
unfoldable pub metadata_shown : MetaRef → BlobMetadata
metadata_shown metadata = spelled_metadata metadata.bytes.now
