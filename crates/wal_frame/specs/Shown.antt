-- What a frame that lies in lent bytes shows.
use Rattle.std.specs.Prelude.{◌≡◌, ⊤}
use Rattle.wal_shape.specs.declared.shape.Format.TheVariants.{One, Two}
use Rattle.wal_shape.specs.MetaRef.{metadata_shown}
use Rattle.wal_shape.specs.Opening.{opening_shown}
use Rattle.wal_shape.specs.ProofRef.{proof_shown}
use Rattle.wal_frame.specs.declared.frame.FrameRef.{FrameRef}
use Rattle.wal_frame.specs.declared.frame.FrameRef.TheVariants as lent
use Rattle.wal_frame.specs.Frame.{Frame, Metadata, Sliver, Opening, Proof, Read, Symbol, Ack}
use Rattle.wal_frame.specs.Frame.{Attest, Forget, Answer, Clash, RegisterEntry, AckEntry}
use Rattle.wal_frame.specs.Frame.{AttestEntry}

-- the frame that is lent
abbrev pub frame_shown : FrameRef → Frame
frame_shown (lent.Metadata metadata) = Metadata (metadata_shown metadata)
frame_shown (lent.Sliver id sliver) = Sliver id.0 sliver.axis sliver.index sliver.bytes.now
frame_shown (lent.Opening id axis index opening) = Opening id.0 axis index (opening_shown opening)
frame_shown (lent.Proof id body) = Proof id.0 (proof_shown body)
frame_shown (lent.Metadata2 metadata) = Metadata (metadata_shown metadata)
frame_shown (lent.Read id) = Read id.0
frame_shown (lent.Symbol id axis index) = Symbol id.0 axis index
frame_shown (lent.Ack id) = Ack id.0
frame_shown (lent.Attest id) = Attest id.0
frame_shown (lent.Forget id) = Forget id.0
frame_shown (lent.Answer code first second) = Answer code first second
frame_shown (lent.Clash left right) = Clash left.now right.now
frame_shown (lent.RegisterEntry id until) = RegisterEntry id.0 until
frame_shown (lent.AckEntry shard id) = AckEntry shard id.0
frame_shown (lent.AttestEntry shard id) = AttestEntry shard id.0

-- metadata is lent as the variant of its format
abbrev pub IsLentKind : FrameRef → Type 0
IsLentKind (lent.Metadata metadata) = (metadata_shown metadata).format ≡ One
IsLentKind (lent.Sliver id sliver) = ⊤
IsLentKind (lent.Opening id axis index opening) = ⊤
IsLentKind (lent.Proof id body) = ⊤
IsLentKind (lent.Metadata2 metadata) = (metadata_shown metadata).format ≡ Two
IsLentKind (lent.Read id) = ⊤
IsLentKind (lent.Symbol id axis index) = ⊤
IsLentKind (lent.Ack id) = ⊤
IsLentKind (lent.Attest id) = ⊤
IsLentKind (lent.Forget id) = ⊤
IsLentKind (lent.Answer code first second) = ⊤
IsLentKind (lent.Clash left right) = ⊤
IsLentKind (lent.RegisterEntry id until) = ⊤
IsLentKind (lent.AckEntry shard id) = ⊤
IsLentKind (lent.AttestEntry shard id) = ⊤
