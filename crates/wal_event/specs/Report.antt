-- The text of each line, and the report of a run.
use Rattle.std.specs.Prelude.{ℕ, List, [], ◌∷◌, ◌++◌, codes, decimal}
use Rattle.std.specs.List.{flat_map}
use Rattle.hex.specs.Hex.{encode_lower}
use Rattle.wal_shape.specs.declared.axis.Axis.{Axis}
use Rattle.wal_shape.specs.declared.axis.Axis.TheVariants.{Primary, Secondary}
use Rattle.wal_shape.specs.declared.metadata.BlobId.{BlobId}
use Rattle.wal_event.specs.declared.line.RegisterWord.{RegisterWord}
use Rattle.wal_event.specs.declared.line.RegisterWord.TheVariants as register
use Rattle.wal_event.specs.declared.line.WriteWord.{WriteWord}
use Rattle.wal_event.specs.declared.line.WriteWord.TheVariants as write
use Rattle.wal_event.specs.declared.line.SendWord.{SendWord}
use Rattle.wal_event.specs.declared.line.SendWord.TheVariants as send
use Rattle.wal_event.specs.declared.line.AckWord.{AckWord}
use Rattle.wal_event.specs.declared.line.AckWord.TheVariants as ack
use Rattle.wal_event.specs.declared.line.AttestWord.{AttestWord}
use Rattle.wal_event.specs.declared.line.AttestWord.TheVariants as attest
use Rattle.wal_event.specs.declared.line.ReadWord.{ReadWord}
use Rattle.wal_event.specs.declared.line.ReadWord.TheVariants as read
use Rattle.wal_event.specs.declared.line.RecoverWord.{RecoverWord}
use Rattle.wal_event.specs.declared.line.RecoverWord.TheVariants as recover
use Rattle.wal_event.specs.declared.line.ForgetWord.{ForgetWord}
use Rattle.wal_event.specs.declared.line.ForgetWord.TheVariants as forget
use Rattle.wal_event.specs.declared.line.BeginWord.{BeginWord}
use Rattle.wal_event.specs.declared.line.BeginWord.TheVariants as begin
use Rattle.wal_event.specs.declared.line.ReadyWord.{ReadyWord}
use Rattle.wal_event.specs.declared.line.ReadyWord.TheVariants as ready
use Rattle.wal_event.specs.declared.line.FinishWord.{FinishWord}
use Rattle.wal_event.specs.declared.line.FinishWord.TheVariants as finish
use Rattle.wal_event.specs.declared.line.CertificateWord.{CertificateWord}
use Rattle.wal_event.specs.declared.line.CertificateWord.TheVariants as certificate
use Rattle.wal_event.specs.declared.line.HoldersWord.{HoldersWord}
use Rattle.wal_event.specs.declared.line.HoldersWord.TheVariants as holders
use Rattle.wal_event.specs.declared.line.Line.{Line}
use Rattle.wal_event.specs.declared.line.Line.TheVariants.{Register, Write, Send, Ack, Attest, Read}
use Rattle.wal_event.specs.declared.line.Line.TheVariants.{Recover, Forget, Begin, Ready, Finish}
use Rattle.wal_event.specs.declared.line.Line.TheVariants.{Certificate, Holders, Collision}

-- bytes in lower-case hexadecimal digits, or a dash if there are none
abbrev pub hex_text : List ℕ → List ℕ
hex_text [] = codes "-"
hex_text (byte ∷ bytes) = encode_lower (byte ∷ bytes)

-- an identifier in 64 lower-case hexadecimal digits
abbrev pub id_text : BlobId → List ℕ
id_text id = encode_lower id.0

abbrev pub axis_text : Axis → List ℕ
axis_text Primary = codes "primary"
axis_text Secondary = codes "secondary"

-- how many there are, and how many are needed
abbrev pub short_of : ℕ → ℕ → List ℕ
short_of have need = codes "short " ++ decimal have ++ codes " of " ++ decimal need

abbrev pub register_text : RegisterWord → List ℕ
register_text (register.Until epoch) = codes "until " ++ decimal epoch
register_text register.RefusedPast = codes "refused past"
register_text register.RefusedMoving = codes "refused moving"

abbrev pub write_text : WriteWord → List ℕ
write_text (write.Stored count bytes) =
    codes "stored " ++ decimal count ++ codes " bytes " ++ hex_text bytes

abbrev pub send_text : SendWord → List ℕ
send_text send.Absent = codes "absent"
send_text send.Ignored = codes "ignored"
send_text send.Malformed = codes "malformed"
send_text send.Unregistered = codes "unregistered"
send_text send.NoMetadata = codes "no-metadata"
send_text send.Unverified = codes "unverified"
send_text send.Held = codes "held"
send_text send.Stored = codes "stored"

abbrev pub ack_text : AckWord → List ℕ
ack_text ack.Unregistered = codes "unregistered"
ack_text ack.Expires = codes "expires"
ack_text ack.Declined = codes "declined"
ack_text ack.Already = codes "already"
ack_text (ack.Counted k) = codes "counted " ++ decimal k
ack_text (ack.Certified k) = codes "certified " ++ decimal k

abbrev pub attest_text : AttestWord → List ℕ
attest_text attest.Unregistered = codes "unregistered"
attest_text attest.Expires = codes "expires"
attest_text attest.Declined = codes "declined"
attest_text attest.Already = codes "already"
attest_text (attest.Counted k) = codes "counted " ++ decimal k
attest_text (attest.Invalid k) = codes "invalid " ++ decimal k

abbrev pub read_text : ReadWord → List ℕ
read_text (read.Bytes bytes) = codes "bytes " ++ hex_text bytes
read_text read.Reject = codes "reject"
read_text (read.Short have need) = short_of have need
read_text read.NoMetadata = codes "no-metadata"

abbrev pub recover_text : RecoverWord → List ℕ
recover_text recover.Absent = codes "absent"
recover_text recover.Ignored = codes "ignored"
recover_text recover.Unregistered = codes "unregistered"
recover_text recover.NoMetadata = codes "no-metadata"
recover_text (recover.Sliver bytes) = codes "sliver " ++ hex_text bytes
recover_text recover.Inconsistent = codes "inconsistent"
recover_text recover.Proof = codes "proof"
recover_text (recover.Short have need) = short_of have need

abbrev pub forget_text : ForgetWord → List ℕ
forget_text forget.Absent = codes "absent"
forget_text forget.Ignored = codes "ignored"
forget_text forget.Declined = codes "declined"
forget_text forget.Done = codes "done"

abbrev pub begin_text : BeginWord → List ℕ
begin_text (begin.Epoch epoch) = codes "epoch " ++ decimal epoch
begin_text begin.RefusedMoving = codes "refused moving"
begin_text begin.RefusedLastEpoch = codes "refused last-epoch"

abbrev pub ready_text : ReadyWord → List ℕ
ready_text ready.RefusedNotMoving = codes "refused not-moving"
ready_text ready.Declined = codes "declined"
ready_text ready.Already = codes "already"
ready_text (ready.Counted k) = codes "counted " ++ decimal k

abbrev pub finish_text : FinishWord → List ℕ
finish_text (finish.Epoch epoch) = codes "epoch " ++ decimal epoch
finish_text (finish.Waiting k) = codes "waiting " ++ decimal k
finish_text finish.RefusedNotMoving = codes "refused not-moving"

abbrev pub certificate_text : CertificateWord → List ℕ
certificate_text (certificate.Certified epoch count) =
    codes "epoch " ++ decimal epoch ++ codes " count " ++ decimal count
certificate_text (certificate.Pending k) = codes "pending " ++ decimal k

abbrev pub holders_text : HoldersWord → List ℕ
holders_text (holders.Count count) = decimal count

-- the name of the event, what the line shows of it, and the word
abbrev pub line_body : Line → List ℕ
line_body (Register id word) = codes "register " ++ id_text id ++ codes " " ++ register_text word
line_body (Write id word) = codes "write " ++ id_text id ++ codes " " ++ write_text word
line_body (Send shard word) = codes "send " ++ decimal shard ++ codes " " ++ send_text word
line_body (Ack shard id word) =
    codes "ack " ++ decimal shard ++ codes " " ++ id_text id ++ codes " " ++ ack_text word
line_body (Attest shard id word) =
    codes "attest " ++ decimal shard ++ codes " " ++ id_text id ++ codes " " ++ attest_text word
line_body (Read id word) = codes "read " ++ id_text id ++ codes " " ++ read_text word
line_body (Recover shard axis id word) =
    codes "recover " ++ decimal shard ++ codes " " ++ axis_text axis ++ codes " " ++ id_text id
    ++ codes " " ++ recover_text word
line_body (Forget shard id word) =
    codes "forget " ++ decimal shard ++ codes " " ++ id_text id ++ codes " " ++ forget_text word
line_body (Begin word) = codes "begin " ++ begin_text word
line_body (Ready shard word) = codes "ready " ++ decimal shard ++ codes " " ++ ready_text word
line_body (Finish word) = codes "finish " ++ finish_text word
line_body (Certificate id word) =
    codes "certificate " ++ id_text id ++ codes " " ++ certificate_text word
line_body (Holders id word) = codes "holders " ++ id_text id ++ codes " " ++ holders_text word
line_body (Collision left right) =
    codes "collision " ++ hex_text left ++ codes " " ++ hex_text right

-- a line ends with one newline
unfoldable pub line_text : Line → List ℕ
line_text line = line_body line ++ codes "\n"

-- the lines in order
abbrev pub report_of : List Line → List ℕ
report_of lines = flat_map line_text lines
