-- Why a command has no answer: the status and the line of each refusal.
use Rattle.std.specs.Prelude.{ℕ, List, [], ◌++◌, codes, decimal}
use Rattle.wal_run.specs.declared.refusal.Refusal.{Refusal}
use Rattle.wal_run.specs.declared.refusal.Refusal.TheVariants.{Reject, BadIndex, Wrong, Checked}
use Rattle.wal_run.specs.declared.refusal.Refusal.TheVariants.{NoMetadata, NoProof, NoShard}
use Rattle.wal_run.specs.declared.refusal.Refusal.TheVariants.{NoPrimary, NoSecondary, Short}
use Rattle.wal_run.specs.declared.refusal.Refusal.TheVariants.{WrongCount, MissingColumn, NoMember}
use Rattle.wal_run.specs.declared.refusal.Refusal.TheVariants.{TooManyMembers, BundleTooLong}
use Rattle.wal_run.specs.declared.refusal.Refusal.TheVariants.{DiskFull, Memory, Malformed, NotJson}
use Rattle.wal_run.specs.declared.refusal.Refusal.TheVariants.{BadSchedule, TooManyEvents, BadEvent}
use Rattle.wal_run.specs.declared.refusal.Refusal.TheVariants.{MetadataClash, Collision}
use Rattle.wal_run.specs.Checking.{verdict_text}
use Rattle.wal_run.specs.Imaging.{disk_full_text}
use Rattle.wal_run.specs.Lines.{collision_text, malformed_text, number_text, short_text}
use Rattle.wal_run.specs.inside.Checking.{verdict_status}

abbrev pub refusal_status : Refusal → ℕ
refusal_status Reject = 3
refusal_status BadIndex = 3
refusal_status (Wrong place) = 3
refusal_status (Checked verdict) = verdict_status verdict
refusal_status NoMetadata = 4
refusal_status NoProof = 4
refusal_status NoShard = 4
refusal_status NoPrimary = 4
refusal_status NoSecondary = 4
refusal_status (Short have need) = 4
refusal_status (WrongCount have draws) = 4
refusal_status (MissingColumn j) = 4
refusal_status (NoMember count) = 4
refusal_status TooManyMembers = 4
refusal_status BundleTooLong = 4
refusal_status (DiskFull needed free) = 4
refusal_status Memory = 5
refusal_status (Malformed place) = 8
refusal_status NotJson = 8
refusal_status BadSchedule = 8
refusal_status TooManyEvents = 8
refusal_status (BadEvent number) = 8
refusal_status (MetadataClash clash) = 10
refusal_status (Collision clash) = 10

abbrev pub refusal_text : Refusal → List ℕ
refusal_text Reject = codes "reject\n"
refusal_text BadIndex = codes "bad index\n"
refusal_text (Wrong place) = number_text (codes "wrong ") place
refusal_text (Checked verdict) = verdict_text verdict
refusal_text NoMetadata = codes "no metadata\n"
refusal_text NoProof = codes "no proof\n"
refusal_text NoShard = codes "no shard\n"
refusal_text NoPrimary = codes "no primary\n"
refusal_text NoSecondary = codes "no secondary\n"
refusal_text (Short have need) = short_text have need
refusal_text (WrongCount have draws) =
    codes "wrong count " ++ decimal have ++ number_text (codes " of ") draws
refusal_text (MissingColumn j) = number_text (codes "missing column ") j
refusal_text (NoMember count) = number_text (codes "no member of ") count
refusal_text TooManyMembers = codes "too many members\n"
refusal_text BundleTooLong = codes "bundle too long\n"
refusal_text (DiskFull needed free) = disk_full_text needed free
refusal_text Memory = []
refusal_text (Malformed place) = malformed_text place
refusal_text NotJson = codes "not json\n"
refusal_text BadSchedule = codes "bad schedule\n"
refusal_text TooManyEvents = codes "too many events\n"
refusal_text (BadEvent number) = number_text (codes "bad event ") number
refusal_text (MetadataClash clash) = collision_text clash.left clash.right
refusal_text (Collision clash) = collision_text clash.left clash.right
