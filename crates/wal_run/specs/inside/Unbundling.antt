-- What serves private functions and proofs beside Unbundling.
use Rattle.std.specs.Prelude.{ℕ, List, codes}
use Rattle.wal_bundle.specs.declared.answer.MemberAnswer.{MemberAnswer}
use Rattle.wal_bundle.specs.declared.answer.MemberAnswer.TheVariants.{BadIndex, Collision, Member}
use Rattle.wal_bundle.specs.declared.answer.MemberAnswer.TheVariants.{Missing, NoMember, NoMetadata}
use Rattle.wal_run.specs.Lines.{collision_text, number_text}

abbrev pub member_status : MemberAnswer → ℕ
member_status (Member bytes) = 0
member_status BadIndex = 3
member_status (Missing j) = 4
member_status (NoMember count) = 4
member_status NoMetadata = 4
member_status (Collision clash) = 10

-- a member as it is, all else in words
abbrev pub member_text : MemberAnswer → List ℕ
member_text (Member bytes) = bytes
member_text BadIndex = codes "bad index\n"
member_text (Missing j) = number_text (codes "missing column ") j
member_text (NoMember count) = number_text (codes "no member of ") count
member_text NoMetadata = codes "no metadata\n"
member_text (Collision clash) = collision_text clash.left clash.right
