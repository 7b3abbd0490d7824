use Rattle.wal_run.proofs.Common.{performed}
use Rattle.wal_run.proofs.Says.{performs_said}
use Rattle.wal_run.proofs.top.perform.Goals as goal

pub returns-in-Identify-clause-does : goal.returns-in-Identify-clause-does
returns-in-Identify-clause-does g c = rw c.in-Identify.is (performed _ (performs_said _ _ c.identify.ensures c.write_answer.ensures.performs))

pub returns-in-Encode-clause-does : goal.returns-in-Encode-clause-does
returns-in-Encode-clause-does g c = rw c.in-Encode.is (performed _ c.encode.ensures.performs)

pub returns-in-Recover-clause-does : goal.returns-in-Recover-clause-does
returns-in-Recover-clause-does g c = rw c.in-Recover.is (performed _ (performs_said _ _ c.recover_sliver.ensures c.write_answer-in-Recover.ensures.performs))

pub returns-in-Check-clause-does : goal.returns-in-Check-clause-does
returns-in-Check-clause-does g c = rw c.in-Check.is (performed _ (performs_said _ _ c.check_proof.ensures c.write_answer-in-Check.ensures.performs))

pub returns-in-Replay-clause-does : goal.returns-in-Replay-clause-does
returns-in-Replay-clause-does g c = rw c.in-Replay.is c.replay_schedule.ensures.does

pub returns-in-Image-clause-does : goal.returns-in-Image-clause-does
returns-in-Image-clause-does g c = rw c.in-Image.is (performed _ (performs_said _ _ c.image_parts.ensures c.write_answer-in-Image.ensures.performs))

pub returns-in-Unpack-clause-does : goal.returns-in-Unpack-clause-does
returns-in-Unpack-clause-does g c = rw c.in-Unpack.is (performed _ (performs_said _ _ c.unpack_image.ensures c.write_answer-in-Unpack.ensures.performs))

pub returns-in-Bundle-clause-does : goal.returns-in-Bundle-clause-does
returns-in-Bundle-clause-does g c = rw c.in-Bundle.is (performed _ (performs_said _ _ c.bundle_members.ensures c.write_answer-in-Bundle.ensures.performs))

pub returns-in-Member-clause-does : goal.returns-in-Member-clause-does
returns-in-Member-clause-does g c = rw c.in-Member.is (performed _ (performs_said _ _ c.read_member.ensures c.write_answer-in-Member.ensures.performs))

pub returns-in-Challenge-clause-does : goal.returns-in-Challenge-clause-does
returns-in-Challenge-clause-does g c = rw c.in-Challenge.is c.challenge_shard.ensures.does

pub returns-in-Verify-clause-does : goal.returns-in-Verify-clause-does
returns-in-Verify-clause-does g c = rw c.in-Verify.is (performed _ (performs_said _ _ c.verify_answer.ensures c.write_answer-in-Verify.ensures.performs))

pub returns-in-Gateway-clause-does : goal.returns-in-Gateway-clause-does
returns-in-Gateway-clause-does g c = rw c.in-Gateway.is c.fetch_ranges.ensures.does
