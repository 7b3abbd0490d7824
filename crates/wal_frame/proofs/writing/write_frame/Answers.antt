use Rattle.wal_frame.proofs.Common.{ℕ, ◌<◌, ◌^◌, subst, frame_text, frame_shown}
use Rattle.wal_frame.proofs.FrameLaws.{read_again}
use Rattle.wal_frame.proofs.StreamLaws.{stream_one}
use Rattle.wal_frame.proofs.writing.write_frame.Goals as goal

pub returns-clause-read : goal.returns-clause-read
returns-clause-read c = read_again (frame_shown c.args.frame.now) c.requires.frame

pub returns-clause-again : goal.returns-clause-again
returns-clause-again c = λ rest. stream_one c.args.sender (frame_text (frame_shown c.args.frame.now)) rest (subst (λ (k : ℕ). k < 2 ^ 32) c.frame_size.ensures c.put_head.ensures.fits)
