use Rattle.wal_record.proofs.Posting.{post_is}
use Rattle.wal_record.proofs.Entering.{register_is, ack_is, attest_is, ready_is}
use Rattle.wal_record.proofs.laws.answers.Goals as goal

pub returns : goal.returns
returns c = record { register = register_is; ack = ack_is; attest = attest_is; ready = ready_is; post = post_is }
