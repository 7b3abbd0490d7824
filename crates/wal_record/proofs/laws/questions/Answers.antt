use Rattle.std.proofs.Common.{refl}
use Rattle.wal_record.proofs.Asking.{signed_is, home_is, certificate_is, invalid_is, must_hold_is}
use Rattle.wal_record.proofs.Entering.{ready_count_is}
use Rattle.wal_record.proofs.laws.questions.Goals as goal

pub returns : goal.returns
returns c = record {
  live = λ log id. refl;
  until = λ log id. refl;
  signed = signed_is;
  home = home_is;
  certificate = certificate_is;
  invalid = invalid_is;
  must_hold = must_hold_is;
  ready = ready_count_is;
}
