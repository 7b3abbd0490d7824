use Rattle.std.proofs.Common.{◌≡◌, length, take}
use Rattle.wal_record.specs.Told.{IsFit}
use Rattle.wal_follow.specs.Enter.{entered_all}
use Rattle.wal_follow.specs.Told.{kept_told}
use Rattle.wal_follow.proofs.entering.enter_all.Given as goal

-- the entries before this one were entered
abbrev pub invariant-loop-item : goal.invariant-loop-item
invariant-loop-item l = record {
  told : (l.outcomes.items, kept_told l.epoch l.rows) ≡ entered_all (kept_told l.fn.epoch l.fn.rows) (take l.item-index l.items);
  fits : IsFit l.epoch;
  committee : l.epoch.f ≡ l.fn.epoch.f;
  rows : length l.rows ≡ length l.fn.rows;
  count : length l.outcomes.items ≡ l.item-index;
}
