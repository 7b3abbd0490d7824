use Rattle.wal_schedule.proofs.Common.{◌≡◌, drop, items_view, before, replies_of}
use Rattle.wal_schedule.proofs.spelled.replies_in.Given as goal

abbrev pub invariant-loop-item : goal.invariant-loop-item
invariant-loop-item l = replies_of (items_view l.items) ≡ before l.replies.items (replies_of (items_view (drop l.item-index l.items)))
