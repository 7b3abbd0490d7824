use Rattle.std.proofs.Common.{◌≡◌, take}
use Rattle.wal_event.proofs.event.Replies.duplicate.Given as goal

abbrev pub invariant-loop-reply : goal.invariant-loop-reply
invariant-loop-reply l = l.items.items ≡ take l.reply-index l.reply-items
