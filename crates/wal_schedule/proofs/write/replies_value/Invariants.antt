use Rattle.wal_schedule.proofs.Common.{◌≡◌, map, take, AllByRecursion, view, HasReplyBytes, reply_data}
use Rattle.wal_schedule.proofs.write.replies_value.Given as goal

abbrev pub invariant-loop-reply : goal.invariant-loop-reply
invariant-loop-reply l = record {
  is : map view l.list.items ≡ map reply_data (take l.reply-index l.replies);
  bytes : AllByRecursion HasReplyBytes (take l.reply-index l.replies);
}
