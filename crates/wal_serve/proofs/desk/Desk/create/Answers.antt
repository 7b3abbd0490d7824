use Rattle.wal_serve.proofs.Common.{arith, columns_most}
use Rattle.wal_serve.proofs.desk.Desk.create.Goals as goal

pub overflow_add-reply_room : goal.overflow_add-reply_room
overflow_add-reply_room c = omega (arith, columns_most c.args.f c.requires.some c.requires.few, c.reply_room.ensures)
