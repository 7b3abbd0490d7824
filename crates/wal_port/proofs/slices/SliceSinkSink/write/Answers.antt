-- A piece more is taken: the count, what stands in the room and what is beyond go on together.
use Rattle.wal_port.proofs.Common.{◌≡◌, ◌+◌, ◌-◌, ◌≤◌, ◌^◌, min, length, arith, ap, ◌∙◌, sym}
use Rattle.wal_port.proofs.Rooms.{beyond_more, counted_more, drop_further, mark_more, text_put, untouched_put}
use Rattle.wal_port.proofs.slices.SliceSinkSink.write.Goals as goal

pub invariant_of-self : goal.invariant_of-self
invariant_of-self c =
    let s = c.args.self.now in
    let up : s.count ≤ c.saturating_add-self.result = omega (arith, s.counted, c.saturating_add-self.ensures) in
    record {
      whole = s.whole;
      counted = counted_more (length s.room.now) s.count (length s.beyond.bytes) c.kept_of-start.result (length c.args.piece.now) c.min-kept.result
          c.saturating_add-self.result (length c.add.new.self.bytes) c.kept_of-start.ensures.fits s.counted c.kept_of-start.ensures.kept c.min-kept.ensures
          c.saturating_add-self.ensures (beyond_more s.beyond.bytes c.args.piece.now c.add.new.self.bytes c.min-kept.result c.add.ensures);
      untouched = drop_further s.room.now s.first.bytes s.count c.saturating_add-self.result up s.untouched;
    }

pub invariant_of-self-2 : goal.invariant_of-self-2
invariant_of-self-2 c =
    let s = c.args.self.now in
    let up : s.count ≤ c.saturating_add-self.result = omega (arith, s.counted, c.saturating_add-self.ensures) in
    let same : length c.put_at.new.room ≡ length s.room.now = c.put_at.auto.room in
    record {
      whole = s.whole ∙ sym same;
      counted = counted_more _ s.count (length s.beyond.bytes) c.kept_of-start.result (length c.args.piece.now) c.min-kept.result
          c.saturating_add-self.result (length c.add.new.self.bytes) (omega (arith, same, c.kept_of-start.ensures.fits))
          (s.counted ∙ ap (λ n. min (min s.count n + length s.beyond.bytes) (2 ^ 64 - 1)) (sym same))
          (c.kept_of-start.ensures.kept ∙ ap (min s.count) (sym same))
          (c.min-kept.ensures ∙ ap (λ n. min (length c.args.piece.now) (n - c.kept_of-start.result)) (sym same))
          c.saturating_add-self.ensures (beyond_more s.beyond.bytes c.args.piece.now c.add.new.self.bytes c.min-kept.result c.add.ensures);
      untouched = untouched_put s.room.now s.first.bytes c.args.piece.now c.put_at.new.room s.count c.kept_of-start.result c.min-kept.result
          c.saturating_add-self.result c.kept_of-start.ensures.fits up c.kept_of-start.ensures.kept c.min-kept.ensures c.saturating_add-self.ensures
          c.put_at.ensures s.untouched;
    }

pub returns-clause-bytes : goal.returns-clause-bytes
returns-clause-bytes c =
    let s = c.args.self.now in
    mark_more s.room.ghost_name s.first.bytes s.room.now c.put_at.new.room _ _ c.args.piece.now c.put_at.auto.room
    (text_put s.room.now s.beyond.bytes c.args.piece.now c.put_at.new.room c.add.new.self.bytes s.count c.kept_of-start.result c.min-kept.result
    c.saturating_add-self.result c.kept_of-start.ensures.fits s.counted c.kept_of-start.ensures.kept c.requires c.min-kept.ensures
    c.saturating_add-self.ensures c.put_at.ensures c.add.ensures)
