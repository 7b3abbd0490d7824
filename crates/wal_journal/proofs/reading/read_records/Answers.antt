use Rattle.wal_journal.proofs.Common.{ℕ, Option, subst, HadRoomForPuts, ◌++◌, ◌∷◌, [], ◌∙◌, arith, no_contents}
use Rattle.wal_journal.proofs.HeldLaws.{read_more, room_both}
use Rattle.wal_journal.proofs.NeverBad.{still_both}
use Rattle.wal_journal.proofs.reading.read_records.Goals as goal

pub records-preserved : goal.records-preserved
records-preserved g c =
    let so_far = c.records.invariant in
    let moved = rw (c.in-Some.is, so_far.now) at c.in_ok-next.ensures.steps in
    let room =
    subst (λ (o : Option ℕ). HadRoomForPuts o (g.K.Keep.contents c.records.keep) (moved.0.change ∷ []))
    so_far.limit moved.1 in
    record {
      so_far = (
        so_far.so_far.0 ++ moved.0.change ∷ [],
        read_more _ _ _ _ _ _ so_far.so_far.1 moved.0,
        room_both (g.K.Keep.limit c.args.keep.now) no_contents so_far.so_far.0 (moved.0.change ∷ []) so_far.so_far.2
            (rw (← so_far.so_far.1.holds) room),
      );
      limit = c.read_record.ensures.limit ∙ so_far.limit;
      now = c.read_record.ensures.now ∙ so_far.now;
      len = so_far.len;
      still = λ told. still_both so_far.now (so_far.still told) (c.read_record.ensures.still told);
      later = omega (arith, so_far.later, c.read_record.ensures.later);
    }
