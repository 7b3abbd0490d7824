use Rattle.wal_commit.proofs.Common.{◌≡◌, ◌++◌, ◌∙◌, sym, ap, arith, flat_map, range_with_len, shard_count, head_text, pair_over}
use Rattle.wal_commit.proofs.Commitments.{pairs_step, metadata_text-over}
use Rattle.wal_commit.proofs.identifier.spelling_over.Goals as goal

pub loop-index-preserved : goal.loop-index-preserved
loop-index-preserved g c =
    let shape = c.args.shape.now in
    record {
      spelled = λ e are.
          pairs_step (pair_over g.H.Hash32.digest shape e) (head_text shape.format shape.f shape.length) _ _ c.loop-index.index
          (c.loop-index.invariant.spelled e are) (c.in_ok-append_pair.ensures e are);
      room = c.loop-index.invariant.room;
    }

pub returns-clause-spelled : goal.returns-clause-spelled
returns-clause-spelled g c =
    λ e are.
    let shape = c.args.shape.now in
    let all : c.loop-index.index ≡ shard_count shape.f = omega (arith, c.loop-index-test.false, c.loop-index.auto.index-end, c.n-count.ensures.value) in
    c.loop-index.invariant.spelled e are
    ∙ ap (λ n. head_text shape.format shape.f shape.length ++ flat_map (pair_over g.H.Hash32.digest shape e) (range_with_len 0 n)) all
    ∙ sym (metadata_text-over g.H.Hash32.digest shape e)
