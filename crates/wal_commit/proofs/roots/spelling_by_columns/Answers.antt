use Rattle.wal_commit.proofs.Common.{◌≡◌, ◌*◌, ◌++◌, ℕ, length, ap, subst, sym, arith, ◌∙◌, flat_map, range_with_len, shard_count, symbol_size, extended_exists, head_text, pair_over, AreSeen}
use Rattle.wal_matrix.proofs.FrontLaws.{are_bytes}
use Rattle.wal_commit.proofs.Columns.{roots_long, seen_none}
use Rattle.wal_commit.proofs.Commitments.{pairs_step, metadata_text-over}
use Rattle.wal_commit.proofs.roots.spelling_by_columns.Goals as goal

pub append_roots-requires-clause-roots : goal.append_roots-requires-clause-roots
append_roots-requires-clause-roots g c =
    let digest = g.H.Hash32.digest in
    let shape = c.args.shape.now in
    let n = shard_count shape.f in
    let s = symbol_size shape.f shape.length in
    let found = extended_exists shape.f c.args.bytes.now c.head_of.ensures.fit.1 (are_bytes c.args.bytes.now c.type_inv.bytes) in
    let seen =
    c.in_ok-take_all.ensures.seen found.0 found.1
    (seen_none digest n s found.0 c.new-trees.result c.in_ok-roots.roots.items (λ r. c.new-trees.ensures.empty digest r) c.in_ok-roots.ensures.items) in
    ap length c.deref.ensures.value ∙ roots_long digest g.met.H.Hash32.size n s found.0 c.take_all.new.trees c.take_all.new.roots.items seen

pub loop-shard-preserved : goal.loop-shard-preserved
loop-shard-preserved g c =
    λ e is.
    let digest = g.H.Hash32.digest in
    let shape = c.args.shape.now in
    let n = shard_count shape.f in
    let s = symbol_size shape.f shape.length in
    let seen =
    c.in_ok-take_all.ensures.seen e is
    (seen_none digest n s e c.new-trees.result c.in_ok-roots.roots.items (λ r. c.new-trees.ensures.empty digest r) c.in_ok-roots.ensures.items) in
    let lent = subst (AreSeen digest n s e n c.take_all.new.trees) (sym c.deref.ensures.value) seen in
    pairs_step (pair_over digest shape e) (head_text shape.format shape.f shape.length) _ _ c.loop-shard.shard (c.loop-shard.invariant e is)
    (c.in_ok-append_roots.ensures e (is.coded.size ∙ ap (λ (z : ℕ). n * n * symbol_size shape.f z) c.requires) lent)

pub returns-clause-spelled : goal.returns-clause-spelled
returns-clause-spelled g c =
    λ e is.
    let shape = c.args.shape.now in
    let all : c.loop-shard.shard ≡ shard_count shape.f = omega (arith, c.loop-shard-test.false, c.loop-shard.auto.shard-end, c.n-count.ensures.value) in
    c.loop-shard.invariant e is
    ∙ ap (λ n. head_text shape.format shape.f shape.length ++ flat_map (pair_over g.H.Hash32.digest shape e) (range_with_len 0 n)) all
    ∙ sym (metadata_text-over g.H.Hash32.digest shape e)
