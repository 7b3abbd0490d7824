use Rattle.wal_commit.proofs.Common.{◌≡◌, ◌*◌, ◌/◌, ℕ, length, refl, sym, ap, ◌∙◌, mul-div_left}
use Rattle.wal_commit.proofs.Columns.{block_leaves}
use Rattle.wal_commit.proofs.LeafTables.{whole_pieces}
use Rattle.wal_commit.proofs.roots.add_block.Goals as goal

pub digest_pieces-requires-clause-whole : goal.digest_pieces-requires-clause-whole
digest_pieces-requires-clause-whole g c =
    whole_pieces (c.args.count * c.args.width) c.args.size c.args.size (length c.args.block.now) c.requires.filled refl c.requires.block

pub digest_pieces-requires-clause-room : goal.digest_pieces-requires-clause-room
digest_pieces-requires-clause-room g c =
    let number : length c.args.block.now / c.args.size ≡ c.args.count * c.args.width =
    ap (λ (k : ℕ). k / c.args.size) c.requires.block ∙ mul-div_left (c.args.count * c.args.width) c.requires.filled in
    c.requires.digests ∙ ap (λ (k : ℕ). k * 32) (sym number)

pub loop-place-preserved : goal.loop-place-preserved
loop-place-preserved g c =
    let a = c.args in
    record {
      rows = c.add_column.ensures.rows;
      seen = λ first e long fits has before.
          c.in_ok-add_column.ensures.seen a.size first e c.requires.filled long fits
          (block_leaves g.H.Hash32.digest a.count a.width a.size a.block.now c.digest_pieces.new.out c.requires.filled c.requires.block c.digest_pieces.ensures e first has)
          (c.loop-place.invariant.seen first e long fits has before);
    }
