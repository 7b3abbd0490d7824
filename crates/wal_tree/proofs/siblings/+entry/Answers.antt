-- An entry past the end, a leaf, and a parent.
use Rattle.wal_tree.proofs.Common.{◌-◌, ◌/◌, length, arith, ◌∙◌}
use Rattle.wal_tree.proofs.Paths.{entry-leaf, entry-node, entry-past}
use Rattle.wal_tree.proofs.siblings.+entry.Goals as goal

pub returns-then-index-width_above : goal.returns-then-index-width_above
returns-then-index-width_above g t c =
    let a = c.args in
    entry-past g.H.Hash32.digest a.level (length a.content.now / a.size) a.size a.index a.content.now c.width_above.result c.width_above.ensures.exact (omega arith)

pub returns-then-level-eq0 : goal.returns-then-level-eq0
returns-then-level-eq0 g t c =
    let a = c.args in
    c.leaf_digest.ensures
    ∙ entry-leaf g.H.Hash32.digest a.level (length a.content.now / a.size) a.size a.index c.width_above.result a.content.now (omega arith) c.width_above.ensures.exact (omega arith)

pub returns : goal.returns
returns g t c =
    let a = c.args in
    c.join.ensures
    ∙ entry-node g.H.Hash32.digest a.level (length a.content.now / a.size) a.size a.index a.content.now c.width_above.result (a.level - 1) c.entry-left.result c.entry-right.result c.width_above.ensures.exact (omega arith) (omega arith) c.entry-left.ensures c.entry-right.ensures
