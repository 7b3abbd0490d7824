use Rattle.wal_commit.proofs.Common.{◌≡◌, ◌/◌, ℕ, List, length, vec_len, ap, ◌∙◌, take_at, pieces, root_of}
use Rattle.wal_commit.proofs.Columns.{seen_more}
use Rattle.wal_commit.proofs.roots.add_column.Goals as goal

pub returns-clause-seen : goal.returns-clause-seen
returns-clause-seen g c =
    λ s first e some long fits are before.
    let digest = g.H.Hash32.digest in
    let old = c.args.trees.now in
    let column = c.copy_column.new.into in
    let filled : length column ≡ vec_len c.in_ok-column.column = c.copy_column.auto.into ∙ c.deref_mut.ensures.len in
    let same : c.deref.result.now ≡ column = c.deref.ensures.value ∙ take_at column _ _ filled in
    let pushed = rw (take_at column _ _ filled) at c.in_ok-push.ensures.pushed in
    seen_more digest c.args.count s e first c.args.width c.args.place c.args.digests.now column old c.push.new.self c.args.roots.now.items
    c.extend_from_slice.new.self.items c.root_of_leaves.result some long fits c.requires.place c.requires.digests c.copy_column.ensures
    (c.root_of_leaves.ensures ∙ ap (λ (ys : List ℕ). root_of digest (pieces (length ys / 32) 32 ys)) same)
    c.in_ok-extend_from_slice.ensures.items pushed c.requires.rows are before
