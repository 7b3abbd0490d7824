use Rattle.wal_bundle.proofs.Common.{length, ap, sym, ◌∙◌, arith, false≢true, metadata_shown}
use Rattle.wal_bundle.proofs.Truths.{twice_half, cells_small}
use Rattle.wal_bundle.proofs.IndexTexts.{lengths_read, spelled_count}
use Rattle.wal_bundle.proofs.reading.settle_index.Goals as goal

pub is_index-requires-clause-members : goal.is_index-requires-clause-members
is_index-requires-clause-members c =
    let count = spelled_count _ (rw c.count_in.ensures at c.in_ok-lengths.ensures) in
    omega (arith, ap length c.deref.ensures.value, count, c.requires.few, c.shape.ensures.metadata.shape.1)

pub is_index-requires-clause-long : goal.is_index-requires-clause-long
is_index-requires-clause-long c =
    let count = spelled_count _ (rw c.count_in.ensures at c.in_ok-lengths.ensures) in
    omega (arith, ap length c.deref.ensures.value, count, c.requires.long)

pub returns-then-branch-clause-some : goal.returns-then-branch-clause-some
returns-then-branch-clause-some c =
    let m = metadata_shown c.args.m in
    let size = rw c.shape.ensures.value at c.symbol_size.ensures.value in
    let half = twice_half c.from-half.result m.f m.length (c.from-half.ensures ∙ size) in
    let read = rw c.count_in.ensures at c.in_ok-lengths.ensures in
    let tested = rw (c.f.ensures.value, half, c.deref.ensures.value) at (c.in_ok-is_index.ensures.0 c.if-branch.true) in
    record { few = omega (arith, spelled_count _ read, c.requires.few); size = tested.0; text = tested.1 }

pub returns-else-branch-clause-none : goal.returns-else-branch-clause-none
returns-else-branch-clause-none c = λ lengths is.
    let m = metadata_shown c.args.m in
    let fit = c.shape.ensures.metadata.shape in
    let size = rw c.shape.ensures.value at c.symbol_size.ensures.value in
    let half = twice_half c.from-half.result m.f m.length (c.from-half.ensures ∙ size) in
    let read = rw c.count_in.ensures at c.in_ok-lengths.ensures in
    let own = lengths_read m.f _ c.args.columns.now lengths fit.1 (cells_small m.f m.length fit) is in
    false≢true (sym c.if-branch.false
    ∙ c.in_ok-is_index.ensures.1 (rw (c.f.ensures.value, half, c.deref.ensures.value, read, own) (is.size, is.text)))
