use Rattle.wal_bundle.proofs.Common.{arith}
use Rattle.wal_bundle.proofs.Agreement.{few_columns, member_missing}
use Rattle.wal_bundle.proofs.finding.member_by.Goals as goal

pub overflow_cast-count : goal.overflow_cast-count
overflow_cast-count g c = omega (arith, c.requires.index.index.few, c.column_size-size.ensures.fit.1)

pub overflow_cast-first : goal.overflow_cast-first
overflow_cast-first g c =
    let size = c.column_size-size.ensures in
    let most = few_columns c.args.k size.fit.1 c.requires.index (omega (arith, c.if-k-count.false)) in
    omega (arith, rw size.value at c.first_column-first.ensures, most)

pub overflow_cast-total : goal.overflow_cast-total
overflow_cast-total g c =
    let size = c.column_size-size.ensures in
    let most = few_columns c.args.k size.fit.1 c.requires.index (omega (arith, c.if-k-count.false)) in
    omega (arith, rw (size.value, c.from.ensures) at c.columns_for-total.ensures.value, most)

pub add_columns-requires-clause-last : goal.add_columns-requires-clause-last
add_columns-requires-clause-last g c =
    let size = c.column_size-size.ensures in
    let most = few_columns c.args.k size.fit.1 c.requires.index (omega (arith, c.if-k-count.false)) in
    let first = rw size.value at c.first_column-first.ensures in
    omega (arith, first, rw (size.value, c.from.ensures) at c.columns_for-total.ensures.value, most)

pub returns-in-Some : goal.returns-in-Some
returns-in-Some g c =
    let first = rw c.column_size-size.ensures.value at c.first_column-first.ensures in
    let total = rw (c.column_size-size.ensures.value, c.from.ensures) at c.columns_for-total.ensures.value in
    let miss = rw c.in-Some.is at c.in_ok-j.ensures.missing in
    member_missing c.requires.index (omega (arith, c.if-k-count.false)) first total
    (rw (← c.from-in-Some.ensures) at miss)
