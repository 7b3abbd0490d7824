use Rattle.wal_bundle.proofs.Common.{◌*◌, ◌≤◌, length, ap, arith, metadata_shown, symbol_size-least, of_many}
use Rattle.wal_bundle.proofs.Agreement.{count_kept, index_found, index_missing, no_index, first_alone}
use Rattle.wal_bundle.proofs.Truths.{column_held, one_column}
use Rattle.wal_bundle.proofs.Room.{index_some}
use Rattle.wal_bundle.proofs.reading.index_behind.Goals as goal

pub count_in-count-requires : goal.count_in-count-requires
count_in-count-requires g c =
    let size = c.column_size-size.ensures in
    let held = column_held g.H.Hash32.digest c.args.id.now.0 (metadata_shown c.args.m) size.fit c.args.payloads.now 0 _
    c.requires.first in
    omega (arith, held.size, size.some, size.value, ap length c.deref.ensures.value)

pub returns-then-from-f-clause-told : goal.returns-then-from-f-clause-told
returns-then-from-f-clause-told g c =
    let count_is = rw c.deref.ensures.value at c.count_in-count.ensures in
    of_many c.args.columns.items c.requires.first
    (omega (arith, count_is, c.if-from-f.true, c.from.ensures, c.f.ensures.value))

pub add_columns-requires-clause-order : goal.add_columns-requires-clause-order
add_columns-requires-clause-order g c =
    let some = c.column_size-size.ensures.some in
    omega (arith, c.index_columns-total.ensures.value, index_some c.column_size-size.result c.from-2.result (omega arith))

pub add_columns-requires-clause-columns : goal.add_columns-requires-clause-columns
add_columns-requires-clause-columns g c =
    first_alone _ _ c.args.columns.items c.requires.first (column_held g.H.Hash32.digest c.args.id.now.0
    (metadata_shown c.args.m) c.column_size-size.ensures.fit c.args.payloads.now 0 _ c.requires.first).size

pub returns-in-Some-clause-told : goal.returns-in-Some-clause-told
returns-in-Some-clause-told g c =
    index_missing c.args.columns.items (rw (c.in-Some.is, ← c.from-in-Some.ensures) at c.in_ok-j.ensures.missing)
    (rw c.deref.ensures.value at c.count_in-count.ensures)
    (omega (arith, c.if-from-f.false, c.from.ensures, c.f.ensures.value))
    (rw (c.column_size-size.ensures.value, c.from-2.ensures) at c.index_columns-total.ensures.value) c.requires.first

pub settle_index-requires : goal.settle_index-requires
settle_index-requires g c =
    let m = metadata_shown c.args.m in
    let one = one_column g.H.Hash32.digest c.args.id.now.0 m c.column_size-size.ensures.fit c.args.payloads.now in
    let count_is = rw c.deref.ensures.value at c.count_in-count.ensures in
    let few : c.count_in-count.result ≤ 2 * m.f = omega (arith, c.if-from-f.false, c.from.ensures, c.f.ensures.value) in
    let total_is = rw (c.column_size-size.ensures.value, c.from-2.ensures) at c.index_columns-total.ensures.value in
    let kept = count_kept m.f _ c.args.columns.items one (symbol_size-least m.f m.length).positive
    (rw c.in-None.is at c.in_ok-j.ensures.there) count_is total_is c.requires.first in
    let lent = c.deref-in-None.ensures.value in
    record { few = rw (lent, ← kept.0) few; long = rw (lent, ← kept.0) kept.1 }

pub returns-in-Some-2-clause-told : goal.returns-in-Some-2-clause-told
returns-in-Some-2-clause-told g c =
    let m = metadata_shown c.args.m in
    let one = one_column g.H.Hash32.digest c.args.id.now.0 m c.column_size-size.ensures.fit c.args.payloads.now in
    let count_is = rw c.deref.ensures.value at c.count_in-count.ensures in
    let total_is = rw (c.column_size-size.ensures.value, c.from-2.ensures) at c.index_columns-total.ensures.value in
    let are = rw c.in-None.is at c.in_ok-j.ensures.there in
    let kept = count_kept m.f _ c.args.columns.items one (symbol_size-least m.f m.length).positive are count_is total_is
    c.requires.first in
    index_found c.column_size-size.ensures.fit.1 are kept.0 total_is
    (rw (c.in-Some-2.is, c.deref-in-None.ensures.value) at c.in_ok-lengths-in-None.ensures.some)

pub returns-clause-told : goal.returns-clause-told
returns-clause-told g c =
    no_index c.args.columns.items (rw c.in-None.is at c.in_ok-j.ensures.there)
    (rw c.deref.ensures.value at c.count_in-count.ensures)
    (omega (arith, c.if-from-f.false, c.from.ensures, c.f.ensures.value))
    (rw (c.column_size-size.ensures.value, c.from-2.ensures) at c.index_columns-total.ensures.value) c.requires.first
    (rw (c.in-None-2.is, c.deref-in-None.ensures.value) at c.in_ok-lengths-in-None.ensures.none)
