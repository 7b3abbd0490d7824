use Rattle.wal_matrix.proofs.Common.{◌≡◌, ◌+◌, ◌*◌, ◌<◌, ℕ, List, length, drop, vec_len, ap, subst, sym, arith, ◌∙◌, shard_count, row_count, column_count, IsRowFrom, length-append, length-drop}
use Rattle.wal_matrix.proofs.FrontLaws.{KeptRows, kept_more}
use Rattle.wal_matrix.proofs.front.redundant_rows.Goals as goal

pub loop-index-preserved : goal.loop-index-preserved
loop-index-preserved c =
    let f = c.args.f in
    let size = c.args.size in
    let index = c.loop-index.index in
    let old = c.loop-index.kept.items in
    let row = c.deref.result.now in
    let below : index < row_count f = omega (arith, c.loop-index-test.true, c.loop-index.auto.index-end) in
    let none : vec_len c.clear.new.self ≡ 0 = c.clear.ensures.len in
    let whole : drop (vec_len c.clear.new.self) c.add_row.new.cells.items ≡ row =
    ap (λ (k : ℕ). drop k c.add_row.new.cells.items) none ∙ sym c.deref.ensures.value in
    let long : length row ≡ shard_count f * size = omega (arith, c.deref.ensures.len, c.in_ok-add_row.ensures.long, none) in
    let from = subst (λ (ys : List ℕ). IsRowFrom (column_count f) (shard_count f) size c.args.bytes.now (index * (column_count f * size)) ys) whole c.in_ok-add_row.ensures.row in
    let is = c.in_ok-keep_row.ensures.kept in
    record {
      long = ap length is ∙ simp (length-append, length-drop) (omega (arith, long, c.loop-index.invariant.long));
      kept = subst (KeptRows f size c.args.bytes.now (index + 1)) (sym is)
          (kept_more f size index c.args.bytes.now old row c.requires.few c.requires.even c.requires.size below c.loop-index.invariant.long
          (λ i. c.keep_row.ensures.bytes i) long from c.loop-index.invariant.kept);
    }

pub returns : goal.returns
returns c =
    let f = c.args.f in
    let all : c.loop-index.index ≡ row_count f = omega (arith, c.loop-index-test.false, c.loop-index.auto.index-end) in
    record {
      long = c.loop-index.invariant.long ∙ ap (λ (z : ℕ). z * (f * c.args.size)) all ∙ omega arith;
      symbols = λ e is r k hr hk. c.loop-index.invariant.kept e is r k (omega (arith, all)) hk;
    }
