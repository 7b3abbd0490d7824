use Rattle.wal_bundle.proofs.Common.{◌≡◌, ◌∙◌, length, sym, arith, rules, index_text}
use Rattle.wal_bundle.proofs.IndexTexts.{entry_added}
use Rattle.wal_bundle.proofs.Room.{first_column-more, first_column-none, member_within}
use Rattle.wal_bundle.proofs.index.index_text.Goals as goal

pub overflow_cast-first : goal.overflow_cast-first
overflow_cast-first c =
    omega (arith, member_within c.args.size c.args.lengths.now c.loop-length.length-index c.loop-length-test.true)

pub overflow_add-first : goal.overflow_add-first
overflow_add-first c =
    let own = rw c.from.ensures at c.columns_for-first.ensures.value in
    omega (arith, own, member_within c.args.size c.args.lengths.now c.loop-length.length-index c.loop-length-test.true)

pub loop-length-init : goal.loop-length-init
loop-length-init c = record {
  text = search rules;
  first = c.index_columns-first.ensures.value ∙ sym (first_column-none c.args.size c.args.lengths.now);
}

pub loop-length-preserved : goal.loop-length-preserved
loop-length-preserved c =
    let i = c.loop-length.length-index in
    let is = c.loop-length.invariant in
    let own = rw c.from.ensures at c.columns_for-first.ensures.value in
    record {
      text = entry_added c.args.size c.args.lengths.now i _ _ _ is.first is.text (search rules);
      first = omega (arith, own, is.first, first_column-more c.args.size c.args.lengths.now i c.loop-length-test.true);
    }

pub returns : goal.returns
unfolding index_text
returns c =
    let end : c.loop-length.length-index ≡ length c.args.lengths.now = omega arith in
    rw end at c.loop-length.invariant.text
