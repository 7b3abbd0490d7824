-- Each byte that is taken brings the place one further.
use Rattle.walrus_c.proofs.Common.{◌+◌, drop, arith, ap, map, string_bytes, inr, refl, rules}
use Rattle.walrus_c.proofs.Splits.{at_start, byte_refused, next_byte, none_begun, one_begun}
use Rattle.walrus_c.proofs.words.words_of.Goals as goal

pub bytes-init : goal.bytes-init
bytes-init c = record {
  within = omega arith;
  so_far = at_start c.args.text.now (ap (map string_bytes) c.new-words.ensures.items) c.new-word.ensures.items;
}

pub bytes-preserved : goal.bytes-preserved
bytes-preserved c = record {
  within = omega (arith, c.bytes-test.true);
  so_far = c.in_default.ensures.goes_on (drop (c.bytes.done + 1) c.args.text.now) c.args.text.now
      (next_byte c.args.text.now c.bytes.done c.bytes.invariant.so_far _ c.bytes-test.true);
}

pub returns-in-Err-clause-refused : goal.returns-in-Err-clause-refused
returns-in-Err-clause-refused c =
    byte_refused c.args.text.now c.bytes.done c.bytes.invariant.so_far _ c.bytes-test.true c.in-Err.ensures.refused

pub returns-then-is_empty-clause-words : goal.returns-then-is_empty-clause-words
returns-then-is_empty-clause-words c =
    none_begun c.args.text.now c.bytes.done c.bytes.invariant.so_far c.bytes-test.false (search rules)

pub returns-else-is_empty-clause-refused : goal.returns-else-is_empty-clause-refused
returns-else-is_empty-clause-refused c =
    inr (refl, one_begun c.args.text.now c.bytes.done c.bytes.invariant.so_far c.bytes-test.false (search rules))
