use Rattle.wal_world.proofs.Common.{letters_in, rules, ◌≡◌, ◌∙◌, None}
use Rattle.wal_world.proofs.LetterLaws.{continues_done, continues_more, continues_stop}
use Rattle.wal_world.proofs.WriteSteps.{at_end, letter_next}
use Rattle.wal_world.proofs.network.Network.put_texts.Goals as goal

pub returns-in-Some-clause-puts : goal.returns-in-Some-clause-puts
returns-in-Some-clause-puts g c =
    let next = letter_next c.args.shard c.args.texts.now _ c.as_slice.result.now c.loop-text-test.true (cc (c.as_slice.ensures, c.text-item.is)) in
    continues_stop _ c.loop-text.invariant.rest next (rw c.in-Some.is at c.in_ok-clash.ensures.puts)

pub loop-text-preserved : goal.loop-text-preserved
loop-text-preserved g c =
    let next = letter_next c.args.shard c.args.texts.now _ c.as_slice.result.now c.loop-text-test.true (cc (c.as_slice.ensures, c.text-item.is)) in
    let none : c.in_ok-clash.field-0 ≡ None = search rules in
    record {
      network = c.in_ok-clash.ensures.network;
      books = c.in_ok-clash.ensures.books ∙ c.loop-text.invariant.books;
      rest = continues_more c.loop-text.invariant.rest next (rw none at c.in_ok-clash.ensures.puts);
    }

pub returns-clause-puts : goal.returns-clause-puts
returns-clause-puts g c = continues_done c.loop-text.invariant.rest (at_end (letters_in c.args.shard) c.args.texts.now _ c.loop-text-test.false)
