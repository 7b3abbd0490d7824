-- One request more is answered, a line is not written whole, a collision stops, memory runs out, or no request is left.
use Rattle.wal_run.proofs.Common.{arith, Keeps-refl, rose_since}
use Rattle.wal_run.proofs.Fetches.{ends, ends_piece, fetched_more, fetched_none, no_asked, no_memory, stops}
use Rattle.wal_run.proofs.fetch.put_answers.Goals as goal

pub loop-asked-init : goal.loop-asked-init
loop-asked-init g c = record {
  few = c.requires.few;
  whole = c.requires.stream;
  later = omega arith;
  so = λ capacity empty payloads is. fetched_none g.H.Hash32.digest capacity payloads c.args.gateway.now c.args.stream.now _ is empty;
}

pub returns-in-Err-put_answer-clause-does : goal.returns-in-Err-put_answer-clause-does
returns-in-Err-put_answer-clause-does g c = λ capacity empty payloads is.
    let so = c.loop-asked.invariant.so capacity empty payloads is in
    let next = c.in-Some.ensures.some so.later so.stream in
    rw c.status_of.ensures (ends_piece _ _ _ _ _ _ _ so _ next _ _ (c.in-Ok.ensures next.replies next.sent).0 _ _ _ (rose_since _ _ _ c.loop-asked.invariant.later) c.in-Err-put_answer.error
    c.in-Err-put_answer.ensures.puts)

pub returns-then-is_clash-clause-does : goal.returns-then-is_clash-clause-does
returns-then-is_clash-clause-does g c = λ capacity empty payloads is.
    let so = c.loop-asked.invariant.so capacity empty payloads is in
    let next = c.in-Some.ensures.some so.later so.stream in
    let put = c.in_default-put_answer.ensures.puts in
    stops _ _ _ _ _ _ _ so _ next _ _ (c.in-Ok.ensures next.replies next.sent).0 _ _ put.0 (rw c.is_clash.ensures at c.if-is_clash.true) put.1 put.2

pub returns-in-Err-clause-does : goal.returns-in-Err-clause-does
returns-in-Err-clause-does g c = λ capacity empty payloads is.
    let so = c.loop-asked.invariant.so capacity empty payloads is in
    no_memory _ _ _ _ _ _ _ so _ (c.in-Some.ensures.some so.later so.stream) _ _ (Keeps-refl _)

pub loop-asked-preserved : goal.loop-asked-preserved
loop-asked-preserved g c =
    let put = c.in_default-put_answer.ensures.puts in
    let whole = c.loop-asked.invariant.whole in
    let behind = c.in-Some.ensures.some whole.0 whole.1 in
    record {
      few = omega (arith, c.in-Some.ensures.shorter, c.loop-asked.invariant.few);
      whole = (behind.later, behind.rest);
      later = omega (arith, c.loop-asked.invariant.later, c.put_answer.ensures.later);
      so = λ capacity empty payloads is.
          let so = c.loop-asked.invariant.so capacity empty payloads is in
          let next = c.in-Some.ensures.some so.later so.stream in
          fetched_more _ _ _ _ _ _ _ so _ next _ _ (c.in-Ok.ensures next.replies next.sent).0 _ put.0 (rw c.is_clash.ensures at c.if-is_clash.false) put.1 put.2;
    }

pub returns-clause-does : goal.returns-clause-does
returns-clause-does g c = λ capacity empty payloads is.
    let so = c.loop-asked.invariant.so capacity empty payloads is in
    ends _ _ _ _ _ _ _ _ so (c.first_request.ensures.none (no_asked c.first_request.result c.in_default.not-Some) so.later so.stream)
