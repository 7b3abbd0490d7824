-- A zero byte ends a word; another byte is one of it.
use Rattle.walrus_c.proofs.Common.{arith, map, string_bytes}
use Rattle.walrus_c.proofs.Splits.{byte_added, word_added, word_refused}
use Rattle.walrus_c.proofs.words.take_byte.Goals as goal

pub returns-in-Ok-clause-goes_on : goal.returns-in-Ok-clause-goes_on
returns-in-Ok-clause-goes_on c =
    word_added
    (map string_bytes c.args.words.now.items) c.if-byte-eq0.true c.deref.ensures.value
    c.in-Ok.ensures.added c.clear.ensures.items

pub returns-in-Err-clause-refused : goal.returns-in-Err-clause-refused
returns-in-Err-clause-refused c = word_refused c.if-byte-eq0.true c.deref.ensures.value c.in-Err.ensures.refused

pub returns-in-Ok-push-clause-goes_on : goal.returns-in-Ok-push-clause-goes_on
returns-in-Ok-push-clause-goes_on c =
    byte_added c.args.word.now.items (omega (arith, c.if-byte-eq0.false)) c.in-Ok-push.ensures.items
