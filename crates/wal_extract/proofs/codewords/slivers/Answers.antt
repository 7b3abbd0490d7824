-- The size of a symbol is the one that the slivers have, and their codewords those that have one root.
use Rattle.wal_extract.proofs.Common.{◌≡◌, ◌*◌, ◌∙◌, length, arith, rules, IfOk-weaker, shard_count, some, within}
use Rattle.wal_extract.proofs.OneRoot.{one_root, words_apart}
use Rattle.wal_extract.proofs.Sizes.{size_short, whole}
use Rattle.wal_extract.proofs.codewords.slivers.Goals as goal

pub symbol_bytes-size-requires-clause-whole : goal.symbol_bytes-size-requires-clause-whole
symbol_bytes-size-requires-clause-whole g c =
    let one = c.requires.one in (one.size, size_short c.args.f one.size c.requires.some c.requires.few one.most, one.long_a)

pub codeword_of-requires : goal.codeword_of-requires
codeword_of-requires g c =
    let one = c.requires.one in
    let same = c.symbol_bytes-size.ensures one.size one.long_a in
    let f = c.in_ok-work.ensures.f in
    record { even = rw same one.even; least = rw same one.least; most = search rules; long = rw (f, same) one.long_a }

pub codeword_of-requires-2 : goal.codeword_of-requires-2
codeword_of-requires-2 g c =
    let one = c.requires.one in
    let same = c.symbol_bytes-size.ensures one.size one.long_a in
    let f = c.codeword_of.ensures.f ∙ c.in_ok-work.ensures.f in
    record { even = rw same one.even; least = rw same one.least; most = search rules; long = rw (f, same) one.long_b }

pub collide_lists-requires : goal.collide_lists-requires
collide_lists-requires g c =
    let one = c.requires.one in
    let n = shard_count c.in_ok-work.work.f in
    let same = c.symbol_bytes-size.ensures one.size one.long_a in
    let f = c.in_ok-work.ensures.f in
    let kept = c.codeword_of.ensures.f in
    let left = c.in_ok-left.ensures in
    let right = c.in_ok-right.ensures in
    let lent = c.deref.ensures.value in
    let other = c.deref-2.ensures.value in
    let long : length c.deref.result.now ≡ n * c.symbol_bytes-size.result = rw lent left.word.coded.size in
    record {
      piece = omega (arith, same, one.least);
      whole = whole n _ _ long;
      some = some n _ _ (omega arith) long;
      within = within n _ _ (omega (arith, f, c.requires.few)) long;
      long = rw (other, long, ← kept) right.word.coded.size;
      one = rw (lent, other) (one_root _ _ _ _ _ _ _ _ _ _ one f (kept ∙ f) same left.only right.only);
      differ = rw (lent, other) (words_apart _ _ _ _ _ _ _ _ _ c.requires.differ f (kept ∙ f) left.word right.word);
    }

pub returns-clause-texts : goal.returns-clause-texts
returns-clause-texts g c =
    let f = c.in_ok-work.ensures.f in
    let left = rw f at c.in_ok-left.ensures.word in
    let right = rw (c.codeword_of.ensures.f, f) at c.in_ok-right.ensures.word in
    IfOk-weaker c.collide_lists.result _ _
    (λ t meet. (_, _, _, left, right, rw (c.deref.ensures.value, c.deref-2.ensures.value) at meet))
    c.collide_lists.ensures.texts
