use Rattle.wal_store.proofs.Common.{◌≡◌, ◌∙◌, ℕ, List, ◌+◌, ◌-◌, ◌<◌, min, length, take, drop, arith, length-take, length-drop, page_bytes, links, joined}
use Rattle.wal_store.proofs.ChainLaws.{walking_more, reading_more, reading_first, pasted}
use Rattle.wal_store.proofs.stored.read.Goals as goal

pub loop-preserved : goal.loop-preserved
loop-preserved c =
    let next = c.after-page.ensures in
    rw next.next (walking_more _ 4096 _ _ _ _ _ c.loop.invariant (omega arith) next.size (omega arith))

pub bytes-requires : goal.bytes-requires
bytes-requires c = reading_first _ 4096 _ _ _ _ _ _ c.loop-done.invariant.0 (omega (arith, c.loop-done.invariant.2))

pub loop-done-preserved : goal.loop-done-preserved
loop-done-preserved c =
    let l = c.args.chains.now in let total = length c.args.out.now in
    let want : List ℕ = take total (drop c.args.at (joined l.states (links l.next c.args.count c.args.first))) in
    let done = c.loop-done.done in let offset = c.loop-done.offset in let n = c.min-size.result in
    let long : length (page_bytes l.states c.loop-done.page) ≡ 4096 = cc (c.bytes.ensures.held, c.bytes.ensures.size) in
    let least : n ≡ min (4096 - offset) (total - done) = omega (arith, c.min-size.ensures, c.loop-done.invariant.2) in
    let more : done < total = omega (arith, c.loop-done.invariant.2) in
    let r = reading_more l 4096 want total done offset _ _ n c.loop-done.invariant.0 (omega arith) long least more in
    let part : List ℕ = take (offset + n - offset) (drop offset c.bytes.result.now) in
    let cut : offset + n - offset ≡ n = omega arith in
    let is : part ≡ take n (drop done want) = cc (cut, c.bytes.ensures.held, r.piece) in
    let size : length part ≡ n = omega (arith, length-take (offset + n - offset) (drop offset c.bytes.result.now), length-drop offset c.bytes.result.now, c.bytes.ensures.size, least) in (
      rw c.after-page-in-loop-done.ensures.next r.next,
      omega (arith, least),
      c.paste.ensures.size ∙ c.loop-done.invariant.2,
      pasted _ _ part want done n size c.paste.ensures.written c.loop-done.invariant.3 is,
    )
