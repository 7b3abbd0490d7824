use Rattle.wal_store.proofs.Common.{sym, arith, refl, Taken}
use Rattle.wal_store.proofs.TokenLaws.{token_within, token_read, token_changed, written}
use Rattle.wal_store.proofs.shelf.Shelf.take.Goals as goal

pub index_mut-requires : goal.index_mut-requires
index_mut-requires c =
    let free = rw (sym c.number-number.ensures) at c.in-Ok.ensures.found in
    omega (arith, c.self.inside.tokens.ok.0, token_within _ _ _ _ _ c.self.invariant.0 refl free)

pub unreachable-requires-in-Some : goal.unreachable-requires-in-Some
unreachable-requires-in-Some c =
    let free = rw (sym c.number-number.ensures) at c.in-Ok.ensures.found in
    let token = token_read _ _ _ _ _ _ c.self.invariant.0 refl free c.index_mut.ensures.value in
    cc (token, c.replace.ensures.value, c.in-Some.is)

pub invariant_of-self : goal.invariant_of-self
invariant_of-self c =
    let same = sym c.number-number.ensures in
    let w = written 4096 _ _ _ _ _ (rw same at c.in-Ok.ensures.found) (rw same at c.in-Ok.ensures.taken)
    (rw same at c.in-Ok.ensures.size) (rw same at c.write.ensures.written) c.requires.room in
    let tokens = token_changed _ _ _ _ (Taken _) c.self.invariant.0 w.now in
    (cc (c.replace.ensures.after, same, tokens), c.write.ensures.whole)

pub returns : goal.returns
returns c =
    let same = sym c.number-number.ensures in
    let w = written 4096 _ _ _ _ _ (rw same at c.in-Ok.ensures.found) (rw same at c.in-Ok.ensures.taken)
    (rw same at c.in-Ok.ensures.size) (rw same at c.write.ensures.written) c.requires.room in
    record {
      free = cc (c.self.view_is, same, c.in-Ok.ensures.found);
      taken = cc (w.now, c.self.view_is);
      front = w.front;
      size = w.long;
      whole = c.write.ensures.whole;
    }
