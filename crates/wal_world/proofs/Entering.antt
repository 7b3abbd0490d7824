-- A network once something was entered in its ledger.
use Rattle.wal_world.proofs.Common.{◌≡◌, ◌<◌, length, length-append, [], ◌∷◌, List, Option, Some, None, refl, sym, ap, ◌∙◌, subst, ◌+◌, arith, Side, Now, Next, Log, LedgerState, takes_in, writing, ShardState, World, ledger_of, faulty_on, AreBooks, books_with, world_of, AreNext, AreShards, IsNetwork, Books, Serving, Moving, Network}
use Rattle.wal_ledger.specs.declared.entry.Body.{Body}
use Rattle.wal_ledger.specs.Kept.{SameEpoch}
use Rattle.wal_world.proofs.Shards.{network_from}

entered_books : (b : Option Books) (l : LedgerState) (shards : List ShardState) → AreBooks b → SameEpoch (ledger_of b).log l.log → AreNext b shards
    → AreBooks (books_with b l) × AreNext (books_with b l) shards
entered_books (Some (Serving s)) l shards books same next = (same.moving ∙ books, next)
entered_books (Some (Moving m)) l shards books same next = (same.moving ∙ books, subst (λ f. AreShards f shards) (sym same.f) next)
entered_books None l shards books same next = absurd books

faulty_entered : (side : Side) (b : Option Books) (l : LedgerState) → faulty_on side (books_with b l) ≡ faulty_on side b
faulty_entered Now (Some (Serving s)) l = refl
faulty_entered Next (Some (Moving m)) l = refl
faulty_entered side b l = refl

pub entered_is : {H : Type 0} (n : Network H) (b : Option Books) → IsNetwork n → SameEpoch (ledger_of n.books).log (ledger_of b).log → b ≡ books_with n.books (ledger_of b)
    → IsNetwork (record n { books = b })
entered_is n b is same rest =
    let h = entered_books n.books (ledger_of b) n.sides.next.shards.items is.books same is.shards_next in
    network_from n (record n { books = b }) is rest (ap (λ (x : Option Books). (ledger_of x).log.f) (sym rest) ∙ same.f) h.0 is.shards_now h.1 refl refl refl

pub entered_world : {H : Type 0} (n : Network H) (b : Option Books) → b ≡ books_with n.books (ledger_of b)
    → world_of (record n { books = b }) ≡ record (world_of n) { log = (ledger_of b).log }
entered_world n b rest =
    let now : faulty_on Now b ≡ faulty_on Now n.books = ap (faulty_on Now) rest ∙ faulty_entered Now n.books (ledger_of b) in
    let next : faulty_on Next b ≡ faulty_on Next n.books = ap (faulty_on Next) rest ∙ faulty_entered Next n.books (ledger_of b) in
    cc

-- an entry takes the room that it needs
pub room_taken : (old new : LedgerState) (body : Body) → new ≡ takes_in old body → 0 < old.spare → new.spare + length new.log.entries ≡ old.spare + length old.log.entries
room_taken old new body enters room =
    let longer = length-append old.log.entries (record { epoch = writing old.log; body = body } ∷ []) in
    ap (λ (l : LedgerState). l.spare + length l.log.entries) enters ∙ omega (arith, longer, room)

-- where the ledger is the same, so is the world
pub same_world : (w v : World) (log : Log) → v ≡ record w { log = log } → log ≡ w.log → v ≡ w
same_world w v log e same = e ∙ ap (λ x. record w { log = x }) same
