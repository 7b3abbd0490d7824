-- One shard of a network changes what it holds: what the network is then.
use Rattle.wal_world.proofs.Common.{⊎_elim, ◌≡◌, ℕ, ◌<◌, List, length, slice_set, slice_index_or, true, false, Option, Some, None, Result, Ok, Err, OnOk, OnErr, ◌⊎◌, refl, sym, ap, ◌∙◌, subst, arith, cases_eq, map-set, length-set, set-get_or, get_or-set_other, BlobId, Side, Now, Next, among, committee_size, Log, LedgerState, is_moving, Contents, ShardState, MayForget, without_slivers, Books, Serving, Moving, Members, Network, World, side_of, is_present, is_correct, contents_of, with_contents, keeps, ledger_of, AreBooks, IsNetwork, IsShardAt, AreShards, AreNext, contents_in, shards_of, world_of, members_of, with_members, LetsGo, Places, contents_at, placed, opposite, no_entries, with_held}
use Rattle.std.proofs.lemmas.Grind.{get_or-set_at}
use Rattle.wal_shard.specs.declared.answers.Declined.{Declined}
use Rattle.wal_world.proofs.Shards.{network_from, side_shards}
use Rattle.wal_world.proofs.Shards as shards

contents_placed : (f : ℕ) (shards : List ShardState) (place : ℕ) (contents : Contents) → contents_in (placed f shards place contents) ≡ slice_set (contents_in shards) place contents
contents_placed f shards place contents = map-set (λ (s : ShardState). s.contents) shards place (record { f = f; index = place; contents = contents; limit = None })

pub are_placed : (f : ℕ) (shards : List ShardState) (place : ℕ) (contents : Contents) → AreShards f shards → AreShards f (placed f shards place contents)
are_placed f shards place contents h =
    let put : ShardState = record { f = f; index = place; contents = contents; limit = None } in
    let count = h.count in
    record {
      count = length-set shards place put ∙ count;
      each = λ i d lt. ⊎_elim
          (λ e. rw (get_or-set_at shards place i put d e (omega (arith, e, lt, count))) (record { f_is = refl; index_is = sym e; limit_is = refl }))
          (λ ne. rw (get_or-set_other shards place i put d ne) (h.each i d lt))
          (cases_eq i place);
    }

next_is : (b : Option Books) (shards : List ShardState) → AreBooks b → is_moving (ledger_of b).log ≡ true → AreShards (ledger_of b).log.f shards → AreNext b shards
next_is (Some (Serving s)) shards books moving h = cc
next_is (Some (Moving m)) shards books moving h = h
next_is None shards books moving h = absurd books

pub places_world : {H : Type 0} (side : Side) (old new : Network H) (shard : ℕ) (contents : Contents) → Places side old shard contents new
    → world_of new ≡ keeps (world_of old) side shard contents
unfolding with_contents
places_world Now old new shard contents p =
    let here = ap contents_in p.shards ∙ contents_placed (ledger_of old.books).log.f old.sides.serving.shards.items shard contents in
    cc (p.format, p.books, p.few, p.answers, ap contents_in p.others, here)
places_world Next old new shard contents p =
    let here = ap contents_in p.shards ∙ contents_placed (ledger_of old.books).log.f old.sides.next.shards.items shard contents in
    cc (p.format, p.books, p.few, p.answers, ap contents_in p.others, here)

pub places_network : {H : Type 0} (side : Side) (old new : Network H) (shard : ℕ) (contents : Contents) → Places side old shard contents new
    → IsNetwork old → is_present side (world_of old) ≡ true → IsNetwork new
places_network Now old new shard contents p w present =
    let f = (ledger_of old.books).log.f in
    network_from old new w p.books refl w.books (subst (AreShards f) (sym p.shards) (are_placed f old.sides.serving.shards.items shard contents w.shards_now))
    (subst (AreNext old.books) (sym p.others) w.shards_next) p.answers p.work p.buffer
places_network Next old new shard contents p w present =
    let f = (ledger_of old.books).log.f in
    let next : AreShards f new.sides.next.shards.items = subst (AreShards f) (sym p.shards) (are_placed f old.sides.next.shards.items shard contents (side_shards Next old w present)) in
    network_from old new w p.books refl w.books (subst (AreShards f) (sym p.others) w.shards_now) (next_is old.books _ w.books present next) p.answers p.work p.buffer

-- what is held already changes nothing
pub keeps_same : (side : Side) (w : World) (shard : ℕ) → keeps w side shard (contents_of (side_of side w) shard) ≡ w
unfolding with_contents
keeps_same Now w shard = ap (λ (l : List Contents). record w { now = record w.now { shards = l } }) (set-get_or w.now.shards shard no_entries)
keeps_same Next w shard = ap (λ (l : List Contents). record w { next = record w.next { shards = l } }) (set-get_or w.next.shards shard no_entries)

-- a shard of the list, and what it holds
pub shard_at : {f : ℕ} {list : List ShardState} {place k : ℕ} {old : ShardState} → AreShards f list → place < length list → k ≡ place → old ≡ slice_index_or list k old
    → IsShardAt f place old × (contents_at list place ≡ old.contents)
shard_at {f} {list} {place} {k} {old} are less same is =
    let here : old ≡ slice_index_or list place old = rw same at is in
    (rw here (are.each place old (rw are.count at less)), sym (shards.contents_at list place old less here))

-- a shard of the list that changed what it holds is put where it was
pub placed_by : {f : ℕ} {list : List ShardState} {place k : ℕ} {old new : ShardState} → AreShards f list → place < length list → k ≡ place → old ≡ slice_index_or list k old
    → new ≡ with_held old new.contents → slice_set list k new ≡ placed f list place new.contents
placed_by {f} {list} {place} {k} {old} {new} are less same is kept =
    let own = (shard_at are less same is).0 in
    let whole : new ≡ record { f = f; index = place; contents = new.contents; limit = None } = cc (kept, own.f_is, own.index_is, own.limit_is) in
    rw (same, whole)

-- a change of the shards of a side as a change of the network
pub placed_at : {H : Type 0} (at : Side) (old new : Network H) {was : Members H} (m : Members H) (shard : ℕ) {ledger : LedgerState} (P : Log → Contents → Contents → Type 0)
    → was ≡ members_of at old.sides → ledger ≡ ledger_of old.books → new ≡ record old { sides = with_members at old.sides m; work = new.work } → new.work.f ≡ old.work.f
    → (x : Contents) × P ledger.log (contents_at was.shards.items shard) x × (m.shards.items ≡ placed ledger.log.f was.shards.items shard x)
    → (x : Contents) × P (world_of old).log (contents_of (side_of at (world_of old)) shard) x × Places at old shard x new
placed_at at old new m shard P lent same made work did =
    let h = rw (same, lent) at did in (
      h.0,
      rw (holds at) at h.1,
      record {
        format = rw made;
        books = rw made;
        few = rw made;
        answers = rw made;
        buffer = rw made;
        work = work;
        shards = rw made (own at ∙ h.2);
        others = rw made (other at);
      },
    )
  where
    holds : (s : Side) → contents_at (shards_of s old) shard ≡ contents_of (side_of s (world_of old)) shard
    holds s = grind arith

    own : (s : Side) → (members_of s (with_members s old.sides m)).shards.items ≡ m.shards.items
    own s = grind arith

    other : (s : Side) → (members_of (opposite s) (with_members s old.sides m)).shards.items ≡ shards_of (opposite s) old
    other s = grind arith

-- the shards of a side that is there are those of a committee
pub members_are : {H : Type 0} (at : Side) {n : Network H} {m : Members H} {f : ℕ} → m ≡ members_of at n.sides → f ≡ (ledger_of n.books).log.f → IsNetwork n → is_present at (world_of n) ≡ true
    → AreShards f m.shards.items
members_are at lent same is there = rw (same, lent) (side_shards at _ is there)

pub members_reach : {H : Type 0} (at : Side) {n : Network H} {m : Members H} {shard : ℕ} → m ≡ members_of at n.sides → IsNetwork n → is_present at (world_of n) ≡ true
    → shard < committee_size (world_of n).log.f → shard < length m.shards.items
members_reach at lent is there less = rw (members_are at lent refl is there).count less

-- a shard that is there and not faulty is correct
pub correct_is : (side : Side) (w : World) (shard : ℕ) → is_present side w ≡ true → among (side_of side w).faulty shard ≡ false → is_correct side w shard ≡ true
correct_is side w shard there fine = grind arith

-- what a shard's answer to forgetting says of what it holds
pub lets_go : (log : Log) {old new : ShardState} {m : Contents} (id : BlobId) (result : Result (Unit {0}) Declined) → m ≡ old.contents
    → OnOk result (MayForget log old.contents id) → OnOk result (new ≡ with_held old (without_slivers old.contents id))
    → OnErr result (MayForget log old.contents id → ⊥) → OnErr result (new ≡ old)
    → LetsGo log m id result new.contents × (new ≡ with_held old new.contents)
lets_go log id (Ok done) same may gone declined stays = ((rw same may, rw (same, gone)), rw gone)
lets_go log id (Err e) same may gone declined stays = (((λ h. declined (rw same at h)), rw (same, stays)), rw stays)
