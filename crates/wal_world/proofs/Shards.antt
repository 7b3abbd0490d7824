-- The shards of a network.
use Rattle.wal_world.proofs.Common.{◌≡◌, ℕ, ◌<◌, ◌≤◌, true, false, List, length, Option, Some, None, refl, sym, ap, ◌∙◌, subst, arith, slice_index_or, Side, Now, Next, committee_size, id_cmp, room_of, is_moving, Contents, ShardState, is_present, side_of, ledger_of, AreBooks, world_of, shards_of, contents_in, AreNext, AreShards, IsShardAt, IsShardOf, IsNetwork, Books, Serving, Moving, members_of, Members, Network, no_entries, IsOrdered}
use Rattle.std.proofs.lemmas.List.{get_or-map}

-- the next committee has its shards while the epoch changes
next_shards : (b : Option Books) (shards : List ShardState) → AreBooks b → AreNext b shards → is_moving (ledger_of b).log ≡ true → AreShards (ledger_of b).log.f shards
next_shards (Some (Moving m)) shards books are moving = are
next_shards (Some (Serving s)) shards books are moving = absurd (let e : false ≡ true = sym books ∙ moving in cc)
next_shards None shards books are moving = absurd books

pub side_shards : {H : Type 0} (side : Side) (n : Network H) → IsNetwork n → is_present side (world_of n) ≡ true → AreShards (ledger_of n.books).log.f (shards_of side n)
side_shards Now n is there = is.shards_now
side_shards Next n is there = next_shards n.books n.sides.next.shards.items is.books is.shards_next there

-- what a place of the list holds
pub contents_at : (shards : List ShardState) (i : ℕ) (s : ShardState) → i < length shards → s ≡ slice_index_or shards i s
    → s.contents ≡ slice_index_or (contents_in shards) i no_entries
contents_at shards i s less at =
    ap (λ (t : ShardState). t.contents) at ∙ sym (get_or-map (λ (t : ShardState). t.contents) shards i s no_entries less)

pub side_contents : {H : Type 0} (side : Side) (n : Network H) → contents_in (shards_of side n) ≡ (side_of side (world_of n)).shards
side_contents Now n = refl
side_contents Next n = refl

-- a shard of a side's committee, by its place in a list that is the side's shards
pub place_below : {H : Type 0} (side : Side) (n : Network H) (shards : List ShardState) (i k : ℕ) → IsNetwork n → is_present side (world_of n) ≡ true
    → shards ≡ shards_of side n → k ≡ i → i < committee_size (ledger_of n.books).log.f → k < length shards
place_below side n shards i k is there e same less =
    let count = (side_shards side n is there).count in
    subst (λ (xs : List ShardState). k < length xs) (sym e) (omega (arith, less, same, count))

-- the shard at this place of the list is the one of this index
pub shard_is : {H : Type 0} (side : Side) (n : Network H) (shards : List ShardState) (i k : ℕ) (s : ShardState) → IsNetwork n → is_present side (world_of n) ≡ true
    → shards ≡ shards_of side n → k ≡ i → i < committee_size (ledger_of n.books).log.f → s ≡ slice_index_or shards k s
    → IsShardOf side n i s
shard_is side n shards i k s is there e same less at =
    let here : s ≡ slice_index_or (shards_of side n) i s = at ∙ ap (λ (xs : List ShardState). slice_index_or xs k s) e ∙ ap (λ (j : ℕ). slice_index_or (shards_of side n) j s) same in
    let are = side_shards side n is there in
    let one : IsShardAt (ledger_of n.books).log.f i s = subst (IsShardAt (ledger_of n.books).log.f i) (sym here) (are.each i s less) in
    let count = are.count in
    record {
      contents = contents_at (shards_of side n) i s (omega (arith, less, count)) here ∙ ap (λ (xs : List Contents). slice_index_or xs i no_entries) (side_contents side n);
      f = one.f_is;
      index = one.index_is;
      limit = one.limit_is;
    }

-- a network of these books that is else as another one
pub network_from : {H : Type 0} (n m : Network H) {b : Option Books} → IsNetwork n → m.books ≡ b → (ledger_of b).log.f ≡ (ledger_of n.books).log.f → AreBooks b
    → AreShards (ledger_of n.books).log.f m.sides.serving.shards.items → AreNext b m.sides.next.shards.items → m.answers ≡ n.answers → m.work.f ≡ n.work.f → m.buffer ≡ n.buffer → IsNetwork m
network_from n m is books same are now next answers work buffer =
    let f : (ledger_of m.books).log.f ≡ (ledger_of n.books).log.f = ap (λ (k : Option Books). (ledger_of k).log.f) books ∙ same in
    record {
      books = subst (λ (k : Option Books). AreBooks k) (sym books) are;
      shards_now = subst (λ k. AreShards k m.sides.serving.shards.items) (sym f) now;
      shards_next = subst (λ (k : Option Books). AreNext k m.sides.next.shards.items) (sym books) next;
      ordered = subst (λ a. IsOrdered id_cmp a) (sym answers) is.ordered;
      work = work ∙ is.work ∙ sym f;
      empty = ap (λ k. k.bytes) buffer ∙ is.empty;
      room = subst (λ k. room_of k ≤ m.buffer.spare) (sym f) (subst (λ k. room_of (ledger_of n.books).log.f ≤ k.spare) (sym buffer) is.room);
    }

-- the shards that the members of a side have
pub lent_shards : {H : Type 0} (side : Side) (n : Network H) (m : Members H) (shards : List ShardState) → shards ≡ m.shards.items → m ≡ members_of side n.sides → shards ≡ shards_of side n
lent_shards side n m shards lent is = lent ∙ ap (λ (x : Members _). x.shards.items) is
