-- A network whose epoch begins to change, or has changed.
use Rattle.wal_world.proofs.Common.{◌≡◌, ℕ, ◌+◌, ◌≤◌, Bool, true, false, cond, ◌&&◌, nat_le, List, [], ◌∷◌, ◌++◌, length, map, Option, Some, refl, sym, ap, ◌∙◌, subst, arith, range_with_len, from_sorted, empty_of_len, entries-from_sorted, len-entries, length-map, Format, Now, Next, id_cmp, committee_size, Log, is_moving, entered, takes_in, Contents, ShardState, room_of, without_dead, First, World, nobody, contents_of, side_of, is_carried_over, next_committee, after_dropping, IsFresh, ledger_of, faulty_on, AreBooks, IsBegun, IsFinished, world_of, contents_in, AreNext, AreShards, IsShardAt, IsNetwork, dropped, shard_with, shards_with, Books, Serving, Network, FinMap, no_entries, IsOrdered}
use Rattle.std.proofs.lemmas.List.{get_or-map}
use Rattle.std.proofs.lemmas.Simd.{map-map}
use Rattle.std.proofs.lemmas.List.FromFn.{get_or-map-range_with_len, length-map-range_with_len, map-range_with_len_more}
use Rattle.wal_ledger.specs.declared.entry.Body.TheVariants as entry
use Rattle.wal_epoch.specs.States.{ServingState}
use Rattle.wal_world.proofs.Shards.{network_from, side_shards}

-- the shards of a committee, made one after the other
pub made_shards : (f : ℕ) (holds : ℕ → Contents) → AreShards f (shards_with f holds)
made_shards f holds = record {
  count = length-map-range_with_len (shard_with f holds) 0 (committee_size f);
  each = λ i d less.
      subst (IsShardAt f i) (sym (get_or-map-range_with_len (shard_with f holds) 0 (committee_size f) i i d less (omega arith)))
      (record { f_is = refl; index_is = refl; limit_is = refl });
}

pub made_contents : (f : ℕ) (holds : ℕ → Contents) → contents_in (shards_with f holds) ≡ map holds (range_with_len 0 (committee_size f))
made_contents f holds = map-map (λ (s : ShardState). s.contents) (shard_with f holds) (range_with_len 0 (committee_size f))

-- shards that dropped what is not live are the same shards, and hold what is left
dropped_shards : (log : Log) (f : ℕ) (xs : List ShardState) → AreShards f xs → AreShards f (map (dropped log) xs)
dropped_shards log f xs are = record {
  count = length-map xs (dropped log) ∙ are.count;
  each = λ i d less.
      let at = are.each i d less in
      let count = are.count in
      rw (get_or-map (dropped log) xs i d d (omega (arith, less, count))) (record { f_is = at.f_is; index_is = at.index_is; limit_is = at.limit_is });
}

dropped_contents : (log : Log) (xs : List ShardState) → contents_in (map (dropped log) xs) ≡ map (without_dead log) (contents_in xs)
dropped_contents log xs = map-map (λ (s : ShardState). s.contents) (dropped log) xs ∙ sym (map-map (without_dead log) (λ (s : ShardState). s.contents) xs)

-- equal parts make equal states
abbrev Answers : Type 0
Answers = FinMap id_cmp First

abbrev state : Format → Log → List ℕ → List Contents → List ℕ → List Contents → Bool → Answers → World
state format log xs now ys next few answers =
    record { format = format; log = log; now = record { faulty = xs; shards = now }; next = record { faulty = ys; shards = next }; few = few; answers = answers }

same_state : {format u : Format} {log l : Log} {xs vs : List ℕ} {now m : List Contents} {ys ws : List ℕ} {next k : List Contents} {few b : Bool} {answers a : Answers}
    → format ≡ u → log ≡ l → xs ≡ vs → now ≡ m → ys ≡ ws → next ≡ k → few ≡ b → answers ≡ a
    → state format log xs now ys next few answers ≡ state u l vs m ws k b a
same_state e0 e1 e2 e3 e4 e5 e6 e7 = cc

-- the epoch begins to change
module _ {H : Type 0} (n m : Network H) (owners faulty stays : List ℕ) where
  abbrev next_holds : ℕ → Contents
  next_holds s = cond (is_carried_over (world_of n) owners faulty stays s) (contents_of (side_of Now (world_of n)) s) no_entries

  pub begun_world : IsBegun n.books owners faulty stays m.books → m.format ≡ n.format → m.sides.serving.shards.items ≡ n.sides.serving.shards.items
      → m.sides.next.shards.items ≡ shards_with (world_of n).log.f next_holds → m.answers.entries ≡ n.answers.entries → m.few ≡ (n.few && nat_le (length faulty) (world_of n).log.f)
      → world_of m ≡ record (world_of n) {
        log = entered (world_of n).log (entry.Begin owners);
        next = next_committee (world_of n) owners faulty stays;
        few = (world_of n).few && nat_le (length faulty) (world_of n).log.f;
      }
  begun_world begun format now next answers few =
      same_state format (ap (λ b. (ledger_of b).log) begun.books) (ap (faulty_on Now) begun.books) (ap contents_in now) (ap (faulty_on Next) begun.books)
      (ap contents_in next ∙ made_contents (world_of n).log.f next_holds) few (ap (λ es. from_sorted es) answers)

  pub begun_network : IsNetwork n → IsBegun n.books owners faulty stays m.books → m.sides.serving.shards.items ≡ n.sides.serving.shards.items
      → m.sides.next.shards.items ≡ shards_with (world_of n).log.f next_holds → m.answers ≡ n.answers → m.work ≡ n.work → m.buffer ≡ n.buffer → IsNetwork m
  begun_network is begun now next answers work buffer =
      let moves : is_moving (takes_in (ledger_of n.books) (entry.Begin owners)).log ≡ true = ap (λ b. is_moving (ledger_of b).log) (sym begun.books) ∙ begun.moving in
      network_from n m is begun.books refl moves (subst (AreShards (ledger_of n.books).log.f) (sym now) is.shards_now)
      (subst (AreShards (ledger_of n.books).log.f) (sym next) (made_shards (world_of n).log.f next_holds)) answers (ap (λ k. k.f) work) buffer

-- the next epoch began
module _ {H : Type 0} (n m : Network H) where
  abbrev after : Log
  after = entered (world_of n).log entry.Finish

  module _ (b : Option Books) (rest : m ≡ record n { books = b; sides = m.sides }) (done : IsFinished n.books b)
      (now : m.sides.serving.shards.items ≡ map (dropped (ledger_of b).log) n.sides.next.shards.items) (next : m.sides.next.shards.items ≡ []) where
    pub world_finished : world_of m ≡ record (world_of n) { log = after; now = after_dropping after (world_of n).next; next = nobody }
    world_finished =
        let log : (ledger_of b).log ≡ after = ap (λ x. (ledger_of x).log) done.books in
        same_state (ap (λ x. x.format) rest) (ap (λ x. (ledger_of x.books).log) rest ∙ log) (ap (λ x. faulty_on Now x.books) rest ∙ ap (faulty_on Now) done.books)
        (ap contents_in now ∙ dropped_contents (ledger_of b).log n.sides.next.shards.items ∙ ap (λ l. map (without_dead l) (contents_in n.sides.next.shards.items)) log)
        (ap (λ x. faulty_on Next x.books) rest ∙ ap (faulty_on Next) done.books) (ap contents_in next) (ap (λ x. x.few) rest) (ap (λ x. from_sorted x.answers.entries) rest)

    pub network_finished : IsNetwork n → is_moving (world_of n).log ≡ true → IsNetwork m
    network_finished is moving =
        let serves : is_moving (takes_in (ledger_of n.books) entry.Finish).log ≡ false = ap (λ x. is_moving (ledger_of x).log) (sym done.books) ∙ done.serving in
        let were : AreShards (ledger_of n.books).log.f n.sides.next.shards.items = side_shards Next n is moving in
        network_from n m is (ap (λ x. x.books) rest ∙ done.books) refl serves
        (subst (AreShards (ledger_of n.books).log.f) (sym now) (dropped_shards (ledger_of b).log (ledger_of n.books).log.f n.sides.next.shards.items were))
        next (ap (λ x. x.answers) rest) (ap (λ x. x.work.f) rest) (ap (λ x. x.buffer) rest)

-- one more shard is made
pub one_more : (f : ℕ) (holds : ℕ → Contents) (k : ℕ) (xs ys : List ShardState) (s : ShardState) → xs ≡ map (shard_with f holds) (range_with_len 0 k) → s ≡ shard_with f holds k
    → ys ≡ xs ++ s ∷ [] → ys ≡ map (shard_with f holds) (range_with_len 0 (k + 1))
one_more f holds k xs ys s e made push =
    push ∙ (ap (λ zs. zs ++ s ∷ []) e ∙ (ap (λ z. map (shard_with f holds) (range_with_len 0 k) ++ z ∷ []) made ∙ sym (map-range_with_len_more (shard_with f holds) 0 k k (omega arith))))

-- no entries are the empty map
abbrev no_answers : Answers
no_answers = from_sorted []

nothing_sorted : no_answers ≡ no_entries
nothing_sorted = empty_of_len no_answers (len-entries no_answers ∙ ap length (entries-from_sorted id_cmp [] tt))

-- a network in which nothing is held or completed
pub fresh : {H : Type 0} (format : Format) (s : ServingState) (few : Bool) (n : Network H) → is_moving s.ledger.log ≡ false → n.books ≡ Some (Serving s) → n.format ≡ format → n.few ≡ few
    → n.sides.serving.shards.items ≡ shards_with s.ledger.log.f (λ k. no_entries) → n.sides.next.shards.items ≡ [] → n.answers.entries ≡ [] → IsOrdered id_cmp n.answers → n.work.f ≡ s.ledger.log.f
    → n.buffer.bytes ≡ [] → n.buffer.spare ≡ room_of s.ledger.log.f → IsFresh format s few n
fresh format s few n serves books formats fews now next answers ordered work bytes spare =
    let f : (ledger_of n.books).log.f ≡ s.ledger.log.f = ap (λ b. (ledger_of b).log.f) books in
    record {
      network = record {
        books = subst (λ b. AreBooks b) (sym books) serves;
        shards_now = subst (λ k. AreShards k n.sides.serving.shards.items) (sym f) (subst (AreShards s.ledger.log.f) (sym now) (made_shards s.ledger.log.f (λ k. no_entries)));
        shards_next = subst (λ b. AreNext b n.sides.next.shards.items) (sym books) next;
        ordered = ordered;
        work = work ∙ sym f;
        empty = bytes;
        room = subst (λ k. room_of k ≤ n.buffer.spare) (sym f) (omega (arith, spare));
      };
      world = same_state formats (ap (λ b. (ledger_of b).log) books) (ap (faulty_on Now) books) (ap contents_in now ∙ made_contents s.ledger.log.f (λ k. no_entries)) (ap (faulty_on Next) books) (ap contents_in next) fews
          (ap (λ es. from_sorted es) answers ∙ nothing_sorted);
      spare = ap (λ b. (ledger_of b).spare) books;
    }
