-- A shard that serves: the state at the start, and how serving it ends.
use Rattle.wal_run.proofs.Common.{◌≡◌, ℕ, ◌+◌, ◌<◌, ◌≤◌, zero, suc, List, [], length, Bool, true, false, not, ◌&&◌, ◌||◌, nat_lt, lt-ltb, eq-eqb, Option, refl, ap, ◌∙◌, arith, list_all, range_with_len, LedgerState, owners_of, ShardState, ServeEnd, desk_room, IsServed, ServedState, Service, EndsServing, answering, at_start, end_status, own_nodes, serve_limit}
use Rattle.std.proofs.lemmas.List.FromFn.{get_or-range_with_len, length-range_with_len}
use Rattle.wal_shape.specs.Owners.{among, every_below, has_neighbour, node_of, is_committee}
use Rattle.wal_shape.specs.declared.axis.Side.TheVariants.{Now}
use Rattle.wal_ledger.specs.Shards.{committee_size}
use Rattle.wal_run.specs.inside.Serving.{MayServe}
use Rattle.wal_served.proofs.Reached.{desk_at_start, serves_reached}

-- each shard's node has the shard's number
pub own_node : (f s : ℕ) → s < committee_size f → node_of (own_nodes f) s ≡ s
own_node f s within = get_or-range_with_len 0 (committee_size f) s 0 within ∙ omega arith

-- they are owners of a committee without a faulty shard
and_both : (a b : Bool) → a ≡ true → b ≡ true → (a && b) ≡ true
and_both a b is_a is_b = rw (is_a, is_b) refl

all_below : (n a m : ℕ) → a + m ≤ n → list_all (λ node. nat_lt node n) (range_with_len a m) ≡ true
all_below n a zero within = refl
all_below n a (suc m) within =
    and_both (nat_lt a n) _ (lt-ltb a n (omega (arith, within))) (all_below n (a + 1) m (omega (arith, within)))

none_near : (owners : List ℕ) (m : ℕ) → every_below m (λ shard. not (has_neighbour owners [] shard) || among [] shard) ≡ true
none_near owners zero = refl
none_near owners (suc m) = and_both _ true (none_near owners m) refl

pub own_committee : (f : ℕ) → is_committee (committee_size f) (own_nodes f) [] ≡ true
own_committee f =
    let n = committee_size f in
    and_both _ _ (and_both _ _ (eq-eqb (length (own_nodes f)) n (length-range_with_len 0 n)) (all_below n 0 n (omega arith)))
    (none_near (own_nodes f) (length (own_nodes f)))

pub committee_fits : (f : ℕ) (owners faulty : List ℕ) → owners ≡ own_nodes f → faulty ≡ [] → is_committee (committee_size f) owners faulty ≡ false → ⊥
committee_fits f owners faulty is_owners is_faulty not_one =
    cc (own_committee f, is_owners, is_faulty, not_one)

-- each shard has a node of its own at the start
pub starts_owned : (s : Service) (ledger : LedgerState) (f : ℕ) → ledger ≡ (at_start s).ledger → f ≡ s.faults
    → (k : ℕ) → k < committee_size f → node_of (owners_of Now ledger.log) k ≡ k
starts_owned s ledger f is same k within =
    ap (λ (l : LedgerState). node_of (owners_of Now l.log) k) is ∙ own_node s.faults k (omega (arith, within, same))

-- what was served from a state at the start is how serving it ended
pub ends_serving : (digest : List ℕ → List ℕ) (s : Service) (shard : ShardState) (fresh state : ServedState) (left after : Option (List ℕ)) (SourceRose : Type 0) (old new : Option (List ℕ)) (SinkRose : Type 0) (end : ServeEnd) (status : ℕ)
    → MayServe s → shard ≡ (at_start s).shard → fresh ≡ at_start s
    → IsServed (answering digest) (desk_room shard.f) serve_limit shard.index fresh state left after SourceRose old new SinkRose end → status ≡ end_status end
    → EndsServing digest s left after SourceRose old new SinkRose status
ends_serving digest s shard fresh state left after SourceRose old new SinkRose end status may is_shard is_fresh served is =
    let run = rw is_fresh at (rw is_shard at served) in
    let reached =
    serves_reached digest false (desk_room s.faults) serve_limit (at_start s) run.taken _ _ _ run.frames state end
    (desk_at_start (at_start s) 0 (omega (arith, may.of_committee)) refl) run.serves in
    (state, end, run, reached, is)
