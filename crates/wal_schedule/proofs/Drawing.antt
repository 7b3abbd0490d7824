-- Draws one after the other, and lists that grow by what is drawn.
use Rattle.wal_schedule.proofs.Common.{◌≡◌, ℕ, ◌+◌, ◌<◌, ◌≤◌, List, [], ◌∷◌, ◌++◌, length, Some, Err, Result, ap, ◌∙◌, arith, cond-true, cond-false, lt-ltb, le-ltb, AllByRecursion, range_with_len, map-id, map-range_with_len_more, Data, items_len, items_view, Value, items_len-items_view, shard_count, Event, IsSchedule, IsEventWithin, Head, ScheduleError, events_of, parts_of, schedule_of, schedule_with, with_parts, IsHead, Tells, TellsEvents, Ok, IfOk, ◌*◌, ◌/◌, ◌%◌, ◌^◌, map, flat_map, append_assoc, append-nil, map-append, length-append, IsIdentifierOf, One, Schedule, SampleBlob, AreBlobs, IsSample, blob_from, drawn, next_state, sample_with, state_after, state_before, add-one}
use Rattle.wal_schedule.specs.declared.read.ScheduleError.TheVariants.{NotJson, BadSchedule, TooMany, BadEvent, Memory}
use Rattle.std.proofs.lemmas.Grind.{flat_map-append}

-- ---- from the parts of a schedule to the whole

-- one more number
pub range_more : (n : ℕ) → range_with_len 0 (n + 1) ≡ range_with_len 0 n ++ n ∷ []
range_more n = simp map-id at (map-range_with_len_more (λ (x : ℕ). x) 0 n n (omega arith))

-- a schedule of more than 65536 events is refused
pub too_many : (d : Data) (h : Head) (vs : List Value) → parts_of d ≡ Some (h, items_view vs) → 65536 < length vs → schedule_of d ≡ Err TooMany
unfolding schedule_of
too_many d h vs parts many =
    ap with_parts parts ∙ cond-true _ _ _ (lt-ltb 65536 (items_len (items_view vs)) (omega (arith, items_len-items_view vs)))

-- a schedule of at most 65536 events is its head with what its events give
pub of_parts : (d : Data) (h : Head) (vs : List Value) → parts_of d ≡ Some (h, items_view vs) → length vs ≤ 65536
    → schedule_of d ≡ schedule_with h (events_of h.f 1 (items_view vs))
unfolding schedule_of
of_parts d h vs parts few =
    ap with_parts parts ∙ cond-false _ _ _ (le-ltb 65536 (items_len (items_view vs)) (omega (arith, items_len-items_view vs)))

-- what is told of the events is told of the schedule
pub tells_error : (e : ScheduleError) (h : Head) (told : Result (List Event) ℕ) → TellsEvents (Err e) told → Tells (Err e) (schedule_with h told)
tells_error NotJson h told p = absurd p
tells_error BadSchedule h told p = absurd p
tells_error TooMany h told p = absurd p
tells_error (BadEvent number) h told p = ap (schedule_with h) p
tells_error Memory h told p = tt

-- a fit head and fit events are a schedule in range
pub in_range : (h : Head) (events : List Event) → IsHead h → length events ≤ 65536 → AllByRecursion (IsEventWithin (shard_count h.f)) events
    → IsSchedule (record { f = h.f; epoch = h.epoch; format = h.format; owners = h.owners; faulty = h.faulty; events = events })
in_range h events head count each = record {
  least = head.least;
  most = head.most;
  epoch_most = head.epoch_most;
  committee = head.committee;
  count = count;
  each = each;
}

-- ---- draws one after the other, and lists that grow by what is drawn

pub state_after-more : (x k : ℕ) → state_after x (k + 1) ≡ next_state (state_after x k)
unfolding state_after
state_after-more x k = rw add-one

pub state_before-more : (x b : ℕ) → state_before x (b + 1) ≡ state_after (state_before x b) (8 * b + 7)
unfolding state_before
state_before-more x b = rw add-one

-- one more element of a map over numbers
pub pushed_map : {X : Type 0} (f : ℕ → X) (start old new : List X) (n : ℕ) → old ≡ start ++ map f (range_with_len 0 n)
    → new ≡ old ++ f n ∷ [] → new ≡ start ++ map f (range_with_len 0 (n + 1))
pushed_map f start old new n was is =
    rw (is, was, map-range_with_len_more f 0 n n (omega arith)) (append_assoc start _ _)

-- one more piece of a map over numbers whose values are joined
pub pushed_pieces : {X : Type 0} (f : ℕ → List X) (start old new : List X) (n : ℕ)
    → old ≡ start ++ flat_map f (range_with_len 0 n) → new ≡ old ++ f n
    → new ≡ start ++ flat_map f (range_with_len 0 (n + 1))
pushed_pieces f start old new n was is =
    rw (is, was, range_more n, flat_map-append, append-nil) (append_assoc start _ _)

-- one more byte of a blob
pub pushed_byte : (x b n state : ℕ) (old new : List ℕ) → old ≡ b ∷ map (λ k. drawn x k % 256) (range_with_len 1 n)
    → state ≡ next_state (state_after x n) → new ≡ old ++ state / 2 ^ 33 % 256 ∷ []
    → new ≡ b ∷ map (λ k. drawn x k % 256) (range_with_len 1 (n + 1))
pushed_byte x b n state old new was drew is =
    rw (is, was, map-range_with_len_more (λ k. drawn x k % 256) 1 n (n + 1) (omega arith), state_after-more x n, drew)

pub pushed_count : {X : Type 0} (k : ℕ) (v : X) (old new : List X) → length old ≡ k → new ≡ old ++ v ∷ []
    → length new ≡ k + 1
pushed_count k v old new was is = rw (is, length-append, was)

-- what holds of the elements of two lists
pub all_joined : {X : Type 0} (P : X → Type 0) (xs ys : List X) → AllByRecursion P xs → AllByRecursion P ys
    → AllByRecursion P (xs ++ ys)
all_joined P [] ys a b = b
all_joined P (x ∷ xs) ys a b = (a.0, all_joined P xs ys a.1 b)

-- one more blob
pub more_blobs : (digest : List ℕ → List ℕ) (x b : ℕ) (old new : List SampleBlob) (blob : SampleBlob)
    → AreBlobs digest x b old → blob.bytes ≡ blob_from (state_before x b) b
    → IsIdentifierOf digest One 2 blob.bytes blob.id.0 → new ≡ old ++ blob ∷ [] → AreBlobs digest x (b + 1) new
more_blobs digest x b old new blob are bytes id is =
    let more = map-range_with_len_more (λ b. blob_from (state_before x b) b) 0 b b (omega arith) in
    let told = all_joined (λ y. IsIdentifierOf digest One 2 y.bytes y.id.0) old (blob ∷ []) are.identified (id, tt) in
    record { bytes = rw (is, map-append, are.bytes, more, bytes); identified = rw is told }

-- what is returned is the sample, where it is the schedule of the draws
pub if_sample : {E : Type 0} (digest : List ℕ → List ℕ) (r : Result Schedule E)
    → (number s1 s2 s3 s4 first later leaving : ℕ) (blobs lent : List SampleBlob)
    → s1 ≡ next_state number → first ≡ s1 / 2 ^ 33 % 7 → AreBlobs digest s1 32 blobs → s2 ≡ state_before s1 32
    → s3 ≡ next_state s2 → later ≡ s3 / 2 ^ 33 % 7 → s4 ≡ next_state s3 → leaving ≡ s4 / 2 ^ 33 % 7
    → lent ≡ blobs → IfOk r (λ s. s ≡ sample_with lent first later leaving) → IfOk r (IsSample digest number)
unfolding state_after
if_sample digest (Ok s) number s1 s2 s3 s4 first later leaving blobs lent e1 v1 are e2 e3 v3 e4 v4 same is =
    (blobs, rw e1 at are, rw (is, same, v1, v3, v4, e4, e3, e2, e1))
if_sample digest (Err e) number s1 s2 s3 s4 first later leaving blobs lent e1 v1 are e2 e3 v3 e4 v4 same is = tt
