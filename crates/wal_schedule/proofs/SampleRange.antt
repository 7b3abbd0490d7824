-- The events of a sample are in range.
use Rattle.wal_schedule.proofs.Common.{◌≡◌, Result, Ok, Err, IfOk, ℕ, zero, suc, ◌+◌, ◌*◌, ◌%◌, ◌<◌, ◌≤◌, true, List, [], ◌∷◌, ◌++◌, map, length, IsTrue, refl, sym, ap, ◌∙◌, arith, AllByRecursion, flat_map, range_with_len, length-append, length-map, length-map-range_with_len, most_bytes, is_ascending, is_committee, Axis, Primary, Secondary, Event, Ready, Schedule, AreRepliesWithin, IsSchedule, IsEventWithin, SampleBlob, AreBlobs, asked_events, blob_from, drawn, earlier_events, everyone, everyone_but, later_events, recovered_by, recovered_events, sample_with, state_before, stored_events, truths, agree_below_at}
use Rattle.wal_schedule.proofs.Drawing.{all_joined}

abbrev Within : List Event → Type 0
Within = AllByRecursion (IsEventWithin 7)

mapped : {X : Type 0} (P : X → Type 0) (f : X → Event) (xs : List X) → ((x : X) → P x → IsEventWithin 7 (f x))
    → AllByRecursion P xs → Within (map f xs)
mapped P f [] each a = tt
mapped P f (x ∷ xs) each a = (each x a.0, mapped P f xs each a.1)

joined : {X : Type 0} (P : X → Type 0) (f : X → List Event) (xs : List X) → ((x : X) → P x → Within (f x))
    → AllByRecursion P xs → Within (flat_map f xs)
joined P f [] each a = tt
joined P f (x ∷ xs) each a = all_joined (IsEventWithin 7) (f x) (flat_map f xs) (each x a.0) (joined P f xs each a.1)

unmapped : {X Y : Type 0} (P : Y → Type 0) (f : X → Y) (xs : List X) → AllByRecursion P (map f xs)
    → AllByRecursion (λ x. P (f x)) xs
unmapped P f [] a = tt
unmapped P f (x ∷ xs) a = (a.0, unmapped P f xs a.1)

numbered : {X : Type 0} (P : X → Type 0) (f : ℕ → X) (a n : ℕ) → ((b : ℕ) → b < a + n → P (f b))
    → AllByRecursion P (map f (range_with_len a n))
numbered P f a zero each = tt
numbered P f a (suc n) each = (each a (omega arith), numbered P f (a + 1) n (λ b lt. each b (omega arith)))

seven : AllByRecursion (λ s. s < 7) everyone
seven = omega arith

true_replies : AreRepliesWithin 7 truths
true_replies = omega arith

abbrev Small : SampleBlob → Type 0
Small blob = length blob.bytes ≤ most_bytes

stored : (blob : SampleBlob) → Small blob → Within (stored_events blob)
stored blob small = (omega arith, ((small, refl), omega arith))

recovered : (axis : Axis) (blobs : List SampleBlob) → AllByRecursion Small blobs → Within (recovered_events axis blobs)
recovered axis blobs small =
    joined (λ s. s < 7) (recovered_by axis blobs) everyone
    (λ s lt. mapped Small _ blobs (λ blob _. (lt, true_replies)) small) seven

one_faulty : (s : ℕ) → s < 7 → IsTrue (is_committee 7 everyone (s ∷ []))
one_faulty s lt = agree_below_at (λ s. is_committee 7 everyone (s ∷ [])) (λ s. true) 7 s refl lt

six_stay : (s : ℕ) → s < 7 → IsTrue (is_ascending 7 (everyone_but s))
six_stay s lt = agree_below_at (λ s. is_ascending 7 (everyone_but s)) (λ s. true) 7 s refl lt

later : (blobs : List SampleBlob) (faulty leaving : ℕ) → faulty < 7 → leaving < 7 → AllByRecursion Small blobs
    → Within (later_events blobs faulty leaving)
later blobs faulty leaving f l small =
    let asked = joined Small asked_events blobs (λ blob is. (tt, (true_replies, tt))) small in (
      (one_faulty faulty f, six_stay leaving l),
      all_joined (IsEventWithin 7)
          (recovered_events Secondary blobs ++ recovered_events Primary blobs ++ map (λ s. Ready s) everyone) _
          (all_joined (IsEventWithin 7) (recovered_events Secondary blobs ++ recovered_events Primary blobs) _
          (all_joined (IsEventWithin 7) (recovered_events Secondary blobs) _ (recovered Secondary blobs small)
          (recovered Primary blobs small)) seven) (tt, asked),
    )

all_small : (digest : List ℕ → List ℕ) (x : ℕ) (blobs : List SampleBlob) → AreBlobs digest x 32 blobs
    → AllByRecursion Small blobs
all_small digest x blobs are =
    unmapped (λ (bytes : List ℕ). length bytes ≤ most_bytes) (λ blob. blob.bytes) blobs
    (rw are.bytes (numbered (λ (bytes : List ℕ). length bytes ≤ most_bytes) (λ b. blob_from (state_before x b) b) 0 32
    (λ b lt. omega (arith, length-map-range_with_len (λ k. drawn (state_before x b) k % 256) 1 (8 * b + 7)))))

flat_length : {X : Type 0} (f : X → List Event) (k : ℕ) (xs : List X) → ((x : X) → length (f x) ≡ k)
    → length (flat_map f xs) ≡ length xs * k
flat_length f k [] each = omega arith
flat_length f k (x ∷ xs) each = omega (arith, length-append (f x) (flat_map f xs), each x, flat_length f k xs each)

few : (blobs : List SampleBlob) (faulty leaving : ℕ) → length blobs ≡ 32
    → length (earlier_events blobs ++ later_events blobs faulty leaving) ≤ 65536
few blobs faulty leaving len =
    omega (
      arith,
      length-append {A = Event},
      flat_length stored_events 10 blobs (λ blob. refl),
      flat_length asked_events 2 blobs (λ blob. refl),
      flat_length (recovered_by Secondary blobs) 32 everyone (λ s. length-map blobs _ ∙ len),
      flat_length (recovered_by Primary blobs) 32 everyone (λ s. length-map blobs _ ∙ len),
    )

-- the schedule of drawn blobs is in range
pub if_in_range : {E : Type 0} (digest : List ℕ → List ℕ) (r : Result Schedule E)
    → (x first faulty leaving : ℕ) (blobs lent : List SampleBlob) → first < 7 → faulty < 7 → leaving < 7
    → AreBlobs digest x 32 blobs → lent ≡ blobs → IfOk r (λ s. s ≡ sample_with lent first faulty leaving)
    → IfOk r IsSchedule
if_in_range digest (Ok s) x first faulty leaving blobs lent a b l are same is =
    let len : length blobs ≡ 32 = sym (length-map blobs (λ blob. blob.bytes)) ∙ ap length are.bytes
    ∙ length-map-range_with_len (λ b. blob_from (state_before x b) b) 0 32 in
    let small = all_small digest x blobs are in
    rw (is, same) (record {
      least = omega arith;
      most = omega arith;
      epoch_most = omega arith;
      committee = one_faulty first a;
      count = few blobs faulty leaving len;
      each = all_joined (IsEventWithin 7) (earlier_events blobs) _ (joined Small stored_events blobs stored small)
          (later blobs faulty leaving b l small);
    })
if_in_range digest (Err e) x first faulty leaving blobs lent a b l are same is = tt
