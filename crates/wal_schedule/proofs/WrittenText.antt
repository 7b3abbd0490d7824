-- The value that is written for a schedule nests little and has no float, so its text is known and is read back.
use Rattle.wal_schedule.proofs.Common.{◌≡◌, ℕ, suc, ◌+◌, ◌<◌, ◌≤◌, ◌&&◌, true, nat_le, nat_lt, List, [], ◌∷◌, map, length, codes, Some, Ok, IsTrue, refl, ap, arith, AllByRecursion, list_all, result_ok, and_parts, le-leb, le-ltb, lt-ltb, ltb-true, IsBytes, decode_of, decode_sized, encode_lower, decode_of-encode_lower, decode_sized-encode_lower, items_len, items_of, Axis, Primary, Secondary, Side, Now, Next, BlobId, Format, One, Two, are_owners, ascends_from, is_ascending, is_closed, is_committee, most_bytes, shard_count, Reply, Event, Register, Write, Send, Ack, Attest, Read, Recover, Forget, Begin, Ready, Finish, Certificate, Holders, Schedule, AreRepliesWithin, IsReply, IsSchedule, IsEventWithin, event_fits, replies_within, reply_within, within, axis_at, numbers_of, side_at, ack_of, all_objects, attest_of, begin_of, certificate_of, event_of, events_of, finish_of, forget_of, format_at, head_of, holders_of, read_of, ready_of, recover_of, register_of, replies_of, reply_of, schedule_of, send_of, write_of, HasBytes, HasReplyBytes, IsId, axis_data, event_data, format_data, number_data, reply_data, schedule_data, side_data, object, member, no_members, false, Result, Err, IfOk, ◌∙◌, String, string_bytes, max-le, Data, Items, depth, items_depth, IsRead}
use Rattle.std.proofs.lemmas.Str.{IsUtf8-string_bytes}
use Rattle.serde_json.specs.Read.{max_depth, read}
use Rattle.serde_json.specs.Written.{compact_text, has_float, items_have_float}

-- ---- what is written for a schedule is read as that schedule

-- ---- lists of numbers

abbrev Short : ℕ → Type 0
Short n = n ≤ 65535

abbrev IsBack : List ℕ → Type 0
IsBack ns = numbers_of (items_of (map number_data ns)) ≡ Some ns

numbers_back : (ns : List ℕ) → AllByRecursion Short ns → IsBack ns
numbers_back [] short = refl
numbers_back (n ∷ ns) short = rw (le-leb n 65535 short.0, numbers_back ns short.1)

-- a list that ascends is read back
ascending_back : (low n : ℕ) (ns : List ℕ) → n ≤ 65536 → ascends_from low n ns ≡ true → IsBack ns
ascending_back low n [] le h = refl
ascending_back low n (x ∷ xs) le h =
    let p = and_parts (nat_lt x n) (ascends_from (x + 1) n xs) (and_parts (nat_le low x) _ h).1 in
    rw (le-leb x 65535 (omega (arith, ltb-true x n p.0)), ascending_back (x + 1) n xs le p.1)

nodes_back : (n : ℕ) (ns : List ℕ) → n ≤ 65536 → list_all (λ node. nat_lt node n) ns ≡ true → IsBack ns
nodes_back n [] le h = refl
nodes_back n (x ∷ xs) le h =
    let p = and_parts (nat_lt x n) (list_all (λ node. nat_lt node n) xs) h in
    rw (le-leb x 65535 (omega (arith, ltb-true x n p.0)), nodes_back n xs le p.1)

-- so are the owners and the faulty shards of a committee
committee_back : (n : ℕ) (owners faulty : List ℕ) → n ≤ 65536 → IsTrue (is_committee n owners faulty)
    → IsBack owners × IsBack faulty
committee_back n owners faulty le h =
    let p = and_parts (are_owners n owners) (is_ascending n faulty && is_closed owners faulty) h in (
      nodes_back n owners le (and_parts _ (list_all (λ node. nat_lt node n) owners) p.0).1,
      ascending_back 0 n faulty le (and_parts (is_ascending n faulty) (is_closed owners faulty) p.1).0,
    )

-- ---- bytes and words

bytes_back : (bytes : List ℕ) → IsBytes bytes → result_ok (decode_of (encode_lower bytes)) ≡ Some bytes
bytes_back bytes h = rw (decode_of-encode_lower bytes h)

id_back : (id : BlobId) → IsId id → result_ok (decode_sized (encode_lower id.0) 32) ≡ Some id.0
id_back id h = rw (decode_sized-encode_lower id.0 32 h.long h.bytes)

side_back : (side : Side) → side_at (object (member (codes "at") (side_data side) no_members)) ≡ Some side
side_back Now = refl
side_back Next = refl

axis_back : (axis : Axis) → axis_at (object (member (codes "axis") (axis_data axis) no_members)) ≡ Some axis
axis_back Primary = refl
axis_back Secondary = refl

format_back : (format : Format)
    → format_at (object (member (codes "format") (format_data format) no_members)) ≡ Some format
format_back One = refl
format_back Two = refl

-- a number that is less than one of at most 16 bits
below : (n x : ℕ) → n ≤ 65536 → x < n → nat_le x 65535 ≡ true
below n x le lt = le-leb x 65535 (omega arith)

-- ---- replies

reply_back : (n : ℕ) (r : Reply) → n ≤ 65536 → IsReply n r → HasReplyBytes r → reply_of (reply_data r) ≡ Some r
reply_back n (Reply.True side shard) le is has = rw (below n shard le is, side_back side)
reply_back n (Reply.Bytes bytes) le is has = rw (bytes_back bytes has)

replies_back : (n : ℕ) (rs : List Reply) → n ≤ 65536 → AllByRecursion (IsReply n) rs → AllByRecursion HasReplyBytes rs
    → replies_of (items_of (map reply_data rs)) ≡ Some rs
replies_back n [] le is has = refl
replies_back n (r ∷ rs) le is has = rw (reply_back n r le is.0 has.0, replies_back n rs le is.1 has.1)

-- ---- events in range pass the test

each_within : (n : ℕ) (rs : List Reply) → AllByRecursion (IsReply n) rs → list_all (reply_within n) rs ≡ true
each_within n [] is = refl
each_within n (Reply.True side shard ∷ rs) is = rw (lt-ltb shard n is.0) (each_within n rs is.1)
each_within n (Reply.Bytes bytes ∷ rs) is = each_within n rs is.1

replies_within_is : (n : ℕ) (rs : List Reply) → AreRepliesWithin n rs → replies_within n rs ≡ true
replies_within_is n rs are = rw (le-leb (length rs) 4096 are.count) (each_within n rs are.each)

within_is : (n : ℕ) (e : Event) → IsEventWithin n e → within n e ≡ true
within_is n (Register id until) is = le-leb until 65536 is
within_is n (Write blob to) is = rw (le-leb (length blob) most_bytes is.0) is.1
within_is n (Read id replies) is = replies_within_is n replies is
within_is n (Recover at shard axis id replies) is = rw (lt-ltb shard n is.0) (replies_within_is n replies is.1)
within_is n (Begin owners faulty stays) is = rw is.0 is.1
within_is n other is = grind arith

-- ---- events

event_back : (f : ℕ) (e : Event) → f ≤ 333 → IsEventWithin (shard_count f) e → HasBytes e → event_fits f e ≡ true
    → event_of f (event_data e) ≡ Some e
unfolding event_of register_of write_of send_of ack_of attest_of read_of recover_of forget_of begin_of ready_of finish_of certificate_of holders_of
event_back f (Register id until) most is has fits =
    rw (id_back id has, le-leb until 4294967295 (omega (arith, is)), fits)
event_back f (Write blob to) most is has fits =
    rw (bytes_back blob has, ascending_back 0 (shard_count f) to (omega arith) is.1, fits)
event_back f (Send at shard bytes) most is has fits =
    rw (side_back at, below (shard_count f) shard (omega arith) is, bytes_back bytes has, fits)
event_back f (Ack shard id) most is has fits = rw (below (shard_count f) shard (omega arith) is, id_back id has, fits)
event_back f (Attest shard id) most is has fits =
    rw (below (shard_count f) shard (omega arith) is, id_back id has, fits)
event_back f (Read id rs) most is has fits =
    rw (id_back id has.0, replies_back (shard_count f) rs (omega arith) is.each has.1, fits)
event_back f (Recover at shard axis id rs) most is has fits =
    let all = replies_back (shard_count f) rs (omega arith) is.1.each has.1 in
    rw (side_back at, below (shard_count f) shard (omega arith) is.0, axis_back axis, id_back id has.0, all, fits)
event_back f (Forget at shard id) most is has fits =
    rw (side_back at, below (shard_count f) shard (omega arith) is, id_back id has, fits)
event_back f (Begin owners faulty stays) most is has fits =
    let back = committee_back (shard_count f) owners faulty (omega arith) is.0 in
    rw (back.0, back.1, ascending_back 0 (shard_count f) stays (omega arith) is.1, fits)
event_back f (Ready shard) most is has fits = rw (below (shard_count f) shard (omega arith) is, fits)
event_back f Finish most is has fits = rw fits
event_back f (Certificate id) most is has fits = rw (id_back id has, fits)
event_back f (Holders id) most is has fits = rw (id_back id has, fits)

events_back : (f number : ℕ) (es : List Event) → 1 ≤ f → f ≤ 333 → AllByRecursion (IsEventWithin (shard_count f)) es
    → AllByRecursion HasBytes es
    → events_of f number (items_of (map event_data es)) ≡ Ok es
events_back f number [] least most is has = refl
events_back f number (e ∷ es) least most is has =
    let fits : event_fits f e ≡ true = rw (le-leb 1 f least, le-leb f 333 most) (within_is (shard_count f) e is.0) in
    rw (event_back f e most is.0 has.0 fits, events_back f (number + 1) es least most is.1 has.1)

objects_are : (es : List Event) → all_objects (items_of (map event_data es)) ≡ true
objects_are [] = refl
objects_are (Register id until ∷ es) = objects_are es
objects_are (other ∷ es) = objects_are es

count_is : (es : List Event) → items_len (items_of (map event_data es)) ≡ length es
count_is [] = refl
count_is (e ∷ es) = ap suc (count_is es)

-- the value that is written for a schedule in range is that schedule
pub schedule_back : (s : Schedule) → IsSchedule s → AllByRecursion HasBytes s.events
    → schedule_of (schedule_data s) ≡ Ok s
unfolding schedule_of head_of
schedule_back s is has =
    let most = is.most in
    let back = committee_back (shard_count s.f) s.owners s.faulty (omega arith) is.committee in
    let few : items_len (items_of (map event_data s.events)) ≤ 65536 = omega (arith, count_is s.events, is.count) in
    rw (le-leb s.f 333 is.most, le-leb s.epoch 65535 is.epoch_most, format_back s.format, back.0, back.1)
    (rw (le-leb 1 s.f is.least, is.committee, objects_are s.events)
    (rw (le-ltb 65536 _ few, events_back s.f 1 s.events is.least is.most is.each has)))

-- ---- the value that is written for a schedule nests little and has no float, so its text is known and is read back

-- what nests to at most this depth and has no float, and a list of such
abbrev IsPlain : ℕ → Data → Type 0
IsPlain k d = (depth d ≤ k) × (has_float d ≡ false)

abbrev ArePlain : ℕ → Items → Type 0
ArePlain k items = (items_depth items ≤ k) × (items_have_float items ≡ false)

items_plain : {X : Type 0} (f : X → Data) (k : ℕ) → ((x : X) → IsPlain k (f x)) → (xs : List X)
    → ArePlain k (items_of (map f xs))
items_plain f k each [] = (omega arith, refl)
items_plain f k each (x ∷ xs) =
    let rest = items_plain f k each xs in
    (max-le (each x).0 rest.0, rw (each x).1 rest.1)

numbers_plain : (ns : List ℕ) → ArePlain 0 (items_of (map number_data ns))
numbers_plain ns = items_plain number_data 0 (λ n. (omega arith, refl)) ns

side_plain : (side : Side) → IsPlain 0 (side_data side)
side_plain side = grind arith

axis_plain : (axis : Axis) → IsPlain 0 (axis_data axis)
axis_plain axis = grind arith

format_plain : (format : Format) → IsPlain 0 (format_data format)
format_plain format = grind arith

reply_plain : (r : Reply) → IsPlain 1 (reply_data r)
reply_plain r = grind (arith, side_plain)

replies_plain : (rs : List Reply) → ArePlain 1 (items_of (map reply_data rs))
replies_plain rs = items_plain reply_data 1 reply_plain rs

event_plain : (e : Event) → IsPlain 3 (event_data e)
event_plain (Write blob to) = let all = numbers_plain to in (omega (arith, all.0), rw all.1)
event_plain (Read id rs) = let all = replies_plain rs in (omega (arith, all.0), rw all.1)
event_plain (Recover at shard axis id rs) =
    let all = replies_plain rs in
    (omega (arith, side_plain at, axis_plain axis, all.0), rw ((side_plain at).1, (axis_plain axis).1, all.1))
event_plain (Begin owners faulty stays) = (
  omega (arith, numbers_plain owners, numbers_plain faulty, numbers_plain stays),
  rw ((numbers_plain faulty).1, (numbers_plain owners).1, (numbers_plain stays).1),
)
event_plain other = grind (arith, side_plain)

schedule_plain : (s : Schedule) → IsPlain max_depth (schedule_data s)
schedule_plain s =
    let events = items_plain event_data 3 event_plain s.events in (
      omega (arith, events, numbers_plain s.owners, numbers_plain s.faulty, format_plain s.format),
      rw (events.1, (numbers_plain s.faulty).1, (format_plain s.format).1, (numbers_plain s.owners).1),
    )

-- ---- its text

pub read_again : {E Z : Type 0} (r : Result (String Z) E) (d : Data) (s : Schedule) → d ≡ schedule_data s
    → IsSchedule s → AllByRecursion HasBytes s.events
    → IfOk r (λ text. depth d ≤ max_depth → read (string_bytes text) ≡ Some d)
    → IfOk r (λ text. IsRead (string_bytes text) (Ok s))
read_again (Ok text) d s same is has back = (
  d,
  (IsUtf8-string_bytes text, back (rw same (schedule_plain s).0)),
  ap schedule_of same ∙ schedule_back s is has,
)
read_again (Err e) d s same is has back = tt

pub text_is : {E Z : Type 0} (r : Result (String Z) E) (d : Data) (s : Schedule) → d ≡ schedule_data s
    → IfOk r (λ text. has_float d ≡ false → string_bytes text ≡ compact_text d)
    → IfOk r (λ text. string_bytes text ≡ compact_text (schedule_data s))
text_is (Ok text) d s same is = is (rw same (schedule_plain s).1) ∙ ap compact_text same
text_is (Err e) d s same is = tt
