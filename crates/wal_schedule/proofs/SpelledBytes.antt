-- What a text spells as a schedule is in range, and carries bytes.
use Rattle.wal_schedule.proofs.Common.{◌≡◌, ℕ, suc, ◌+◌, ◌*◌, ◌≤◌, ◌&&◌, Bool, true, false, nat_le, nat_lt, List, [], ◌∷◌, length, codes, Option, None, Some, Ok, Err, Result, IfOk, IfSome, if◌then◌else◌, refl, sym, ◌∙◌, arith, bytes_eq, is_some, AllByRecursion, list_all, result_ok, and_parts, leb-true, ltb-false, ltb-true, IsBytes, decode_of, decode_sized, decode_of-ok, decode_sized-ok, decode_sized-twice, Data, Items, no_items, item, items_len, as_number, as_u64, get, BlobId, is_committee, shard_count, Reply, Event, Register, Write, Send, Ack, Attest, Read, Recover, Forget, Begin, Ready, Finish, Certificate, Holders, Schedule, AreRepliesWithin, IsReply, IsSchedule, IsEventWithin, event_fits, replies_within, reply_within, within, Head, ScheduleError, ◌>>=◌, axis_at, bytes_at, given, id_at, items_at, list_at, shard_at, side_at, text_at, to_id, whole_at, whole_of, with_keys, IsRead, ack_of, attest_of, begin_of, bytes_reply_of, certificate_of, event_named, event_of, events_of, finish_of, forget_of, format_at, head_of, holders_of, joined, later_named, objects_at, one_if_has, owners_at, parts_of, read_of, ready_of, recover_of, register_of, replies_at, replies_of, reply_of, schedule_of, schedule_with, send_of, true_reply_of, with_parts, write_of, IsHead, HasBytes, HasReplyBytes, IsId}
use Rattle.hex.specs.declared.error.FromHexError.{FromHexError}
use Rattle.wal_schedule.proofs.Drawing.{in_range}

-- ---- what steps of a reading keep

-- what is read has something to show
record Shows {A : Type 0} (Q : A → Type 0) (x : Option A) : Type 0 where
  found : IfSome x Q

-- a step whose value has something to show
shown : {A B : Type 0} {P : A → Type 0} {Q : B → Type 0} {x : Option A} (f : A → Option B) → Shows P x
    → ((a : A) → P a → Shows Q (f a)) → Shows Q (x >>= f)
shown {x = None} f p next = record { found = tt }
shown {x = Some a} f p next = next a p.found

-- a step whose value has nothing to show
past : {A B : Type 0} {Q : B → Type 0} (x : Option A) (f : A → Option B) → ((a : A) → Shows Q (f a)) → Shows Q (x >>= f)
past None f next = record { found = tt }
past (Some a) f next = next a

-- a value that passed a test
tested : {A : Type 0} {Q : A → Type 0} (test : Bool) (x : A) → (test ≡ true → Q x) → Shows Q (given test x)
tested true x is = record { found = is refl }
tested false x is = record { found = tt }

keyed : {A : Type 0} {Q : A → Type 0} (count : ℕ) (d : Data) (x : A) → Q x → Shows Q (with_keys count d x)
keyed count d x is = tested _ x (λ passed. is)

-- either of two readings
either : {A : Type 0} {Q : A → Type 0} (b : Bool) (x y : Option A) → Shows Q x → Shows Q y
    → Shows Q (if b then x else y)
either true x y p q = p
either false x y p q = q

-- ---- numbers and bytes

whole_most : (most : ℕ) (d : Data) → Shows (λ n. n ≤ most) (whole_of most d)
whole_most most d =
    past (as_number d) _ (λ number. past (as_u64 number) _ (λ n. tested (nat_le n most) n (leb-true n most)))

whole_at_most : (most : ℕ) (key : List ℕ) (d : Data) → Shows (λ n. n ≤ most) (whole_at most key d)
whole_at_most most key d = past (get key d) _ (whole_most most)

decoded : (text : List ℕ) (r : Result (List ℕ) FromHexError) → decode_of text ≡ r → Shows IsBytes (result_ok r)
decoded text (Ok bytes) reads = record { found = (decode_of-ok text bytes reads).3 }
decoded text (Err e) reads = record { found = tt }

bytes_are : (key : List ℕ) (d : Data) → Shows IsBytes (bytes_at key d)
bytes_are key d = past (text_at key d) _ (λ text. decoded text (decode_of text) refl)

decoded_id : (text : List ℕ) (r : Result (List ℕ) FromHexError) → decode_sized text 32 ≡ r
    → Shows (λ bytes. IsId (to_id bytes)) (result_ok r)
decoded_id text (Ok bytes) reads =
    let long : length text ≡ 2 * 32 = decode_sized-ok text 32 bytes reads in
    let of = decode_of-ok text bytes (sym (decode_sized-twice text 32 long) ∙ reads) in
    record { found = record { long = omega (arith, long, of.2); bytes = of.3 } }
decoded_id text (Err e) reads = record { found = tt }

id_is : (d : Data) → Shows IsId (id_at d)
id_is d =
    past (text_at (codes "id") d) _ (λ text.
    shown _ (decoded_id text (decode_sized text 32) refl) (λ bytes is. record { found = is }))

-- ---- replies

reply_bytes : (d : Data) → Shows HasReplyBytes (reply_of d)
reply_bytes d =
    either (is_some (get (codes "true") d)) (true_reply_of d) (bytes_reply_of d)
    (past (whole_at 65535 (codes "true") d) _ (λ shard. past (side_at d) _
    (λ side. keyed 2 d (Reply.True side shard) tt)))
    (shown _ (bytes_are (codes "bytes") d) (λ bytes is. keyed 1 d (Reply.Bytes bytes) is))

replies_bytes : (items : Items) → Shows (AllByRecursion HasReplyBytes) (replies_of items)
replies_bytes no_items = record { found = tt }
replies_bytes (item d ds) =
    shown _ (reply_bytes d) (λ x is. shown _ (replies_bytes ds) (λ xs are. record { found = (is, are) }))

replies_are : (d : Data) → Shows (AllByRecursion HasReplyBytes) (replies_at d)
replies_are d = past (items_at (codes "replies") d) _ replies_bytes

-- ---- the bytes of events

-- an event that names a blob alone
of_id : (d : Data) (count : ℕ) (event : BlobId → Event) → ((id : BlobId) → IsId id → HasBytes (event id))
    → Shows HasBytes (id_at d >>= λ id. with_keys count d (event id))
of_id d count event has = shown _ (id_is d) (λ id is. keyed count d (event id) (has id is))

-- one of the names, or a later one
named : {x y : Option Event} (name word : List ℕ) → Shows HasBytes x → Shows HasBytes y
    → Shows HasBytes (if bytes_eq name word then x else y)
named {x} {y} name word p q = either (bytes_eq name word) x y p q

later_bytes : (n : ℕ) (d : Data) (name : List ℕ) → Shows HasBytes (later_named n d name)
unfolding begin_of ready_of finish_of certificate_of holders_of
later_bytes n d name =
    named name (codes "begin") (past (owners_at n d) _ (λ owners. past (list_at (codes "faulty") d) _
    (λ faulty. past (list_at (codes "stays") d) _ (λ stays.
    keyed (3 + one_if_has (codes "owners") d) d (Begin owners faulty stays) tt))))
    (named name (codes "ready") (past (shard_at d) _ (λ shard. keyed 2 d (Ready shard) tt))
    (named name (codes "finish") (keyed 1 d Finish tt)
    (named name (codes "certificate") (of_id d 2 (λ id. Certificate id) (λ id is. is))
    (named name (codes "holders") (of_id d 2 (λ id. Holders id) (λ id is. is)) (record { found = tt })))))

named_bytes : (n : ℕ) (d : Data) (name : List ℕ) → Shows HasBytes (event_named n d name)
unfolding register_of write_of send_of ack_of attest_of read_of recover_of forget_of
named_bytes n d name =
    named name (codes "register") (shown _ (id_is d) (λ id is. past (whole_at 4294967295 (codes "until") d) _
    (λ until. keyed 3 d (Register id until) is)))
    (named name (codes "write") (shown _ (bytes_are (codes "blob") d)
    (λ blob are. past (list_at (codes "to") d) _ (λ to. keyed 3 d (Write blob to) are)))
    (named name (codes "send") (past (side_at d) _ (λ at. past (shard_at d) _ (λ shard.
    shown _ (bytes_are (codes "bytes") d) (λ bytes are. keyed 4 d (Send at shard bytes) are))))
    (named name (codes "ack") (past (shard_at d) _ (λ shard. of_id d 3 (λ id. Ack shard id) (λ id is. is)))
    (named name (codes "attest") (past (shard_at d) _ (λ shard. of_id d 3 (λ id. Attest shard id) (λ id is. is)))
    (named name (codes "read") (shown _ (id_is d) (λ id is. shown _ (replies_are d)
    (λ replies are. keyed 3 d (Read id replies) (is, are))))
    (named name (codes "recover") (past (side_at d) _ (λ at. past (shard_at d) _ (λ shard. past (axis_at d) _ (λ axis.
    shown _ (id_is d) (λ id is. shown _ (replies_are d) (λ replies are. keyed 6 d (Recover at shard axis id replies)
    (is, are)))))))
    (named name (codes "forget") (past (side_at d) _ (λ at. past (shard_at d) _
    (λ shard. of_id d 4 (λ id. Forget at shard id) (λ id is. is))))
    (later_bytes n d name))))))))

-- ---- an event that passes the test is in range

each_is : (n : ℕ) (rs : List Reply) → list_all (reply_within n) rs ≡ true → AllByRecursion (IsReply n) rs
each_is n [] passed = tt
each_is n (Reply.True side shard ∷ rs) passed =
    let p = and_parts (nat_lt shard n) (list_all (reply_within n) rs) passed in
    (ltb-true shard n p.0, each_is n rs p.1)
each_is n (Reply.Bytes bytes ∷ rs) passed = (tt, each_is n rs passed)

replies_fit : (n : ℕ) (rs : List Reply) → replies_within n rs ≡ true → AreRepliesWithin n rs
replies_fit n rs passed =
    let p = and_parts (nat_le (length rs) 4096) (list_all (reply_within n) rs) passed in
    record { count = leb-true (length rs) 4096 p.0; each = each_is n rs p.1 }

event_is : (n : ℕ) (e : Event) → within n e ≡ true → IsEventWithin n e
event_is n (Read id replies) passed = replies_fit n replies passed
event_is n (Recover at shard axis id replies) passed =
    let p = and_parts (nat_lt shard n) (replies_within n replies) passed in
    (ltb-true shard n p.0, replies_fit n replies p.1)
event_is n other passed = grind arith

-- what is shown of an event
abbrev IsGood : ℕ → Event → Type 0
IsGood f e = IsEventWithin (shard_count f) e × HasBytes e

event_good : (f : ℕ) (d : Data) → Shows (IsGood f) (event_of f d)
unfolding event_of
event_good f d =
    past (text_at (codes "do") d) _ (λ name.
    shown _ (named_bytes (shard_count f) d name) (λ event has.
    tested (event_fits f event) event (λ passed.
    (event_is (shard_count f) event (and_parts (nat_le f 333) _ (and_parts (nat_le 1 f) _ passed).1).1, has))))

-- ---- events, and the head

-- what is shown of the events that values are
record AreGood (f : ℕ) (count : ℕ) (es : List Event) : Type 0 where
  few : length es ≡ count
  each : AllByRecursion (IsEventWithin (shard_count f)) es
  bytes : AllByRecursion HasBytes es

joined_good : (f number count : ℕ) (first : Option Event) (rest : Result (List Event) ℕ) → Shows (IsGood f) first
    → IfOk rest (AreGood f count)
    → IfOk (joined number first rest) (AreGood f (suc count))
joined_good f number count None rest p q = tt
joined_good f number count (Some e) (Ok es) p q =
    record { few = omega (arith, q.few); each = (p.found.0, q.each); bytes = (p.found.1, q.bytes) }
joined_good f number count (Some e) (Err other) p q = tt

events_good : (f number : ℕ) (items : Items) → IfOk (events_of f number items) (AreGood f (items_len items))
events_good f number no_items = record { few = refl; each = tt; bytes = tt }
events_good f number (item d ds) =
    joined_good f number (items_len ds) (event_of f d) (events_of f (number + 1) ds) (event_good f d)
    (events_good f (number + 1) ds)

head_is : (d : Data) → Shows IsHead (head_of d)
unfolding head_of
head_is d =
    shown _ (whole_at_most 333 (codes "f") d) (λ f most.
    shown _ (whole_at_most 65535 (codes "epoch") d) (λ epoch epoch_most.
    past (format_at d) _ (λ format.
    past (owners_at (shard_count f) d) _ (λ owners.
    past (list_at (codes "faulty") d) _ (λ faulty.
    shown {P = IsHead} _
    (tested (nat_le 1 f && is_committee (shard_count f) owners faulty) _ (λ passed.
    let p = and_parts (nat_le 1 f) (is_committee (shard_count f) owners faulty) passed in
    record { least = leb-true 1 f p.0; most = most; epoch_most = epoch_most; committee = p.1 }))
    (λ head is. keyed _ d head is))))))

-- ---- the whole

-- what is shown of a schedule
record IsSpelled (s : Schedule) : Type 0 where
  range : IsSchedule s
  bytes : AllByRecursion HasBytes s.events

with_good : (h : Head) (count : ℕ) (events : Result (List Event) ℕ) → IsHead h → count ≤ 65536
    → IfOk events (AreGood h.f count) → IfOk (schedule_with h events) IsSpelled
with_good h count (Ok events) is few good =
    record { range = in_range h events is (omega (arith, good.few, few)) good.each; bytes = good.bytes }
with_good h count (Err number) is few good = tt

counted : (test : Bool) (h : Head) (items : Items) (e : ScheduleError) → nat_lt 65536 (items_len items) ≡ test
    → IsHead h
    → IfOk (if test then Err e else schedule_with h (events_of h.f 1 items)) IsSpelled
counted true h items e many is = tt
counted false h items e few is =
    with_good h (items_len items) (events_of h.f 1 items) is (ltb-false 65536 (items_len items) few)
    (events_good h.f 1 items)

parts_good : (parts : Option (Head × Items)) → Shows (λ p. IsHead p.0) parts → IfOk (with_parts parts) IsSpelled
parts_good None is = tt
parts_good (Some parts) is = counted (nat_lt 65536 (items_len parts.1)) parts.0 parts.1 _ refl is.found

schedule_good : (d : Data) → IfOk (schedule_of d) IsSpelled
unfolding schedule_of
schedule_good d =
    parts_good (parts_of d) (shown _ (head_is d) (λ head is. past (objects_at d) _ (λ items. record { found = is })))

spelled : (text : List ℕ) (s : Schedule) → IsRead text (Ok s) → IsSpelled s
spelled text s is = rw is.2 at (schedule_good is.0)

-- the schedule that a text spells is in range
pub spelled_range : (text : List ℕ) (s : Schedule) → IsRead text (Ok s) → IsSchedule s
spelled_range text s is = (spelled text s is).range

-- and carries bytes
pub spelled_bytes : (text : List ℕ) (s : Schedule) → IsRead text (Ok s) → AllByRecursion HasBytes s.events
spelled_bytes text s is = (spelled text s is).bytes
