-- A record that is read, what a journal knows of its disk, and how a change ends.
use Rattle.wal_journal.proofs.Common.{◌≡◌, ℕ, ◌+◌, ◌<◌, ◌≤◌, ◌^◌, Bool, Option, None, List, [], ◌∷◌, ◌++◌, length, take, drop, get_or, Err, refl, sym, ap, ◌∙◌, subst, arith, length-append, length-drop, w32, from_be_bytes, to_be_bytes, be_bytes_4, append_assoc, drop-drop, drop_more, take-append-drop, length-take-le, drop_all, BlobId, Part, Contents, part_at, free_of, needed_for, HasRoom, IsPutAnswer, Call, Put, DropPart, DropId, no_contents, after_call, after_calls, IsLawfulCall, after_calls-append, fields, part_byte, size_text, spelling, IsWholeRecord, ReadTo, IsBad, HadRoomForPuts, head_text, HasHead, IsHead, IsNext, Steps, inl, inr, ∥∥₁_elim, ∥∥₁_map, Agrees, put_at, LeavesOnly, Keeps, records, Accepts, EitherWay, IsJournal, IsReady, WithOne, FitsEitherWay, ◌≢◌, Some, merely, FitsSome, FitsWithOne, Result, Ok, IfOk, IfErr, Journal, ChangeRefusal, Kept, Stopped, Holds, disk_of, span, EndsChange}
use Rattle.wal_store.specs.declared.contract.KeepError.{KeepError}
use Rattle.wal_journal.specs.declared.record.Head.{Head}
use Rattle.wal_journal.specs.inside.Opening.{fault_of}
use Rattle.std.specs.Coded.{Coded-set, coded_ℕ}
use Rattle.wal_store.specs.inside.Identifier.{id_code}
use Rattle.wal_store.specs.inside.Parts.{parts_code}
use Rattle.std.proofs.Math.Bridge.{le_prop}
use Rattle.wal_journal.specs.declared.journal.Why.{Why}
use Rattle.wal_journal.specs.inside.Journal.{IsStopped, IsWritten}
use Rattle.wal_store.specs.declared.contract.KeepError.TheVariants as keeps
use Rattle.wal_journal.specs.declared.record.Change.TheVariants as read
use Rattle.std.specs.FinMap as map
use Rattle.wal_journal.proofs.Records.{parts_once, text_parts, part_once, whole_id, whole_size, spelling_long, length-records-push, records-push, whole-push, lawful-push, stands_once, accepts_more}
use Rattle.wal_journal.proofs.Moments.{agrees_same, weaker, holds_settled}
use Rattle.wal_journal.proofs.NeverBad.{journal_read}

-- 38 bytes as a head
pub head_bytes : (text id : List ℕ) (size : ℕ) → length text ≡ 38 → ((i : ℕ) → get_or text i 0 < 256) → id ≡ take 32 (drop 1 text)
    → size ≡ from_be_bytes w32 (get_or text 34 0 ∷ get_or text 35 0 ∷ get_or text 36 0 ∷ get_or text 37 0 ∷ []) → text ≡ get_or text 0 0 ∷ (id ++ (get_or text 33 0 ∷ size_text size))
unfolding size_text
head_bytes text id size long small id_is size_is =
    let four : List ℕ = get_or text 34 0 ∷ get_or text 35 0 ∷ get_or text 36 0 ∷ get_or text 37 0 ∷ [] in
    let spelled : to_be_bytes w32 size ≡ four = be_bytes_4 four size refl (four_small text small) size_is in
    let within : 37 < length text = omega (arith, long) in
    cc (
      drop_more text 0 0 (omega arith),
      take-append-drop 32 (drop 1 text),
      drop-drop 32 1 text,
      drop_more text 33 0 (omega arith),
      drop_more text 34 0 (omega arith),
      drop_more text 35 0 (omega arith),
      drop_more text 36 0 (omega arith),
      drop_more text 37 0 within,
      drop_all 38 text (omega (arith, long)),
    )
  where
    four_small : (t : List ℕ) → ((i : ℕ) → get_or t i 0 < 256) → (i : ℕ) → get_or (get_or t 34 0 ∷ get_or t 35 0 ∷ get_or t 36 0 ∷ get_or t 37 0 ∷ []) i 0 < 256
    four_small t low i = grind (arith, low)

-- a head and what follows it, field by field
head_parts : (h : Head) (rest : List ℕ) → head_text h ++ rest ≡ h.kind ∷ (h.id.0 ++ (h.part ∷ (size_text h.size ++ rest)))
head_parts h rest = ap (λ (l : List ℕ). h.kind ∷ l) (append_assoc h.id.0 (h.part ∷ size_text h.size) rest)

-- a head, the bytes, and what follows
head_and : (h : Head) (c : Call) (rest : List ℕ) → HasHead h c → head_text h ++ ((fields c).bytes ++ rest) ≡ spelling c ++ rest
head_and h c rest has = head_parts h ((fields c).bytes ++ rest) ∙ (λ i. has.kind i ∷ (has.id i ++ (has.part i ∷ (size_text (has.size i) ++ ((fields c).bytes ++ rest))))) ∙ sym (text_parts (fields c) rest)

-- 38 bytes are one head at most
head_once : (h : Head) (c : Call) (bytes more : List ℕ) → take 38 bytes ≡ head_text h → length h.id.0 ≡ 32 → h.size < 2 ^ 32 → IsWholeRecord c → bytes ≡ spelling c ++ more → HasHead h c
head_once h c bytes more shown long small whole is =
    let f = fields c in
    let parts =
    parts_once h.kind f.kind h.part f.part h.size (length f.bytes) h.id.0 f.id (drop 38 bytes) (f.bytes ++ more)
    (long ∙ sym (whole_id c whole)) small (omega (arith, whole_size c whole))
    (cc (head_parts h (drop 38 bytes), shown, take-append-drop 38 bytes, is, text_parts f more)) in
    record { kind = parts.0; id = parts.1; part = parts.2; size = parts.3 }

-- fewer bytes than a record and a byte behind it
pub too_short : (contents : Contents) (bytes : List ℕ) → length bytes < 39 → IsBad contents bytes
too_short contents bytes short c next more whole lawful is = absurd (omega (arith, short, ap length is, length-append (spelling c) (next ∷ more), spelling_long c whole))

-- a head of no change
pub no_head : (contents : Contents) (bytes : List ℕ) (h : Head) → take 38 bytes ≡ head_text h → length h.id.0 ≡ 32 → h.size < 2 ^ 32 → ((c : Call) → IsWholeRecord c → HasHead h c → ⊥) → IsBad contents bytes
no_head contents bytes h shown long small none c next more whole lawful is = none c whole (head_once h c bytes (next ∷ more) shown long small whole is)

-- fewer bytes than the head says
pub too_long : (contents : Contents) (bytes : List ℕ) (h : Head) → take 38 bytes ≡ head_text h → length h.id.0 ≡ 32 → h.size < 2 ^ 32 → length bytes < 39 + h.size → IsBad contents bytes
too_long contents bytes h shown long small short c next more whole lawful is =
    let has = head_once h c bytes (next ∷ more) shown long small whole is in
    absurd (omega (arith, short, ap length is, length-append (spelling c) (next ∷ more), spelling_long c whole, has.size))

-- a put of what is held
put_held : (contents : Contents) (h : Head) (id : BlobId) (part : Part) (c : Call) → h.kind ≡ 1 → h.id ≡ id → h.part ≡ part_byte part → HasHead h c → IsLawfulCall contents c → part_at contents id part ≡ None
put_held contents h id part (Put id' part' bytes) kind own number has lawful =
    let same : id' ≡ id = (λ i. record { 0 = sym has.id i }) ∙ own in
    cc (lawful.0, same, part_once part' part (sym has.part ∙ number))
put_held contents h id part c kind own number has lawful = absurd (omega (arith, kind, has.kind))

-- a record that puts a part which is held already is bad
pub unlawful : (contents : Contents) (bytes : List ℕ) (h : Head) (id : BlobId) (part : Part) → take 38 bytes ≡ head_text h → length h.id.0 ≡ 32 → h.size < 2 ^ 32 → h.kind ≡ 1 → h.id ≡ id → h.part ≡ part_byte part
    → (part_at contents id part ≡ None → ⊥) → IsBad contents bytes
unlawful contents bytes h id part shown long small kind own number held c next more whole lawful is =
    held (put_held contents h id part c kind own number (head_once h c bytes (next ∷ more) shown long small whole is) lawful)

-- the record of a change whose head and bytes were read
pub record_is : (now : List ℕ) (tail : ℕ) (h : Head) (c : Call) → take 38 (drop (tail + 1) now) ≡ head_text h → HasHead h c → (fields c).bytes ≡ take h.size (drop (tail + 39) now) → drop (tail + 1) now ≡ spelling c ++ drop (tail + 39 + h.size) now
record_is now tail h c shown has bytes =
    let at : tail + 1 + 38 ≡ tail + 39 = omega arith in
    cc (
      take-append-drop 38 (drop (tail + 1) now),
      drop-drop 38 (tail + 1) now,
      take-append-drop h.size (drop (tail + 39) now),
      drop-drop h.size (tail + 39) now,
      head_and h c (drop (tail + 39 + h.size) now) has,
    )

module _ (now : List ℕ) (tail : ℕ) (h : Head) (id : BlobId) (old new : Contents) (gate : get_or now tail 0 ≡ 1) (shown : take 38 (drop (tail + 1) now) ≡ head_text h) (long : length h.id.0 ≡ 32) (fits : tail + 39 + h.size < length now) where
  -- the step of a change that is carried out, for which there is room
  next_step : (limit : Option ℕ) (next : ℕ) (c : Call) → HasHead h c
      → (fields c).bytes ≡ take h.size (drop (tail + 39) now) → next ≡ tail + 39 + h.size → IsWholeRecord c
      → IsLawfulCall old c → new ≡ after_call old c
      → HadRoomForPuts limit old (c ∷ [])
      → (n : IsNext now tail next old new) × HadRoomForPuts limit old (n.change ∷ [])
  next_step limit next c has bytes at whole lawful makes room = (
    record {
      change = c;
      whole = whole;
      lawful = lawful;
      is = cc (drop_more now tail 0 (omega (arith, fits)), gate, at, record_is now tail h c shown has bytes);
      at = omega (arith, at, spelling_long c whole, has.size);
      within = omega (arith, fits, at);
      makes = makes;
    },
    room,
  )

  module _ (part : Part) (bytes : List ℕ) (is : IsHead h (read.Put id part h.size)) (read_is : bytes ≡ take h.size (drop (tail + 39) now)) where
    put_long : length bytes ≡ h.size
    put_long = ap length read_is ∙ length-take-le h.size (drop (tail + 39) now) (omega (arith, fits, length-drop (tail + 39) now))

    put_has : HasHead h (Put id part bytes)
    put_has = record { kind = is.0; id = ap (λ (b : BlobId). b.0) is.1; part = is.2; size = sym put_long }

    put_whole : IsWholeRecord (Put id part bytes)
    put_whole = omega (arith, ap (λ (b : BlobId). length b.0) is.1, long, put_long, is.4, is.5)

    -- a put of a part that was not held is the next step, and the keep had room for it
    pub put_step : (limit : Option ℕ) → part_at old id part ≡ None → new ≡ after_call old (Put id part bytes) → HasRoom (free_of limit old) (needed_for old id bytes)
        → (n : IsNext now tail (tail + 39 + h.size) old new) × HadRoomForPuts limit old (n.change ∷ [])
    put_step limit absent makes room =
        next_step limit (tail + 39 + h.size) (Put id part bytes) put_has read_is refl put_whole
        (absent, put_whole.1, put_whole.2) makes (room, tt)

    -- a put that the keep refuses changes nothing, and ends the steps by the fault of its error
    pub put_full : (limit : Option ℕ) (may_want : Bool) (e : KeepError) → part_at old id part ≡ None → IsPutAnswer limit may_want old id bytes (Err e) → new ≡ old → Steps limit may_want now tail old new (Err (fault_of e))
    put_full limit may_want (keeps.Full needed free) absent answer same = (
      gate,
      record {
        id = id;
        part = part;
        put = bytes;
        whole = put_whole;
        lawful = (absent, put_whole.1, put_whole.2);
        next = get_or now (tail + 39 + h.size) 0;
        more = drop (tail + 39 + h.size + 1) now;
        is = record_is now tail h (Put id part bytes) shown put_has read_is ∙ ap (λ (l : List ℕ). spelling (Put id part bytes) ++ l) (drop_more now (tail + 39 + h.size) 0 fits);
        answer = answer;
      },
      same,
    )
    put_full limit may_want keeps.Memory absent answer same = same

  -- a record of no bytes
  drop_step : (limit : Option ℕ) (c : Call) → h.kind ≡ (fields c).kind → h.id.0 ≡ (fields c).id
      → h.part ≡ (fields c).part → h.size ≡ 0 → (fields c).bytes ≡ [] → IsWholeRecord c → IsLawfulCall old c
      → new ≡ after_call old c
      → HadRoomForPuts limit old (c ∷ [])
      → (n : IsNext now tail (tail + 39) old new) × HadRoomForPuts limit old (n.change ∷ [])
  drop_step limit c kind own part size none whole lawful makes room =
      let has : HasHead h c = record { kind = kind; id = own; part = part; size = size ∙ sym (ap length none) } in
      next_step limit (tail + 39) c has (rw size none) (omega (arith, size)) whole lawful makes room

  pub drop_part_step : (limit : Option ℕ) (part : Part) → IsHead h (read.DropPart id part) → new ≡ after_call old (DropPart id part) → (n : IsNext now tail (tail + 39) old new) × HadRoomForPuts limit old (n.change ∷ [])
  drop_part_step limit part is makes =
      drop_step limit (DropPart id part) is.0 (ap (λ (b : BlobId). b.0) is.1) is.2 is.3 refl (rw (← is.1) long) tt makes
      tt

  pub drop_id_step : (limit : Option ℕ) → IsHead h (read.DropId id) → new ≡ after_call old (DropId id) → (n : IsNext now tail (tail + 39) old new) × HadRoomForPuts limit old (n.change ∷ [])
  drop_id_step limit is makes =
      drop_step limit (DropId id) is.0 (ap (λ (b : BlobId). b.0) is.1) is.2 is.3 refl (rw (← is.1) long) tt makes tt

-- one record more was read
pub read_more : (now : List ℕ) (tail next : ℕ) (old new : Contents) (changes : List Call) → ReadTo now tail old changes → (n : IsNext now tail next old new) → ReadTo now next new (changes ++ n.change ∷ [])
read_more now tail next old new changes so_far n = record {
  whole = whole-push changes n.change so_far.whole n.whole;
  lawful = lawful-push changes n.change so_far.lawful (subst (λ m. IsLawfulCall m n.change) so_far.holds n.lawful);
  is = cc (so_far.is, n.is, records-push changes n.change (drop next now));
  at = omega (arith, length-records-push changes n.change, so_far.at, n.at);
  within = n.within;
  holds = cc (n.makes, so_far.holds, after_calls-append no_contents changes (n.change ∷ []));
}

-- room for changes, and then for more
pub room_both : (limit : Option ℕ) (held : Contents) (changes more : List Call) → HadRoomForPuts limit held changes → HadRoomForPuts limit (after_calls held changes) more → HadRoomForPuts limit held (changes ++ more)
room_both limit held [] more so_far room = room
room_both limit held (Put id part bytes ∷ changes) more so_far room = (so_far.0, room_both limit (after_call held (Put id part bytes)) changes more so_far.1 room)
room_both limit held (c ∷ changes) more so_far room = room_both limit (after_call held c) changes more so_far room

-- ---- what a journal knows of its disk, and what it is after one more change

-- a journal of some changes
abbrev pub HasSome : List ℕ → ℕ → Contents → Type 0
HasSome now tail contents = ∥ ((changes : List Call) × IsJournal now tail contents changes) ∥₁

-- where the gate stands, and what the keep holds
pub stands_now : {now : List ℕ} {tail : ℕ} {contents : Contents} (changes : List Call) → HasSome now tail contents
    → Accepts now changes → (length (records changes) ≡ tail) × (contents ≡ after_calls no_contents changes)
stands_now {now} {tail} {contents} changes some accepts =
    let one : IsProp (contents ≡ after_calls no_contents changes) = Coded-set (map.code id_code parts_code) _ _ in
    ∥∥₁_elim some (hlevel (Coded-set coded_ℕ, one)) (λ j.
    rw (← stands_once now j.0 changes j.1.accepts.stands accepts.stands) (j.1.at, j.1.holds))

module _ {now text : List ℕ} {tail : ℕ} {contents : Contents} (c : Call) (some : HasSome now tail contents)
    (whole : IsWholeRecord c) (lawful : IsLawfulCall contents c) (text_is : text ≡ spelling c ++ 0 ∷ []) where
  -- a change that is lawful now is ready behind any changes that the disk accepts
  pub ready : (changes : List Call) → Accepts now changes → IsReady now tail text changes c
  ready changes accepts = record {
    accepts = accepts;
    at = (stands_now changes some accepts).0;
    whole = whole;
    lawful = rw (stands_now changes some accepts).1 at lawful;
    text_is = text_is;
  }

  -- contents after the change are what some change that is ready makes
  pub with_one : (after : Contents) → after ≡ after_call contents c → ∥ WithOne now tail text after ∥₁
  with_one after made =
      ∥∥₁_map some (λ j.
      (j.0, c, ready j.0 j.1.accepts, cc (made, j.1.holds, after_calls-append no_contents j.0 (c ∷ []))))

  -- for which the keep has room
  pub fits_with_one : {limit most : Option ℕ} → most ≡ limit → HadRoomForPuts limit contents (c ∷ [])
      → ∥ FitsSome now limit ∥₁ → ∥ FitsWithOne now tail text most ∥₁
  fits_with_one {limit} same room fits =
      ∥∥₁_map fits (λ f.
      let before = rw (stands_now f.0 some f.1).1 at room in
      (f.0, c, ready f.0 f.1, rw same (room_both limit no_contents f.0 (c ∷ []) f.2 before)))

-- the disk after its record was written
pub journal_more : {now new : List ℕ} {tail : ℕ} {text : List ℕ} {contents : Contents}
    → ∥ WithOne now tail text contents ∥₁
    → new ≡ put_at tail (1 ∷ []) (put_at (tail + 1) text now) → HasSome new (tail + length text) contents
journal_more {new = new} one written =
    ∥∥₁_map one (λ w.
    let long = ap length w.2.text_is ∙ length-append (spelling w.1) (0 ∷ []) in (
      w.0 ++ w.1 ∷ [],
      record {
        accepts = accepts_more w.2 new written;
        at = omega (arith, length-records-push w.0 w.1, w.2.at, long);
        holds = w.3;
      },
    ))

-- a change for which there is room, or may be
pub with_room : (limit : Option ℕ) (held : Contents) (c : Call) {changes : List Call} {image : List ℕ}
    → HadRoomForPuts limit held (c ∷ []) → EitherWay changes c image → FitsEitherWay limit held changes c image
with_room limit held c room (inl without) = inl without
with_room limit held c room (inr with_it) = inr (room, with_it)

-- a change has happened or not, whatever is known of room
pub either_of : (limit : Option ℕ) (held : Contents) (c : Call) {changes : List Call} {image : List ℕ}
    → FitsEitherWay limit held changes c image → EitherWay changes c image
either_of limit held c (inl without) = inl without
either_of limit held c (inr with_it) = inr with_it.1

-- what a crash leaves goes on after what each crash left before
pub keeps_change : {D : Type 0} {now : D → List ℕ} {pending : D → List (ℕ × ℕ)} {clock : D → ℕ}
    {since : D → ℕ → List ℕ → Type 0}
    → ((disk : D) (image : List ℕ) (t : ℕ) → t ≤ clock disk → Agrees (pending disk) (now disk) image → since disk t image) → {old new : D} {c : Call}
    → ((changes : List Call) → Accepts (now old) changes → LeavesOnly clock since old new (EitherWay changes c)) → Keeps clock since old new
keeps_change {now = now} {pending} {clock} counts_now {old} {c = c} run = λ changes holds.
    let here = holds (now old) (counts_now old (now old) (clock old) (omega arith) (agrees_same (pending old) (now old))) in
    weaker (run (changes ++ here.0) here.1) (λ image. elim [
      | inl without ↦ (here.0, without)
      | inr with_it ↦ (here.0 ++ c ∷ [], rw (← append_assoc changes here.0 (c ∷ [])) with_it)
    ])

-- ---- an empty keep of a journal's limit has room for the changes on its disk

has_room_prop : (free : Option ℕ) (needed : ℕ) → IsProp (HasRoom free needed)
has_room_prop None needed = λ a b. refl
has_room_prop (Some free) needed = le_prop

had_room_prop : (limit : Option ℕ) (held : Contents) (changes : List Call) → IsProp (HadRoomForPuts limit held changes)
had_room_prop limit held [] = hlevel
had_room_prop limit held (Put id part bytes ∷ changes) =
    hlevel (has_room_prop (free_of limit held) (needed_for held id bytes), had_room_prop limit (after_call held (Put id part bytes)) changes)
had_room_prop limit held (c ∷ changes) = had_room_prop limit (after_call held c) changes

-- so it has for any that the disk accepts
pub room_now : (now : List ℕ) (limit : Option ℕ) (changes : List Call) → ∥ FitsSome now limit ∥₁ → Accepts now changes → HadRoomForPuts limit no_contents changes
room_now now limit changes fits accepts =
    ∥∥₁_elim fits (had_room_prop limit no_contents changes) (λ f. subst (λ (l : List Call). HadRoomForPuts limit no_contents l) (stands_once now f.0 changes f.1.stands accepts.stands) f.2)

-- the disk after its record was written
pub fits_more : {now new : List ℕ} {tail : ℕ} {text : List ℕ} (limit : Option ℕ) → ∥ FitsWithOne now tail text limit ∥₁
    → new ≡ put_at tail (1 ∷ []) (put_at (tail + 1) text now) → ∥ FitsSome new limit ∥₁
fits_more {new = new} limit one written = ∥∥₁_map one (λ w. (w.0 ++ w.1 ∷ [], accepts_more w.2 new written, w.3))

-- what was read up to a closed gate
pub fits_read : (now bytes : List ℕ) (tail : ℕ) (contents : Contents) (limit most : Option ℕ) (changes : List Call) → bytes ≡ now → most ≡ limit → ReadTo now tail contents changes → get_or now tail 0 ≢ 1 → HadRoomForPuts limit no_contents changes
    → ∥ FitsSome bytes most ∥₁
fits_read now bytes tail contents limit most changes same kept so_far closed room =
    merely (changes, rw same (journal_read now tail contents changes so_far closed).accepts, rw kept room)

-- ---- how a change ends that is written behind those that are accepted

-- the record of one change: its gate, and its text
length-record : (c : Call) (text : List ℕ) → text ≡ spelling c ++ 0 ∷ [] → length text ≡ length (records (c ∷ []))
length-record c text is = omega (arith, ap length is, length-append (spelling c) (0 ∷ []), length-append (spelling c) [])

only_span : (c : Call) (text old new : List ℕ) (tail : ℕ) → text ≡ spelling c ++ 0 ∷ []
    → Agrees ((tail, 1 + length text) ∷ []) old new → Agrees ((tail, span (c ∷ [])) ∷ []) old new
only_span c text old new tail is only =
    let one : 1 + length text ≡ span (c ∷ []) = omega (arith, length-record c text is) in rw one at only

module _ {D K : Type 0} {d : _} {k : _} (now : D → List ℕ) (faults : D → ℕ) (contents : K → Contents) (limit : K → Option ℕ) where
  -- a change ends as its writing did: written with the keep, or stopped
  pub ends_of : (is_why : Why → Type 0) (old : Journal D K d k) (c : Call) {text : List ℕ} (keep : K)
      (result : Result (Journal D K d k) (ChangeRefusal D K d k)) → HasSome (now old.disk) old.tail (contents old.keep)
      → IsWholeRecord c → IsLawfulCall (contents old.keep) c → text ≡ spelling c ++ 0 ∷ []
      → HadRoomForPuts (limit old.keep) (contents old.keep) (c ∷ []) → contents keep ≡ after_call (contents old.keep) c
      → limit keep ≡ limit old.keep → IfOk result (IsWritten now (now old.disk) old.tail text keep)
      → IfErr result (IsStopped now faults old.disk old.tail text keep)
      → EndsChange now faults contents limit is_why c old result
  ends_of is_why old c {text} keep (Ok journal) some whole lawful is room made same written stopped = record {
    accepts = λ changes accepts. written.accepts changes c (ready c some whole lawful is changes accepts);
    room = room;
    holds = ap contents written.kept ∙ made;
    limit = ap limit written.kept ∙ same;
    tail = cc (written.tail, length-record c text is);
    gate = λ none. written.gate (spelling c) is;
    size = written.size;
    only = only_span c text _ _ _ is written.only;
  }
  ends_of is_why old c keep (Err (Kept journal why)) some whole lawful is room made same written stopped = absurd stopped
  ends_of is_why old c {text} keep (Err (Stopped disk keep')) some whole lawful is room made same written stopped = record {
    rose = stopped.rose;
    only = only_span c text _ _ _ is stopped.only;
    leaves = λ changes accepts.
        with_room _ _ c room (stopped.leaves changes c (ready c some whole lawful is changes accepts));
    holds = ap contents stopped.kept ∙ made;
    limit = ap limit stopped.kept ∙ same;
  }

  -- each crash goes on after the change
  pub held_after : {pending : D → List (ℕ × ℕ)} (clock : D → ℕ) (since : D → ℕ → List ℕ → Type 0) → ((disk : D) (image : List ℕ) → since disk (clock disk) image → Agrees (pending disk) (now disk) image)
      → (is_why : Why → Type 0) (c : Call) (old : Journal D K d k) (changes : List Call)
      (result : Result (Journal D K d k) (ChangeRefusal D K d k))
      → EndsChange now faults contents limit is_why c old result
      → Accepts (now old.disk) changes → IfOk result (λ journal. pending (disk_of journal) ≡ []) → IfOk result (λ journal. Holds clock since (disk_of journal) (changes ++ c ∷ []))
  held_after clock since only_now is_why c old changes (Ok journal) ends accepts settled =
      holds_settled clock since only_now settled (ends.accepts changes accepts)
  held_after clock since only_now is_why c old changes (Err refusal) ends accepts settled = tt
