-- The puts of payloads, made one after the other.
use Rattle.wal_journal.proofs.Common.{◌≡◌, inl, inr, ℕ, ◌+◌, ◌-◌, ◌<◌, ◌≤◌, ◌↔◌, Bool, true, Option, Some, List, [], ◌∷◌, ◌++◌, length, take, drop, get_or, Result, Ok, Err, refl, ap, ◌∙◌, arith, length-append, append_assoc, append-nil, take-append-drop, drop_more, take_more, BlobId, Part, Contents, free_of, needed_for, HasRoom, Call, Put, after_calls, after_calls-append, Journal, ChangeRefusal, Kept, Stopped, Agrees, LeavesOnly, Holds, Keeps, spelling, records, Accepts, HadRoomForPuts, disk_after, FitsEitherWay, IsDiskFull, IsTried, IsPutWhy, span, Takes, EndsChange, put_in, is_lawful, and_more, puts_of, AcceptsFront, Packs}
use Rattle.wal_port.specs.Faults.{Rose}
use Rattle.wal_frame.specs.Reading.{read_of}
use Rattle.wal_journal.proofs.Records.{spelling_size, records-append}
use Rattle.wal_journal.proofs.Moments.{agrees_same, agrees_trans, agrees_wider, both_runs, weaker, after_run}
use Rattle.wal_journal.proofs.HeldLaws.{either_of, room_both}

-- ---- which puts they are

more-append : (held : Contents) (x : Option Call) (both first second : Contents → List Call) → ((now : Contents) → both now ≡ first now ++ second (after_calls now (first now)))
    → and_more held x both ≡ and_more held x first ++ second (after_calls held (and_more held x first))
more-append held x both first second each = grind arith

-- the puts of payloads in two parts
pub puts-append : (digest : List ℕ → List ℕ) (held : Contents) (a b : List (List ℕ)) → puts_of digest held (a ++ b) ≡ puts_of digest held a ++ puts_of digest (after_calls held (puts_of digest held a)) b
puts-append digest held [] b = refl
puts-append digest held (payload ∷ a) b =
    more-append held (put_in digest (read_of payload)) (λ now. puts_of digest now (a ++ b)) (λ now. puts_of digest now a) (λ now. puts_of digest now b) (λ now. puts-append digest now a b)

-- the puts of one payload
pub puts_one : (digest : List ℕ → List ℕ) (held : Contents) (payload : List ℕ) (c : Call) → put_in digest (read_of payload) ≡ Some c → is_lawful held c ≡ true
    → puts_of digest held (payload ∷ []) ≡ c ∷ []
puts_one digest held payload c some is = rw (some, is)

-- those of the first payloads, of the next one, and of the rest
pub puts_at : (digest : List ℕ → List ℕ) (held now : Contents) (payloads items : List (List ℕ)) (i : ℕ) (payload : List ℕ) → items ≡ payloads → i < length items → payload ≡ get_or items i payload
    → now ≡ after_calls held (puts_of digest held (take i items))
    → puts_of digest held payloads ≡ puts_of digest held (take i items) ++ (puts_of digest now (payload ∷ []) ++ puts_of digest (after_calls now (puts_of digest now (payload ∷ []))) (drop (i + 1) items))
puts_at digest held now payloads items i payload same within at is =
    cc (
      take-append-drop i items,
      drop_more items i payload within,
      puts-append digest held (take i items) (payload ∷ drop (i + 1) items),
      puts-append digest now (payload ∷ []) (drop (i + 1) items),
    )

pub puts_next : (digest : List ℕ → List ℕ) (held now : Contents) (items : List (List ℕ)) (i : ℕ) (payload : List ℕ) → i < length items → payload ≡ get_or items i payload → now ≡ after_calls held (puts_of digest held (take i items))
    → puts_of digest held (take (i + 1) items) ≡ puts_of digest held (take i items) ++ puts_of digest now (payload ∷ [])
puts_next digest held now items i payload within at is =
    cc (take_more items i payload within, puts-append digest held (take i items) (payload ∷ []))

-- ---- what a crash leaves

module _ (limit : Option ℕ) {held : Contents} where
  -- an image of these changes accepts a prefix of any puts behind them, the empty one
  pub front_none : {changes puts : List Call} {image : List ℕ} → Accepts image changes → AcceptsFront limit held changes puts image
  front_none {puts = puts} accepts = ([], puts, refl, tt, rw append-nil accepts)

  -- an image in which a change has happened or not accepts a prefix of this one change
  pub front_one : {changes : List Call} {c : Call} {image : List ℕ} → FitsEitherWay limit held changes c image → AcceptsFront limit held changes (c ∷ []) image
  front_one (inl without) = front_none without
  front_one {c = c} (inr with_it) = (c ∷ [], [], refl, with_it.0, with_it.1)

  -- puts, and then more of them, into a keep that holds what the first make
  pub front_run : {D : Type 0} {clock : D → ℕ} {since : D → ℕ → List ℕ → Type 0} {old mid new : D} {most : Option ℕ}
      {now : Contents} (changes a b more puts : List Call) → puts ≡ a ++ (b ++ more) → most ≡ limit
      → now ≡ after_calls held a → HadRoomForPuts limit held a
      → LeavesOnly clock since old mid (AcceptsFront limit held changes a)
      → LeavesOnly clock since mid new (AcceptsFront most now (changes ++ a) b)
      → LeavesOnly clock since old new (AcceptsFront limit held changes puts)
  front_run {clock = clock} {since} {old} {mid} changes a b more puts are same made room first second =
      let one : LeavesOnly clock since old mid (AcceptsFront limit held changes puts) = weaker first (λ image front.
      let all : puts ≡ front.0 ++ (front.1 ++ (b ++ more)) = cc (append_assoc front.0 front.1 (b ++ more)) in
      (front.0, front.1 ++ (b ++ more), all, front.3, front.4)) in
      both_runs one (weaker second (λ image front. (
        a ++ front.0,
        front.1 ++ more,
        cc (append_assoc front.0 front.1 more, append_assoc a front.0 (front.1 ++ more)),
        room_both _ _ a front.0 room (rw (← made, ← same) front.3),
        rw (← append_assoc changes a front.0) front.4,
      )))

-- what two changes in turn keep, both together keep
pub keeps_both : {D : Type 0} {clock : D → ℕ} {since : D → ℕ → List ℕ → Type 0}
    → ((disk : D) (image : List ℕ) (t later : ℕ) → t ≤ later → since disk later image → since disk t image)
    → {old mid new : D} → Keeps clock since old mid → Keeps clock since mid new → Keeps clock since old new
keeps_both earlier first second = λ changes holds.
    let run = first changes holds in
    both_runs run (second changes (after_run earlier run))

-- ---- which are made

length-records-append : (a b : List Call) → length (records (a ++ b)) ≡ length (records a) + length (records b)
length-records-append a b = ap length (records-append a b) ∙ length-append (records a) (records b)

-- the bytes that the records of some of the changes take
span_most : (changes : List Call) → span changes ≤ length (records changes) + 1
span_most [] = omega arith
span_most (c ∷ changes) = omega arith

span_parts : (a b : List Call) → (span a ≤ span (a ++ b)) × (length (records a) + span b ≤ span (a ++ b))
span_parts [] b = omega arith
span_parts (c ∷ a) b = omega (arith, span_most b, length-records-append (c ∷ a) b)

-- bytes that some changes wrote, and then others, are among those that all take
within_both : {tail mid : ℕ} (a b : List Call) {old between new : List ℕ} → mid ≡ tail + length (records a)
    → Agrees ((tail, span a) ∷ []) old between → Agrees ((mid, span b) ∷ []) between new
    → Agrees ((tail, span (a ++ b)) ∷ []) old new
within_both a b at first second =
    agrees_trans (agrees_wider (omega arith) (omega (arith, span_parts a b)) first)
    (agrees_wider (omega (arith, at)) (omega (arith, at, span_parts a b)) second)

rose_on : (first mid last : ℕ) → first ≤ mid → Rose mid last → Rose first last
rose_on first mid last later rose = grind arith

module _ {D K : Type 0} {d : _} {k : _} {now : D → List ℕ} {contents : K → Contents} {limit : K → Option ℕ} where
  -- with the same disk, tail, contents and limit, no call was taken
  pub takes_kept : {old new : Journal D K d k} → new.disk ≡ old.disk → new.tail ≡ old.tail → contents new.keep ≡ contents old.keep → limit new.keep ≡ limit old.keep → Takes now contents limit old [] new
  takes_kept {old} {new} disk tail held most = record {
    accepts = λ changes accepts. rw (append-nil, disk) accepts;
    room = tt;
    holds = held;
    limit = most;
    tail = omega (arith, tail);
    gate = λ closed. rw (disk, tail) (closed refl);
    size = ap (λ (e : D). length (now e)) disk;
    only = rw disk (agrees_same ((old.tail, 0) ∷ []) (now old.disk));
  }

  -- the calls that two changes take in turn, both together take
  pub takes_both : {old mid new : Journal D K d k} {a b : List Call} → Takes now contents limit old a mid → Takes now contents limit mid b new → Takes now contents limit old (a ++ b) new
  takes_both {old} {mid} {new} {a} {b} first second = record {
    accepts =
        λ changes accepts. rw (← append_assoc changes a b)
        (second.accepts (changes ++ a) (first.accepts changes accepts));
    room = room_both _ _ a b first.room (rw (← first.holds, ← first.limit) second.room);
    holds = cc (second.holds, first.holds, after_calls-append (contents old.keep) a b);
    limit = second.limit ∙ first.limit;
    tail = omega (arith, second.tail, first.tail, length-records-append a b);
    gate = λ closed. second.gate (λ none. first.gate (λ before. closed (ap (λ (l : List Call). l ++ b) before ∙ none)));
    size = second.size ∙ first.size;
    only = within_both a b first.tail first.only second.only;
  }

module _ {D K : Type 0} {d : _} {k : _} (now : D → List ℕ) (faults : D → ℕ) (contents : K → Contents) (limit : K → Option ℕ) (may_want tells : Bool)
    (clock : D → ℕ) (since : D → ℕ → List ℕ → Type 0) where
  -- one put, which is not refused for want of room on the disk where it fits, nor tried where the keep has no room for it
  pub packs_put : (id : BlobId) (part : Part) (bytes : List ℕ) (old : Journal D K d k) (puts : List Call) (result : Result (Journal D K d k) (ChangeRefusal D K d k)) → puts ≡ Put id part bytes ∷ [] → length id.0 ≡ 32
      → (IsDiskFull result ↔ (length (now old.disk) - old.tail - 1 < 39 + length bytes)) → (IsTried result → HasRoom (free_of (limit old.keep) (contents old.keep)) (needed_for (contents old.keep) id bytes))
      → EndsChange now faults contents limit (IsPutWhy (length (now old.disk)) old.tail (limit old.keep) may_want (contents old.keep) id bytes) (Put id part bytes) old result
      → (tells ≡ true → (changes : List Call) → Accepts (now old.disk) changes → Holds clock since (disk_after result) changes) → Packs now faults tells clock since contents limit may_want old puts result
  packs_put id part bytes old puts (Ok journal) are long full room ends stays = rw are ends
  packs_put id part bytes old puts (Err (Kept journal why)) are long full room ends stays = record {
    first = [];
    id = id;
    part = part;
    bytes = bytes;
    rest = [];
    are = are;
    long = long;
    takes = takes_kept ends.0 ends.1 ends.2 ends.3;
    refused = rw (ends.0, ends.1, ends.2, ends.3) ends.4;
  }
  packs_put id part bytes old puts (Err (Stopped disk keep)) are long full room ends stays = record {
    first = [];
    change = Put id part bytes;
    rest = [];
    are = are;
    fits =
        omega (arith, full.1, spelling_size (Put id part bytes) long, length-append (spelling (Put id part bytes)) []);
    room = (room tt, tt);
    rose = ends.rose;
    only = ends.only;
    leaves = λ changes accepts. rw append-nil (either_of _ _ _ (ends.leaves changes accepts));
    acknowledged = λ told changes accepts. rw append-nil (stays told changes accepts);
    holds = ends.holds;
    limit = ends.limit;
  }

  -- a refusal after some puts
  pub packs_refused : (old mid : Journal D K d k) (a b more puts : List Call) (refusal : ChangeRefusal D K d k) → puts ≡ a ++ (b ++ more) → faults old.disk ≤ faults mid.disk → Takes now contents limit old a mid
      → Packs now faults tells clock since contents limit may_want mid b (Err refusal) → Packs now faults tells clock since contents limit may_want old puts (Err refusal)
  packs_refused old mid a b more puts (Kept journal why) are later first last = record {
    first = a ++ last.first;
    id = last.id;
    part = last.part;
    bytes = last.bytes;
    rest = last.rest ++ more;
    are = rw (are, last.are) (simp append_assoc);
    long = last.long;
    takes = takes_both first last.takes;
    refused = last.refused;
  }
  packs_refused old mid a b more puts (Stopped disk keep) are later first last =
      let one : List Call = last.first ++ last.change ∷ [] in
      let both = append_assoc a last.first (last.change ∷ []) in
      record {
        first = a ++ last.first;
        change = last.change;
        rest = last.rest ++ more;
        are = rw (are, last.are) (simp append_assoc);
        fits = rw both (omega (arith, first.size, first.tail, last.fits, length-records-append a one));
        room = rw both (room_both _ _ a one first.room (rw (← first.holds, ← first.limit) last.room));
        rose = rose_on (faults old.disk) (faults mid.disk) (faults disk) later last.rose;
        only = rw both (within_both a one first.tail first.only last.only);
        leaves =
            λ changes accepts. rw (← append_assoc changes a last.first)
            (last.leaves (changes ++ a) (first.accepts changes accepts));
        acknowledged =
            λ told changes accepts. rw (← append_assoc changes a last.first)
            (last.acknowledged told (changes ++ a) (first.accepts changes accepts));
        holds = cc (last.holds, first.holds, after_calls-append (contents old.keep) a one, both);
        limit = last.limit ∙ first.limit;
      }
