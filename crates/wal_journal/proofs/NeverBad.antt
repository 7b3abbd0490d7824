-- Of an image that accepts changes no record is bad or finds no room when it is read, and opening it keeps what held.
use Rattle.wal_journal.proofs.Common.{◌≡◌, ◌≢◌, ℕ, ◌+◌, List, ◌∷◌, ◌++◌, drop, get_or, sym, ap, ◌∙◌, drop_more, Contents, Call, no_contents, after_calls, IsLawfulCall, AreLawful, records, Accepts, IsJournal, ReadTo, IsBad, Still, Bool, [], Option, Err, subst, arith, BlobId, HasRoom, IsPutAnswer, free_of, needed_for, Put, after_call, HadRoomForPuts, IsFull}
use Rattle.wal_store.specs.declared.contract.KeepError.TheVariants as keeps
use Rattle.wal_journal.proofs.Records.{Ends, one_end, stands_once, one_spelling}
use Rattle.wal_journal.proofs.Moments.{both_runs, weaker}

-- what was read, with the open gate behind it
pub read_to : (now : List ℕ) (at : ℕ) (contents : Contents) (changes : List Call) → ReadTo now at contents changes
    → get_or now at 0 ≡ 1 → now ≡ records changes ++ 1 ∷ drop (at + 1) now
read_to now at contents changes read gate = cc (read.is, drop_more now at 0 read.within)

-- no lawful change is spelled behind it
bad_ends : (now : List ℕ) (at : ℕ) (contents : Contents) (changes : List Call) → ReadTo now at contents changes
    → IsBad contents (drop (at + 1) now) → Ends IsLawfulCall (after_calls no_contents changes) (1 ∷ drop (at + 1) now)
bad_ends now at contents changes read bad = λ c next rest whole lawful is.
    bad c next rest whole (rw read.holds lawful) cc

pub never_bad : (now : List ℕ) (at : ℕ) (contents : Contents) (others changes : List Call) → ReadTo now at contents others → get_or now at 0 ≡ 1 → IsBad contents (drop (at + 1) now) → Accepts now changes → ⊥
never_bad now at contents others changes read gate bad accepts =
    let stands = accepts.stands in
    stands.closed (sym (one_end IsLawfulCall AreLawful (λ held c more all. all) no_contents others changes 1 stands.gate
    _ _ read.whole stands.whole read.lawful accepts.lawful (bad_ends now at contents others read bad)
    (λ c next rest whole lawful is. stands.closed cc) (sym (read_to now at contents others read gate) ∙ stands.is)).1)

-- a bad record stands at one place at most
pub bad_once : (now : List ℕ) (at place : ℕ) (contents held : Contents) (others changes : List Call) → ReadTo now at contents others → get_or now at 0 ≡ 1 → IsBad contents (drop (at + 1) now)
    → ReadTo now place held changes → get_or now place 0 ≡ 1 → IsBad held (drop (place + 1) now) → at ≡ place
bad_once now at place contents held others changes read gate bad so_far one worse =
    let same = one_end IsLawfulCall AreLawful (λ held c more all. all) no_contents others changes 1 1 _ _ read.whole
    so_far.whole read.lawful so_far.lawful (bad_ends now at contents others read bad)
    (bad_ends now place held changes so_far worse)
    (sym (read_to now at contents others read gate) ∙ read_to now place held changes so_far one) in
    cc (read.at, so_far.at, same.0)

-- what was read up to a closed gate
pub journal_read : (now : List ℕ) (tail : ℕ) (contents : Contents) (changes : List Call) → ReadTo now tail contents changes → get_or now tail 0 ≢ 1 → IsJournal now tail contents changes
journal_read now tail contents changes so_far closed = record {
  accepts = record {
    stands = record { whole = so_far.whole; gate = get_or now tail 0; rest = drop (tail + 1) now; is = so_far.is ∙ ap (λ (l : List ℕ). records changes ++ l) (drop_more now tail 0 so_far.within); closed = closed };
    lawful = so_far.lawful;
  };
  at = so_far.at;
  holds = so_far.holds;
}

-- of an image that accepts some changes, they are those
pub gives : (now bytes : List ℕ) (tail : ℕ) (contents : Contents) (others changes : List Call) → bytes ≡ now → ReadTo now tail contents others → get_or now tail 0 ≢ 1 → Accepts now changes → IsJournal bytes tail contents changes
gives now bytes tail contents others changes same so_far closed accepts =
    let journal : IsJournal now tail contents others = journal_read now tail contents others so_far closed in
    rw (same, ← stands_once now others changes journal.accepts.stands accepts.stands) journal

-- two runs that write nothing
pub still_both : {D : Type 0} {now : D → List ℕ} {pending : D → List (ℕ × ℕ)} {clock : D → ℕ}
    {since : D → ℕ → List ℕ → Type 0} {old mid new : D} → now mid ≡ now old → Still now pending clock since old mid
    → Still now pending clock since mid new → Still now pending clock since old new
still_both same first second = record {
  same = second.same ∙ first.same;
  run = both_runs first.run (weaker second.run (λ image left. rw (← same, ← first.same) left));
}

-- ---- an image whose changes a keep had room for is read into one of the same limit, and that is not full

-- where there is room the answer is not that there is none
has_room : (limit : Option ℕ) (may_want : Bool) (contents : Contents) (id : BlobId) (bytes : List ℕ) (needed free : ℕ) → HasRoom (free_of limit contents) (needed_for contents id bytes)
    → IsPutAnswer limit may_want contents id bytes (Err (keeps.Full needed free)) → ⊥
has_room limit may_want contents id bytes needed free room answer = grind arith

-- room for the first change, and for those behind it
room_parts : (limit : Option ℕ) (held : Contents) (c : Call) (changes : List Call)
    → HadRoomForPuts limit held (c ∷ changes)
    → HadRoomForPuts limit held (c ∷ []) × HadRoomForPuts limit (after_call held c) changes
room_parts limit held (Put id part bytes) changes room = ((room.0, tt), room.1)
room_parts limit held c changes room = (tt, room)

pub never_full : (limit : Option ℕ) (may_want : Bool) (now : List ℕ) (at : ℕ) (contents : Contents) (others changes : List Call) (needed free : ℕ) → ReadTo now at contents others → get_or now at 0 ≡ 1
    → IsFull limit may_want contents (drop (at + 1) now) needed free → HadRoomForPuts limit no_contents others
    → Accepts now changes → HadRoomForPuts limit no_contents changes → ⊥
never_full limit may_want now at contents others changes needed free read gate full before accepts room =
    let stands = accepts.stands in
    let May : Contents → Call → Type 0 = λ held c. HadRoomForPuts limit held (c ∷ []) in
    let none : Ends May (after_calls no_contents others) (1 ∷ drop (at + 1) now) = λ c next rest whole fits is.
    let put : Call = Put full.id full.part full.put in
    let same = one_spelling c put (next ∷ rest) (full.next ∷ full.more) whole full.whole cc in
    let here = subst (λ (e : Call). HadRoomForPuts limit contents (e ∷ [])) same.0 (rw read.holds fits) in
    has_room limit may_want contents full.id full.put needed free here.0 full.answer in
    let same = one_end May (HadRoomForPuts limit) (room_parts limit) no_contents others changes 1 stands.gate _ _
    read.whole stands.whole before room none
    (λ c next rest whole fits is. stands.closed cc) (sym (read_to now at contents others read gate) ∙ stands.is) in
    stands.closed (sym same.1)
