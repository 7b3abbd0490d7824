-- Streams that are taken in pieces.
use Rattle.wal_reader.proofs.Common.{◌≡◌, ℕ, suc, ◌+◌, ◌-◌, ◌^◌, ◌<◌, ◌≤◌, inl, inr, true, false, List, [], ◌∷◌, ◌++◌, length, take, drop, refl, sym, ap, ◌∙◌, append_assoc, append-nil, arith, replicate, cases_lt, take_all, take-append-drop, length-take, length-drop, length-append, length-replicate, nil_from_length, All-append, All-from_get_or, number_text, IsBytes, IsBytes-drop, IsBytes-take, wide32, envelope, BeginsNone, IsPart, IsWrong, IsPayload, IsStream, size_in, envelope_at, HeardState, HasHeard, IsSettledState, AreBytes, IntakeState, ReadsPast, KeepsPart, past, StandsAt, Takes, IsUnfinished, IsLacking, CannotMatter, Hears, IsSound, Moves, Refuses, FeedError, Malformed, TooLong, Memory}
use Rattle.std.specs.Int.{w16, w32, from_be_bytes}
use Rattle.wal_frame.proofs.StreamLaws.{head_parts, envelope_read, stream_grows}
use Rattle.wal_reader.specs.Intake.{kept}

-- ---- streams are cut in one way

-- bytes begin with one envelope
envelope_same : (s t : ℕ) (p q a b : List ℕ) → IsPayload p → IsPayload q → envelope s p ++ a ≡ envelope t q ++ b → (p ≡ q) × (a ≡ b)
envelope_same s t p q a b fits other same =
    grind (arith, envelope_read (envelope s p ++ a) s p a fits refl, envelope_read (envelope s p ++ a) t q b other same)

-- no whole envelope stands at the front of a part of one
pub part_none : (bytes : List ℕ) → IsPart bytes → BeginsNone bytes
part_none bytes part sender payload after fits same = grind arith

-- no whole envelope stands at the front of wrong bytes
pub wrong_none : (bytes : List ℕ) → IsWrong bytes → BeginsNone bytes
wrong_none bytes wrong sender payload after fits same = grind arith

-- wrong bytes are no part of an envelope
pub wrong_part : (bytes : List ℕ) → IsWrong bytes → IsPart bytes → ⊥
wrong_part bytes wrong part = grind arith

-- bytes are cut into whole envelopes and a rest in one way
pub one_cut : (ps qs : List (List ℕ)) (f g r s : List ℕ) → IsStream ps f → IsStream qs g → BeginsNone r → BeginsNone s → f ++ r ≡ g ++ s
    → (ps ≡ qs) × (length f ≡ length g) × (r ≡ s)
one_cut [] [] f g r s hf hg nr ns e = (refl, cc, cc)
one_cut [] (q ∷ qs) f g r s hf hg nr ns e =
    absurd (nr hg.0 q (hg.1 ++ s) hg.2 (cc (hg.3, append_assoc (envelope hg.0 q) hg.1 s)))
one_cut (p ∷ ps) [] f g r s hf hg nr ns e =
    absurd (ns hf.0 p (hf.1 ++ r) hf.2 (cc (hf.3, append_assoc (envelope hf.0 p) hf.1 r)))
one_cut (p ∷ ps) (q ∷ qs) f g r s hf hg nr ns e =
    let whole : envelope hf.0 p ++ (hf.1 ++ r) ≡ envelope hg.0 q ++ (hg.1 ++ s) =
    cc (hf.3, hg.3, append_assoc (envelope hf.0 p) hf.1 r, append_assoc (envelope hg.0 q) hg.1 s) in
    let same = envelope_same hf.0 hg.0 p q (hf.1 ++ r) (hg.1 ++ s) hf.2 hg.2 whole in
    let rest = one_cut ps qs hf.1 hg.1 r s hf.4 hg.4 nr ns same.1 in
    (cc (same.0, rest.0), omega (arith, simp length-append at (ap length e), ap length rest.2), rest.2)

-- ---- parts of envelopes

-- a front of an envelope is a part of one
pub front_part : (rest more : List ℕ) (sender : ℕ) (payload : List ℕ) → IsPayload payload → rest ++ more ≡ envelope sender payload → 0 < length more → IsPart rest
front_part [] more sender payload fits text some = tt
front_part (b ∷ bytes) more sender payload fits text some = (
  cc,
  λ other start after small same.
      let none = envelope_same sender other payload start [] (after ++ more) fits small
      (cc (append-nil (envelope sender payload), text, same, append_assoc (envelope other start) after more)) in
      absurd (omega (arith, ap length none.1, length-append after more, some)),
)

-- the payload of an envelope that is not whole is not all there
pub unfinished_long : (bytes : List ℕ) → IsUnfinished bytes → 7 ≤ length bytes → length bytes < 7 + size_in bytes
unfolding envelope_at
unfinished_long bytes is long = grind (arith, length-drop)

-- the elements of a text of bytes are bytes
bytes_all : (xs : List ℕ) → IsBytes xs → AreBytes xs
bytes_all xs fits = All-from_get_or (λ b. b < 256) xs 0 (λ i l. fits i)

-- and so are the first ones
pub taken_bytes : (count : ℕ) (xs : List ℕ) → IsBytes xs → AreBytes (take count xs)
taken_bytes count xs fits = bytes_all (take count xs) (IsBytes-take count xs fits)

-- with the bytes that are missing it is one
pub lacking_whole : (bytes : List ℕ) (missing : ℕ) → IsBytes bytes → IsPart bytes → 7 ≤ length bytes → length bytes + missing ≡ 7 + size_in bytes → IsLacking bytes missing
lacking_whole [] missing fits part long count more is = absurd (omega arith)
lacking_whole (b ∷ bytes) missing fits part long count more is =
    let size = size_in (b ∷ bytes) in
    let tail : IsBytes bytes = λ i. fits (suc i) in
    let sender = from_be_bytes w16 (take 2 bytes) in
    let start = drop 6 bytes in
    let parts = head_parts bytes tail (omega (arith, long)) in
    let len : length (start ++ more) ≡ size =
    omega (arith, length-append start more, length-drop 6 bytes, is, count, long) in
    let small : size < 2 ^ 32 = wide32.below (take 4 (drop 2 bytes)) (IsBytes-take 4 (drop 2 bytes) (IsBytes-drop 2 bytes tail)) in (
      sender,
      start ++ more,
      omega (arith, len, small),
      cc (part.0, parts, append_assoc (number_text w16 sender ++ number_text w32 size) start more, len),
      len,
      λ all. All-append (λ b. b < 256) start more (bytes_all start (IsBytes-drop 6 bytes tail)) all,
    )

-- ---- what is kept

-- if no bytes are missing, the rest is what is kept
pub rest_kept : (digest : List ℕ → List ℕ) (id : List ℕ) (i : IntakeState) (payloads : List (List ℕ)) (rest : List ℕ) → KeepsPart digest id i payloads rest → i.missing ≡ 0 → rest ≡ i.kept
rest_kept digest id i payloads rest keeps h = grind arith

-- if bytes are missing, the rest is read past so far
pub rest_past : (digest : List ℕ → List ℕ) (id : List ℕ) (i : IntakeState) (payloads : List (List ℕ)) (rest : List ℕ) → KeepsPart digest id i payloads rest → 0 < i.missing
    → ReadsPast digest id i.heard payloads i.missing rest
rest_past digest id i payloads rest (kept none is) h = absurd (omega (arith, none, h))
rest_past digest id i payloads rest (past some none reads) h = reads

-- an envelope is whole, and its payload was heard
pub ended : (digest : List ℕ → List ℕ) (id : List ℕ) (old new : IntakeState) (stream bytes : List ℕ) (sender : ℕ) (payload : List ℕ) (s : StandsAt digest id old stream) → IsPayload payload
    → s.rest ++ bytes ≡ envelope sender payload → HasHeard digest id new.heard (s.payloads ++ payload ∷ []) → new.missing ≡ 0 → new.kept ≡ []
    → new.taken ≡ old.taken + length bytes → new.place ≡ new.taken → StandsAt digest id new (stream ++ bytes)
ended digest id old new stream bytes sender payload s fits text heard none empty count place =
    let front = s.front ++ envelope sender payload in
    let parts : stream ++ bytes ≡ front ++ [] = cc (s.cut.parts, append_assoc s.front s.rest bytes, append-nil front) in
    let long : length (stream ++ bytes) ≡ new.taken = omega (arith, length-append stream bytes, s.taken, count) in
    record {
      payloads = s.payloads ++ payload ∷ [];
      front = front;
      rest = [];
      cut = record { parts = parts; whole = stream_grows s.payloads s.front sender payload s.cut.whole fits; part = tt };
      heard = heard;
      taken = long;
      place = omega (arith, ap length (parts ∙ append-nil front), long, place);
      keeps = kept none (sym empty);
    }

-- the part of an envelope is longer
pub grown : (digest : List ℕ → List ℕ) (id : List ℕ) (old new : IntakeState) (stream bytes : List ℕ) (s : StandsAt digest id old stream) → IsPart (s.rest ++ bytes)
    → HasHeard digest id new.heard s.payloads → new.taken ≡ old.taken + length bytes → new.place ≡ old.place → KeepsPart digest id new s.payloads (s.rest ++ bytes)
    → StandsAt digest id new (stream ++ bytes)
grown digest id old new stream bytes s part heard count place keeps = record {
  payloads = s.payloads;
  front = s.front;
  rest = s.rest ++ bytes;
  cut = record { parts = ap (λ (t : List ℕ). t ++ bytes) s.cut.parts ∙ append_assoc s.front s.rest bytes; whole = s.cut.whole; part = part };
  heard = heard;
  taken = omega (arith, length-append stream bytes, s.taken, count);
  place = s.place ∙ sym place;
  keeps = keeps;
}

-- an envelope that is kept is read past from here on
pub begins_past : (digest : List ℕ → List ℕ) (old new : IntakeState) → old.missing ≡ 0 → CannotMatter digest old.heard (size_in old.kept) → IsLacking old.kept new.missing → 0 < new.missing
    → new.kept ≡ [] → new.heard ≡ old.heard → new.taken ≡ old.taken → new.place ≡ old.place → Takes digest old new []
begins_past digest old new none matter lacking some empty same count place id stream s =
    let is = rest_kept digest id old s.payloads s.rest s.keeps none in
    let whole = append-nil s.rest in
    let reads : ReadsPast digest id new.heard s.payloads new.missing (s.rest ++ []) = (λ more long.
    let l = lacking more long in
    (l.0, l.1, l.2, cc (whole, is, l.3), λ all. rw same (matter id s.payloads l.1 s.heard (l.5 all) l.2 l.4))) in
    grown digest id old new stream [] s (rw whole s.cut.part) (rw same s.heard) (omega (arith, count)) place
    (past some empty reads)

-- so many bytes
abbrev zeros : ℕ → List ℕ
zeros n = replicate n 0

zeros_long : (n : ℕ) → length (zeros n) ≡ n
zeros_long n = length-replicate {A = ℕ} n 0

-- more of it is read past
pub goes_past : (digest : List ℕ → List ℕ) (old new : IntakeState) (bytes : List ℕ) → AreBytes bytes → 0 < old.missing → old.missing ≡ new.missing + length bytes → 0 < new.missing
    → new.kept ≡ [] → new.heard ≡ old.heard → new.taken ≡ old.taken + length bytes → new.place ≡ old.place → Takes digest old new bytes
goes_past digest old new bytes these some left more_left empty same count place id stream s =
    let reads = rest_past digest id old s.payloads s.rest s.keeps some in
    let on : ReadsPast digest id new.heard s.payloads new.missing (s.rest ++ bytes) = (λ more long.
    let l = reads (bytes ++ more) (omega (arith, length-append bytes more, long, left)) in
    let all = All-append (λ b. b < 256) bytes more these in
    (l.0, l.1, l.2, cc (append_assoc s.rest bytes more, l.3), λ are. rw same (l.4 (all are)))) in
    let l = on (zeros new.missing) (zeros_long new.missing) in
    let part = front_part (s.rest ++ bytes) (zeros new.missing) l.0 l.1 l.2 l.3 (omega (arith, zeros_long new.missing, more_left)) in
    grown digest id old new stream bytes s part (rw same s.heard) count place (past more_left empty on)

-- all of it is read past
pub ends_past : (digest : List ℕ → List ℕ) (old new : IntakeState) (bytes : List ℕ) → AreBytes bytes → 0 < old.missing → old.missing ≡ length bytes → new.missing ≡ 0
    → new.kept ≡ [] → new.heard ≡ old.heard → new.taken ≡ old.taken + length bytes → new.place ≡ new.taken → Takes digest old new bytes
ends_past digest old new bytes these some left none empty same count place id stream s =
    let l = rest_past digest id old s.payloads s.rest s.keeps some bytes (sym left) in
    ended digest id old new stream bytes l.0 l.1 s l.2 l.3 (rw same (l.4 these)) none empty count place

-- what was heard, and this payload
abbrev pub HearsOne : (List ℕ → List ℕ) → HeardState → HeardState → List ℕ → Type 0
HearsOne digest old new payload = (id : List ℕ) (payloads : List (List ℕ)) → HasHeard digest id old payloads → HasHeard digest id new (payloads ++ payload ∷ [])

-- with these bytes it is whole, and its payload was heard
pub ends_kept : (digest : List ℕ → List ℕ) (old new : IntakeState) (bytes : List ℕ) (sender : ℕ) (payload : List ℕ) → IsPayload payload → old.missing ≡ 0
    → old.kept ++ bytes ≡ envelope sender payload → HearsOne digest old.heard new.heard payload → new.missing ≡ 0 → new.kept ≡ []
    → new.taken ≡ old.taken + length bytes → new.place ≡ new.taken → Takes digest old new bytes
ends_kept digest old new bytes sender payload fits none text hears still empty count place id stream s =
    let is = rest_kept digest id old s.payloads s.rest s.keeps none in
    ended digest id old new stream bytes sender payload s fits (rw is text) (hears id s.payloads s.heard) still empty count place

-- no more is kept than is missing
pub nothing_after : (front bytes : List ℕ) (missing sender : ℕ) (payload after : List ℕ) → IsPayload payload → front ++ bytes ≡ envelope sender payload ++ after → length bytes ≤ missing
    → (length front < 7 → length front + missing ≡ 7) → (7 ≤ length front → IsLacking front missing) → after ≡ []
nothing_after front bytes missing sender payload after fits text few head whole =
    elim (cases_lt (length front) 7) [
      | inl short ↦ nil_from_length after (omega (arith, simp length-append at (ap length text), head short, few))
      | inr enough ↦
          let pad = zeros (missing - length bytes) in
          let l = whole enough (bytes ++ pad) (omega (arith, length-append bytes pad, zeros_long (missing - length bytes), few)) in
          let left = append_assoc front bytes pad in
          let right = append_assoc (envelope sender payload) after pad in
          let none = envelope_same sender l.0 payload l.1 (after ++ pad) [] fits l.2
          (cc (text, l.3, left, right, append-nil (envelope l.0 l.1))) in
          nil_from_length after (omega (arith, ap length none.1, length-append after pad))
    ]

-- so many bytes of a piece were taken
pub moved : (digest : List ℕ → List ℕ) (old new : IntakeState) (piece : List ℕ) (count : ℕ) → 0 < count → count ≤ length piece → new.taken ≡ old.taken + count
    → Takes digest old new (take count piece) → IsSound new → (IsSettledState old.heard → IsSettledState new.heard)
    → Moves digest old new piece (take (length piece - count) (drop count piece))
moved digest old new piece count some le total takes sound settled =
    let left = take_all (length piece - count) (drop count piece) (omega (arith, length-drop count piece)) in record {
      bytes = take count piece;
      parts = cc (take-append-drop count piece, left);
      some = omega (arith, length-take count piece, some, le);
      takes = takes;
      count = omega (arith, length-take count piece, le, total);
      sound = sound;
      settled = settled;
    }

-- where nothing is kept there is nothing to be read
pub sound_empty : (i : IntakeState) → 64019 ≤ i.room → i.taken ≤ 134217728 → i.kept ≡ [] → IsSound i
unfolding envelope_at
sound_empty i room limit none =
    record { room = room; limit = limit; unfinished = rw none (refl, tt); apart = λ some. none }

-- an envelope that was kept is whole
pub kept_whole : (digest : List ℕ → List ℕ) (old new : IntakeState) (front all bytes : List ℕ) (missing : ℕ)
    → front ≡ old.kept → all ≡ old.kept ++ bytes → Hears digest all old.heard new.heard true → length bytes ≤ missing
    → (length front < 7 → length front + missing ≡ 7) → (7 ≤ length front → IsLacking front missing) → old.missing ≡ 0
    → new.missing ≡ 0 → new.kept ≡ [] → new.taken ≡ old.taken + length bytes → new.place ≡ new.taken
    → Takes digest old new bytes
kept_whole digest old new front all bytes missing is whole hears few head lacking none still empty count place =
    let nothing = nothing_after front bytes missing hears.0 hears.1 hears.2 hears.3 (cc (is, whole, hears.4)) few head
    lacking in
    ends_kept digest old new bytes hears.0 hears.1 hears.3 none
    (cc (whole, hears.4, nothing, append-nil (envelope hears.0 hears.1))) hears.5 still empty count place

-- an envelope is kept as far as it came
pub kept_part : (digest : List ℕ → List ℕ) (old new : IntakeState) (all bytes : List ℕ) → all ≡ old.kept ++ bytes
    → all ≡ new.kept → Hears digest all old.heard new.heard false → old.missing ≡ 0 → new.missing ≡ 0
    → new.taken ≡ old.taken + length bytes → new.place ≡ old.place → Takes digest old new bytes × IsUnfinished new.kept
kept_part digest old new all bytes whole is hears none still count place = (
  λ id stream s.
      let e : s.rest ++ bytes ≡ all = cc (rest_kept digest id old s.payloads s.rest s.keeps none, whole) in
      grown digest id old new stream bytes s (rw e hears.1.1) (rw hears.0 s.heard) count place (kept still (e ∙ is)),
  rw is at hears.1,
)

-- why the rest of a piece is refused is why the piece is
pub refuses_all : (digest : List ℕ → List ℕ) (old mid : IntakeState) (piece bytes left : List ℕ) (e : FeedError) → piece ≡ bytes ++ left → Takes digest old mid bytes
    → (IsSettledState old.heard → IsSettledState mid.heard) → mid.taken + length left ≤ 134217728 → Refuses digest mid left e → Refuses digest old piece e
refuses_all digest old mid piece bytes left (Malformed place) parts takes settled few refuses = λ id stream s.
    rw parts (rw append_assoc at (refuses id (stream ++ bytes) (takes id stream s)))
refuses_all digest old mid piece bytes left TooLong parts takes settled few refuses = absurd (omega (arith, few, refuses))
refuses_all digest old mid piece bytes left Memory parts takes settled few refuses = λ h. refuses (settled h)

-- nothing was taken
pub stands_new : (digest : List ℕ → List ℕ) (id : List ℕ) (i : IntakeState) → HasHeard digest id i.heard [] → i.taken ≡ 0 → i.place ≡ 0 → i.missing ≡ 0 → i.kept ≡ [] → StandsAt digest id i []
stands_new digest id i heard taken place none empty = record {
  payloads = [];
  front = [];
  rest = [];
  cut = record { parts = refl; whole = refl; part = tt };
  heard = heard;
  taken = sym taken;
  place = sym place;
  keeps = kept none (sym empty);
}
