-- A stream that is split is the envelopes of its payloads, and what is written as envelopes is split again, whatever follows.
use Rattle.wal_frame.proofs.Common.{◌≡◌, ℕ, zero, suc, ◌+◌, ◌-◌, ◌^◌, ◌<◌, ◌≤◌, ◌⊎◌, inl, inr, Bool, true, false, cond, ltb, eqb, List, [], ◌∷◌, ◌++◌, length, take, drop, Option, Some, None, Result, Ok, Err, refl, sym, ap, ◌∙◌, append_assoc, arith, slice_index, IfOk, IfErr, w16, w32, from_be_bytes, AllByRecursion, flat_map, ltb-false, le-ltb, eqb-true, eqb-false, take_at, drop_at, take-append-drop, length-append, length-take, length-drop, drop-drop, append-nil, nil_from_length, number_text, IsBytes, IsBytes-drop, IsBytes-take, wide16, wide32, envelope, IsPayload, size_in, payload_at, envelope_at, behind, front_of, payloads_in, stream_of, IsStream, IsMalformed, IfMalformed, Splits}
use Rattle.std.proofs.lemmas.Nat.{from_be_bytes-to_be_bytes_4}
use Rattle.std.proofs.lemmas.List.Concat.{flat_map-cons}
use Rattle.wal_frame.specs.declared.stream.SplitError.{SplitError}
use Rattle.wal_frame.specs.declared.stream.SplitError.TheVariants.{Malformed, Memory}
use Rattle.wal_frame.specs.Front.{BeginsNone, IsPart, IsWrong}
use Rattle.wal_frame.specs.inside.Front.{sender_in}

-- ---- envelopes

unless : {A : Type 0} (b : Bool) (r : Option A) (y : A) → cond b None r ≡ Some y → (b ≡ false) × (r ≡ Some y)
unless true r y e = absurd cc
unless false r y e = (refl, e)

provided : {A : Type 0} (b : Bool) (r : Option A) (y : A) → cond b r None ≡ Some y → (b ≡ true) × (r ≡ Some y)
provided true r y e = (refl, e)
provided false r y e = absurd cc

-- an envelope that the bytes begin with
record Begins (bytes : List ℕ) (e : List ℕ × List ℕ) : Type 0 where
  long : 7 ≤ length bytes
  first : slice_index bytes 0 ≡ 0x57
  size : size_in bytes ≤ length (drop 7 bytes)
  payload : take (size_in bytes) (drop 7 bytes) ≡ e.0
  rest : drop (size_in bytes) (drop 7 bytes) ≡ e.1

begins_of : (bytes : List ℕ) (e : List ℕ × List ℕ) → envelope_at bytes ≡ Some e → Begins bytes e
unfolding envelope_at
begins_of bytes e h =
    let a = unless (ltb (length bytes) 7) (cond (eqb (slice_index bytes 0) 0x57) (payload_at (size_in bytes) (drop 7 bytes)) None) e h in
    let b = provided (eqb (slice_index bytes 0) 0x57) (payload_at (size_in bytes) (drop 7 bytes)) e a.1 in
    let c = unless (ltb (length (drop 7 bytes)) (size_in bytes)) (Some (take (size_in bytes) (drop 7 bytes), drop (size_in bytes) (drop 7 bytes))) e b.1 in
    record {
      long = ltb-false _ _ a.0;
      first = eqb-true (slice_index bytes 0) 0x57 b.0;
      size = ltb-false _ _ c.0;
      payload = cc c.1;
      rest = cc c.1;
    }

-- an envelope takes seven bytes and its payload from a stream
pub shorter : (bytes : List ℕ) (e : List ℕ × List ℕ) → envelope_at bytes ≡ Some e → length bytes ≡ 7 + length e.0 + length e.1
shorter bytes e h =
    let b = begins_of bytes e h in
    omega (arith, ap length b.payload, ap length b.rest, length-take {A = ℕ}, length-drop {A = ℕ})

three_parts : {a b : List ℕ} (bytes : List ℕ) → a ≡ take 2 bytes → b ≡ take 4 (drop 2 bytes)
    → a ++ b ++ drop 6 bytes ≡ bytes
three_parts bytes p q =
    rw (p, q, ← drop-drop 4 2 bytes, append_assoc, take-append-drop 4 (drop 2 bytes), take-append-drop 2 bytes)

-- the envelope behind its first byte
pub head_parts : (bytes : List ℕ) → IsBytes bytes → 6 ≤ length bytes → bytes ≡ number_text w16 (from_be_bytes w16 (take 2 bytes)) ++ number_text w32 (from_be_bytes w32 (take 4 (drop 2 bytes))) ++ drop 6 bytes
head_parts bytes fits long =
    let rest = drop 2 bytes in
    sym (three_parts bytes (wide16.back (take 2 bytes) (omega (arith, length-take 2 bytes)) (IsBytes-take 2 bytes fits))
    (wide32.back (take 4 rest) (omega (arith, length-take 4 rest, length-drop 2 bytes))
    (IsBytes-take 4 rest (IsBytes-drop 2 bytes fits))))

-- an envelope that is read is spelled so
pub envelope_spelled : (bytes : List ℕ) (e : List ℕ × List ℕ) → IsBytes bytes → envelope_at bytes ≡ Some e → IsPayload e.0 × (bytes ≡ envelope (sender_in bytes) e.0 ++ e.1)
envelope_spelled [] e fits h = (let b = begins_of [] e h in absurd (omega (arith, b.long)))
envelope_spelled (first ∷ bytes) e fits h =
    let b = begins_of (first ∷ bytes) e h in
    let size = size_in (first ∷ bytes) in
    let size-is : size ≡ length e.0 = omega (arith, b.size, ap length b.payload, length-take size (drop 6 bytes)) in
    let content : drop 6 bytes ≡ e.0 ++ e.1 = rw (← b.payload, ← b.rest) (sym (take-append-drop size (drop 6 bytes))) in
    let short = wide32.below (take 4 (drop 2 bytes)) (IsBytes-take 4 _ (IsBytes-drop 2 bytes (λ i. fits (suc i)))) in
    let small : IsPayload e.0 = omega (arith, short) in
    let tail = head_parts bytes (λ i. fits (suc i)) (omega (arith, b.long)) ∙ rw (size-is, content) in
    (small, rw b.first (ap (λ (t : List ℕ). 0x57 ∷ t) tail))

pub envelope_is : (bytes : List ℕ) (e : List ℕ × List ℕ) → IsBytes bytes → envelope_at bytes ≡ Some e → (sender : ℕ) × IsPayload e.0 × (bytes ≡ envelope sender e.0 ++ e.1)
envelope_is bytes e fits h = let is = envelope_spelled bytes e fits h in (sender_in bytes, is.0, is.1)

-- and what is spelled so is read, whatever follows
pub envelope_again : (sender : ℕ) (payload rest : List ℕ) → IsPayload payload → envelope_at (envelope sender payload ++ rest) ≡ Some (payload, rest)
unfolding envelope_at
envelope_again sender payload rest fits =
    let bytes = envelope sender payload ++ rest in
    let long : ltb (length bytes) 7 ≡ false = le-ltb _ _ (omega (arith, length-append payload rest)) in
    let size-is : size_in bytes ≡ length payload = from_be_bytes-to_be_bytes_4 (length payload) fits in
    let whole : ltb (length (payload ++ rest)) (length payload) ≡ false = le-ltb _ _ (omega (arith, length-append payload rest)) in
    rw (long, size-is, whole, take_at payload rest (length payload) refl, drop_at payload rest (length payload) refl) refl

-- bytes that begin with a whole envelope are read as it
pub envelope_read : (bytes : List ℕ) (sender : ℕ) (payload rest : List ℕ) → IsPayload payload → bytes ≡ envelope sender payload ++ rest → envelope_at bytes ≡ Some (payload, rest)
envelope_read bytes sender payload rest fits same = rw same (envelope_again sender payload rest fits)

-- and it is the only one
pub envelope_only : (bytes : List ℕ) (e : List ℕ × List ℕ) (sender : ℕ) (payload rest : List ℕ) → envelope_at bytes ≡ Some e → sender < 2 ^ 16 → IsPayload payload
    → bytes ≡ envelope sender payload ++ rest → (sender_in bytes ≡ sender) × (e.0 ≡ payload) × (e.1 ≡ rest)
envelope_only bytes e sender payload rest h small fits same =
    let read = envelope_read bytes sender payload rest fits same in
    (rw same (wide16.again sender small), cc, cc)

-- bytes that begin with none are a part of one where their first byte is right
pub part_here : (bytes : List ℕ) → slice_index bytes 0 ≡ 0x57 → envelope_at bytes ≡ None → IsPart bytes
part_here [] first none = tt
part_here (b ∷ bytes) first none = (
  first,
  λ sender payload after fits same.
      cc (envelope_read (b ∷ bytes) sender payload after fits same),
)

-- ---- streams

abbrev Stream : Type 0
Stream = Result (List (List ℕ)) ℕ

pub behind_none : (r : Stream) → behind [] 0 r ≡ r
behind_none (Ok others) = refl
behind_none (Err place) = ap (λ (k : ℕ). Err k) (omega arith)

pub behind_then : (front back : List (List ℕ)) (n k total : ℕ) (r : Stream) → total ≡ n + k → behind front n (behind back k r) ≡ behind (front ++ back) total r
behind_then front back n k total (Ok others) e = ap (λ (ps : List (List ℕ)). Ok ps) (sym (append_assoc front back others))
behind_then front back n k total (Err place) e = ap (λ (p : ℕ). Err p) (omega (arith, e))

front_same : (o : Option (List ℕ × List ℕ)) (f g : List ℕ → Stream) → ((e : List ℕ × List ℕ) → o ≡ Some e → f e.1 ≡ g e.1) → front_of o f ≡ front_of o g
front_same None f g h = refl
front_same (Some e) f g h = rw (h e refl)

-- more envelopes than there are bytes make no difference
enough : (n m : ℕ) (bytes : List ℕ) → length bytes ≤ n → length bytes ≤ m → payloads_in n bytes ≡ payloads_in m bytes
unfolding payloads_in
enough (suc n) (suc m) (b ∷ bytes) first second =
    front_same (envelope_at (b ∷ bytes)) (payloads_in n) (payloads_in m) (λ e h.
    let len = shorter (b ∷ bytes) e h in
    enough n m e.1 (omega (arith, len)) (omega (arith, len)))
enough n m [] first second = refl
enough n m (b ∷ bytes) first second = absurd (omega arith)

-- the payload at the front, and those behind it
pub stream_next : (bytes : List ℕ) (e : List ℕ × List ℕ) → envelope_at bytes ≡ Some e → stream_of bytes ≡ behind (e.0 ∷ []) (7 + length e.0) (stream_of e.1)
unfolding payloads_in
stream_next [] e h = absurd (omega (arith, shorter [] e h))
stream_next (b ∷ bytes) e h =
    let len = shorter (b ∷ bytes) e h in
    rw (h, enough (length bytes) (length e.1) e.1 (omega (arith, len)) (omega arith))

-- bytes that begin with no whole envelope
pub stream_stop : (bytes : List ℕ) → 1 ≤ length bytes → envelope_at bytes ≡ None → stream_of bytes ≡ Err 0
unfolding payloads_in
stream_stop [] some h = absurd (omega arith)
stream_stop (b ∷ bytes) some h = rw h

-- envelopes are split, whatever follows
pub stream_front : (payloads : List (List ℕ)) (front rest : List ℕ) → IsStream payloads front → stream_of (front ++ rest) ≡ behind payloads (length front) (stream_of rest)
stream_front [] front rest none = rw (none, behind_none)
stream_front (p ∷ payloads) front rest h =
    let after = h.1 in
    let len : length front ≡ 7 + length p + length after =
    omega (arith, ap length h.3, length-append (envelope h.0 p) after) in
    rw (len, h.3)
    (ap stream_of (append_assoc (envelope h.0 p) after rest)
    ∙ stream_next (envelope h.0 p ++ (after ++ rest)) (p, after ++ rest) (envelope_again h.0 p (after ++ rest) h.2)
    ∙ rw (stream_front payloads after rest h.4)
    (behind_then (p ∷ []) payloads (7 + length p) (length after) _ (stream_of rest) refl))

-- payloads from one sender make a stream
pub joined : (sender : ℕ) (payloads : List (List ℕ)) → AllByRecursion IsPayload payloads → IsStream payloads (flat_map (envelope sender) payloads)
joined sender [] fits = refl
joined sender (p ∷ payloads) fits =
    (sender, flat_map (envelope sender) payloads, fits.0, flat_map-cons (envelope sender) p payloads, joined sender payloads fits.1)

-- and so is a single one
pub stream_one : (sender : ℕ) (payload rest : List ℕ) → IsPayload payload
    → stream_of (envelope sender payload ++ rest) ≡ behind (payload ∷ []) (length (envelope sender payload)) (stream_of rest)
stream_one sender payload rest fits =
    let len : 7 + length payload ≡ length (envelope sender payload) = omega arith in
    rw (← len) (stream_next (envelope sender payload ++ rest) (payload, rest) (envelope_again sender payload rest fits))

-- ---- streams that grow

pub stream_append : (front back : List (List ℕ)) (bytes rest : List ℕ) → IsStream front bytes → IsStream back rest → IsStream (front ++ back) (bytes ++ rest)
stream_append [] back bytes rest none h = rw none h
stream_append (p ∷ front) back bytes rest first h =
    let text = first.1 ++ rest in
    let parts : bytes ++ rest ≡ envelope first.0 p ++ text = rw first.3 (append_assoc (envelope first.0 p) first.1 rest) in
    (first.0, text, first.2, parts, stream_append front back first.1 rest first.4 h)

-- a stream grows at its end by an envelope
pub stream_grows : (payloads : List (List ℕ)) (bytes : List ℕ) (sender : ℕ) (payload : List ℕ) → IsStream payloads bytes → IsPayload payload
    → IsStream (payloads ++ payload ∷ []) (bytes ++ envelope sender payload)
stream_grows payloads bytes sender payload h fits =
    stream_append payloads (payload ∷ []) bytes (envelope sender payload) h (sender, [], fits, sym (append-nil (envelope sender payload)), refl)

wrong_long : (bytes more : List ℕ) → IsWrong bytes → 1 ≤ length (bytes ++ more)
wrong_long [] more wrong = absurd wrong
wrong_long (b ∷ bytes) more wrong = omega arith

-- where a byte is wrong no envelope begins, whatever follows
pub wrong_begins : (bytes more : List ℕ) → IsWrong bytes → BeginsNone (bytes ++ more)
wrong_begins [] more wrong = absurd wrong
wrong_begins (b ∷ bytes) more wrong = λ sender payload after fits same. wrong cc

-- a stream whose next byte is wrong stays malformed there, whatever follows
pub wrong_stays : (payloads : List (List ℕ)) (front bytes more : List ℕ) → IsStream payloads front → IsWrong bytes → IsMalformed (length front) (front ++ (bytes ++ more))
wrong_stays payloads front bytes more h wrong = record {
  front = front;
  payloads = payloads;
  rest = bytes ++ more;
  parts = refl;
  size = refl;
  whole = h;
  more = λ none. omega (arith, wrong_long bytes more wrong, ap length none);
  unfit = wrong_begins bytes more wrong;
}

-- ---- a loop over a stream

-- the front is one payload longer
pub goes_on : (stream rest : List ℕ) (front : List (List ℕ)) (e : List ℕ × List ℕ) → length rest ≤ length stream → envelope_at rest ≡ Some e
    → behind front (length stream - length rest) (stream_of rest) ≡ stream_of stream
    → (length e.1 ≤ length stream) × (behind (front ++ e.0 ∷ []) (length stream - length e.1) (stream_of e.1) ≡ stream_of stream)
goes_on stream rest front e left h so_far =
    let len = shorter rest e h in
    let total : length stream - length e.1 ≡ length stream - length rest + (7 + length e.0) = omega (arith, len) in (
      omega (arith, len),
      rw (← behind_then front (e.0 ∷ []) _ _ _ (stream_of e.1) total, ← stream_next rest e h) so_far,
    )

-- no whole envelope begins here
pub stops : (stream rest : List ℕ) (front : List (List ℕ)) → eqb (length rest) 0 ≡ false → envelope_at rest ≡ None
    → behind front (length stream - length rest) (stream_of rest) ≡ stream_of stream → stream_of stream ≡ Err (length stream - length rest)
stops stream rest front some h so_far =
    let more : 1 ≤ length rest = omega (arith, eqb-false (length rest) 0 some) in
    let place : length stream - length rest + 0 ≡ length stream - length rest = omega arith in
    rw (← so_far, stream_stop rest more h, place)

-- nothing is left
pub is_done : (stream rest : List ℕ) (front : List (List ℕ)) → eqb (length rest) 0 ≡ true
    → behind front (length stream - length rest) (stream_of rest) ≡ stream_of stream → stream_of stream ≡ Ok front
unfolding payloads_in
is_done stream rest front none so_far =
    rw (← so_far, nil_from_length rest (eqb-true (length rest) 0 none), append-nil)

-- ---- what a stream is

behind_ok : (p : List ℕ) (n : ℕ) (r : Stream) (all : List (List ℕ)) → behind (p ∷ []) n r ≡ Ok all → (others : List (List ℕ)) × (r ≡ Ok others) × (p ∷ others ≡ all)
behind_ok p n (Ok others) all e = (others, refl, cc)
behind_ok p n (Err place) all e = absurd cc

behind_err : (p : List ℕ) (n : ℕ) (r : Stream) (place : ℕ) → behind (p ∷ []) n r ≡ Err place → (k : ℕ) × (r ≡ Err k) × (n + k ≡ place)
behind_err p n (Ok others) place e = absurd cc
behind_err p n (Err k) place e = (k, refl, cc)

front_ok : (o : Option (List ℕ × List ℕ)) (f : List ℕ → Stream) (all : List (List ℕ)) → front_of o f ≡ Ok all → (e : List ℕ × List ℕ) × (o ≡ Some e) × (others : List (List ℕ)) × (f e.1 ≡ Ok others) × (e.0 ∷ others ≡ all)
front_ok None f all h = absurd cc
front_ok (Some e) f all h = (let b = behind_ok e.0 (7 + length e.0) (f e.1) all h in (e, refl, b.0, b.1, b.2))

front_err : (o : Option (List ℕ × List ℕ)) (f : List ℕ → Stream) (place : ℕ) → front_of o f ≡ Err place
    → ((o ≡ None) × (0 ≡ place)) ⊎ ((e : List ℕ × List ℕ) × (o ≡ Some e) × (k : ℕ) × (f e.1 ≡ Err k) × (7 + length e.0 + k ≡ place))
front_err None f place h = inl (refl, cc)
front_err (Some e) f place h = (let b = behind_err e.0 (7 + length e.0) (f e.1) place h in inr (e, refl, b.0, b.1, b.2))

rest_fits : (bytes : List ℕ) (e : List ℕ × List ℕ) → IsBytes bytes → envelope_at bytes ≡ Some e → IsBytes e.1
rest_fits bytes e fits h =
    rw (← (begins_of bytes e h).rest) (IsBytes-drop (size_in bytes) (drop 7 bytes) (IsBytes-drop 7 bytes fits))

whole : (n : ℕ) (bytes : List ℕ) (payloads : List (List ℕ)) → IsBytes bytes → payloads_in n bytes ≡ Ok payloads → IsStream payloads bytes
unfolding payloads_in
whole zero (b ∷ bytes) payloads fits h = absurd cc
whole (suc n) (b ∷ bytes) payloads fits h =
    let f = front_ok (envelope_at (b ∷ bytes)) (payloads_in n) payloads h in
    let e = f.0 in
    let text = envelope_is (b ∷ bytes) e fits f.1 in
    let others = whole n e.1 f.2 (rest_fits (b ∷ bytes) e fits f.1) f.3 in
    rw (← f.4) (text.0, e.1, text.1, text.2, others)
whole n [] payloads fits h = let is : [] ≡ payloads = cc in rw (← is) refl

-- no whole envelope stands at the front
malformed_here : (bytes : List ℕ) (place : ℕ) → 1 ≤ length bytes → envelope_at bytes ≡ None → 0 ≡ place → IsMalformed place bytes
malformed_here bytes place some none e = record {
  front = [];
  payloads = [];
  rest = bytes;
  parts = refl;
  size = e;
  whole = refl;
  more = λ nil. omega (arith, ap length nil);
  unfit = λ sender payload after fits same. cc (envelope_read bytes sender payload after fits same);
}

-- a whole envelope stands before
malformed_later : (bytes : List ℕ) (sender : ℕ) (payload rest : List ℕ) (k place : ℕ) → IsPayload payload → bytes ≡ envelope sender payload ++ rest → 7 + length payload + k ≡ place → IsMalformed k rest → IsMalformed place bytes
malformed_later bytes sender payload rest k place fits parts size m = record {
  front = envelope sender payload ++ m.front;
  payloads = payload ∷ m.payloads;
  rest = m.rest;
  parts = rw (parts, m.parts, append_assoc);
  size = omega (arith, m.size, size, length-append (envelope sender payload) m.front);
  whole = (sender, m.front, fits, refl, m.whole);
  more = m.more;
  unfit = m.unfit;
}

malformed : (n : ℕ) (bytes : List ℕ) (place : ℕ) → IsBytes bytes → length bytes ≤ n → payloads_in n bytes ≡ Err place → IsMalformed place bytes
unfolding payloads_in
malformed zero (b ∷ bytes) place fits le h = absurd (omega arith)
malformed (suc n) (b ∷ bytes) place fits le h =
    elim (front_err (envelope_at (b ∷ bytes)) (payloads_in n) place h) [
      | inl here ↦ malformed_here (b ∷ bytes) place (omega arith) here.0 here.1
      | inr f ↦
          let e = f.0 in
          let text = envelope_is (b ∷ bytes) e fits f.1 in
          let len = shorter (b ∷ bytes) e f.1 in
          malformed_later (b ∷ bytes) text.0 e.0 e.1 f.2 place text.1 text.2 f.4 (malformed n e.1 f.2 (rest_fits (b ∷ bytes) e fits f.1) (omega (arith, len)) f.3)
    ]
malformed n [] place fits le h = absurd cc

more_than_none : (xs : List ℕ) → (xs ≡ [] → ⊥) → 1 ≤ length xs
more_than_none [] h = absurd (h refl)
more_than_none (x ∷ xs) h = omega arith

-- a stream is split into its payloads
pub stream_all : (payloads : List (List ℕ)) (bytes : List ℕ) → IsStream payloads bytes → stream_of bytes ≡ Ok payloads
unfolding payloads_in
stream_all payloads bytes h =
    simp append-nil at (stream_front payloads bytes [] h)

-- bytes that begin with no envelope that is spelled begin with none that is read
none_at : (bytes : List ℕ) (o : Option (List ℕ × List ℕ)) → IsBytes bytes → envelope_at bytes ≡ o
    → ((sender : ℕ) (payload after : List ℕ) → IsPayload payload → bytes ≡ envelope sender payload ++ after → ⊥) → envelope_at bytes ≡ None
none_at bytes None fits h unfit = h
none_at bytes (Some e) fits h unfit =
    let text = envelope_is bytes e fits h in absurd (unfit text.0 e.0 e.1 text.1 text.2)

-- a malformed stream is refused at its place
pub stream_broken : (place : ℕ) (bytes : List ℕ) → IsBytes bytes → IsMalformed place bytes → stream_of bytes ≡ Err place
stream_broken place bytes fits m =
    let rest-is : drop (length m.front) bytes ≡ m.rest = rw m.parts (drop_at m.front m.rest (length m.front) refl) in
    let rest-fits : IsBytes m.rest = rw (← rest-is) (IsBytes-drop (length m.front) bytes fits) in
    let place-is : length m.front + 0 ≡ place = omega (arith, m.size) in
    rw (
      m.parts,
      stream_front m.payloads m.front m.rest m.whole,
      stream_stop m.rest (more_than_none m.rest m.more) (none_at m.rest _ rest-fits refl m.unfit),
      place-is,
    )

-- ---- what splitting returned

pub split_payloads : (bytes : List ℕ) (r : Result (List (List ℕ)) SplitError) → IsBytes bytes → Splits r (stream_of bytes) → IfOk r (λ payloads. IsStream payloads bytes)
split_payloads bytes (Ok payloads) fits h = whole (length bytes) bytes payloads fits h
split_payloads bytes (Err e) fits h = tt

pub split_malformed : (bytes : List ℕ) (r : Result (List (List ℕ)) SplitError) → IsBytes bytes → Splits r (stream_of bytes) → IfErr r (λ e. IfMalformed e (λ place. IsMalformed place bytes))
split_malformed bytes (Ok payloads) fits h = tt
split_malformed bytes (Err (Malformed place)) fits h = malformed (length bytes) bytes place fits (omega arith) h
split_malformed bytes (Err Memory) fits h = tt
