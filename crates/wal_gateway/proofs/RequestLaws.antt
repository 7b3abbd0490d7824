-- Requests among the envelopes of a stream, and reading from a stream.
use Rattle.wal_gateway.proofs.Common.{◌≡◌, ℕ, ◌+◌, ◌-◌, ◌<◌, List, [], ◌∷◌, ◌++◌, length, take, Option, Some, None, Ok, refl, sym, ap, subst, ◌∙◌, append-nil, append_assoc, arith, length-append, take_at, option_map_or, envelope, IsAnswer}
use Rattle.wal_frame.specs.Stream.{IsMalformed, IsPayload, IsStream, envelope_at}
use Rattle.wal_frame.proofs.StreamLaws.{envelope_read, stream_grows}
use Rattle.wal_reader.specs.Intake.{IsWrongAt}
use Rattle.wal_reader.specs.Standing.{FinishesStream}
use Rattle.wal_reader.specs.declared.outcome.ReadAnswer.{ReadAnswer}
use Rattle.wal_reader.proofs.IntakeLaws.{one_cut, part_none, wrong_none}
use Rattle.wal_gateway.specs.declared.request.Asked.{Asked}
use Rattle.wal_gateway.specs.declared.request.Request.{Request}
use Rattle.wal_gateway.specs.Requests.{IsFirstRequest, get_of, gets_in, request_of}

-- ---- a stream has one list of payloads, and no place where it is malformed

pub one_stream : (ps qs : List (List ℕ)) (bytes : List ℕ) → IsStream ps bytes → IsStream qs bytes → ps ≡ qs
one_stream ps qs bytes is also = (one_cut ps qs bytes bytes [] [] is also (part_none [] tt) (part_none [] tt) refl).0

pub never_malformed : (ps : List (List ℕ)) (bytes : List ℕ) (place : ℕ) → IsStream ps bytes → IsMalformed place bytes → ⊥
never_malformed ps bytes place is m =
    m.more (sym (one_cut ps m.payloads bytes m.front [] m.rest is m.whole (part_none [] tt) m.unfit (append-nil bytes ∙ m.parts)).2)

pub never_wrong : (ps : List (List ℕ)) (bytes : List ℕ) (place : ℕ) → IsStream ps bytes → IsWrongAt place bytes → ⊥
never_wrong ps bytes place is w =
    let none = (one_cut ps w.payloads bytes w.front [] w.rest is w.whole (part_none [] tt) (wrong_none w.rest w.wrong) (append-nil bytes ∙ w.parts)).2 in
    rw (← none) at w.wrong

-- what a reader of it answers is the answer for its payloads
pub read_answer : (digest : List ℕ → List ℕ) (id bytes : List ℕ) (answer : ReadAnswer) → FinishesStream digest id bytes (Ok answer)
    → (ps : List (List ℕ)) → IsStream ps bytes → IsAnswer digest id ps answer
read_answer digest id bytes answer finished ps is =
    rw (one_stream finished.payloads ps bytes finished.whole is) at finished.is

-- ---- the first request

parts_of : (a b : List ℕ × List ℕ) → Some a ≡ Some b → (a.0 ≡ b.0) × (a.1 ≡ b.1)
parts_of a b same = (let pairs : a ≡ b = cc in (ap (λ (e : List ℕ × List ℕ). e.0) pairs, ap (λ (e : List ℕ × List ℕ). e.1) pairs))

empty_none : envelope_at [] ≡ None
unfolding envelope_at
empty_none = refl

-- what an envelope at the front of a stream is of its payloads
at_front : (ps : List (List ℕ)) (bytes payload later : List ℕ) → IsStream ps bytes → envelope_at bytes ≡ Some (payload, later)
    → (rest : List (List ℕ)) × (ps ≡ payload ∷ rest) × IsStream rest later
at_front [] bytes payload later is at = absurd (cc (at, ap envelope_at is, empty_none))
at_front (p ∷ ps) bytes payload later is at =
    let same = parts_of (p, is.1) (payload, later) (sym (envelope_read bytes is.0 p is.1 is.2 is.3) ∙ at) in
    (ps, ap (λ (x : List ℕ). x ∷ ps) same.0, subst (IsStream ps) same.1 is.4)

none_at_front : (ps : List (List ℕ)) (bytes : List ℕ) → IsStream ps bytes → envelope_at bytes ≡ None → ps ≡ []
none_at_front [] bytes is none = refl
none_at_front (p ∷ ps) bytes is none = absurd (cc (envelope_read bytes is.0 p is.1 is.2 is.3, none))

gets_next : (front ps : List (List ℕ)) (payload : List ℕ) (o : Option Request) → request_of payload ≡ o
    → gets_in front (payload ∷ ps) ≡ option_map_or (λ r. get_of front r ∷ gets_in [] ps) o (gets_in (front ++ payload ∷ []) ps)
gets_next front ps payload o is =
    ap (λ (q : Option Request). option_map_or (λ r. get_of front r ∷ gets_in [] ps) q (gets_in (front ++ payload ∷ []) ps)) is

-- before a place of the stream are whole envelopes without a request, and behind it the rest of its gets
pub record Passes (stream before rest : List ℕ) : Type 0 where
  pub parts : stream ≡ before ++ rest
  pub front : List (List ℕ)
  pub sent : IsStream front before
  pub behind : (ps : List (List ℕ)) → IsStream ps stream → (back : List (List ℕ)) × IsStream back rest × (gets_in [] ps ≡ gets_in front back)

-- the bytes before the rest
pub before_rest : (stream before rest : List ℕ) → stream ≡ before ++ rest → take (length stream - length rest) stream ≡ before
before_rest stream before rest parts =
    let long : length stream ≡ length before + length rest = ap length parts ∙ length-append before rest in
    let count : length stream - length rest ≡ length before = omega (arith, long) in
    ap (λ n. take n stream) count ∙ ap (take (length before)) parts ∙ take_at before rest (length before) refl

-- what was passed is the stream but for its rest
pub passes_taken : (stream before rest : List ℕ) → Passes stream before rest
    → Passes stream (take (length stream - length rest) stream) rest
passes_taken stream before rest passes = rw (before_rest stream before rest passes.parts) passes

module _ (stream before rest : List ℕ) (passes : Passes stream before rest) (sender : ℕ) (payload later : List ℕ) (fits : IsPayload payload) (begins : rest ≡ envelope sender payload ++ later) where
  at : envelope_at rest ≡ Some (payload, later)
  at = envelope_read rest sender payload later fits begins

  -- an envelope more without a request
  pub passes_more : request_of payload ≡ None → Passes stream (before ++ envelope sender payload) later
  passes_more none = record {
    parts = passes.parts ∙ ap (λ (t : List ℕ). before ++ t) begins ∙ sym (append_assoc before (envelope sender payload) later);
    front = passes.front ++ payload ∷ [];
    sent = stream_grows passes.front before sender payload passes.sent fits;
    behind = λ ps is.
        let back = passes.behind ps is in
        let one = at_front back.0 rest payload later back.1 at in
        (one.0, one.2, back.2 ∙ ap (gets_in passes.front) one.1 ∙ gets_next passes.front one.0 payload None none);
  }

  -- what stands before and behind the envelope is shorter than the stream
  pub asks_shorter : length before + length later < length stream
  asks_shorter =
      omega (arith, ap length passes.parts, length-append before rest, ap length begins, length-append payload later)

  -- a request
  pub asks : (r : Request) (asked : Asked) → request_of payload ≡ Some r → asked.request ≡ r → asked.sent.now ≡ before → asked.rest.now ≡ later
      → (ps : List (List ℕ)) → IsStream ps stream → IsFirstRequest ps asked
  asks r asked some request sent follows ps is =
      let back = passes.behind ps is in
      let one = at_front back.0 rest payload later back.1 at in
      record {
        replies = passes.front;
        later = one.0;
        sent = rw sent passes.sent;
        rest = rw follows one.2;
        gets = back.2 ∙ ap (gets_in passes.front) one.1 ∙ gets_next passes.front one.0 payload (Some r) some
            ∙ ap (λ (q : Request). get_of passes.front q ∷ gets_in [] one.0) (sym request);
      }

-- what is no request
pub none_of : (o : Option Request) → ((r : Request) → o ≡ Some r → ⊥) → o ≡ None
none_of o other = grind arith

-- no envelope follows
pub asks_nothing : (stream before rest : List ℕ) → Passes stream before rest → envelope_at rest ≡ None → (ps : List (List ℕ)) → IsStream ps stream → gets_in [] ps ≡ []
asks_nothing stream before rest passes none ps is =
    let back = passes.behind ps is in
    back.2 ∙ ap (gets_in passes.front) (none_at_front back.0 rest back.1 none)
