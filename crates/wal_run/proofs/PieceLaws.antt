-- Streams that are taken from a source in pieces.
use Rattle.wal_run.proofs.Common.{⊤, ◌≡◌, ℕ, ◌+◌, ◌<◌, ◌≤◌, List, [], ◌∷◌, ◌++◌, length, Option, Some, None, Result, Ok, Err, IfSome, sym, ap, ◌∙◌, append_assoc, append-nil, arith, Consumes, IsAtEnd, Consumes-trans, Consumes-kept, TakeError, IsMalformed, wrong_stays, ReaderState, IsAllOf, GivesPiece, TakesFew, TakesStream}
use Rattle.std.specs.Prelude.{IsErrAnd}
use Rattle.std.proofs.lemmas.List.{length-append}
use Rattle.wal_port.specs.declared.transfers.TakeError.TheVariants.{ReadFault, TooLong, Memory}
use Rattle.wal_frame.specs.Front.{IsWrong}
use Rattle.wal_reader.specs.Intake.{IsWrongAt}

-- ---- a byte that begins no envelope

wrong_on : (bytes more : List ℕ) → IsWrong bytes → IsWrong (bytes ++ more)
wrong_on [] more wrong = absurd wrong
wrong_on (b ∷ bytes) more wrong = wrong

-- it stays where it is, whatever follows
pub wrong_at_on : (place : ℕ) (stream more : List ℕ) → IsWrongAt place stream → IsWrongAt place (stream ++ more)
wrong_at_on place stream more w = record {
  payloads = w.payloads;
  front = w.front;
  rest = w.rest ++ more;
  parts = ap (λ (t : List ℕ). t ++ more) w.parts ∙ append_assoc w.front w.rest more;
  size = w.size;
  whole = w.whole;
  wrong = wrong_on w.rest more w.wrong;
}

-- the stream is malformed there
pub wrong_malformed : (place : ℕ) (stream : List ℕ) → IsWrongAt place stream → IsMalformed place stream
wrong_malformed place stream w =
    rw (w.parts, ← append-nil w.rest, ← w.size) (wrong_stays w.payloads w.front w.rest [] w.whole w.wrong)

-- ---- what a source gave

-- all of it
pub tells_all : (left after : Option (List ℕ)) (input : List ℕ) → Consumes left after input → IsAtEnd after → IsAllOf left input
tells_all None after input taken ended = tt
tells_all (Some bytes) None input taken ended = absurd taken
tells_all (Some bytes) (Some rest) input taken ended = sym (taken ∙ ap (λ (t : List ℕ). input ++ t) ended ∙ append-nil input)

-- more than so many bytes
pub tells_more : (left after : Option (List ℕ)) (taken : List ℕ) (limit : ℕ) → Consumes left after taken → length taken ≡ limit + 1 → IfSome left (λ bytes. ⊤ → limit < length bytes)
tells_more None after taken limit gave long = tt
tells_more (Some bytes) None taken limit gave long = absurd gave
tells_more (Some bytes) (Some rest) taken limit gave long = λ told. omega (arith, long, ap length gave, length-append taken rest)

-- ---- what ends the pieces

-- no piece came
pub piece_failed : (digest : List ℕ → List ℕ) (id : List ℕ) (a b c : Option (List ℕ)) (Late Up : Type 0) (r : ReaderState) (result : Result (Option ℕ) TakeError) (e : TakeError) (got buffer : List ℕ) (taken : ℕ)
    → IsErrAnd result (λ x. x ≡ e) → Consumes a b got → length got ≡ taken → taken ≤ 134217728 → (Late → Up) → GivesPiece b c Late taken buffer (Err e) → TakesStream digest id a c Up r result
piece_failed digest id a b c Late Up r (Ok wrong) e got buffer taken is first long within up gives = absurd is
piece_failed digest id a b c Late Up r (Err x) ReadFault got buffer taken is first long within up gives =
    rw is ((got, Consumes-kept a b c got first gives.0, omega (arith, long, within)), up gives.1)
piece_failed digest id a b c Late Up r (Err x) TooLong got buffer taken is first long within up gives =
    let size = length-append got gives.0 in
    rw is (got ++ gives.0, Consumes-trans a b c got gives.0 first gives.1, omega (arith, size, long, gives.2))
piece_failed digest id a b c Late Up r (Err x) Memory got buffer taken is first long within up gives = absurd gives

-- memory ran out for a piece
pub feed_failed : (digest : List ℕ → List ℕ) (id : List ℕ) (a c : Option (List ℕ)) (Up : Type 0) (r : ReaderState) (result : Result (Option ℕ) TakeError) (e : TakeError) → IsErrAnd result (λ x. x ≡ e) → e ≡ Memory
    → TakesFew a c → TakesStream digest id a c Up r result
feed_failed digest id a c Up r (Ok wrong) e is memory few = absurd is
feed_failed digest id a c Up r (Err x) e is memory few = rw (is, memory) few
