-- What a reader stands for.
use Rattle.wal_reader.proofs.Common.{◌≡◌, ℕ, ◌+◌, ◌<◌, ◌≤◌, List, [], ◌++◌, length, None, Result, Ok, Err, sym, subst, ◌∙◌, append-nil, arith, replicate, IfErr, length-replicate, IsWrong, IsStream, IsMalformed, HeardState, HasHeard, IntakeState, IsCut, IsWrongAt, ReadsPast, StandsAt, Refuses, Takes, IsAnswer, FeedError, Malformed, TooLong, ReadAnswer, length-append, IfOk}
use Rattle.wal_reader.specs.Standing.{ReaderState, Feeds, FinishesStream}
use Rattle.wal_reader.specs.declared.errors.FinishError.{FinishError}
use Rattle.wal_reader.specs.declared.errors.FinishError.TheVariants as finish
use Rattle.wal_reader.proofs.Enough.{enough}
use Rattle.wal_reader.proofs.IntakeLaws.{one_cut, part_none, wrong_none, wrong_part, rest_kept, rest_past}

-- a stream is cut in one way
pub one_payloads : (digest : List ℕ → List ℕ) (id : List ℕ) (i : IntakeState) (stream : List ℕ) (payloads : List (List ℕ)) (front rest : List ℕ) (s : StandsAt digest id i stream)
    → IsCut payloads front rest stream → s.payloads ≡ payloads
one_payloads digest id i stream payloads front rest s cut =
    (one_cut s.payloads payloads s.front front s.rest rest s.cut.whole cut.whole (part_none s.rest s.cut.part)
    (part_none rest cut.part) (sym s.cut.parts ∙ cut.parts)).0

-- no byte of it begins no envelope
pub never_wrong : (digest : List ℕ → List ℕ) (id : List ℕ) (i : IntakeState) (stream : List ℕ) (place : ℕ) → StandsAt digest id i stream → IsWrongAt place stream → ⊥
never_wrong digest id i stream place s w =
    let same = one_cut s.payloads w.payloads s.front w.front s.rest w.rest s.cut.whole w.whole (part_none s.rest s.cut.part) (wrong_none w.rest w.wrong) (sym s.cut.parts ∙ w.parts) in
    wrong_part s.rest (subst (λ (t : List ℕ). IsWrong t) (sym same.2) w.wrong) s.cut.part

-- what is read past has begun
past_begun : (digest : List ℕ → List ℕ) (id : List ℕ) (heard : HeardState) (payloads : List (List ℕ)) (missing : ℕ) (rest : List ℕ) → ReadsPast digest id heard payloads missing rest → rest ≡ [] → ⊥
past_begun digest id heard payloads missing rest reads none =
    grind (arith, (reads (replicate missing 0) (length-replicate {A = ℕ} missing 0)).3, none)

-- a stream that ends within an envelope that is read past is malformed there
pub past_malformed : (digest : List ℕ → List ℕ) (id : List ℕ) (i : IntakeState) (stream : List ℕ) → 0 < i.missing → StandsAt digest id i stream → IsMalformed i.place stream
past_malformed digest id i stream some s =
    let reads = rest_past digest id i s.payloads s.rest s.keeps some in record {
      front = s.front;
      payloads = s.payloads;
      rest = s.rest;
      parts = s.cut.parts;
      size = s.place;
      whole = s.cut.whole;
      more = past_begun digest id i.heard s.payloads i.missing s.rest reads;
      unfit = part_none s.rest s.cut.part;
    }

-- behind whole envelopes
whole_stream : (digest : List ℕ → List ℕ) (id : List ℕ) (i : IntakeState) (stream : List ℕ) → i.missing ≡ 0 → i.kept ≡ [] → (s : StandsAt digest id i stream) → IsStream s.payloads stream
whole_stream digest id i stream none empty s =
    let all : stream ≡ s.front =
    cc (s.cut.parts, rest_kept digest id i s.payloads s.rest s.keeps none, empty, append-nil s.front) in
    rw (← all) at s.cut.whole

pub never_malformed : (digest : List ℕ → List ℕ) (id : List ℕ) (i : IntakeState) (stream : List ℕ) → i.missing ≡ 0 → i.kept ≡ [] → StandsAt digest id i stream
    → (place : ℕ) → IsMalformed place stream → ⊥
never_malformed digest id i stream none empty s place m =
    m.more (sym (one_cut s.payloads m.payloads stream m.front [] m.rest (whole_stream digest id i stream none empty s)
    m.whole (part_none [] tt) m.unfit (append-nil stream ∙ m.parts)).2)

-- the answer for a whole stream, or memory ran out
pub finishes_whole : (digest : List ℕ → List ℕ) (id : List ℕ) (i : IntakeState) (stream : List ℕ) (r : Result ReadAnswer FinishError) → i.missing ≡ 0 → i.kept ≡ []
    → ((payloads : List (List ℕ)) → HasHeard digest id i.heard payloads → IfOk r (IsAnswer digest id payloads)) → IfErr r (λ e. e ≡ finish.Memory) → StandsAt digest id i stream
    → FinishesStream digest id stream r
finishes_whole digest id i stream (Ok answer) none empty answers memory s = record {
  payloads = s.payloads;
  whole = whole_stream digest id i stream none empty s;
  is = answers s.payloads s.heard;
  enough = λ m one has. enough digest id s.payloads m answer.outcome (answers s.payloads s.heard).0 one has;
}
finishes_whole digest id i stream (Err e) none empty answers memory s =
    rw memory (never_malformed digest id i stream none empty s)

-- ---- feeding

pub feeds_ok : (digest : List ℕ → List ℕ) (id : List ℕ) (old new : IntakeState) (r : ReaderState) (stream piece : List ℕ) (done : Unit {0}) → r.failed ≡ None → r.intake ≡ new
    → Takes digest old new piece → new.taken ≤ 134217728 → StandsAt digest id old stream → Feeds digest id r (stream ++ piece) (Ok done)
feeds_ok digest id old new r stream piece done well same takes few s =
    let next = takes id stream s in
    ((well, rw same next), omega (arith, next.taken, few), λ place. never_wrong digest id new _ place next)

pub feeds_err : (digest : List ℕ → List ℕ) (id : List ℕ) (old : IntakeState) (r : ReaderState) (stream piece : List ℕ) (e : FeedError) → (134217728 < old.taken + length piece → e ≡ TooLong)
    → Refuses digest old piece e → StandsAt digest id old stream → Feeds digest id r (stream ++ piece) (Err e)
feeds_err digest id old r stream piece (Malformed place) long refuses s =
    (refuses id stream s, grind (arith, s.taken, length-append stream piece))
feeds_err digest id old r stream piece e long refuses s = grind (arith, s.taken, length-append stream piece)
