-- First completed answers stay, and each completed line shows them.
use Rattle.wal_protocol.proofs.Common.{◌≡◌, ℕ, zero, suc, ◌<◌, List, [], ◌∷◌, length, get_or, Bool, false, cond, Option, Some, None, refl, arith, get-insert, eq_by_cmp_equiv, BlobId, id_cmp, Verdict, Event, Write, Read, Line, ids_total, First, Judged, Written, World, verdict_of, answered, Rules, AgreesWithFirst, Steps, is_collision, Runs, Shows, Agree, same_id, ReadWord, WriteWord, FinMap, get}

-- a first completed answer for an identifier that gives this verdict
pub record Tells (answers : FinMap id_cmp First) (id : BlobId) (told : Verdict) : Type 0 where
  pub answer : First
  pub first : get answers id ≡ Some answer
  pub gives : verdict_of answer ≡ told

-- first answers stay
abbrev pub Stay : FinMap id_cmp First → FinMap id_cmp First → Type 0
Stay old new = (id : BlobId) (answer : First) → get old id ≡ Some answer → get new id ≡ Some answer

-- a first answer that agrees is told afterwards
answered_tells : (answers : FinMap id_cmp First) (id : BlobId) (a : First)
    → AgreesWithFirst answers id (verdict_of a) → Tells (answered answers id a) id (verdict_of a)
answered_tells answers id a agrees = by (get answers id) refl
  where
    by : (o : Option First) → get answers id ≡ o → Tells (answered answers id a) id (verdict_of a)
    by (Some x) h = record { answer = x; first = rw h h; gives = agrees x h }
    by None h = record {
      answer = a;
      first = rw (h, get-insert ids_total answers id a id, (eq_by_cmp_equiv ids_total).refl id);
      gives = refl;
    }

answered_stay : (answers : FinMap id_cmp First) (id : BlobId) (a : First) → Stay answers (answered answers id a)
answered_stay answers id a q x h = grind (arith, get-insert ids_total answers id a q, same_id q id)

module _ (r : Rules) where
  -- each step leaves first answers as they are
  pub answers_stay : (old : World) (event : Event) (said : Line) (new : World) → Steps r old event said new → Stay old.answers new.answers
  answers_stay old (Write blob to) said new s = λ q answer h. grind (arith, answered_stay)
  -- every other event but a read leaves the answers
  answers_stay old event said new s = λ q answer h. grind (arith, answered_stay)

  -- a completed line shows the first answer
  pub answer_shown : (old : World) (event : Event) (said : Line) (new : World) (id : BlobId) (told : Verdict) → Steps r old event said new → Shows said id told → Tells new.answers id told
  answer_shown old (Read i replies) (Line.Read j (ReadWord.Bytes bytes)) new id told s shows =
      let e : told ≡ Verdict.Bytes bytes = cc (shows.1) in
      let tells = answered_tells old.answers i (Judged s.1.evidence (Verdict.Bytes bytes)) s.1.agrees in
      rw (s.1.state, ← shows.0, s.0, e) tells
  answer_shown old (Read i replies) (Line.Read j ReadWord.Reject) new id told s shows =
      let e : told ≡ Verdict.Reject = cc (shows.1) in
      rw (s.1.state, ← shows.0, s.0, e) (answered_tells old.answers i (Judged s.1.evidence Verdict.Reject) s.1.agrees)
  answer_shown old (Write blob to) (Line.Write j (WriteWord.Stored count bytes)) new id told s shows =
      rw (s.1.state, ← shows.0, shows.1, s.0) (answered_tells old.answers j (Written blob) s.1.agrees)
  answer_shown old event said new id told s shows = grind arith

-- the state after the last step
abbrev pub last : World → List World → World
last w [] = w
last w (next ∷ states) = last next states

-- what is left of a run: nothing after a collision
abbrev pub Left : Rules → Bool → World → List Event → List World → List Line → Type 0
Left r stops old events states lines = cond stops ((states ≡ []) × (lines ≡ [])) (Runs r old events states lines)

-- first answers stay over it
answers_last : (r : Rules) (old : World) (events : List Event) (states : List World) (lines : List Line) (stops : Bool)
    → Left r stops old events states lines → Stay old.answers (last old states).answers
answers_last r old events [] lines stops run id a h = h
answers_last r old (event ∷ events) (new ∷ states) (said ∷ lines) false run id a h =
    answers_last r new events states lines (is_collision said) run.1 id a
    (answers_stay r old event said new run.0 id a h)
answers_last r old events states lines stops run id a h = absurd (grind arith)

-- each completed line of it shows the answer that stands at its end
shown_at : (r : Rules) (old : World) (events : List Event) (states : List World) (lines : List Line) (stops : Bool)
    → Left r stops old events states lines → (k : ℕ) (said : Line)
    → k < length lines → get_or lines k said ≡ said → (id : BlobId) (told : Verdict) → Shows said id told
    → Tells (last old states).answers id told
shown_at r old (event ∷ events) (new ∷ states) (first ∷ lines) false run zero said lt at id told shows =
    let here = answer_shown r old event first new id told run.0 (rw at shows) in
    let stays = answers_last r new events states lines (is_collision first) run.1 id here.answer here.first in
    record { answer = here.answer; first = stays; gives = here.gives }
shown_at r old (event ∷ events) (new ∷ states) (first ∷ lines) false run (suc k) said lt at id told shows =
    shown_at r new events states lines (is_collision first) run.1 k said (omega arith) at id told shows
shown_at r old events states lines stops run k said lt at id told shows = absurd (grind arith)

-- all completed lines for one identifier agree, whatever the number of faulty shards
pub agree : (r : Rules) (old : World) (events : List Event) (states : List World) (lines : List Line) → Runs r old events states lines → Agree lines
agree r old events states lines run a b id told other in_a in_b shows_a shows_b =
    let one = shown_at r old events states lines false run in_a.0 a in_a.1 in_a.2 id told shows_a in
    let two = shown_at r old events states lines false run in_b.0 b in_b.1 in_b.2 id other shows_b in
    cc (one.first, two.first, one.gives, two.gives)
