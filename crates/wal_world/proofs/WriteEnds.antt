-- How an honest write ends: it is done, or a put or the first completed answer ends it in a collision.
use Rattle.wal_world.proofs.Common.{◌≡◌, ℕ, true, false, List, Option, Some, None, is_some, ap, ◌∙◌, subst, arith, Side, BlobId, Collision, IsCollision, Frame, Log, World, Committee, with_side, writing_side, IsWrite, WriteCollides, WriteStep, letters, stored_at, rules_of, PutsTo, IsCompared}
use Rattle.wal_protocol.specs.declared.first.First.TheVariants as first
use Rattle.wal_world.proofs.LetterLaws.{side_log}

answers_same : (side : Side) (w : World) (c : Committee) → (with_side side w c).answers ≡ w.answers
answers_same side w c = grind arith

module _ (digest : List ℕ → List ℕ) (old mid : World) (blob to : List ℕ) (id : BlobId) (message : ℕ → List Frame) (side : Side) (here : side ≡ writing_side old)
    (honest : (rules_of digest old.log.f).IsMessage old.format blob id message) where
  abbrev Puts : Option Collision → Type 0
  Puts clash = PutsTo digest old side (letters old side message to) clash mid

  there : (clash : Option Collision) → Puts clash → PutsTo digest old (writing_side old) (letters old (writing_side old) message to) clash mid
  there clash puts = rw here at puts

  abbrev write : (clash : Option Collision) → Puts clash → IsWrite (rules_of digest old.log.f) old blob to id (is_some clash)
  write clash puts = record { message = message; honest = honest; mid = (there clash puts).mid; puts = (there clash puts).puts }

  same_answers : Puts None → mid.answers ≡ old.answers
  same_answers puts = rw (there None puts).state (answers_same (writing_side old) old (there None puts).mid)

  -- a put finds another metadata
  pub put_clashes : (c : Collision) → Puts (Some c) → IsCollision digest c.left c.right × WriteCollides (rules_of digest old.log.f) old blob to mid
  put_clashes c puts =
      ((there (Some c) puts).collides, record { id = id; clashed = true; write = write (Some c) puts; differs = λ e. absurd (cc); state = (there (Some c) puts).state })

  -- the first completed answer is another one
  pub answer_differs : (new : World) (c : Collision) → Puts None → IsCompared digest mid id (first.Written blob) (Some c) new
      → IsCollision digest c.left c.right × WriteCollides (rules_of digest old.log.f) old blob to new
  answer_differs new c puts compared = (
    compared.0,
    record { id = id; clashed = false; write = write None puts; differs = λ e. rw (same_answers puts) at compared.1; state = compared.2 ∙ (there None puts).state },
  )

  -- it is done
  pub write_done : (new : World) (count : ℕ) → Puts None → IsCompared digest mid id (first.Written blob) None new → count ≡ stored_at (rules_of digest new.log.f) new side message to id
      → WriteStep (rules_of digest old.log.f) old blob to id count new
  write_done new count puts compared counted =
      let state : mid ≡ with_side (writing_side old) old (there None puts).mid = (there None puts).state in
      let faults : new.log.f ≡ old.log.f = rw (compared.1, state) (ap (λ (l : Log). l.f) (side_log (writing_side old) old (there None puts).mid)) in
      record {
        write = write None puts;
        agrees = rw (same_answers puts) at compared.0;
        state = rw (same_answers puts, state) at compared.1;
        counted = rw here at (subst (λ (f : ℕ). count ≡ stored_at (rules_of digest f) new side message to id) faults counted);
      }
