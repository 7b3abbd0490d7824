-- Where a fault ended serving, what was written is a front of the answer, up to a collision.
use Rattle.wal_run.proofs.Common.{◌≡◌, ⊎_elim, inl, inr, ℕ, ◌+◌, List, ◌++◌, length, length-append, Option, Some, None, ap, subst, ◌∙◌, arith, take-append-add, false≢true, flat_map-append, Appends, Consumes, IsAtEnd, AppendsPart, envelope, ServeEnd, ReadFault, WriteFault, desk_room, sent, BreaksOff, IsServed, ServedState, one_table, Service, Serve, IsTask, Completes, answered, served, IsFrontOf, IsFrontUpToClash, frame, IsServiceResult, answering, at_start, end_status, serve_limit}
use Rattle.wal_run.proofs.OneService.{one_asked, same_but_last, status_of_clash}
use Rattle.wal_run.proofs.ServiceEnds.{no_answer}
use Rattle.wal_run.proofs.ServiceFronts.{Over, front_or_clash, over, read_begun, write_begun}

module _ (digest : List ℕ → List ℕ) (service : Service) (input : List ℕ) where
  -- the answer of serving without a fault
  pub record Whole (expected : ℕ) (text : List ℕ) : Type 0 where
    pub frames : List (List ℕ)
    pub end : ServeEnd
    pub ending : Over (answering digest) (desk_room service.faults) serve_limit (at_start service) input frames end
    pub status : expected ≡ end_status end
    pub told : text ≡ sent service.shard frames

  of_serving : (given : List ℕ) (then : Option (List ℕ)) (expected : ℕ) (text : List ℕ) → Consumes (Some input) then given
      → IsServiceResult digest service given (IsAtEnd then) expected text → Whole expected text
  of_serving given None expected text spent s = absurd spent
  of_serving given (Some rest) expected text spent s =
      record {
        frames = s.0;
        end = s.2;
        ending = over (answering digest) (desk_room service.faults) serve_limit (at_start service) input given rest s.0 s.1 s.2 spent s.3;
        status = s.5;
        told = s.6;
      }

  pub whole_of : (words : List (List ℕ)) (then : Option (List ℕ)) (expected : ℕ) (text : List ℕ) → IsTask words (Serve service)
      → Completes digest words (Some input) then expected text → Whole expected text
  whole_of words then expected text asked (answered u z is) = absurd (no_answer digest words (Some input) then service u z asked is)
  whole_of words then expected text asked (served other asks given spent u z serves) =
      of_serving given then u z spent (subst (λ (k : Service). IsServiceResult digest k given (IsAtEnd then) u z) (one_asked words other service asks asked) serves)

  sent_front : (frames others : List (List ℕ)) → (rest : List (List ℕ)) × (others ≡ frames ++ rest) → IsFrontOf (sent service.shard frames) (sent service.shard others)
  sent_front frames others f =
      (sent service.shard f.0, ap (sent service.shard) f.1 ∙ flat_map-append (envelope service.shard) frames f.0)

  module _ (expected : ℕ) (text : List ℕ) (whole : Whole expected text) (state : ServedState) (SourceRose SinkRose : Type 0) (old new : Option (List ℕ)) where
    abbrev Until : Option (List ℕ) → ServeEnd → Type 0
    Until after end =
        IsServed (answering digest) (desk_room service.faults) serve_limit service.shard (at_start service) state (Some input) after SourceRose old new SinkRose end

    -- a read failed
    pub read_told : (after : Option (List ℕ)) → Until after ReadFault → (given : List ℕ) × IsFrontOf given text × Appends old new given
    read_told None run = absurd run.consumed
    read_told (Some rest) run =
        let begun = read_begun (answering digest) (desk_room service.faults) serve_limit (at_start service) input run.taken rest (IsAtEnd (Some rest)) SourceRose SinkRose run.frames state run.consumed run.serves in
        let front = front_or_clash (answering digest) (desk_room service.faults) serve_limit (at_start service) input (one_table digest) run.frames whole.frames None whole.end begun whole.ending in (
          sent service.shard run.frames,
          rw whole.told (⊎_elim (λ f. sent_front run.frames whole.frames f) (λ c. absurd (false≢true c.0)) front),
          run.wrote,
        )

    -- of the answer at which a write failed a part was written
    broken : (taken : List ℕ) (frames : List (List ℕ)) → BreaksOff (answering digest) (desk_room service.faults) service.shard (at_start service) taken frames state old new
        → AppendsPart old new (sent service.shard frames)
    broken taken frames b =
        let first = sent service.shard b.before in
        let second = sent service.shard b.some in
        rw (b.answered, flat_map-append (envelope service.shard) b.before b.some) (
          length first + b.count,
          omega (arith, b.short, length-append first second),
          rw (take-append-add first second b.count) b.wrote,
        )

    -- a write failed
    pub write_told : (after : Option (List ℕ)) → Until after WriteFault → (given : List ℕ) × IsFrontUpToClash (frame service.shard) expected given text × AppendsPart old new given
    write_told None run = absurd run.consumed
    write_told (Some rest) run =
        let begun = write_begun (answering digest) (desk_room service.faults) serve_limit (at_start service) input run.taken rest (IsAtEnd (Some rest)) SourceRose SinkRose run.frames state run.consumed run.serves in
        let front = front_or_clash (answering digest) (desk_room service.faults) serve_limit (at_start service) input (one_table digest) run.frames whole.frames begun.0 whole.end begun.1 whole.ending in (
          sent service.shard run.frames,
          rw whole.told
              (⊎_elim (λ f. inl (sent_front run.frames whole.frames f))
              (λ c. inr (whole.status ∙ status_of_clash whole.end c.1, same_but_last service.shard run.frames whole.frames c.2)) front),
          broken run.taken run.frames run.wrote,
        )
