-- Serving a shard, the bytes of a source have one answer, but for the two texts of a collision.
use Rattle.wal_run.proofs.Common.{truth, ◌≡◌, ◌⊎◌, ⊎_elim, inl, inr, ℕ, true, List, [], ◌∷◌, ◌++◌, Option, Some, refl, ap, ◌∙◌, flat_map-append, Appends, Consumes, IsAtEnd, envelope, ServeEnd, ReadFault, WriteFault, SameButLast, SameEnd, clash_text, desk_room, sent, IsServed, ServedState, one_serving, one_table, Service, Serve, IsTask, one_task, EndsServing, IsServiceResult, answering, at_start, end_status, serve_limit, Around, Completes, served, SameFront, frame, arith}
use Rattle.wal_serve.specs.Determined.{is_collision}
use Rattle.wal_run.proofs.CommandLaws.{SameAt}
use Rattle.wal_run.proofs.ServiceEnds.{all_written, calm_or_faulted}

-- one service is asked for
pub one_asked : (words : List (List ℕ)) (a b : Service) → IsTask words (Serve a) → IsTask words (Serve b) → a ≡ b
one_asked words a b asked also = cc (one_task words (Serve a) (Serve b) asked also)

-- one end has one status
same_status : (end other : ServeEnd) → SameEnd end other → end_status end ≡ end_status other
same_status end other same = grind arith

-- that of a collision is its own
pub status_of_clash : (end : ServeEnd) → is_collision end ≡ true → end_status end ≡ 10
status_of_clash end is = grind arith

-- frames that are the same but for two texts in the last one
pub same_but_last : (shard : ℕ) (xs ys : List (List ℕ)) → SameButLast xs ys → SameFront (frame shard) (sent shard xs) (sent shard ys)
same_but_last shard xs ys last = record {
  front = sent shard last.front;
  clash = last.one;
  other = last.other;
  ends = ap (sent shard) last.ends ∙ flat_map-append (envelope shard) last.front (clash_text last.one ∷ []);
  ends_too = ap (sent shard) last.ends_too ∙ flat_map-append (envelope shard) last.front (clash_text last.other ∷ []);
}

module _ (digest : List ℕ → List ℕ) (service : Service) (input taken rest given more : List ℕ) (s t : ℕ) (x y : List ℕ) (lost : input ≡ taken ++ rest) (spent : input ≡ given ++ more) where
  served_once : IsServiceResult digest service taken (rest ≡ []) s x → IsServiceResult digest service given (more ≡ []) t y → SameAt (frame service.shard) s x t y
  served_once a b =
      let one = one_serving (answering digest) (desk_room service.faults) serve_limit (at_start service) input (one_table digest) taken rest given more a.0 b.0 a.1 b.1 a.2 b.2 lost spent a.3 b.3 in
      rw (a.5, a.6, b.5, b.6) (
        same_status a.2 b.2 one.ends,
        ⊎_elim (λ is. inr (status_of_clash a.2 is, same_but_last service.shard a.0 b.0 (one.last is)))
            (λ is. inl (ap (sent service.shard) (one.frames is))) (truth (is_collision a.2)),
      )

-- SERVING the bytes of a source has one answer
pub one_service : (digest : List ℕ → List ℕ) (service : Service) (input taken given : List ℕ) (after then : Option (List ℕ)) (s t : ℕ) (x y : List ℕ) → Consumes (Some input) after taken
    → Consumes (Some input) then given → IsServiceResult digest service taken (IsAtEnd after) s x → IsServiceResult digest service given (IsAtEnd then) t y → SameAt (frame service.shard) s x t y
one_service digest service input taken given (Some rest) (Some more) s t x y lost spent a b = served_once digest service input taken rest given more s t x y lost spent a b
one_service digest service input taken given after then s t x y lost spent a b = absurd assumption

-- serving ended so
abbrev pub ServedUntil : (List ℕ → List ℕ) → Service → Around → ServeEnd → Type 0
ServedUntil digest s a end =
    (state : ServedState)
    × IsServed (answering digest) (desk_room s.faults) serve_limit s.shard (at_start s) state a.left a.after a.SourceRose a.old a.new a.SinkRose end

-- the whole answer was written, or a fault came
abbrev AnswersOrFaults : (List ℕ → List ℕ) → List (List ℕ) → Service → Around → ℕ → Type 0
AnswersOrFaults digest words s a status =
    ((text : List ℕ) × Completes digest words a.left a.after status text × Appends a.old a.new text)
    ⊎ (((status ≡ 6) × a.SourceRose × ServedUntil digest s a ReadFault) ⊎ ((status ≡ 7) × a.SinkRose × ServedUntil digest s a WriteFault))

-- a run that serves has its answer, or a fault came
pub answer_or_fault : (digest : List ℕ → List ℕ) (words : List (List ℕ)) (service : Service) (a : Around) (status : ℕ) → IsTask words (Serve service)
    → EndsServing digest service a.left a.after a.SourceRose a.old a.new a.SinkRose status → AnswersOrFaults digest words service a status
answer_or_fault digest words service a status asked ends =
    ⊎_elim
    (λ calm.
    let run = ends.2 in
    let text = sent service.shard run.frames in
    inl (
      text,
      served service asked run.taken run.consumed status text (run.frames, ends.0, ends.1, calm, ends.3, ends.4, refl),
      all_written _ _ _ _ run.taken (IsAtEnd a.after) run.frames ends.0 ends.1 _ a.old a.new text calm run.wrote,
    ))
    (λ fault. ⊎_elim
    (λ read. inr (inl (ends.4 ∙ ap end_status read.0, read.1, until read.0)))
    (λ write. inr (inr (ends.4 ∙ ap end_status write.0, write.1, until write.0))) fault)
    (calm_or_faulted (answering digest) (desk_room service.faults) serve_limit (at_start service) ends.2.taken (IsAtEnd a.after) ends.2.frames ends.0 a.SourceRose a.SinkRose ends.1 ends.2.serves)
  where
    until : {end : ServeEnd} → ends.1 ≡ end → ServedUntil digest service a end
    until is = (ends.0, rw is at ends.2)
