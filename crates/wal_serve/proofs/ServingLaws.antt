-- Serving, envelope after envelope, and how it ends.
use Rattle.wal_serve.proofs.Common.{◌≡◌, ℕ, ◌+◌, ◌-◌, ◌<◌, ◌≤◌, List, [], ◌∷◌, ◌++◌, length, take, Option, Some, None, refl, ap, subst, ◌∙◌, append_assoc, append-nil, arith, Consumes, Appends, IsAtEnd, Consumes-trans, Consumes-nil, Appends-trans, Appends-nil, length-append, flat_map-append, MetaClash, envelope, IsPayload, IsStream, IsMalformed, Lack, ServeEnd, WriteFault, Collision, clash_text, sent, PayloadRoom, Lacks, nothing, wrong, cut, too_long, failed, IsEnvelope, Table, Replies, Served, none, more, Serves, BreaksOff, Wrote, IsServed, EndsAt, EndsAtKnown, StopsWith, IsServing, RepliesInto, end_without, Stays}
use Rattle.wal_store.specs.declared.contract.Keep as keep
use Rattle.wal_tree.specs.declared.hash.Hash32 as hash
use Rattle.wal_serve.specs.declared.session.Session.{Session}
use Rattle.wal_port.specs.Appending.{AppendsPart}
use Rattle.wal_serve.proofs.OneServed.{served_goes}
use Rattle.wal_serve.proofs.OneEnd.{first_byte, part_begins}

-- ---- a session, call after call

module _ {H K : Type 0} {h : hash.Ghosts H} {k : keep.Ghosts K} where
  -- a session stays as it is
  pub stays_at : (s : Session H K h k) → Stays s s
  stays_at s = record { shard = refl; state = refl; work = refl; place = record { f = refl; index = refl; limit = refl }; faulty = refl }

  -- what stays from a to b and from b to c stays from a to c
  pub stays_on : (a b c : Session H K h k) → Stays a b → Stays b c → Stays a c
  stays_on a b c first next = grind arith

-- ---- serving so far

-- at the start nothing is taken and nothing is written
pub serving_nothing : (C : Type 0) (Answer : Table C) (room own : ℕ) (fresh : C) (left old : Option (List ℕ)) → IsServing Answer room own fresh fresh left left old old 0
serving_nothing C Answer room own fresh left old = record {
  front = [];
  frames = [];
  served = none;
  long = refl;
  consumed = Consumes-nil left;
  appended = Appends-nil old;
}

pub envelope_long : {size : ℕ} {buffer : PayloadRoom} {got : List ℕ} → IsEnvelope size buffer got → length got ≡ 7 + size
envelope_long e = ap length e.text ∙ omega (arith, e.long)

module _ {C : Type 0} {Answer : Table C} {room own taken : ℕ} {fresh mid : C} {left b old v : Option (List ℕ)} (limit : ℕ)
    (so_far : IsServing Answer room own fresh mid left b old v taken) (within : taken ≤ limit) where
  -- the payload of one more envelope that was taken is replied to
  module _ (c : Option (List ℕ)) {size at : ℕ} {new : C} {buffer : PayloadRoom} {got : List ℕ} {some : List (List ℕ)}
      {clash : Option MetaClash} (takes : IsEnvelope size buffer got × Consumes b c got × (length got ≤ limit - taken))
      (held : buffer.room ≡ room) (answers : RepliesInto Answer buffer size mid some clash new) (by : at ≡ own) where
    replied : Replies Answer room mid takes.0.payload some clash new
    replied = rw (← held) (answers takes.0.payload takes.0.long takes.0.kept)

    served_more : Served Answer room fresh (so_far.front ++ got) (so_far.frames ++ some) clash new
    served_more =
        let e = takes.0 in
        rw e.text (more so_far.front so_far.frames mid so_far.served e.sender e.payload some clash new e.fits replied)

    -- its frames were written
    wrote_more : (w : Option (List ℕ)) → Appends v w (sent at some) → Appends old w (sent own (so_far.frames ++ some))
    wrote_more w next =
        rw (flat_map-append (envelope own) so_far.frames some)
        (Appends-trans old v w (sent own so_far.frames) (sent own some) so_far.appended (rw by at next))

    pub serving_more : {w : Option (List ℕ)} {up : ℕ} → clash ≡ None → Appends v w (sent at some)
        → up ≡ taken + (7 + size) → IsServing Answer room own fresh new left c old w up
    serving_more {w} goes writes sum = record {
      front = so_far.front ++ got;
      frames = so_far.frames ++ some;
      served = rw goes at served_more;
      long = omega (arith, length-append so_far.front got, so_far.long, envelope_long takes.0, sum);
      consumed = Consumes-trans left b c so_far.front got so_far.consumed takes.1;
      appended = wrote_more w writes;
    }

    -- serving ends behind two texts of one digest
    pub ends_stopped : {w : Option (List ℕ)} {Up SinkUp : Type 0} (texts : MetaClash) → StopsWith clash some
        → clash ≡ Some texts → Appends v w (sent at some)
        → IsServed Answer room limit own fresh new left c Up old w SinkUp (Collision texts)
    ends_stopped {w} texts stops ends writes =
        let last : some ≡ clash_text texts ∷ [] = subst (λ (x : Option MetaClash). StopsWith x some) ends stops in
        record {
          taken = so_far.front ++ got;
          frames = so_far.frames ++ some;
          consumed = Consumes-trans left b c so_far.front got so_far.consumed takes.1;
          serves = Serves.stopped texts so_far.frames (rw ends at served_more)
              (omega (arith, length-append so_far.front got, so_far.long, takes.2, within)) (cc (last));
          wrote = wrote_more w writes;
        }

    -- at a write that fails: the answer was written up to a place before its end
    pub ends_write_fault : {w : Option (List ℕ)} {Up SinkUp : Type 0} → AppendsPart v w (sent at some) → SinkUp
        → IsServed Answer room limit own fresh new left c Up old w SinkUp WriteFault
    ends_write_fault {w} writes rose =
        let part = subst (λ (n : ℕ). AppendsPart v w (sent n some)) by writes in
        record {
          taken = so_far.front ++ got;
          frames = so_far.frames ++ some;
          consumed = Consumes-trans left b c so_far.front got so_far.consumed takes.1;
          serves = Serves.write_fault clash served_more
              (omega (arith, length-append so_far.front got, so_far.long, takes.2, within)) rose;
          wrote = record {
            front = so_far.front;
            before = so_far.frames;
            mid = mid;
            served = so_far.served;
            sender = takes.0.sender;
            payload = takes.0.payload;
            fits = takes.0.fits;
            took = cc (takes.0.text);
            some = some;
            clash = clash;
            replies = replied;
            answered = refl;
            count = part.0;
            short = part.1;
            wrote = Appends-trans old v w (sent own so_far.frames) (take part.0 (sent own some)) so_far.appended part.2;
          };
        }

  -- without a further envelope
  ends_as : (c : Option (List ℕ)) (Late Up SinkUp Failed : Type 0) (l : Lack) (got : List ℕ) → (Late → Up)
      → Lacks b c Late (limit - taken) l got
      → Serves Answer room limit fresh (so_far.front ++ got) (IsAtEnd c) Up SinkUp so_far.frames mid (end_without l (length so_far.front))
      × Wrote (end_without l (length so_far.front)) Failed old v (sent own so_far.frames)
  ends_as c Late Up SinkUp Failed _ _ up (nothing next end) =
      let nil : so_far.front ++ [] ≡ so_far.front = append-nil so_far.front in
      (Serves.done (rw nil so_far.served) (omega (arith, ap length nil, so_far.long)) end, so_far.appended)
  ends_as c Late Up SinkUp Failed _ _ up (wrong x next not some) =
      (Serves.wrong so_far.front x refl not so_far.served (omega (arith, length-append so_far.front (x ∷ []), so_far.long)), so_far.appended)
  ends_as c Late Up SinkUp Failed _ _ up (cut got next part some few end) =
      (Serves.cut so_far.front got refl part some so_far.served (omega (arith, length-append so_far.front got, so_far.long)) end, so_far.appended)
  ends_as c Late Up SinkUp Failed _ _ up (too_long got x next part all) =
      (Serves.too_long so_far.front got x refl part so_far.served (omega (arith, length-append so_far.front (got ++ x ∷ []), length-append got (x ∷ []), so_far.long)), so_far.appended)
  ends_as c Late Up SinkUp Failed _ _ up (failed got next part few late) =
      (Serves.read_fault so_far.front got refl part so_far.served (omega (arith, length-append so_far.front got, so_far.long)) (up late), so_far.appended)

  lost : (c : Option (List ℕ)) (Late : Type 0) (most : ℕ) (l : Lack) (got : List ℕ) → Lacks b c Late most l got → Consumes b c got
  lost c Late most l got lacks = grind arith

  pub ends_without : {c : Option (List ℕ)} {Late Up SinkUp : Type 0} {l : Lack} {got : List ℕ} {end : ServeEnd} → (Late → Up)
      → Lacks b c Late (limit - taken) l got → end ≡ end_without l taken
      → IsServed Answer room limit own fresh mid left c Up old v SinkUp end
  ends_without {c} {Late} {Up} {SinkUp} {l} {got} up lacks is =
      let both = ends_as c Late Up SinkUp (BreaksOff Answer room own fresh (so_far.front ++ got) so_far.frames mid old v) l got up lacks in
      rw (is, ← so_far.long)
      (record {
        taken = so_far.front ++ got;
        frames = so_far.frames;
        consumed = Consumes-trans left b c so_far.front got so_far.consumed (lost c Late (limit - taken) l got lacks);
        serves = both.0;
        wrote = both.1;
      })

-- ---- what the end says of the input

-- a tail that begins no envelope, behind a stream
malformed : (payloads : List (List ℕ)) (front rest input : List ℕ) → IsStream payloads front → 0 < length rest
    → ((sender : ℕ) (payload after : List ℕ) → IsPayload payload → rest ≡ envelope sender payload ++ after → ⊥)
    → input ≡ front ++ rest → IsMalformed (length front) input
malformed payloads front rest input stream some unfit parts = record {
  front = front;
  payloads = payloads;
  rest = rest;
  parts = parts;
  size = refl;
  whole = stream;
  more = λ nil. omega (arith, some, ap length nil);
  unfit = unfit;
}

ends_at : (C : Type 0) (Answer : Table C) (room limit : ℕ) (fresh state : C) (taken input rest : List ℕ) (Up SinkUp : Type 0) (frames : List (List ℕ)) (end : ServeEnd)
    → input ≡ taken ++ rest → Serves Answer room limit fresh taken (IsAtEnd (Some rest)) Up SinkUp frames state end → EndsAt end input
ends_at C Answer room limit fresh state taken input rest Up SinkUp frames _ parts (Serves.done served within end) =
    let stream = served_goes Answer room fresh taken frames None state served in
    let all : taken ≡ input = cc (parts, end, append-nil taken) in
    (stream.0, subst (IsStream stream.0) all stream.1)
ends_at C Answer room limit fresh state taken input rest Up SinkUp frames _ parts (Serves.wrong front b is not served within) =
    let stream = served_goes Answer room fresh front frames None state served in
    malformed stream.0 front (b ∷ rest) input stream.1 (omega arith) (λ sender payload after fits same. not (first_byte b rest sender payload after same))
    (cc (parts, is, append_assoc front (b ∷ []) rest))
ends_at C Answer room limit fresh state taken input rest Up SinkUp frames _ parts (Serves.cut front got is part some served within end) =
    let stream = served_goes Answer room fresh front frames None state served in
    malformed stream.0 front got input stream.1 some (λ sender payload after fits same. part_begins got sender payload after part fits same)
    (cc (parts, end, append-nil taken, is))
ends_at C Answer room limit fresh state taken input rest Up SinkUp frames _ parts serves = tt

-- how serving ended, where the source told its bytes
pub served_ends : (C : Type 0) (Answer : Table C) (room limit own : ℕ) (fresh state : C) (left after : Option (List ℕ)) (Up : Type 0) (old new : Option (List ℕ)) (SinkUp : Type 0) (end : ServeEnd)
    → IsServed Answer room limit own fresh state left after Up old new SinkUp end → EndsAtKnown end left
served_ends C Answer room limit own fresh state None after Up old new SinkUp end s = tt
served_ends C Answer room limit own fresh state (Some input) None Up old new SinkUp end s = absurd s.consumed
served_ends C Answer room limit own fresh state (Some input) (Some rest) Up old new SinkUp end s =
    ends_at C Answer room limit fresh state s.taken input rest Up SinkUp s.frames end s.consumed s.serves
