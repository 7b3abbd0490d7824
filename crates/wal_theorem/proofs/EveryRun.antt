-- Every event of bytes has a step in a world of bytes, and every schedule of bytes has a run.
use Rattle.wal_theorem.proofs.Common.{◌≡◌, ℕ, ◌≤◌, List, [], ◌∷◌, ◌++◌, Bool, true, false, cond, All, Option, Some, None, refl, sym, ap₂, subst, arith, ◌∙◌, inl, inr, BlobId, Axis, BlobMetadata, metadata_text, Commits, Evidence, Verdict, Frame, Fits, IsSchedule, IsEventWithin, Event, Schedule, Line, ReadWord, RecoverWord, committee_size, Log, Parts, Contents, First, Committee, World, side_of, writing_side, held, with_contents, Rules, is_clash, PutsEach, letters, IsWrite, SendStep, reply_payloads, read_payloads, ReadCompletes, ReadStep, ReadCollides, two_metadata, other_answer, IsReplyOf, AreReplies, RecoveryRuns, RecoverStep, CollisionStep, Steps, first_state, is_collision, Runs, Facts, Possible, HasBytes, HasStep, HasRun, Total, surely, then, every_event, every_run, Knows, rules_of, WorldOfBytes, IsDigest, IsOneToOne, one_metadata, metadata_carried, Metadata, Bytes, Reject, Absent, Ignored, Unregistered, AreBytes}
use Rattle.std.specs.FinMap as finmap
use Rattle.wal_shape.specs.declared.axis.Side.{Side}
use Rattle.wal_event.specs.declared.event.Event.TheVariants.{Write, Send, Read, Recover}
use Rattle.wal_event.specs.declared.event.Reply.{Reply}
use Rattle.wal_event.specs.declared.line.Line.TheVariants as line
use Rattle.wal_event.specs.declared.line.WriteWord.TheVariants as write_word
use Rattle.wal_event.specs.declared.line.SendWord.{SendWord}
use Rattle.wal_event.specs.declared.line.SendWord.TheVariants as sending
use Rattle.wal_theorem.proofs.ByteRules.{byte_rules, byte_laws}
use Rattle.wal_theorem.proofs.EveryMessage.{message_exists, put_message}
use Rattle.wal_theorem.proofs.EveryPut.{put_collides, put_read, put_room, unless_collision}
use Rattle.wal_theorem.proofs.EveryRead.{every_read}
use Rattle.wal_theorem.proofs.EveryRecovery.{every_recovery}
use Rattle.wal_theorem.proofs.EveryReply.{read_replied, symbol_replied}
use Rattle.wal_theorem.proofs.InstanceHoldings.{held_own}
use Rattle.wal_theorem.proofs.OneAnswer.{one_answer}

-- what follows where nothing ends
unless_clash : (A B C : Type 0) (k : Bool) → cond k A B → (B → C) → cond k A C
unless_clash A B C true rest go = rest
unless_clash A B C false rest go = go rest

-- ---- what the rules of bytes are total in

module _ (digest : List ℕ → List ℕ) (is : IsDigest digest) (f : ℕ) where
  abbrev b : Rules
  b = byte_rules digest f

  abbrev r : Rules
  r = rules_of digest f

  -- a metadata of the identifier, in bytes
  abbrev IsOwn : BlobId → BlobMetadata → Type 0
  IsOwn id m = Commits digest id.0 m × AreBytes (metadata_text m)

  known_own : (id : BlobId) (shard : ℕ) (p : Parts) (payloads : List (List ℕ)) → All AreBytes payloads → b.IsSound id shard p → (m : BlobMetadata) → Knows digest id p payloads m → IsOwn id m
  known_own id shard p payloads are sound m (inl found) = (found.4.1, metadata_carried digest id.0 payloads m are found)
  known_own id shard p payloads are sound m (inr holds) = ((held_own digest f id.0 shard p sound.0 m holds).commits, sound.1 Metadata (metadata_text m) holds.spelled)

  same_own : IsOneToOne digest → (id : BlobId) (m o : BlobMetadata) → IsOwn id m → IsOwn id o → m ≡ o
  same_own one id m o own other = one_metadata digest one m o own.0.fit other.0.fit own.1 other.1 (sym own.0.identifier ∙ other.0.identifier)

  -- for f from 1 to 333 the rules are total
  pub total_of : 1 ≤ f → f ≤ 333 → Total b
  total_of some few = record {
    message = λ format blob short are. surely (message_exists digest is f some few format blob short are);
    put_message = λ format blob id message honest log shard lt frame has. put_message digest is f some few format blob id message honest log shard lt frame has;
    put_read = λ bytes frame are is_put log shard. put_read digest is f bytes frame are is_put log shard;
    put_room = λ log shard old new frame answer puts. put_room digest is f log shard old new frame answer puts;
    put_collides = λ log shard old new frame answer puts clash. put_collides digest is f log shard old new frame answer puts clash;
    read_replied = λ id shard p sound. read_replied digest is f id shard p sound.0 sound.1;
    symbol_replied = λ id helper p axis shard sound. surely (symbol_replied digest is f id helper p sound.0 sound.1 axis shard);
    reads = λ id payloads are two. every_read digest f id payloads are two;
    two_collide = λ id payloads are two. unless_collision digest is f (λ one.
        two.4 (same_own one id two.0 two.1 (two.2.4.1, metadata_carried digest id.0 payloads two.0 are two.2) (two.3.4.1, metadata_carried digest id.0 payloads two.1 are two.3)));
    recovers = λ id shard axis old payloads lt are was two. every_recovery digest f id shard axis old was payloads are two;
    held_collides = λ id shard p payloads are sound two. unless_collision digest is f (λ one.
        two.4 (same_own one id two.0 two.1 (known_own id shard p payloads are sound two.0 two.2) (known_own id shard p payloads are sound two.1 two.3)));
    answers_collide = λ id x y backed_x backed_y differ. unless_collision digest is f (λ one. differ (one_answer digest one f id x y backed_x.0 backed_x.1 backed_y.0 backed_y.1));
  }

  -- ---- their steps are steps of the world

  plain_puts : (log : Log) (c : Committee) (puts : List (ℕ × Frame)) (clashed : Bool) (new : Committee) → PutsEach b log c puts clashed new → PutsEach r log c puts clashed new
  plain_puts log c [] clashed new is = is
  plain_puts log c (p ∷ more) clashed new (answer, contents, puts, rest) =
      (answer, contents, puts.0, unless_clash _ _ _ (is_clash answer) rest (plain_puts log (with_contents c p.0 contents) more clashed new))

  plain_send : (old : World) (side : Side) (shard : ℕ) (bytes : List ℕ) (word : SendWord) (new : World) → SendStep b old side shard bytes word new → SendStep r old side shard bytes word new
  plain_send old side shard bytes sending.Absent new step = step
  plain_send old side shard bytes sending.Ignored new step = step
  plain_send old side shard bytes sending.Malformed new step = step
  plain_send old side shard bytes word new step = (step.0, step.1, (step.2.0, step.2.1, step.2.2.0), step.3)

  plain_reply : (old : World) (id : BlobId) (one : Reply) → reply_payloads b old id one ≡ reply_payloads r old id one
  plain_reply old id one = grind arith

  plain_payloads : (old : World) (id : BlobId) (replies : List Reply) → read_payloads b old id replies ≡ read_payloads r old id replies
  plain_payloads old id [] = refl
  plain_payloads old id (one ∷ more) = ap₂ ◌++◌ (plain_reply old id one) (plain_payloads old id more)

  plain_reads : (old : World) (id : BlobId) (replies : List Reply) (word : ReadWord) (evidence : Option Evidence) → b.Reads id (read_payloads b old id replies) word evidence
      → r.Reads id (read_payloads r old id replies) word evidence
  plain_reads old id replies word evidence reads = rw (plain_payloads old id replies) at reads.0

  plain_completes : (old : World) (id : BlobId) (replies : List Reply) (word : ReadWord) (told : Verdict) (new : World) → ReadCompletes b old id replies word told new
      → ReadCompletes r old id replies word told new
  plain_completes old id replies word told new c =
      record { evidence = c.evidence; reads = plain_reads old id replies word (Some c.evidence) c.reads; agrees = c.agrees; state = c.state }

  plain_read : (old : World) (id : BlobId) (replies : List Reply) (word : ReadWord) (new : World) → ReadStep b old id replies word new → ReadStep r old id replies word new
  plain_read old id replies (Bytes bytes) new c = plain_completes old id replies (Bytes bytes) (Bytes bytes) new c
  plain_read old id replies Reject new c = plain_completes old id replies Reject Reject new c
  plain_read old id replies word new step = (plain_reads old id replies word None step.0, step.1)

  plain_reply_of : (old : World) (id : BlobId) (axis : Axis) (shard : ℕ) (one : Reply) (payloads : List (List ℕ)) → IsReplyOf b old id axis shard one payloads → IsReplyOf r old id axis shard one payloads
  plain_reply_of old id axis shard one payloads is_reply = grind arith

  plain_replies : (old : World) (id : BlobId) (axis : Axis) (shard : ℕ) (replies : List Reply) (payloads : List (List ℕ)) → AreReplies b old id axis shard replies payloads
      → AreReplies r old id axis shard replies payloads
  plain_replies old id axis shard [] payloads none = none
  plain_replies old id axis shard (one ∷ more) payloads (first, rest, here, later, joined) =
      (first, rest, plain_reply_of old id axis shard one first here, plain_replies old id axis shard more rest later, joined)

  plain_runs : (old : World) (side : Side) (shard : ℕ) (axis : Axis) (id : BlobId) (replies : List Reply) (word : RecoverWord) (contents : Contents)
      → RecoveryRuns b old side shard axis id replies word contents → RecoveryRuns r old side shard axis id replies word contents
  plain_runs old side shard axis id replies word contents run = record {
    correct = run.correct;
    live = run.live;
    payloads = run.payloads;
    replied = plain_replies old id axis shard replies run.payloads run.replied;
    one_metadata = run.one_metadata;
    recovers = run.recovers.0;
  }

  plain_recover : (old : World) (side : Side) (shard : ℕ) (axis : Axis) (id : BlobId) (replies : List Reply) (word : RecoverWord) (new : World)
      → RecoverStep b old side shard axis id replies word new → RecoverStep r old side shard axis id replies word new
  plain_recover old side shard axis id replies Absent new step = step
  plain_recover old side shard axis id replies Ignored new step = step
  plain_recover old side shard axis id replies Unregistered new step = step
  plain_recover old side shard axis id replies word new step = (step.0, plain_runs old side shard axis id replies word step.0 step.1, step.2)

  plain_read_collides : (old : World) (id : BlobId) (replies : List Reply) → ReadCollides b old id replies → ReadCollides r old id replies
  plain_read_collides old id replies (two_metadata two) = two_metadata (rw (plain_payloads old id replies) at two)
  plain_read_collides old id replies (other_answer word told evidence reads tells differs) = other_answer word told evidence (plain_reads old id replies word (Some evidence) reads) tells differs

  plain_write : (old : World) (blob to : List ℕ) (id : BlobId) (clashed : Bool) → IsWrite b old blob to id clashed → IsWrite r old blob to id clashed
  plain_write old blob to id clashed w = record {
    message = w.message;
    honest = w.honest;
    mid = w.mid;
    puts = plain_puts old.log (side_of (writing_side old) old) (letters old (writing_side old) w.message to) clashed w.mid w.puts;
  }

  plain_collision : (old : World) (event : Event) (new : World) → CollisionStep b old event new → CollisionStep r old event new
  unfolding plain_write
  plain_collision old (Write blob to) new w = record {
    id = w.id;
    clashed = w.clashed;
    write = plain_write old blob to w.id w.clashed w.write;
    differs = w.differs;
    state = w.state;
  }
  plain_collision old (Send at shard bytes) new (frame, contents, answer, clash, puts, same) = (frame, contents, answer, clash, (puts.0, puts.1, puts.2.0), same)
  plain_collision old (Read id replies) new (clash, same) = (plain_read_collides old id replies clash, same)
  plain_collision old (Recover at shard axis id replies) new (clash, same) = (
    record { correct = clash.correct; live = clash.live; payloads = clash.payloads; replied = plain_replies old id axis shard replies clash.payloads clash.replied; two_metadata = clash.two_metadata },
    same,
  )
  plain_collision old event new none = absurd none

  -- a step by the rules b is one by the rules r
  pub plain_step : (old : World) (event : Event) (said : Line) (new : World) → Steps b old event said new → Steps r old event said new
  unfolding plain_write
  plain_step old (Write blob to) (line.Write i (write_word.Stored count bytes)) new (same, w) = (
    same,
    record {
      write = plain_write old blob to i false w.write;
      agrees = w.agrees;
      state = w.state;
      counted = w.counted;
    },
  )
  plain_step old (Send at shard bytes) (line.Send s word) new (same, step) = (same, plain_send old at shard bytes word new step)
  plain_step old (Read id replies) (line.Read i word) new (same, step) = (same, plain_read old id replies word new step)
  plain_step old (Recover at shard axis id replies) (line.Recover s a i word) new (same_s, same_a, same_i, step) =
      (same_s, same_a, same_i, plain_recover old at shard axis id replies word new step)
  plain_step old event (line.Collision left right) new (clash, step) = (clash, plain_collision old event new step)
  plain_step old event said new step = step

  plain_run : (old : World) (events : List Event) (states : List World) (lines : List Line) → Runs b old events states lines → Runs r old events states lines
  plain_run old [] [] [] run = tt
  plain_run old (event ∷ events) (new ∷ states) (said ∷ lines) (step, rest) =
      (plain_step old event said new step, unless_clash _ _ _ (is_collision said) rest (plain_run new events states lines))
  plain_run old events states lines none = absurd none

  -- ---- every event, and every schedule

  -- a world of bytes
  pub bytes_facts : (old : World) → Facts r old → WorldOfBytes old → Facts b old
  bytes_facts old facts bytes =
      let sound : (side : Side) (s : ℕ) (id : BlobId) → b.IsSound id s (held (side_of side old) s id) = λ side s id. (facts.sound side s id, bytes.parts side s id) in
      let answers : (id : BlobId) (first : First) → finmap.get old.answers id ≡ Some first → b.IsBacked id first = λ id first at. (facts.answers id first at, bytes.answers id first at) in
      assumption

  pub step_exists : (old : World) (event : Event) → Facts r old → WorldOfBytes old → Fits f event → HasBytes event → Possible (HasStep r old event)
  step_exists old event facts bytes fits are =
      then
      (every_event b (byte_laws digest is.size f fits.most) (total_of fits.least fits.most) old event (bytes_facts old facts bytes)
      (subst (λ (k : ℕ). IsEventWithin (committee_size k) event) (sym facts.sized_f) fits.within) are)
      (λ step. surely (step.0, step.1, plain_step old event step.0 step.1 step.2))

pub run_exists : (digest : List ℕ → List ℕ) → IsDigest digest → (s : Schedule) → IsSchedule s → All HasBytes s.events → Possible (HasRun (rules_of digest s.f) s)
run_exists digest is s fit are =
    then (every_run (byte_rules digest s.f) (byte_laws digest is.size s.f fit.most) (total_of digest is s.f fit.least fit.most) s fit refl are)
    (λ run. surely (run.0, run.1, plain_run digest is s.f (first_state s) s.events run.0 run.1 run.2))
