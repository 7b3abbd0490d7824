-- Every event in a state that has the facts has a step, and every schedule has a run, where the answers of the crates below are there.
use Rattle.wal_protocol.proofs.Common.{◌≡◌, ◌⊎◌, ℕ, ◌+◌, ◌<◌, Bool, true, false, cond, is_some, List, [], ◌∷◌, ◌++◌, map, Option, Some, None, All, Contains, refl, sym, ap, subst, ◌∙◌, ⊎_elim, inl, inr, true≢false, AllByRecursion, false≢true, All-nil, All-cons, All-head, All-tail, All-append, BlobId, Axis, Side, ascends_from, Evidence, Verdict, Frame, IsEventWithin, IsSchedule, Event, Register, Write, Send, Ack, Attest, Read, Recover, Forget, Begin, Ready, Finish, Certificate, Holders, Reply, Schedule, Line, ReadWord, RecoverWord, committee_size, Log, is_live, Parts, Contents, PutAnswer, First, Judged, Written, Committee, World, side_of, with_side, writing_side, is_correct, contents_of, held, with_contents, keeps, holders, verdict_of, answered, Rules, is_clash, PutsEach, letters, stored_at, AgreesWithFirst, Differs, WriteStep, WriteCollides, read_payloads, reply_payloads, ReadCompletes, ReadStep, told_by, two_metadata, other_answer, IsReplyOf, AreReplies, RecoveryRuns, RecoverStep, RecoverCollides, Steps, first_state, is_collision, Runs, Facts, Laws, Possible, AreBytes, ReplyHasBytes, HasBytes, HasStep, HasRun, arith, SendWord, WriteWord, nat_tests, All-map, Contains-get_or, IsWrite, get}
use Rattle.wal_event.specs.declared.line.HoldersWord.TheVariants as holders_word
use Rattle.wal_protocol.specs.inside.Total.{HasCollision, IsAnswered, IsFound, Total}
use Rattle.wal_protocol.proofs.Lookups.{held_is, AreSound, sound_contents, grown_put}
use Rattle.wal_protocol.proofs.Stepped.{facts_step}
use Rattle.wal_protocol.proofs.Safety.{facts_first}
use Rattle.wal_protocol.proofs.OneStep.{sent_word, recovered_state}
use Rattle.wal_protocol.proofs.EveryWord.{surely, then, by_cases, truth, Standing, absent, ignored, correct, standing, every_register, every_ack, every_attest, every_forget, every_begin, every_ready, every_finish, every_certificate}

abbrev Answer : Rules → Log → ℕ → Contents → Frame → Type 0
Answer r log shard old frame = (answer : PutAnswer) × (new : Contents) × r.Puts log shard old frame answer new

-- what puts in order come to, and a collision where one clashed
abbrev Came : Rules → Log → Committee → List (ℕ × Frame) → Type 0
Came r log c puts = (clashed : Bool) × (new : Committee) × PutsEach r log c puts clashed new × (clashed ≡ true → HasCollision r)

-- numbers that ascend are below their bound
below_bound : (low n : ℕ) (xs : List ℕ) → ascends_from low n xs ≡ true → AllByRecursion (λ s. s < n) xs
below_bound low n [] up = tt
below_bound low n (x ∷ xs) up = grind (arith, nat_tests, below_bound (x + 1) n xs)

module _ (r : Rules) (laws : Laws r) (total : Total r) where
  -- ---- puts

  abbrev CanPut : Log → ℕ × Frame → Type 0
  CanPut log p = IsAnswered r log p.0 p.1

  every_puts : (log : Log) (c : Committee) (puts : List (ℕ × Frame)) → AreSound r c → All (CanPut log) puts
      → Possible (Came r log c puts)
  every_puts log c [] sound can = surely (false, c, (refl, refl), λ fails. absurd (false≢true fails))
  every_puts log c (p ∷ more) sound can =
      then (All-head (CanPut log) p more can (contents_of c p.0) (sound_contents r c p.0 sound)) (λ answer.
      by answer.0 answer.1 answer.2 (is_clash answer.0) refl
      (λ mid grown. every_puts log mid more grown (All-tail (CanPut log) p more can)))
    where
      by : (answer : PutAnswer) (new : Contents) → r.Puts log p.0 (contents_of c p.0) p.1 answer new → (b : Bool) → is_clash answer ≡ b
          → ((mid : Committee) → AreSound r mid → Possible (Came r log mid more)) → Possible (Came r log c (p ∷ more))
      by answer new puts true clash more_puts =
          surely (true, c, (answer, new, puts, rw clash (refl, refl)), λ is. total.put_collides log p.0 (contents_of c p.0) new p.1 answer puts clash)
      by answer new puts false clash more_puts =
          then (more_puts (with_contents c p.0 new) (grown_put r laws log c p.0 p.1 answer new sound puts).sound)
          (λ rest.
          surely (rest.0, rest.1, (answer, new, puts, rw clash rest.2), rest.3))

  -- ---- first answers

  -- what is told agrees with the first completed answer, or the two collide
  every_answer : (old : World) (id : BlobId) (first : First) → Facts r old → r.IsBacked id first
      → Possible (AgreesWithFirst old.answers id (verdict_of first) ⊎ (Differs old.answers id (verdict_of first) × HasCollision r))
  every_answer old id first facts backed = by (get old.answers id) refl
    where
      by : (o : Option First) → get old.answers id ≡ o → Possible (AgreesWithFirst old.answers id (verdict_of first) ⊎ (Differs old.answers id (verdict_of first) × HasCollision r))
      by None is = surely (inl (λ answer at. absurd (let none : None ≡ Some answer = sym is ∙ at in cc)))
      by (Some was) is =
          by_cases (verdict_of was ≡ verdict_of first)
          (λ same. surely (inl (λ answer at. (let one : Some was ≡ Some answer = sym is ∙ at in let e : was ≡ answer = cc in ap verdict_of (sym e) ∙ same))))
          (λ apart. then (total.answers_collide id was first (facts.answers id was is) backed apart) (λ clash. surely (inr ((was, is, apart), clash))))

  -- ---- honest writes

  letters_can : (log : Log) (w : World) (side : Side) (message : ℕ → List Frame) (n : ℕ) (to : List ℕ)
      → ((s : ℕ) (frame : Frame) → s < n → Contains (message s) frame → CanPut log (s, frame))
      → AllByRecursion (λ s. s < n) to → All (CanPut log) (letters w side message to)
  letters_can log w side message n [] can within = All-nil (CanPut log)
  letters_can log w side message n (s ∷ to) can within =
      All-append (CanPut log) (cond (is_correct side w s) (map (λ frame. (s, frame)) (message s)) [])
      (letters w side message to)
      (addressed (is_correct side w s)) (letters_can log w side message n to can within.1)
    where
      addressed : (b : Bool) → All (CanPut log) (cond b (map (λ frame. (s, frame)) (message s)) [])
      addressed true =
          All-map (CanPut log) (λ frame. (s, frame)) (message s)
          (λ k d lt. can s _ within.0 (Contains-get_or (message s) k d lt))
      addressed false = All-nil (CanPut log)

  every_write : (old : World) (blob to : List ℕ) → Facts r old → IsEventWithin (committee_size old.log.f) (Write blob to) → AreBytes blob → Possible (HasStep r old (Write blob to))
  every_write old blob to facts fit bytes =
      then (total.message old.format blob fit.0 bytes) (λ m.
      then (every_puts old.log (side_of side old) (letters old side m.1 to) (facts.sound side) (can m.0 m.1 m.2)) (λ came.
      ends m.0 came.0 (record { message = m.1; honest = m.2; mid = came.1; puts = came.2 }) came.3))
    where
      side : Side
      side = writing_side old

      can : (id : BlobId) (message : ℕ → List Frame) → r.IsMessage old.format blob id message
          → All (CanPut old.log) (letters old side message to)
      can id message honest =
          letters_can old.log old side message (committee_size old.log.f) to
          (λ s frame lt has.
          total.put_message old.format blob id message honest old.log s (rw (← facts.sized_f) lt) frame has)
          (below_bound 0 (committee_size old.log.f) to fit.1)

      stops : HasCollision r → (id : BlobId) (clashed : Bool) (write : IsWrite r old blob to id clashed)
          → (clashed ≡ false → Differs old.answers id (Verdict.Bytes blob)) → Possible (HasStep r old (Write blob to))
      stops clash id clashed write differs =
          let is : WriteCollides r old blob to (with_side side old write.mid) =
          record { id = id; clashed = clashed; write = write; differs = differs; state = refl } in
          surely (Line.Collision clash.0 clash.1, with_side side old write.mid, (clash.2, is))

      ends : (id : BlobId) (clashed : Bool) → IsWrite r old blob to id clashed → (clashed ≡ true → HasCollision r)
          → Possible (HasStep r old (Write blob to))
      ends id true write collides = stops (collides refl) id true write (λ fails. absurd (true≢false fails))
      ends id false write collides =
          let backed = laws.write_backed old.format blob id write.message write.honest in
          then (every_answer old id (Written blob) facts backed) (λ e. ⊎_elim
          (λ agrees.
          let new : World =
          record (with_side side old write.mid) { answers = answered old.answers id (Written blob) } in
          let count = stored_at r new side write.message to id in
          let is : WriteStep r old blob to id count new =
          record { write = write; agrees = agrees; state = refl; counted = refl } in
          surely (Line.Write id (WriteWord.Stored count blob), new, (refl, is)))
          (λ differ. stops differ.1 id false write (λ same. differ.0))
          e)

  -- ---- bytes sent

  every_send : (old : World) (side : Side) (shard : ℕ) (bytes : List ℕ) → Facts r old → AreBytes bytes → Possible (HasStep r old (Send side shard bytes))
  every_send old side shard bytes facts are = elim (standing old side shard) [
    | absent none ↦ surely (Line.Send shard SendWord.Absent, old, (refl, (none, refl)))
    | ignored faulty ↦ surely (Line.Send shard SendWord.Ignored, old, (refl, (faulty, refl)))
    | correct sound ↦
        by_cases ((frame : Frame) × r.IsPutFrame bytes frame)
        (λ found.
        then
        (total.put_read bytes found.0 are found.1 old.log shard (contents_of (side_of side old) shard)
        (sound_contents r (side_of side old) shard (facts.sound side)))
        (λ put. answers sound found.0 found.1 put.0 put.1 put.2))
        (λ none. surely (Line.Send shard SendWord.Malformed, old, (refl, (sound, (λ frame is. none (frame, is)), refl))))
  ]
    where
      answers : is_correct side old shard ≡ true → (frame : Frame) → r.IsPutFrame bytes frame → (answer : PutAnswer) (contents : Contents)
          → r.Puts old.log shard (contents_of (side_of side old) shard) frame answer contents → Possible (HasStep r old (Send side shard bytes))
      answers sound frame is PutAnswer.Stored contents puts = surely (Line.Send shard SendWord.Stored, keeps old side shard contents, (refl, (frame, contents, (sound, is, puts), refl)))
      answers sound frame is (PutAnswer.OtherMetadata clash) contents puts =
          let found = total.put_collides old.log shard (contents_of (side_of side old) shard) contents frame (PutAnswer.OtherMetadata clash) puts refl in
          surely (Line.Collision found.0 found.1, old, (found.2, (frame, contents, PutAnswer.OtherMetadata clash, refl, (sound, is, puts), refl)))
      answers sound frame is (PutAnswer.Full needed free) contents puts = absurd (total.put_room old.log shard (contents_of (side_of side old) shard) contents frame (PutAnswer.Full needed free) puts)
      answers sound frame is PutAnswer.Memory contents puts = absurd (total.put_room old.log shard (contents_of (side_of side old) shard) contents frame PutAnswer.Memory puts)
      answers sound frame is refusal contents puts = surely (Line.Send shard (sent_word refusal), old, (refl, (frame, contents, (sound, is, puts), refl)))

  -- ---- reads

  read_bytes : (old : World) (id : BlobId) (replies : List Reply) → Facts r old → All ReplyHasBytes replies → All AreBytes (read_payloads r old id replies)
  read_bytes old id [] facts are = All-nil AreBytes
  read_bytes old id (one ∷ more) facts are =
      All-append AreBytes (reply_payloads r old id one) (read_payloads r old id more) (replied one (All-head ReplyHasBytes one more are)) (read_bytes old id more facts (All-tail ReplyHasBytes one more are))
    where
      truly : (b : Bool) (side : Side) (shard : ℕ) → All AreBytes (cond b (r.read_reply id shard (held (side_of side old) shard id)) [])
      truly true side shard = total.read_replied id shard (held (side_of side old) shard id) (facts.sound side shard id)
      truly false side shard = All-nil AreBytes

      replied : (one : Reply) → ReplyHasBytes one → All AreBytes (reply_payloads r old id one)
      replied (Reply.True side shard) has = truly (is_correct side old shard) side shard
      replied (Reply.Bytes bytes) has = All-cons AreBytes bytes [] has (All-nil AreBytes)

  every_read : (old : World) (id : BlobId) (replies : List Reply) → Facts r old → All ReplyHasBytes replies → Possible (HasStep r old (Read id replies))
  every_read old id replies facts are =
      by_cases (r.HasTwoMetadata id (read_payloads r old id replies))
      (λ two. then (total.two_collide id (read_payloads r old id replies) bytes two) (λ clash. surely (Line.Collision clash.0 clash.1, old, (clash.2, (two_metadata two, refl)))))
      (λ one. then (total.reads id (read_payloads r old id replies) bytes one) (λ found. ends found.0 found.1 found.2.0 found.2.1))
    where
      bytes : All AreBytes (read_payloads r old id replies)
      bytes = read_bytes old id replies facts are

      completes : (word : ReadWord) (told : Verdict) (evidence : Evidence) → r.Reads id (read_payloads r old id replies) word (Some evidence) → told_by word ≡ Some told
          → ((new : World) → ReadCompletes r old id replies word told new → ReadStep r old id replies word new) → Possible (HasStep r old (Read id replies))
      completes word told evidence reads tells step =
          then (every_answer old id (Judged evidence told) facts (laws.read_backed id (read_payloads r old id replies) word evidence told reads tells)) (λ e. ⊎_elim
          (λ agrees.
          let new : World = record old { answers = answered old.answers id (Judged evidence told) } in
          surely (Line.Read id word, new, (refl, step new (record { evidence = evidence; reads = reads; agrees = agrees; state = refl }))))
          (λ differ. let clash = differ.1 in surely (Line.Collision clash.0 clash.1, old, (clash.2, (other_answer word told evidence reads tells differ.0, refl))))
          e)

      ends : (word : ReadWord) (evidence : Option Evidence) → r.Reads id (read_payloads r old id replies) word evidence → is_some evidence ≡ is_some (told_by word) → Possible (HasStep r old (Read id replies))
      ends (ReadWord.Bytes told) (Some evidence) reads fits = completes (ReadWord.Bytes told) (Verdict.Bytes told) evidence reads refl (λ new is. is)
      ends ReadWord.Reject (Some evidence) reads fits = completes ReadWord.Reject Verdict.Reject evidence reads refl (λ new is. is)
      ends (ReadWord.Short have need) None reads fits = surely (Line.Read id (ReadWord.Short have need), old, (refl, (reads, refl)))
      ends ReadWord.NoMetadata None reads fits = surely (Line.Read id ReadWord.NoMetadata, old, (refl, (reads, refl)))
      ends word evidence reads fits = absurd cc

  -- ---- recoveries

  abbrev Replied : World → BlobId → Axis → ℕ → List Reply → Type 0
  Replied old id axis shard replies = (payloads : List (List ℕ)) × AreReplies r old id axis shard replies payloads × All AreBytes payloads

  every_reply : (old : World) (id : BlobId) (axis : Axis) (shard : ℕ) (replies : List Reply) → Facts r old → All ReplyHasBytes replies → Possible (Replied old id axis shard replies)
  every_reply old id axis shard [] facts are = surely ([], refl, All-nil AreBytes)
  every_reply old id axis shard (one ∷ more) facts are =
      then (replied one (All-head ReplyHasBytes one more are)) (λ first.
      then (every_reply old id axis shard more facts (All-tail ReplyHasBytes one more are)) (λ rest.
      surely (first.0 ++ rest.0, (first.0, rest.0, first.1, rest.1, refl), All-append AreBytes first.0 rest.0 first.2 rest.2)))
    where
      truly : (b : Bool) (side : Side) (s : ℕ)
          → Possible ((payloads : List (List ℕ)) × cond b (r.IsSymbolReply id s (held (side_of side old) s id) axis shard payloads) (payloads ≡ []) × All AreBytes payloads)
      truly true side s = total.symbol_replied id s (held (side_of side old) s id) axis shard (facts.sound side s id)
      truly false side s = surely ([], refl, All-nil AreBytes)

      replied : (one : Reply) → ReplyHasBytes one → Possible ((payloads : List (List ℕ)) × IsReplyOf r old id axis shard one payloads × All AreBytes payloads)
      replied (Reply.True side s) has = truly (is_correct side old s) side s
      replied (Reply.Bytes bytes) has = surely (bytes ∷ [], refl, All-cons AreBytes bytes [] has (All-nil AreBytes))

  every_recover : (old : World) (side : Side) (shard : ℕ) (axis : Axis) (id : BlobId) (replies : List Reply) → Facts r old → shard < committee_size old.log.f → All ReplyHasBytes replies
      → Possible (HasStep r old (Recover side shard axis id replies))
  every_recover old side shard axis id replies facts lt are = by (standing old side shard)
    where
      c : Committee
      c = side_of side old

      says : (word : RecoverWord) (new : World) → RecoverStep r old side shard axis id replies word new → Possible (HasStep r old (Recover side shard axis id replies))
      says word new is = surely (Line.Recover shard axis id word, new, (refl, refl, refl, is))

      ends : (word : RecoverWord) (contents : Contents) → RecoveryRuns r old side shard axis id replies word contents → IsFound word → Possible (HasStep r old (Recover side shard axis id replies))
      ends RecoverWord.Absent contents run found = absurd found
      ends RecoverWord.Ignored contents run found = absurd found
      ends RecoverWord.Unregistered contents run found = absurd found
      ends word contents run found = says word (recovered_state old side shard word contents) (contents, run, refl)

      runs : is_correct side old shard ≡ true → is_live old.log id ≡ true → Replied old id axis shard replies → Possible (HasStep r old (Recover side shard axis id replies))
      runs sound live replied =
          by_cases (r.ContradictsHeld id (held c shard id) replied.0)
          (λ two.
          then (total.held_collides id shard (held c shard id) replied.0 replied.2 (facts.sound side shard id) two) (λ clash.
          let is : RecoverCollides r old side shard axis id replies = record { correct = sound; live = live; payloads = replied.0; replied = replied.1; two_metadata = two } in
          surely (Line.Collision clash.0 clash.1, old, (clash.2, (is, refl)))))
          (λ one.
          then (total.recovers id shard axis (contents_of c shard) replied.0 (subst (λ (f : ℕ). shard < committee_size f) facts.sized_f lt) replied.2 (sound_contents r c shard (facts.sound side))
          (λ two. one (subst (λ (p : Parts). r.ContradictsHeld id p replied.0) (sym (held_is c shard id)) two))) (λ found.
          ends found.0 found.1 (record { correct = sound; live = live; payloads = replied.0; replied = replied.1; one_metadata = one; recovers = found.2 }) found.3))

      by : Standing old side shard → Possible (HasStep r old (Recover side shard axis id replies))
      by (absent none) = says RecoverWord.Absent old (none, refl)
      by (ignored faulty) = says RecoverWord.Ignored old (faulty, refl)
      by (correct sound) =
          ⊎_elim
          (λ live. then (every_reply old id axis shard replies facts are) (λ replied. runs sound live replied))
          (λ dead. says RecoverWord.Unregistered old (sound, dead, refl))
          (truth (is_live old.log id))

  -- ---- every event, and every schedule

  pub every_event : (old : World) (event : Event) → Facts r old → IsEventWithin (committee_size old.log.f) event → HasBytes event → Possible (HasStep r old event)
  every_event old (Register id until) facts fit are = let is = every_register old id until in surely (Line.Register id is.0, is.1, (refl, is.2))
  every_event old (Write blob to) facts fit are = every_write old blob to facts fit are
  every_event old (Send side shard bytes) facts fit are = every_send old side shard bytes facts are
  every_event old (Ack shard id) facts fit are = then (every_ack old shard id) (λ is. surely (Line.Ack shard id is.0, is.1, (refl, refl, is.2)))
  every_event old (Attest shard id) facts fit are = then (every_attest old shard id) (λ is. surely (Line.Attest shard id is.0, is.1, (refl, refl, is.2)))
  every_event old (Read id replies) facts fit are = every_read old id replies facts are
  every_event old (Recover side shard axis id replies) facts fit are = every_recover old side shard axis id replies facts fit.0 are
  every_event old (Forget side shard id) facts fit are = then (every_forget old side shard id) (λ is. surely (Line.Forget shard id is.0, is.1, (refl, refl, is.2)))
  every_event old (Begin owners faulty stays) facts fit are = let is = every_begin old owners faulty stays in surely (Line.Begin is.0, is.1, is.2)
  every_event old (Ready shard) facts fit are = then (every_ready old shard) (λ is. surely (Line.Ready shard is.0, is.1, (refl, is.2)))
  every_event old Finish facts fit are = let is = every_finish old in surely (Line.Finish is.0, is.1, is.2)
  every_event old (Certificate id) facts fit are = then (every_certificate old id) (λ is. surely (Line.Certificate id is.0, old, (refl, is.1, refl)))
  every_event old (Holders id) facts fit are = surely (Line.Holders id (holders_word.Count (holders old id)), old, (refl, refl, refl))

  -- from a state on, events have a run
  every_runs : (old : World) (events : List Event) → Facts r old → AllByRecursion (λ event. IsEventWithin (committee_size r.f) event) events → All HasBytes events
      → Possible ((states : List World) × (lines : List Line) × Runs r old events states lines)
  every_runs old [] facts fit are = surely ([], [], tt)
  every_runs old (event ∷ events) facts fit are =
      then (every_event old event facts within (All-head HasBytes event events are)) (λ step.
      goes step.0 step.1 step.2 (is_collision step.0) refl (λ new kept. every_runs new events kept fit.1 (All-tail HasBytes event events are)))
    where
      within : IsEventWithin (committee_size old.log.f) event
      within = subst (λ (f : ℕ). IsEventWithin (committee_size f) event) (sym facts.sized_f) fit.0

      goes : (said : Line) (new : World) → Steps r old event said new → (b : Bool) → is_collision said ≡ b
          → ((next : World) → Facts r next → Possible ((states : List World) × (lines : List Line) × Runs r next events states lines))
          → Possible ((states : List World) × (lines : List Line) × Runs r old (event ∷ events) states lines)
      goes said new step true clash more =
          surely (new ∷ [], said ∷ [], (step, rw clash (refl, refl)))
      goes said new step false on more =
          then (more new (facts_step r laws old event said new facts within step)) (λ run.
          surely (new ∷ run.0, said ∷ run.1, (step, rw on run.2)))

  pub every_run : (s : Schedule) → IsSchedule s → s.f ≡ r.f → All HasBytes s.events → Possible (HasRun r s)
  every_run s fit same are =
      every_runs (first_state s) s.events (facts_first r laws s fit same)
      (subst (λ (f : ℕ). AllByRecursion (λ event. IsEventWithin (committee_size f) event) s.events) same fit.each) are
