-- Each step keeps the facts.
use Rattle.wal_protocol.proofs.Common.{◌≡◌, ℕ, zero, suc, ◌<◌, List, [], ◌∷◌, length, Bool, true, false, not, Some, IsTrue, ◌⊎◌, inl, inr, refl, sym, subst, arith, get-insert, or_left, BlobId, Axis, Side, Now, Next, id_cmp, among, is_committee, has_neighbour, every_below, Verdict, IsEventWithin, Event, Register, Write, Send, Ack, Attest, Read, Recover, Forget, Begin, Ready, Finish, Reply, Line, ReadWord, RecoverWord, Kind, committee_size, owners_at, owners_of, same_node, claim_of, ids_total, ClaimsFor, register_enters, claim_enters, ready_enters, Parts, parts_at, settled_by_slivers, has_proof, backs, without_slivers, First, Judged, Written, Committee, World, side_of, with_side, is_present, epoch_of, writing_side, is_correct, contents_of, held, with_contents, answered, Rules, WriteStep, WriteCollides, ClaimStep, ReadCompletes, told_by, Gains, ForgetStep, Steps, Facts, backed, Laws, forgotten, same_id, Contents, ◌||◌, AckWord, AttestWord, BeginWord, FinishWord, ForgetWord, ReadyWord, RegisterWord, SendWord, WriteWord, Body, PutAnswer, nat_tests, FinMap, get}
use Rattle.wal_protocol.proofs.Lookups.{held_is, parts_forgotten, Firmer, GrownFrom, grown_same, grown_put, grown_each, grown_changed, sound_contents, firmer_same, firmer_contents, firmer_forgotten, facts_grown}
use Rattle.wal_protocol.proofs.Entered.{writing_present, facts_entered, IsClosedBy, facts_begun, facts_finished}

-- a test that passes below a number passes at each number below it
every_at : (n : ℕ) (p : ℕ → Bool) (k : ℕ) → every_below n p ≡ true → k < n → p k ≡ true
every_at zero p k all lt = absurd (omega arith)
every_at (suc n) p k all lt = grind (arith, every_at n p k)

-- a list with a shard of the node has a neighbour
neighbour : (owners : List ℕ) (shards : List ℕ) (s t : ℕ) → same_node owners s t ≡ true → among shards s ≡ true → has_neighbour owners shards t ≡ true
neighbour owners [] s t same h = cc
neighbour owners (x ∷ shards) s t same h = grind (arith, nat_tests, neighbour owners shards s t same)

-- what a committee that is in range says of its faulty shards
pub closed_by : (n : ℕ) (owners faulty : List ℕ) → IsTrue (is_committee n owners faulty) → IsClosedBy n owners faulty
closed_by n owners faulty committee s t lt_s lt_t same out =
    let tested = every_at (length owners) (λ shard. not (has_neighbour owners faulty shard) || among faulty shard) t in
    let near = neighbour owners faulty s t same out in
    grind (arith, nat_tests)

-- a first completed answer rests on something
backing_answered : (r : Rules) (answers : FinMap id_cmp First) (id : BlobId) (a : First) → ((q : BlobId) (x : First) → get answers q ≡ Some x → r.IsBacked q x) → r.IsBacked id a
    → (q : BlobId) (x : First) → get (answered answers id a) q ≡ Some x → r.IsBacked q x
backing_answered r answers id a all backed_a q x h =
    grind (arith, get-insert ids_total answers id a q, same_id q id, all q x)

module _ (r : Rules) (laws : Laws r) where
  -- one side grew, and answers came
  facts_sided : (old : World) (side : Side) (d : Committee) (answers : FinMap id_cmp First) → Facts r old → GrownFrom r (side_of side old) d
      → ((id : BlobId) (answer : First) → get answers id ≡ Some answer → r.IsBacked id answer) → Facts r (record (with_side side old d) { answers = answers })
  facts_sided old Now d answers facts grown backing = facts_grown r old d old.next answers facts grown (grown_same r old.next (facts.sound Next)) backing
  facts_sided old Next d answers facts grown backing = facts_grown r old old.now d answers facts (grown_same r old.now (facts.sound Now)) grown backing

  facts_side : (old : World) (side : Side) (d : Committee) → Facts r old → GrownFrom r (side_of side old) d → Facts r (with_side side old d)
  facts_side old Now d facts grown = facts_sided old Now d old.answers facts grown facts.answers
  facts_side old Next d facts grown = facts_sided old Next d old.answers facts grown facts.answers

  writes : (old : World) (blob to : List ℕ) (id : BlobId) (count : ℕ) (new : World) → Facts r old → WriteStep r old blob to id count new → Facts r new
  writes old blob to id count new facts w =
      subst (Facts r) (sym w.state)
      (facts_sided old (writing_side old) w.write.mid (answered old.answers id (Written blob)) facts
      (grown_each r laws old.log (side_of (writing_side old) old) w.write.mid _ false (facts.sound (writing_side old)) w.write.puts)
      (backing_answered r old.answers id (Written blob) facts.answers (laws.write_backed old.format blob id w.write.message w.write.honest)))

  write_collides : (old : World) (blob to : List ℕ) (new : World) → Facts r old → WriteCollides r old blob to new → Facts r new
  write_collides old blob to new facts w =
      subst (Facts r) (sym w.state)
      (facts_side old (writing_side old) w.write.mid facts (grown_each r laws old.log (side_of (writing_side old) old) w.write.mid _ w.clashed (facts.sound (writing_side old)) w.write.puts))

  -- what backs a claim is what the facts keep
  backed_by : (old : World) (side : Side) (kind : Kind) (s : ℕ) (id : BlobId) → Facts r old → backs kind (held (side_of side old) s id) ≡ true → backed kind (held (side_of side old) s id) ≡ true
  backed_by old side Kind.Holds s id facts h = or_left (settled_by_slivers (held (side_of side old) s id)) (has_proof (held (side_of side old) s id)) h
  backed_by old side Kind.Denies s id facts h = h

  -- a shard whose neighbour is correct is correct
  correct_node : (old : World) (side : Side) (shard s : ℕ) → Facts r old → is_present side old ≡ true → shard < committee_size old.log.f → s < committee_size old.log.f
      → same_node (owners_at old.log (epoch_of side old)) shard s ≡ true → among (side_of side old).faulty s ≡ false → is_correct side old shard ≡ true
  correct_node old side shard s facts present lt_shard lt same correct =
      let closed = facts.closed side shard s present lt_shard lt same in grind arith

  claims : (old : World) (kind : Kind) (shard : ℕ) (id : BlobId) (count : ℕ) (new : World) → Facts r old → shard < committee_size old.log.f → ClaimStep old kind shard id count new → Facts r new
  claims old kind shard id count new facts lt_shard c =
      let side = writing_side old in
      let (present, at) = writing_present old in
      rw c.state
      (facts_entered r old (claim_of kind shard id) (ClaimsFor old.log kind shard id) (λ s. ⊥) facts
      (claim_enters old.log kind shard id facts.orderly)
      (λ i k s signs lt correct.
      let (same_i, same_k, node) = signs in
      let here = correct_node old side shard s facts present lt_shard lt (rw at node) correct in
      rw (same_i, same_k) (backed_by old side kind s id facts (c.may here s lt node)))
      (λ i s none lt correct must. absurd none))

  completes : (old : World) (id : BlobId) (replies : List Reply) (word : ReadWord) (told : Verdict) (new : World) → told_by word ≡ Some told → Facts r old → ReadCompletes r old id replies word told new → Facts r new
  completes old id replies word told new tells facts c =
      subst (Facts r) (sym c.state)
      (facts_grown r old old.now old.next (answered old.answers id (Judged c.evidence told)) facts (grown_same r old.now (facts.sound Now)) (grown_same r old.next (facts.sound Next))
      (backing_answered r old.answers id (Judged c.evidence told) facts.answers (laws.read_backed id _ word c.evidence told c.reads tells)))

  gains : (old : World) (side : Side) (shard : ℕ) (axis : Axis) (id : BlobId) (replies : List Reply) (word : RecoverWord) (new : World) → Facts r old → Gains r old side shard axis id replies word new → Facts r new
  gains old side shard axis id replies word new facts (contents, run, state) =
      let c = side_of side old in
      let before = contents_of c shard in
      subst (Facts r) (sym state)
      (facts_side old side (with_contents c shard contents) facts
      (grown_changed r c shard contents (facts.sound side)
      (laws.recover_sound id shard axis before contents run.payloads word run.recovers (λ clash. run.one_metadata (subst (λ (p : Parts). r.ContradictsHeld id p run.payloads) (sym (held_is c shard id)) clash)) (sound_contents r c shard (facts.sound side)))
      (firmer_contents c shard contents (laws.recover_adds id shard axis before contents run.payloads word run.recovers))))

  forgets : (old : World) (side : Side) (shard : ℕ) (id : BlobId) (new : World) → Facts r old → ForgetStep old side shard id ForgetWord.Done new → Facts r new
  forgets old side shard id new facts (correct, may, state) =
      let c = side_of side old in
      subst (Facts r) (sym state)
      (facts_side old side (with_contents c shard (without_slivers (contents_of c shard) id)) facts
      (grown_changed r c shard (without_slivers (contents_of c shard) id) (facts.sound side)
      (λ q. (still q (parts_forgotten (contents_of c shard) id q)).0)
      (λ q. (still q (parts_forgotten (contents_of c shard) id q)).1)))
    where
      before : Contents
      before = contents_of (side_of side old) shard

      after : Contents
      after = without_slivers before id

      still : (q : BlobId)
          → (parts_at after q ≡ parts_at before q) ⊎ ((q ≡ id) × (parts_at after q ≡ forgotten (parts_at before q)))
          → r.IsSound q shard (parts_at after q) × Firmer (held (side_of side old) shard q) (parts_at after q)
      still q (inl same) =
          rw (same, held_is) (sound_contents r (side_of side old) shard (facts.sound side) q, firmer_same _ _ refl)
      still q (inr (e, is)) =
          let was = sound_contents r (side_of side old) shard (facts.sound side) q in
          rw (is, held_is)
          (laws.forget_sound q shard (parts_at before q) was, firmer_forgotten (parts_at before q) (rw e may.proof))

  -- every step keeps the facts; they come last, so that the search for what a word changes does not read them
  kept_step : (old : World) (event : Event) (said : Line) (new : World) → Steps r old event said new → Facts r old → IsEventWithin (committee_size old.log.f) event → Facts r new
  kept_step old (Register id until) (Line.Register i (RegisterWord.Until most)) new (same_i, (may, is, shown)) = λ facts fit.
      subst (Facts r) (sym is)
      (facts_entered r old (Body.Register id until) (λ i kind s. ⊥) (λ s. ⊥) facts (register_enters old.log id until facts.orderly may) (λ i kind s none lt correct. absurd none)
      (λ i s none lt correct must. absurd none))
  kept_step old (Write blob to) (Line.Write i (WriteWord.Stored count bytes)) new (same_b, is) = λ facts fit. writes old blob to i count new facts is
  kept_step old (Write blob to) (Line.Collision left right) new (clash, is) = λ facts fit. write_collides old blob to new facts is
  kept_step old (Send at shard bytes) (Line.Send s SendWord.Stored) new (same_s, (frame, contents, is, state)) = λ facts fit.
      subst (Facts r) (sym state)
      (facts_side old at (with_contents (side_of at old) shard contents) facts
      (grown_put r laws old.log (side_of at old) shard frame PutAnswer.Stored contents (facts.sound at) is.2))
  kept_step old (Ack shard id) (Line.Ack s i (AckWord.Counted count)) new (same_s, same_i, (c, few)) = λ facts fit. claims old Kind.Holds shard id count new facts fit c
  kept_step old (Ack shard id) (Line.Ack s i (AckWord.Certified count)) new (same_s, same_i, (c, many)) = λ facts fit. claims old Kind.Holds shard id count new facts fit c
  kept_step old (Attest shard id) (Line.Attest s i (AttestWord.Counted count)) new (same_s, same_i, (c, few)) = λ facts fit. claims old Kind.Denies shard id count new facts fit c
  kept_step old (Attest shard id) (Line.Attest s i (AttestWord.Invalid count)) new (same_s, same_i, (c, many)) = λ facts fit. claims old Kind.Denies shard id count new facts fit c
  kept_step old (Read id replies) (Line.Read i (ReadWord.Bytes bytes)) new (same_i, c) = λ facts fit. completes old id replies (ReadWord.Bytes bytes) (Verdict.Bytes bytes) new refl facts c
  kept_step old (Read id replies) (Line.Read i ReadWord.Reject) new (same_i, c) = λ facts fit. completes old id replies ReadWord.Reject Verdict.Reject new refl facts c
  kept_step old (Recover at shard axis id replies) (Line.Recover s a i (RecoverWord.Sliver bytes)) new step = λ facts fit. gains old at shard axis id replies (RecoverWord.Sliver bytes) new facts step.3
  kept_step old (Recover at shard axis id replies) (Line.Recover s a i RecoverWord.Inconsistent) new step = λ facts fit. gains old at shard axis id replies RecoverWord.Inconsistent new facts step.3
  kept_step old (Recover at shard axis id replies) (Line.Recover s a i RecoverWord.Proof) new step = λ facts fit. gains old at shard axis id replies RecoverWord.Proof new facts step.3
  kept_step old (Forget at shard id) (Line.Forget s i ForgetWord.Done) new step = λ facts fit. forgets old at shard id new facts step.2
  kept_step old (Begin owners faulty stays) (Line.Begin (BeginWord.Epoch epoch)) new (serving, early, shown, state) = λ facts fit.
      subst (Facts r) (sym state) (facts_begun r laws old owners faulty stays facts serving (closed_by (committee_size old.log.f) owners faulty fit.0))
  kept_step old (Ready shard) (Line.Ready s (ReadyWord.Counted count)) new (same_s, (moving, may, first, state, counted)) = λ facts fit.
      subst (Facts r) (sym state)
      (facts_entered r old (Body.Ready shard) (λ i kind t. ⊥) (λ t. same_node (owners_of Next old.log) shard t ≡ true) facts (ready_enters old.log shard facts.orderly)
      (λ i kind s none lt correct. absurd none)
      (λ id s node lt correct must. may (correct_node old Next shard s facts moving fit lt node correct) s lt node id must))
  kept_step old Finish (Line.Finish (FinishWord.Epoch epoch)) new (moving, quorum, shown, state) = λ facts fit. subst (Facts r) (sym state) (facts_finished r laws old facts moving quorum)
  -- every other word leaves the state
  kept_step old event said new step = let same : new ≡ old = grind arith in λ facts fit. subst (Facts r) (sym same) facts

  pub facts_step : (old : World) (event : Event) (said : Line) (new : World) → Facts r old → IsEventWithin (committee_size old.log.f) event → Steps r old event said new → Facts r new
  facts_step old event said new facts fit step = kept_step old event said new step facts fit
