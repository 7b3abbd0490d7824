-- Every run of a schedule is safe.
use Rattle.wal_protocol.proofs.Common.{◌≡◌, ℕ, zero, suc, ◌+◌, ◌<◌, ◌≤◌, List, [], ◌∷◌, length, get_or, true, false, not, ◌&&◌, nat_le, Contains, inl, inr, arith, flat_map, and_parts, and_from, cases_eq, leb-false, not-true, Contains-append_left, Contains-append_right, BlobId, Axis, Side, Now, Next, among, Reply, Holds, Denies, count_below, committee_size, quorum_size, is_moving, writing, is_live, signers, signer_count, home_of, quorum_correct, certified_before, settled, World, side_of, is_present, writing_side, is_correct, held, settled_in, Rules, reply_payloads, read_payloads, IsReplyOf, AreReplies, IsKept, HasRefuters, Facts, Laws, AreAmong, ◌-◌, Bool, All, Option, Some, None, refl, sym, ap, ◌∙◌, subst, AllByRecursion, get-empty, leb-true, ltb-true, length-map-range_with_len, id_cmp, Evidence, Verdict, IsEventWithin, IsSchedule, Event, Attest, Read, Recover, Schedule, Line, ReadWord, RecoverWord, Log, owners_at, same_node, IsCertified, reading, claim_of, live_same, claim_plain, orderly_new, Parts, Contents, parts_at, Committee, with_side, epoch_of, contents_of, with_contents, told_by, RecoveryRuns, Steps, first_state, is_collision, IsRun, EachStep, IsCommitted, Hears, IsComplete, IsJust, IsSafe, HearsSettled, HearsSecondary, IsRecoveryComplete, Helped, IsSettledBy, IsDecidedBy, AttestWord, Kind, empty_map}
use Rattle.wal_protocol.proofs.Entered.{few_faulty, quorum_settled, writing_present}
use Rattle.wal_protocol.proofs.Lookups.{held_here, held_is, held_empty, held_nobody, sound_contents}
use Rattle.wal_protocol.proofs.Stepped.{closed_by, facts_step}
use Rattle.wal_protocol.proofs.Agreement.{Left, agree}

-- ---- what the facts of a state tell: who holds what is certified, and what replies bring

-- the home committee is there
pub home_present : (w : World) (id : BlobId) → is_present (home_of w.log id) w ≡ true
home_present w id = grind arith

module _ (r : Rules) (w : World) (facts : Facts r w) where
  -- more than f correct shards of the home committee hold what is certified
  pub kept_home : IsKept w
  kept_home few id certified = grind (arith, at_next, at_now, facts.kept_serving few)
    where
      e : ℕ
      e = certified.quorum.0

      at_next : is_moving w.log ≡ true → quorum_size w.log.f ≤ signer_count w.log id Holds (writing w.log) → w.log.f + 1 ≤ count_below (committee_size w.log.f) (settled_in w.next id)
      at_next moving quorum =
          quorum_settled w.log.f (signers w.log id Holds (writing w.log)) w.next id quorum (facts.few_next few moving)
          (λ s lt signed correct. facts.backs Next Holds id s moving certified.live signed lt correct)

      at_now : is_moving w.log ≡ true → nat_le (quorum_size w.log.f) (signer_count w.log id Holds (writing w.log)) ≡ false → w.log.f + 1 ≤ count_below (committee_size w.log.f) (settled_in w.now id)
      at_now moving none = elim (cases_eq e (writing w.log)) [
        | inl same ↦ absurd (omega (arith, leb-false _ _ none, rw same at certified.quorum.1))
        | inr other ↦ facts.kept_moving few moving id (certified_before w.log id e facts.orderly moving certified.live other certified.quorum.1)
      ]

  -- a shard of it that is settled is correct
  pub settled_correct : (id : BlobId) (s : ℕ) → settled_in (side_of (home_of w.log id) w) id s ≡ true → (is_correct (home_of w.log id) w s ≡ true) × (settled (held (side_of (home_of w.log id) w) s id) ≡ true)
  settled_correct id s h = let present = home_present w id in grind arith

  -- few shards of a present side are faulty
  pub few_side : (side : Side) → w.few ≡ true → is_present side w ≡ true → length (side_of side w).faulty ≤ w.log.f
  few_side Now few present = facts.few_now few
  few_side Next few present = facts.few_next few present

  -- what a quorum of the writing side attested is refuted by more than f correct shards
  pub refuted : Laws r → (id : BlobId) → w.few ≡ true → is_live w.log id ≡ true → quorum_size w.log.f ≤ signer_count w.log id Denies (writing w.log) → HasRefuters r w id
  refuted laws id few live quorum =
      let side = writing_side w in
      let (present, epoch) = writing_present w in
      let faulty = (side_of side w).faulty in
      let signed = signers w.log id Denies (writing w.log) in (
        λ s. signed s && not (among faulty s),
        quorum_correct w.log.f signed (among faulty) quorum (few_faulty w.log.f faulty (few_side side few present)),
        λ s lt h.
            let both = and_parts (signed s) (not (among faulty s)) h in
            let keeps =
            facts.backs side Denies id s present live (rw epoch both.0) lt (not-true (among faulty s) both.1) in (
              and_from (is_present side w) (not (among faulty s)) present both.1,
              laws.refutes id s (held (side_of side w) s id) (facts.sound side s id) keeps,
            ),
      )

-- the payloads of a reply that is there are among all
among_flat : {X : Type 0} (f : X → List (List ℕ)) (xs : List X) (x : X) (k : ℕ) → k < length xs → get_or xs k x ≡ x → AreAmong (f x) (flat_map f xs)
among_flat f [] x k lt at p in_x = absurd (omega arith)
among_flat f (y ∷ xs) x zero lt at p in_x = Contains-append_left (f y) (flat_map f xs) p (rw at in_x)
among_flat f (y ∷ xs) x (suc k) lt at p in_x = Contains-append_right (f y) (flat_map f xs) p (among_flat f xs x k (omega arith) at p in_x)

-- a true reply to a reader is among the payloads
pub heard_reply : (r : Rules) (w : World) (id : BlobId) (side : Side) (s : ℕ) (replies : List Reply) → is_correct side w s ≡ true → Contains replies (Reply.True side s)
    → AreAmong (r.read_reply id s (held (side_of side w) s id)) (read_payloads r w id replies)
heard_reply r w id side s replies correct here p in_x =
    among_flat (reply_payloads r w id) replies (Reply.True side s) here.0 here.1 here.2 p
    (rw correct in_x)

-- a reply of symbols that is there is among the payloads
pub heard_symbols : (r : Rules) (w : World) (id : BlobId) (axis : Axis) (shard : ℕ) (replies : List Reply) (payloads : List (List ℕ)) (one : Reply) (k : ℕ) → AreReplies r w id axis shard replies payloads
    → k < length replies → get_or replies k one ≡ one → (some : List (List ℕ)) × IsReplyOf r w id axis shard one some × AreAmong some payloads
heard_symbols r w id axis shard [] payloads one k are lt at = absurd (omega arith)
heard_symbols r w id axis shard (first ∷ more) payloads one zero (some, rest, is, others, joined) lt at =
    (some, rw at at is, λ p in_some. rw joined (Contains-append_left some rest p in_some))
heard_symbols r w id axis shard (first ∷ more) payloads one (suc k) (front, rest, is, others, joined) lt at =
    let found = heard_symbols r w id axis shard more rest one k others (omega arith) at in
    (found.0, found.1, λ p in_some. rw joined (Contains-append_right front rest p (found.2 p in_some)))

-- ---- every run of a schedule is safe

same_side : (side : Side) (w : World) (c : Committee) → side_of side (with_side side w c) ≡ c
same_side Now w c = refl
same_side Next w c = refl

module _ (r : Rules) (laws : Laws r) where
  -- no two metadata differ in a recovery that runs
  one_metadata : (old : World) (at : Side) (shard : ℕ) (axis : Axis) (id : BlobId) (replies : List Reply) (word : RecoverWord) (contents : Contents)
      → (run : RecoveryRuns r old at shard axis id replies word contents) → r.ContradictsHeld id (parts_at (contents_of (side_of at old) shard) id) run.payloads → ⊥
  one_metadata old at shard axis id replies word contents run clash =
      run.one_metadata (subst (λ (p : Parts). r.ContradictsHeld id p run.payloads) (sym (held_is (side_of at old) shard id)) clash)

  -- COMMITTED: a recovered sliver is the shard's
  pub committed : (old : World) (event : Event) (said : Line) (new : World) → Facts r old → IsEventWithin (committee_size old.log.f) event → Steps r old event said new → IsCommitted r old event said new
  committed old (Recover at shard axis id replies) (Line.Recover s a i (RecoverWord.Sliver bytes)) new facts fit step =
      let (contents, run, state) = step.3 in
      let c = side_of at old in
      let given : r.CommitsTo id shard axis bytes (held (side_of at new) shard id) =
      let here = held_here c shard contents id (omega (arith, facts.sized at (and_parts _ _ run.correct).0, fit.0)) in
      rw (state, same_side at old (with_contents c shard contents), here)
      (laws.recover_commits id shard axis (contents_of c shard) contents run.payloads bytes run.recovers
      (one_metadata old at shard axis id replies (RecoverWord.Sliver bytes) contents run)
      (sound_contents r c shard (facts.sound at))) in
      given
  committed old event said new facts fit step = tt

  module _ (old : World) (facts : Facts r old) (id : BlobId) (replies : List Reply) where
    -- COMPLETE: a read of what is certified that hears its committee completes
    read_told : (word : ReadWord) (evidence : Option Evidence) → old.few ≡ true → IsCertified old.log id
        → Hears old id replies
        → r.Reads id (read_payloads r old id replies) word evidence → (told : Verdict) × (told_by word ≡ Some told)
    read_told word evidence few certified hears reads =
        let home = home_of old.log id in
        laws.read_completes id (read_payloads r old id replies) word evidence (settled_in (side_of home old) id)
        (rw (← facts.sized_f) (kept_home r old facts few id certified))
        (λ s lt h.
        let both = settled_correct r old facts id s h in (
          held (side_of home old) s id,
          record {
            sound = facts.sound home s id;
            settles = both.1;
            replied = heard_reply r old id home s replies both.0 (hears s (rw facts.sized_f lt) both.0);
          },
        ))
        reads

    -- RECOVERIES COMPLETE
    helped : (axis : Axis) (shard : ℕ) (payloads : List (List ℕ)) (side : Side) (s : ℕ)
        → AreReplies r old id axis shard replies payloads → is_correct side old s ≡ true
        → Contains replies (Reply.True side s) → Helped r id axis shard payloads s (held (side_of side old) s id)
    helped axis shard payloads side s are correct here =
        let heard = heard_symbols r old id axis shard replies payloads (Reply.True side s) here.0 are here.1 here.2 in
        record {
          sound = facts.sound side s id;
          reply = heard.0;
          symbols = rw correct at heard.1;
          replied = heard.2;
        }

    module _ (at : Side) (shard : ℕ) (lt : shard < committee_size old.log.f) {word : RecoverWord} {new : Contents} where
      secondary_word : HearsSettled old id replies → RecoveryRuns r old at shard Axis.Secondary id replies word new
          → IsSettledBy word
      secondary_word (heard, many, each) run =
          let home = home_of old.log id in
          laws.secondary_recovers id shard (contents_of (side_of at old) shard) new run.payloads word heard
          (rw (← facts.sized_f) many)
          (λ s lt_s h.
          let it = each s (rw facts.sized_f lt_s) h in
          let helps = helped Axis.Secondary shard run.payloads home s run.replied it.0 it.2 in
          (held (side_of home old) s id, (settled_correct r old facts id s it.1).1, helps))
          (rw (← facts.sized_f) lt) (sound_contents r (side_of at old) shard (facts.sound at))
          (one_metadata old at shard Axis.Secondary id replies word new run) run.recovers

      primary_word : HearsSecondary old id replies → RecoveryRuns r old at shard Axis.Primary id replies word new
          → IsDecidedBy word
      primary_word (heard, many, each) run =
          laws.primary_recovers id shard (contents_of (side_of at old) shard) new run.payloads word heard
          (rw (← facts.sized_f) many)
          (λ s lt_s h.
          let it = each s (rw facts.sized_f lt_s) h in
          (held (side_of it.0 old) s id, it.2, helped Axis.Primary shard run.payloads it.0 s run.replied it.1 it.3))
          (rw (← facts.sized_f) lt) (sound_contents r (side_of at old) shard (facts.sound at))
          (one_metadata old at shard Axis.Primary id replies word new run) run.recovers

  pub complete : (old : World) (event : Event) (said : Line) (new : World) → Facts r old → IsEventWithin (committee_size old.log.f) event → Steps r old event said new → IsComplete old event said new
  complete old (Read id replies) (Line.Read i (ReadWord.Short have need)) new facts fit step = λ few certified hears.
      let told = read_told old facts id replies (ReadWord.Short have need) None few certified hears step.1.0 in
      let e : None ≡ Some told.0 = told.1 in cc
  complete old (Read id replies) (Line.Read i ReadWord.NoMetadata) new facts fit step = λ few certified hears.
      let told = read_told old facts id replies ReadWord.NoMetadata None few certified hears step.1.0 in
      let e : None ≡ Some told.0 = told.1 in cc
  -- any other line is complete, and so is any other event
  complete old event said new facts fit step = grind arith

  pub recovered : (old : World) (event : Event) (said : Line) (new : World) → Facts r old
      → IsEventWithin (committee_size old.log.f) event → Steps r old event said new
      → IsRecoveryComplete old event said new
  recovered old (Recover at shard axis id _) (Line.Recover s a i RecoverWord.Absent) new _ _ step = grind arith
  recovered old (Recover at shard axis id _) (Line.Recover s a i RecoverWord.Ignored) new _ _ step = grind arith
  recovered old (Recover at shard axis id _) (Line.Recover s a i RecoverWord.Unregistered) new _ _ step = grind arith
  recovered old (Recover at shard Axis.Secondary id replies) (Line.Recover s a i word) new facts fit step =
      λ correct live hears.
      secondary_word old facts id replies at shard fit.0 hears step.3.1
  recovered old (Recover at shard Axis.Primary id replies) (Line.Recover s a i word) new facts fit step =
      λ correct live hears.
      primary_word old facts id replies at shard fit.0 hears step.3.1
  recovered old event said new facts fit step = grind arith

  -- JUST: what is declared invalid is refuted
  pub just : (old : World) (event : Event) (said : Line) (new : World) → Facts r old → IsEventWithin (committee_size old.log.f) event → Steps r old event said new → IsJust r old event said new
  just old (Attest shard id) (Line.Attest s i (AttestWord.Invalid count)) new facts fit step = λ few.
      let claim = step.2.0 in
      let plain = claim_plain Kind.Denies shard id in
      refuted r new (facts_step r laws old (Attest shard id) (Line.Attest s i (AttestWord.Invalid count)) new facts fit step) laws id few
      (rw claim.state
      (live_same old.log (claim_of Kind.Denies shard id) id plain.0 plain.1 ∙ claim.first_time.open_to_claims.live))
      (omega (arith, step.2.1, claim.counted, ap (λ (w : World). quorum_size w.log.f) claim.state))
  just old event said new facts fit step = tt

  -- what the facts and a step give holds of each step of what is left of a run
  pub each_step : (P : World → Event → Line → World → Type 0)
      → ((old : World) (event : Event) (said : Line) (new : World) → Facts r old → IsEventWithin (committee_size old.log.f) event → Steps r old event said new → P old event said new)
      → (old : World) (events : List Event) (states : List World) (lines : List Line) → Facts r old
      → AllByRecursion (λ event. IsEventWithin (committee_size r.f) event) events
      → (stops : Bool) → Left r stops old events states lines → EachStep P old events states lines
  each_step P one old (event ∷ events) (new ∷ states) (said ∷ lines) facts fits true ends = absurd cc
  each_step P one old (event ∷ events) (new ∷ states) (said ∷ lines) facts fits false run =
      let fit : IsEventWithin (committee_size old.log.f) event = rw facts.sized_f fits.0 in
      let then = facts_step r laws old event said new facts fit run.0 in
      let rest = each_step P one new events states lines then fits.1 (is_collision said) run.1 in
      (one old event said new facts fit run.0, rest)
  each_step P one old events states lines facts fits stops run = tt

  -- the facts hold in each state of it
  pub facts_run : (old : World) (events : List Event) (states : List World) (lines : List Line) → Facts r old
      → AllByRecursion (λ event. IsEventWithin (committee_size r.f) event) events
      → (stops : Bool) → Left r stops old events states lines → All (Facts r) (old ∷ states)
  facts_run old events states lines facts fits stops run zero d lt = facts
  facts_run old (event ∷ events) (new ∷ states) (said ∷ lines) facts fits false run (suc k) d lt =
      let then = facts_step r laws old event said new facts (rw facts.sized_f fits.0) run.0 in
      facts_run new events states lines then fits.1 (is_collision said) run.1 k d (omega arith)
  facts_run old events states lines facts fits stops run (suc k) d lt = absurd (grind arith)

  -- the facts hold at first
  pub facts_first : (s : Schedule) → IsSchedule s → s.f ≡ r.f → Facts r (first_state s)
  facts_first s fit same = record {
    sized_f = same;
    sized = sized;
    orderly = orderly_new s.f s.epoch s.owners;
    none_ahead = λ k d lt. absurd (omega (arith, lt));
    since_begin = λ k d lt. absurd (omega (arith, lt));
    closed = closes;
    sound = sound;
    answers = λ id a h. let e : None ≡ Some a = sym (get-empty id_cmp id) ∙ h in cc;
    backs = λ side kind id n present live signed lt correct. let f : false ≡ true = signed in cc;
    readies = λ id n says lt correct must. let f : false ≡ true = says in cc;
    few_now = λ few. leb-true (length s.faulty) s.f few;
    few_next = λ few moving. let f : false ≡ true = moving in cc;
    kept_serving = λ few still id certified. absurd (no_live id certified.live);
    kept_moving = λ few moving. let f : false ≡ true = moving in cc;
  }
    where
      sized : (side : Side) → is_present side (first_state s) ≡ true → length (side_of side (first_state s)).shards ≡ committee_size s.f
      sized Now present = length-map-range_with_len (λ k. empty_map) 0 (committee_size s.f)
      sized Next present = let f : false ≡ true = present in cc

      start : Log
      start = (first_state s).log

      own : owners_at start (reading start) ≡ s.owners
      own = ap (λ (k : ℕ). get_or (s.owners ∷ []) k []) (let e : (s.epoch + 0) - s.epoch ≡ 0 = omega arith in e)

      closes : (side : Side) (n t : ℕ) → is_present side (first_state s) ≡ true → n < committee_size s.f → t < committee_size s.f → same_node (owners_at start (epoch_of side (first_state s))) n t ≡ true
          → among (side_of side (first_state s)).faulty n ≡ true → among (side_of side (first_state s)).faulty t ≡ true
      closes Now n t present lt_n lt_t node out = closed_by (committee_size s.f) s.owners s.faulty fit.committee n t lt_n lt_t (ap (λ (o : List ℕ). same_node o n t) (sym own) ∙ node) out
      closes Next n t present lt_n lt_t node out = let f : false ≡ true = present in cc

      sound : (side : Side) (n : ℕ) (id : BlobId) → r.IsSound id n (held (side_of side (first_state s)) n id)
      sound Now n id = subst (λ (p : Parts). r.IsSound id n p) (sym (held_empty s.f s.faulty n id)) (laws.nothing_sound id n)
      sound Next n id = subst (λ (p : Parts). r.IsSound id n p) (sym (held_nobody n id)) (laws.nothing_sound id n)

      no_live : (id : BlobId) → is_live start id ≡ true → ⊥
      no_live id live = absurd (omega (arith, ltb-true (s.epoch + 0) 0 live))

  -- THE RUN IS SAFE
  pub safe : (s : Schedule) (states : List World) (lines : List Line) → IsSchedule s → s.f ≡ r.f → IsRun r s states lines → IsSafe r s states lines
  safe s states lines fit same run =
      let start = facts_first s fit same in
      let fits : AllByRecursion (λ event. IsEventWithin (committee_size r.f) event) s.events = rw (← same) fit.each in
      record {
        agree = agree r (first_state s) s.events states lines run;
        committed = each_step (IsCommitted r) committed (first_state s) s.events states lines start fits false run;
        kept = λ k d lt.
            kept_home r (get_or (first_state s ∷ states) k d)
            (facts_run (first_state s) s.events states lines start fits false run k d lt);
        complete = each_step IsComplete complete (first_state s) s.events states lines start fits false run;
        just = each_step (IsJust r) just (first_state s) s.events states lines start fits false run;
      }

  -- and recoveries complete
  pub recoveries : (s : Schedule) (states : List World) (lines : List Line) → IsSchedule s → s.f ≡ r.f → IsRun r s states lines → EachStep IsRecoveryComplete (first_state s) s.events states lines
  recoveries s states lines fit same run =
      each_step IsRecoveryComplete recovered (first_state s) s.events states lines (facts_first s fit same)
      (rw (← same) fit.each) false run
