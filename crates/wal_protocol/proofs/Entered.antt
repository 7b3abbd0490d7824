-- The facts after an entry, and after the change of the epoch began and ended.
use Rattle.wal_protocol.proofs.Common.{◌≡◌, ℕ, ◌≤◌, List, [], false, All, refl, sym, ap, ◌∙◌, subst, arith, All-push, All-weaker, All-nil, All-cons, Body, Log, Phase, phase, phase_after, writing, is_begin, entered, true≢false, ◌+◌, ◌<◌, length, Bool, true, cond, not, ◌&&◌, cases_eq, BlobId, Side, Now, Next, among, Kind, Holds, count_below, committee_size, quorum_size, is_moving, reading, is_live, signers, IsCertified, MustHold, count_below-mono, count_below-some, count_below-among, quorum_correct, Enters, settled, Committee, World, side_of, is_present, epoch_of, writing_side, held, settled_in, Rules, Facts, backed, ⊎_elim, nat_le, and_parts, leb-true, length-map, length-map-range_with_len, same_node, ready_shards, ready_total, Begun, begun, Finished, finished, no_parts, nobody, next_committee, after_dropping, without_dead, Laws}
use Rattle.wal_ledger.specs.declared.entry.Entry.{Entry}
use Rattle.wal_ledger.specs.Handover.{IsMadeSince}
use Rattle.wal_ledger.proofs.Entering.{phase_push}
use Rattle.wal_ledger.proofs.HandoverEntries.{entry_in}
use Rattle.wal_protocol.proofs.Lookups.{held_next, held_without, held_nobody}

-- ---- the epochs of entries after one entry more

-- no entry is of a later epoch than the writing one, where that never falls
pub none_ahead_entered : (log : Log) (b : Body) → All (λ x. x.epoch ≤ writing log) log.entries → writing log ≤ writing (entered log b)
    → All (λ x. x.epoch ≤ writing (entered log b)) (entered log b).entries
none_ahead_entered log b were up =
    All-push (λ (x : Entry). x.epoch ≤ writing (entered log b)) log.entries (entry_in log b)
    (All-weaker (λ (x : Entry). x.epoch ≤ writing log) (λ (x : Entry). x.epoch ≤ writing (entered log b)) (λ x le. omega (arith, le, up)) log.entries were) up

-- the entries since the last Begin, after one more that an epoch is given to
made_since : (e : ℕ) (b : Body) (x : Entry) (p : Phase) → x.body ≡ b → All (IsMadeSince e) p.since → (is_begin b ≡ false → x.epoch ≡ e) → All (IsMadeSince e) (phase_after b x p).since
made_since e (Body.Begin owners) x p is were same =
    All-cons (IsMadeSince e) x [] (λ none. absurd (true≢false (sym (ap is_begin is) ∙ none))) (All-nil (IsMadeSince e))
made_since e b x p is were same = All-push (IsMadeSince e) p.since x were (λ none. same refl)

-- the entries after the last Begin are of the writing epoch, where no other entry changes that
pub since_begin_entered : (log : Log) (b : Body) → All (IsMadeSince (writing log)) (phase log).since → writing (entered log b) ≡ writing log
    → All (IsMadeSince (writing (entered log b))) (phase (entered log b)).since
since_begin_entered log b were same =
    subst (λ (p : Phase). All (IsMadeSince (writing (entered log b))) p.since) (sym (phase_push log.entries (entry_in log b)))
    (made_since (writing (entered log b)) b (entry_in log b) (phase log) refl
    (subst (λ (e : ℕ). All (IsMadeSince e) (phase log).since) (sym same) were) (λ none. sym same))

-- a Begin is the first of the entries from it on
pub since_begin_begun : (log : Log) (owners : List ℕ) → All (IsMadeSince (writing (entered log (Body.Begin owners)))) (phase (entered log (Body.Begin owners))).since
since_begin_begun log owners =
    let e = writing (entered log (Body.Begin owners)) in
    subst (λ (p : Phase). All (IsMadeSince e) p.since) (sym (phase_push log.entries (entry_in log (Body.Begin owners))))
    (All-cons (IsMadeSince e) (entry_in log (Body.Begin owners)) [] (λ none. absurd (true≢false none)) (All-nil (IsMadeSince e)))

-- ---- the facts after an entry that leaves the epoch as it is

-- few faulty shards in a list are few in the committee
pub few_faulty : (f : ℕ) (faulty : List ℕ) → length faulty ≤ f → count_below (committee_size f) (among faulty) ≤ f
few_faulty f faulty few = omega (arith, few, count_below-among (committee_size f) faulty)

-- of a quorum whose correct members are settled, more than f are
pub quorum_settled : (f : ℕ) (p : ℕ → Bool) (c : Committee) (id : BlobId) → quorum_size f ≤ count_below (committee_size f) p → length c.faulty ≤ f
    → ((s : ℕ) → s < committee_size f → p s ≡ true → among c.faulty s ≡ false → settled (held c s id) ≡ true) → f + 1 ≤ count_below (committee_size f) (settled_in c id)
quorum_settled f p c id quorum few settle =
    omega (
      arith,
      quorum_correct f p (among c.faulty) quorum (few_faulty f c.faulty few),
      count_below-mono (committee_size f) (λ s. p s && not (among c.faulty s)) (settled_in c id)
          (λ s lt h. let settles = settle s lt in grind arith),
    )

-- the side that is written to has the writing epoch; and a present side of the writing epoch is that one
pub writing_is : (w : World) (side : Side) → is_present side w ≡ true → epoch_of side w ≡ writing w.log → side ≡ writing_side w
writing_is w Now present same = grind arith
writing_is w Next present same = rw present

pub writing_present : (w : World) → (is_present (writing_side w) w ≡ true) × (epoch_of (writing_side w) w ≡ writing w.log)
writing_present w = grind arith

-- the facts after an entry, where what it signs for is backed, and what it says is ready is so
pub facts_entered : (r : Rules) (old : World) (b : Body) (Signs : BlobId → Kind → ℕ → Type 0) (IsReady : ℕ → Type 0) → Facts r old → Enters old.log (entered old.log b) Signs IsReady
    → ((id : BlobId) (kind : Kind) (s : ℕ) → Signs id kind s → s < committee_size old.log.f → among (side_of (writing_side old) old).faulty s ≡ false
    → backed kind (held (side_of (writing_side old) old) s id) ≡ true)
    → ((id : BlobId) (s : ℕ) → IsReady s → s < committee_size old.log.f → among old.next.faulty s ≡ false → MustHold old.log id → settled (held old.next s id) ≡ true)
    → Facts r (record old { log = entered old.log b })
facts_entered r old b Signs IsReady facts enters backing ready = record {
  sized_f = facts.sized_f;
  sized = λ side. let is = same side in rw (is.0, is.1) (facts.sized side);
  orderly = enters.orderly;
  none_ahead = none_ahead_entered old.log b facts.none_ahead (omega (arith, enters.stays.writing));
  since_begin = since_begin_entered old.log b facts.since_begin enters.stays.writing;
  closed =
      λ side. let is = same side in rw (is.0, is.1, is.2, enters.stays.owners (epoch_of side old)) (facts.closed side);
  sound = λ side. rw (same side).0 (facts.sound side);
  answers = facts.answers;
  backs = λ side. let is = same side in rw (is.0, is.1, is.2) (backs side);
  readies = λ id s says lt correct must.
      let was = enters.musts id must in
      ⊎_elim (λ before. facts.readies id s before lt correct was) (λ now. ready id s now lt correct was)
      (enters.ready s says);
  few_now = facts.few_now;
  few_next = rw enters.stays.moving facts.few_next;
  kept_serving = λ few still id certified. serving (rw enters.stays.moving at still) few id certified;
  kept_moving = rw (enters.stays.moving, enters.stays.cut) facts.kept_moving;
}
  where
    log : Log
    log = entered old.log b

    new : World
    new = record old { log = log }

    -- the new world's sides are the old one's
    same : (side : Side) → (side_of side new ≡ side_of side old) × (is_present side new ≡ is_present side old)
        × (epoch_of side new ≡ epoch_of side old)
    same Now = (refl, refl, enters.stays.reading)
    same Next = (refl, enters.stays.moving, enters.stays.writing)

    backs : (side : Side) (kind : Kind) (id : BlobId) (s : ℕ) → is_present side old ≡ true → is_live log id ≡ true
        → signers log id kind (epoch_of side old) s ≡ true → s < committee_size old.log.f
        → among (side_of side old).faulty s ≡ false → backed kind (held (side_of side old) s id) ≡ true
    backs side kind id s present live signed lt correct =
        let (was, said) = enters.signs id kind (epoch_of side old) s live signed in
        ⊎_elim (λ before. facts.backs side kind id s present was before lt correct)
        (λ now. let is = writing_is old side present now.0 in rw is (backing id kind s now.1 lt (rw (← is) correct)))
        said

    -- while the epoch does not change: a quorum of this epoch is backed, and one of an earlier epoch stood before
    serving : is_moving old.log ≡ false → old.few ≡ true → (id : BlobId) → IsCertified log id → old.log.f + 1 ≤ count_below (committee_size old.log.f) (settled_in old.now id)
    serving still few id certified =
        let (e, quorum) = certified.quorum in
        let reads : writing old.log ≡ reading old.log = omega (arith, ap {B = ℕ} (λ m. cond m 1 0) still) in
        ⊎_elim
        (λ now.
        quorum_settled old.log.f (signers log id Holds e) old.now id quorum (facts.few_now few)
        (λ s lt signed correct.
        backs Now Holds id s refl certified.live
        (subst (λ (k : ℕ). signers log id Holds k s ≡ true) (now ∙ reads) signed) lt correct))
        (λ earlier.
        let before : (s : ℕ) → signers log id Holds e s ≡ true
        → (is_live old.log id ≡ true) × (signers old.log id Holds e s ≡ true) = λ s signed.
        let was = enters.signs id Holds e s certified.live signed in
        (was.0, ⊎_elim (λ said. said) (λ now. absurd (earlier now.0)) was.1) in
        let some = count_below-some (committee_size old.log.f) (signers log id Holds e) (omega (arith, quorum)) in
        let fewer =
        count_below-mono (committee_size old.log.f) (signers log id Holds e) (signers old.log id Holds e)
        (λ s lt signed. (before s signed).1) in
        facts.kept_serving few still id
        (record { live = (before some.0 some.2).0; quorum = (e, omega (arith, quorum, fewer)) }))
        (cases_eq e (writing old.log))

-- ---- the facts after the epoch began to change, and after the next one began

-- with a shard a list has every shard of its node, by owners of n shards
abbrev pub IsClosedBy : ℕ → List ℕ → List ℕ → Type 0
IsClosedBy n owners faulty = (s t : ℕ) → s < n → t < n → same_node owners s t ≡ true → among faulty s ≡ true → among faulty t ≡ true

pub facts_begun : (r : Rules) → Laws r → (old : World) (owners faulty stays : List ℕ) → Facts r old → is_moving old.log ≡ false → IsClosedBy (committee_size old.log.f) owners faulty
    → Facts r (record old { log = entered old.log (Body.Begin owners); next = next_committee old owners faulty stays; few = old.few && nat_le (length faulty) old.log.f })
facts_begun r laws old owners faulty stays facts serving closed = record {
  sized_f = facts.sized_f;
  sized = elim [
    | Now ↦ facts.sized Now
    | Next ↦ λ present. length-map-range_with_len _ 0 (committee_size old.log.f)
  ];
  orderly = turn.orderly;
  none_ahead = none_ahead_entered old.log (Body.Begin owners) facts.none_ahead (omega (arith, turn.next_epoch, ap {B = ℕ} (λ m. cond m 1 0) serving));
  since_begin = since_begin_begun old.log owners;
  closed = elim [
    | Now ↦ rw (turn.same_epoch, turn.owners_kept (reading old.log) (omega arith)) (facts.closed Now)
    | Next ↦ λ s t present. rw turn.owners_next (closed s t)
  ];
  sound = elim [
    | Now ↦ facts.sound Now
    | Next ↦ λ s id.
        ⊎_elim (λ is. rw is (facts.sound Now s id)) (λ is. rw is (laws.nothing_sound id s))
        (held_next old owners faulty stays s id)
  ];
  answers = facts.answers;
  backs = elim [
    | Now ↦ λ kind id s present live signed.
        facts.backs Now kind id s refl (rw (turn.live id) at live)
        (rw turn.same_epoch at (turn.signs id kind (reading log) s signed).1)
    | Next ↦ λ kind id s present live signed.
        absurd (omega (arith, (turn.signs id kind (writing log) s signed).0, turn.next_epoch))
  ];
  readies = λ id s says lt correct must. let f : true ≡ false = sym says ∙ turn.none_ready s in cc;
  few_now = λ few. facts.few_now (and_parts _ _ few).0;
  few_next = λ few moving. leb-true (length faulty) old.log.f (and_parts _ _ few).1;
  kept_serving = λ few still id certified. let f : true ≡ false = sym turn.moving ∙ still in cc;
  kept_moving = λ few moving. rw turn.before (facts.kept_serving (and_parts _ _ few).0 serving);
}
  where
    log : Log
    log = entered old.log (Body.Begin owners)

    turn : Begun old.log log owners
    turn = begun old.log owners facts.orderly serving

pub facts_finished : (r : Rules) → Laws r → (old : World) → Facts r old → is_moving old.log ≡ true → quorum_size old.log.f ≤ ready_total old.log
    → Facts r (record old { log = entered old.log Body.Finish; now = after_dropping (entered old.log Body.Finish) old.next; next = nobody })
facts_finished r laws old facts moving quorum = record {
  sized_f = facts.sized_f;
  sized = elim [
    | Now ↦ λ present. length-map old.next.shards (without_dead log) ∙ facts.sized Next moving
    | Next ↦ λ present. still present
  ];
  orderly = turn.orderly;
  none_ahead = none_ahead_entered old.log Body.Finish facts.none_ahead (omega (arith, turn.written_now));
  since_begin = since_begin_entered old.log Body.Finish facts.since_begin turn.written_now;
  closed = elim [
    | Now ↦ λ s t present. rw (turn.read_now, turn.owners (writing old.log)) (facts.closed Next s t moving)
    | Next ↦ λ s t present. still present
  ];
  sound = elim [
    | Now ↦ λ s id. rw (held_without log old.next s id) (alive s id (is_live log id))
    | Next ↦ λ s id. rw (held_nobody s id) (laws.nothing_sound id s)
  ];
  answers = facts.answers;
  backs = elim [
    | Now ↦ λ kind id s present live signed.
        let was = rw (turn.signs id kind (reading log) s, turn.read_now) at signed in
        rw (same_held s id live) (facts.backs Next kind id s moving (turn.live id live).0 was)
    | Next ↦ λ kind id s present. still present
  ];
  readies = λ id s says lt correct must. still must.moving;
  few_now = λ few. facts.few_next few moving;
  few_next = λ few moves. still moves;
  kept_serving = λ few _. kept few;
  kept_moving = λ few moves. still moves;
}
  where
    log : Log
    log = entered old.log Body.Finish

    turn : Finished old.log log
    turn = finished old.log facts.orderly moving

    still : {P : Type 0} → is_moving log ≡ true → P
    still moves = let f : true ≡ false = sym moves ∙ turn.serves in cc

    alive : (s : ℕ) (id : BlobId) (b : Bool) → r.IsSound id s (cond b (held old.next s id) no_parts)
    alive s id true = facts.sound Next s id
    alive s id false = laws.nothing_sound id s

    -- what is live is held as it was
    same_held : (s : ℕ) (id : BlobId) → is_live log id ≡ true → held (after_dropping log old.next) s id ≡ held old.next s id
    same_held s id live = rw (held_without log old.next s id, live)

    kept : old.few ≡ true → (id : BlobId) → IsCertified log id → old.log.f + 1 ≤ count_below (committee_size old.log.f) (settled_in (after_dropping log old.next) id)
    kept few id certified =
        let few_next = facts.few_next few moving in
        let in_next : old.log.f + 1 ≤ count_below (committee_size old.log.f) (settled_in old.next id) =
        ⊎_elim
        (λ must.
        quorum_settled old.log.f (ready_shards old.log) old.next id quorum few_next
        (λ s lt says correct. facts.readies id s says lt correct must))
        (λ said.
        quorum_settled old.log.f (signers old.log id Holds (writing old.log)) old.next id said few_next
        (λ s lt signed correct. facts.backs Next Holds id s moving (turn.live id certified.live).0 signed lt correct))
        (turn.certified id certified) in
        let fewer =
        count_below-mono (committee_size old.log.f) (settled_in old.next id)
        (settled_in (after_dropping log old.next) id) (λ s lt h. rw (same_held s id certified.live) h) in
        omega (arith, in_next, fewer)
