-- Every history of a network is safe.
use Rattle.wal_network.proofs.Common.{◌≡◌, ◌&&◌, ℕ, zero, suc, ◌≤◌, ◌<◌, ◌+◌, true, false, Bool, not, cond, Option, Some, unwrap_or, sym, refl, ap, subst, arith, ⊎_elim, ◌⊎◌, inl, inr, ◌∙◌, cases_lt, and_parts, and_from, not-true, nat_le, BlobId, Log, Body, Contents, Parts, no_parts, parts_at, settled, reading, writing, is_moving, is_live, until_of, home_of, IsCertified, signers, signer_count, count_below, count_below-mono, count_below-some, quorum_size, Holds, Denies, entered, committee_size, among, Rules, Laws, AllSound, retained, empty_map, get-empty, id_cmp, begun, finished, Committee, World, Side, Now, Next, side_of, is_present, writing_side, held, settled_in, epoch_of, HasRefuters}
use Rattle.std.proofs.lemmas.Bool.{eqb-false, leb-true, ltb-true}
use Rattle.std.specs.Prelude.{nat_eq, List, All}
use Rattle.wal_evidence.specs.declared.evidence.Evidence.{Evidence}
use Rattle.wal_evidence.specs.declared.evidence.Verdict.{Verdict}
use Rattle.wal_event.specs.declared.line.ReadWord.{ReadWord}
use Rattle.wal_protocol.specs.Step.{told_by}
use Rattle.wal_protocol.specs.Total.{Possible, AreBytes}
use Rattle.wal_protocol.proofs.EveryWord.{surely, then, by_cases}
use Rattle.wal_ledger.proofs.HandoverEntries.{is_plain, plain_stays}
use Rattle.wal_protocol.proofs.Lookups.{held_is}
use Rattle.wal_protocol.proofs.Entered.{writing_present}
use Rattle.wal_protocol.proofs.Safety.{home_present, kept_home, refuted}
use Rattle.wal_network.specs.Network.{Network, log_at, comes_with, leaves_with, IsHistory, applied, is_moved, Lands, IsThere, serves, writes, HasFew}
use Rattle.wal_network.specs.AsRun.{StandsFor}
use Rattle.wal_network.specs.Promised.{IsHeardOf, holds_after, epoch_in, home_epoch, settled_at, KeepsCertified, CompletesReads, RecoversCommitted, RefutesInvalid, IsSafeNetwork}
use Rattle.wal_network.proofs.Keeping.{each_commits}
use Rattle.wal_network.proofs.Walk.{flag, bounds, there_of, orderly_at, opens_at, leaves_at, leaves_first, settled_later}
use Rattle.wal_network.proofs.Whole.{shown_at}

more_than : {f g : ℕ} (p : ℕ → Bool) → f ≡ g → f + 1 ≤ count_below (committee_size f) p → g + 1 ≤ count_below (committee_size g) p
more_than p same = subst (λ (n : ℕ). n + 1 ≤ count_below (committee_size n) p) same

-- payloads of bytes in which no two metadata differ have a result
abbrev pub HaveResults : Rules → Type 0
HaveResults r =
    (id : BlobId) (payloads : List (List ℕ)) → All AreBytes payloads → (r.HasTwoMetadata id payloads → ⊥) → Possible ((word : ReadWord) × (evidence : Option Evidence) × r.Reads id payloads word evidence)

module _ (r : Rules) (laws : Laws r) (reads : HaveResults r) (network : Network) (size : ℕ) (history : IsHistory r network size) where
  -- ---- what is held is sound

  empty_sound : (s : ℕ) → AllSound r s empty_map
  empty_sound s id = subst (r.IsSound id s) (sym (ap (λ (o : Option Parts). unwrap_or o no_parts) (get-empty id_cmp id))) (laws.nothing_sound id s)

  -- at each committee that is there at a prefix
  abbrev SoundAt : ℕ → ℕ → Type 0
  SoundAt at s = (e : ℕ) → IsThere (log_at network at) e → among (network.faulty e) s ≡ false → AllSound r s (leaves_with network at e s)

  near : (at e s : ℕ) (b : Body) → among (network.faulty e) s ≡ false → SoundAt at s → reading (log_at network at) ≤ reading (entered (log_at network at) b) → e ≤ writing (log_at network at)
      → IsThere (entered (log_at network at) b) e → AllSound r s (leaves_with network at e s)
  near at e s b correct sound low high there = sound e (there_of (log_at network at) e (omega (arith, low, (bounds (entered (log_at network at) b) e there).0)) high) correct

  plain : (at e s : ℕ) (b : Body) → is_plain b ≡ true → among (network.faulty e) s ≡ false → SoundAt at s → IsThere (entered (log_at network at) b) e → AllSound r s (leaves_with network at e s)
  plain at e s b is correct sound there =
      let stays = plain_stays (log_at network at) b is in
      near at e s b correct sound (omega (arith, stays.reading)) (omega (arith, (bounds (entered (log_at network at) b) e there).1, stays.writing)) there

  -- an entry leaves all that is held sound
  pass_sound : (at e s : ℕ) → at < size → among (network.faulty e) s ≡ false → SoundAt at s → (b : Body) → Lands network at b → IsThere (entered (log_at network at) b) e
      → AllSound r s (applied network at b (leaves_with network at) e s)
  pass_sound at e s lt correct sound (Body.Begin owners) lands there =
      let turns = begun (log_at network at) owners (orderly_at r laws network size history at (omega (arith, lt))) lands.0 in
      let serving : writing (log_at network at) ≡ reading (log_at network at) = omega (arith, ap {B = ℕ} (λ m. cond m 1 0) lands.0) in
      ⊎_elim (λ next. rw next
      (⊎_elim (λ yes. rw yes
      (sound (writing (log_at network at)) writes (ap (λ (n : ℕ). among (network.faulty n) s) serving ∙ (let both = yes in grind arith))))
      (λ no. rw no (empty_sound s)) (flag (is_moved network at owners s))))
      (λ other. rw other
      (near at e s (Body.Begin owners) correct sound (omega (arith, turns.same_epoch))
      (omega (arith, (bounds (entered (log_at network at) (Body.Begin owners)) e there).1, turns.next_epoch, serving, apart (eqb-false e (writing (log_at network at) + 1) other))) there))
      (flag (nat_eq e (writing (log_at network at) + 1)))
    where
      apart : {a b : ℕ} → (a ≡ b → ⊥) → (a < b) ⊎ (b < a)
      apart {a} {b} other = ⊎_elim (λ lt. inl lt) (λ le. ⊎_elim (λ past. inr past) (λ most. absurd (other (omega (arith, le, most)))) (cases_lt b a)) (cases_lt a b)
  pass_sound at e s lt correct sound Body.Finish lands there =
      let turns = finished (log_at network at) (orderly_at r laws network size history at (omega (arith, lt))) lands.0 in
      let near_by = bounds (entered (log_at network at) Body.Finish) e there in
      let was = sound e (there_of (log_at network at) e (omega (arith, near_by.0, turns.read_now)) (omega (arith, near_by.1, turns.written_now))) correct in
      λ id. subst (r.IsSound id s) (sym (retained (leaves_with network at e s) (is_live (log_at network (suc at))) id)) (either id was (is_live (log_at network (suc at)) id))
    where
      either : (id : BlobId) → AllSound r s (leaves_with network at e s) → (b : Bool) → r.IsSound id s (cond b (parts_at (leaves_with network at e s) id) no_parts)
      either id was true = was id
      either id was false = laws.nothing_sound id s
  pass_sound at e s lt correct sound b lands there = plain at e s b refl correct sound there

  comes_sound : (at e s : ℕ) → at ≤ size → IsThere (log_at network at) e → s < committee_size r.f → among (network.faulty e) s ≡ false → AllSound r s (comes_with network at e s)
  comes_sound zero e s le there lt correct = empty_sound s
  comes_sound (suc at) e s le there lt correct =
      pass_sound at e s (omega (arith, le)) correct
      (λ x there_x fine. (leaves_at r laws network size history at x s (omega (arith, le)) there_x lt fine).sound (comes_sound at x s (omega (arith, le)) there_x lt fine))
      (network.body at) (history.lands at (omega (arith, le))) there

  -- ---- what is promised

  committed : RecoversCommitted r network size
  committed at e s done axis id bytes le there lt correct has is =
      each_commits r laws (log_at network at) s (comes_with network at e s) (network.deeds at e s) done has.0 axis id bytes (history.acts at e s le there lt correct)
      (comes_sound at e s le there lt correct) has.1 has.2 is

  -- a committee of the world that is settled is so in the network
  settled_there : (at e s f : ℕ) (c : Committee) (id : BlobId) → StandsFor network (comes_with network at) e f c → s < committee_size f → settled_in c id s ≡ true → settled_at network at e id s ≡ true
  settled_there at e s f c id stands lt h =
      let both = and_parts (not (among c.faulty s)) (settled (held c s id)) h in
      let bads = ap (λ fs. among fs s) stands.faulty in
      let fine : among (network.faulty e) s ≡ false = sym bads ∙ not-true (among c.faulty s) both.0 in
      and_from (not (among (network.faulty e) s)) _ (ap not fine) (ap settled (sym (held_is c s id ∙ ap (λ (m : Contents). parts_at m id) (stands.contents s lt fine))) ∙ both.1)

  epoch_side : (w : World) (side : Side) → epoch_of side w ≡ epoch_in w.log side
  epoch_side w Now = refl
  epoch_side w Next = refl

  there_side : (log : Log) (side : Side) → IsThere log (epoch_in log side)
  there_side log Now = serves
  there_side log Next = writes

  kept : KeepsCertified network size
  kept at id le few certified =
      let (w, shows, facts) = shown_at r laws network size history at le in
      let side = home_of w.log id in
      let e = home_epoch (log_at network at) id in
      let stands : StandsFor network (comes_with network at) e w.log.f (side_of side w) =
      subst (λ (n : ℕ). StandsFor network (comes_with network at) n w.log.f (side_of side w)) (epoch_side w side ∙ ap (λ (l : Log). home_epoch l id) shows.log) (shows.sides side (home_present w id)) in
      let many = kept_home r w facts (shows.few few) id (subst (λ (l : Log). IsCertified l id) (sym shows.log) certified) in
      let most = count_below-mono (committee_size w.log.f) (settled_in (side_of side w) id) (settled_at network at e id) (λ s lt h. settled_there at e s w.log.f (side_of side w) id stands lt h) in
      let f_is : w.log.f ≡ network.start.f = omega (arith, facts.sized_f, history.sized) in
      more_than (settled_at network at e id) f_is (omega (arith, many, most))

  -- a certified blob outlasts the epoch of its home
  home_outlasts : (at : ℕ) (id : BlobId) → at ≤ size → IsCertified (log_at network at) id → home_epoch (log_at network at) id < until_of (log_at network at) id
  home_outlasts at id le certified = by (is_moving log && nat_le (quorum_size log.f) (signer_count log id Holds (writing log))) refl
    where
      log : Log
      log = log_at network at

      by : (next : Bool) → (is_moving log && nat_le (quorum_size log.f) (signer_count log id Holds (writing log))) ≡ next → epoch_in log (cond next Next Now) < until_of log id
      by false is = ltb-true (reading log) (until_of log id) certified.live
      by true is =
          let many = leb-true (quorum_size log.f) (signer_count log id Holds (writing log)) (and_parts (is_moving log) _ is).1 in
          let one = count_below-some (committee_size log.f) (signers log id Holds (writing log)) (omega (arith, many)) in
          opens_at r laws network size history at le id Holds one.0 certified.live one.2

  completes_each : (from : ℕ) (id : BlobId) (payloads : List (List ℕ)) → from ≤ size → HasFew network from → IsCertified (log_at network from) id
      → ((s : ℕ) → s < committee_size r.f → among (network.faulty (home_epoch (log_at network from) id)) s ≡ false → IsHeardOf r network size from (home_epoch (log_at network from) id) id payloads s)
      → (word : ReadWord) (evidence : Option Evidence) → r.Reads id payloads word evidence → (told : Verdict) × (told_by word ≡ Some told)
  completes_each from id payloads le few certified heard word evidence read =
      let e = home_epoch (log_at network from) id in
      laws.read_completes id payloads word evidence (settled_at network from e id) (more_than (settled_at network from e id) history.sized (kept from id le few certified))
      (λ s lt h.
      let both = and_parts (not (among (network.faulty e) s)) _ h in
      let fine = not-true (among (network.faulty e) s) both.0 in
      let one = heard s lt fine in (
        parts_at (holds_after network one.at one.count e s) id,
        record {
          sound = (leaves_first r laws network size history one.at one.count e s one.inside one.there lt fine).sound (comes_sound one.at e s one.inside one.there lt fine) id;
          settles = settled_later r laws network size history from one.at one.count e s id one.later one.inside (there_side (log_at network from) (home_of (log_at network from) id)) one.there lt fine (home_outlasts from id le certified) both.1;
          replied = one.said;
        },
      )) read

  complete : CompletesReads r network size
  complete from id payloads le few certified heard =
      let each = completes_each from id payloads le few certified heard in
      record {
        each = each;
        some = λ are. by_cases (r.HasTwoMetadata id payloads) (λ two. surely (inl two))
            (λ one. then (reads id payloads are one) (λ read. let verdict = each read.0 read.1 read.2 in surely (inr (read.0, read.1, verdict.0, read.2, verdict.1))));
      }

  just : RefutesInvalid r network size
  just at id le few live quorum =
      let (w, shows, facts) = shown_at r laws network size history at le in
      let side = writing_side w in
      let e = writing (log_at network at) in
      let f_is : w.log.f ≡ network.start.f = omega (arith, facts.sized_f, history.sized) in
      let (present, epoch) = writing_present w in
      let stands : StandsFor network (comes_with network at) e w.log.f (side_of side w) =
      subst (λ (n : ℕ). StandsFor network (comes_with network at) n w.log.f (side_of side w)) (epoch ∙ ap writing shows.log) (shows.sides side present) in
      let found : HasRefuters r w id =
      refuted r w facts laws id (shows.few few) (ap (λ (l : Log). is_live l id) shows.log ∙ live)
      (omega (arith, quorum, f_is, ap (λ (l : Log). signer_count l id Denies (writing l)) shows.log)) in (
        found.0,
        more_than found.0 f_is found.1,
        λ s lt h.
            let has = found.2 s (omega (arith, lt, f_is)) h in
            let fine : among (network.faulty e) s ≡ false = ap (λ fs. among fs s) (sym stands.faulty) ∙ not-true (among (side_of side w).faulty s) (and_parts (is_present side w) _ has.0).1 in
            (fine, subst (r.Refutes id) (held_is (side_of side w) s id ∙ ap (λ (m : Contents). parts_at m id) (stands.contents s (omega (arith, lt, f_is)) fine)) has.1),
      )

  pub safe_network : IsSafeNetwork r network size
  safe_network = record { kept = kept; complete = complete; committed = committed; just = just }
