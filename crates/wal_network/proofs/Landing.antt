-- One entry that lands, as a step of the world.
use Rattle.wal_network.proofs.Common.{◌≡◌, ℕ, suc, ◌≤◌, ◌<◌, ◌+◌, List, length, Bool, true, false, cond, not, ◌&&◌, nat_le, sym, refl, ap, subst, arith, ⊎_elim, ◌∙◌, cases_lt, and_from, and_parts, not-true, BlobId, Side, Now, Next, Line, Log, Body, Kind, Holds, Denies, Contents, parts_at, backs, settled, Committee, World, side_of, is_present, contents_of, epoch_of, writing_side, held, Rules, Laws, Steps, is_collision, among, committee_size, quorum_size, reading, writing, is_moving, entered, MayPost, ClaimStep, claim_of, signer_count, ready_total, until_of, same_node, owners_of, empty_map, is_carried_over, next_committee, after_dropping, without_dead, begun, finished, nobody, get_or-map-range_with_len, length-map-range_with_len, length-map, MayBeReady, true≢false, MayClaim, ready_shards, MustHold, AckWord, AttestWord, RegisterWord, BeginWord, ReadyWord, FinishWord}
use Rattle.std.proofs.lemmas.List.{get_or-map}
use Rattle.std.proofs.lemmas.Bool.{ne_eqb, eq-eqb, le-leb}
use Rattle.wal_event.specs.declared.line.Line.TheVariants as line
use Rattle.wal_protocol.proofs.Lookups.{held_is}
use Rattle.wal_protocol.proofs.Entered.{writing_present}
use Rattle.wal_epoch.specs.Committee.{is_carried}
use Rattle.wal_ledger.specs.Answers.{MayRegister}
use Rattle.wal_ledger.specs.Orderly.{IsOrderly}
use Rattle.wal_ledger.proofs.HandoverEntries.{plain_stays, is_plain}
use Rattle.wal_network.specs.Network.{Network, log_at, comes_with, leaves_with, applied, is_moved, Lands, IsHistory, ClaimLands, WasReady, ForNode, HasFew}
use Rattle.wal_network.specs.AsRun.{StandsFor, IsShownBy, entry_event}
use Rattle.wal_network.proofs.Walk.{orderly_at, f_at, turn_at, up, still_backed, still_ready, flag}

-- the world takes the entry, and shows the next prefix
pub record Landed (r : Rules) (network : Network) (at : ℕ) (w : World) (b : Body) : Type 0 where
  pub said : Line
  pub new : World
  pub step : Steps r w (entry_event network at b) said new
  pub goes_on : is_collision said ≡ false
  pub shows : IsShownBy network (suc at) (comes_with network (suc at)) new

-- the world after an entry that leaves the epoch as it is, after a Begin and after a Finish
abbrev with_entry : World → Body → World
with_entry w b = record w { log = entered w.log b }

abbrev begun_world : Network → ℕ → World → List ℕ → World
begun_world network at w owners =
    let e : ℕ = writing (log_at network at) + 1 in
    record w { log = entered w.log (Body.Begin owners); next = next_committee w owners (network.faulty e) (network.stays e); few = w.few && nat_le (length (network.faulty e)) w.log.f }

abbrev finished_world : World → World
finished_world w = record w { log = entered w.log Body.Finish; now = after_dropping (entered w.log Body.Finish) w.next; next = nobody }

plain_sides : (network : Network) (at : ℕ) (w : World) (b : Body) → is_plain b ≡ true → IsShownBy network at (leaves_with network at) w
    → (side : Side) → is_present side (with_entry w b) ≡ true → StandsFor network (leaves_with network at) (epoch_of side (with_entry w b)) w.log.f (side_of side (with_entry w b))
plain_sides network at w b plain shows Now present =
    subst (λ (e : ℕ). StandsFor network (leaves_with network at) e w.log.f w.now) (sym (plain_stays w.log b plain).reading) (shows.sides Now refl)
plain_sides network at w b plain shows Next present =
    subst (λ (e : ℕ). StandsFor network (leaves_with network at) e w.log.f w.next) (sym (plain_stays w.log b plain).writing)
    (shows.sides Next (sym (plain_stays w.log b plain).moving ∙ present))

plain_applied : (network : Network) (at : ℕ) (b : Body) → is_plain b ≡ true → applied network at b (leaves_with network at) ≡ leaves_with network at
plain_applied network at (Body.Begin owners) plain = absurd (true≢false (sym plain))
plain_applied network at Body.Finish plain = absurd (true≢false (sym plain))
plain_applied network at b plain = refl

finish_sides : {network : Network} (w : World) (holds : ℕ → ℕ → Contents) → StandsFor network holds (reading (entered w.log Body.Finish)) w.log.f (finished_world w).now
    → is_moving (entered w.log Body.Finish) ≡ false → (side : Side) → is_present side (finished_world w) ≡ true
    → StandsFor network holds (epoch_of side (finished_world w)) w.log.f (side_of side (finished_world w))
finish_sides w holds stands serving Now present = stands
finish_sides w holds stands serving Next present = absurd (true≢false (sym present ∙ serving))

-- another shard of a correct shard's node: it is correct, and this holds of it
record IsOfNode (r : Rules) (network : Network) (at : ℕ) (c : Committee) (P : ℕ → Type 0) (other : ℕ) : Type 0 where
  pub lt : other < committee_size r.f
  pub fine : among (network.faulty (writing (log_at network at))) other ≡ false
  pub was : P other
  pub holds : (id : BlobId) → held c other id ≡ parts_at (leaves_with network at (writing (log_at network at)) other) id

module _ (r : Rules) (laws : Laws r) (network : Network) (size : ℕ) (history : IsHistory r network size) (at : ℕ) (w : World) where
  of_node : (s : ℕ) (P : ℕ → Type 0) (c : Committee) → at ≤ size → IsShownBy network at (leaves_with network at) w → StandsFor network (leaves_with network at) (writing (log_at network at)) w.log.f c
      → s < committee_size (log_at network at).f → ForNode network at s P → among c.faulty s ≡ false
      → (other : ℕ) → other < committee_size w.log.f → same_node (owners_of Next w.log) s other ≡ true → IsOfNode r network at c P other
  of_node s P c le shows stands in_range each correct other lt same =
      let bad : List ℕ = network.faulty (writing (log_at network at)) in
      let f_is = f_at r laws network size history at in
      let fine : among bad s ≡ false = ap (λ fs. among fs s) (sym stands.faulty) ∙ correct in
      let lt_there : other < committee_size (log_at network at).f = subst (λ (l : Log). other < committee_size l.f) shows.log lt in
      let in_all : other < committee_size r.f = subst (λ (f : ℕ). other < committee_size f) f_is lt_there in
      let same_there : same_node (owners_of Next (log_at network at)) s other ≡ true = ap (λ (l : Log). same_node (owners_of Next l) s other) (sym shows.log) ∙ same in
      let fine_other : among bad other ≡ false =
      ⊎_elim (λ out. absurd (true≢false (sym (history.nodes at s other le (subst (λ (f : ℕ). s < committee_size f) f_is in_range) in_all same_there out) ∙ fine))) (λ good. good) (flag (among bad other)) in
      record {
        lt = in_all;
        fine = fine_other;
        was = each fine other lt_there same_there;
        holds = λ id. held_is c other id ∙ ap (λ (m : Contents). parts_at m id) (stands.contents other lt fine_other);
      }

  may_post : (kind : Kind) (s : ℕ) (id : BlobId) → at ≤ size → IsShownBy network at (leaves_with network at) w → ClaimLands network at kind s id → MayPost w kind s id
  may_post kind s id le shows lands correct other lt same =
      let (present, is) = writing_present w in
      let side = writing_side w in
      let stands = subst (λ (e : ℕ). StandsFor network (leaves_with network at) e w.log.f (side_of side w)) (is ∙ ap writing shows.log) (shows.sides side present) in
      let fine = not-true (among (side_of side w).faulty s) (and_parts (is_present side w) (not (among (side_of side w).faulty s)) correct).1 in
      let one = of_node s _ (side_of side w) le shows stands lands.in_range lands.backed fine other lt same in
      ap (backs kind) (one.holds id) ∙ still_backed r laws network size history at other kind id le one.lt one.fine one.was

  ready : (s : ℕ) → at ≤ size → IsShownBy network at (leaves_with network at) w → is_moving w.log ≡ true → s < committee_size (log_at network at).f → ForNode network at s (WasReady network at) → MayBeReady w s
  ready s le shows moving in_range was correct other lt same id must =
      let stands = subst (λ (e : ℕ). StandsFor network (leaves_with network at) e w.log.f w.next) (ap writing shows.log) (shows.sides Next moving) in
      let fine = not-true (among w.next.faulty s) (and_parts (is_moving w.log) (not (among w.next.faulty s)) correct).1 in
      let one = of_node s _ w.next le shows stands in_range was fine other lt same in
      ap settled (one.holds id) ∙ still_ready r laws network size history at other le one.lt one.fine one.was id (subst (λ (l : Log). MustHold l id) shows.log must)

  few_back : at < size → HasFew network (suc at) → HasFew network at
  few_back lt h e low high = h e low (omega (arith, high, (turn_at r laws network size history at lt).up))

  -- what is shown after an entry
  wrap : w.log ≡ log_at network at → (b : Body) → network.body at ≡ b → (new : World) → new.log ≡ entered w.log b → (HasFew network (suc at) → new.few ≡ true)
      → ((side : Side) → is_present side new ≡ true → StandsFor network (applied network at b (leaves_with network at)) (epoch_of side new) new.log.f (side_of side new))
      → IsShownBy network (suc at) (comes_with network (suc at)) new
  wrap same b is new log_is few sides = record {
    log = log_is ∙ ap (λ (l : Log). entered l b) same ∙ ap (entered (log_at network at)) (sym is);
    few = few;
    sides = λ side present. subst (λ (c : Body). StandsFor network (applied network at c (leaves_with network at)) (epoch_of side new) new.log.f (side_of side new)) (sym is) (sides side present);
  }

  -- an entry that leaves the epoch as it is
  plain : at < size → IsShownBy network at (leaves_with network at) w → (b : Body) → is_plain b ≡ true → network.body at ≡ b → (said : Line) → Steps r w (entry_event network at b) said (with_entry w b)
      → is_collision said ≡ false → Landed r network at w b
  plain lt shows b stays is said step goes_on = record {
    said = said;
    new = with_entry w b;
    step = step;
    goes_on = goes_on;
    shows = wrap shows.log b is (with_entry w b) refl (λ h. shows.few (few_back lt h))
        (λ side present. subst (λ (holds : ℕ → ℕ → Contents). StandsFor network holds (epoch_of side (with_entry w b)) w.log.f (side_of side (with_entry w b))) (sym (plain_applied network at b stays))
        (plain_sides network at w b stays shows side present));
  }

  claim_step : (kind : Kind) (s : ℕ) (id : BlobId) → at ≤ size → IsShownBy network at (leaves_with network at) w → ClaimLands network at kind s id
      → (let new = with_entry w (claim_of kind s id) in ClaimStep w kind s id (signer_count new.log id kind (writing new.log)) new)
  claim_step kind s id le shows lands = record {
    first_time = subst (λ (l : Log). MayClaim l kind s id) (sym shows.log) lands.counts;
    may = may_post kind s id le shows lands;
    state = refl;
    counted = refl;
  }

  -- a shard that is carried takes what it held in the committee that serves
  moved : (owners : List ℕ) (s : ℕ) → IsShownBy network at (leaves_with network at) w → writing w.log ≡ reading w.log → s < committee_size w.log.f
      → cond (is_carried_over w owners (network.faulty (writing (log_at network at) + 1)) (network.stays (writing (log_at network at) + 1)) s) (contents_of w.now s) empty_map
      ≡ cond (is_moved network at owners s) (leaves_with network at (writing (log_at network at)) s) empty_map
  moved owners s shows written lt =
      let stands = shows.sides Now refl in
      let e : ℕ = writing (log_at network at) + 1 in
      let over : Bool = is_carried_over w owners (network.faulty e) (network.stays e) s in
      let same : over ≡ is_moved network at owners s =
      ap {B = Bool} (λ (l : Log). is_carried (owners_of Now l) w.now.faulty owners (network.faulty e) (network.stays e) s) shows.log
      ∙ ap {B = Bool} (λ (fs : List ℕ). is_carried (owners_of Now (log_at network at)) fs owners (network.faulty e) (network.stays e) s)
      (stands.faulty ∙ ap (λ (l : Log). network.faulty (reading l)) shows.log) in
      rw (← same)
      (⊎_elim
      (λ yes.
      let fine : among (network.faulty (reading w.log)) s ≡ false = ap (λ fs. among fs s) (sym stands.faulty) ∙ (let both = yes in grind arith) in
      rw yes (stands.contents s lt fine ∙ ap (λ (n : ℕ). leaves_with network at n s) (sym written ∙ ap writing shows.log)))
      (λ no. rw no refl)
      (flag over))

  begun_sides : (owners : List ℕ) → IsShownBy network at (leaves_with network at) w → writing w.log ≡ reading w.log
      → is_moving (entered w.log (Body.Begin owners)) ≡ true → reading (entered w.log (Body.Begin owners)) ≡ reading w.log → writing (entered w.log (Body.Begin owners)) ≡ reading w.log + 1
      → (side : Side) → is_present side (begun_world network at w owners) ≡ true
      → StandsFor network (applied network at (Body.Begin owners) (leaves_with network at)) (epoch_of side (begun_world network at w owners)) w.log.f (side_of side (begun_world network at w owners))
  begun_sides owners shows written moving same_epoch next_epoch Now present =
      let stands = shows.sides Now refl in
      subst (λ (e : ℕ). StandsFor network (applied network at (Body.Begin owners) (leaves_with network at)) e w.log.f w.now) (sym same_epoch)
      (record {
        sized = stands.sized;
        faulty = stands.faulty;
        contents = λ s lt fine.
            stands.contents s lt fine
            ∙ ap {B = Contents} (λ t. cond t (cond (is_moved network at owners s) (leaves_with network at (writing (log_at network at)) s) empty_map) (leaves_with network at (reading w.log) s))
            (sym (ne_eqb (reading w.log) (writing (log_at network at) + 1) (λ eq. omega (arith, eq, written, ap writing shows.log))));
      })
  begun_sides owners shows written moving same_epoch next_epoch Next present =
      let e : ℕ = writing (log_at network at) + 1 in
      let carries =
      λ (t : ℕ). cond (is_carried_over w owners (network.faulty e) (network.stays e) t) (contents_of w.now t) empty_map in
      subst (λ (n : ℕ). StandsFor network (applied network at (Body.Begin owners) (leaves_with network at)) n w.log.f (next_committee w owners (network.faulty e) (network.stays e)))
      (omega (arith, next_epoch, written, ap writing shows.log))
      (record {
        sized = length-map-range_with_len carries 0 (committee_size w.log.f);
        faulty = refl;
        contents = λ s lt fine.
            get_or-map-range_with_len carries 0 (committee_size w.log.f) s s empty_map lt (omega arith)
            ∙ moved owners s shows written lt
            ∙ ap {B = Contents} (λ t. cond t (cond (is_moved network at owners s) (leaves_with network at (writing (log_at network at)) s) empty_map) (leaves_with network at e s))
            (sym (eq-eqb e e refl));
      })

  pub landed : at < size → IsShownBy network at (leaves_with network at) w → (b : Body) → network.body at ≡ b → Lands network at b → Landed r network at w b
  landed lt shows (Body.Register id until) is lands =
      plain lt shows (Body.Register id until) refl is (line.Register id (RegisterWord.Until (until_of (entered w.log (Body.Register id until)) id)))
      (refl, (subst (λ (l : Log). MayRegister l id until) (sym shows.log) lands.0, refl, refl)) refl
  landed lt shows (Body.Ack s id) is lands =
      let claim = claim_step Holds s id (omega (arith, lt)) shows lands in
      ⊎_elim (λ few. plain lt shows (Body.Ack s id) refl is (line.Ack s id (AckWord.Counted _)) (refl, refl, (claim, few)) refl)
      (λ many. plain lt shows (Body.Ack s id) refl is (line.Ack s id (AckWord.Certified _)) (refl, refl, (claim, many)) refl) (cases_lt _ (quorum_size w.log.f))
  landed lt shows (Body.Attest s id) is lands =
      let claim = claim_step Denies s id (omega (arith, lt)) shows lands in
      ⊎_elim (λ few. plain lt shows (Body.Attest s id) refl is (line.Attest s id (AttestWord.Counted _)) (refl, refl, (claim, few)) refl)
      (λ many. plain lt shows (Body.Attest s id) refl is (line.Attest s id (AttestWord.Invalid _)) (refl, refl, (claim, many)) refl) (cases_lt _ (quorum_size w.log.f))
  landed lt shows (Body.Ready s) is lands =
      let moving : is_moving w.log ≡ true = ap is_moving shows.log ∙ lands.1 in
      plain lt shows (Body.Ready s) refl is (line.Ready s (ReadyWord.Counted (ready_total (entered w.log (Body.Ready s)))))
      (refl, (moving, ready s (omega (arith, lt)) shows moving lands.0 lands.3, ap (λ (l : Log). ready_shards l s) shows.log ∙ lands.2, refl, refl)) refl
  landed lt shows (Body.Begin owners) is lands =
      let serving : is_moving w.log ≡ false = ap is_moving shows.log ∙ lands.0 in
      let turns = begun w.log owners (subst IsOrderly (sym shows.log) (orderly_at r laws network size history at (omega (arith, lt)))) serving in
      let written : writing w.log ≡ reading w.log = omega (arith, ap {B = ℕ} (λ m. cond m 1 0) serving) in
      let next : writing (log_at network (suc at)) ≡ writing (log_at network at) + 1 =
      sym (ap writing (ap (λ (l : Log). entered l (Body.Begin owners)) shows.log ∙ ap (entered (log_at network at)) (sym is))) ∙ turns.next_epoch ∙ ap (λ (n : ℕ). n + 1) (sym written ∙ ap writing shows.log) in
      record {
        said = line.Begin (BeginWord.Epoch (reading w.log + 1));
        new = begun_world network at w owners;
        step = (serving, subst (λ (l : Log). reading l < 65535) (sym shows.log) lands.1, refl, refl);
        goes_on = refl;
        shows = wrap shows.log (Body.Begin owners) is (begun_world network at w owners) refl
            (λ h. and_from w.few _ (shows.few (few_back lt h))
            (le-leb _ w.log.f (omega (arith, h (writing (log_at network at) + 1) (omega (arith, (up r laws network size history 0 at (omega arith) (omega (arith, lt))).1)) (omega (arith, next)), f_at r laws network size history at, history.sized, ap (λ (l : Log). l.f) shows.log))))
            (begun_sides owners shows written turns.moving turns.same_epoch turns.next_epoch);
      }
  landed lt shows Body.Finish is lands =
      let moving : is_moving w.log ≡ true = ap is_moving shows.log ∙ lands.0 in
      let turns = finished w.log (subst IsOrderly (sym shows.log) (orderly_at r laws network size history at (omega (arith, lt)))) moving in
      let stands = shows.sides Next moving in
      let log_is : entered w.log Body.Finish ≡ log_at network (suc at) = ap (λ (l : Log). entered l Body.Finish) shows.log ∙ ap (entered (log_at network at)) (sym is) in
      record {
        said = line.Finish (FinishWord.Epoch (writing w.log));
        new = finished_world w;
        step = (moving, subst (λ (l : Log). quorum_size l.f ≤ ready_total l) (sym shows.log) lands.1, refl, refl);
        goes_on = refl;
        shows = wrap shows.log Body.Finish is (finished_world w) refl (λ h. shows.few (few_back lt h))
            (finish_sides w (applied network at Body.Finish (leaves_with network at))
            (subst (λ (e : ℕ). StandsFor network (applied network at Body.Finish (leaves_with network at)) e w.log.f (finished_world w).now) (sym turns.read_now)
            (record {
              sized = length-map w.next.shards (without_dead (entered w.log Body.Finish)) ∙ stands.sized;
              faulty = stands.faulty;
              contents = λ s lt_s fine.
                  get_or-map (without_dead (entered w.log Body.Finish)) w.next.shards s empty_map empty_map (omega (arith, lt_s, stands.sized))
                  ∙ ap (without_dead (entered w.log Body.Finish)) (stands.contents s lt_s fine)
                  ∙ ap (λ (l : Log). without_dead l (leaves_with network at (writing w.log) s)) log_is;
            })) turns.serves);
      }
