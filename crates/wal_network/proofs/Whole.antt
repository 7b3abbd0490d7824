-- A network's history is a run of the world.
use Rattle.wal_network.proofs.Common.{Body, Log, empty_committee, subst, length, reading, IsEventWithin, Facts, nat_le, ◌≡◌, ℕ, zero, suc, ◌≤◌, List, [], ◌∷◌, ◌++◌, Event, Line, true, false, sym, refl, ap, arith, ◌∙◌, Side, Now, Next, World, side_of, is_present, epoch_of, Rules, Laws, is_moving, committee_size, empty_map, get_or-map-range_with_len, length-map-range_with_len, true≢false}
use Rattle.std.proofs.lemmas.Bool.{le-leb}
use Rattle.wal_ledger.specs.declared.entry.Entry.{Entry}
use Rattle.wal_network.specs.Network.{Network, log_at, leaves_with, comes_with, IsHistory, Lands, schedule_of, HasFew}
use Rattle.wal_network.specs.AsRun.{Told, IsTold, prefix_told, entry_event, StandsFor, IsShownBy, first_of, IsRunOfWorld}
use Rattle.wal_network.proofs.Leading.{Way, leads_on, leads_nowhere}
use Rattle.wal_protocol.proofs.Safety.{facts_first}
use Rattle.wal_network.proofs.Prefix.{prefix_leads}
use Rattle.wal_network.proofs.Landing.{landed}

module _ (r : Rules) (laws : Laws r) (network : Network) (size : ℕ) (history : IsHistory r network size) where
  still : is_moving network.start ≡ false
  still = ap (λ (xs : List Entry). is_moving (record network.start { entries = xs })) history.starts

  first_sides : (side : Side) → is_present side (first_of network) ≡ true → StandsFor network (comes_with network zero) (epoch_of side (first_of network)) network.start.f (side_of side (first_of network))
  first_sides Now present = record {
    sized = length-map-range_with_len (λ t. empty_map) 0 (committee_size network.start.f);
    faulty = refl;
    contents = λ s lt fine. get_or-map-range_with_len (λ t. empty_map) 0 (committee_size network.start.f) s s empty_map lt (omega arith);
  }
  first_sides Next present = absurd (true≢false (sym present ∙ still))

  first_few : HasFew network zero → (first_of network).few ≡ true
  first_few h = le-leb _ network.start.f (h (reading network.start) (omega arith) (omega arith))

  -- what is told before the deeds at a prefix
  abbrev Before : ℕ → Told → Type 0
  Before zero told = told ≡ []
  Before (suc at) told = (before : Told) × (said : Line) × IsTold network at before × (told ≡ before ++ (entry_event network at (network.body at), said) ∷ [])

  all_told : (at : ℕ) (told : Told) → Before at told → IsTold network at (prefix_told network at told)
  all_told zero told before = ap (prefix_told network zero) before
  all_told (suc at) told (before, said, was, is) = (before, said, was, ap (prefix_told network (suc at)) is)

  -- an entry that lands is in range
  fits : (at : ℕ) (w : World) → IsShownBy network at (leaves_with network at) w → (b : Body) → Lands network at b → IsEventWithin (committee_size w.log.f) (entry_event network at b)
  fits at w shows b lands = subst (λ (l : Log). IsEventWithin (committee_size l.f) (entry_event network at b)) (sym shows.log) (here b lands)
    where
      here : (b : Body) → Lands network at b → IsEventWithin (committee_size (log_at network at).f) (entry_event network at b)
      here (Body.Register id until) lands = lands.1
      here (Body.Ack s id) lands = lands.in_range
      here (Body.Attest s id) lands = lands.in_range
      here (Body.Begin owners) lands = (lands.2, lands.3)
      here (Body.Ready s) lands = lands.0
      here Body.Finish lands = tt

  abbrev world_from : Log → ℕ → World
  world_from l e = record (first_of network) { log = l; now = empty_committee l.f (network.faulty e); few = nat_le (length (network.faulty e)) l.f }

  first_facts : Facts r (first_of network)
  first_facts =
      let bare : Log = record network.start { entries = [] } in
      let same : network.start.first ≡ reading bare = omega arith in
      subst (λ (l : Log). Facts r (world_from l (reading l))) (ap (λ (xs : List Entry). record network.start { entries = xs }) (sym history.starts))
      (subst (λ (e : ℕ). Facts r (world_from bare e)) same (facts_first r laws (schedule_of network) history.fits history.sized))

  comes : (at : ℕ) → at ≤ size → (w : World) × (told : Told) × Before at told × Way r (first_of network) told w × IsShownBy network at (comes_with network at) w
  comes zero le = (first_of network, [], refl, leads_nowhere r (first_of network), record { log = refl; few = first_few; sides = first_sides })
  comes (suc at) le =
      let (before, told, was, way, shows) = comes at (omega (arith, le)) in
      let (mid, way_mid, shown) = prefix_leads r laws network size history (first_of network) before at told (omega (arith, le)) way shows in
      let one = landed r laws network size history at mid (omega (arith, le)) shown (network.body at) refl (history.lands at (omega (arith, le))) in
      let event : Event = entry_event network at (network.body at) in
      let all : Told = prefix_told network at told in
      (one.new, all ++ (event, one.said) ∷ [], (all, one.said, all_told at told was, refl), leads_on r laws (first_of network) mid one.new all event one.said way_mid one.step one.goes_on (fits at mid shown (network.body at) (history.lands at (omega (arith, le)))), one.shows)

  -- as soon as a prefix was applied
  pub shown_at : (at : ℕ) → at ≤ size → (w : World) × IsShownBy network at (comes_with network at) w × Facts r w
  shown_at at le = let (w, told, was, way, shows) = comes at le in (w, shows, way.facts first_facts)

  pub run_of_world : IsRunOfWorld r network size
  run_of_world at le =
      let (before, told, was, way, shows) = comes at le in
      let (mid, way_mid, shown) = prefix_leads r laws network size history (first_of network) before at told le way shows in
      (mid, prefix_told network at told, all_told at told was, way_mid.leads, shown, way_mid.facts first_facts)
