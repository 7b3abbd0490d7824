-- Worlds: their state has all facts.
use Rattle.wal_world.proofs.Common.{◌≡◌, ℕ, ◌≤◌, Bool, false, nat_le, List, [], length, subst, sym, ap, ◌∙◌, arith, and_parts, leb-true, Format, IsEventWithin, Event, Line, committee_size, Steps, rules_of, IsNetwork, world_of, spare_of, IsFirst, Network, facts_start, facts_kept}
use Rattle.wal_protocol.specs.State as state
use Rattle.wal_protocol.specs.Facts.{Facts}
use Rattle.wal_world.specs.Creating.{first_of}
use Rattle.wal_world.specs.World.{WorldState}
use Rattle.wal_world.specs.inside.World.{IsWorld}

module _ (digest : List ℕ → List ℕ) (size : (text : List ℕ) → length (digest text) ≡ 32) where
  -- a first network is a world
  pub first_world : {H : Type 0} (f epoch : ℕ) (format : Format) (owners faulty : List ℕ) (room : ℕ) (n : Network H) → IsFirst f epoch format owners faulty room n
      → IsWorld digest n false
  first_world f epoch format owners faulty room n is =
      let bounds = and_parts (nat_le 1 f) (nat_le f 333) is.fit.faults in
      let most : f ≤ 333 = leb-true f 333 bounds.1 in
      let facts : Facts (rules_of digest f) (first_of format f epoch owners faulty) = facts_start digest size
      (record { f = f; epoch = epoch; format = format; owners = owners; faulty = faulty; events = [] })
      (record { least = leb-true 1 f bounds.0; most = most; epoch_most = is.fit.epochs; committee = is.committee; count = omega arith; each = tt }) in
      record {
        network = λ alive. is.network;
        most = λ alive. subst (λ (w : state.World). w.log.f ≤ 333) (sym is.world) most;
        facts = λ alive. subst (λ (w : state.World). Facts (rules_of digest w.log.f) w) (sym is.world) facts;
      }

  -- and each step keeps them, and the number of faults
  pub stepped : {H : Type 0} (n : Network H) (dead ended : Bool) (w : WorldState) (event : Event) (said : Line) (new : Network H)
      → record { state = world_of n; room = spare_of n; dead = dead; ended = ended } ≡ w → IsWorld digest n dead → dead ≡ false
      → (w.dead ≡ false → IsEventWithin (committee_size w.state.log.f) event) → Steps (rules_of digest (world_of n).log.f) (world_of n) event said (world_of new) → IsNetwork new
      → IsWorld digest new dead × ((world_of new).log.f ≡ w.state.log.f)
  stepped n dead ended w event said new e is alive fits step network =
      let old : state.World = world_of n in
      let fit : IsEventWithin (committee_size old.log.f) event
      = subst (λ (s : WorldState). IsEventWithin (committee_size s.state.log.f) event) (sym e) (fits (ap (λ (s : WorldState). s.dead) (sym e) ∙ alive)) in
      let kept : Facts (rules_of digest old.log.f) (world_of new) = facts_kept digest size old.log.f (is.most alive) old event said (world_of new) (is.facts alive) fit step in
      let few = is.most alive in (
        record {
          network = λ living. network;
          most = λ living. omega (arith, kept.sized_f, few);
          facts = λ living. subst (λ (n : ℕ). Facts (rules_of digest n) (world_of new)) (sym kept.sized_f) kept;
        },
        kept.sized_f ∙ ap (λ (s : WorldState). s.state.log.f) e,
      )
