-- What shards do at one prefix, as a run of the world.
use Rattle.wal_network.proofs.Common.{◌≡◌, ◌≢◌, ℕ, ◌<◌, List, [], ◌∷◌, ◌++◌, length, map, true, false, sym, refl, ap, subst, arith, ◌∙◌, BlobId, Side, Now, Next, Axis, Line, Event, Log, Contents, Committee, World, side_of, with_side, is_present, is_correct, contents_of, with_contents, keeps, Rules, Steps, Runs, GoesOn, is_collision, AreReplies, RecoveryRuns, among, empty_map, get_or-set_same, get_or-set_other}
use Rattle.std.proofs.lemmas.List.{set-get_or, map-append}
use Rattle.wal_event.specs.declared.event.Reply.TheVariants as reply
use Rattle.wal_protocol.proofs.Agreement.{last}
use Rattle.wal_protocol.proofs.RunLaws.{goes_on_push, last_push, runs_push}
use Rattle.wal_protocol.proofs.Lookups.{held_is, changed_shape}
use Rattle.wal_network.proofs.Common.{Laws, Facts, IsEventWithin, AllByRecursion, committee_size, length-map}
use Rattle.wal_event.specs.Event.{IsReply}
use Rattle.wal_protocol.proofs.Stepped.{facts_step}
use Rattle.wal_network.specs.Deeds as net
use Rattle.wal_network.specs.Deeds.{Deed, deed_event, Acts, malformed, refused, stored, unregistered, missed, found, declined, forgot, Done, last_held, ActsEach, IsDeedWithin, KeepsNothing, KeepsSomething, LeavesAll}
use Rattle.wal_network.specs.AsRun.{LeadsTo, Told, deeds_told, last_world}

-- ---- runs

last_is : (old : World) (states : List World) → last old states ≡ last_world old states
last_is old [] = refl
last_is old (new ∷ more) = last_is new more

pub leads_none : (r : Rules) (old : World) → LeadsTo r old [] old
leads_none r old = record { states = []; run = tt; goes_on = tt; ends = refl }

pub leads_more : (r : Rules) (old mid new : World) (told : Told) (event : Event) (said : Line) → LeadsTo r old told mid → Steps r mid event said new → is_collision said ≡ false
    → LeadsTo r old (told ++ (event, said) ∷ []) new
leads_more r old mid new told event said way step none = record {
  states = way.states ++ new ∷ [];
  run = subst (λ (es : List Event). Runs r old es (way.states ++ new ∷ []) (map (λ (one : Event × Line). one.1) (told ++ (event, said) ∷ [])))
      (sym (map-append (λ (one : Event × Line). one.0) told ((event, said) ∷ [])))
      (subst (Runs r old (map (λ (one : Event × Line). one.0) told ++ event ∷ []) (way.states ++ new ∷ [])) (sym (map-append (λ (one : Event × Line). one.1) told ((event, said) ∷ [])))
      (runs_push r old (map (λ (one : Event × Line). one.0) told) way.states (map (λ (one : Event × Line). one.1) told) event said new way.run way.goes_on
      (subst (λ (w : World). Steps r w event said new) (sym (last_is old way.states ∙ way.ends)) step)));
  goes_on = subst GoesOn (sym (map-append (λ (one : Event × Line). one.1) told ((event, said) ∷ []))) (goes_on_push (map (λ (one : Event × Line). one.1) told) said way.goes_on none);
  ends = sym (last_is old (way.states ++ new ∷ [])) ∙ last_push old way.states new;
}

-- a run of the world that keeps the facts
pub record Way (r : Rules) (old : World) (told : Told) (new : World) : Type 0 where
  pub leads : LeadsTo r old told new
  pub facts : Facts r old → Facts r new

pub leads_nowhere : (r : Rules) (old : World) → Way r old [] old
leads_nowhere r old = record { leads = leads_none r old; facts = λ h. h }

pub leads_on : (r : Rules) (laws : Laws r) (old mid new : World) (told : Told) (event : Event) (said : Line) → Way r old told mid → Steps r mid event said new → is_collision said ≡ false
    → IsEventWithin (committee_size mid.log.f) event → Way r old (told ++ (event, said) ∷ []) new
leads_on r laws old mid new told event said way step none fit =
    record { leads = leads_more r old mid new told event said way.leads step none; facts = λ h. facts_step r laws mid event said new (way.facts h) fit step }

each_bytes : (n : ℕ) (heard : List (List ℕ)) → AllByRecursion (IsReply n) (map reply.Bytes heard)
each_bytes n [] = tt
each_bytes n (b ∷ heard) = (tt, each_bytes n heard)

deed_fits : (n s : ℕ) (side : Side) (deed : Deed) → s < n → IsDeedWithin deed → IsEventWithin n (deed_event side s deed)
deed_fits n s side (Deed.put bytes) lt fit = lt
deed_fits n s side (Deed.recover axis id heard) lt fit = (lt, record { count = omega (arith, fit, length-map heard reply.Bytes); each = each_bytes n heard })
deed_fits n s side (Deed.forget id) lt fit = lt

-- ---- one deed

-- a shard that holds what it held
same_contents : (c : Committee) (s : ℕ) → with_contents c s (contents_of c s) ≡ c
unfolding with_contents
same_contents c s = ap (λ (xs : List Contents). record c { shards = xs }) (set-get_or c.shards s empty_map)

keeps_same : (w : World) (side : Side) (s : ℕ) → keeps w side s (contents_of (side_of side w) s) ≡ w
keeps_same w Now s = ap (λ (c : Committee). record w { now = c }) (same_contents w.now s)
keeps_same w Next s = ap (λ (c : Committee). record w { next = c }) (same_contents w.next s)

heard_replies : (r : Rules) (w : World) (id : BlobId) (axis : Axis) (s : ℕ) (heard : List (List ℕ)) → AreReplies r w id axis s (map reply.Bytes heard) heard
heard_replies r w id axis s [] = refl
heard_replies r w id axis s (bytes ∷ heard) = (bytes ∷ [], heard, refl, heard_replies r w id axis s heard, refl)

recovery : (r : Rules) (w : World) (side : Side) (s : ℕ) (axis : Axis) (id : BlobId) (heard : List (List ℕ)) (word : _) (new : Contents) → is_correct side w s ≡ true
    → net.IsRecovery r w.log s (contents_of (side_of side w) s) axis id heard word new → RecoveryRuns r w side s axis id (map reply.Bytes heard) word new
recovery r w side s axis id heard word new correct run = record {
  correct = correct;
  live = run.live;
  payloads = heard;
  replied = heard_replies r w id axis s heard;
  one_metadata = λ clash. run.one_metadata (subst (λ p. r.ContradictsHeld id p heard) (held_is (side_of side w) s id) clash);
  recovers = run.recovers;
}

-- what a correct shard does is a step of the world
deed_step : (r : Rules) (w : World) (side : Side) (s : ℕ) (deed : Deed) (said : Line) (new : Contents) → is_correct side w s ≡ true
    → Acts r w.log s (contents_of (side_of side w) s) deed said new → Steps r w (deed_event side s deed) said (keeps w side s new)
deed_step r w side s _ _ _ correct (malformed bytes none) = (refl, (correct, none, keeps_same w side s))
deed_step r w side s _ _ _ correct (refused bytes frame _ _ contents reads puts LeavesAll.held) = (refl, (frame, contents, (correct, reads, puts), keeps_same w side s))
deed_step r w side s _ _ _ correct (refused bytes frame _ _ contents reads puts leaves) = (refl, (frame, contents, (correct, reads, puts), keeps_same w side s))
deed_step r w side s _ _ new correct (stored bytes frame _ reads puts) = (refl, (frame, new, (correct, reads, puts), refl))
deed_step r w side s _ _ _ correct (unregistered axis id heard dead) = (refl, refl, refl, (correct, dead, keeps_same w side s))
deed_step r w side s _ _ _ correct (missed axis id heard _ contents run KeepsNothing.no_metadata) = (refl, refl, refl, (contents, recovery r w side s axis id heard _ contents correct run, keeps_same w side s))
deed_step r w side s _ _ _ correct (missed axis id heard _ contents run leaves) = (refl, refl, refl, (contents, recovery r w side s axis id heard _ contents correct run, keeps_same w side s))
deed_step r w side s _ _ new correct (found axis id heard _ _ run KeepsSomething.proof) = (refl, refl, refl, (new, recovery r w side s axis id heard _ new correct run, refl))
deed_step r w side s _ _ new correct (found axis id heard _ _ run leaves) = (refl, refl, refl, (new, recovery r w side s axis id heard _ new correct run, refl))
deed_step r w side s _ _ _ correct (declined id may) = (refl, refl, (correct, may, keeps_same w side s))
deed_step r w side s _ _ _ correct (forgot id may) = (refl, refl, (correct, may, refl))

deed_goes_on : (r : Rules) (log : Log) (s : ℕ) (old : Contents) (deed : Deed) (said : Line) (new : Contents) → Acts r log s old deed said new → is_collision said ≡ false
deed_goes_on r log s old _ _ _ (malformed bytes none) = refl
deed_goes_on r log s old deed said new act = refl

-- ---- the deeds of one shard, and of all shards of a side

-- a world with a committee on a side
with_is : (w : World) (side : Side) (c : Committee) → ((with_side side w c).log ≡ w.log) × (is_present side (with_side side w c) ≡ is_present side w) × (side_of side (with_side side w c) ≡ c)
    × ((d : Committee) → with_side side (with_side side w c) d ≡ with_side side w d)
with_is w Now c = (refl, refl, refl, λ d. refl)
with_is w Next c = (refl, refl, refl, λ d. refl)

contents_same : (c : Committee) (s : ℕ) (m : Contents) → s < length c.shards → contents_of (with_contents c s m) s ≡ m
unfolding with_contents
contents_same c s m lt = get_or-set_same c.shards s m empty_map lt

contents_other : (c : Committee) (s t : ℕ) (m : Contents) → t ≢ s → contents_of (with_contents c s m) t ≡ contents_of c t
unfolding with_contents
contents_other c s t m other = get_or-set_other c.shards s t m empty_map other

-- a committee in which one shard holds something else
pub record Changed (old new : Committee) (s : ℕ) (contents : Contents) : Type 0 where
  pub faulty : new.faulty ≡ old.faulty
  pub size : length new.shards ≡ length old.shards
  pub here : contents_of new s ≡ contents
  pub others : (t : ℕ) → t ≢ s → contents_of new t ≡ contents_of old t

-- a shard's deeds at one prefix
pub shard_leads : (r : Rules) (laws : Laws r) (first w : World) (side : Side) (s : ℕ) (dones : List Done) (c : Committee) (told : Told) → Way r first told (with_side side w c)
    → is_present side w ≡ true → among c.faulty s ≡ false → s < length c.shards → length c.shards ≡ committee_size w.log.f → ActsEach r w.log s (contents_of c s) dones
    → (new : Committee) × Way r first (deeds_told side s told dones) (with_side side w new) × Changed c new s (last_held dones (contents_of c s))
shard_leads r laws first w side s [] c told way present correct lt sized acts = (c, way, record { faulty = refl; size = refl; here = refl; others = λ t other. refl })
shard_leads r laws first w side s (done ∷ more) c told way present correct lt sized acts =
    let at : World = with_side side w c in
    let (same_log, same_present, same_side, twice) = with_is w side c in
    let ok : is_correct side at s ≡ true = rw (same_present, same_side, present, correct) refl in
    let act : Acts r at.log s (contents_of (side_of side at) s) done.deed done.said done.after = rw (same_log, same_side) acts.0 in
    let mid : Committee = with_contents c s done.after in
    let step : Steps r at (deed_event side s done.deed) done.said (keeps at side s done.after) = deed_step r at side s done.deed done.said done.after ok act in
    let is : keeps at side s done.after ≡ with_side side w mid =
    twice (with_contents (side_of side at) s done.after) ∙ ap (λ (d : Committee). with_side side w (with_contents d s done.after)) same_side in
    let on : Way r first (told ++ (deed_event side s done.deed, done.said) ∷ []) (with_side side w mid) =
    leads_on r laws first at (with_side side w mid) told (deed_event side s done.deed) done.said way
    (subst (Steps r at (deed_event side s done.deed) done.said) is step) (deed_goes_on r w.log s (contents_of c s) done.deed done.said done.after acts.0)
    (deed_fits (committee_size at.log.f) s side done.deed (subst (λ (l : Log). s < committee_size l.f) (sym same_log) (omega (arith, lt, sized))) acts.2) in
    let here : contents_of mid s ≡ done.after = contents_same c s done.after lt in
    let shape = changed_shape c s done.after in
    let rest = shard_leads r laws first w side s more mid (told ++ (deed_event side s done.deed, done.said) ∷ []) on present (ap (λ fs. among fs s) shape.0 ∙ correct) (omega (arith, lt, shape.1)) (shape.1 ∙ sized)
    (subst (λ (m : Contents). ActsEach r w.log s m more) (sym here) acts.1) in (
      rest.0,
      rest.1,
      record {
        faulty = rest.2.faulty ∙ shape.0;
        size = rest.2.size ∙ shape.1;
        here = rest.2.here ∙ ap (last_held more) here;
        others = λ t other. rest.2.others t other ∙ contents_other c s t done.after other;
      },
    )
