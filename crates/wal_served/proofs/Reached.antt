-- From the state at the start on, what serving does are steps of the world, for all that was taken.
use Rattle.wal_served.proofs.Common.{◌≡◌, ◌≢◌, ℕ, Bool, cond, nat_lt, List, [], ◌∷◌, ◌++◌, length, Option, Some, None, inl, inr, refl, ap, subst, ◌∙◌, append-nil, lt-ltb, le-ltb, Contains-push, Contains-append_left, MetaClash, Event, Line, envelope, ShardState, World, GoesOn, is_collision, Steps, rules_of, ServedState, SamePlace, overlong, reply_text, Replies, looked_at, read_past, none, more, world_of, Meaning, an_event, own_entry, no_event, meaning, Does, Stepped, AreSteps, Exchange, exchanges, event_if, events_of, TellsClash, AreOf, nothing, with_next, without_next, StopsBy, IsRunTo, IsServedRun, AreServedRuns, ◌+◌, ◌-◌, ◌<◌, zero, suc, get_or, take, drop, sym, append_assoc, length-append, arith, range_with_len, take-append-drop, get_or-range_with_len, Now, node_of, committee_size, Log, is_moving, owners_of, AnswersRequest, Served, Serves, IsDesk, EndsBy, IsReached, flat_map_more}
use Rattle.wal_protocol.proofs.RunLaws.{goes_on_push, last_push, runs_push}
use Rattle.wal_served.proofs.Replies.{told_room}
use Rattle.std.proofs.Math.Seq.{take-append_seam}
use Rattle.wal_frame.specs.Front.{BeginsNone, IsPart}
use Rattle.wal_serve.specs.declared.serving.ServeEnd.{ServeEnd}
use Rattle.wal_served.proofs.Steps.{served_steps}

-- ---- what serving does is a run of the world

same_place : (a b c : ShardState) → SamePlace a b → SamePlace b c → SamePlace a c
same_place a b c first then = record { f = then.f ∙ first.f; index = then.index ∙ first.index; limit = then.limit ∙ first.limit }

-- one more line, by whether two texts end serving there, which it tells then
stops_by : (clash : Option MetaClash) (lines : List Line) (said : Line) → GoesOn lines → TellsClash clash said → StopsBy clash (lines ++ said ∷ [])
stops_by None lines said goes is = goes_on_push lines said goes is
stops_by (Some texts) lines said goes is = (record { front = lines; said = said; whole = refl; collision = ap (λ (l : Line). is_collision l) is; goes_on = goes }, is)

-- a run goes on by what a payload does
module _ (digest : List ℕ → List ℕ) (w : World) (fresh : ServedState) (all : List (Event × List (List ℕ))) (mid : ServedState) (place : SamePlace fresh.shard mid.shard) (r : IsRunTo digest w fresh all None mid) where
  -- nothing more, where the world stays
  stays : (clash : Option MetaClash) (new : ServedState) (some : List (Event × List (List ℕ))) → AreOf r.events r.lines (all ++ some) → new ≡ mid → clash ≡ None
      → IsRunTo digest w fresh (all ++ some) clash new
  stays clash new some answered same goes = record {
    events = r.events;
    states = r.states;
    lines = r.lines;
    answered = answered;
    run = r.run;
    ends = rw same r.ends;
    stops = rw goes r.stops;
  }

  goes_on : (m : Meaning) (some : List (List ℕ)) (clash : Option MetaClash) (new : ServedState) → m ≢ own_entry → Does digest mid m some clash new
      → IsRunTo digest w fresh (all ++ event_if m some) clash new
  goes_on own_entry some clash new not does = absurd (not refl)
  goes_on no_event some clash new not does = stays clash new [] (rw (append-nil all) r.answered) does.0 does.1
  goes_on (an_event e) some clash new not (inr lacks) =
      stays clash new ((e, some) ∷ []) (without_next r.events r.lines all e some r.answered (lacks.code, lacks.a, lacks.b, lacks.wants, lacks.told)) lacks.same lacks.goes_on
  goes_on (an_event e) some clash new not (inl step) =
      let here : Steps (rules_of digest fresh.shard.f) (world_of w mid) e step.line (world_of w new) = subst (λ (f : ℕ). Steps (rules_of digest f) (world_of w mid) e step.line (world_of w new)) place.f (step.steps w) in
      record {
        events = r.events ++ e ∷ [];
        states = r.states ++ world_of w new ∷ [];
        lines = r.lines ++ step.line ∷ [];
        answered = with_next r.events r.lines all e step.line some r.answered step.told (told_room step.line some step.told);
        run = runs_push (rules_of digest fresh.shard.f) (world_of w fresh) r.events r.states r.lines e step.line (world_of w new) r.run r.stops (rw r.ends here);
        ends = last_push (world_of w fresh) r.states (world_of w new);
        stops = stops_by clash r.lines step.line r.stops step.ends;
      }

module _ (digest : List ℕ → List ℕ) (may_want : Bool) (fresh : ServedState) (room : ℕ) where
  abbrev events_in : List Exchange → List (Event × List (List ℕ))
  events_in all = events_of room fresh.shard.f fresh.shard.index all

  -- the events of one more payload
  one_more : (all : List Exchange) (payload : List ℕ) (frames : List (List ℕ)) (events : List (Event × List (List ℕ)))
      → cond (nat_lt room (length payload)) [] (event_if (meaning fresh.shard.f fresh.shard.index payload) frames) ≡ events
      → events_in (all ++ (payload, frames) ∷ []) ≡ events_in all ++ events
  one_more all payload frames events is =
      rw (
        ← flat_map_more (λ (a : Exchange). cond (nat_lt room (length a.0)) [] (event_if (meaning fresh.shard.f fresh.shard.index a.0) a.1)) [] all (payload, frames),
        is,
      ) refl

  -- one more payload
  one_reply : (all : List Exchange) (mid : ServedState) (payload : List ℕ) (s : List (List ℕ)) (c : Option MetaClash) (n : ServedState) → SamePlace fresh.shard mid.shard
      → IsServedRun digest room fresh all None mid → Replies (Stepped digest may_want) room mid payload s c n
      → SamePlace fresh.shard n.shard × IsServedRun digest room fresh (all ++ (payload, s) ∷ []) c n
  one_reply all mid payload _ _ _ place run (looked_at s c n within stepped) = (
    same_place fresh.shard mid.shard n.shard place stepped.place,
    λ no w.
        let m = meaning fresh.shard.f fresh.shard.index payload in
        let own : meaning mid.shard.f mid.shard.index payload ≡ m = rw (place.f, place.index) refl in
        let does = subst (λ (x : Meaning). Does digest mid x s c n) own stepped.does in
        let before = run (λ p among. no p (Contains-append_left all ((payload, s) ∷ []) p among)) w in
        let events = one_more all payload s (event_if m s) (rw (le-ltb room (length payload) within) refl) in
        rw events (goes_on digest w fresh (events_in all) mid place before m s c n (no (payload, s) (Contains-push all (payload, s)) within) does),
  )
  one_reply all mid payload _ _ _ place run (read_past long) =
      let s : List (List ℕ) = reply_text overlong ∷ [] in (
        place,
        λ no w.
            let before = run (λ p among. no p (Contains-append_left all ((payload, s) ∷ []) p among)) w in
            let events = one_more all payload s [] (rw (lt-ltb room (length payload) long) refl) in
            let last : Does digest mid no_event s None mid = (refl, refl) in
            rw events (goes_on digest w fresh (events_in all) mid place before no_event s None mid (λ is. absurd cc) last),
      )

  -- WHAT SERVING DOES is a run
  pub served_run : (taken : List ℕ) (frames : List (List ℕ)) (clash : Option MetaClash) (state : ServedState) (steps : AreSteps digest may_want room fresh taken frames clash state)
      → SamePlace fresh.shard state.shard × IsServedRun digest room fresh (exchanges digest may_want room fresh taken frames clash state steps) clash state
  served_run _ _ _ _ none = (
    record { f = refl; index = refl; limit = refl },
    λ no w. record { events = []; states = []; lines = []; answered = nothing; run = tt; ends = refl; stops = tt },
  )
  served_run _ _ _ _ (more front frames mid before sender payload some clash new fits replies) =
      let so_far = served_run front frames None mid before in
      one_reply (exchanges digest may_want room fresh front frames None mid before) mid payload some clash new so_far.0 so_far.1 replies

  -- and so is each front of it
  pub served_runs : (taken : List ℕ) (frames : List (List ℕ)) (clash : Option MetaClash) (state : ServedState) (steps : AreSteps digest may_want room fresh taken frames clash state)
      → AreServedRuns digest may_want room fresh taken frames clash state steps
  served_runs _ _ _ _ none = (served_run [] [] None fresh none).1
  served_runs _ _ _ _ (more front frames mid before sender payload some clash new fits replies) = (
    served_runs front frames None mid before,
    (served_run (front ++ envelope sender payload) (frames ++ some) clash new (more front frames mid before sender payload some clash new fits replies)).1,
  )

-- ---- from the state at the start on, what serving does are steps of the world, for all that was taken

-- ---- the state at the start

-- a ledger without entries, in which each shard has a node of its own
pub desk_at_start : (s : ServedState) (first : ℕ) → s.shard.index < committee_size s.shard.f
    → s.ledger.log ≡ record { f = s.shard.f; first = first; owners = range_with_len 0 (committee_size s.shard.f); entries = [] } → IsDesk s
desk_at_start s first lt is = record {
  place = lt;
  faults = ap (λ (l : Log). l.f) is;
  serves = ap is_moving is;
  owners = λ t less. ap (λ (l : Log). node_of (owners_of Now l) t) is ∙ own t less;
}
  where
    own : (t : ℕ) → t < committee_size s.shard.f → node_of (get_or (range_with_len 0 (committee_size s.shard.f) ∷ []) ((first + 0) - first) []) t ≡ t
    own t less =
        let zero : (first + 0) - first ≡ 0 = omega arith in
        rw zero (get_or-range_with_len 0 (committee_size s.shard.f) t 0 less ∙ omega arith)

-- ---- no whole envelope stands there

nothing_behind : (n : ℕ) → BeginsNone (take n [])
nothing_behind zero sender payload after fits is = absurd cc
nothing_behind (suc n) sender payload after fits is = absurd cc

part_none : (rest : List ℕ) → IsPart rest → BeginsNone rest
part_none [] is sender payload after fits same = absurd cc
part_none (b ∷ rest) is sender payload after fits same = is.1 sender payload after fits same

wrong_behind : (n b : ℕ) → (b ≡ 0x57 → ⊥) → BeginsNone (take n (b ∷ []))
wrong_behind zero b not sender payload after fits is = absurd cc
wrong_behind (suc n) b not sender payload after fits is = not cc

-- less of a part is no envelope either
part_behind : (n : ℕ) (rest : List ℕ) → IsPart rest → BeginsNone (take n rest)
part_behind n rest is sender payload after fits same =
    let whole : rest ≡ envelope sender payload ++ (after ++ drop n rest) =
    sym (take-append-drop n rest) ∙ ap (λ (l : List ℕ). l ++ drop n rest) same ∙ append_assoc (envelope sender payload) after (drop n rest) in
    part_none rest is sender payload (after ++ drop n rest) fits whole

-- ---- all that was taken

pub serves_reached : (digest : List ℕ → List ℕ) (may_want : Bool) (room limit : ℕ) (fresh : ServedState) (taken : List ℕ) (AtEnd SourceRose SinkRose : Type 0) (frames : List (List ℕ)) (state : ServedState) (end : ServeEnd)
    → IsDesk fresh → Serves (AnswersRequest digest may_want) room limit fresh taken AtEnd SourceRose SinkRose frames state end → IsReached digest may_want room limit fresh taken frames state end
serves_reached digest may_want room limit fresh taken AtEnd SourceRose SinkRose frames state end d serves = by end serves
  where
    reached : (e : ServeEnd) (front rest : List ℕ) (clash : Option MetaClash) → EndsBy e clash → taken ≡ front ++ rest → BeginsNone (take (limit - length front) rest) → Served (AnswersRequest digest may_want) room fresh front frames clash state → IsReached digest may_want room limit fresh taken frames state e
    reached e front rest clash ends parts behind served =
        let steps = (served_steps digest may_want room fresh front frames clash state d served).0 in
        record {
          front = front;
          rest = rest;
          clash = clash;
          ended = ends;
          parts = parts;
          behind = behind;
          steps = steps;
          fronts = served_runs digest may_want fresh room front frames clash state steps;
          runs = (served_run digest may_want fresh room front frames clash state steps).1;
        }

    whole : (e : ServeEnd) (clash : Option MetaClash) → EndsBy e clash → Served (AnswersRequest digest may_want) room fresh taken frames clash state → IsReached digest may_want room limit fresh taken frames state e
    whole e clash ends served = reached e taken [] clash ends (sym (append-nil taken)) (nothing_behind (limit - length taken)) served

    by : (e : ServeEnd) → Serves (AnswersRequest digest may_want) room limit fresh taken AtEnd SourceRose SinkRose frames state e → IsReached digest may_want room limit fresh taken frames state e
    by _ (Serves.done served within ended) = whole ServeEnd.Done None refl served
    by _ (Serves.stopped clash before served within last) = whole (ServeEnd.Collision clash) (Some clash) refl served
    by _ (Serves.wrong front b parts not served within) = reached (ServeEnd.Malformed (length front)) front (b ∷ []) None refl parts (wrong_behind (limit - length front) b not) served
    by _ (Serves.cut front rest parts is some served within ended) = reached (ServeEnd.Malformed (length front)) front rest None refl parts (part_behind (limit - length front) rest is) served
    by _ (Serves.too_long front rest b parts is served all) =
        let long : length taken ≡ length front + (length rest + 1) = ap length parts ∙ length-append front (rest ++ b ∷ []) ∙ ap (λ (n : ℕ). length front + n) (length-append rest (b ∷ [])) in
        let room : limit - length front ≡ length rest = omega (arith, long, all) in
        let kept : take (limit - length front) (rest ++ b ∷ []) ≡ rest = ap (λ (n : ℕ). take n (rest ++ b ∷ [])) room ∙ take-append_seam rest (b ∷ []) in
        reached ServeEnd.TooLong front (rest ++ b ∷ []) None refl parts (subst BeginsNone (sym kept) (part_none rest is)) served
    by _ (Serves.read_fault front rest parts is served within rose) = reached ServeEnd.ReadFault front rest None refl parts (part_behind (limit - length front) rest is) served
    by _ (Serves.write_fault clash served within rose) = whole ServeEnd.WriteFault clash tt served
