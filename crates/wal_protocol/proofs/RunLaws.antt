-- Runs that grow at their end.
use Rattle.wal_protocol.proofs.Common.{◌≡◌, List, length, arith, [], ◌∷◌, ◌++◌, Bool, true, false, refl, Event, Line, World, Rules, Steps, is_collision, GoesOn, Runs}
use Rattle.wal_protocol.proofs.Agreement.{last, Left}

pub goes_on_push : (lines : List Line) (said : Line) → GoesOn lines → is_collision said ≡ false → GoesOn (lines ++ said ∷ [])
goes_on_push [] said all none = (none, tt)
goes_on_push (first ∷ lines) said all none = (all.0, goes_on_push lines said all.1 none)

-- a state behind all others is the last
pub last_push : (old : World) (states : List World) (new : World) → last old (states ++ new ∷ []) ≡ new
last_push old [] new = refl
last_push old (next ∷ states) new = last_push next states new

-- a run goes on by one step, and by what follows it
runs_more : (r : Rules) (old : World) (events : List Event) (states : List World) (lines : List Line)
    (event : Event) (rest : List Event) (said : Line) (new : World) → Runs r old events states lines → GoesOn lines
    → Steps r (last old states) event said new → Left r (is_collision said) new rest [] []
    → Runs r old (events ++ event ∷ rest) (states ++ new ∷ []) (lines ++ said ∷ [])
runs_more r old [] [] [] event rest said new run on step then = (step, then)
runs_more r old (e ∷ events) (s ∷ states) (l ∷ lines) event rest said new run on step then =
    (run.0, rw on.0 (runs_more r s events states lines event rest said new (rw on.0 at run.1) on.1 step then))
runs_more r old events states lines event rest said new run on step then = absurd run

nothing_left : (r : Rules) (stops : Bool) (old : World) → Left r stops old [] [] []
nothing_left r true old = (refl, refl)
nothing_left r false old = tt

pub runs_push : (r : Rules) (old : World) (events : List Event) (states : List World) (lines : List Line) (event : Event) (said : Line) (new : World) → Runs r old events states lines → GoesOn lines
    → Steps r (last old states) event said new → Runs r old (events ++ event ∷ []) (states ++ new ∷ []) (lines ++ said ∷ [])
runs_push r old events states lines event said new run on step =
    runs_more r old events states lines event [] said new run on step (nothing_left r (is_collision said) new)

-- and ends by one whose line is a collision, whatever events were to come
pub runs_stop : (r : Rules) (old : World) (events : List Event) (states : List World) (lines : List Line) (event : Event) (rest : List Event) (said : Line) (new : World) → Runs r old events states lines → GoesOn lines
    → Steps r (last old states) event said new → is_collision said ≡ true → Runs r old (events ++ event ∷ rest) (states ++ new ∷ []) (lines ++ said ∷ [])
runs_stop r old events states lines event rest said new run on step stops =
    runs_more r old events states lines event rest said new run on step (rw stops (refl, refl))

-- a run without a collision has a line for each event
pub runs_each : (r : Rules) (old : World) (events : List Event) (states : List World) (lines : List Line) → Runs r old events states lines → GoesOn lines → length lines ≡ length events
runs_each r old [] [] [] run on = refl
runs_each r old (e ∷ events) (s ∷ states) (l ∷ lines) run on =
    omega (arith, runs_each r s events states lines (rw on.0 at run.1) on.1)
runs_each r old events states lines run on = absurd run
