-- What serves private functions and proofs beside Reading.
use Rattle.std.specs.Prelude.{◌≡◌, List, ◌++◌, Option, Some, None, Result, Ok, Err, ⊤}
use Rattle.wal_schedule.specs.declared.fault.Fault.{Fault}
use Rattle.wal_schedule.specs.declared.fault.Fault.TheVariants.{Bad, Memory}

-- what a function returned, seen through view, is what is read, unless memory ran out
abbrev pub Gives : {X Y : Type 0} → (X → Y) → Result X Fault → Option Y → Type 0
Gives view (Ok x) read = read ≡ Some (view x)
Gives view (Err Bad) read = read ≡ None
Gives view (Err Memory) read = ⊤

-- the same for a value that is seen as itself
abbrev pub Reads : {X : Type 0} → Result X Fault → Option X → Type 0
Reads (Ok x) read = read ≡ Some x
Reads (Err Bad) read = read ≡ None
Reads (Err Memory) read = ⊤

-- elements put before those of the rest
abbrev pub before : {A : Type 0} → List A → Option (List A) → Option (List A)
before xs None = None
before xs (Some ys) = Some (xs ++ ys)
