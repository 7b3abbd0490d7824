-- Reading fields from left to right, with the first fault that is met.
use Rattle.std.specs.Prelude.{◌≡◌, ℕ, List, length, take, drop, Result, Ok, Err, nat_lt}
use Rattle.std.specs.Prelude.{if◌then◌else◌}
use Rattle.std.specs.Int.{Width, byte_len, from_be_bytes}
use Rattle.wal_shape.specs.declared.body.BodyFault.{BodyFault}
use Rattle.wal_shape.specs.declared.body.BodyFault.TheVariants.{Truncated, BadField}

-- one reader after another, whatever their faults are
infixl 10 ◌>>=◌
abbrev pub ◌>>=◌ : {A B E : Type 0} → Result A E → (A → Result B E) → Result B E
(Ok x) >>= f = f x
(Err fault) >>= f = Err fault

-- what a function returned, seen through `view`, is what is read
abbrev pub Gives : {X Y E : Type 0} → (X → Y) → Result X E → Result Y E → Type 0
Gives view (Ok x) read = read ≡ Ok (view x)
Gives view (Err fault) read = read ≡ Err fault

-- a number of at most `most`, in a field at this place, and the bytes after it
abbrev pub number_at : Width → ℕ → ℕ → List ℕ → Result (ℕ × List ℕ) BodyFault
number_at width place most bytes =
    if nat_lt (length bytes) (byte_len width) then Err Truncated
    else
    (if nat_lt most (from_be_bytes width (take (byte_len width) bytes)) then Err (BadField place)
    else Ok (from_be_bytes width (take (byte_len width) bytes), drop (byte_len width) bytes))

-- n bytes, and the bytes after them
abbrev pub run_at : ℕ → List ℕ → Result (List ℕ × List ℕ) BodyFault
run_at n bytes = if nat_lt (length bytes) n then Err Truncated else Ok (take n bytes, drop n bytes)
