-- What serves private functions and proofs beside Entries.
use Rattle.std.specs.Prelude.{◌≡◌, ℕ, ◌+◌, ◌-◌, ◌≤◌, false, [], ◌∷◌, Option, Some, None, Result, Ok}
use Rattle.std.specs.Prelude.{Err, sum_by, map, is_some, unwrap_or, nat_lt, if◌then◌else◌}
use Rattle.std.specs.Option.{ForSome, option_map}
use Rattle.std.specs.BTreeMap.{is_at, insert_entry}
use Rattle.std.specs.Map.{lookup, remove_entry}
use Rattle.std.specs.declared.ops.Bound.{Bound}
use Rattle.std.specs.declared.ops.Bound.TheVariants.{Excluded, Unbounded}
use Rattle.wal_shape.specs.declared.BlobId.{BlobId}
use Rattle.wal_shape.specs.Identifiers.{id_cmp}
use Rattle.wal_store.specs.Parts.{Parts, no_parts, part_of, with_part, is_empty, part_cost, cost_of}
use Rattle.wal_store.specs.Parts.{pages_for}
use Rattle.wal_shape.specs.declared.part.Part.{Part}
use Rattle.wal_store.specs.declared.contract.KeepError.{KeepError}
use Rattle.wal_store.specs.declared.contract.KeepError.TheVariants.{Full}
use Rattle.wal_store.specs.declared.map_keep.Budget.{Budget}
use Rattle.wal_store.specs.Entries.{Entries}

abbrev pub found_in : Entries → BlobId → Option Parts
found_in entries id = lookup (is_at (id_cmp id)) entries

-- the parts under an identifier
abbrev pub parts_in : Entries → BlobId → Parts
parts_in entries id = unwrap_or (found_in entries id) no_parts

-- each holding has a part
abbrev pub AreKept : Entries → Type 0
AreKept [] = Unit {0}
AreKept (entry ∷ entries) = (is_empty entry.1 ≡ false) × AreKept entries

-- the pages of a list of holdings
abbrev pub cost_in : Entries → ℕ
cost_in entries = sum_by cost_of (map (λ entry. entry.1) entries)

-- the pages of the holding under an identifier
abbrev pub cost_at : Entries → BlobId → ℕ
cost_at entries id = unwrap_or (option_map cost_of (found_in entries id)) 0

-- the pages that one more part takes
abbrev pub needed_in : Entries → BlobId → ℕ → ℕ
needed_in entries id size = (if is_some (found_in entries id) then 0 else 1) + pages_for size

-- the entries with these parts of an identifier, which is gone if they are none
abbrev pub changed_in : Entries → BlobId → Parts → Entries
changed_in entries id parts =
    if is_empty parts then remove_entry (is_at (id_cmp id)) entries
    else insert_entry id_cmp entries id parts

-- the pages that a part frees when it goes
abbrev pub freed_in : Entries → BlobId → Part → ℕ
freed_in entries id part =
    if is_empty (with_part (parts_in entries id) part None) then cost_at entries id
    else part_cost (part_of (parts_in entries id) part)

-- if there is a limit, its use is known and within it
abbrev pub InBudget : Option Budget → ℕ → Type 0
InBudget budget cost = ForSome budget (λ known. (known.used ≡ cost) × (known.used ≤ known.limit))

-- whether so many pages are free
abbrev pub room_answer : Option Budget → ℕ → Result (Unit {0}) KeepError
room_answer None needed = Ok tt
room_answer (Some budget) needed =
    if nat_lt (budget.limit - budget.used) needed
    then Err (Full needed (budget.limit - budget.used)) else Ok tt

-- where a range of those past it begins
abbrev pub past_bound : Option BlobId → Bound BlobId
past_bound None = Unbounded
past_bound (Some last) = Excluded last
