use Rattle.std.specs.Prelude.{ℕ, ◌+◌, ◌-◌, List, Option, Some, None, length, unwrap_or, sum_by}
use Rattle.std.specs.Prelude.{if◌then◌else◌}
use Rattle.std.specs.Option.{option_map}
use Rattle.std.specs.FinMap as map
use Rattle.wal_shape.specs.declared.BlobId.{BlobId}
use Rattle.wal_shape.specs.declared.part.Part.{Part}
use Rattle.wal_shape.specs.Identifiers.{id_cmp}
use Rattle.wal_store.specs.Parts.{Parts, no_parts, part_of, with_part, is_empty, cost_of, pages_for}

-- what is held under each identifier
abbrev pub Contents : Type 0
Contents = map.FinMap id_cmp Parts

-- the parts that are held under an identifier
abbrev pub parts_at : Contents → BlobId → Parts
parts_at contents id = unwrap_or (map.get contents id) no_parts

-- the bytes of a part, if it is held
abbrev pub part_at : Contents → BlobId → Part → Option (List ℕ)
part_at contents id part = part_of (parts_at contents id) part

-- the contents with these bytes for a part
abbrev pub with_bytes : Contents → BlobId → Part → List ℕ → Contents
with_bytes contents id part bytes =
    map.insert contents id (with_part (parts_at contents id) part (Some bytes))

-- the contents with these parts of an identifier, which is gone if they are none
abbrev pub with_parts : Contents → BlobId → Parts → Contents
with_parts contents id parts =
    if is_empty parts then map.remove contents id else map.insert contents id parts

-- the contents without a part
abbrev pub without_part : Contents → BlobId → Part → Contents
without_part contents id part = with_parts contents id (with_part (parts_at contents id) part None)

-- the number of pages of all holdings
abbrev pub cost : Contents → ℕ
cost contents = sum_by cost_of (map.values contents)

-- the number of pages that are free, if there is a limit
abbrev pub free_of : Option ℕ → Contents → Option ℕ
free_of limit contents = option_map (λ most. most - cost contents) limit

-- the number of pages that one more part takes
abbrev pub needed_for : Contents → BlobId → List ℕ → ℕ
needed_for contents id bytes =
    (if map.contains_key contents id then 0 else 1) + pages_for (length bytes)

-- contents and a limit in pages
pub record StoreState : Type 0 where
  pub contents : Contents
  pub limit : Option ℕ
