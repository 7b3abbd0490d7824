-- Reading the parts of a schedule from JSON values.
use Rattle.std.specs.Prelude.{ℕ, ◌==◌, nat_le, Bool, bytes_eq, List, [], ◌∷◌, codes, Option, Some}
use Rattle.std.specs.Prelude.{None, if◌then◌else◌}
use Rattle.std.specs.Result.{result_ok}
use Rattle.hex.specs.Hex.{decode_of, decode_sized}
use Rattle.serde_json.specs.Data.{Data, Items, no_items, item, Members}
use Rattle.serde_json.specs.Events.{members_len}
use Rattle.serde_json.specs.Find.{get, as_number, as_u64, as_str, as_array, as_object}
use Rattle.wal_shape.specs.declared.axis.Axis.{Axis}
use Rattle.wal_shape.specs.declared.axis.Axis.TheVariants.{Primary, Secondary}
use Rattle.wal_shape.specs.declared.axis.Side.{Side}
use Rattle.wal_shape.specs.declared.axis.Side.TheVariants.{Now, Next}
use Rattle.wal_shape.specs.declared.metadata.BlobId.{BlobId}

-- what f makes of the value, if there is one
infixl 10 ◌>>=◌
abbrev pub ◌>>=◌ : {A B : Type 0} → Option A → (A → Option B) → Option B
None >>= f = None
(Some value) >>= f = f value

-- the value, if the test passes
abbrev pub given : {A : Type 0} → Bool → A → Option A
given test x = if test then Some x else None

-- the number of keys of an object
abbrev pub keys_in : Option Members → ℕ
keys_in None = 0
keys_in (Some members) = members_len members

-- the number of keys of a value that is an object, else 0
abbrev pub key_count : Data → ℕ
key_count value = keys_in (as_object value)

-- the value, if the object has this number of keys: as each of them was found, it has no others
abbrev pub with_keys : {A : Type 0} → ℕ → Data → A → Option A
with_keys count value x = given (key_count value == count) x

-- a whole number of at most `most`
abbrev pub whole_of : ℕ → Data → Option ℕ
whole_of most value = do
  number ← as_number value
  n ← as_u64 number
  given (nat_le n most) n

-- a whole number of at most `most` under a key
abbrev pub whole_at : ℕ → List ℕ → Data → Option ℕ
whole_at most key json = do
  value ← get key json
  whole_of most value

-- the number of a shard
abbrev pub shard_at : Data → Option ℕ
shard_at json = whole_at 65535 (codes "shard") json

-- a text under a key
abbrev pub text_at : List ℕ → Data → Option (List ℕ)
text_at key json = do
  value ← get key json
  as_str value

-- bytes in hexadecimal digits of either case
abbrev pub bytes_at : List ℕ → Data → Option (List ℕ)
bytes_at key json = do
  text ← text_at key json
  result_ok (decode_of text)

-- an identifier of these bytes
abbrev pub to_id : List ℕ → BlobId
to_id bytes = record { 0 = bytes }

-- an identifier in 64 hexadecimal digits
abbrev pub id_at : Data → Option BlobId
id_at json = do
  text ← text_at (codes "id") json
  bytes ← result_ok (decode_sized text 32)
  Some (to_id bytes)

-- one of two things, each with its name
abbrev pub either_at : {A : Type 0} → List ℕ → List ℕ → A → List ℕ → A → Data → Option A
either_at key left one right other json = do
  text ← text_at key json
  if bytes_eq text left then Some one else (if bytes_eq text right then Some other else None)

-- a side, by its word
abbrev pub side_at : Data → Option Side
side_at json = either_at (codes "at") (codes "now") Now (codes "next") Next json

-- an axis, by its word
abbrev pub axis_at : Data → Option Axis
axis_at json =
    either_at (codes "axis") (codes "primary") Primary (codes "secondary") Secondary json

-- numbers of 16 bits, one after the other
abbrev pub numbers_of : Items → Option (List ℕ)
numbers_of no_items = Some []
numbers_of (item value values) = do
  x ← whole_of 65535 value
  xs ← numbers_of values
  Some (x ∷ xs)

-- a list under a key
abbrev pub items_at : List ℕ → Data → Option Items
items_at key json = do
  value ← get key json
  as_array value

-- a list of numbers of 16 bits under a key
abbrev pub list_at : List ℕ → Data → Option (List ℕ)
list_at key json = do
  items ← items_at key json
  numbers_of items
