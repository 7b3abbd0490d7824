-- What serves private functions beside Writing.
use Rattle.std.specs.Prelude.{◌≡◌, ℕ, List, String}
use Rattle.std.specs.declared.alloc.Global.{Global}
use Rattle.serde_json.specs.Data.{Data, put}
use Rattle.serde_json.specs.View.{members_view}
use Rattle.serde_json.specs.declared.value.Value.{Value}

-- the members of an object after a value is put under a key
abbrev pub IsPut : List ℕ → Data → List (String Global × Value) → List (String Global × Value)
    → Type 0
IsPut key value old new = members_view new ≡ put key value (members_view old)
