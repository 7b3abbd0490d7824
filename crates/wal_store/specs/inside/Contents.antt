-- What serves private functions and proofs beside Contents.
use Rattle.std.specs.Prelude.{ℕ, Option, refl}
use Rattle.std.specs.FinMap as map
use Rattle.std.specs.Coded.{Coded, code_by, coded×, coded_option, coded_ℕ}
use Rattle.wal_store.specs.inside.Identifier.{id_code}
use Rattle.wal_store.specs.inside.Parts.{parts_code}
use Rattle.wal_store.specs.Contents.{Contents, StoreState}

abbrev pub store_code : Coded StoreState
store_code =
    code_by (Contents × Option ℕ) (coded× (map.code id_code parts_code) (coded_option coded_ℕ))
    (λ state. (state.contents, state.limit))
    (λ tuple. record { contents = tuple.0; limit = tuple.1 }) (λ _. refl)
