-- What serves private functions and proofs beside State.
use Rattle.std.specs.Prelude.{ℕ, Option, refl}
use Rattle.std.specs.FinMap as map
use Rattle.std.specs.Coded.{Coded, code_by, coded×, coded_option, coded_ℕ}
use Rattle.wal_store.specs.inside.Identifier.{id_code}
use Rattle.wal_store.specs.inside.Parts.{parts_code}
use Rattle.wal_store.specs.Contents.{Contents}
use Rattle.wal_shard.specs.State.{ShardState}

abbrev pub shard_code : Coded ShardState
shard_code =
    code_by (ℕ × (ℕ × (Contents × Option ℕ)))
    (coded× coded_ℕ (coded× coded_ℕ (coded× (map.code id_code parts_code) (coded_option coded_ℕ))))
    (λ state. (state.f, (state.index, (state.contents, state.limit))))
    (λ tuple.
    record { f = tuple.0; index = tuple.1.0; contents = tuple.1.1.0; limit = tuple.1.1.1 })
    (λ _. refl)
