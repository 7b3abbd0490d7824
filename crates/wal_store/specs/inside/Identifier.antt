use Rattle.std.specs.Prelude.{ℕ, List, refl}
use Rattle.std.specs.Coded.{Coded, code_by, coded_list, coded_ℕ}
use Rattle.wal_shape.specs.declared.BlobId.{BlobId}

-- an identifier is stored as its bytes
abbrev pub id_code : Coded BlobId
id_code =
    code_by (List ℕ) (coded_list coded_ℕ) (λ id. id.0)
    (λ bytes. record { 0 = bytes }) (λ _. refl)
