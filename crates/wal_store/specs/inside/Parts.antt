-- What serves private functions and proofs beside Parts.
use Rattle.std.specs.Prelude.{ℕ, List, Option, refl}
use Rattle.std.specs.Coded.{Coded, code_by, coded×, coded_option, coded_list, coded_ℕ}
use Rattle.wal_store.specs.Parts.{Parts}

-- parts are stored as the tuple of the four
abbrev pub parts_code : Coded Parts
parts_code =
    let part : Coded (Option (List ℕ)) = coded_option (coded_list coded_ℕ) in
    code_by (Option (List ℕ) × (Option (List ℕ) × (Option (List ℕ) × Option (List ℕ))))
    (coded× part (coded× part (coded× part part)))
    (λ parts. (parts.metadata, (parts.primary, (parts.secondary, parts.proof))))
    (λ tuple. record {
      metadata = tuple.0;
      primary = tuple.1.0;
      secondary = tuple.1.1.0;
      proof = tuple.1.1.1;
    })
    (λ _. refl)
