-- The order of identifiers, and a part that is written in place.
use Rattle.wal_store.proofs.Common.{◌≡◌, ℕ, List, Option, Some, ap, IsTotalOrder, IsStrictlySortedBy, keys_of, set_value, is_at, insert_entry, IsAntisymmetric, nat_cmp-IsAntisymmetric, slice_cmp-IsAntisymmetric, on_total, nat_list_cmp_total, BlobId, Part, id_cmp, Parts, with_part, Entries, found_in, parts_in}
use Rattle.wal_store.proofs.EntriesLaws.{set_value_is}

pub ids_total : IsTotalOrder id_cmp
ids_total = on_total (λ b. b.0) nat_list_cmp_total

-- identifiers that compare alike are one
pub exact_ids : IsAntisymmetric id_cmp
exact_ids a b h = ap (λ (l : List ℕ). record { 0 = l }) (slice_cmp-IsAntisymmetric nat_cmp-IsAntisymmetric a.0 b.0 h)

-- a part that is written in a holding that is there
pub part_written : (es : Entries) (id : BlobId) (part : Part) (bytes : Option (List ℕ)) (was now : Parts) → IsStrictlySortedBy id_cmp (keys_of es) → found_in es id ≡ Some was → now ≡ with_part was part bytes → set_value (is_at (id_cmp id)) es now ≡ insert_entry id_cmp es id (with_part (parts_in es id) part bytes)
part_written es id part bytes was now sorted found write = cc (set_value_is id_cmp ids_total es id was now sorted found)
