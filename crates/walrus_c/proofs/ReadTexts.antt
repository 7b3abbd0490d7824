-- A blob that is read has no more bytes than the input, nor than any blob has.
use Rattle.walrus_c.proofs.Common.{◌≡◌, ℕ, ◌+◌, ◌*◌, ◌≤◌, List, [], ◌∷◌, length, length-append, length-take, codes, refl, ap, arith, flat_map, flat_map-append, Primary, BlobId, BlobMetadata, column_count, most_bytes, row_count, symbol_size, symbol_size-least, Collects, Decides, GivesSliver, IndexedSliver, read_most, Result, Ok, Frame, Sliver, FrameError, IsStream, read_of, frame_is, length-sliver_frame, length-envelope}
use Rattle.wal_matrix.specs.Through.{source_of}
use Rattle.wal_evidence.specs.Evidence.{sliver_bytes}
use Rattle.wal_evidence.specs.FirstOfEach.{TakesAfter, adds, keeps}
use Rattle.wal_evidence.specs.declared.evidence.Verdict.TheVariants as told
use Rattle.wal_reader.proofs.Collections.{collects_size}
use Rattle.wal_run.specs.Reading.{reading}
use Rattle.walrus_c.proofs.Lengths.{length-flat_map-cons, two_fits, Tells, succeeds, rejects, lacks}
use Rattle.walrus_c.proofs.Lines.{shape_of}

-- the bytes of a primary sliver that was read
abbrev sliver_size : Result Frame FrameError → ℕ
sliver_size (Ok (Sliver id Primary index bytes)) = length bytes
sliver_size other = 0

-- those of all payloads
abbrev sliver_sizes : List (List ℕ) → ℕ
sliver_sizes [] = 0
sliver_sizes (payload ∷ payloads) = sliver_size (read_of payload) + sliver_sizes payloads

-- a sliver is within its payload
one_within : (payload : List ℕ) → sliver_size (read_of payload) ≤ length payload
one_within payload = by (read_of payload) refl where
  by : (r : Result Frame FrameError) → read_of payload ≡ r → sliver_size r ≤ length payload
  by (Ok (Sliver id Primary index bytes)) e =
      let is = frame_is payload _ e in
      omega (arith, is.size, length-sliver_frame id Primary index bytes is.fits.id_size)
  by other e = omega arith

-- and they are within the stream
slivers_within : (payloads : List (List ℕ)) (bytes : List ℕ) → IsStream payloads bytes → sliver_sizes payloads ≤ length bytes
slivers_within [] bytes is = omega arith
slivers_within (payload ∷ payloads) bytes is =
    rw (is.3, length-append)
    (omega (arith, slivers_within payloads is.1 is.4, one_within payload, length-envelope is.0 payload))

module _ (digest : List ℕ → List ℕ) (id : List ℕ) (m : BlobMetadata) where
  abbrev joined_of : List IndexedSliver → List ℕ
  joined_of slivers = flat_map (λ s. s.bytes) slivers

  taken_within : (most : ℕ) (before : List IndexedSliver) (payloads : List (List ℕ)) (taken : List IndexedSliver)
      → TakesAfter (GivesSliver digest id m) (λ s. s.index) most before payloads taken → length (joined_of taken) ≤ length (joined_of before) + sliver_sizes payloads
  taken_within most before [] taken is = rw is (omega arith)
  taken_within most before (payload ∷ payloads) taken (after, adds y few gives new is, others) =
      let both = flat_map-append (λ (s : IndexedSliver). s.bytes) before (y ∷ []) in
      let last = length-flat_map-cons (λ (s : IndexedSliver). s.bytes) y [] in
      let more : length (joined_of after) ≡ length (joined_of before) + length (joined_of (y ∷ [])) =
      rw (is, both, length-append) refl in
      omega (arith, taken_within most after payloads taken others, more, last, ap sliver_size gives.0)
  taken_within most before (payload ∷ payloads) taken (after, keeps none is, others) =
      let same = ap (λ (ss : List IndexedSliver). length (joined_of ss)) is in
      omega (arith, taken_within most after payloads taken others, same)

  joined_within : (payloads : List (List ℕ)) (indices joined : List ℕ) → Collects digest id m payloads indices joined → length joined ≤ sliver_sizes payloads
  joined_within payloads indices joined was = omega (arith, ap length was.3, taken_within (row_count m.f) [] payloads was.0 was.1)

module _ (digest : List ℕ → List ℕ) (size_is : (text : List ℕ) → length (digest text) ≡ 32) where
  -- a blob has no more bytes than the slivers from which it is read, nor than any has
  pub decided_short : (id : List ℕ) (payloads : List (List ℕ)) (bytes : List ℕ) → Decides digest id payloads (told.Bytes bytes)
      → (length bytes ≤ sliver_sizes payloads) × (length bytes ≤ most_bytes)
  decided_short id payloads bytes (m, one, indices, joined, collects, many, judges) =
      let s = symbol_size m.f m.length in
      let shape = shape_of digest id payloads m one in
      let cut : length bytes ≤ m.length = omega (arith, ap length judges.2.0, length-take m.length (source_of m.f s judges.0)) in
      let size : length joined ≡ length indices * sliver_bytes m = collects_size digest id m payloads indices joined collects in
      let rows : length indices * sliver_bytes m ≡ row_count m.f * (column_count m.f * s) = ap (λ (n : ℕ). n * sliver_bytes m) many in
      let room = (symbol_size-least m.f m.length).room in (
        omega (arith, cut, size, rows, room, joined_within digest id m payloads indices joined collects),
        omega (arith, cut, shape.2),
      )

  -- what is written
  pub was_read : (id : BlobId) (input : List ℕ) → Tells digest (reading digest id) input (read_most (length input))
  was_read id input succeeds r spells text is =
      let few = decided_short id.0 r.payloads text is in
      omega (arith, few.0, few.1, slivers_within r.payloads input spells.0)
  was_read id input rejects r spells text is = omega (arith, ap length is.3)
  was_read id input lacks r spells text is =
      let few : r.metadata.f ≤ 333 = (shape_of digest id.0 r.payloads r.metadata spells.1).1 in
      two_fits (read_most (length input)) (codes "short ") (codes " of ") is.0 (row_count r.metadata.f) text
      (omega arith) (omega arith) (omega (arith, is.1.3, few))
      (omega (arith, few)) is.3
  was_read id input other r spells text none = absurd none
