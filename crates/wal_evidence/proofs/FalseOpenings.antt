-- A bad proof against the metadata of an extended matrix has an opening whose symbol is not the matrix's.
use Rattle.wal_evidence.proofs.Common.{◌≡◌, ◌≢◌, ℕ, ◌<◌, List, length, get_or, slice_get, slice_index, Some, ap, subst, ◌∙◌, arith, ⊎_elim, get_or-map, length-map, slice_get-get_or, region, Axis, Opening, BlobShape, IsShape, shard_count, sliver_symbols, symbol_size, BlobMetadata, EncodingProof, IsCodedMatrix, line_of, line_is_word, HoldsOpening, metadata_over, AreEnough, HasRoot, IsBadProof, IsLineThrough, crosses_of, CommitsMatrix, roots_of}
use Rattle.wal_commit.proofs.HonestOpenings.{root_of_line}
use Rattle.wal_evidence.proofs.OneLine.{no_opening, one_line, symbol_at, symbol_sizes}
use Rattle.wal_evidence.proofs.SameOrNot.{all_or_some, same_or_not}

-- the matrix is that of a blob of the length that m says
pub length_is : (digest : List ℕ → List ℕ) (m : BlobMetadata) (blob e : List ℕ) → CommitsMatrix digest m blob e
    → m.length ≡ length blob
unfolding metadata_over
length_is digest m blob e is = ap (λ (x : BlobMetadata). x.length) is.1

-- m has the root over each row and column of the matrix
pub line_root : (axis : Axis) (digest : List ℕ → List ℕ) (m : BlobMetadata) (blob e : List ℕ) (i : ℕ) → CommitsMatrix digest m blob e → i < shard_count m.f
    → HasRoot digest m axis i (line_of axis m.f (symbol_size m.f m.length) e i)
line_root axis digest m blob e i is l =
    let shape : BlobShape = record { format = m.format; f = m.f; length = length blob } in
    rw (← length_is digest m blob e is) at
    (ap (λ (x : BlobMetadata). slice_get (roots_of axis x) i) is.1 ∙ root_of_line digest axis shape e i l)

-- openings that have a matrix's symbols lie on its line
pub line_through : (digest : List ℕ → List ℕ) (m : BlobMetadata) (axis : Axis) (index : ℕ) (openings : List Opening) (e : List ℕ)
    → AreEnough digest m axis index openings → IsCodedMatrix m.f (symbol_size m.f m.length) e → index < shard_count m.f
    → ((k : ℕ) → k < length openings
    → (get_or openings k no_opening).symbol ≡ region (symbol_size m.f m.length) (line_of axis m.f (symbol_size m.f m.length) e index) (get_or openings k no_opening).cross)
    → IsLineThrough m axis openings (line_of axis m.f (symbol_size m.f m.length) e index)
line_through digest m axis index openings e are coded within own =
    let s = symbol_size m.f m.length in
    let line = line_of axis m.f s e index in
    record {
      coded = (line_is_word axis m.f s e index coded within).coded;
      through = λ k l.
          let inside : k < length openings = omega (arith, l, length-map openings (λ (o : Opening). o.cross)) in
          let known : slice_index (crosses_of openings) k ≡ (get_or openings k no_opening).cross = get_or-map (λ (o : Opening). o.cross) openings k no_opening 0 inside in
          cc (known, own k inside, symbol_at s openings k no_opening (symbol_sizes digest m axis index openings are) inside);
    }

some_symbols : (axis : Axis) (f : ℕ) → 0 < sliver_symbols axis f
some_symbols axis f = grind arith

-- a target of openings that hold is a sliver of the blob
pub target_within : (digest : List ℕ → List ℕ) (m : BlobMetadata) (axis : Axis) (index : ℕ) (openings : List Opening)
    → AreEnough digest m axis index openings → index < shard_count m.f
target_within digest m axis index openings are = (are.held 0 no_opening (omega (arith, are.count, some_symbols axis m.f))).within

pub false_opening : (digest : List ℕ → List ℕ) (m : BlobMetadata) (p : EncodingProof) (blob e : List ℕ) → IsShape m.f m.length → IsBadProof digest m p
    → CommitsMatrix digest m blob e
    → (k : ℕ) × (o : Opening) × (slice_get p.openings k ≡ Some o)
    × (o.symbol ≢ region (symbol_size m.f m.length) (line_of p.axis m.f (symbol_size m.f m.length) e p.index) o.cross)
    × HoldsOpening digest m p.axis p.index o
unfolding metadata_over
false_opening digest m p blob e shape bad is =
    let s = symbol_size m.f m.length in
    let os = p.openings in
    let line = line_of p.axis m.f s e p.index in
    let at : ℕ → Opening = λ k. get_or os k no_opening in
    let are = bad.line.enough in
    let within = target_within digest m p.axis p.index os are in
    let coded : IsCodedMatrix m.f s e = rw (length_is digest m blob e is) is.0.coded in
    ⊎_elim
    (λ own.
    let same = one_line digest m p.axis p.index os are shape line bad.word (line_through digest m p.axis p.index os e are coded within own) bad.line.through in
    absurd (bad.root (subst (HasRoot digest m p.axis p.index) same (line_root p.axis digest m blob e p.index is within))))
    (λ found. (found.0, at found.0, slice_get-get_or os found.0 no_opening found.1, found.2, are.held found.0 no_opening found.1))
    (all_or_some (λ k. (at k).symbol ≡ region s line (at k).cross) (λ k. (at k).symbol ≢ region s line (at k).cross) (length os)
    (λ k l. same_or_not (at k).symbol (region s line (at k).cross)))
