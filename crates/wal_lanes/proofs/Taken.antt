-- Texts that are hashed strip by strip: the hash value and the last byte of each, as strips come.
use Rattle.wal_lanes.proofs.Common.{◌≡◌, ◌≢◌, ℕ, zero, suc, ◌+◌, ◌-◌, ◌*◌, ◌/◌, ◌%◌, ◌<◌, ◌≤◌, inl, inr, Some, List, [], ◌∷◌, length, take, drop, get_or, replicate, slice_get, slice_index, slice_set, refl, sym, ap, ◌∙◌, arith, add-one, length-drop, cases_lt, drop_more, get_or-drop, get_or-replicate, get_or-set_same, get_or-take, length-replicate, take_all, get_or_from_slice_get, slice_get-get_or, slice_get_within, digest_bytes, final_hash, hash_after, initial_hash_256, padded_message, sha256, Group, lane, HasTaken, HaveTaken, text, AreDigestsOf, IsStrip}
use Rattle.wal_lanes.proofs.Blocks.{front_padded, hash_more, hash_none}
use Rattle.wal_lanes.proofs.Parts.{part_of_part, piece_within}
use Rattle.wal_lanes.specs.declared.block.State.{State}

-- nothing was taken yet
pub taken_none : (k prefix : ℕ) (piece : List ℕ) (group : Group) → lane group.state k ≡ initial_hash_256 → slice_index group.last k ≡ prefix → HasTaken prefix piece 0 k group
taken_none k prefix piece group begin first = record {
  hash = hash_none initial_hash_256 (padded_message (prefix ∷ piece)) (lane group.state k) 0 refl begin;
  next = ap (λ (b : ℕ). b ∷ piece) (sym first);
}

-- a strip of whole blocks goes on where the text stood
hash_on : (k prefix seen long : ℕ) (piece strip : List ℕ) (group : Group) (after : State) → seen % 64 ≡ 0 → seen + long ≤ length piece
    → take long (drop (k * long) strip) ≡ take long (drop seen piece) → HasTaken prefix piece seen k group
    → lane after k ≡ hash_after (lane group.state k) (text (slice_index group.last k) long strip k) ((long + 1) / 64)
    → lane after k ≡ hash_after initial_hash_256 (padded_message (prefix ∷ piece)) ((seen + long + 1) / 64)
hash_on k prefix seen long piece strip group after edge within same held is =
    let m : List ℕ = prefix ∷ piece in
    let at : seen / 64 * 64 ≡ seen = omega arith in
    let front : text (slice_index group.last k) long strip k ≡ take (suc long) (drop (seen / 64 * 64) (padded_message m)) =
    rw (at, ← front_padded m seen (suc long) (omega arith), held.next, same) in
    let count : seen / 64 + (long + 1) / 64 ≡ (seen + long + 1) / 64 = omega arith in
    rw (is, held.hash, front, hash_more _ (padded_message m) (seen / 64) ((long + 1) / 64) (suc long) (omega arith), count)

-- one strip more was taken
pub taken_more : (k prefix seen long : ℕ) (piece strip : List ℕ) (group next : Group) → 64 ≤ long → long % 64 ≡ 0 → seen % 64 ≡ 0 → seen + long ≤ length piece
    → take long (drop (k * long) strip) ≡ take long (drop seen piece) → HasTaken prefix piece seen k group
    → lane next.state k ≡ hash_after (lane group.state k) (text (slice_index group.last k) long strip k) ((long + 1) / 64)
    → slice_index next.last k ≡ slice_index strip (k * long + (long - 1)) → HasTaken prefix piece (seen + long) k next
taken_more k prefix seen long piece strip group next some whole edge within same held is byte =
    let count : (seen + long + 1) / 64 ≡ (seen + long) / 64 = omega arith in
    let up : seen + long ≡ suc (seen + (long - 1)) = omega arith in
    let begins : slice_index piece (seen + (long - 1)) ≡ slice_index next.last k =
    sym (get_or-take long (drop seen piece) (long - 1) 0 (omega arith) ∙ get_or-drop seen piece (long - 1) 0)
    ∙ ap (λ (l : List ℕ). slice_index l (long - 1)) (sym same)
    ∙ get_or-take long (drop (k * long) strip) (long - 1) 0 (omega arith) ∙ get_or-drop (k * long) strip (long - 1) 0
    ∙ sym byte in
    record {
      hash = rw count at (hash_on k prefix seen long piece strip group next.state edge within same held is);
      next = rw (up, drop_more piece (seen + (long - 1)) 0 (omega arith), begins, add-one);
    }

-- the last strip has come
pub taken_all : (k prefix seen long : ℕ) (piece strip : List ℕ) (group : Group) (whole r : State) → seen % 64 ≡ 0 → length piece ≡ seen + long
    → take long (drop (k * long) strip) ≡ drop seen piece → HasTaken prefix piece seen k group
    → lane whole k ≡ hash_after (lane group.state k) (text (slice_index group.last k) long strip k) ((long + 1) / 64)
    → ((m : List ℕ) → drop seen m ≡ text (slice_index group.last k) long strip k → lane whole k ≡ hash_after initial_hash_256 (padded_message m) (length m / 64)
    → lane r k ≡ final_hash initial_hash_256 m)
    → lane r k ≡ final_hash initial_hash_256 (prefix ∷ piece)
taken_all k prefix seen long piece strip group whole r edge all same held is end =
    let all_of = take_all long (drop seen piece) (omega (arith, length-drop seen piece)) in
    let count : (seen + long + 1) / 64 ≡ length (prefix ∷ piece) / 64 = omega arith in
    end (prefix ∷ piece) (rw same held.next)
    (rw count at (hash_on k prefix seen long piece strip group whole edge (omega arith) (same ∙ sym all_of) held is))

-- setting one group leaves the others
pub other_group : (groups : List Group) (i k : ℕ) (x : Group) → k ≢ i → slice_get (slice_set groups i x) k ≡ slice_get groups k
other_group [] i k x other = refl
other_group (y ∷ ys) zero zero x other = absurd (other refl)
other_group (y ∷ ys) (suc i) (suc k) x other = other_group ys i k x (λ e. other (ap suc e))
other_group (y ∷ ys) _ _ x other = refl

same_group : (groups : List Group) (i : ℕ) (x y : Group) → slice_get (slice_set groups i x) i ≡ Some y → i < length groups → x ≡ y
same_group groups i x y held within =
    sym (get_or-set_same groups i x x within) ∙ get_or_from_slice_get (slice_set groups i x) i y x held

-- each group takes its part of a strip
abbrev pub TakesPart : List Group → List Group → List ℕ → ℕ → ℕ → Type 0
TakesPart old new strip long g =
    (k : ℕ) → k < 8 → (prefix seen : ℕ) (piece : List ℕ) → seen % 64 ≡ 0 → seen + long ≤ length piece
    → take long (drop ((8 * g + k) * long) strip) ≡ take long (drop seen piece)
    → ((group : Group) → slice_get old g ≡ Some group → HasTaken prefix piece seen k group)
    → (group : Group) → slice_get new g ≡ Some group → HasTaken prefix piece (seen + long) k group

-- one group more has taken its part
pub part_taken : (begin old : List Group) (place long : ℕ) (strip part : List ℕ) (d next : Group) → place < length old
    → ((g : ℕ) → place ≤ g → slice_get old g ≡ slice_get begin g)
    → ((g : ℕ) → g < place → TakesPart begin old strip long g)
    → part ≡ take (8 * long) (drop (8 * place * long) strip)
    → ((k : ℕ) → k < 8 → (prefix seen : ℕ) (piece : List ℕ) → seen % 64 ≡ 0 → seen + long ≤ length piece → take long (drop (k * long) part) ≡ take long (drop seen piece)
    → HasTaken prefix piece seen k (get_or old place d) → HasTaken prefix piece (seen + long) k next)
    → (g : ℕ) → g < place + 1 → TakesPart begin (slice_set old place next) strip long g
part_taken begin old place long strip part d next within after before are takes g below k few prefix seen piece edge room same held group new =
    elim (cases_lt g place) [
      | inl less ↦
          before g less k few prefix seen piece edge room same held group (sym (other_group old place g next (λ e. absurd (omega arith))) ∙ new)
      | inr more ↦
          let here : g ≡ place = omega arith in
          let at : 8 * place * long + k * long ≡ (8 * g + k) * long = rw here (omega arith) in
          let own : slice_get begin g ≡ Some (get_or old place d) =
          ap (slice_get begin) here ∙ sym (after place (omega arith)) ∙ slice_get-get_or old place d within in
          let bound : k * long + long ≤ 8 * long = piece_within k 8 long (8 * long) few refl in
          rw (← same_group old place next group (rw here at new) within)
          (takes k few prefix seen piece edge room
          (part_of_part (8 * place * long) (k * long) long (8 * long) strip part are bound ∙ ap (λ (i : ℕ). take long (drop i strip)) at ∙ same)
          (held (get_or old place d) own))
    ]

-- the digests of a group's texts are written, once the last strip has come
abbrev pub EndsPart : List Group → List ℕ → ℕ → ℕ → ℕ → List ℕ → ℕ → Type 0
EndsPart groups strip long seen count out g =
    (k : ℕ) → k < 8 → 8 * g + k < count → (prefix : ℕ) (piece : List ℕ) → length piece ≡ seen + long
    → take long (drop ((8 * g + k) * long) strip) ≡ drop seen piece
    → ((group : Group) → slice_get groups g ≡ Some group → HasTaken prefix piece seen k group)
    → take 32 (drop ((8 * g + k) * 32) out) ≡ sha256 (prefix ∷ piece)

-- one group more has written its digests
pub part_ended : (groups : List Group) (place long seen count : ℕ) (strip part old new : List ℕ) (d : Group) (state : State) (lanes : ℕ) → place < length groups
    → ((g : ℕ) → g < place → EndsPart groups strip long seen count old g)
    → part ≡ take (8 * long) (drop (8 * place * long) strip)
    → ((k : ℕ) → k < 8 → (prefix : ℕ) (piece : List ℕ) → length piece ≡ seen + long → take long (drop (k * long) part) ≡ drop seen piece
    → HasTaken prefix piece seen k (get_or groups place d) → lane state k ≡ final_hash initial_hash_256 (prefix ∷ piece))
    → ((k : ℕ) → k < 8 → 8 * place + k < count → k < lanes)
    → ((j : ℕ) → j < 8 * place → take 32 (drop (j * 32) new) ≡ take 32 (drop (j * 32) old))
    → ((k : ℕ) → k < lanes → take 32 (drop ((8 * place + k) * 32) new) ≡ digest_bytes (lane state k) 8)
    → (g : ℕ) → g < place + 1 → EndsPart groups strip long seen count new g
unfolding sha256
part_ended groups place long seen count strip part old new d state lanes within before are ends used kept written g below k few inside prefix piece all same held =
    elim (cases_lt g place) [
      | inl less ↦
          kept (8 * g + k) (omega arith) ∙ before g less k few inside prefix piece all same held
      | inr more ↦
          let here : g ≡ place = omega arith in
          let at : 8 * place * long + k * long ≡ (8 * g + k) * long = rw here (omega arith) in
          let out : (8 * g + k) * 32 ≡ (8 * place + k) * 32 = omega arith in
          let own : slice_get groups g ≡ Some (get_or groups place d) = ap (slice_get groups) here ∙ slice_get-get_or groups place d within in
          let bound : k * long + long ≤ 8 * long = piece_within k 8 long (8 * long) few refl in
          ap (λ (i : ℕ). take 32 (drop i new)) out ∙ written k (used k few (omega arith))
          ∙ ap (λ (h : List ℕ). digest_bytes h 8)
          (ends k few prefix piece all
          (part_of_part (8 * place * long) (k * long) long (8 * long) strip part are bound ∙ ap (λ (i : ℕ). take long (drop i strip)) at ∙ same)
          (held (get_or groups place d) own))
    ]

-- of pieces of one length
module _ (prefix count size : ℕ) (Has : ℕ → List ℕ → Type 0) (sized : (k : ℕ) (piece : List ℕ) → Has k piece → length piece ≡ size) where
  -- all groups have taken a strip more
  pub strip_taken : (seen long next : ℕ) (old new : List Group) (strip : List ℕ) → seen % 64 ≡ 0 → next ≡ seen + long → next ≤ size → IsStrip Has count seen long strip
      → ((g : ℕ) → TakesPart old new strip long g) → HaveTaken prefix Has count seen old → HaveTaken prefix Has count next new
  strip_taken seen long next old new strip edge up within is takes held g k few below piece has group at =
      rw up
      (takes g k few prefix seen piece edge (omega (arith, sized (8 * g + k) piece has)) (is (8 * g + k) below piece has)
      (λ before here. held g k few below piece has before here) group at)

  -- all groups have taken the last strip
  pub strips_ended : (seen long room : ℕ) (groups : List Group) (strip part out : List ℕ) → seen + long ≡ size → IsStrip Has count seen long strip
      → part ≡ take room strip → count * long ≤ room → length out ≡ count * 32
      → ((g : ℕ) → EndsPart groups part long seen count out g) → HaveTaken prefix Has count seen groups → AreDigestsOf sha256 prefix Has count out
  strips_ended seen long room groups strip part out all is front enough wide ends held = record {
    long = wide;
    each = λ k l piece has.
        let at : 8 * (k / 8) + k % 8 ≡ k = omega arith in
        let last : length piece ≡ seen + long = sized k piece has ∙ sym all in
        let within : k * long + long ≤ room = omega (arith, piece_within k count long (count * long) l refl, enough) in
        let zeroth : 0 + k * long ≡ k * long = omega arith in
        let same : take long (drop (k * long) part) ≡ drop seen piece =
        rw (part_of_part 0 (k * long) long room strip part front within, zeroth, is k l piece has)
        (take_all long (drop seen piece) (omega (arith, length-drop seen piece))) in
        rw at at (ends (k / 8) (k % 8) (omega arith) (omega arith) prefix piece last (rw at same)
        (λ group here. held (k / 8) (k % 8) (omega arith) (omega arith) piece (rw at has) group here));
  }

-- strips of whole blocks are whole blocks
pub blocks_before : (turns width : ℕ) → width % 64 ≡ 0 → turns * width % 64 ≡ 0
blocks_before turns width whole =
    let e : width ≡ width / 64 * 64 = omega arith in
    let product : turns * width ≡ turns * (width / 64) * 64 = ap (λ (w : ℕ). turns * w) e ∙ omega arith in
    omega (arith, product)

-- of groups that have taken nothing
pub begun_groups : (prefix count : ℕ) (Has : ℕ → List ℕ → Type 0) (some : ℕ) (begin : Group) → ((k : ℕ) → k < 8 → (piece : List ℕ) → HasTaken prefix piece 0 k begin)
    → HaveTaken prefix Has count 0 (replicate some begin)
begun_groups prefix count Has some begin taken g k few below piece has group at =
    let within : g < some = omega (arith, slice_get_within (replicate some begin) g group at, length-replicate {A = Group} some begin) in
    let same : begin ≡ group = sym (get_or-replicate some g begin begin within) ∙ get_or_from_slice_get (replicate some begin) g group begin at in
    rw (← same) (taken k few piece)
