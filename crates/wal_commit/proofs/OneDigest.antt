-- Where no two texts collide, a root has one content, a path one leaf, and an identifier one metadata.
use Rattle.wal_commit.proofs.Common.{◌≡◌, ℕ, zero, suc, ◌+◌, ◌*◌, ◌/◌, ◌%◌, ◌<◌, ◌≤◌, List, [], ◌∷◌, ◌++◌, length, get_or, take, drop, All, refl, sym, ap, ap₂, subst, ◌∙◌, arith, ⊎_elim, inl, inr, take-append-drop, concat, mul-div_left, length-take-le, length-drop, get_or_past, length-leaves, Axis, Opening, shard_count, sliver_symbols, symbol_size, BlobMetadata, IsMetadata, metadata_text, symbol_size-least, metadata_text-injective, IsBytes-drop, IsBytes-take, empty_entry, leaf, leaves, node, pair_up, pieces, root_of, root_over, root_within, IsPathTo, beside, folded, height, parent, path_of, path_over, path_of-end, path_of-step, append_front, append_back, AreBytes, bytes_within, bytes_joined, HoldsSliver, HoldsOpening, head_text, held_pairs, identifier_of, identifier_tag, identifier_text, pair_root, length-pair_up-half}
use Rattle.std.proofs.lemmas.Bool.{cases_lt}
use Rattle.std.proofs.lemmas.List.Elements.{All-nil, All-cons, All-head, All-tail, All-from_get_or}
use Rattle.wal_tree.specs.Digests.{IsByte}
use Rattle.wal_tree.proofs.LevelPairs.{length-pieces}
use Rattle.wal_tree.proofs.Roots.{length-pair_up}
use Rattle.wal_matrix.proofs.RowLaws.{zeros_after}
use Rattle.wal_commit.proofs.Clashes.{identifier_is, same_faults, same_heads, same_roots}
use Rattle.wal_commit.proofs.Commitments.{metadata_text-parts, length-pairs}

-- ---- bytes

pub all_bytes : (xs : List ℕ) → AreBytes xs → All IsByte xs
all_bytes xs are = All-from_get_or IsByte xs 0 (λ i l. are i)

pub bytes_of_all : (xs : List ℕ) → All IsByte xs → AreBytes xs
bytes_of_all xs all i =
    ⊎_elim (λ inside. all i 0 inside) (λ past. let none = get_or_past xs i 0 past in omega arith) (cases_lt i (length xs))

pub bytes_behind : (xs ys : List ℕ) → AreBytes (xs ++ ys) → AreBytes ys
bytes_behind [] ys are = are
bytes_behind (x ∷ xs) ys are = bytes_behind xs ys (λ i. are (suc i))

pub bytes_before : (xs ys : List ℕ) → AreBytes (xs ++ ys) → AreBytes xs
bytes_before [] ys are i = omega arith
bytes_before (x ∷ xs) ys are zero = are zero
bytes_before (x ∷ xs) ys are (suc i) = bytes_before xs ys (λ j. are (suc j)) i

-- a byte in front of bytes makes bytes
pub byte_first : (x : ℕ) (xs : List ℕ) → x < 256 → AreBytes xs → AreBytes (x ∷ xs)
byte_first x xs small are zero = small
byte_first x xs small are (suc i) = are i

-- a digest, as 32 bytes
pub record Is32 (d : List ℕ) : Type 0 where
  pub size : length d ≡ 32
  pub bytes : AreBytes d

-- a digest has 32 bytes
pub record IsDigest (digest : List ℕ → List ℕ) : Type 0 where
  pub size : (text : List ℕ) → length (digest text) ≡ 32
  pub bytes : (text : List ℕ) → All IsByte text → All IsByte (digest text)

-- and no two texts of bytes have the same one
pub record IsOneToOne (digest : List ℕ → List ℕ) : Type 0 where
  pub digests : IsDigest digest
  pub one : (x y : List ℕ) → All IsByte x → All IsByte y → digest x ≡ digest y → x ≡ y

module _ (digest : List ℕ → List ℕ) (is : IsDigest digest) where
  -- a digest of bytes is 32 bytes
  pub is_32 : (text : List ℕ) → AreBytes text → Is32 (digest text)
  is_32 text are = record { size = is.size text; bytes = bytes_of_all (digest text) (is.bytes text (all_bytes text are)) }

  pub empty_32 : Is32 empty_entry
  empty_32 = record { size = refl; bytes = λ i. rw (zeros_after [] 32 i) (omega arith) }

  node_bytes : (a b : List ℕ) → Is32 a → Is32 b → AreBytes (1 ∷ (a ++ b))
  node_bytes a b is_a is_b = byte_first 1 (a ++ b) (omega arith) (bytes_joined a b is_a.bytes is_b.bytes)

  node_32 : (a b : List ℕ) → Is32 a → Is32 b → Is32 (node digest a b)
  node_32 a b is_a is_b = is_32 (1 ∷ (a ++ b)) (node_bytes a b is_a is_b)

  pub all_up : (xs : List (List ℕ)) → All Is32 xs → All Is32 (pair_up digest xs)
  all_up [] all = All-nil Is32
  all_up (a ∷ []) all = All-cons Is32 (node digest a empty_entry) [] (node_32 a empty_entry (All-head Is32 a [] all) empty_32) (All-nil Is32)
  all_up (a ∷ (b ∷ more)) all =
      let rest = All-tail Is32 a (b ∷ more) all in
      All-cons Is32 (node digest a b) (pair_up digest more) (node_32 a b (All-head Is32 a (b ∷ more) all) (All-head Is32 b more rest)) (all_up more (All-tail Is32 b more rest))

  root_32 : (levels : ℕ) (xs : List (List ℕ)) → All Is32 xs → Is32 (root_within digest levels xs)
  root_32 levels [] all = empty_32
  root_32 levels (a ∷ []) all = All-head Is32 a [] all
  root_32 zero (a ∷ (b ∷ more)) all = empty_32
  root_32 (suc levels) (a ∷ (b ∷ more)) all = root_32 levels (pair_up digest (a ∷ (b ∷ more))) (all_up (a ∷ (b ∷ more)) all)

  leaf_bytes : (x : List ℕ) → AreBytes x → AreBytes (0 ∷ x)
  leaf_bytes x are = byte_first 0 x (omega arith) are

  pub leaves_32 : (count s : ℕ) (xs : List ℕ) → AreBytes xs → All Is32 (leaves digest count s xs)
  leaves_32 zero s xs are = All-nil Is32
  leaves_32 (suc count) s xs are =
      All-cons Is32 (leaf digest (take s xs)) (leaves digest count s (drop s xs)) (is_32 (0 ∷ take s xs) (leaf_bytes (take s xs) (IsBytes-take s xs are)))
      (leaves_32 count s (drop s xs) (IsBytes-drop s xs are))

  -- the root over bytes is a digest
  pub root_over_32 : (s : ℕ) (xs : List ℕ) → AreBytes xs → Is32 (root_over digest s xs)
  unfolding root_of
  root_over_32 s xs are = root_32 (length (leaves digest (length xs / s) s xs)) (leaves digest (length xs / s) s xs) (leaves_32 (length xs / s) s xs are)

  pieces_32 : (count : ℕ) (xs : List ℕ) → length xs ≡ 32 * count → AreBytes xs → All Is32 (pieces count 32 xs)
  pieces_32 zero xs long are = All-nil Is32
  pieces_32 (suc count) xs long are =
      All-cons Is32 (take 32 xs) (pieces count 32 (drop 32 xs)) (record { size = length-take-le 32 xs (omega arith); bytes = IsBytes-take 32 xs are })
      (pieces_32 count (drop 32 xs) (omega (arith, length-drop 32 xs)) (IsBytes-drop 32 xs are))

  -- ---- what an identifier digests

  parts_bytes : (m : BlobMetadata) → AreBytes (metadata_text m) → AreBytes (head_text m.format m.f m.length ++ held_pairs m)
  parts_bytes m are = subst AreBytes (metadata_text-parts m) are

  pairs_bytes : (m : BlobMetadata) → AreBytes (metadata_text m) → AreBytes (held_pairs m)
  pairs_bytes m are = bytes_behind (head_text m.format m.f m.length) (held_pairs m) (parts_bytes m are)

  pub text_bytes : (m : BlobMetadata) → AreBytes (metadata_text m) → AreBytes (identifier_text digest m)
  text_bytes m are =
      byte_first (identifier_tag m.format) (head_text m.format m.f m.length ++ pair_root digest m)
      (grind arith)
      (bytes_joined (head_text m.format m.f m.length) (pair_root digest m) (bytes_before (head_text m.format m.f m.length) (held_pairs m) (parts_bytes m are))
      (root_over_32 64 (held_pairs m) (pairs_bytes m are)).bytes)

module _ (digest : List ℕ → List ℕ) (is : IsOneToOne digest) where
  same_text : (x y : List ℕ) → AreBytes x → AreBytes y → digest x ≡ digest y → x ≡ y
  same_text x y bytes_x bytes_y same = is.one x y (all_bytes x bytes_x) (all_bytes y bytes_y) same

  -- ---- trees

  -- a node has one pair of children
  one_node : (a b c d : List ℕ) → Is32 a → Is32 b → Is32 c → Is32 d → node digest a b ≡ node digest c d → (a ≡ c) × (b ≡ d)
  one_node a b c d is_a is_b is_c is_d same =
      let e = ap (drop 1) (same_text (1 ∷ (a ++ b)) (1 ∷ (c ++ d)) (node_bytes digest is.digests a b is_a is_b) (node_bytes digest is.digests c d is_c is_d) same) in
      (append_front a c b d (is_a.size ∙ sym is_c.size) e, append_back a c b d (is_a.size ∙ sym is_c.size) e)

  -- a level has one level below it
  one_below : (xs ys : List (List ℕ)) → length xs ≡ length ys → All Is32 xs → All Is32 ys → pair_up digest xs ≡ pair_up digest ys → xs ≡ ys
  one_below [] [] long all_x all_y same = refl
  one_below (a ∷ []) (c ∷ []) long all_x all_y same =
      let e = one_node a empty_entry c empty_entry (All-head Is32 a [] all_x) (empty_32 digest is.digests)
      (All-head Is32 c [] all_y) (empty_32 digest is.digests) (cc) in
      ap (λ (x : List ℕ). x ∷ []) e.0
  one_below (a ∷ (b ∷ xs)) (c ∷ (d ∷ ys)) long all_x all_y same =
      let rest_x = All-tail Is32 a (b ∷ xs) all_x in
      let rest_y = All-tail Is32 c (d ∷ ys) all_y in
      let e = one_node a b c d (All-head Is32 a (b ∷ xs) all_x) (All-head Is32 b xs rest_x)
      (All-head Is32 c (d ∷ ys) all_y) (All-head Is32 d ys rest_y) (cc) in
      let below = one_below xs ys (omega arith) (All-tail Is32 b xs rest_x) (All-tail Is32 d ys rest_y) (cc) in
      ap₂ ◌∷◌ e.0 (ap₂ ◌∷◌ e.1 below)
  one_below _ _ long all_x all_y same = absurd (omega arith)

  one_within : (levels : ℕ) (xs ys : List (List ℕ)) → length xs ≤ levels → length xs ≡ length ys → All Is32 xs → All Is32 ys
      → root_within digest levels xs ≡ root_within digest levels ys → xs ≡ ys
  one_within levels [] [] few long all_x all_y same = refl
  one_within levels (a ∷ []) (c ∷ []) few long all_x all_y same = ap (λ (x : List ℕ). x ∷ []) same
  one_within (suc levels) (a ∷ (b ∷ xs)) (c ∷ (d ∷ ys)) few long all_x all_y same =
      let here = a ∷ (b ∷ xs) in
      let there = c ∷ (d ∷ ys) in
      one_below here there long all_x all_y
      (one_within levels (pair_up digest here) (pair_up digest there) (omega (arith, length-pair_up digest xs)) (omega (arith, length-pair_up-half digest here, length-pair_up-half digest there)) (all_up digest is.digests here all_x) (all_up digest is.digests there all_y) same)
  one_within _ _ _ few long all_x all_y same = absurd (omega arith)

  same_leaf : (x y : List ℕ) → AreBytes x → AreBytes y → leaf digest x ≡ leaf digest y → x ≡ y
  same_leaf x y bytes_x bytes_y same = ap (drop 1) (same_text (0 ∷ x) (0 ∷ y) (leaf_bytes digest is.digests x bytes_x) (leaf_bytes digest is.digests y bytes_y) same)

  one_content : (count s : ℕ) (x y : List ℕ) → length x ≡ count * s → length y ≡ count * s → AreBytes x → AreBytes y
      → leaves digest count s x ≡ leaves digest count s y → x ≡ y
  one_content zero s [] [] long_x long_y bytes_x bytes_y same = refl
  one_content (suc count) s x y long_x long_y bytes_x bytes_y same =
      let first = same_leaf (take s x) (take s y) (IsBytes-take s x bytes_x) (IsBytes-take s y bytes_y) (cc) in
      let next : suc count * s ≡ s + count * s = omega arith in
      let rest = one_content count s (drop s x) (drop s y) (omega (arith, length-drop s x, next)) (omega (arith, length-drop s y, next)) (IsBytes-drop s x bytes_x) (IsBytes-drop s y bytes_y)
      (cc) in
      sym (take-append-drop s x) ∙ ap₂ ◌++◌ first rest ∙ take-append-drop s y
  one_content zero s _ _ long_x long_y bytes_x bytes_y same = absurd (omega arith)

  -- a root has one content of n pieces
  pub one_root : (n s : ℕ) (x y : List ℕ) → 0 < s → length x ≡ n * s → length y ≡ n * s → AreBytes x → AreBytes y → root_over digest s x ≡ root_over digest s y → x ≡ y
  unfolding root_of
  one_root n s x y some long_x long_y bytes_x bytes_y same =
      let count : (xs : List ℕ) → length xs ≡ n * s → length xs / s ≡ n = λ xs long. ap (λ (k : ℕ). k / s) long ∙ mul-div_left n some in
      let root : ℕ → List ℕ → List ℕ = λ k xs. root_of digest (leaves digest k s xs) in
      let roots : root n x ≡ root n y = ap (λ (k : ℕ). root k x) (sym (count x long_x)) ∙ same ∙ ap (λ (k : ℕ). root k y) (count y long_y) in
      let levels : length (leaves digest n s y) ≡ length (leaves digest n s x) = length-leaves digest n s y ∙ sym (length-leaves digest n s x) in
      one_content n s x y long_x long_y bytes_x bytes_y
      (one_within (length (leaves digest n s x)) (leaves digest n s x) (leaves digest n s y) (omega arith) (sym levels)
      (leaves_32 digest is.digests n s x bytes_x) (leaves_32 digest is.digests n s y bytes_y)
      (roots ∙ ap (λ (k : ℕ). root_within digest k (leaves digest n s y)) levels))

  -- ---- paths

  parent_cases : (P : List ℕ → Type 0) (place : ℕ) (e s : List ℕ) → P (node digest e s) → P (node digest s e) → P (parent digest place e s)
  parent_cases P place e s left right = elim (cases_lt (place % 2) 1) [
    | inl low ↦ let even : place % 2 ≡ 0 = omega arith in rw even left
    | inr high ↦ let odd : place % 2 ≡ 1 = omega arith in rw odd right
  ]

  one_parent : (place : ℕ) (e f s t : List ℕ) → Is32 e → Is32 f → Is32 s → Is32 t → parent digest place e s ≡ parent digest place f t → e ≡ f
  one_parent place e f s t is_e is_f is_s is_t = elim (cases_lt (place % 2) 1) [
    | inl low ↦ let even : place % 2 ≡ 0 = omega arith in rw even (λ same. (one_node e s f t is_e is_s is_f is_t same).0)
    | inr high ↦ let odd : place % 2 ≡ 1 = omega arith in rw odd (λ same. (one_node s e t f is_s is_e is_t is_f same).1)
  ]

  one_way : (place : ℕ) (e f : List ℕ) (ps qs : List (List ℕ)) → length ps ≡ length qs → Is32 e → Is32 f → All Is32 ps → All Is32 qs
      → folded digest place e ps ≡ folded digest place f qs → e ≡ f
  one_way place e f [] [] long is_e is_f all_a all_b same = same
  one_way place e f (s ∷ ps) (t ∷ qs) long is_e is_f all_a all_b same =
      let is_s = All-head Is32 s ps all_a in
      let is_t = All-head Is32 t qs all_b in
      one_parent place e f s t is_e is_f is_s is_t
      (one_way (place / 2) (parent digest place e s) (parent digest place f t) ps qs (omega arith)
      (parent_cases Is32 place e s (node_32 digest is.digests e s is_e is_s) (node_32 digest is.digests s e is_s is_e)) (parent_cases Is32 place f t (node_32 digest is.digests f t is_f is_t) (node_32 digest is.digests t f is_t is_f))
      (All-tail Is32 s ps all_a) (All-tail Is32 t qs all_b) same)
  one_way _ _ _ _ _ long is_e is_f all_a all_b same = absurd (omega arith)

  -- a root has one leaf at a place
  pub one_leaf : (root : List ℕ) (count place : ℕ) (x p y q : List ℕ) → IsPathTo digest root count place x p → IsPathTo digest root count place y q
      → AreBytes x → AreBytes p → AreBytes y → AreBytes q → x ≡ y
  one_leaf root count place x p y q left right bytes_x bytes_p bytes_y bytes_q =
      same_leaf x y bytes_x bytes_y
      (one_way place (leaf digest x) (leaf digest y) (pieces (height count) 32 p) (pieces (height count) 32 q)
      (length-pieces (height count) 32 p ∙ sym (length-pieces (height count) 32 q))
      (is_32 digest is.digests (0 ∷ x) (leaf_bytes digest is.digests x bytes_x)) (is_32 digest is.digests (0 ∷ y) (leaf_bytes digest is.digests y bytes_y))
      (pieces_32 digest is.digests (height count) p left.long bytes_p) (pieces_32 digest is.digests (height count) q right.long bytes_q) (left.leads ∙ sym right.leads))

  -- ---- what a metadata commits

  -- an identifier has one metadata
  pub one_metadata : (a b : BlobMetadata) → IsMetadata a → IsMetadata b → AreBytes (metadata_text a) → AreBytes (metadata_text b)
      → identifier_of digest a ≡ identifier_of digest b → a ≡ b
  one_metadata a b is_a is_b bytes_a bytes_b same =
      let e = same_text (identifier_text digest a) (identifier_text digest b) (text_bytes digest is.digests a bytes_a) (text_bytes digest is.digests b bytes_b)
      (sym (identifier_is digest a) ∙ same ∙ identifier_is digest b) in
      let faults = same_faults digest a b is_a is_b e in
      let pairs = one_root (shard_count a.f) 64 (held_pairs a) (held_pairs b) (omega arith) (omega (arith, length-pairs a is_a)) (omega (arith, length-pairs b is_b, faults))
      (pairs_bytes digest is.digests a bytes_a) (pairs_bytes digest is.digests b bytes_b) (same_roots digest a b e) in
      metadata_text-injective a b is_a is_b (metadata_text-parts a ∙ ap₂ ◌++◌ (same_heads digest a b e) pairs ∙ sym (metadata_text-parts b))

  -- one sliver of each axis and index
  pub one_sliver : (m : BlobMetadata) (axis : Axis) (index : ℕ) (a b : List ℕ) → HoldsSliver digest m axis index a → HoldsSliver digest m axis index b → a ≡ b
  one_sliver m axis index a b held other =
      let s = symbol_size m.f m.length in
      let least = symbol_size-least m.f m.length in
      let root : root_over digest s held.word ≡ root_over digest s other.word = cc (held.root, other.root) in
      let same = one_root (shard_count m.f) s held.word other.word (omega arith) held.is_word.coded.size other.is_word.coded.size
      (bytes_within held.word held.is_word.coded.fits) (bytes_within other.word other.is_word.coded.fits) root in
      sym held.is_word.begins ∙ ap (take (sliver_symbols axis m.f * s)) same ∙ other.is_word.begins

  -- and one symbol of it for each cross
  pub one_symbol : (m : BlobMetadata) (axis : Axis) (index : ℕ) (o p : Opening) → o.cross ≡ p.cross → HoldsOpening digest m axis index o → HoldsOpening digest m axis index p
      → AreBytes o.symbol → AreBytes o.path → AreBytes p.symbol → AreBytes p.path → o.symbol ≡ p.symbol
  one_symbol m axis index o p cross held other symbol_o path_o symbol_p path_p =
      let root : held.root ≡ other.root = cc (held.committed, other.committed, cross) in
      one_leaf other.root (shard_count m.f) index o.symbol o.path p.symbol p.path
      (subst (λ (r : List ℕ). IsPathTo digest r (shard_count m.f) index o.symbol o.path) root held.leads) other.leads symbol_o path_o symbol_p path_p

module _ (digest : List ℕ → List ℕ) (is : IsDigest digest) where
  -- ---- paths

  entry_32 : (entries : List (List ℕ)) (k : ℕ) → All Is32 entries → Is32 (get_or entries k empty_entry)
  entry_32 entries k all =
      ⊎_elim (λ within. all k empty_entry within) (λ past. subst Is32 (sym (get_or_past entries k empty_entry past)) (empty_32 digest is)) (cases_lt k (length entries))

  path_within_32 : (n place : ℕ) (entries : List (List ℕ)) → length entries ≤ n → All Is32 entries → All Is32 (path_of digest entries place)
  path_within_32 (suc n) place (a ∷ (b ∷ more)) few all =
      let up = pair_up digest (a ∷ (b ∷ more)) in
      rw (path_of-step digest (a ∷ (b ∷ more)) place (omega arith))
      (All-cons Is32 (get_or (a ∷ (b ∷ more)) (beside place) empty_entry) (path_of digest up (place / 2))
      (entry_32 (a ∷ (b ∷ more)) (beside place) all)
      (path_within_32 n (place / 2) up (omega (arith, length-pair_up digest more)) (all_up digest is (a ∷ (b ∷ more)) all)))
  path_within_32 zero place (a ∷ (b ∷ more)) few all = absurd (omega arith)
  path_within_32 n place xs few all = rw (path_of-end digest xs place (omega arith)) (All-nil Is32)

  joined_bytes : (xs : List (List ℕ)) → All Is32 xs → AreBytes (concat xs)
  joined_bytes [] all = λ i. omega arith
  joined_bytes (x ∷ xs) all = bytes_joined x (concat xs) (All-head Is32 x xs all).bytes (joined_bytes xs (All-tail Is32 x xs all))

  pub path_bytes : (s : ℕ) (word : List ℕ) (place : ℕ) → AreBytes word → AreBytes (path_over digest s word place)
  path_bytes s word place are =
      let entries = leaves digest (length word / s) s word in
      joined_bytes (path_of digest entries place) (path_within_32 (length entries) place entries (omega arith) (leaves_32 digest is (length word / s) s word are))
