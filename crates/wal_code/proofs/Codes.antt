-- Codewords: when two are the same, how sums of coefficients make them, and tables of them in both directions.
use Rattle.wal_code.proofs.Common.{◌≡◌, ◌∙◌, sym, ap, ℕ, zero, suc, ◌<◌, ◌≤◌, List, [], ◌∷◌, length, get_or, slice_index_or, map, arith, AllByRecursion, range_with_len, length-map, get_or_default_zero, recursion_from_All, All-from_recursion, IsWord, evaluate, value, IsPolynomial, polynomial_unique, Element, words, element_of, elements_of, numbers_of, numbers_of-words, element_of-word, element-path, value-evaluate, Distinct, PassesThrough, IsCodeword, combination}
use Rattle.std.proofs.lemmas.List.FromFn.{length-range_with_len, get_or-range_with_len, get_or-map-range_with_len, length-map-range_with_len}
use Rattle.wal_gf.proofs.Roots as roots
use Rattle.wal_gf.proofs.TwoWays as tables
use Rattle.wal_code.proofs.Evaluation.{combination-same, evaluate-number, evaluate-lt, solution}
use Rattle.wal_code.proofs.Points.{words_of}

-- ---- small laws

pub IsCodeword-same : (k n : ℕ) (c d : ℕ → ℕ) → ((i : ℕ) → i < n → d i ≡ c i) → IsCodeword k n c → IsCodeword k n d
IsCodeword-same k n c d e h =
    record { coefficients = h.coefficients; few = h.few; words = h.words; values = λ i l. e i l ∙ h.values i l }

-- the places of a codeword are words
pub codeword-word : (k n : ℕ) (c : ℕ → ℕ) → n ≤ 65536 → IsCodeword k n c → (i : ℕ) → i < n → c i < 65536
codeword-word k n c m h i l = rw (h.values i l) (evaluate-lt h.coefficients i h.words (omega arith))

-- ---- codewords as polynomials over the field of words

-- a function of words as one of elements
abbrev pub function : (ℕ → ℕ) → Element → Element
function c x = element_of (c x.0)

pub to_polynomial : (k n : ℕ) (c : ℕ → ℕ) → n ≤ 65536 → IsCodeword k n c →
    IsPolynomial words k (λ x. x.0 < n) (function c)
to_polynomial k n c m h = (
  elements_of h.coefficients,
  omega (arith, length-map h.coefficients element_of, h.few),
  λ x l.
      element-path _ _
      (evaluate-number h.coefficients x (recursion_from_All IsWord h.coefficients h.words) ∙ sym (h.values x.0 l) ∙
      sym (element_of-word (c x.0) (codeword-word k n c m h x.0 l))),
)

pub of_polynomial : (k n : ℕ) (c : ℕ → ℕ) (P : Element → Type 0) → n ≤ 65536 → ((x : Element) → x.0 < n → P x) →
    ((i : ℕ) → i < n → c i < 65536) → IsPolynomial words k P (function c) → IsCodeword k n c
of_polynomial k n c P m inside w p =
    record {
      coefficients = numbers_of p.0;
      few = omega (arith, length-map p.0 (λ (x : Element). x.0), p.1);
      words = All-from_recursion IsWord (numbers_of p.0) (numbers_of-words p.0);
      values = λ i l.
          let x : Element = (i, omega arith) in
          sym (element_of-word (c i) (w i l)) ∙ ap (λ (y : Element). y.0) (sym (p.2 x (inside x l))) ∙
          value-evaluate p.0 x;
    }

-- what holds of each known point holds of each of its elements
all_elements : (P : Element → Type 0) (known : List ℕ) → AllByRecursion IsWord known →
    ((i : ℕ) → i < length known → (x : Element) → x.0 ≡ get_or known i 0 → P x) → AllByRecursion P (elements_of known)
all_elements P [] ws h = tt
all_elements P (q ∷ known) ws h = (
  h zero (omega arith) (element_of q) (element_of-word q ws.0),
  all_elements P known ws.1 (λ i l. h (suc i) (omega arith)),
)

-- Two codewords that agree at as many distinct points as they have coefficients agree everywhere.
pub codeword_unique : (n : ℕ) (known : List ℕ) (c d : ℕ → ℕ) → n ≤ 65536 → Distinct known →
    ((i : ℕ) → i < length known → get_or known i 0 < n) →
    IsCodeword (length known) n c → IsCodeword (length known) n d →
    ((i : ℕ) → i < length known → c (get_or known i 0) ≡ d (get_or known i 0)) →
    (i : ℕ) → i < n → c i ≡ d i
codeword_unique n known c d m far below hc hd e i l =
    let ws : AllByRecursion IsWord known = words_of known (λ j o. omega (arith, below j o)) in
    let path = polynomial_unique words (λ x. x.0 < n) (elements_of known) (function c) (function d)
    (roots.apart known ws far)
    (all_elements (λ x. x.0 < n) known ws (λ j o x p. rw p (below j o)))
    (rw (length-map known element_of) (to_polynomial (length known) n c m hc))
    (rw (length-map known element_of) (to_polynomial (length known) n d m hd))
    (all_elements (λ x. function c x ≡ function d x) known ws (λ j o x p. rw p (ap element_of (e j o))))
    (i, omega arith) l in
    sym (element_of-word (c i) (codeword-word (length known) n c m hc i l)) ∙ ap (λ (x : Element). x.0) path ∙
    element_of-word (d i) (codeword-word (length known) n d m hd i l)

-- ---- the first places

-- points that are their own places are distinct
pub own_places : (known : List ℕ) → ((i : ℕ) → i < length known → get_or known i 0 ≡ i) → Distinct known
own_places known h i j d l m e =
    let at : (p : ℕ) → p < length known → slice_index_or known p d ≡ p = λ p o. get_or_default_zero known p d o ∙ h p o in
    let same : i ≡ j = sym (at i (omega arith)) ∙ e ∙ at j m in
    omega arith

-- the first places, as a list of points
first_places : (k : ℕ) → (places : List ℕ) × (length places ≡ k) × ((i : ℕ) → i < length places → get_or places i 0 ≡ i)
first_places k =
    let size = length-range_with_len 0 k in (
      range_with_len 0 k,
      size,
      λ i l. omega (arith, get_or-range_with_len 0 k i 0 (let b : i < k = omega arith in b)),
    )

pub codeword_unique_first : (k n : ℕ) (c d : ℕ → ℕ) → k ≤ n → n ≤ 65536 → IsCodeword k n c → IsCodeword k n d →
    ((i : ℕ) → i < k → c i ≡ d i) → (i : ℕ) → i < n → c i ≡ d i
codeword_unique_first k n c d le m hc hd e i l =
    let f = first_places k in
    codeword_unique n f.0 c d m (own_places f.0 f.2) (λ j o. omega (arith, f.2 j o)) (rw f.1 hc) (rw f.1 hd)
    (λ j o. rw (f.2 j o) (e j (omega arith))) i l

-- ---- sums of coefficients make codewords

-- the values of a function at the places
abbrev pub listed : ℕ → (ℕ → ℕ) → List ℕ
listed k value = map value (range_with_len 0 k)

listed-at : (k : ℕ) (value : ℕ → ℕ) (i : ℕ) → i < k → get_or (listed k value) i 0 ≡ value i
listed-at k value i l = get_or-map-range_with_len value 0 k i i 0 l (omega arith)

of_values : (known : List ℕ) (value : ℕ → ℕ) → Distinct known →
    ((i : ℕ) → i < length known → get_or known i 0 < 65536) → ((i : ℕ) → i < length known → value i < 65536) →
    (cs : List ℕ) × PassesThrough known (listed (length known) value) cs ×
    ((w : ℕ) → w < 65536 → combination known value w ≡ evaluate cs w)
of_values known value d h v =
    let values : List ℕ = listed (length known) value in
    let size = length-map-range_with_len value 0 (length known) in
    let found = solution known values d (words_of known h)
    (words_of values (λ i l. rw (listed-at (length known) value i (omega arith)) (v i (omega arith)))) size in (
      found.0,
      found.1,
      λ w m.
          combination-same known w value (λ i. get_or values i 0) (λ i l. sym (listed-at (length known) value i l)) ∙
          sym (found.2 w m),
    )

-- As a function of the wanted point, the combination of any values is a codeword.
pub combination-codeword : (n : ℕ) (known : List ℕ) (value : ℕ → ℕ) → n ≤ 65536 → Distinct known →
    ((i : ℕ) → i < length known → get_or known i 0 < 65536) → ((i : ℕ) → i < length known → value i < 65536) →
    IsCodeword (length known) n (combination known value)
combination-codeword n known value m d h v =
    let found = of_values known value d h v in
    record { coefficients = found.0; few = found.1.few; words = found.1.words; values = λ w l. found.2 w (omega arith) }

-- at a known point the combination has the value there
pub combination-known : (known : List ℕ) (value : ℕ → ℕ) → Distinct known →
    ((i : ℕ) → i < length known → get_or known i 0 < 65536) → ((i : ℕ) → i < length known → value i < 65536) →
    (i : ℕ) → i < length known → combination known value (get_or known i 0) ≡ value i
combination-known known value d h v i l =
    let found = of_values known value d h v in
    found.2 (get_or known i 0) (h i l) ∙ found.1.there i l ∙ listed-at (length known) value i l

-- ---- tables that are codewords along their rows and their columns

-- Where the known rows are codewords of dimension k, and each column is one of as many dimensions as there are known rows,
-- every row is a codeword of dimension k.
pub every_row : (k n m : ℕ) (known : List ℕ) (t : ℕ → ℕ → ℕ) → Distinct known →
    ((i : ℕ) → i < length known → get_or known i 0 < n) → n ≤ 65536 → m ≤ 65536 →
    ((i : ℕ) → i < length known → IsCodeword k m (λ c. t (get_or known i 0) c)) →
    ((c : ℕ) → c < m → IsCodeword (length known) n (λ r. t r c)) →
    (r : ℕ) → r < n → IsCodeword k m (λ c. t r c)
every_row k n m known t d below far wide hr hc r l =
    let ws : AllByRecursion IsWord known = words_of known (λ j o. omega (arith, below j o)) in
    let table : Element → Element → Element = λ a b. element_of (t a.0 b.0) in
    of_polynomial k m (λ c. t r c) (λ x. x.0 < m) wide (λ x o. o)
    (λ c o. codeword-word (length known) n (λ q. t q c) far (hc c o) r l)
    (tables.every_row words k (λ x. x.0 < n) (λ x. x.0 < m) (elements_of known) table (roots.apart known ws d)
    (all_elements (λ x. x.0 < n) known ws (λ j o x p. rw p (below j o)))
    (all_elements (λ x. IsPolynomial words k (λ y. y.0 < m) (table x)) known ws
    (λ j o x p. rw p (to_polynomial k m (λ c. t (get_or known j 0) c) wide (hr j o))))
    (λ x p. rw (length-map known element_of) (to_polynomial (length known) n (λ q. t q x.0) far (hc x.0 p)))
    (r, omega arith) l)

-- The same where the first rows are known.
pub every_row_first : (k rows n m : ℕ) (t : ℕ → ℕ → ℕ) → rows ≤ n → n ≤ 65536 → m ≤ 65536 →
    ((r : ℕ) → r < rows → IsCodeword k m (λ c. t r c)) → ((c : ℕ) → c < m → IsCodeword rows n (λ r. t r c)) →
    (r : ℕ) → r < n → IsCodeword k m (λ c. t r c)
every_row_first k rows n m t le far wide hr hc r l =
    let f = first_places rows in
    every_row k n m f.0 t (own_places f.0 f.2) (λ j o. omega (arith, f.2 j o)) far wide
    (λ j o. rw (f.2 j o) (hr j (omega arith))) (λ c o. rw f.1 (hc c o)) r l

-- Two tables of codewords in both directions that agree where a known row meets a first column agree everywhere.
pub table_unique : (cols n m : ℕ) (known : List ℕ) (s t : ℕ → ℕ → ℕ) → Distinct known →
    ((i : ℕ) → i < length known → get_or known i 0 < n) → cols ≤ m → n ≤ 65536 → m ≤ 65536 →
    ((i : ℕ) → i < length known → IsCodeword cols m (λ c. s (get_or known i 0) c)) →
    ((i : ℕ) → i < length known → IsCodeword cols m (λ c. t (get_or known i 0) c)) →
    ((c : ℕ) → c < m → IsCodeword (length known) n (λ r. s r c)) → ((c : ℕ) → c < m → IsCodeword (length known) n (λ r. t r c)) →
    ((i c : ℕ) → i < length known → c < cols → s (get_or known i 0) c ≡ t (get_or known i 0) c) →
    (r c : ℕ) → r < n → c < m → s r c ≡ t r c
table_unique cols n m known s t d below le far wide sr tr sc tc e r c l o =
    codeword_unique n known (λ q. s q c) (λ q. t q c) far d below (sc c o) (tc c o)
    (λ i p.
    codeword_unique_first cols m (λ b. s (get_or known i 0) b) (λ b. t (get_or known i 0) b) le wide (sr i p) (tr i p)
    (λ b q. e i b p q) c o)
    r l

-- The same where the first rows are known.
pub table_unique_first : (rows cols n m : ℕ) (s t : ℕ → ℕ → ℕ) → rows ≤ n → cols ≤ m → n ≤ 65536 → m ≤ 65536 →
    ((r : ℕ) → r < rows → IsCodeword cols m (λ c. s r c)) → ((r : ℕ) → r < rows → IsCodeword cols m (λ c. t r c)) →
    ((c : ℕ) → c < m → IsCodeword rows n (λ r. s r c)) → ((c : ℕ) → c < m → IsCodeword rows n (λ r. t r c)) →
    ((r c : ℕ) → r < rows → c < cols → s r c ≡ t r c) →
    (r c : ℕ) → r < n → c < m → s r c ≡ t r c
table_unique_first rows cols n m s t le narrow far wide sr tr sc tc e r c l o =
    codeword_unique_first rows n (λ q. s q c) (λ q. t q c) le far (sc c o) (tc c o)
    (λ q p. codeword_unique_first cols m (λ b. s q b) (λ b. t q b) narrow wide (sr q p) (tr q p) (λ b i. e q b p i) c o)
    r l
