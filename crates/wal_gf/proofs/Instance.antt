-- The words below 65536 are a field, so what holds over a field holds of `times`, `inverse` and `evaluate`.
use Rattle.wal_gf.proofs.Common.{◌≡◌, ap, ap₂, ℕ, ◌<◌, ◌%◌, List, [], ◌∷◌, map, refl, arith, lit<, eqb, bit_xor, eq-eqb, eqb-true, mod-eq_of_lt, AllByRecursion, xor_assoc, xor_self, xor_zero_r, xor_comm, xor_lt, times, inverse, evaluate}
use Rattle.std.proofs.Math.Bridge.{le_prop}
use mathlib.Core.HLevel.{Σ_prop_path}
use Rattle.wal_gf.proofs.Algebra.{Field}
use Rattle.wal_gf.proofs.Polynomials.{value}
use Rattle.wal_gf.proofs.Products.{times-lt, times_comm, times_assoc, times-one, times-xor_right}
use Rattle.wal_gf.proofs.Inverses.{times-inverse, inverse-lt}

-- a number below 65536
abbrev pub Element : Type 0
Element = (n : ℕ) × (n < 65536)

pub element-path : (a b : Element) → a.0 ≡ b.0 → a ≡ b
element-path a b e = Σ_prop_path (λ n. le_prop) e

pub xor-lt : (a b : ℕ) → a < 65536 → b < 65536 → bit_xor a b < 65536
xor-lt a b h l = xor_lt 16 a b h l

-- the field of words
unfoldable pub words : Field Element
words = record {
  nothing = (0, lit< tt);
  unit = (1, lit< tt);
  plus = λ a b. (bit_xor a.0 b.0, xor-lt a.0 b.0 a.1 b.1);
  times = λ a b. (times a.0 b.0, times-lt a.0 b.0 b.1);
  inverse = λ a. (inverse a.0, inverse-lt a.0);
  same = λ a b. eqb a.0 b.0;
  plus_assoc = λ a b c. element-path _ _ (xor_assoc a.0 b.0 c.0);
  plus_comm = λ a b. element-path _ _ (xor_comm a.0 b.0);
  plus-nothing = λ a. element-path _ _ (xor_zero_r a.0);
  plus-self = λ a. element-path _ _ (xor_self a.0);
  times_assoc = λ a b c. element-path _ _ (times_assoc a.0 b.0 c.0 b.1 c.1);
  times_comm = λ a b. element-path _ _ (times_comm a.0 b.0 a.1 b.1);
  times-unit = λ a. element-path _ _ (times-one a.0 a.1);
  times-plus = λ a b c. element-path _ _ (times-xor_right a.0 b.0 c.0);
  times-inverse = λ a h. element-path _ _ (times-inverse a.0 a.1 (λ z. h (element-path _ _ z)));
  same-to = λ a b e. element-path a b (eqb-true a.0 b.0 e);
  same-from = λ a b e. eq-eqb a.0 b.0 (ap (λ (x : Element). x.0) e);
}

-- the element of a number, which is the number itself below 65536
abbrev pub element_of : ℕ → Element
element_of n = (n % 65536, let h : 0 < 65536 = lit< tt in let l : n % 65536 < 65536 = omega arith in l)

pub element_of-word : (n : ℕ) → n < 65536 → (element_of n).0 ≡ n
element_of-word n h = mod-eq_of_lt h

-- the numbers of a list of elements, and the elements of a list of numbers
abbrev pub numbers_of : List Element → List ℕ
numbers_of es = map (λ (e : Element). e.0) es

abbrev pub elements_of : List ℕ → List Element
elements_of ns = map element_of ns

pub numbers_of-elements : (ns : List ℕ) → AllByRecursion (λ n. n < 65536) ns → numbers_of (elements_of ns) ≡ ns
numbers_of-elements [] h = refl
numbers_of-elements (n ∷ ns) h = ap₂ (λ (m : ℕ) (ms : List ℕ). m ∷ ms) (element_of-word n h.0) (numbers_of-elements ns h.1)

pub numbers_of-words : (es : List Element) → AllByRecursion (λ n. n < 65536) (numbers_of es)
numbers_of-words [] = tt
numbers_of-words (e ∷ es) = (e.1, numbers_of-words es)

-- the value of a polynomial over the field of words is what `evaluate` gives
pub value-evaluate : (es : List Element) (x : Element) → (value words es x).0 ≡ evaluate (numbers_of es) x.0
unfolding value evaluate words
value-evaluate [] x = refl
value-evaluate (e ∷ es) x = ap (λ (s : ℕ). bit_xor e.0 (times x.0 s)) (value-evaluate es x)
