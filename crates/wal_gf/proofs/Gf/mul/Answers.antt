use Rattle.wal_gf.proofs.Common.{◌≡◌, ℕ, ◌+◌, ◌*◌, ◌%◌, ◌^◌, ◌<◌, ◌≤◌, bit_xor, bit_and, refl, sym, ap, ap₂, ◌∙◌, arith, rules, lit≤, add-one, mul_assoc, bit_at, one_shl, and_pow, xor_below, product, remainder, times}
use Rattle.wal_gf.proofs.Remainders.{word-left}
use Rattle.wal_gf.proofs.Gf.mul.Goals as goal

one_bit : (sum i a b : ℕ) → i < 16 → sum ≡ product i a b → bit_xor sum (bit_and a (1 * 2 ^ i % 4294967296) * b) ≡ product (i + 1) a b
unfolding product xor_below
one_bit sum i a b within before =
    ap₂ (λ (s t : ℕ). bit_xor s t) before
    (ap (λ (s : ℕ). bit_and a s * b) (one_shl i 32 (omega arith)) ∙ ap (λ (s : ℕ). s * b) (and_pow a i) ∙ mul_assoc (bit_at a i) (2 ^ i) b)
    ∙ sym (ap (λ (k : ℕ). xor_below k (λ j. bit_at a j * (2 ^ j * b))) (add-one i))

pub loop-i-init : goal.loop-i-init
unfolding product xor_below
loop-i-init c = refl

pub loop-i-preserved : goal.loop-i-preserved
loop-i-preserved c =
    one_bit c.loop-i.product c.loop-i.i c.from-left.result c.from-right.result c.loop-i-test.true c.loop-i.invariant

-- the degree is less by 4
abbrev Shorter : ℕ → ℕ → Type 0
Shorter p q = (n : ℕ) → 16 ≤ n → p < 2 ^ (n + 4) → q < 2 ^ n

four_times : (p q r s t : ℕ) → p < 2 ^ 32 → Shorter p q → Shorter q r → Shorter r s → Shorter s t → t < 65536
four_times p q r s t whole once twice third fourth =
    fourth 16 (lit≤ tt) (third 20 (lit≤ tt) (twice 24 (lit≤ tt) (once 28 (lit≤ tt) whole)))

pub overflow_cast-result : goal.overflow_cast-result
overflow_cast-result c =
    let word = four_times c.loop-i.product _ _ _ _ (search rules) c.fold.ensures.shorter c.fold-2.ensures.shorter c.fold-3.ensures.shorter c.fold-4.ensures.shorter in
    search rules

reduced : (word sum n a b a' b' : ℕ) → word < 65536 → remainder 16 word ≡ remainder 16 sum → sum ≡ product n a b → n ≡ 16 → a ≡ a' → b ≡ b' → word ≡ times a' b'
unfolding times
reduced word sum n a b a' b' low same is all same' same'' =
    sym (word-left word low) ∙ same ∙ ap (remainder 16) (is ∙ ap (λ (k : ℕ). product k a b) all ∙ ap₂ (λ (s t : ℕ). product 16 s t) same' same'')

pub returns : goal.returns
returns c =
    let word = four_times c.loop-i.product _ _ _ _ (search rules) c.fold.ensures.shorter c.fold-2.ensures.shorter c.fold-3.ensures.shorter c.fold-4.ensures.shorter in
    reduced c.fold-4.result c.loop-i.product c.loop-i.i c.from-left.result c.from-right.result c.args.self.0 c.args.o.0 word
    (c.fold-4.ensures.same_remainder ∙ c.fold-3.ensures.same_remainder ∙ c.fold-2.ensures.same_remainder ∙ c.fold.ensures.same_remainder)
    c.loop-i.invariant (omega arith) c.from-left.ensures c.from-right.ensures
