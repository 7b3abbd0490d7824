use Rattle.wal_gf.proofs.Common.{◌≡◌, ℕ, suc, ◌+◌, ◌/◌, ◌%◌, ◌<◌, ◌≤◌, ap, ap₂, ◌∙◌, arith, rules, lit<, times, power, Gf}
use Rattle.wal_gf.proofs.Products.{times-lt, times-one, one-times, times_assoc}
use Rattle.wal_gf.proofs.Powers.{power-zero, power-suc, power-lt, power-square}
use Rattle.wal_gf.proofs.Gf.pow.Goals as goal
use Rattle.wal_gf.proofs.Gf.pow.Goals.{then-rest-eq1, else-rest-eq1}

even_turn : (r s n whole : ℕ) → s < 65536 → n % 2 ≡ 0 → times r (power s n) ≡ whole → times r (power (times s s) (n / 2)) ≡ whole
even_turn r s n whole low even before = let halves : n / 2 + n / 2 ≡ n = omega arith in cc (power-square s (n / 2) low)

odd_turn : (r s n whole : ℕ) → s < 65536 → n % 2 ≡ 1 → times r (power s n) ≡ whole → times (times r s) (power (times s s) (n / 2)) ≡ whole
odd_turn r s n whole low odd before =
    let halves : suc (n / 2 + n / 2) ≡ n = omega arith in
    let half = power s (n / 2 + n / 2) in
    cc (power-square s (n / 2) low, times_assoc r s half low (power-lt s (n / 2 + n / 2)), power-suc s (n / 2 + n / 2))

pub loop-rest-init : goal.loop-rest-init
loop-rest-init c = record {
  word = lit< tt;
  square_word = search rules;
  together = one-times (power c.args.self.0 c.args.e) (power-lt c.args.self.0 c.args.e);
}

pub loop-rest-preserved : goal.loop-rest-preserved
loop-rest-preserved c = record {
  word = elim c.if-rest-eq1.branch [
    | then-rest-eq1 w ↦
        let is = ap (λ (g : Gf). g.0) w.result-is ∙ w.mul-result.ensures in
        omega (arith, is, times-lt c.loop-rest.result.0 c.loop-rest.square.0 c.loop-rest.invariant.square_word)
    | else-rest-eq1 w ↦
        let is = ap (λ (g : Gf). g.0) w.result-is in
        omega (arith, is, c.loop-rest.invariant.word)
  ];
  square_word = search rules;
  together = elim c.if-rest-eq1.branch [
    | then-rest-eq1 w ↦
        ap₂ (λ (s t : ℕ). times s (power t (c.loop-rest.rest / 2))) (ap (λ (g : Gf). g.0) w.result-is ∙ w.mul-result.ensures) c.mul-square.ensures
        ∙ odd_turn c.loop-rest.result.0 c.loop-rest.square.0 c.loop-rest.rest _ c.loop-rest.invariant.square_word w.if-rest-eq1.true c.loop-rest.invariant.together
    | else-rest-eq1 w ↦
        let even : c.loop-rest.rest % 2 ≡ 0 = omega arith in
        ap₂ (λ (s t : ℕ). times s (power t (c.loop-rest.rest / 2))) (ap (λ (g : Gf). g.0) w.result-is) c.mul-square.ensures
        ∙ even_turn c.loop-rest.result.0 c.loop-rest.square.0 c.loop-rest.rest _ c.loop-rest.invariant.square_word even c.loop-rest.invariant.together
  ];
}

finished : (r s n whole : ℕ) → r < 65536 → n ≤ 0 → times r (power s n) ≡ whole → r ≡ whole
finished r s n whole low done before = let none : n ≡ 0 = omega arith in cc (times-one r low, power-zero s)

pub returns : goal.returns
returns c = finished c.loop-rest.result.0 c.loop-rest.square.0 c.loop-rest.rest _ c.loop-rest.invariant.word c.loop-rest-test.false c.loop-rest.invariant.together
