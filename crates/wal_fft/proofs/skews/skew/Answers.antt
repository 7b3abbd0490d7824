use Rattle.wal_fft.proofs.Common.{◌≡◌, ℕ, ◌*◌, bit_xor, refl, sym, ap, ap₂, ◌∙◌, arith, lit<, bit_at, xor_lt, xor_below, entry, skew}
use Rattle.wal_code.proofs.Totals.{xor_below-more}
use Rattle.wal_fft.proofs.SkewLaws.{term-lt}
use Rattle.wal_fft.proofs.skews.skew.Goals as goal

pub loop-place-init : goal.loop-place-init
unfolding xor_below
loop-place-init c = (refl, lit< tt)

pub loop-place-preserved : goal.loop-place-preserved
loop-place-preserved c =
    let row = c.args.row in
    let point = c.args.point in
    let place = c.loop-place.place in
    let same : c.bit.result * c.entry.result ≡ bit_at point place * entry row place = ap₂ (λ (s t : ℕ). s * t) c.bit.ensures c.entry.ensures in (
      ap₂ (λ (s t : ℕ). bit_xor s t) c.loop-place.invariant.0 same ∙ sym (xor_below-more place (λ i. bit_at point i * entry row i)),
      xor_lt 16 c.loop-place.sum (c.bit.result * c.entry.result) c.loop-place.invariant.1 (rw same (term-lt row point place)),
    )

pub returns : goal.returns
unfolding skew
returns c =
    let all : c.loop-place.place ≡ 10 = omega arith in
    c.loop-place.invariant.0 ∙ ap (λ (n : ℕ). xor_below n (λ i. bit_at c.args.point i * entry c.args.row i)) all
