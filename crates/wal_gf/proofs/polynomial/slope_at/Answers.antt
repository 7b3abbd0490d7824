use Rattle.wal_gf.proofs.Common.{◌≡◌, ◌≢◌, ℕ, ◌<◌, sym, ◌∙◌, rules, bit_xor, times, inverse, evaluate}
use Rattle.wal_gf.proofs.Additive.{xor_back}
use Rattle.wal_gf.proofs.Products.{times_assoc, times_comm, times-one}
use Rattle.wal_gf.proofs.Inverses.{times-inverse, inverse-lt}
use Rattle.wal_gf.proofs.polynomial.slope_at.Goals as goal

-- (d / m) * m
undone : (d m : ℕ) → d < 65536 → m < 65536 → m ≢ 0 → times (times d (inverse m)) m ≡ d
undone d m low low' some =
    let grouped = times_assoc d (inverse m) m (inverse-lt m) low' in
    cc (times_comm (inverse m) m (inverse-lt m) low', times-inverse m low' some, times-one d low)

reached : (e m v e' m' d i s : ℕ) → e ≡ e' → m ≡ m' → d ≡ bit_xor e v → i ≡ inverse m → s ≡ times d i → d < 65536 → m < 65536 → m' ≢ 0
    → bit_xor e' (times s m') ≡ v
reached e m v e' m' d i s at at' missing undoing slope low low' some =
    cc (undone d m low low' (λ none. some (sym at' ∙ none)), xor_back e v)

pub returns-clause-reached : goal.returns-clause-reached
returns-clause-reached c =
    reached c.eval.result.0 c.eval-2.result.0 c.args.value.0 (evaluate c.args.found.now c.args.point.0) (evaluate c.args.vanishing.now c.args.point.0)
    c.add-missing.result.0 c.inv.result.0 c.mul.result.0 c.eval.ensures c.eval-2.ensures c.add-missing.ensures c.inv.ensures c.mul.ensures
    (search rules) (search rules) (c.requires (search rules))
