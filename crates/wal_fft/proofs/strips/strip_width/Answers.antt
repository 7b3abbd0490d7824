use Rattle.wal_fft.proofs.Common.{◌*◌, ◌/◌, ◌≤◌, arith, mul-le-mul_left}
use Rattle.std.proofs.Math.Nat.{le-div_iff_mul-le, mul-div-le}
use Rattle.wal_fft.proofs.strips.strip_width.Goals as goal

pub returns-clause-some : goal.returns-clause-some
returns-clause-some c =
    omega (arith, c.min.ensures, (le-div_iff_mul-le {k = 2 * c.args.regions} {x = 1} {y = c.args.room} (omega arith)).1 (omega arith))

pub returns-clause-fits : goal.returns-clause-fits
returns-clause-fits c =
    let doubled : 2 * c.min.result ≤ 2 * (c.args.room / (2 * c.args.regions)) = omega (arith, c.min.ensures) in
    omega (arith, mul-le-mul_left c.args.regions doubled, mul-div-le c.args.room (2 * c.args.regions))
