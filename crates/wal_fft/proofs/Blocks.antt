-- Numbers of blocks and of their halves.
use Rattle.wal_fft.proofs.Common.{◌≡◌, ℕ, suc, ◌+◌, ◌-◌, ◌*◌, ◌^◌, ◌<◌, ◌≤◌, sym, ap, ◌∙◌, arith, pow_pos, pow-suc}

-- a block has twice the points of its halves
pub double : (level points : ℕ) → 0 < level → points ≡ 2 ^ (level - 1) → 2 ^ level ≡ points * 2
double level points some e =
    let same : suc (level - 1) ≡ level = omega arith in
    ap (λ (l : ℕ). 2 ^ l) (sym same) ∙ pow-suc 2 (level - 1) ∙ ap (λ (n : ℕ). n * 2) (sym e)

-- the bytes of a block, and of its halves
pub whole_long : (level points width whole : ℕ) → 0 < level → points ≡ 2 ^ (level - 1) → whole ≡ 2 ^ level * (2 * width)
    → whole ≡ points * 2 * width + points * 2 * width
whole_long level points width whole some e long = rw (long, double level points some e) (omega arith)

pub half_long : (level points width : ℕ) → points ≡ 2 ^ level → points * 2 * width ≡ 2 ^ level * (2 * width)
half_long level points width e = rw (← e) (omega arith)

-- what a block's number of points, and the size and number of the block, say of its halves
pub record IsHalved (level points width whole index : ℕ) : Type 0 where
  pub some : 0 < points
  pub long : whole ≡ points * 2 * width + points * 2 * width
  pub half : points * 2 * width ≡ 2 ^ (level - 1) * (2 * width)
  pub same : points ≡ 2 ^ (level - 1)
  pub both : 2 ^ level ≡ points * 2
  pub last : 2 * index * points + 2 * points ≤ 1024
  pub lower : (2 * index + 1) * 2 ^ (level - 1) ≤ 1024
  pub upper : (2 * index + 1 + 1) * 2 ^ (level - 1) ≤ 1024

-- a block of 2^level runs is two of half as many
pub halved : {level points width whole index : ℕ} → 0 < level → points ≡ 2 ^ (level - 1) → whole ≡ 2 ^ level * (2 * width)
    → (index + 1) * 2 ^ level ≤ 1024 → IsHalved level points width whole index
halved {level} {points} {width} {whole} {index} above same long within =
    let both = double level points above same in
    let last : 2 * index * points + 2 * points ≤ 1024 = omega (arith, rw both at within) in
    record {
      some = omega (arith, pow_pos (level - 1));
      long = whole_long level points width whole above same long;
      half = half_long (level - 1) points width same;
      same = same;
      both = both;
      last = last;
      lower = rw (← same) (omega arith);
      upper = rw (← same) (omega arith);
    }

-- a level that is too low is not the one sought, nor is one below it
pub next_level : (level total points : ℕ) → points ≡ 2 ^ level → points < total → total ≤ 1024 → level ≤ 10
    → ((n : ℕ) → total ≤ 2 ^ n → level ≤ n) → (level + 1 ≤ 10) × ((n : ℕ) → total ≤ 2 ^ n → level + 1 ≤ n)
next_level level total points e short within few least = (grind arith, λ n enough. grind (arith, least n enough))
