-- One level more is kept, and the one above it comes.
use Rattle.wal_challenge.proofs.Common.{◌≡◌, ◌+◌, ◌/◌, ◌<◌, [], ◌∷◌, List, ℕ, length, length-append, ap, subst, sym, ◌∙◌, arith, leaves, pair_up, level_above, level_above-next, FirstLevels, evened}
use Rattle.wal_challenge.proofs.LevelLaws.{evened_level, first_more}
use Rattle.wal_challenge.proofs.levels.levels_over.Goals as goal

pub rise-preserved : goal.rise-preserved
rise-preserved g c =
    let digest = g.H.Hash32.digest in
    let entries = leaves digest (length c.args.content.now / c.args.size) c.args.size c.args.content.now in
    let levels = c.rise.levels.items in
    let level = c.rise.level.items in
    let width = length level / 32 in
    let i = c.rise.invariant in
    let added = c.in_ok-level-2.ensures.added in
    let many : 1 < width = omega (arith, i.whole, c.rise-test.true, c.len.ensures) in
    let next : length c.add_level.new.levels.items ≡ length levels + 1 = omega (arith, ap length added, length-append levels (evened level ∷ [])) in
    record {
      first = subst (λ (ls : List (List ℕ)). FirstLevels digest entries ls) (sym added)
          (first_more digest entries levels (evened level) i.first
          (evened_level (level_above digest (length levels) entries) width level i.whole i.here many));
      here = c.in_ok-level-2.ensures.above ∙ ap (pair_up digest) i.here
          ∙ sym (level_above-next digest (length levels) (length c.add_level.new.levels.items) entries next);
      whole = omega (arith, c.in_ok-level-2.ensures.long);
      few = omega (arith, c.in_ok-level-2.ensures.long, i.few);
    }
