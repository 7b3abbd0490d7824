use Rattle.std.proofs.Common.{◌≡◌, ◌∙◌, refl, sym, arith, rules}
use Rattle.wal_matrix.proofs.ToolsLaws.{one_word-fits}
use Rattle.test_blobs.proofs.collisions.collision_of_slivers.Goals as goal

pub slivers-requires-clause-one : goal.slivers-requires-clause-one
slivers-requires-clause-one c =
    let same : c.in_ok-left.left ≡ c.in_ok-right.right = search rules in
    record {
      size = 2;
      even = refl;
      least = omega arith;
      most = one_word-fits c.args.f;
      long_a = search rules;
      long_b = search rules;
      word_a = c.in_ok-left.ensures.0;
      word_b = c.in_ok-right.ensures.0;
      is_a = c.in_ok-left.ensures.1;
      is_b = c.in_ok-right.ensures.1;
      root = sym c.in_ok-left.ensures.2 ∙ same ∙ c.in_ok-right.ensures.2;
    }
