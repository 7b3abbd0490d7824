-- A turn copies the sibling and goes on from the parent.
use Rattle.wal_challenge.proofs.Common.{◌≡◌, ◌≤◌, ◌/◌, ◌++◌, List, ℕ, length, ap, subst, sym, ◌∙◌, arith, concat, leaves, level_above, path_of, path_over, length-leaves}
use Rattle.wal_challenge.proofs.LevelLaws.{level_at, parent_within, path_end, path_more}
use Rattle.wal_challenge.proofs.levels.path_in.Goals as goal

pub climb-init : goal.climb-init
climb-init g c =
    let digest = g.H.Hash32.digest in
    let count = length c.args.content.now / c.args.size in
    let entries = leaves digest count c.args.size c.args.content.now in
    record {
      same = ap (λ (o : List ℕ). o ++ concat (path_of digest entries c.args.place)) (sym c.new-path.ensures.items);
      within = omega (arith, c.requires.place, length-leaves digest count c.args.size c.args.content.now);
    }

pub sibling_in-requires : goal.sibling_in-requires
sibling_in-requires g c =
    let digest = g.H.Hash32.digest in
    let entries = leaves digest (length c.args.content.now / c.args.size) c.args.size c.args.content.now in
    let is = level_at digest entries c.args.levels.now c.climb.level c.index-levels-level.result c.as_slice.result.now c.requires.levels.first c.climb-test.true c.index-levels-level.is c.as_slice.ensures in
    record { whole = omega (arith, is.long); place = omega (arith, is.long, c.climb.invariant.within) }

pub climb-preserved : goal.climb-preserved
climb-preserved g c =
    let digest = g.H.Hash32.digest in
    let entries = leaves digest (length c.args.content.now / c.args.size) c.args.size c.args.content.now in
    let l = c.climb in
    let is = level_at digest entries c.args.levels.now l.level c.index-levels-level.result c.as_slice.result.now c.requires.levels.first c.climb-test.true c.index-levels-level.is c.as_slice.ensures in
    record {
      same = path_more digest entries l.level l.at c.as_slice.result.now l.path.items c.extend_from_slice.new.self.items (concat (path_of digest entries c.args.place)) is l.invariant.within l.invariant.same
          (c.in_ok-extend_from_slice.ensures.items ∙ ap (λ (s : List ℕ). l.path.items ++ s) c.sibling_in.ensures);
      within = parent_within digest entries l.level l.at l.invariant.within;
    }

pub returns : goal.returns
returns g c =
    let digest = g.H.Hash32.digest in
    let entries = leaves digest (length c.args.content.now / c.args.size) c.args.size c.args.content.now in
    let l = c.climb in
    let all : length c.args.levels.now ≡ l.level = omega (arith, c.climb-test.false, l.auto.level-end) in
    path_end digest (level_above digest l.level entries) l.at l.path.items (path_over digest c.args.size c.args.content.now c.args.place)
    (subst (λ k. length (level_above digest k entries) ≤ 1) all c.requires.levels.top) l.invariant.same
