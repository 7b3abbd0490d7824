use Rattle.wal_lanes.proofs.Common.{◌≡◌, ℕ, ◌*◌, List, length, subst, sym, ◌∙◌, take_at, sha256, AreDigestsOf, Group, HaveTaken}
use Rattle.std.specs.Vec.{vec_len}
use Rattle.wal_lanes.proofs.Taken.{begun_groups}
use Rattle.wal_lanes.proofs.strips.digest_strips.Goals as goal

pub returns-clause-digests : goal.returns-clause-digests
returns-clause-digests g c =
    let Has : ℕ → List ℕ → Type 0 = g.P.Pieces.has c.args.pieces.now in
    let begin = subst (λ (xs : List Group). HaveTaken c.args.prefix Has c.args.count 0 xs) (sym (c.deref_mut.ensures.value ∙ c.in_ok-groups.ensures.items_if_clones_equal (λ y e. e)))
    (begun_groups c.args.prefix c.args.count Has _ c.begun.result c.begun.ensures) in
    let seen = c.strips_before-turns.result * c.args.width in
    let long : length c.take_strips.new.groups ≡ vec_len c.in_ok-groups.groups = c.take_strips.ensures.long ∙ c.deref_mut.ensures.len in
    let last = c.deref.ensures.value ∙ take_at c.take_strips.new.groups _ _ long in
    let taken = subst (λ (xs : List Group). HaveTaken c.args.prefix Has c.args.count seen xs) (sym last) (c.take_strips.ensures.taken c.args.prefix begin) in
    let held = subst (λ p. HaveTaken c.args.prefix (g.P.Pieces.has p) c.args.count seen c.deref.result.now) (sym c.take_strips.ensures.same) taken in
    subst (λ p. AreDigestsOf sha256 c.args.prefix (g.P.Pieces.has p) c.args.count c.take_last.new.out) c.take_strips.ensures.same (c.take_last.ensures.digests c.args.prefix held)
