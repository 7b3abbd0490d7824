-- A turn writes the sibling and goes on from the parent.
use Rattle.wal_tree.proofs.Common.{◌+◌, ◌/◌, ◌≤◌, List, ℕ, ◌++◌, length, get_or, refl, arith, ap, sym, ◌∙◌, concat, div-le_of_le-mul, empty_entry, leaves, level_above, path_of}
use Rattle.wal_tree.proofs.Honest.{IsPathTo-path_of}
use Rattle.wal_tree.proofs.Paths.{height-le, height-step, length-leaves, length-pair_up-half, level_above-next, path-end, path-step}
use Rattle.wal_tree.proofs.siblings.path.Goals as goal

pub loop-width-init : goal.loop-width-init
loop-width-init g c =
    let a = c.args in
    let digest = g.H.Hash32.digest in
    let entries = leaves digest (length a.content.now / a.size) a.size a.content.now in
    let few : length a.content.now / a.size ≤ 1000 = div-le_of_le-mul a.size (omega arith) in
    let same = ap (λ (o : List ℕ). o ++ concat (path_of digest entries a.place)) (sym c.clear.ensures) in
    search (arith, same, length-leaves digest (length a.content.now / a.size) a.size a.content.now, ap length c.clear.ensures, few)

pub push-requires : goal.push-requires
push-requires g c =
    let l = c.loop-width in
    let few : length c.args.content.now / c.args.size ≤ 1000 = div-le_of_le-mul c.args.size (omega arith) in
    omega (arith, height-step l.width (omega arith), height-le 10 (length c.args.content.now / c.args.size) (omega arith), l.invariant.high)

pub overflow_add-level : goal.overflow_add-level
overflow_add-level g c =
    let l = c.loop-width in
    let few : length c.args.content.now / c.args.size ≤ 1000 = div-le_of_le-mul c.args.size (omega arith) in
    omega (arith, height-le 10 (length c.args.content.now / c.args.size) (omega arith), l.invariant.high)

pub loop-width-preserved : goal.loop-width-preserved
loop-width-preserved g c =
    let l = c.loop-width in
    let a = c.args in
    let digest = g.H.Hash32.digest in
    let entries = leaves digest (length a.content.now / a.size) a.size a.content.now in
    let sibling = c.entry.ensures ∙ ap (λ k. get_or (level_above digest l.level entries) k empty_entry) c.place_beside.ensures in
    let same = l.invariant.same ∙ path-step digest entries l.level l.at l.out c.push.new.self c.entry.result (omega arith) sibling c.push.ensures.appended in
    let wide = ap length (level_above-next digest l.level (l.level + 1) entries refl)
    ∙ length-pair_up-half digest (level_above digest l.level entries) ∙ ap (λ n. (n + 1) / 2) l.invariant.wide in
    search (arith, same, wide, l.invariant, c.push.ensures, height-step l.width (omega arith))

pub returns-clause-siblings : goal.returns-clause-siblings
returns-clause-siblings g c =
    let l = c.loop-width in
    let a = c.args in
    let digest = g.H.Hash32.digest in
    let entries = leaves digest (length a.content.now / a.size) a.size a.content.now in
    path-end digest (level_above digest l.level entries) l.at l.out (concat (path_of digest entries a.place)) (omega arith) l.invariant.same

pub returns-clause-holds : goal.returns-clause-holds
returns-clause-holds g c =
    let a = c.args in
    rw (returns-clause-siblings g c) (IsPathTo-path_of g.H.Hash32.digest g.met.H.Hash32.size a.size a.place a.content.now (omega arith))
