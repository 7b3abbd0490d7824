use Rattle.wal_matrix.proofs.Common.{rules, ◌≡◌, ◌-◌, length, refl, arith, ◌∙◌}
use Rattle.wal_matrix.proofs.FrontLaws.{laid_bytes, rest_to_fill}
use Rattle.wal_matrix.proofs.front.put_bytes.Goals as goal

pub returns-clause-bytes : goal.returns-clause-bytes
returns-clause-bytes c =
    let from = c.min-from.result in
    let to = c.min-to.result in
    let out = c.args.out.now in
    let copied = c.copy_from_slice.new.self in
    let zeros = c.fill.new.self in
    let long : length copied ≡ to - from = c.copy_from_slice.auto.self ∙ (search rules) in
    let rest : length zeros ≡ length out - (to - from) = c.fill.ensures.len ∙ rest_to_fill (to - from) copied out long (omega (arith, c.min-from.ensures, c.min-to.ensures)) in
    laid_bytes c.args.start from to (to - from) _ c.args.bytes.now out copied zeros c.min-from.ensures c.min-to.ensures refl
    c.copy_from_slice.ensures.after rest (λ i l. c.fill.ensures.clones i 0 (omega (arith, c.fill.ensures.len)) refl)
