use Rattle.wal_recover.proofs.Common.{rules, ◌≡◌, ◌++◌, ◌∷◌, [], ◌∙◌, sym, arith, false≢true, metadata_shown}
use Rattle.wal_recover.proofs.OneTaking.{addition_new, addition_none}
use Rattle.wal_recover.proofs.taking.add_opening.Goals as goal
use Rattle.wal_recover.proofs.taking.add_opening.Goals.{else-len-most-via-then-len-most+else-is_new, else-len-most-via-else-len-most}

pub returns-in_ok-push : goal.returns-in_ok-push
returns-in_ok-push g c =
    let before = c.args.collected.now.taken.items in
    let copy = c.in_ok-duplicate.field-0 in
    let is = c.is_new.ensures.new.0 c.if-is_new.true in
    let pushed : c.push.new.self.items ≡ before ++ copy ∷ [] = search rules in
    let both = addition_new g.H.Hash32.digest (metadata_shown c.args.m) c.args.axis c.args.index c.args.most
    c.args.collected.now.seen before c.push.new.self.items c.args.opening.now copy c.requires
    (omega (arith, c.if-len-most.true, c.len.ensures)) (c.is_new.ensures.small is.1) is.0 is.1 c.in_ok-duplicate.ensures
    pushed in
    record { added = both.0; marks = both.1 }

pub returns-else-len-most-clause-added : goal.returns-else-len-most-clause-added
returns-else-len-most-clause-added g c =
    let m = metadata_shown c.args.m in
    let before = c.args.collected.now.taken.items in
    let seen = c.args.collected.now.seen in
    elim c.else-len-most.branch [
      | else-len-most-via-then-len-most+else-is_new w ↦
          addition_none g.H.Hash32.digest m c.args.axis c.args.index c.args.most seen before c.args.opening.now c.requires
          (λ short holds. w.is_new.ensures.small holds)
          (λ short new holds. false≢true (sym w.if-is_new.false ∙ w.is_new.ensures.new.1 (new, holds)))
      | else-len-most-via-else-len-most w ↦
          addition_none g.H.Hash32.digest m c.args.axis c.args.index c.args.most seen before c.args.opening.now c.requires
          (λ short holds. absurd (omega (arith, w.if-len-most.false, c.len.ensures, short)))
          (λ short new holds. absurd (omega (arith, w.if-len-most.false, c.len.ensures, short)))
    ]
