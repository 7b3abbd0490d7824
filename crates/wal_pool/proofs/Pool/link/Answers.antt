use Rattle.wal_pool.proofs.Common.{◌∙◌, refl, ap, arith, ◌+◌, lit≤, rules, length, with_items_is}
use Rattle.wal_pool.proofs.OverwriteLaws.{length-overwrite}
use Rattle.wal_pool.proofs.PoolLaws.{taken_within, linked, pages_whole}
use Rattle.wal_pool.proofs.Pool.link.Goals as goal

pub put-requires : goal.put-requires
put-requires c =
    let within = taken_within 4096 _ _ _ _ _ _ c.self.invariant.0 c.self.view_is c.requires in
    omega (arith, within, ap length c.deref_mut.ensures.value, ap length c.to_be_bytes.ensures)

pub overflow_add-self : goal.overflow_add-self
overflow_add-self c =
    let i = c.self.inside in
    let kept = with_items_is i.region c.put.new.region (ap length c.put.ensures ∙ length-overwrite _ _ _ ∙ c.deref_mut.ensures.len) in
    let write = kept ∙ rw (c.deref_mut.ensures.value, c.to_be_bytes.ensures) at c.put.ensures in
    let l = linked 4096 i.pages i.region.items _ i.free i.first c.args.number c.args.self.now (lit≤ tt) (omega arith)
    (record { large = c.self.invariant.0; listed = c.self.invariant.2; counted = c.self.invariant.3 }) c.self.view_is c.requires write in
    let most = l.room in let pages = c.self.invariant.1 in
    search rules

pub invariant_of-self : goal.invariant_of-self
invariant_of-self c =
    let i = c.self.inside in
    let kept = with_items_is i.region c.put.new.region (ap length c.put.ensures ∙ length-overwrite _ _ _ ∙ c.deref_mut.ensures.len) in
    let write = kept ∙ rw (c.deref_mut.ensures.value, c.to_be_bytes.ensures) at c.put.ensures in
    let l = linked 4096 i.pages i.region.items _ i.free i.first c.args.number c.args.self.now (lit≤ tt) (omega arith)
    (record { large = c.self.invariant.0; listed = c.self.invariant.2; counted = c.self.invariant.3 }) c.self.view_is c.requires write in
    (l.sound.large, c.self.invariant.1, l.sound.listed, l.sound.counted)

pub returns : goal.returns
returns c =
    let i = c.self.inside in
    let kept = with_items_is i.region c.put.new.region (ap length c.put.ensures ∙ length-overwrite _ _ _ ∙ c.deref_mut.ensures.len) in
    let write = kept ∙ rw (c.deref_mut.ensures.value, c.to_be_bytes.ensures) at c.put.ensures in
    let l = linked 4096 i.pages i.region.items _ i.free i.first c.args.number c.args.self.now (lit≤ tt) (omega arith)
    (record { large = c.self.invariant.0; listed = c.self.invariant.2; counted = c.self.invariant.3 }) c.self.view_is c.requires write in
    record { free = l.now; whole = pages_whole 4096 i.pages _ (i.free + 1) c.args.number _ l.sound.large refl }
