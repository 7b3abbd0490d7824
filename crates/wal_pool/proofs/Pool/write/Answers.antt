use Rattle.wal_pool.proofs.Common.{◌∙◌, ap, slice_set, refl, arith, length, with_items_is, Taken, page_bytes, overwrite}
use Rattle.std.proofs.lemmas.List.{length-set}
use Rattle.wal_pool.proofs.OverwriteLaws.{length-overwrite}
use Rattle.wal_pool.proofs.PoolLaws.{taken_within, wrote, pages_whole}
use Rattle.wal_pool.proofs.Pool.write.Goals as goal

pub put-requires : goal.put-requires
put-requires c =
    let taken = rw (← c.page.view_is) at c.requires.taken in
    let within = taken_within 4096 _ _ _ _ _ _ c.self.invariant.0 c.self.view_is taken in
    omega (arith, within, ap length c.deref_mut.ensures.value)

pub invariant_of-self : goal.invariant_of-self
invariant_of-self c =
    let i = c.self.inside in
    let taken = rw (← c.page.view_is) at c.requires.taken in
    let kept = with_items_is i.region c.put.new.region (ap length c.put.ensures ∙ length-overwrite _ _ _ ∙ c.deref_mut.ensures.len) in
    let write = kept ∙ rw c.deref_mut.ensures.value at c.put.ensures in
    let w = wrote 4096 i.pages i.region.items _ i.free i.first _ c.args.at _ c.args.bytes.now _ c.requires.room
    (record { large = c.self.invariant.0; listed = c.self.invariant.2; counted = c.self.invariant.3 }) c.self.view_is taken refl write in
    (w.sound.large, c.self.invariant.1, w.sound.listed, w.sound.counted)

pub returns : goal.returns
returns c =
    let i = c.self.inside in
    let taken = rw (← c.page.view_is) at c.requires.taken in
    let kept = with_items_is i.region c.put.new.region (ap length c.put.ensures ∙ length-overwrite _ _ _ ∙ c.deref_mut.ensures.len) in
    let write = kept ∙ rw c.deref_mut.ensures.value at c.put.ensures in
    let w = wrote 4096 i.pages i.region.items _ i.free i.first _ c.args.at _ c.args.bytes.now _ c.requires.room
    (record { large = c.self.invariant.0; listed = c.self.invariant.2; counted = c.self.invariant.3 }) c.self.view_is taken refl write in
    record {
      written = w.now ∙ ap (λ k. slice_set c.args.self.now k (Taken (overwrite (page_bytes c.args.self.now k) c.args.at c.args.bytes.now))) c.page.view_is;
      pages = ap length w.now ∙ length-set _ _ _;
      whole = pages_whole 4096 i.pages _ i.free i.first _ w.sound.large refl;
    }
