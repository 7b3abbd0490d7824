use Rattle.wal_pool.proofs.Common.{Some, ◌∙◌, ap, sym, arith, length, page_of, Taken, page_bytes}
use Rattle.wal_pool.proofs.PoolLaws.{taken_within, taken_bytes, pages_whole}
use Rattle.wal_pool.proofs.Pool.bytes.Goals as goal

pub page_in-requires : goal.page_in-requires
page_in-requires c =
    let taken = rw (← c.page.view_is) at c.requires in
    let within = taken_within 4096 _ _ _ _ _ _ c.self.invariant.0 c.self.view_is taken in
    omega (arith, within, ap length c.deref.ensures.value)

pub returns : goal.returns
returns c =
    let i = c.self.inside in let n = c.page.inside.number in
    let taken = rw (← c.page.view_is) at c.requires in
    let bytes = c.page_in.ensures.value ∙ ap (λ r. page_of 4096 r n) c.deref.ensures.value
    ∙ taken_bytes 4096 i.pages i.region.items i.free i.first n c.args.self.now c.self.view_is taken
    ∙ ap (page_bytes c.args.self.now) c.page.view_is in
    record { content = c.requires ∙ ap (λ b. Some (Taken b)) (sym bytes); held = bytes; size = c.page_in.ensures.size; whole = pages_whole 4096 i.pages i.region.items i.free i.first _ c.self.invariant.0 c.self.view_is }
