use Rattle.wal_store.proofs.Common.{◌≡◌, ◌∙◌, [], ◌+◌, ◌-◌, subst, ap, length, unwrap_or, IsSome, arith, rules}
use Rattle.wal_store.proofs.StockLaws.{shows_of, shown_held}
use Rattle.wal_store.proofs.map_keep.MapKeepKeep.copy.Goals as goal

pub bytes_under-requires : goal.bytes_under-requires
bytes_under-requires c =
    subst IsSome (shown_held c.args.id.now c.args.part (shows_of c.self.invariant.0 c.self.view_is)) c.requires.held

pub slice_bounds-copy_from_slice-end : goal.slice_bounds-copy_from_slice-end
slice_bounds-copy_from_slice-end c =
    let held = shown_held c.args.id.now c.args.part (shows_of c.self.invariant.0 c.self.view_is) in
    let long = ap (λ o. length (unwrap_or o [])) (held ∙ c.bytes_under.ensures) in
    search rules

pub returns : goal.returns
returns c =
    let held = shown_held c.args.id.now c.args.part (shows_of c.self.invariant.0 c.self.view_is) in
    let size : c.args.at + length c.args.out.now - c.args.at ≡ length c.args.out.now = omega arith in
    rw (held, c.bytes_under.ensures) (rw size at c.copy_from_slice.ensures.after)
