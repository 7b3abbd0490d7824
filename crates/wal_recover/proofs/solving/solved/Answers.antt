use Rattle.wal_recover.proofs.Common.{rules, arith, refl, sym, length-take-le, shard_count, sliver_symbols, symbol_size, metadata_shown, part_fits, symbols_fit, HasRoot, target_within, crosses_within, line_shown, symbol_sizes, symbols_long}
use Rattle.wal_recover.proofs.Proved.{proof_fits, sliver_loads}
use Rattle.wal_recover.proofs.solving.solved.Goals as goal

pub load_symbols-requires-clause-total : goal.load_symbols-requires-clause-total
load_symbols-requires-clause-total g c =
    rw (c.sliver_len-total.ensures.value, c.as_slice.ensures, c.requires.enough.count, c.symbol_size.ensures.value)
    (rw c.shape-shape.ensures.value)

pub load_symbols-requires-clause-room : goal.load_symbols-requires-clause-room
load_symbols-requires-clause-room g c =
    let m = metadata_shown c.args.m in
    sliver_loads c.args.axis m.f m.length c.args.work.now.f c.sliver_len-total.result
    c.shape-shape.ensures.metadata.shape.2 c.requires.f (rw c.shape-shape.ensures.value at c.sliver_len-total.ensures.value)

pub solve-word-requires-clause-below : goal.solve-word-requires-clause-below
solve-word-requires-clause-below g c =
    rw (c.shape-shape.ensures.value, c.requires.crosses) (crosses_within _ _ _ _ _ c.requires.enough)

pub solve-word-requires-clause-loaded : goal.solve-word-requires-clause-loaded
solve-word-requires-clause-loaded g c =
    rw (c.load_symbols.ensures.loaded, c.as_slice.ensures, c.shape-shape.ensures.value, ← c.requires.enough.count)
    (symbols_long _ c.args.openings.now (symbol_sizes _ _ _ _ _ c.requires.enough))

pub root_holds-requires-clause-index : goal.root_holds-requires-clause-index
root_holds-requires-clause-index g c = target_within _ _ _ _ _ c.requires.enough

pub slice_bounds-sliver-end : goal.slice_bounds-sliver-end
slice_bounds-sliver-end g c =
    let f = c.shape-shape.result.f in
    let s = symbol_size f c.shape-shape.result.length in
    let room = part_fits (sliver_symbols c.args.axis f) (shard_count f) s (symbols_fit c.args.axis f) in
    let long = c.solve-word.ensures.word.coded.size in
    sym (length-take-le c.sliver_len-total.result c.solve-word.result.now (omega (arith, c.sliver_len-total.ensures.value, room, long)))

pub of-requires : goal.of-requires
of-requires g c = proof_fits g.H.Hash32.digest (metadata_shown c.args.m) c.args.axis c.args.index c.args.openings.now c.shape-shape.ensures.metadata.shape c.requires.enough

pub returns-in_ok-of-clause-comes : goal.returns-in_ok-of-clause-comes
returns-in_ok-of-clause-comes g c =
    let loaded = rw c.as_slice.ensures at c.load_symbols.ensures.loaded in
    let other : HasRoot g.H.Hash32.digest (metadata_shown c.args.m) c.args.axis c.args.index c.solve-word.result.now → ⊥ =
    search rules in
    let line = line_shown _ _ _ _ _ c.requires.enough c.shape-shape.result c.args.axis c.args.crosses.now
    c.load_symbols.new.work.loaded c.solve-word.result.now c.shape-shape.ensures.value refl c.requires.crosses loaded
    c.solve-word.ensures.word in
    (c.in_ok-of.ensures, rw c.in_ok-of.ensures (record { word = c.solve-word.result.now; line = line; root = other }))
