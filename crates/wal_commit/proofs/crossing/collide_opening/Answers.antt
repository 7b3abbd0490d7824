-- The opening leads to the root of the line that crosses the target, as the line's own symbol does.
use Rattle.wal_commit.proofs.Common.{rules, ◌≡◌, ◌∙◌, length, ap, arith, region, path_over, Axis, opening_shown, crossing, shard_count, symbol_size, line_of, symbol_bytes, line_long}
use Rattle.wal_commit.proofs.Crossings.{line_count, line_size, opening_leads, opening_within, part_within, some, symbols_apart, symbols_meet, within}
use Rattle.wal_commit.proofs.Holding.{whole_pieces}
use Rattle.wal_commit.proofs.crossing.collide_opening.Goals as goal

pub line_in_memory-requires : goal.line_in_memory-requires
line_in_memory-requires g c =
    (opening_within g.H.Hash32.digest c.args.matrix.now.shape c.args.matrix.now.cells c.args.axis c.args.index (opening_shown c.args.opening.now) c.requires.holds).1

pub path-requires : goal.path-requires
path-requires g c =
    let x = c.args.matrix.now in
    let n = shard_count x.shape.f in
    let inside = opening_within g.H.Hash32.digest x.shape x.cells c.args.axis c.args.index (opening_shown c.args.opening.now) c.requires.holds in
    let size : c.symbol_size-size.result ≡ symbol_bytes x = c.symbol_size-size.ensures.value ∙ ap (λ t. symbol_size t.f t.length) c.shape.ensures in
    let long = line_size c.crossing.result x.shape.f (symbol_bytes x) c.symbol_size-size.result x.cells c.in_ok-line.line.items c.deref.result.now c.args.opening.now.cross
    c.requires.long inside.1 c.in_ok-line.ensures c.deref.ensures.value size in
    record {
      piece = search rules;
      whole = whole_pieces n c.symbol_size-size.result (length c.deref.result.now) long;
      some = some n c.symbol_size-size.result (length c.deref.result.now) (omega arith) long;
      within = within n c.symbol_size-size.result (length c.deref.result.now) (omega (arith, c.requires.shape.1)) long;
      place = line_count n c.symbol_size-size.result (length c.deref.result.now) c.args.index
          (omega (arith, c.symbol_size-size.ensures.least.positive)) long inside.0;
    }

pub part_at-own-requires : goal.part_at-own-requires
part_at-own-requires g c =
    let x = c.args.matrix.now in
    let inside = opening_within g.H.Hash32.digest x.shape x.cells c.args.axis c.args.index (opening_shown c.args.opening.now) c.requires.holds in
    let size : c.symbol_size-size.result ≡ symbol_bytes x = c.symbol_size-size.ensures.value ∙ ap (λ t. symbol_size t.f t.length) c.shape.ensures in
    let long = line_size c.crossing.result x.shape.f (symbol_bytes x) c.symbol_size-size.result x.cells c.in_ok-line.line.items c.deref-2.result.now c.args.opening.now.cross
    c.requires.long inside.1 c.in_ok-line.ensures c.deref-2.ensures.value size in
    part_within c.args.index (shard_count x.shape.f) c.symbol_size-size.result (length c.deref-2.result.now) inside.0 long

pub collide_paths-requires : goal.collide_paths-requires
collide_paths-requires g c =
    let x = c.args.matrix.now in
    let axis = c.args.axis in
    let o = opening_shown c.args.opening.now in
    let s = symbol_bytes x in
    let inside = opening_within g.H.Hash32.digest x.shape x.cells axis c.args.index o c.requires.holds in
    let size : c.symbol_size-size.result ≡ symbol_bytes x = c.symbol_size-size.ensures.value ∙ ap (λ t. symbol_size t.f t.length) c.shape.ensures in
    let line = c.in_ok-line.ensures ∙ ap (λ (a : Axis). line_of a x.shape.f s x.cells o.cross) c.crossing.ensures in
    let least = c.symbol_size-size.ensures.least.positive in
    let own = c.part_at-own.ensures.part
    ∙ ap (λ l. region c.symbol_size-size.result l c.args.index) c.deref-2.ensures.value in
    record {
      within = search rules;
      one = symbols_meet g.H.Hash32.digest g.met.H.Hash32.size (shard_count x.shape.f) s c.n-count.result
          c.symbol_size-size.result c.args.index
          (line_of (crossing axis) x.shape.f s x.cells o.cross) c.in_ok-line.line.items c.part_at-own.result.now c.bytes.result.now o.symbol o.path
          (c.n-count.ensures.value ∙ ap (λ t. shard_count t.f) c.shape-2.ensures) size line
          (line_long (crossing axis) x.shape.f s x.cells o.cross c.requires.long inside.1) (omega (arith, least, size))
          inside.0 own
          (c.bytes.ensures ∙ c.path.ensures.siblings ∙ ap (λ l. path_over g.H.Hash32.digest c.symbol_size-size.result l c.args.index) c.deref.ensures.value)
          (opening_leads g.H.Hash32.digest x.shape x.cells axis c.args.index o c.requires.holds);
      differ = symbols_apart axis x.shape.f s c.symbol_size-size.result c.args.index o.cross x.cells
          c.in_ok-line.line.items c.part_at-own.result.now o.symbol
          c.requires.long inside.0 inside.1 size line own c.requires.apart;
    }

pub returns-clause-texts : goal.returns-clause-texts
returns-clause-texts g c =
    let x = c.args.matrix.now in
    let o = opening_shown c.args.opening.now in
    let size : c.symbol_size-size.result ≡ symbol_bytes x = c.symbol_size-size.ensures.value ∙ ap (λ t. symbol_size t.f t.length) c.shape.ensures in
    let line = c.in_ok-line.ensures ∙ ap (λ (a : Axis). line_of a x.shape.f (symbol_bytes x) x.cells o.cross) c.crossing.ensures in
    let own = c.part_at-own.ensures.part ∙ ap (λ l. region c.symbol_size-size.result l c.args.index) c.deref-2.ensures.value in
    let way = c.bytes.ensures ∙ c.path.ensures.siblings
    ∙ ap (λ l. path_over g.H.Hash32.digest c.symbol_size-size.result l c.args.index) c.deref.ensures.value in
    rw (own, way, size, line) at c.collide_paths.ensures.texts
