-- The line of the drawn axis is the codeword of the shard's own sliver.
use Rattle.wal_challenge.proofs.Common.{◌≡◌, ◌*◌, length, ap, sym, ◌∙◌, metadata_shown, BlobShape, shard_count, symbol_size, OwnWords, among, AreLevels}
use Rattle.wal_challenge.specs.declared.line.Line.{Line}
use Rattle.wal_challenge.proofs.AnswerLaws.{of_either, part_of_either, shows_if}
use Rattle.wal_challenge.proofs.answering.Answerer.open.Goals as goal

pub open_line-requires-clause-long : goal.open_line-requires-clause-long
open_line-requires-clause-long g c =
    let m = metadata_shown c.args.m in
    let inside = c.self.inside in
    let words = c.requires.words.2 in
    let n : c.n-n.result ≡ shard_count m.f = c.n-n.ensures.value ∙ ap (λ (s : BlobShape). shard_count s.f) c.shape-shape.ensures.value in
    let size : c.symbol_size-size.result ≡ symbol_size m.f m.length =
    c.symbol_size-size.ensures.value ∙ ap (λ (s : BlobShape). symbol_size s.f s.length) c.shape-shape.ensures.value in
    let row : length inside.row.symbols ≡ shard_count m.f * symbol_size m.f m.length = ap (λ (o : OwnWords). length o.row) c.self.view_is ∙ words.row_word.coded.size in
    let column : length inside.column.symbols ≡ shard_count m.f * symbol_size m.f m.length = ap (λ (o : OwnWords). length o.column) c.self.view_is ∙ words.column_word.coded.size in
    rw (c.line_among-line.ensures, n, size)
    (of_either (λ (l : Line). length l.symbols ≡ shard_count m.f * symbol_size m.f m.length) c.args.draw.axis
    inside.row inside.column row column)

pub open_line-requires-clause-levels : goal.open_line-requires-clause-levels
open_line-requires-clause-levels g c =
    let m = metadata_shown c.args.m in
    let inside = c.self.inside in
    let size : inside.size ≡ c.symbol_size-size.result =
    ap (λ (o : OwnWords). o.size) c.self.view_is ∙ c.requires.words.2.size
    ∙ sym (c.symbol_size-size.ensures.value ∙ ap (λ (s : BlobShape). symbol_size s.f s.length) c.shape-shape.ensures.value) in
    let Fits : Line → Type 0 = λ l. AreLevels g.H.Hash32.digest c.symbol_size-size.result l.symbols l.levels in
    rw c.line_among-line.ensures
    (of_either Fits c.args.draw.axis inside.row inside.column (rw size at c.self.invariant.0) (rw size at c.self.invariant.1))

pub returns : goal.returns
returns g c =
    let m = metadata_shown c.args.m in
    let words = c.args.self.now in
    let inside = c.self.inside in
    let size : c.symbol_size-size.result ≡ words.size =
    c.symbol_size-size.ensures.value ∙ ap (λ (s : BlobShape). symbol_size s.f s.length) c.shape-shape.ensures.value ∙ sym c.requires.words.2.size in
    let line = ap (λ (l : Line). l.symbols) c.line_among-line.ensures
    ∙ part_of_either (λ (l : Line). l.symbols) c.args.draw.axis inside.row inside.column
    ∙ ap (λ (o : OwnWords). among c.args.draw.axis o.row o.column) c.self.view_is in
    shows_if c.open_line.result g.H.Hash32.digest m c.args.shard c.args.draw words c.symbol_size-size.result c.line_among-line.result.now.symbols size line
    (rw (sym c.held-cross.ensures.value) c.open_line.ensures.cross) c.open_line.ensures.symbol c.open_line.ensures.path
