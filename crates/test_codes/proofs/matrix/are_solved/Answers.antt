use Rattle.std.proofs.Common.{◌≡◌, ◌≤◌, ℕ, ◌*◌, length, sym, ap, ◌∙◌, subst}
use Rattle.wal_shape.specs.Shape.{BlobShape, row_count, symbol_size}
use Rattle.wal_matrix.specs.Tools.{longest_sliver}
use Rattle.wal_matrix.proofs.ToolsLaws.{two_words, four_bytes_fit}
use Rattle.test_codes.proofs.matrix.are_solved.Goals as goal

pub load_words-requires : goal.load_words-requires
load_words-requires c = subst (λ (f : ℕ). 4 ≤ longest_sliver f) (sym c.in_ok-work.ensures.f) four_bytes_fit

pub solve-requires-clause-loaded : goal.solve-requires-clause-loaded
solve-requires-clause-loaded c =
    let P : BlobShape → Type 0 = λ v. length c.load_words.new.work.loaded ≡ row_count v.f * symbol_size v.f v.length in
    subst P (sym c.in_ok-shape.ensures.ok.1) (ap length c.load_words.ensures.loaded ∙ sym two_words)
