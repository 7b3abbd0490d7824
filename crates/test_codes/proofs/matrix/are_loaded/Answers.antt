use Rattle.std.proofs.Common.{◌≤◌, ℕ, sym, subst}
use Rattle.wal_matrix.specs.Tools.{longest_sliver}
use Rattle.wal_matrix.proofs.ToolsLaws.{four_bytes_fit, one_word-fits}
use Rattle.test_codes.proofs.matrix.are_loaded.Goals as goal

pub load_words-requires : goal.load_words-requires
load_words-requires c = subst (λ (f : ℕ). 4 ≤ longest_sliver f) (sym c.in_ok-work.ensures.f) four_bytes_fit

pub expand_loaded-requires-clause-most : goal.expand_loaded-requires-clause-most
expand_loaded-requires-clause-most c = one_word-fits _
