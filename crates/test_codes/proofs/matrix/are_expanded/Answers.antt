use Rattle.wal_matrix.proofs.ToolsLaws.{one_word-fits}
use Rattle.test_codes.proofs.matrix.are_expanded.Goals as goal

pub expand-requires-clause-most : goal.expand-requires-clause-most
expand-requires-clause-most c = one_word-fits _

pub expand-requires-2-clause-most : goal.expand-requires-2-clause-most
expand-requires-2-clause-most c = one_word-fits _
