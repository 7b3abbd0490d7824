-- The rows of the code are those of the table.
use Rattle.walrus_c.proofs.Common.{rules, arith, common_steps, code_of, refusals}
use Rattle.walrus_c.proofs.codes.code_of.Goals as goal

pub returns : goal.returns
unfolding code_of refusals
returns c = first_of (search rules, grind (arith, common_steps))
