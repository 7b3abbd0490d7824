use Rattle.wal_pool.proofs.Common.{ap, ◌∙◌, arith, take, w32, from_be_bytes, next}
use Rattle.wal_pool.proofs.PoolLaws.{four_bytes}
use Rattle.wal_pool.proofs.number_at.Goals as goal

pub returns : goal.returns
unfolding next
returns c = c.from_be_bytes.ensures ∙ four_bytes c.page_in-page.result.now (omega (arith, c.page_in-page.ensures.size)) ∙ ap (λ p. from_be_bytes w32 (take 4 p)) c.page_in-page.ensures.value
