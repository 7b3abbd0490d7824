use Rattle.std.proofs.Common.{◌*◌, ◌∙◌, ℕ, length, subst, sym, ap, arith}
use Rattle.wal_shape.specs.Shape.{shard_count, sliver_symbols}
use Rattle.wal_matrix.specs.Word.{IsWordOf}
use Rattle.wal_matrix.proofs.ToolsLaws.{one_word-fits}
use Rattle.wal_commit.proofs.Crossings.{some, within}
use Rattle.wal_extract.proofs.Sizes.{whole}
use Rattle.test_blobs.proofs.collisions.root_of_word.Goals as goal

pub expand-requires-clause-most : goal.expand-requires-clause-most
expand-requires-clause-most c = one_word-fits c.in_ok-work.work.f

pub expand-requires-clause-long : goal.expand-requires-clause-long
expand-requires-clause-long c = c.requires.long ∙ ap (λ f. sliver_symbols c.args.axis f * 2) (sym c.in_ok-work.ensures.f)

pub root-digest-requires-clause-whole : goal.root-digest-requires-clause-whole
root-digest-requires-clause-whole c = whole (shard_count c.in_ok-work.work.f) 2 (length c.expand.result.now) c.expand.ensures.word.coded.size

pub root-digest-requires-clause-some : goal.root-digest-requires-clause-some
root-digest-requires-clause-some c = some (shard_count c.in_ok-work.work.f) 2 (length c.expand.result.now) (omega arith) c.expand.ensures.word.coded.size

pub root-digest-requires-clause-within : goal.root-digest-requires-clause-within
root-digest-requires-clause-within c =
    within (shard_count c.in_ok-work.work.f) 2 (length c.expand.result.now) (omega (arith, c.in_ok-work.ensures.f, c.requires.few)) c.expand.ensures.word.coded.size

pub returns : goal.returns
returns c =
    (c.expand.result.now, subst (λ (f : ℕ). IsWordOf c.args.axis f 2 c.args.sliver.now c.expand.result.now) c.in_ok-work.ensures.f c.expand.ensures.word, c.root-digest.ensures)
