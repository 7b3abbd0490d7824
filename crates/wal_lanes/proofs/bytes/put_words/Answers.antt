use Rattle.wal_lanes.proofs.Common.{◌≡◌, ◌∙◌, arith, digest_bytes}
use Rattle.wal_lanes.proofs.Parts.{put_none}
use Rattle.wal_lanes.proofs.Written.{word_put}
use Rattle.wal_lanes.proofs.bytes.put_words.Goals as goal

pub each-init : goal.each-init
unfolding digest_bytes
each-init c = put_none c.args.at c.args.out.now

pub each-preserved : goal.each-preserved
each-preserved c =
    c.put.ensures ∙ word_put c.args.at _ c.args.out.now c.each.out c.args.words.now _ c.each.word c.each.invariant c.to_be_bytes.ensures (omega arith) (omega arith)

pub returns : goal.returns
returns c = let done : c.each.word ≡ 8 = omega arith in rw done at c.each.invariant
