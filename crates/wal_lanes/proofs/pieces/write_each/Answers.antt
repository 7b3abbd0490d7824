use Rattle.wal_lanes.proofs.Common.{◌≡◌, ℕ, ◌*◌, ◌∷◌, List, take, drop, ap, ◌∙◌, refl, arith, sha256}
use Rattle.wal_lanes.proofs.Parts.{pieces_within}
use Rattle.wal_lanes.proofs.Written.{are_more, are_none}
use Rattle.wal_lanes.proofs.pieces.write_each.Goals as goal

pub each-init : goal.each-init
each-init c = are_none sha256 c.args.prefix c.args.size c.args.content.now c.args.out.now (c.requires.room ∙ ap (λ n. n * 32) c.requires.count)

pub pieces-requires : goal.pieces-requires
pieces-requires c = pieces_within c.each.place 1 c.args.count c.args.size _ (omega arith) c.requires.whole

pub each-preserved : goal.each-preserved
each-preserved c =
    let one : 1 * c.args.size ≡ c.args.size = omega arith in
    are_more sha256 c.args.prefix c.args.size c.args.content.now c.each.out c.put.new.out c.digest_of-digest.result (c.each.place * 32) c.each.place c.each.invariant c.put.ensures refl (omega arith)
    c.digest_of-digest.ensures.long
    (c.digest_of-digest.ensures.digest ∙ ap (λ (l : List ℕ). sha256 (c.args.prefix ∷ l)) (c.pieces.ensures.pieces ∙ ap (λ n. take n (drop (c.each.place * c.args.size) c.args.content.now)) one))

pub returns : goal.returns
returns c = let done : c.each.place ≡ c.args.count = omega arith in rw done at c.each.invariant
