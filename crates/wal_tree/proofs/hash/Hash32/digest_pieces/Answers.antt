use Rattle.wal_tree.proofs.Common.{ℕ, ◌*◌, ◌∷◌, List, length, ap, subst, ◌∙◌, refl, arith, AreDigests, piece_within}
use Rattle.wal_lanes.proofs.Written.{are_more, are_none}
use Rattle.wal_tree.proofs.hash.Hash32.digest_pieces.Goals as goal

pub each-init : goal.each-init
each-init g c = are_none g.Self.Hash32.digest c.args.prefix c.args.size c.args.content.now c.args.out.now c.requires.room

pub piece_at-requires : goal.piece_at-requires
piece_at-requires g c = piece_within c.each.place _ c.args.size _ (omega arith) c.requires.whole

pub each-preserved : goal.each-preserved
each-preserved g c =
    are_more g.Self.Hash32.digest c.args.prefix c.args.size c.args.content.now c.each.out c.put.new.out c.hash3-digest.result (c.each.place * 32) c.each.place c.each.invariant c.put.ensures.put refl (omega arith)
    (ap length c.hash3-digest.ensures ∙ g.met.Self.Hash32.size _)
    (c.hash3-digest.ensures ∙ ap (λ (l : List ℕ). g.Self.Hash32.digest (c.args.prefix ∷ l)) c.piece_at.ensures)

pub returns : goal.returns
returns g c = subst (λ n. AreDigests g.Self.Hash32.digest c.args.prefix c.args.size c.args.content.now n c.each.out) (omega arith) c.each.invariant
