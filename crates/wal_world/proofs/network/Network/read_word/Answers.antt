use Rattle.wal_world.proofs.Common.{IfOk-weaker, ℕ, List, refl, sym, subst, IsCollision, Outcome, IsOutcome, both_metadata, world_of, Bytes, Reject}
use Rattle.wal_reader.proofs.FirstOnes.{first_two}
use Rattle.wal_world.proofs.ReadWords.{reads_is, told_bytes, told_reject}
use Rattle.wal_world.proofs.network.Network.read_word.Goals as goal

pub returns-in-Bytes-Some-clause-word : goal.returns-in-Bytes-Some-clause-word
returns-in-Bytes-Some-clause-word g c =
    let w = world_of c.args.self.now in
    IfOk-weaker c.read_bytes.result _ _ (λ t h. told_bytes g.H.Hash32.digest w.log.f w (world_of c.read_bytes.new.self) c.args.id.now c.args.payloads.now c.in-Bytes-Some.bytes c.in-Bytes-Some.e t
    (reads_is g.H.Hash32.digest c.args.id.now c.args.payloads.now c.args.answer.outcome c.args.answer.evidence (Bytes c.in-Bytes-Some.bytes) c.in-Bytes-Some.e c.in-Bytes-Some.is-0 c.in-Bytes-Some.is-1
    c.requires.outcome c.requires.evidence) h) c.read_bytes.ensures.word

pub returns-in-Reject-Some-clause-word : goal.returns-in-Reject-Some-clause-word
returns-in-Reject-Some-clause-word g c =
    let w = world_of c.args.self.now in
    IfOk-weaker c.read_answer.result _ _ (λ t h. told_reject g.H.Hash32.digest w.log.f w (world_of c.read_answer.new.self) c.args.id.now c.args.payloads.now c.in-Reject-Some.e t
    (reads_is g.H.Hash32.digest c.args.id.now c.args.payloads.now c.args.answer.outcome c.args.answer.evidence Reject c.in-Reject-Some.e c.in-Reject-Some.is-0 c.in-Reject-Some.is-1
    c.requires.outcome c.requires.evidence) h) c.read_answer.ensures.word

pub returns-in_ok-clash_texts-in-Collision-default-clause-word : goal.returns-in_ok-clash_texts-in-Collision-default-clause-word
returns-in_ok-clash_texts-in-Collision-default-clause-word g c =
    let digest = g.H.Hash32.digest in
    let clash = c.in-Collision-default.clash in
    let texts = c.in_ok-clash_texts-in-Collision-default in
    let two = subst (λ (o : Outcome). IsOutcome digest c.args.id.now.0 c.args.payloads.now o) c.in-Collision-default.is-0 c.requires.outcome in
    let differ = first_two digest c.args.id.now.0 c.args.payloads.now two.0 two.1 two.2 in
    let left = subst (λ (x : List ℕ). IsCollision digest x clash.right) (sym texts.ensures.left) two.3 in
    (subst (λ (x : List ℕ). IsCollision digest texts.field-0.left x) (sym texts.ensures.right) left, (both_metadata (two.0, two.1, differ.0, differ.1, differ.2), refl))
