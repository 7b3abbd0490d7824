-- The evidence contradicts the blob that is in the list.
use Rattle.wal_gateway.proofs.Common.{◌∙◌, sym, ap, length, option_copied, AreDigestedForEvidence, AreDigestedForKept}
use Rattle.std.proofs.lemmas.Result.{IfOk-weaker}
use Rattle.wal_shape.specs.declared.text.Collision.{Collision}
use Rattle.wal_gateway.proofs.Sound.{contradicts_bytes, found_checked, kept_texts}
use Rattle.wal_gateway.proofs.gateway.Gateway.collision.Goals as goal

pub blob_and_evidence-requires-clause-fits : goal.blob_and_evidence-requires-clause-fits
blob_and_evidence-requires-clause-fits g c =
    ap length c.as_slice.ensures
    ∙ (found_checked g.H.Hash32.digest c.args.id.now c.self.inside.blobs.entries c.in-Some.blob.now c.self.invariant.0 (sym c.peek.ensures ∙ ap option_copied c.in-Some.is)).long

pub blob_and_evidence-requires-clause-contrary : goal.blob_and_evidence-requires-clause-contrary
blob_and_evidence-requires-clause-contrary g c =
    contradicts_bytes g.H.Hash32.digest c.self.inside.blobs.entries c.self.inside.blobs.cap c.args.self.now c.args.id.now c.args.e.now c.in-Some.blob.now c.as_slice.result.now
    c.self.view_is c.self.invariant.0 c.requires (sym c.peek.ensures ∙ ap option_copied c.in-Some.is) c.as_slice.ensures

pub returns-clause-texts : goal.returns-clause-texts
returns-clause-texts g c =
    let digest = g.H.Hash32.digest in
    let blob = c.in-Some.blob.now in
    let bytes = c.as_slice.result.now in
    IfOk-weaker c.blob_and_evidence.result (λ (t : Collision). AreDigestedForEvidence digest blob.shape bytes c.args.e.now t.left t.right)
    (λ (t : Collision). AreDigestedForKept digest c.args.self.now c.args.id.now c.args.e.now t.left t.right)
    (λ t. kept_texts digest c.self.inside.blobs.entries c.self.inside.blobs.cap c.args.self.now c.args.id.now c.args.e.now blob bytes t.left t.right
    c.self.view_is (sym c.peek.ensures ∙ ap option_copied c.in-Some.is) c.as_slice.ensures)
    c.blob_and_evidence.ensures.texts
