use Rattle.wal_reader.proofs.Common.{◌∷◌, [], sym, ◌∙◌, append-nil, false≢true, kept, dropped, none}
use Rattle.wal_reader.proofs.SiftLaws.{sift_both}
use Rattle.wal_reader.proofs.kept.wait.Goals as goal

pub returns-then-carries_no_part : goal.returns-then-carries_no_part
returns-then-carries_no_part c = λ payloads was.
    rw append-nil at (sift_both c.args.id.now.0 c.args.parts.items payloads [] (c.args.payload.now ∷ []) was
    (dropped c.args.payload.now [] [] (c.carries_no_part.ensures.0 c.if-carries_no_part.true) none))

pub returns : goal.returns
returns c = λ payloads was.
    let payload = c.args.payload.now in
    rw (c.in_ok-push.ensures.items, c.from_vec.ensures, c.in_ok-from_slice.ensures.items)
    (sift_both c.args.id.now.0 c.args.parts.items payloads (payload ∷ []) (payload ∷ []) was
    (kept payload [] [] (λ idle. false≢true (sym c.if-carries_no_part.false ∙ c.carries_no_part.ensures.1 idle)) none))
