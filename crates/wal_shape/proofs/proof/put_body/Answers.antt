use Rattle.wal_shape.proofs.BodyLaws.{put_text}
use Rattle.wal_shape.proofs.proof.put_body.Goals as goal

pub returns : goal.returns
returns c =
    rw (c.in_ok-extend_from_slice-4.ensures.items, c.in_ok-push.ensures.items, c.in_ok-extend_from_slice-3.ensures.items, c.in_ok-extend_from_slice-2.ensures.items, c.in_ok-extend_from_slice.ensures.items, c.to_be_bytes.ensures, c.to_be_bytes-2.ensures, c.as_slice-symbol.ensures, c.as_slice-path.ensures.value)
    (put_text c.args.out.now.items c.args.opening.now c.requires)
