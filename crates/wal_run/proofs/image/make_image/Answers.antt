use Rattle.wal_run.proofs.Common.{refl, ap, ◌∙◌, flat_bytes, lacks, succeeds}
use Rattle.wal_run.proofs.ImageLaws.{packed_made, packed_refused}
use Rattle.wal_run.proofs.image.make_image.Goals as goal

pub returns-in_default : goal.returns-in_default
returns-in_default g c = λ other. absurd (other refl)

pub returns-in-Ok : goal.returns-in-Ok
returns-in-Ok g c =
    let old = c.in-Some.journal in
    let new = c.in-Ok.journal in
    let takes = c.in-Ok.ensures.packs in
    let shown = flat_bytes c.create.result.disk in
    succeeds _ (rw c.create.ensures.size (packed_made g.H.Hash32.digest c.args.size c.args.payloads.now old.keep.contents (flat_bytes old.disk) (flat_bytes new.disk) shown old.tail new.tail c.tail-size.result c.in-Some.ensures.zeros
    c.in-Some.ensures.blank takes.accepts takes.tail takes.gate takes.size (ap flat_bytes (c.create.ensures.disk ∙ c.close-disk.ensures.disk)) c.tail-size.ensures.value))

pub returns-in-Err-Kept-default-DiskFull : goal.returns-in-Err-Kept-default-DiskFull
returns-in-Err-Kept-default-DiskFull g c = λ other.
    let old = c.in-Some.journal in
    let new = c.in-Err-Kept-default-DiskFull.field-0-0 in
    let refuses = rw c.in-Err-Kept-default-DiskFull.field-0-is at c.in-Err-Kept-default-DiskFull.ensures.packs in
    let full = rw c.in-Err-Kept-default-DiskFull.field-0-1-is at refuses.refused in
    let needed = c.in-Err-Kept-default-DiskFull.needed in
    let free = c.in-Err-Kept-default-DiskFull.free in
    lacks _ (
      needed,
      free,
      packed_refused g.H.Hash32.digest c.args.size c.args.payloads.now old.keep.contents (flat_bytes old.disk) (flat_bytes new.disk) old.tail new.tail needed free
          c.in-Some.ensures.zeros c.in-Some.ensures.blank refuses.first refuses.id refuses.part refuses.bytes refuses.rest refuses.are refuses.long refuses.takes.accepts refuses.takes.tail refuses.takes.size full.0 full.1 full.2,
      refl,
    )
