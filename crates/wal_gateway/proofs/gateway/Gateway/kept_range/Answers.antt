-- A blob in the list is checked.
use Rattle.wal_gateway.proofs.Common.{◌∙◌, sym, ap, option_copied}
use Rattle.wal_gateway.proofs.Sound.{found_checked}
use Rattle.wal_gateway.proofs.gateway.Gateway.kept_range.Goals as goal

pub range_in-requires : goal.range_in-requires
range_in-requires g c =
    (found_checked g.H.Hash32.digest c.args.id.now c.self.inside.blobs.entries c.in-Some.blob.now c.self.invariant.0 (sym c.peek.ensures ∙ ap option_copied c.in-Some.is)).long
