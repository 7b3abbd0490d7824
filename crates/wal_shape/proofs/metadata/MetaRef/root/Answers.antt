use Rattle.wal_shape.proofs.Common.{ℕ, List, Some, sym, ap, ◌∙◌, metadata_shown}
use Rattle.wal_shape.proofs.MetadataLaws.{slice_get-roots_of, root_place-within}
use Rattle.wal_shape.proofs.metadata.MetaRef.root.Goals as goal

pub root_at-requires : goal.root_at-requires
unfolding metadata_shown
root_at-requires c =
    rw (c.root_place.ensures, c.split_format.ensures.behind) (root_place-within c.args.axis c.held.result c.args.self.now.bytes.now c.held.ensures.within c.args.self.now.whole)

pub returns-clause-root : goal.returns-clause-root
unfolding metadata_shown
returns-clause-root c =
    slice_get-roots_of c.args.axis c.args.index c.args.self.now.bytes.now c.requires
    ∙ ap (λ (root : List ℕ). Some root) (sym (rw (c.root_place.ensures, c.held.ensures.value, c.split_format.ensures.behind) at c.root_at.ensures.root))
