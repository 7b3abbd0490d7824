use Rattle.wal_commit.proofs.Common.{◌≡◌, ◌++◌, ◌∷◌, ◌∙◌, ap, ap₂, List, ℕ, metadata_shown, root_over, identifier_of, identifier_tag}
use Rattle.wal_commit.proofs.identifier.identify.Goals as goal

pub returns : goal.returns
unfolding identifier_of
returns g c =
    let m = metadata_shown c.args.m in
    let tag : c.tag_of.result ≡ identifier_tag m.format = c.tag_of.ensures ∙ ap identifier_tag c.format.ensures in
    record {
      fit = c.split_spelling.ensures.metadata;
      identifier =
          c.hash3.ensures
          ∙ ap (λ (t : ℕ). g.H.Hash32.digest (t ∷ (c.split_spelling.result.0.now ++ c.root.result))) tag
          ∙ ap₂ (λ (h r : List ℕ). g.H.Hash32.digest (identifier_tag m.format ∷ (h ++ r))) c.split_spelling.ensures.head (c.root.ensures ∙ ap (root_over g.H.Hash32.digest 64) c.split_spelling.ensures.pairs);
    }
