-- Texts that differ collide, and else the metadata have the same numbers and one root over different pairs.
use Rattle.wal_commit.proofs.Common.{◌≡◌, ◌≢◌, ◌∙◌, inl, inr, sym, rules, metadata_shown, identifier_text, are_bytes}
use Rattle.wal_commit.proofs.Clashes.{one_digest, pairs_apart, same_heads}
use Rattle.wal_commit.proofs.clash.collide_metadata.Goals as goal

pub returns-then-ne-clause-collision : goal.returns-then-ne-clause-collision
returns-then-ne-clause-collision g c =
    let a = metadata_shown c.args.a in
    let b = metadata_shown c.args.b in
    let differ : c.identified-left.result ≢ c.identified-right.result = search rules in
    record {
      left = are_bytes c.identified-left.result c.bytes.result.now c.bytes.ensures.value c.bytes.ensures.range;
      right = are_bytes c.identified-right.result c.bytes-2.result.now c.bytes-2.ensures.value c.bytes-2.ensures.range;
      differ = differ;
      same = one_digest g.H.Hash32.digest a b c.identified-left.result c.identified-right.result c.requires.one c.identified-left.ensures c.identified-right.ensures;
    }

pub collide_short_lists-requires-clause-differ : goal.collide_short_lists-requires-clause-differ
collide_short_lists-requires-clause-differ g c =
    let a = metadata_shown c.args.a in
    let b = metadata_shown c.args.b in
    let same : c.identified-left.result ≡ c.identified-right.result = search rules in
    let texts : identifier_text g.H.Hash32.digest a ≡ identifier_text g.H.Hash32.digest b = sym c.identified-left.ensures ∙ same ∙ c.identified-right.ensures in
    (λ e. pairs_apart a b c.split_spelling.ensures.metadata c.split_spelling-2.ensures.metadata c.requires.differ (same_heads g.H.Hash32.digest a b texts)
    (sym c.split_spelling.ensures.pairs ∙ e ∙ c.split_spelling-2.ensures.pairs))

pub returns-then-ne-clause-texts : goal.returns-then-ne-clause-texts
returns-then-ne-clause-texts g c =
    let differ : c.identified-left.result ≢ c.identified-right.result = search rules in
    inl (
      (λ e. differ (c.identified-left.ensures ∙ e ∙ sym c.identified-right.ensures)),
      c.identified-left.ensures,
      c.identified-right.ensures,
    )

pub returns-clause-texts : goal.returns-clause-texts
returns-clause-texts g c =
    let same : c.identified-left.result ≡ c.identified-right.result = search rules in
    inr (
      sym c.identified-left.ensures ∙ same ∙ c.identified-right.ensures,
      rw (c.split_spelling.ensures.pairs, c.split_spelling-2.ensures.pairs) at c.collide_short_lists.ensures.texts,
    )
