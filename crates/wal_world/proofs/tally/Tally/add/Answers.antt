use Rattle.wal_world.proofs.Common.{ℕ, ◌+◌, ◌-◌, ◌^◌, min, cond, Option, option_to_list, ◌++◌, refl, ap, subst, ◌∙◌, IsFromIterResult, reduce, BlobId, id_cmp}
use Rattle.wal_world.proofs.Tallies.{tally_push}
use Rattle.wal_world.proofs.tally.Tally.add.Goals as goal

pub returns : goal.returns
returns c =
    let old = c.args.self.now in
    tally_push c.args.line.now old _ c.size_of_read-size.result refl
    (λ seen from.
    let From : Option BlobId → Type 0 = λ o. IsFromIterResult id_cmp (seen ++ option_to_list o) c.put_id.new.ids in
    subst From c.certified_of.ensures (c.in_ok-put_id.ensures seen from))
    c.size_of_read-size.ensures
    (c.one_more-self.ensures ∙ ap (λ b. old.reads + cond b 1 0) c.is_some.ensures)
    (c.saturating_add-self.ensures ∙ ap (λ n. min (old.bytes + n) (2 ^ 64 - 1)) c.unwrap_or.ensures)
    (c.one_more-self-2.ensures ∙ ap (λ b. old.recovered + cond b 1 0) c.has_sliver.ensures)
    (c.lesser-self.ensures ∙ ap (λ (o : Option ℕ). reduce min (option_to_list old.least_holders ++ option_to_list o)) c.holders_of.ensures)
