use Rattle.wal_ledger.proofs.Common.{◌≡◌, ◌+◌, ◌∷◌, ◌++◌, [], ℕ, ap, sym, ◌∙◌, subst, IsTally, link_in, node_size, tally_after}
use Rattle.wal_ledger.proofs.TallyLaws.{tally_signed}
use Rattle.wal_ledger.proofs.tally.Tally.after.Goals as goal

pub returns-clause-signed : goal.returns-clause-signed
returns-clause-signed c first shard owners own kind entries links x i claim epoch sized entries_len links_len =
    let signed = tally_signed c.args.f first c.args.place c.args.size shard owners own kind entries links c.args.self.now x i claim (sized ∙ ap (λ (e : ℕ). node_size c.args.f (owners e) shard) (sym epoch)) entries_len links_len in
    let at_epoch = subst (λ (e : ℕ). IsTally c.args.f owners (own ++ x ∷ []) kind (entries ++ x ∷ []) (links ++ link_in e c.args.self.now ∷ []) (tally_after c.args.f e c.args.place c.args.size c.args.self.now)) epoch signed in
    let made : tally_after c.args.f c.args.epoch c.args.place c.args.size c.args.self.now ≡ record { epoch = c.args.epoch; count = c.count_in.result + c.args.size; last = c.args.place + 1; quorum = c.quorum_after.result } = cc in
    subst (IsTally c.args.f owners (own ++ x ∷ []) kind (entries ++ x ∷ []) (links ++ link_in c.args.epoch c.args.self.now ∷ [])) made at_epoch
