use Rattle.std.proofs.Common.{◌≡◌, ℕ, Bool, ◌||◌, ap, ◌∙◌}
use mathlib.Core.Path.{fun_ext}
use Rattle.wal_ledger.specs.Shards.{committee_size}
use Rattle.wal_ledger.specs.Ledger.{same_node}
use Rattle.wal_record.specs.Bits.{member}
use Rattle.wal_record.specs.Record.{Votes, within}
use Rattle.wal_record.specs.Told.{votes_told}
use Rattle.wal_record.proofs.record.Tally.voted.Goals as goal

pub returns : goal.returns
returns c =
    let set : ℕ → Bool = within (committee_size c.args.f) (same_node c.args.owners.now c.args.shard) in
    let before = votes_told c.in_epoch-tally.result in
    let signed : member c.add_node.new.self.words ≡ (λ s. before.signed s || set s) = fun_ext (λ s. c.add_node.ensures s) in
    ap (λ (m : ℕ → Bool). record before { signed = m }) signed
    ∙ ap (λ (v : Votes). record v { signed = λ s. v.signed s || set s }) c.in_epoch-tally.ensures
