use Rattle.wal_matrix.proofs.Common.{rules, ◌≡◌, ℕ, ◌-◌, ◌*◌, List, length, vec_len, take, replicate, sym, ap, ◌∙◌, subst, take_at, BeginsCodeword}
use Rattle.wal_matrix.proofs.expansion.fill_word.Goals as goal

pub returns-clause-word : goal.returns-clause-word
returns-clause-word c =
    let first : take (c.args.known * c.args.size) c.deref_mut.result.now ≡ c.args.sliver.now =
    ap (λ (xs : List ℕ). take (c.args.known * c.args.size) xs) (search rules)
    ∙ take_at c.args.sliver.now (replicate (c.args.total * c.args.size - length c.args.sliver.now) 0) (c.args.known * c.args.size) c.requires.sliver in
    let P : List ℕ → List ℕ → Type 0 = λ xs ys. BeginsCodeword c.args.known c.args.total c.args.size xs ys in
    let whole : length c.extend_symbols.new.symbols ≡ vec_len c.refill.new.symbols = c.extend_symbols.auto.symbols ∙ c.deref_mut.ensures.len in
    subst (P c.args.sliver.now) (sym (take_at c.extend_symbols.new.symbols _ _ whole)) (subst (λ xs. P xs c.extend_symbols.new.symbols) first c.extend_symbols.ensures)
