use Rattle.wal_serve.proofs.Common.{◌≡◌, ℕ, List, [], ◌∷◌, ◌++◌, ap, sym, subst, ◌∙◌, append-nil, arith, size_in, IsHead}
use Rattle.wal_serve.proofs.TakingLaws.{head_of}
use Rattle.wal_serve.proofs.envelopes.size_of.Goals as goal

pub returns : goal.returns
returns c =
    let fields = c.args.fields.now in
    let new = c.copy_from_slice.new.self in
    let same : new ++ [] ≡ fields = append-nil new ∙ c.copy_from_slice.ensures.after in
    let size : c.size_in.result ≡ size_in (0x57 ∷ fields) = c.size_in.ensures ∙ ap (λ (t : List ℕ). size_in (0x57 ∷ t)) same in
    let P : ℕ → Type 0 = λ k. IsHead k (0x57 ∷ fields) in
    subst P (sym size) (head_of fields (λ i. omega (arith, c.type_inv.fields i)) c.requires)
