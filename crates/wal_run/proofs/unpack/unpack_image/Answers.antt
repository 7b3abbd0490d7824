use Rattle.wal_run.proofs.Common.{inl, inr, refl, nil_from_length, no_contents, after_calls, success, unreadable, contents_text, rules, ◌≡◌, ℕ, length, sym, ap, subst, ◌∙◌, flat_bytes, IsResult, malformed_text, unpacking}
use Rattle.wal_journal.specs.declared.open.OpenFault.TheVariants.{BadRecord}
use Rattle.wal_run.proofs.ListingLaws.{broken_is}
use Rattle.wal_run.proofs.Says.{no_memory}
use Rattle.wal_run.proofs.unpack.unpack_image.Goals as goal

pub returns-then-is_empty : goal.returns-then-is_empty
returns-then-is_empty g c = λ other.
    let none : length c.args.image.now ≡ 0 = search rules in
    unreadable _ (inr (c.args.image.now, refl, (0, inl (nil_from_length _ none, refl), refl)))

pub returns-in_err-bytes : goal.returns-in_err-bytes
returns-in_err-bytes g c = no_memory _ _ c.from_residual.ensures.1

pub returns-in_err-keep : goal.returns-in_err-keep
returns-in_err-keep g c = no_memory _ _ c.from_residual-in_err-keep.ensures.1

pub returns-in_err-text-in-Ok : goal.returns-in_err-text-in-Ok
returns-in_err-text-in-Ok g c = no_memory _ _ c.from_residual-in_err-text-in-Ok.ensures.1

pub returns-in-Ok : goal.returns-in-Ok
returns-in-Ok g c =
    let journal = c.in-Ok.journal in
    let opened = c.in-Ok.ensures.opened in
    let accepts = rw (c.in-Ok.ensures.same ∙ c.create-2.ensures ∙ c.in_ok-bytes.ensures.items) at opened.1.accepts in
    let holds : c.keep.result.now.contents ≡ after_calls no_contents opened.0 = ap (λ k. k.contents) c.keep.ensures.value ∙ opened.1.holds in
    success _ (c.args.image.now, refl, (opened.0, accepts, c.from_vec.ensures ∙ c.in_ok-text-in-Ok.ensures ∙ ap contents_text holds))

pub returns-in-Err-BadRecord : goal.returns-in-Err-BadRecord
returns-in-Err-BadRecord g c = λ other.
    let why : c.in-Err-BadRecord.field-0.why ≡ BadRecord c.in-Err-BadRecord.at = search rules in
    let opening = rw why at c.in-Err-BadRecord.ensures.opening in
    let at = c.in-Err-BadRecord.at in
    let told = broken_is g.H.Hash32.digest c.args.image.now (flat_bytes c.create-2.result) at c.in-Err-BadRecord.field-0.keep.contents opening.0 (c.create-2.ensures ∙ c.in_ok-bytes.ensures.items) opening.1 opening.2 opening.3 in
    subst (λ (k : ℕ). IsResult g.H.Hash32.digest unpacking c.args.image.now 8 (malformed_text k)) (sym c.in-Err-BadRecord.at-is) told
