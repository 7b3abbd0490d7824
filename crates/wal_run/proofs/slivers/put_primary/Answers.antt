use Rattle.wal_run.proofs.Common.{◌≡◌, ◌++◌, ◌∙◌, ℕ, List, length, sym, arith, Primary, column_count, envelope, sliver_frame}
use Rattle.wal_run.proofs.Parts.{failed_before, failed_after, put_both}
use Rattle.wal_run.proofs.ShardTexts.{sliver_fits}
use Rattle.wal_run.proofs.slivers.put_primary.Goals as goal

-- the envelope of a sliver in two parts
parts : (id : List ℕ) (shard index : ℕ) {sliver front head bytes : List ℕ} {size count : ℕ} → front ≡ head
    → ((xs : List ℕ) → length xs ≡ size → head ++ xs ≡ envelope shard (sliver_frame id Primary index xs)) → size ≡ count → length bytes ≡ count
    → bytes ≡ sliver → envelope shard (sliver_frame id Primary index sliver) ≡ front ++ bytes
parts id shard index front_is joins size_is long is = rw (front_is, ← is) (sym (joins _ (long ∙ sym size_is)))

pub begin_sliver-requires-clause-size : goal.begin_sliver-requires-clause-size
begin_sliver-requires-clause-size g c =
    sliver_fits _ _ (column_count c.args.encoded.now.shape.f) _ c.requires.fit (omega arith) (rw c.shape.ensures at c.sliver_len-size.ensures.value)

pub returns-in_err-put_all-clause-part : goal.returns-in_err-put_all-clause-part
returns-in_err-put_all-clause-part g c =
    failed_before _ _ _ _ _ _
    (parts _ _ _ c.bytes.ensures c.begin_sliver.ensures.joins (rw c.shape.ensures at c.sliver_len-size.ensures.value) c.primary-bytes.ensures.long c.primary-bytes.ensures.value)
    c.in_err-put_all.ensures.part

pub returns-clause-whole : goal.returns-clause-whole
returns-clause-whole g c =
    put_both _ _ _ _ _ _ _
    (parts _ _ _ c.bytes.ensures c.begin_sliver.ensures.joins (rw c.shape.ensures at c.sliver_len-size.ensures.value) c.primary-bytes.ensures.long c.primary-bytes.ensures.value)
    c.in_ok-put_all.ensures.whole c.put_all-2.ensures.whole

pub returns-clause-part : goal.returns-clause-part
returns-clause-part g c =
    failed_after _ _ _ _ _ _ _
    (parts _ _ _ c.bytes.ensures c.begin_sliver.ensures.joins (rw c.shape.ensures at c.sliver_len-size.ensures.value) c.primary-bytes.ensures.long c.primary-bytes.ensures.value)
    c.in_ok-put_all.ensures.whole c.put_all-2.ensures.part
