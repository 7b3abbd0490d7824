-- Two texts of one length, of which pieces were compared in order.
use Rattle.wal_shard.proofs.Common.{◌≡◌, ◌≢◌, ℕ, ◌+◌, Option, Some, IsSome, List, [], take, drop, unwrap_or, ap, ◌∙◌}
use Rattle.std.proofs.Math.Seq.{take-add}
use Rattle.wal_shard.proofs.HeldLaws.{some_of}

-- with one more piece that is the same
pub same_more : (held given : List ℕ) (done size : ℕ) → take done held ≡ take done given → take size (drop done held) ≡ take size (drop done given)
    → take (done + size) held ≡ take (done + size) given
same_more held given done size before same = cc (take-add done size held, take-add done size given)

-- what is there and is not this is another
pub another : (o : Option (List ℕ)) (text : List ℕ) → IsSome o → (o ≡ Some text → ⊥) → (other : List ℕ) × (o ≡ Some other) × (other ≢ text)
another o text some not = (unwrap_or o [], some_of o some, λ same. not (some_of o some ∙ ap (λ (x : List ℕ). Some x) same))
