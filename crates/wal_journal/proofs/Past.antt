-- One more step joins those that a disk in memory has had.
use Rattle.wal_journal.proofs.Common.{◌≡◌, inl, inr, ℕ, ◌+◌, ◌*◌, ◌<◌, ◌≤◌, List, [], ◌∷◌, ◌++◌, length, take, drop, refl, sym, arith, length-append, length-drop, cases_lt, take_at, drop_at, take_all, drop-append-le, take-append-le, Written, Synced, Agrees, Elapses}
use Rattle.std.proofs.Math.Nat.{mul-le-mul_right}
use Rattle.wal_journal.specs.declared.mem_disk.Step.{Step}
use Rattle.wal_journal.specs.MemDisk.{pending_after, kept_at, LeftSince}

-- a write as the last step is pending, beside what was pending before it
pub pending_push : (pending : List (ℕ × ℕ)) (steps : List Step) (at n : ℕ) → pending_after pending (steps ++ Written at n ∷ []) ≡ (at, n) ∷ pending_after pending steps
pending_push pending [] at n = refl
pending_push pending (Written a m ∷ steps) at n = pending_push ((a, m) ∷ pending) steps at n
pending_push pending (Synced ∷ steps) at n = pending_push [] steps at n

pub pending_synced : (pending : List (ℕ × ℕ)) (steps : List Step) → pending_after pending (steps ++ Synced ∷ []) ≡ []
pending_synced pending [] = refl
pending_synced pending (Written a m ∷ steps) = pending_synced ((a, m) ∷ pending) steps
pending_synced pending (Synced ∷ steps) = pending_synced [] steps

module _ (steps : List Step) (step : Step) (past bytes new : List ℕ) (kept : length past ≡ length steps * length bytes)
    (long : length new ≡ length bytes) where
  kept_below : (k : ℕ) → k < length steps → (take k (steps ++ step ∷ []) ≡ take k steps) ×
      (kept_at (length new) (past ++ bytes) k ≡ kept_at (length bytes) past k)
  kept_below k lt =
      let n = length bytes in
      let most : (k + 1) * n ≤ length steps * n = mul-le-mul_right n (omega (arith, lt)) in
      let fits : k * n + n ≤ length past = omega (arith, most, kept) in (
        take-append-le k steps (step ∷ []) (omega (arith, lt)),
        cc (
          long,
          drop-append-le (k * n) past bytes (omega (arith, fits)),
          take-append-le n (drop (k * n) past) bytes (omega (arith, fits, length-drop (k * n) past)),
        ),
      )

  kept_last : (k : ℕ) → k ≡ length steps
      → (take k (steps ++ step ∷ []) ≡ steps) × (kept_at (length new) (past ++ bytes) k ≡ bytes)
  kept_last k is = (
    take_at steps (step ∷ []) k (sym is),
    cc (is, long, drop_at past bytes (length steps * length bytes) kept, take_all (length bytes) bytes (omega arith)),
  )

  pub elapses_step : Elapses (length steps) (length (steps ++ step ∷ [])) (LeftSince steps past bytes) (LeftSince (steps ++ step ∷ []) (past ++ bytes) new) (Agrees (pending_after [] (steps ++ step ∷ [])) new)
  elapses_step = record {
    later = omega (arith, more);
    nothing_else = λ t image. elim [
      | inl now ↦ inr now
      | inr left ↦ elim (cases_lt left.0 (length steps)) [
        | inl lt ↦
            let same = kept_below left.0 lt in
            inl (omega (arith, left.1, lt), inr (left.0, left.1, lt, rw (same.0, same.1) at left.3))
        | inr ge ↦
            let here : left.0 ≡ length steps = omega (arith, left.2, ge, more) in
            let same = kept_last left.0 here in
            let le : t ≤ length steps = omega (arith, left.1, here) in
            inl (le, inl (le, rw (same.0, same.1) at left.3))
      ]
    ];
    keeps = λ t image le. elim [
      | inl now ↦
          let same = kept_last (length steps) refl in
          inr (length steps, now.0, omega (arith, more), rw (same.0, same.1) now.1)
      | inr left ↦
          let same = kept_below left.0 left.2 in
          inr (left.0, left.1, omega (arith, left.2, more), rw (same.0, same.1) left.3)
    ];
  }
    where
      more : length (steps ++ step ∷ []) ≡ length steps + 1
      more = omega (arith, length-append steps (step ∷ []))
