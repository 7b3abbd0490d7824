-- Entries change the records and the context as the definitions say.
use Rattle.std.proofs.Common.{◌≡◌, ℕ, zero, suc, ◌+◌, ◌<◌, ◌≤◌, true, subst, List, [], ◌∷◌, ◌++◌, length, take, map, set, get_or, refl, ap, sym, ◌∙◌, arith}
use Rattle.std.proofs.lemmas.List.{length-append}
use Rattle.std.proofs.lemmas.List.Sums.{fold_more}
use Rattle.wal_shape.specs.Owners.{are_owners}
use Rattle.wal_ledger.specs.Shards.{committee_size}
use Rattle.wal_record.specs.declared.context.Epoch.{Epoch}
use Rattle.wal_record.specs.Context.{Context, writes, writers}
use Rattle.wal_record.specs.Told.{IsFit, context_told}
use Rattle.wal_follow.specs.declared.item.Item.{Item}
use Rattle.wal_follow.specs.declared.outcome.Outcome.{Outcome}
use Rattle.wal_follow.specs.Enter.{Kept, entered, entered_next, entered_all}

pub map_set : {A B : Type 0} (f : A → B) (xs : List A) (i : ℕ) (x : A) → map f (set xs i x) ≡ set (map f xs) i (f x)
map_set f [] i x = refl
map_set f (y ∷ xs) zero x = refl
map_set f (y ∷ xs) (suc i) x = ap (λ l. f y ∷ l) (map_set f xs i x)

-- an epoch with a context is as fit as that is
pub fit_of : (epoch : Epoch) (context : Context) → context_told epoch ≡ context → context.f ≤ 333 → writes context ≤ 65535 → are_owners (committee_size context.f) (writers context) ≡ true → IsFit epoch
fit_of epoch context is faults epochs owned = record {
  faults = subst (λ (x : Context). x.f ≤ 333) (sym is) faults;
  epochs = subst (λ (x : Context). writes x ≤ 65535) (sym is) epochs;
  owned = subst (λ (x : Context). are_owners (committee_size x.f) (writers x) ≡ true) (sym is) owned;
}

-- one more entry
pub entered_more : (start old new : Kept) (items : List Item) (i : ℕ) (item : Item) (outcomes more : List Outcome) (outcome : Outcome)
    → (outcomes, old) ≡ entered_all start (take i items) → i < length items → item ≡ get_or items i item
    → (outcome, new) ≡ entered old item → more ≡ outcomes ++ outcome ∷ []
    → (more, new) ≡ entered_all start (take (i + 1) items)
entered_more start old new items i item outcomes more outcome so_far below is now pushed =
    let grows = fold_more entered_next ([], start) items i item below in
    let same : entered_next (outcomes, old) item ≡ (more, new) = rw (← now, pushed) refl in
    sym same ∙ ap (λ (s : List Outcome × Kept). entered_next s item) so_far
    ∙ ap (λ (x : Item). entered_next (entered_all start (take i items)) x) is ∙ sym grows

pub length_push : {A : Type 0} (xs ys : List A) (x : A) (n : ℕ) → length xs ≡ n → ys ≡ xs ++ x ∷ [] → length ys ≡ n + 1
length_push xs ys x n count pushed = rw pushed (omega (arith, count, length-append xs (x ∷ [])))
