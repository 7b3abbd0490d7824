-- Flags of the numbers in a list, and lists without repetition.
use Rattle.wal_evidence.proofs.Common.{◌≡◌, ◌≢◌, ◌⊎◌, ℕ, ◌<◌, List, [], ◌∷◌, ◌++◌, length, take, get_or, replicate, Bool, true, false, Contains, sym, ◌∙◌, arith, ⊎_elim, nat_eq, slice_set, cases_eq, false≢true, get_or_default, get_or-replicate, get_or-set_other, get_or-set_same, get_or-take, length-replicate, length-set, length-take-le, Contains-append_left, Contains-push, Contains-push_cases, Distinct, Marks, most_shards}
use Rattle.std.proofs.lemmas.Bool.Decides.{Decides-eqb}
use Rattle.std.proofs.lemmas.List.Quantifiers.{all_pairs_push}
use Rattle.std.proofs.lemmas.Map.Made.{is_member-Decides}
use Rattle.wal_evidence.proofs.SameOrNot.{decided}

-- no number is marked
pub marks_none : Marks (replicate most_shards false) []
marks_none =
    record {
      long = length-replicate most_shards false;
      up = λ i l. (
        (λ up. absurd (false≢true (sym (get_or-replicate most_shards i false false l) ∙ up))),
        (λ found. let below = found.1 in absurd (omega arith)),
      );
    }

-- one more is marked
pub marks_more : (flags : List Bool) (numbers : List ℕ) (x : ℕ) → x < most_shards → Marks flags numbers
    → Marks (slice_set flags x true) (numbers ++ x ∷ [])
marks_more flags numbers x small marks =
    let long = marks.long in
    record {
      long = length-set flags x true ∙ long;
      up = λ i l. ⊎_elim
          (λ same. rw same (λ up. Contains-push numbers x, λ found. get_or-set_same flags x true false (omega arith)))
          (λ other.
          let at = get_or-set_other flags x i true false other in (
            (λ up. Contains-append_left numbers (x ∷ []) i ((marks.up i l).0 (sym at ∙ up))),
            (λ found. at ∙ (marks.up i l).1 (⊎_elim (λ before. before) (λ last. absurd (other (sym last))) (Contains-push_cases numbers x i found))),
          ))
          (cases_eq i x);
    }

-- one more number, which is new
pub distinct_more : (numbers : List ℕ) (x : ℕ) → Distinct numbers → (Contains numbers x → ⊥) → Distinct (numbers ++ x ∷ [])
distinct_more numbers x distinct new =
    all_pairs_push (λ p q. p ≢ q) numbers x distinct (λ k d l e. new (k, l, get_or_default numbers k x d l ∙ e))

-- a number that stands before
pub repeated : (numbers : List ℕ) (i x : ℕ) → i < length numbers → get_or numbers i 0 ≡ x → Contains (take i numbers) x → Distinct numbers → ⊥
repeated numbers i x l is found distinct =
    let below = found.1 in
    let long = length-take-le i numbers (omega arith) in
    distinct found.0 i x (omega (arith, below, long)) l
    (sym (get_or-take i numbers found.0 x (omega (arith, below, long))) ∙ found.2 ∙ sym is ∙ get_or_default numbers i 0 x l)

-- a number stands in a list or not
pub known_or_new : (xs : List ℕ) (x : ℕ) → Contains xs x ⊎ (Contains xs x → ⊥)
known_or_new xs x = decided _ (is_member-Decides {eq = nat_eq} Decides-eqb xs x)
