-- One pass over what is held lets all go that is not chosen.
use Rattle.wal_store.proofs.Common.{◌≡◌, ℕ, zero, suc, ◌+◌, ◌≢◌, ◌<◌, ◌≤◌, inl, inr, Bool, true, false, cond, is_some, Option, Some, None, List, [], ◌∷◌, length, filter, slice_get, refl, sym, ap, ◌∙◌, arith, Equal, list_any, eq_by_cmp, Equal-is, tied_itself, get-retain_keys, get-remove, same_map, contains_key-keys, len-entries, cases_eq, cases_lt, or_cases, cases_Bool, true≢false, false≢true, length-map, length-filter, count_by-le-length, BlobId, id_cmp, Parts, Contents, is_past, next_id}
use Rattle.std.specs.List.{remove}
use Rattle.std.specs.Ordering.{is_lt}
use Rattle.std.specs.FinMap as fin
use Rattle.wal_store.proofs.Edits.{sum-remove, sum-within}
use Rattle.wal_store.proofs.IdentifierLaws.{ids_total, exact_ids}
use Rattle.wal_store.proofs.StockLaws.{in_order, IsFirstAt, first_at}
use Rattle.wal_store.proofs.OrderLaws.{less_of, sorted_of, closes_place, keeps_below, moves_down}

same_key : (q x : BlobId) → eq_by_cmp id_cmp q x ≡ true → q ≡ x
same_key q x h = exact_ids q x ((Equal-is (id_cmp q x)).0 h)

-- fewer pass a test that says less
fewer_or_same : (p q : BlobId → Bool) (ids : List BlobId) → ((x : BlobId) → q x ≡ true → p x ≡ true) → length (filter q ids) ≤ length (filter p ids)
fewer_or_same p q [] weaker = omega arith
fewer_or_same p q (x ∷ ids) weaker = grind (arith, weaker x, fewer_or_same p q ids weaker)

-- and fewer by one at least, where one of them passes the other alone
fewer_pass : (p q : BlobId → Bool) (ids : List BlobId) (i : ℕ) (id : BlobId) → slice_get ids i ≡ Some id → p id ≡ true → q id ≡ false → ((x : BlobId) → q x ≡ true → p x ≡ true)
    → length (filter q ids) < length (filter p ids)
fewer_pass p q [] i id at passes fails weaker = cc
fewer_pass p q (x ∷ ids) zero id at passes fails weaker =
    let is : x ≡ id = cc in grind (arith, ap p is, ap q is, fewer_or_same p q ids weaker)
fewer_pass p q (x ∷ ids) (suc i) id at passes fails weaker =
    grind (arith, weaker x, fewer_pass p q ids i id at passes fails weaker)

none_pass : (p : BlobId → Bool) (ids : List BlobId) → length (filter p ids) ≡ 0 → (j : ℕ) (x : BlobId) → slice_get ids j ≡ Some x → p x ≡ false
none_pass p ids none j x at =
    let one = sum-within (λ xs. length (filter p xs)) (λ y. cond (p y) 1 0) (length-filter p) ids j x at in
    grind arith

no_first : (ids : List BlobId) → slice_get ids 0 ≡ None → length ids ≡ 0
no_first [] none = refl
no_first (x ∷ ids) none = cc

-- past one that is past another is past that one too
past_both : (last : Option BlobId) (id x : BlobId) → is_past last id ≡ true → is_past (Some id) x ≡ true → is_past last x ≡ true
past_both None id x first then = refl
past_both (Some l) id x first then =
    ap is_lt (ids_total.trans l id x (less_of (id_cmp l id) (rw first tt)) (less_of (id_cmp id x) (rw then tt)))

not_past_itself : (id : BlobId) → is_past (Some id) id ≡ false
not_past_itself id = ap is_lt (tied_itself ids_total id)

any_at : (q : BlobId) (ids : List BlobId) → list_any (eq_by_cmp id_cmp q) ids ≡ true → (k : ℕ) × (slice_get ids k ≡ Some q)
any_at q [] any = absurd (false≢true any)
any_at q (x ∷ ids) any = elim (or_cases (eq_by_cmp id_cmp q x) (list_any (eq_by_cmp id_cmp q) ids) any) [
  | inl same ↦ (0, cc (same_key q x same))
  | inr there ↦ let rest = any_at q ids there in (suc rest.0, rest.1)
]

module _ (f : BlobId → Bool) where
  alike : (q x : BlobId) → id_cmp q x ≡ Equal → f x ≡ f q
  alike q x e = ap f (sym (exact_ids q x e))

  stays : (m : Contents) → ((x : BlobId) (j : ℕ) → slice_get (fin.keys m) j ≡ Some x → f x ≡ true) → (q : BlobId) (o : Option Parts) → fin.get m q ≡ o → cond (f q) (fin.get m q) None ≡ fin.get m q
  stays m all q None e = grind arith
  stays m all q (Some p) e =
      let any : list_any (eq_by_cmp id_cmp q) (fin.keys m) ≡ true = sym (contains_key-keys m q) ∙ ap is_some e in
      let at = any_at q (fin.keys m) any in
      cc (all q at.0 at.1)

  -- where all are chosen nothing goes
  all_stay : (m : Contents) → ((x : BlobId) (j : ℕ) → slice_get (fin.keys m) j ≡ Some x → f x ≡ true) → fin.retain_keys m f ≡ m
  all_stay m all = same_map ids_total exact_ids (fin.retain_keys m f) m (λ q. get-retain_keys m f q (alike q) ∙ stays m all q (fin.get m q) refl)

  -- one that is not chosen goes first
  gone_first : (m : Contents) (id : BlobId) → f id ≡ false → fin.retain_keys (fin.remove m id) f ≡ fin.retain_keys m f
  gone_first m id out =
      same_map ids_total exact_ids (fin.retain_keys (fin.remove m id) f) (fin.retain_keys m f) (λ q.
      let kept = get-retain_keys (fin.remove m id) f q (alike q) in
      grind (arith, kept, get-remove ids_total m id q, get-retain_keys m f q (alike q), same_key q id))

  -- what a pass has done: the rest comes to the same, and all up to this identifier are chosen
  pub record Passed (old now : Contents) (last : Option BlobId) : Type 0 where
    pub same : fin.retain_keys now f ≡ fin.retain_keys old f
    pub chosen : (x : BlobId) (j : ℕ) → slice_get (fin.keys now) j ≡ Some x → is_past last x ≡ false → f x ≡ true

  -- at the start no identifier is passed
  pub none_passed : (old : Contents) → Passed old old None
  none_passed old = record { same = refl; chosen = λ x j at past. absurd (true≢false past) }

  -- if no key is left behind the last that was passed, only what is chosen is left
  pub all_passed : (old now : Contents) (last : Option BlobId) → Passed old now last → length (filter (is_past last) (fin.keys now)) ≡ 0 → now ≡ fin.retain_keys old f
  all_passed old now last passed none =
      sym (all_stay now (λ x j at. passed.chosen x j at (none_pass (is_past last) (fin.keys now) none j x at))) ∙ passed.same

  -- if no identifier is next, only what is chosen is left
  pub none_next : (old now : Contents) (last : Option BlobId) → Passed old now last → None ≡ next_id now last → now ≡ fin.retain_keys old f
  none_next old now last passed none = all_passed old now last passed (no_first (filter (is_past last) (fin.keys now)) (sym none))

  -- one more step of it
  pub next_passed : (old now new : Contents) (last : Option BlobId) (id : BlobId) → Passed old now last → Some id ≡ next_id now last → new ≡ cond (f id) now (fin.remove now id)
      → Passed old new (Some id) × (length (filter (is_past (Some id)) (fin.keys new)) < length (filter (is_past last) (fin.keys now)))
  next_passed old now new last id passed next is =
      let ids : List BlobId = fin.keys now in
      let sorted = sorted_of (fin.entries now) (fin.entries_sorted now) in
      let first = first_at (is_past last) ids id (sym next) in
      let place : ℕ = first.0 in
      let here : IsFirstAt (is_past last) ids id place = first.1 in
      -- those at other places that are not past this one are chosen
      let others : (x : BlobId) (j : ℕ) → slice_get ids j ≡ Some x → j ≢ place → is_past (Some id) x ≡ false → f x ≡ true =
      λ x j at other past. elim (cases_lt j place) [
        | inl less ↦ passed.chosen x j at (here.before j x less at)
        | inr above ↦ absurd (cc (ap is_lt (in_order ids place j id x sorted (omega arith) here.at at), past))
      ] in
      let fewer = fewer_pass (is_past last) (is_past (Some id)) ids place id here.at here.passes (not_past_itself id)
      (λ x then. past_both last id x here.passes then) in
      elim (cases_Bool (f id)) [
        | inl in_choice ↦
            let chosen : (x : BlobId) (j : ℕ) → slice_get ids j ≡ Some x → is_past (Some id) x ≡ false → f x ≡ true =
            λ x j at past. elim (cases_eq j place) [
              | inl same ↦ let is : x ≡ id = cc here.at in ap f is ∙ in_choice
              | inr other ↦ others x j at other past
            ] in
            rw (rw in_choice at is) (record { same = passed.same; chosen = chosen }, fewer)
        | inr out ↦
            let p : BlobId → Bool = is_past (Some id) in
            let less = sum-remove (λ ks. length (filter p ks)) (λ x. cond (p x) 1 0) (length-filter p) ids place id here.at in
            let chosen : (x : BlobId) (j : ℕ) → slice_get (fin.keys (fin.remove now id)) j ≡ Some x → p x ≡ false → f x ≡ true =
            λ x j at past. elim (cases_lt j place) [
              | inl less ↦ others x j (sym (keeps_below now id place j here.at less) ∙ at) (omega arith) past
              | inr above ↦ others x (j + 1) (sym (moves_down now id place j here.at above) ∙ at) (omega arith) past
            ] in
            let after : Passed old (fin.remove now id) (Some id) =
            record { same = gone_first now id out ∙ passed.same; chosen = chosen } in
            rw (rw out at is) (after, rw (closes_place now id place here.at) (omega (arith, fewer, less)))
      ]

-- as many are still to come as are held, at the start
pub all_to_come : (m : Contents) → length (filter (is_past None) (fin.keys m)) ≤ fin.len m
all_to_come m =
    let most = count_by-le-length (is_past None) (fin.keys m) in
    omega (arith, length-filter (is_past None) (fin.keys m), most, length-map (fin.entries m) (λ e. e.0), len-entries m)
