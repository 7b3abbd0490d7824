-- One entry pushed onto the places in use, place by place: `k` is the place that the carry has come to,
-- of the `h` in use.
use Rattle.wal_tree.proofs.Common.{◌≡◌, ℕ, suc, ◌+◌, ◌*◌, ◌<◌, ◌≤◌, List, [], ◌∷◌, ◌++◌, All, length, map, take, drop, set, get_or, refl, ap, sym, subst, ◌∙◌, arith, append_assoc, add-one, length-take, length-drop, Vec, Global, Option, OnErr, drop-cons, length-map, map-set, All-set, empty_entry, node, pair_up, root_of, climb, entries, pushed, HaveLost, StandsFor, emptied, entry_of, held_entry, row_stack, HasRows, column_bytes, ap₂, length-append, take-set-lt, take-set_at, common_steps, take-append-drop, drop-set-lt, get_or-take, length-take-le}
use Rattle.std.specs.Prelude.{Some, None, Result, Ok, Err}
use Rattle.std.proofs.Math.ListN.{get_or-map}
use Rattle.wal_tree.proofs.Roots.{climb-pushed}

-- a place is written: what is before it and after it stays
set-split : (zs : List (Option (List ℕ))) (k : ℕ) (w : Option (List ℕ)) → k < length zs → set zs k w ≡ take k zs ++ (w ∷ drop (suc k) zs)
set-split zs k w within =
    sym (take-append-drop (suc k) (set zs k w))
    ∙ ap₂ ◌++◌ (take-set_at zs k (suc k) w (omega arith) within) (drop-set-lt (suc k) zs k w (omega arith))
    ∙ append_assoc (take k zs) (w ∷ []) (drop (suc k) zs)

-- at a free place the entry stays
pub place_free : (digest : List ℕ → List ℕ) (zs : List (Option (List ℕ))) (k : ℕ) (d : List ℕ) → k < length zs → get_or zs k None ≡ None →
    set zs k (Some d) ≡ take k zs ++ pushed digest (drop k zs) d
place_free digest zs k d within free =
    let here : drop k zs ≡ None ∷ drop (suc k) zs = drop-cons zs k None within ∙ ap (λ (w : Option (List ℕ)). w ∷ drop (suc k) zs) free in
    rw here (set-split zs k (Some d) within)

-- at a taken place it is joined, and the carry goes on
pub place_taken : (digest : List ℕ → List ℕ) (zs : List (Option (List ℕ))) (k : ℕ) (b d : List ℕ) → k < length zs → get_or zs k None ≡ Some b →
    take k zs ++ pushed digest (drop k zs) d ≡ take (k + 1) (set zs k None) ++ pushed digest (drop (k + 1) (set zs k None)) (node digest b d)
place_taken digest zs k b d within taken =
    let here : drop k zs ≡ Some b ∷ drop (suc k) zs = drop-cons zs k None within ∙ ap (λ (w : Option (List ℕ)). w ∷ drop (suc k) zs) taken in
    let front : take (k + 1) (set zs k None) ≡ take k zs ++ (None ∷ []) = take-set_at zs k (k + 1) None refl within in
    let back : drop (k + 1) (set zs k None) ≡ drop (suc k) zs = rw add-one (drop-set-lt (suc k) zs k None (omega arith)) in
    rw (here, front, back) (sym (append_assoc (take k zs) (None ∷ []) (pushed digest (drop (suc k) zs) (node digest b d))))

module _ (digest : List ℕ → List ℕ) (xs : List (Option (List ℕ))) (h k : ℕ) (d : List ℕ) (fits : h ≤ length xs) where
  pub carry_free : k < h → get_or xs k None ≡ None → take h (set xs k (Some d)) ≡ take k (take h xs) ++ pushed digest (drop k (take h xs)) d
  carry_free below free =
      take-set-lt h xs k (Some d) below
      ∙ place_free digest (take h xs) k d (omega (arith, length-take-le h xs fits)) (get_or-take h xs k None below ∙ free)

  pub carry_taken : k < h → (b : List ℕ) → get_or xs k None ≡ Some b →
      take k (take h xs) ++ pushed digest (drop k (take h xs)) d
      ≡ take (k + 1) (take h (set xs k None)) ++ pushed digest (drop (k + 1) (take h (set xs k None))) (node digest b d)
  carry_taken below b taken =
      rw (take-set-lt h xs k None below)
      (place_taken digest (take h xs) k b d (omega (arith, length-take-le h xs fits)) (get_or-take h xs k None below ∙ taken))

  -- past the last place in use there is a new one
  pub carry_out : k ≡ h → take k (take h xs) ++ pushed digest (drop k (take h xs)) d ≡ take h xs ++ (Some d ∷ [])
  carry_out last =
      let long = length-take-le h xs fits in
      let whole : take k (take h xs) ≡ take h xs = grind (arith, common_steps) in
      let none : drop k (take h xs) ≡ [] = grind (arith, common_steps) in
      rw (whole, none) refl

  -- where there is room for the entry, there is room for that place
  pub carry_room : (whole : List (Option (List ℕ))) (n : ℕ) → k ≡ h → length whole ≤ n → whole ≡ take k (take h xs) ++ pushed digest (drop k (take h xs)) d → h < n
  carry_room whole n last room is =
      omega (arith, ap length (is ∙ carry_out last), length-append (take h xs) (Some d ∷ []), length-take-le h xs fits)

-- ---- The columns of many stacks, and the stack of each row.

-- an entry within a column has its bytes
pub entry_long : (row : ℕ) (column : List ℕ) → row * 32 + 32 ≤ length column → length (entry_of row column) ≡ 32
entry_long row column within = omega (arith, length-take 32 (drop (row * 32) column), length-drop (row * 32) column)

-- a column that is there has an entry for each row
pub level_has : (rows level : ℕ) (levels : List (Option (Vec ℕ Global))) (v : Vec ℕ Global) → All (HasRows rows) (map column_bytes levels) → level < length levels
    → get_or levels level None ≡ Some v → length v.items ≡ rows * 32
level_has rows level levels v all within is =
    let at : get_or (map column_bytes levels) level None ≡ Some v.items = get_or-map column_bytes levels level None ∙ ap column_bytes is in
    subst (HasRows rows) at (all level None (omega (arith, length-map levels column_bytes)))

-- a column within the rows has the bytes of each entry
pub entry_within : (row rows long : ℕ) → row < rows → long ≡ rows * 32 → row * 32 + 32 ≤ long
entry_within row rows long few is = omega arith

-- the levels where one column is set
pub levels_set : (rows level : ℕ) (levels : List (Option (Vec ℕ Global))) (w : Option (Vec ℕ Global)) → HasRows rows (column_bytes w)
    → All (HasRows rows) (map column_bytes levels) → All (HasRows rows) (map column_bytes (set levels level w))
levels_set rows level levels w own all =
    subst (All (HasRows rows)) (sym (map-set column_bytes levels level w)) (All-set (HasRows rows) (map column_bytes levels) level (column_bytes w) own all)

-- the stack of a row where one column is set
row_set : (r level : ℕ) (levels : List (Option (Vec ℕ Global))) (w : Option (Vec ℕ Global))
    → row_stack r (map column_bytes (set levels level w)) ≡ set (row_stack r (map column_bytes levels)) level (held_entry r (column_bytes w))
row_set r level levels w = ap (map (held_entry r)) (map-set column_bytes levels level w) ∙ map-set (held_entry r) (map column_bytes levels) level (column_bytes w)

row_at : (r level : ℕ) (levels : List (Option (Vec ℕ Global)))
    → get_or (row_stack r (map column_bytes levels)) level None ≡ held_entry r (column_bytes (get_or levels level None))
row_at r level levels =
    get_or-map (held_entry r) (map column_bytes levels) level None ∙ ap (held_entry r) (get_or-map column_bytes levels level None)

pub row_long : (r : ℕ) (levels : List (Option (Vec ℕ Global))) → length (row_stack r (map column_bytes levels)) ≡ length levels
row_long r levels = length-map (map column_bytes levels) (held_entry r) ∙ length-map levels column_bytes

-- one more of the lowest levels is lost
pub lost_more : (old : List (Option (List ℕ))) (level : ℕ) → set (emptied level old) level None ≡ emptied (level + 1) old
lost_more old level = rw add-one (lost old level) where
  lost : (old : List (Option (List ℕ))) (level : ℕ) → set (emptied level old) level None ≡ emptied (suc level) old
  lost (x ∷ old) (suc level) = ap (λ l. None ∷ l) (lost old level)
  lost [] (suc level) = refl
  lost _ _ = refl

pub lost_level : (old levels : List (Option (Vec ℕ Global))) (level : ℕ) (w : Option (Vec ℕ Global)) → w ≡ None
    → map column_bytes levels ≡ emptied level (map column_bytes old) → map column_bytes (set levels level w) ≡ emptied (level + 1) (map column_bytes old)
lost_level old levels level w none is =
    map-set column_bytes levels level w
    ∙ (λ i. set (is i) level (column_bytes (none i)))
    ∙ lost_more (map column_bytes old) level

pub lost_any : {T E : Type 0} (r : Result T E) (old new : List (Option (List ℕ))) (level : ℕ) → new ≡ emptied level old → OnErr r (HaveLost old new)
lost_any (Ok x) old new level is = tt
lost_any (Err e) old new level is = (level, is)

-- what is set twice
set_twice : {X : Type 0} → (xs : List X) (k : ℕ) (a b : X) → set (set xs k a) k b ≡ set xs k b
set_twice (x ∷ xs) (suc k) a b = ap (λ l. x ∷ l) (set_twice xs k a b)
set_twice _ _ a b = refl

-- at a taken place the columns are joined, and the carry goes on
pub column_taken : (digest : List ℕ → List ℕ) (levels next : List (Option (Vec ℕ Global))) (k r : ℕ) (v : Vec ℕ Global) (entry above : List ℕ) → k < length levels
    → get_or levels k None ≡ Some v → next ≡ set levels k None → entry_of r above ≡ node digest (entry_of r v.items) (entry_of r entry)
    → take k (row_stack r (map column_bytes levels)) ++ pushed digest (drop k (row_stack r (map column_bytes levels))) (entry_of r entry)
    ≡ take (k + 1) (row_stack r (map column_bytes next)) ++ pushed digest (drop (k + 1) (row_stack r (map column_bytes next))) (entry_of r above)
column_taken digest levels next k r v entry above within taken is joined =
    let zs = row_stack r (map column_bytes levels) in
    let after : row_stack r (map column_bytes next) ≡ set zs k None = ap (λ (l : List (Option (Vec ℕ Global))). row_stack r (map column_bytes l)) is ∙ row_set r k levels None in
    let here : get_or zs k None ≡ Some (entry_of r v.items) = row_at r k levels ∙ ap (λ (w : Option (Vec ℕ Global)). held_entry r (column_bytes w)) taken in
    rw (after, joined) (place_taken digest zs k (entry_of r v.items) (entry_of r entry) (omega (arith, row_long r levels)) here)

-- at a free place the column stays
pub column_free : (digest : List ℕ → List ℕ) (levels next : List (Option (Vec ℕ Global))) (k r : ℕ) (v : Vec ℕ Global) → k < length levels
    → get_or levels k None ≡ None → next ≡ set (set levels k None) k (Some v)
    → row_stack r (map column_bytes next)
    ≡ take k (row_stack r (map column_bytes levels)) ++ pushed digest (drop k (row_stack r (map column_bytes levels))) (entry_of r v.items)
column_free digest levels next k r v within free is =
    let zs = row_stack r (map column_bytes levels) in
    let here : get_or zs k None ≡ None = row_at r k levels ∙ ap (λ (w : Option (Vec ℕ Global)). held_entry r (column_bytes w)) free in
    rw (is, set_twice levels k None (Some v), row_set r k levels (Some v)) (place_free digest zs k (entry_of r v.items) (omega (arith, row_long r levels)) here)

-- the entries of one level, and those of the level above them
pub climb_step : (digest : List ℕ → List ℕ) (stack : List (Option (List ℕ))) (level : ℕ) (w pending above : Option (List ℕ)) → level + 1 < length stack
    → w ≡ get_or stack level None → entries above ≡ pair_up digest (entries w ++ entries pending)
    → climb digest (drop level stack) (entries pending) ≡ climb digest (drop (level + 1) stack) (entries above)
climb_step digest stack level w pending above within is joined =
    let v = get_or stack (suc level) None in
    let rest = drop (suc (suc level)) stack in
    let next : drop (suc level) stack ≡ v ∷ rest = drop-cons stack (suc level) None (omega arith) in
    let here : drop level stack ≡ w ∷ (v ∷ rest) =
    drop-cons stack level None (omega arith) ∙ ap (λ (x : Option (List ℕ)). x ∷ drop (suc level) stack) (sym is) ∙ ap (λ (l : List (Option (List ℕ))). w ∷ l) next in
    rw (add-one level, here, next) (ap (climb digest (v ∷ rest)) (sym joined))

-- the entry of a row at a level
pub row_held : (r level : ℕ) (levels : List (Option (Vec ℕ Global)))
    → held_entry r (get_or (map column_bytes levels) level None) ≡ get_or (row_stack r (map column_bytes levels)) level None
row_held r level levels = sym (get_or-map (held_entry r) (map column_bytes levels) level None)

-- with no level there is no leaf
pub climb_nothing : (digest : List ℕ → List ℕ) (r : ℕ) (levels : List (Option (Vec ℕ Global))) → length levels ≡ 0
    → empty_entry ≡ climb digest (row_stack r (map column_bytes levels)) []
unfolding root_of
climb_nothing digest r [] none = refl
climb_nothing digest r (x ∷ levels) none = absurd (omega arith)

-- one entry more
pub stands_more : (digest : List ℕ → List ℕ) (stack new : List (Option (List ℕ))) (seen : List (List ℕ)) (a : List ℕ) → new ≡ pushed digest stack a
    → StandsFor digest stack seen → StandsFor digest new (seen ++ a ∷ [])
stands_more digest stack new seen a is stands =
    λ coming. rw (is, append_assoc seen (a ∷ []) coming) (sym (climb-pushed digest stack a coming) ∙ stands (a ∷ coming))
