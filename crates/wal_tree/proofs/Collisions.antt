-- Two leaves or two contents that differ under one root, up to the texts that collide.
use Rattle.wal_tree.proofs.Common.{◌≡◌, ◌≢◌, ℕ, suc, ◌+◌, ◌*◌, ◌/◌, ◌%◌, ◌<◌, ◌≤◌, List, [], ◌∷◌, ◌++◌, length, take, drop, get_or, ap, subst, sym, ◌∙◌, arith, inl, inr, append-nil, All, Result, Ok, Err, IfOk, Collision, div-le_of_le-mul, take-add, take-append_seam, drop-append_seam, cases_lt, All-cons, All-from_get_or, IsCollision, IsByte, IsPathTo, MeetAbove, MeetInTrees, MeetOnPaths, folded, height, parent, parent_text, path_over, leaf, pieces}
use Rattle.std.proofs.lemmas.Bool.Decides.{nat_tests}
use Rattle.std.proofs.lemmas.List.{length-drop}

-- joined texts are equal only part by part, where the first parts have one length
pub append_front : (a b xs ys : List ℕ) → length a ≡ length b → a ++ xs ≡ b ++ ys → a ≡ b
append_front a b xs ys long e = cc (take-append_seam a xs, take-append_seam b ys)

-- equal lists have equal backs behind fronts of one length
pub append_back : (a b xs ys : List ℕ) → length a ≡ length b → a ++ xs ≡ b ++ ys → xs ≡ ys
append_back a b xs ys long e = cc (drop-append_seam a xs, drop-append_seam b ys)

-- a text is of bytes where what is lent of it is
pub are_bytes : (text lent : List ℕ) → lent ≡ text → All IsByte lent → All IsByte text
are_bytes text lent same each = subst (All IsByte) same each

-- ---- pieces

-- a content within 1000 pieces has at most 1000
pub count_few : (size total : ℕ) → total ≤ 1000 * size → total / size ≤ 1000
count_few size total within = div-le_of_le-mul size (omega arith)

-- one more piece is the same
pub pieces_step : (place size : ℕ) (xs ys : List ℕ) → take (place * size) xs ≡ take (place * size) ys →
    take size (drop (place * size) xs) ≡ take size (drop (place * size) ys) → take ((place + 1) * size) xs ≡ take ((place + 1) * size) ys
pieces_step place size xs ys so_far here =
    let next : (place + 1) * size ≡ place * size + size = omega arith in
    cc (take-add (place * size) size xs, take-add (place * size) size ys)

-- ---- the way up

-- a path that leads from different entries to one root has a digest
pub way_on : (digest : List ℕ → List ℕ) (place : ℕ) (e f p q : List ℕ) → length p % 32 ≡ 0 → length q ≡ length p → e ≢ f →
    folded digest place e (pieces (length p / 32) 32 p) ≡ folded digest place f (pieces (length q / 32) 32 q) → 32 ≤ length p
way_on digest place e f p q whole long differ same = elim (cases_lt 0 (length p)) [
  | inl some ↦ omega arith
  | inr none ↦
      let p_none : length p / 32 ≡ 0 = omega arith in
      let q_none : length q / 32 ≡ 0 = omega arith in
      absurd (differ (ap (λ n. folded digest place e (pieces n 32 p)) (sym p_none) ∙ same ∙ ap (λ n. folded digest place f (pieces n 32 q)) q_none))
]

-- the first digest of a path leads to the parent
fold_next : (digest : List ℕ → List ℕ) (place : ℕ) (e p : List ℕ) → 32 ≤ length p →
    folded digest place e (pieces (length p / 32) 32 p)
    ≡ folded digest (place / 2) (parent digest place e (take 32 p)) (pieces (length (drop 32 p) / 32) 32 (drop 32 p))
fold_next digest place e p some =
    let count : length p / 32 ≡ suc (length (drop 32 p) / 32) = omega (arith, length-drop 32 p) in
    ap (λ n. folded digest place e (pieces n 32 p)) count

-- the digest of a parent's text is the parent
pub digest-parent_text : (digest : List ℕ → List ℕ) (place : ℕ) (e s : List ℕ) → digest (parent_text place e s) ≡ parent digest place e s
digest-parent_text digest place e s = grind (arith, nat_tests)

-- different entries have different texts above them
pub texts_apart_above : (place : ℕ) (e f s t above_e above_f : List ℕ) → length e ≡ length f → length s ≡ length t → e ≢ f →
    above_e ≡ parent_text place e s → above_f ≡ parent_text place f t → above_e ≢ above_f
texts_apart_above place e f s t above_e above_f long_e long_s differ above_e_is above_f_is same =
    let joined : parent_text place e s ≡ parent_text place f t = sym above_e_is ∙ same ∙ above_f_is in
    elim (cases_lt (place % 2) 1) [
      | inl low ↦ let even : place % 2 ≡ 0 = omega arith in differ (append_front e f s t long_e (ap (drop 1) (rw even at joined)))
      | inr high ↦ let odd : place % 2 ≡ 1 = omega arith in differ (append_back s t e f long_s (ap (drop 1) (rw odd at joined)))
    ]

-- one level higher the paths lead to one root still
pub one_above : (digest : List ℕ → List ℕ) (place : ℕ) (e f p q s t text_e text_f above_e above_f rest_p rest_q : List ℕ) → 32 ≤ length p → length q ≡ length p →
    s ≡ take 32 p → t ≡ take 32 q → rest_p ≡ drop 32 p → rest_q ≡ drop 32 q →
    text_e ≡ parent_text place e s → text_f ≡ parent_text place f t → above_e ≡ digest text_e → above_f ≡ digest text_f →
    folded digest place e (pieces (length p / 32) 32 p) ≡ folded digest place f (pieces (length q / 32) 32 q) →
    folded digest (place / 2) above_e (pieces (length rest_p / 32) 32 rest_p) ≡ folded digest (place / 2) above_f (pieces (length rest_q / 32) 32 rest_q)
one_above digest place e f p q s t text_e text_f above_e above_f rest_p rest_q some long s_is t_is rest_p_is rest_q_is text_e_is text_f_is above_e_is above_f_is same =
    rw (above_e_is, above_f_is, text_e_is, text_f_is, rest_p_is, rest_q_is, s_is, t_is, digest-parent_text digest place e (take 32 p), digest-parent_text digest place f (take 32 q))
    (sym (fold_next digest place e p some) ∙ same ∙ fold_next digest place f q (omega arith))

-- a text that is digested alone
pub alone : (digest : List ℕ → List ℕ) (text lent : List ℕ) → lent ≡ text → digest (lent ++ [] ++ []) ≡ digest text
alone digest text lent same = ap digest (append-nil (lent ++ []) ∙ append-nil lent ∙ same)

-- ---- where the ways meet

-- two texts of one digest meet at once
pub meet_here : (digest : List ℕ → List ℕ) (place : ℕ) (x : List ℕ) (p : List (List ℕ)) (y : List ℕ) (q : List (List ℕ)) (left right : List ℕ) →
    digest x ≡ digest y → left ≡ x → right ≡ y → MeetAbove digest place x p y q left right
meet_here digest place x (s ∷ p) y (t ∷ q) left right same left_is right_is = inl (same, left_is, right_is)
meet_here digest place x _ y _ left right same left_is right_is = (same, left_is, right_is)

-- and others where the texts of their parents do
pub meet_next : (digest : List ℕ → List ℕ) (place : ℕ) (x y e f p q above_x above_y rest_p rest_q left right : List ℕ) → length p % 32 ≡ 0 → length q ≡ length p → e ≢ f →
    folded digest place e (pieces (length p / 32) 32 p) ≡ folded digest place f (pieces (length q / 32) 32 q) → digest x ≡ e → digest y ≡ f → above_x ≡ parent_text place e (take 32 p) → above_y ≡ parent_text place f (take 32 q) →
    rest_p ≡ drop 32 p → rest_q ≡ drop 32 q →
    MeetAbove digest (place / 2) above_x (pieces (length rest_p / 32) 32 rest_p) above_y (pieces (length rest_q / 32) 32 rest_q) left right →
    MeetAbove digest place x (pieces (length p / 32) 32 p) y (pieces (length q / 32) 32 q) left right
meet_next digest place x y e f p q above_x above_y rest_p rest_q left right whole long differ one e_is f_is x_above y_above p_rest q_rest above =
    let some = way_on digest place e f p q whole long differ one in
    let there = rw (x_above, ← e_is, p_rest, y_above, ← f_is, q_rest) at above in
    let apart : digest x ≢ digest y = λ same. differ (sym e_is ∙ same ∙ f_is) in
    let count_p : length p / 32 ≡ suc (length (drop 32 p) / 32) = omega (arith, length-drop 32 p) in
    let count_q : length q / 32 ≡ suc (length (drop 32 q) / 32) = omega (arith, length-drop 32 q) in
    rw (count_p, count_q) (inr (apart, there))

-- the texts that meet on the paths of the first piece that differs do so in the trees
pub in_trees : (digest : List ℕ → List ℕ) (size place : ℕ) (a b x p y q left right : List ℕ) → place < length a / size → take (place * size) a ≡ take (place * size) b →
    take size (drop (place * size) a) ≢ take size (drop (place * size) b) → x ≡ take size (drop (place * size) a) → p ≡ path_over digest size a place →
    y ≡ take size (drop (place * size) b) → q ≡ path_over digest size b place → MeetOnPaths digest place x p y q left right → MeetInTrees digest size a b left right
in_trees digest size place a b x p y q left right below first apart x_is p_is y_is q_is meet =
    (place, below, first, apart, rw (x_is, p_is, y_is, q_is) at meet)

-- the texts of two leaves of one digest meet on any paths
pub leaves_meet : (digest : List ℕ → List ℕ) (place : ℕ) (x p y q e f left right : List ℕ) → e ≡ leaf digest x → f ≡ leaf digest y → e ≡ f →
    left ≡ 0 ∷ x → right ≡ 0 ∷ y → MeetOnPaths digest place x p y q left right
leaves_meet digest place x p y q e f left right e_is f_is same left_is right_is =
    meet_here digest place (0 ∷ x) (pieces (length p / 32) 32 p) (0 ∷ y) (pieces (length q / 32) 32 q) left right (sym e_is ∙ same ∙ f_is) left_is right_is

-- ---- from the leaves on

-- the paths of a tree lead from the digests of the leaves to one root
pub ways_meet : (digest : List ℕ → List ℕ) (root : List ℕ) (count place : ℕ) (x p y q e f : List ℕ) → IsPathTo digest root count place x p → IsPathTo digest root count place y q →
    e ≡ leaf digest x → f ≡ leaf digest y →
    folded digest place e (pieces (length p / 32) 32 p) ≡ folded digest place f (pieces (length q / 32) 32 q)
ways_meet digest root count place x p y q e f left right e_is f_is =
    let high_p : length p / 32 ≡ height count = omega (arith, left.long) in
    let high_q : length q / 32 ≡ height count = omega (arith, right.long) in
    cc (left.leads, right.leads)

-- different leaves with one digest collide
pub leaves_collide : (digest : List ℕ → List ℕ) (x y s t e f : List ℕ) → s ≡ 0 ∷ x → t ≡ 0 ∷ y → e ≡ leaf digest x → f ≡ leaf digest y → e ≡ f → x ≢ y →
    ((i : ℕ) → i < length x → get_or x i 0 < 256) → ((i : ℕ) → i < length y → get_or y i 0 < 256) → IsCollision digest s t
leaves_collide digest x y s t e f s_is t_is e_is f_is same differ bytes_x bytes_y =
    let zero_byte : IsByte 0 = omega arith in
    record {
      left = subst (All IsByte) (sym s_is) (All-cons IsByte 0 x zero_byte (All-from_get_or IsByte x 0 bytes_x));
      right = subst (All IsByte) (sym t_is) (All-cons IsByte 0 y zero_byte (All-from_get_or IsByte y 0 bytes_y));
      differ = (λ e. differ (ap (drop 1) (sym s_is ∙ e ∙ t_is)));
      same = ap digest s_is ∙ sym e_is ∙ same ∙ f_is ∙ ap digest (sym t_is);
    }

-- what is said of two texts is so of their copies
pub copies_too : {E : Type 0} → (P : List ℕ → List ℕ → Type 0) (x y : List ℕ) (r : Result Collision E) → P x y → IfOk r (λ c. (c.left ≡ x) × (c.right ≡ y)) →
    IfOk r (λ c. P c.left c.right)
copies_too P x y (Ok c) is copied = subst (λ (l : List ℕ). P l c.right) (sym copied.0) (subst (λ (r : List ℕ). P x r) (sym copied.1) is)
copies_too P x y (Err e) is copied = tt
