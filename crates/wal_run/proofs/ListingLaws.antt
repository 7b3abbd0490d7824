-- The lines of what is held, identifier by identifier, and that an image has one listing.
use Rattle.wal_run.proofs.Common.{truth, ◌≡◌, ◌⊎◌, ⊎_elim, inl, inr, ℕ, ◌+◌, Bool, true, false, T, Option, Some, None, List, [], ◌∷◌, ◌++◌, length, filter, drop, get_or, slice_get, refl, sym, ap, ◌∙◌, arith, length-append, ⊤, flat_map, Contents, parts_at, Call, records, Accepts, stands_once, IsResult, unreadable, misreads, succeeds, malformed_text, holding_text, contents_text, IsBrokenAt, unpacking}
use Rattle.std.specs.declared.cmp.Ordering.{Ordering}
use Rattle.std.specs.declared.cmp.Ordering.TheVariants.{Less}
use Rattle.std.specs.Ordering.{is_lt, ordering_reverse}
use Rattle.std.specs.FinMap as fin
use Rattle.std.specs.FinMap.Entries.{is_sorted, below_all}
use Rattle.std.specs.Map.{keys_of}
use Rattle.std.proofs.lemmas.Cmp.{tied_itself}
use Rattle.std.proofs.lemmas.List.{append_assoc, append-nil}
use Rattle.wal_shape.specs.declared.BlobId.{BlobId}
use Rattle.wal_shape.specs.Identifiers.{id_cmp}
use Rattle.wal_store.specs.Entries.{Entries}
use Rattle.wal_store.specs.Places.{is_past, next_id}
use Rattle.wal_store.proofs.IdentifierLaws.{ids_total}
use Rattle.wal_store.proofs.OrderLaws.{both_of, less_of}
use Rattle.wal_journal.specs.Reading.{ReadTo, IsBad}
use Rattle.wal_journal.proofs.NeverBad.{never_bad, bad_once}
use Rattle.wal_run.proofs.CommandLaws.{Determined, same, told_so}

-- ---- identifiers in ascending order

-- each of them stands past this one
abbrev IsAfter : BlobId → List BlobId → Type 0
IsAfter id [] = ⊤
IsAfter id (x ∷ ids) = (id_cmp id x ≡ Less) × IsAfter id ids

lt_of : (o : Ordering) → is_lt o ≡ true → o ≡ Less
lt_of Less h = refl
lt_of o h = absurd cc

after_of : (id : BlobId) (es : Entries) → T (below_all id_cmp id es) → IsAfter id (keys_of es)
after_of id [] t = tt
after_of id (e ∷ es) t =
    let parts = both_of (is_lt (id_cmp id e.0)) (below_all id_cmp id es) t in
    (less_of (id_cmp id e.0) parts.0, after_of id es parts.1)

-- what is past the first is past another one that it is past
past_both : (last : Option BlobId) (id x : BlobId) → is_past last id ≡ true → id_cmp id x ≡ Less → is_past last x ≡ true
past_both None id x first less = refl
past_both (Some l) id x first less = ap is_lt (ids_total.trans l id x (lt_of (id_cmp l id) first) less)

-- where each that stands past this one passes, those after it do
all_pass : (p : BlobId → Bool) (id : BlobId) (ids : List BlobId) → ((x : BlobId) → id_cmp id x ≡ Less → p x ≡ true)
    → IsAfter id ids → filter p ids ≡ ids
all_pass p id [] passes after = refl
all_pass p id (x ∷ ids) passes after = rw (passes x after.0, all_pass p id ids passes after.1) refl

-- the first that passes is one of them
first_after : (p : BlobId → Bool) (id : BlobId) (ids : List BlobId) (found : BlobId) → IsAfter id ids → slice_get (filter p ids) 0 ≡ Some found → id_cmp id found ≡ Less
first_after p id [] found after at = cc
first_after p id (x ∷ ids) found after at =
    ⊎_elim
    (λ passes. let here = rw passes at at in let is : found ≡ x = cc in rw is after.0)
    (λ fails. first_after p id ids found after.1 (rw fails at at)) (truth (p x))

-- those past the last one are the next, and those past that one
past_next : (last : Option BlobId) (es : Entries) (id : BlobId) → T (is_sorted id_cmp es)
    → slice_get (filter (is_past last) (keys_of es)) 0 ≡ Some id
    → filter (is_past last) (keys_of es) ≡ id ∷ filter (is_past (Some id)) (keys_of es)
past_next last [] id sorted at = cc
past_next last (e ∷ es) id sorted at =
    let parts = both_of (below_all id_cmp e.0 es) (is_sorted id_cmp es) sorted in
    let after = after_of e.0 es parts.0 in
    ⊎_elim
    (λ passes.
    let here = rw passes at at in
    let is : id ≡ e.0 = cc in
    let out : is_past (Some e.0) e.0 ≡ false = ap is_lt (tied_itself ids_total e.0) in
    rw (passes, is, out, all_pass (is_past last) e.0 (keys_of es) (λ y less. past_both last e.0 y passes less) after)
    (ap (λ (ids : List BlobId). e.0 ∷ ids)
    (sym (all_pass (is_past (Some id)) e.0 (keys_of es) (λ y less. rw is (ap is_lt less)) after))))
    (λ fails.
    let there = rw fails at at in
    let before : id_cmp e.0 id ≡ Less = first_after (is_past last) e.0 (keys_of es) id after there in
    let out : is_past (Some id) e.0 ≡ false = ap is_lt (ids_total.antisymm id e.0 ∙ ap ordering_reverse before) in
    rw (fails, out) (past_next last es id parts.1 there)) (truth (is_past last e.0))

all_first : (ids : List BlobId) → filter (is_past None) ids ≡ ids
all_first [] = refl
all_first (x ∷ ids) = rw (all_first ids) refl

none_left : (ids : List BlobId) → slice_get ids 0 ≡ None → ids ≡ []
none_left [] none = refl
none_left (x ∷ ids) none = cc

-- ---- the lines so far

-- the identifiers that are still to come
abbrev pub to_come : Contents → Option BlobId → List BlobId
to_come contents last = filter (is_past last) (fin.keys contents)

abbrev pub lines_of : Contents → List BlobId → List ℕ
lines_of contents ids = flat_map (λ id. holding_text id (parts_at contents id)) ids

-- the text so far, and the lines of those that are still to come
abbrev pub IsListedTo : Contents → Option BlobId → List ℕ → Type 0
IsListedTo contents last text = text ++ lines_of contents (to_come contents last) ≡ contents_text contents

-- the empty text lists nothing yet
pub none_listed : (contents : Contents) (text : List ℕ) → text ≡ [] → IsListedTo contents None text
none_listed contents text empty = rw (empty, all_first) refl

-- the next identifier is the first of those to come
pub one_next : (contents : Contents) (last : Option BlobId) (id : BlobId) → Some id ≡ next_id contents last → to_come contents last ≡ id ∷ to_come contents (Some id)
one_next contents last id next = past_next last (fin.entries contents) id (fin.entries_sorted contents) (sym next)

-- with the line of the next identifier, the listing reaches to it
pub one_listed : (contents : Contents) (last : Option BlobId) (id : BlobId) (text new : List ℕ) → Some id ≡ next_id contents last → new ≡ text ++ holding_text id (parts_at contents id) → IsListedTo contents last text → IsListedTo contents (Some id) new
one_listed contents last id text new next more so_far =
    rw (more, append_assoc) (rw (one_next contents last id next) at so_far)

-- if no identifier is next, the listing is whole
pub all_listed : (contents : Contents) (last found : Option BlobId) (text : List ℕ) → ((id : BlobId) → found ≡ Some id → ⊥) → found ≡ next_id contents last → IsListedTo contents last text → text ≡ contents_text contents
all_listed contents last None text other none so_far =
    let nil = none_left (to_come contents last) (sym none) in rw (← append-nil text) (rw nil at so_far)
all_listed contents last (Some id) text other none so_far = absurd (other id refl)

-- ---- an image has one listing

not_broken : (image : List ℕ) (changes : List Call) (at : ℕ) → Accepts image changes → IsBrokenAt image at → ⊥
not_broken image changes at accepts (inl empty) =
    let size = length-append (records changes) (accepts.stands.gate ∷ accepts.stands.rest) in
    omega (arith, ap length empty.0, ap length accepts.stands.is, size)
not_broken image changes at accepts (inr bad) = never_bad image at bad.1 bad.0 changes bad.2 bad.3 bad.4 accepts

one_break : (image : List ℕ) (at place : ℕ) → IsBrokenAt image at → IsBrokenAt image place → at ≡ place
one_break image at place (inl a) (inl b) = a.1 ∙ sym b.1
one_break image at place (inl a) (inr b) = absurd (omega (arith, ap length a.0, b.2.within))
one_break image at place (inr a) (inl b) = absurd (omega (arith, ap length b.0, a.2.within))
one_break image at place (inr a) (inr b) = bad_once image at place a.1 b.1 a.0 b.0 a.2 a.3 a.4 b.2 b.3 b.4

pub unpacked_once : (digest : List ℕ → List ℕ) → Determined digest unpacking
unpacked_once digest input image spells _ _ _ _ (succeeds x a) (succeeds y b) =
    let one = stands_once image a.0 b.0 a.1.stands b.1.stands in same _ _ _ _ refl (cc (a.2, b.2, one))
unpacked_once digest input image spells _ _ _ _ (succeeds x a) (misreads y b) = absurd (not_broken image a.0 b.0 a.1 b.1)
unpacked_once digest input image spells _ _ _ _ (misreads x a) (succeeds y b) = absurd (not_broken image b.0 a.0 b.1 a.1)
unpacked_once digest input image spells _ _ _ _ (misreads x a) (misreads y b) =
    same _ _ _ _ refl (cc (a.2, b.2, one_break image a.0 b.0 a.1 b.1))
unpacked_once digest input image spells s x t y a b =
    absurd (grind (arith, told_so digest unpacking image s x a, told_so digest unpacking image t y b))

-- ---- what the command tells

module _ (digest : List ℕ → List ℕ) (image : List ℕ) where
  pub broken_is : (shown : List ℕ) (at : ℕ) (held : Contents) (changes : List Call) → shown ≡ image → ReadTo shown at held changes → get_or shown at 0 ≡ 1 → IsBad held (drop (at + 1) shown)
      → IsResult digest unpacking image 8 (malformed_text at)
  broken_is shown at held changes same so_far gate bad =
      unreadable _ (inr (image, refl, (at, rw (← same) (inr (changes, held, so_far, gate, bad)), refl)))
