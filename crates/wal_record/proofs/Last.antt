-- The last epoch of claims.
use Rattle.std.proofs.Common.{◌≡◌, ℕ, ◌<◌, ◌≤◌, max, false, cond, ◌&&◌, nat_eq, List, [], ◌∷◌, ◌++◌, fold, All, refl, arith, inl, inr}
use Rattle.std.proofs.lemmas.Bool.{cases_Bool, or_from, and_left, and_right, ne_eqb}
use Rattle.std.proofs.lemmas.List.Elements.{All-head, All-tail}
use Rattle.std.proofs.lemmas.List.Sums.{fold_push}
use Rattle.wal_ledger.specs.declared.entry.Entry.{Entry}
use Rattle.wal_ledger.specs.declared.entry.Body.{Body}
use Rattle.wal_ledger.specs.declared.entry.Kind.{Kind}
use Rattle.wal_ledger.specs.Ledger.{signs_for, is_signer_among}
use Rattle.wal_record.specs.Record.{is_claim_of, last_of}

abbrev pub later : Kind → ℕ → Entry → ℕ
later kind last x = cond (is_claim_of kind x.body) (max last x.epoch) last

-- the last epoch after one more entry
pub last_push : (kind : Kind) (own : List Entry) (x : Entry) → last_of kind (own ++ x ∷ []) ≡ later kind (last_of kind own) x
last_push kind own x = fold_push (later kind) 0 own x

later_grows : (kind : Kind) (last : ℕ) (x : Entry) → last ≤ later kind last x
later_grows kind last x = grind arith

later_most : (kind : Kind) (last w : ℕ) (x : Entry) → last ≤ w → x.epoch ≤ w → later kind last x ≤ w
later_most kind last w x le here = grind arith

last_most_from : (kind : Kind) (last w : ℕ) (own : List Entry) → last ≤ w → All (λ x. x.epoch ≤ w) own → fold (later kind) last own ≤ w
last_most_from kind last w [] le all = le
last_most_from kind last w (x ∷ own) le all =
    last_most_from kind (later kind last x) w own (later_most kind last w x le (All-head (λ (y : Entry). y.epoch ≤ w) x own all)) (All-tail (λ (y : Entry). y.epoch ≤ w) x own all)

-- it is no later than the entries
pub last_most : (kind : Kind) (w : ℕ) (own : List Entry) → All (λ x. x.epoch ≤ w) own → last_of kind own ≤ w
last_most kind w own all = last_most_from kind 0 w own (omega arith) all

last_from : (kind : Kind) (last : ℕ) (own : List Entry) → last ≤ fold (later kind) last own
last_from kind last [] = omega arith
last_from kind last (x ∷ own) = omega (arith, later_grows kind last x, last_from kind (later kind last x) own)

pub signs_not : (owners : List ℕ) (kind : Kind) (s : ℕ) (b : Body) → is_claim_of kind b ≡ false → signs_for owners kind s b ≡ false
signs_not owners kind s b none = grind arith

-- an entry signs for nobody in an epoch after the last
signs_late : (owners : List ℕ) (kind : Kind) (last e s : ℕ) (x : Entry) → later kind last x < e → (nat_eq x.epoch e && signs_for owners kind s x.body) ≡ false
signs_late owners kind last e s x past = elim (cases_Bool (is_claim_of kind x.body)) [
  | inl claims ↦ and_left (nat_eq x.epoch e) (signs_for owners kind s x.body) (ne_eqb x.epoch e (λ same. let le : max last x.epoch < e = rw claims at past in omega arith))
  | inr other ↦ and_right (nat_eq x.epoch e) (signs_for owners kind s x.body) (signs_not owners kind s x.body other)
]

signers_late_from : (owners : List ℕ) (kind : Kind) (last e s : ℕ) (own : List Entry) → fold (later kind) last own < e → is_signer_among owners own kind e s ≡ false
signers_late_from owners kind last e s [] past = refl
signers_late_from owners kind last e s (x ∷ own) past =
    or_from (nat_eq x.epoch e && signs_for owners kind s x.body) (is_signer_among owners own kind e s)
    (signs_late owners kind last e s x (omega (arith, last_from kind (later kind last x) own)))
    (signers_late_from owners kind (later kind last x) e s own past)

-- nobody signed after it
pub signers_late : (owners : List ℕ) (kind : Kind) (e s : ℕ) (own : List Entry) → last_of kind own < e → is_signer_among owners own kind e s ≡ false
signers_late owners kind e s own past = signers_late_from owners kind 0 e s own past
