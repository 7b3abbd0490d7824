-- Two streams at the front of the same bytes: they are the same, or one of them goes on where the other ends.
use Rattle.wal_serve.proofs.Common.{◌≡◌, ℕ, ◌+◌, ◌≤◌, List, [], ◌∷◌, ◌++◌, length, take, drop, refl, sym, ap, ◌∙◌, append_assoc, arith, length-append, take_at, envelope, IsPayload, IsStream, envelope_read}

-- an envelope at the front is one
pub one_envelope : (bytes : List ℕ) (s t : ℕ) (p q x y : List ℕ) → IsPayload p → IsPayload q → bytes ≡ envelope s p ++ x → bytes ≡ envelope t q ++ y → (p ≡ q) × (x ≡ y)
one_envelope bytes s t p q x y fits also is_p is_q =
    grind (arith, envelope_read bytes s p x fits is_p, envelope_read bytes t q y also is_q)

-- fronts of one length are the same
pub same_front : (front rest other behind : List ℕ) → front ++ rest ≡ other ++ behind → length front ≡ length other → front ≡ other
same_front front rest other behind same long =
    sym (take_at front rest (length front) refl) ∙ ap (take (length front)) same ∙ take_at other behind (length front) (sym long)

-- a front that is no longer is a front
pub shorter_front : (front rest other behind : List ℕ) → front ++ rest ≡ other ++ behind → length front ≤ length other → (more : List ℕ) × (other ≡ front ++ more)
shorter_front [] rest other behind same few = (other, refl)
shorter_front (x ∷ front) rest [] behind same few = absurd (omega arith)
shorter_front (x ∷ front) rest (y ∷ other) behind same few =
    let more = shorter_front front rest other behind (ap (drop 1) same) (omega (arith, few)) in
    (more.0, cc)

-- the second stream goes on where the first one ends
pub record Longer (ps : List (List ℕ)) (front rest : List ℕ) (qs : List (List ℕ)) (other : List ℕ) : Type 0 where
  pub sender : ℕ
  pub payload : List ℕ
  pub others : List (List ℕ)
  pub after : List ℕ
  pub parts : qs ≡ ps ++ payload ∷ others
  pub fits : IsPayload payload
  pub begins : rest ≡ envelope sender payload ++ after
  pub within : length front + length (envelope sender payload) ≤ length other

pub data Compared (ps : List (List ℕ)) (front rest : List ℕ) (qs : List (List ℕ)) (other behind : List ℕ) : Type 0 where
  same : ps ≡ qs → length front ≡ length other → rest ≡ behind → Compared ps front rest qs other behind
  less : Longer ps front rest qs other → Compared ps front rest qs other behind
  more : Longer qs other behind ps front → Compared ps front rest qs other behind

begins_now : (front rest : List ℕ) (q : List ℕ) (qs : List (List ℕ)) (sender : ℕ) (next other behind : List ℕ) → front ≡ [] → IsPayload q → other ≡ envelope sender q ++ next
    → front ++ rest ≡ other ++ behind → Longer [] front rest (q ∷ qs) other
begins_now front rest q qs sender next other behind is fits parts all = record {
  sender = sender;
  payload = q;
  others = qs;
  after = next ++ behind;
  parts = refl;
  fits = fits;
  begins = cc (is, all, parts, append_assoc (envelope sender q) next behind);
  within = omega (arith, ap length is, ap length parts, length-append (envelope sender q) next);
}

begins_later : {p q : List ℕ} {ps qs : List (List ℕ)} (s t : ℕ) {front rest other x y : List ℕ} → p ≡ q
    → front ≡ envelope s p ++ x → other ≡ envelope t q ++ y → Longer ps x rest qs y → Longer (p ∷ ps) front rest (q ∷ qs) other
begins_later {p} {q} s t {x} {y} one is also l = record {
  sender = l.sender;
  payload = l.payload;
  others = l.others;
  after = l.after;
  parts = cc (l.parts, one);
  fits = l.fits;
  begins = l.begins;
  within =
      omega (arith, l.within, ap length one, ap length is, ap length also, length-append (envelope s p) x, length-append (envelope t q) y);
}

-- of two streams at the front of the same bytes, one begins with the other
pub compared : (ps qs : List (List ℕ)) (front rest other behind : List ℕ) → IsStream ps front → IsStream qs other → front ++ rest ≡ other ++ behind
    → Compared ps front rest qs other behind
compared [] [] front rest other behind is also all =
    same refl (cc (is, also)) (cc (is, also, all))
compared [] (q ∷ qs) front rest other behind is (sender, next, fits, parts, stream) all =
    less (begins_now front rest q qs sender next other behind is fits parts all)
compared (p ∷ ps) [] front rest other behind (sender, next, fits, parts, stream) also all =
    more (begins_now other behind p ps sender next front rest also fits parts (sym all))
compared (p ∷ ps) (q ∷ qs) front rest other behind (s, x, fits, is, stream) (t, y, fit, also, follows) all =
    let here : front ++ rest ≡ envelope s p ++ (x ++ rest) = cc (is, append_assoc (envelope s p) x rest) in
    let there : front ++ rest ≡ envelope t q ++ (y ++ behind) = cc (all, also, append_assoc (envelope t q) y behind) in
    let one = one_envelope (front ++ rest) s t p q (x ++ rest) (y ++ behind) fits fit here there in
    elim (compared ps qs x rest y behind stream follows one.1) [
      | same equal long tails ↦
          let sizes : length front ≡ length other =
          omega (arith, long, ap length one.0, ap length is, ap length also, length-append (envelope s p) x, length-append (envelope t q) y) in
          same (cc (equal, one.0)) sizes tails
      | less l ↦ less (begins_later s t one.0 is also l)
      | more l ↦ more (begins_later t s (sym one.0) also is l)
    ]
