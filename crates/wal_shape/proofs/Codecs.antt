-- Readers that are made of readers of parts: what is read is spelled so, and read again, and a fault lies among the bytes.
use Rattle.wal_shape.proofs.Common.{◌≡◌, ℕ, ◌+◌, ◌≤◌, Bool, true, false, not, List, [], ◌++◌, length, Result, Ok, Err, refl, sym, ap, ◌∙◌, append_assoc, arith, ⊤, length-append, ◌>>=◌}
use Rattle.wal_shape.proofs.Numbers.{IsBytes}

-- equal results hold equal values
pub ok_is : {A E : Type 0} (x y : A) → ◌≡◌ {A = Result A E} (Ok x) (Ok y) → x ≡ y
ok_is x y e = cc

-- what a reader took from the front of bytes, or at least how much, if numbers stand for the bytes that are none
pub record Takes (bytes text rest : List ℕ) : Type 0 where
  pub size : length bytes ≡ length text + length rest
  pub parts : IsBytes bytes → bytes ≡ text ++ rest
  pub rest_fits : IsBytes bytes → IsBytes rest

pub Takes-then : (a x b y c : List ℕ) → Takes a x b → Takes b y c → Takes a (x ++ y) c
Takes-then a x b y c p q = record {
  size = omega (arith, p.size, q.size, length-append x y);
  parts = λ fits. p.parts fits ∙ ap (λ (t : List ℕ). x ++ t) (q.parts (p.rest_fits fits)) ∙ sym (append_assoc x y c);
  rest_fits = λ fits. q.rest_fits (p.rest_fits fits);
}

pub Takes-none : (bytes : List ℕ) → Takes bytes [] bytes
Takes-none bytes = record { size = omega arith; parts = λ fits. refl; rest_fits = λ fits. fits }

-- what came of a reading: a part that fits, with which it goes on, or a fault at one of the bytes from `start` on
pub data Reading {A C E : Type 0} (IsBelow : ℕ → E → Type 0) (Fits : A → Type 0) (text : A → List ℕ) (start : ℕ)
    (others : A × List ℕ → Result C E) (bytes : List ℕ) (r : Result C E) : Type 0 where
  goes : (x : A × List ℕ) → Fits x.0 → Takes bytes (text x.0) x.1 → r ≡ others x
      → Reading IsBelow Fits text start others bytes r
  fails : (e : E) → ((n : ℕ) → start + length bytes ≤ n → IsBelow n e) → r ≡ Err e
      → Reading IsBelow Fits text start others bytes r

-- a part of a text: which fit, how they are spelled, where they begin, and their reader, with others behind them
pub record Codec {E : Type 0} (IsBelow : ℕ → E → Type 0) (A : Type 0) : Type 1 where
  pub Fits : A → Type 0
  pub text : A → List ℕ
  pub start : ℕ
  pub read : (C : Type 0) → List ℕ → (A × List ℕ → Result C E) → Result C E
  pub is : (C : Type 0) (bytes : List ℕ) (others : A × List ℕ → Result C E)
      → Reading IsBelow Fits text start others bytes (read C bytes others)
  pub again : (C : Type 0) (others : A × List ℕ → Result C E) (x : A) (rest : List ℕ) → Fits x
      → read C (text x ++ rest) others ≡ others (x, rest)

-- ---- one reader

module _ {E : Type 0} (IsBelow : ℕ → E → Type 0) {A : Type 0} (Fits : A → Type 0) (text : A → List ℕ) (start : ℕ)
    (read : List ℕ → Result (A × List ℕ) E) where
  -- what the reader alone makes of any bytes
  abbrev pub IsReader : Type 0
  IsReader = (bytes : List ℕ) → Reading IsBelow Fits text start (λ x. Ok x) bytes (read bytes)

  pub alone_is : {C : Type 0} (bytes : List ℕ) (others : A × List ℕ → Result C E) (r : Result (A × List ℕ) E)
      → Reading IsBelow Fits text start (λ x. Ok x) bytes r
      → Reading IsBelow Fits text start others bytes (r >>= others)
  alone_is bytes others r (goes x fits taken same) = goes x fits taken (rw same)
  alone_is bytes others r (fails e below same) = fails e below (rw same)

  taken_by : (r : Result (A × List ℕ) E) (bytes : List ℕ) → Reading IsBelow Fits text start (λ x. Ok x) bytes r
      → (x : A × List ℕ) → r ≡ Ok x → Fits x.0 × Takes bytes (text x.0) x.1
  taken_by r bytes (goes y fits taken same) x e =
      let is : y ≡ x = cc in rw (← is) (fits, taken)
  taken_by r bytes (fails d below same) x e = absurd cc

  -- what it has read fits, and was taken
  pub taken_of : IsReader → (bytes : List ℕ) (x : A × List ℕ) → read bytes ≡ Ok x
      → Fits x.0 × Takes bytes (text x.0) x.1
  taken_of is bytes = taken_by (read bytes) bytes (is bytes)

  -- and others behind it
  abbrev pub alone : IsReader → ((x : A) (rest : List ℕ) → Fits x → read (text x ++ rest) ≡ Ok (x, rest))
      → Codec IsBelow A
  alone is again = record {
    Fits = Fits;
    text = text;
    start = start;
    read = λ C bytes others. read bytes >>= others;
    is = λ C bytes others. alone_is bytes others (read bytes) (is bytes);
    again = λ C others x rest h. rw (again x rest h);
  }

-- ---- readers of parts

module _ {E : Type 0} {IsBelow : ℕ → E → Type 0} {A B : Type 0} (a : Codec IsBelow A) where
  -- a part, and behind it another, which may depend on it
  module _ (b : A → Codec IsBelow B) (behind : (x : A) → a.Fits x → (b x).start ≤ a.start + length (a.text x)) where
    abbrev Both_fit : A × B → Type 0
    Both_fit x = a.Fits x.0 × (b x.0).Fits x.1

    abbrev both_text : A × B → List ℕ
    both_text x = a.text x.0 ++ (b x.0).text x.1

    abbrev then : (C : Type 0) → ((A × B) × List ℕ → Result C E) → A × List ℕ → Result C E
    then C others x = (b x.0).read C x.1 (λ y. others ((x.0, y.0), y.1))

    pub second_is : {C : Type 0} (bytes : List ℕ) (others : (A × B) × List ℕ → Result C E) (x : A × List ℕ)
        (r : Result C E) → a.Fits x.0 → Takes bytes (a.text x.0) x.1 → r ≡ then C others x
        → Reading IsBelow (b x.0).Fits (b x.0).text (b x.0).start (λ y. others ((x.0, y.0), y.1)) x.1 (then C others x)
        → Reading IsBelow Both_fit both_text a.start others bytes r
    second_is bytes others x r fits taken same (goes y also more next) =
        let both_taken = Takes-then bytes (a.text x.0) x.1 ((b x.0).text y.0) y.1 taken more in
        goes ((x.0, y.0), y.1) (fits, also) both_taken (same ∙ next)
    second_is bytes others x r fits taken same (fails e below next) =
        fails e (λ n le. below n (omega (arith, le, taken.size, behind x.0 fits))) (same ∙ next)

    pub both_is : {C : Type 0} (bytes : List ℕ) (others : (A × B) × List ℕ → Result C E) (r : Result C E)
        → Reading IsBelow a.Fits a.text a.start (then C others) bytes r
        → Reading IsBelow Both_fit both_text a.start others bytes r
    both_is {C = C} bytes others r (goes x fits taken same) =
        second_is bytes others x r fits taken same ((b x.0).is C x.1 (λ y. others ((x.0, y.0), y.1)))
    both_is bytes others r (fails e below same) = fails e below same

    abbrev pub both : Codec IsBelow (A × B)
    both = record {
      Fits = Both_fit;
      text = both_text;
      start = a.start;
      read = λ C bytes others. a.read C bytes (then C others);
      is = λ C bytes others. both_is bytes others (a.read C bytes (then C others)) (a.is C bytes (then C others));
      again = λ C others x rest h.
          rw (append_assoc (a.text x.0), a.again C (then C others) x.0 ((b x.0).text x.1 ++ rest) h.0)
          ((b x.0).again C (λ y. others ((x.0, y.0), y.1)) x.1 rest h.1);
    }

  -- the same part as another value
  module _ (to : A → B) (from : B → A) (Fits : B → Type 0) (text : B → List ℕ)
      (there : (x : A) → a.Fits x → Fits (to x) × (a.text x ≡ text (to x)))
      (back : (y : B) → Fits y → a.Fits (from y) × (a.text (from y) ≡ text y) × (to (from y) ≡ y)) where
    pub seen_is : {C : Type 0} (bytes : List ℕ) (others : B × List ℕ → Result C E) (r : Result C E)
        → Reading IsBelow a.Fits a.text a.start (λ x. others (to x.0, x.1)) bytes r
        → Reading IsBelow Fits text a.start others bytes r
    seen_is bytes others r (goes x fits taken same) =
        let are = there x.0 fits in
        goes (to x.0, x.1) are.0 (rw are.1 at taken) same
    seen_is bytes others r (fails e below same) = fails e below same

    abbrev pub seen : Codec IsBelow B
    seen = record {
      Fits = Fits;
      text = text;
      start = a.start;
      read = λ C bytes others. a.read C bytes (λ x. others (to x.0, x.1));
      is = λ C bytes others. seen_is bytes others (a.read C bytes (λ x. others (to x.0, x.1)))
          (a.is C bytes (λ x. others (to x.0, x.1)));
      again = λ C others y rest h.
          let are = back y h in
          rw (← are.1, a.again C (λ x. others (to x.0, x.1)) (from y) rest are.0, are.2);
    }

-- a test between two parts takes no bytes: it lets pass what is good, and else it is a fault at a byte before its start
module _ {E : Type 0} {IsBelow : ℕ → E → Type 0} (start : ℕ) (fault : E) (below : (n : ℕ) → start ≤ n → IsBelow n fault)
    (test : Bool → (C : Type 0) → Result C E → Result C E) where
  pub test_is : (good : Bool) → ((C : Type 0) (r : Result C E) → test good C r ≡ r)
      → ((C : Type 0) (r : Result C E) → test (not good) C r ≡ Err fault) → (b : Bool)
      → (C : Type 0) (bytes : List ℕ) (others : ⊤ × List ℕ → Result C E)
      → Reading IsBelow (λ (u : ⊤). b ≡ good) (λ u. []) start others bytes (test b C (others (tt, bytes)))
  test_is true pass stop false C bytes others =
      fails fault (λ n le. below n (omega (arith, le))) (stop C (others (tt, bytes)))
  test_is false pass stop true C bytes others =
      fails fault (λ n le. below n (omega (arith, le))) (stop C (others (tt, bytes)))
  test_is good pass stop b C bytes others = goes (tt, bytes) refl (Takes-none bytes) (pass C (others (tt, bytes)))

  abbrev pub checked : (good : Bool) → ((C : Type 0) (r : Result C E) → test good C r ≡ r)
      → ((C : Type 0) (r : Result C E) → test (not good) C r ≡ Err fault) → Bool → Codec IsBelow ⊤
  checked good pass stop b = record {
    Fits = λ u. b ≡ good;
    text = λ u. [];
    start = start;
    read = λ C bytes others. test b C (others (tt, bytes));
    is = test_is good pass stop b;
    again = λ C others u rest h. rw h (pass C (others (tt, rest)));
  }

module _ {E : Type 0} {IsBelow : ℕ → E → Type 0} {A : Type 0} (a : Codec IsBelow A) where
  -- a reader that by definition reads this part
  pub named_is : (read : List ℕ → Result (A × List ℕ) E)
      → ((bytes : List ℕ) → read bytes ≡ a.read (A × List ℕ) bytes (λ x. Ok x))
      → IsReader IsBelow a.Fits a.text a.start read
  named_is read same bytes =
      rw (same bytes) (a.is (A × List ℕ) bytes (λ x. Ok x))

  abbrev pub named : (read : List ℕ → Result (A × List ℕ) E)
      → ((bytes : List ℕ) → read bytes ≡ a.read (A × List ℕ) bytes (λ x. Ok x)) → Codec IsBelow A
  named read same =
      alone IsBelow a.Fits a.text a.start read (named_is read same)
      (λ x rest h. same (a.text x ++ rest) ∙ a.again (A × List ℕ) (λ y. Ok y) x rest h)
