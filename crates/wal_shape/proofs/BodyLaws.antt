-- An opening body that is read is spelled so, and what is spelled so is read, whatever follows.
use Rattle.wal_shape.proofs.Common.{◌≡◌, ℕ, ◌+◌, ◌*◌, ◌/◌, ◌<◌, ◌≤◌, Bool, true, false, cond, ltb, List, [], ◌∷◌, ◌++◌, length, take, drop, Result, Ok, Err, refl, sym, append_assoc, arith, ⊤, Width, w8, w16, w32, byte_len, from_be_bytes, to_be_bytes, ltb-false, le-ltb, take_at, drop_at, take-append-drop, length-append, length-take, length-drop, Opening, BodyFault, most_bytes, IsBody, number_text, body_text, ◌>>=◌, number_at, run_at, body_at}
use Rattle.wal_shape.specs.declared.body.BodyFault.TheVariants.{Truncated, BadField}
use Rattle.wal_shape.proofs.Codecs.{ok_is, Takes, Reading, goes, fails, Codec, IsReader, taken_of, alone, both, seen, named_is}
use Rattle.wal_shape.proofs.Numbers.{IsBytes, IsBytes-drop, IsBytes-take, IsWide, wide8, wide16, wide32, byte_text}

-- the value of a step that did not fail
pub bind_ok : {A B E : Type 0} (r : Result A E) (f : A → Result B E) (y : B) → (r >>= f) ≡ Ok y → (x : A) × (r ≡ Ok x) × (f x ≡ Ok y)
bind_ok (Ok x) f y e = (x, refl, e)
bind_ok (Err d) f y e = absurd cc

-- a test that did not fail
pub guard_ok : {A E : Type 0} (b : Bool) (d : E) (r : Result A E) (y : A) → cond b (Err d) r ≡ Ok y → (b ≡ false) × (r ≡ Ok y)
guard_ok true d r y e = absurd cc
guard_ok false d r y e = (refl, e)

-- the place of a bad field is below n
abbrev pub IsBelow : ℕ → BodyFault → Type 0
IsBelow n Truncated = ⊤
IsBelow n (BadField place) = place < n

-- ---- numbers and runs

module _ {w : Width} {limit : ℕ} (wide : IsWide w limit) (place most : ℕ) where
  number_by : (bytes : List ℕ) (short big : Bool) → ltb (length bytes) (byte_len w) ≡ short
      → ltb most (from_be_bytes w (take (byte_len w) bytes)) ≡ big
      → Reading IsBelow (λ n. n ≤ most) (number_text w) place (λ x. Ok x) bytes
      (cond short (Err Truncated)
      (cond big (Err (BadField place)) (Ok (from_be_bytes w (take (byte_len w) bytes), drop (byte_len w) bytes))))
  number_by bytes true big some few = fails Truncated (λ n le. tt) refl
  number_by bytes false true some few =
      fails (BadField place) (λ n le. omega (arith, le, wide.some, ltb-false _ _ some)) refl
  number_by bytes false false some few =
      let long : byte_len w ≤ length bytes = ltb-false _ _ some in
      goes (from_be_bytes w (take (byte_len w) bytes), drop (byte_len w) bytes) (ltb-false _ _ few) (record {
        size = omega (arith, wide.len (from_be_bytes w (take (byte_len w) bytes)), length-drop (byte_len w) bytes);
        parts = λ fits. rw (
          wide.back _ (omega (arith, long, length-take (byte_len w) bytes)) (IsBytes-take (byte_len w) bytes fits),
          take-append-drop (byte_len w) bytes,
        );
        rest_fits = IsBytes-drop (byte_len w) bytes;
      }) refl

  -- a number that is read
  pub number_is : IsReader IsBelow (λ n. n ≤ most) (number_text w) place (number_at w place most)
  number_is bytes = number_by bytes _ _ refl refl

  -- and the bytes that it is of, whatever numbers stand for them
  pub number_read : (bytes : List ℕ) (x : ℕ × List ℕ) → number_at w place most bytes ≡ Ok x
      → (byte_len w ≤ length bytes) × (x.0 ≤ most) × (from_be_bytes w (take (byte_len w) bytes) ≡ x.0)
      × (drop (byte_len w) bytes ≡ x.1)
  number_read bytes x e =
      let n = from_be_bytes w (take (byte_len w) bytes) in
      let long = guard_ok (ltb (length bytes) (byte_len w)) Truncated _ x e in
      let few = guard_ok (ltb most n) (BadField place) (Ok (n, drop (byte_len w) bytes)) x long.1 in
      rw (← ok_is (n, drop (byte_len w) bytes) x few.1) (ltb-false _ _ long.0, ltb-false _ _ few.0, refl, refl)

  pub number_again : most < limit → (n : ℕ) (rest : List ℕ) → n ≤ most
      → number_at w place most (number_text w n ++ rest) ≡ Ok (n, rest)
  number_again lt n rest le =
      let len = wide.len n in
      let long : byte_len w ≤ length (to_be_bytes w n ++ rest) = omega (arith, length-append (to_be_bytes w n) rest) in
      rw (
        le-ltb _ _ long,
        take_at (to_be_bytes w n) rest (byte_len w) len,
        drop_at (to_be_bytes w n) rest (byte_len w) len,
        wide.again n (omega (arith, le, lt)),
        le-ltb _ _ le,
      )

  abbrev pub number : most < limit → Codec IsBelow ℕ
  number lt = alone IsBelow (λ n. n ≤ most) (number_text w) place (number_at w place most) number_is (number_again lt)

module _ (k : ℕ) where
  run_by : (start : ℕ) (bytes : List ℕ) (short : Bool) → ltb (length bytes) k ≡ short
      → Reading IsBelow (λ run. length run ≡ k) (λ run. run) start (λ x. Ok x) bytes
      (cond short (Err Truncated) (Ok (take k bytes, drop k bytes)))
  run_by start bytes true some = fails Truncated (λ n le. tt) refl
  run_by start bytes false some =
      let len : length (take k bytes) ≡ k = omega (arith, ltb-false _ _ some, length-take k bytes) in
      goes (take k bytes, drop k bytes) len
      (record {
        size = omega (arith, len, length-drop k bytes, length-take k bytes);
        parts = λ fits. sym (take-append-drop k bytes);
        rest_fits = IsBytes-drop k bytes;
      }) refl

  -- a run that is read
  pub run_reads : (start : ℕ) → IsReader IsBelow (λ run. length run ≡ k) (λ run. run) start (run_at k)
  run_reads start bytes = run_by start bytes _ refl

  -- k bytes are read again from in front of a rest
  pub run_again : (run rest : List ℕ) → length run ≡ k → run_at k (run ++ rest) ≡ Ok (run, rest)
  run_again run rest len =
      let long : k ≤ length (run ++ rest) = omega (arith, len, length-append run rest) in
      rw (le-ltb _ _ long, take_at run rest k len, drop_at run rest k len)

  pub run_size : (bytes : List ℕ) (x : List ℕ × List ℕ) → run_at k bytes ≡ Ok x → length x.0 ≡ k
  run_size bytes x e = (taken_of IsBelow (λ run. length run ≡ k) (λ run. run) 0 (run_at k) (run_reads 0) bytes x e).0

  abbrev pub run : ℕ → Codec IsBelow (List ℕ)
  run start = alone IsBelow (λ run. length run ≡ k) (λ run. run) start (run_at k) (run_reads start) run_again

-- ---- bodies

abbrev pub BodyFields : Type 0
BodyFields = (((ℕ × ℕ) × List ℕ) × ℕ) × List ℕ

abbrev pub opening_of : BodyFields → Opening
opening_of x = record { cross = x.0.0.0.0; symbol = x.0.0.1; path = x.1 }

abbrev pub fields_of : Opening → BodyFields
fields_of o = ((((o.cross, length o.symbol), o.symbol), length o.path / 32), o.path)

abbrev pub body_fields : Codec IsBelow BodyFields
body_fields =
    both (both (both (both (number wide16 0 999 (omega arith))
    (λ x. number wide32 2 most_bytes (omega arith)) (λ x fits. omega arith))
    (λ x. run x.1 6) (λ x fits. omega arith))
    (λ x. number wide8 (6 + x.0.1) 10 (omega arith)) (λ x fits. omega (arith, fits.1)))
    (λ x. run (32 * x.1) 0) (λ x fits. omega arith)

pub fields_fit : (x : BodyFields) → body_fields.Fits x → IsBody (opening_of x)
    × (body_fields.text x ≡ body_text (opening_of x))
unfolding body_text
fields_fit x fits =
    let size : x.0.0.0.1 ≡ length x.0.0.1 = sym fits.0.0.1 in
    let count : x.0.1 ≡ length x.1 / 32 = omega (arith, fits.1) in (
      record {
        cross = fits.0.0.0.0;
        symbol = omega (arith, size, fits.0.0.0.1);
        path = omega (arith, fits.0.1, fits.1);
        whole = omega (arith, fits.1);
      },
      rw (size, count),
    )

pub fields_back : (o : Opening) → IsBody o → body_fields.Fits (fields_of o)
    × (body_fields.text (fields_of o) ≡ body_text o) × (opening_of (fields_of o) ≡ o)
unfolding body_text
fields_back o h = (((((h.cross, h.symbol), refl), omega (arith, h.path)), omega (arith, h.whole)), refl, refl)

-- an opening
abbrev pub opening : Codec IsBelow Opening
opening = seen body_fields opening_of fields_of IsBody body_text fields_fit fields_back

-- what is read of a body
pub body_is : IsReader IsBelow IsBody body_text 0 body_at
unfolding body_at
body_is = named_is opening body_at (λ bytes. refl)

-- a body is read as its opening, whatever follows
pub body_again : (o : Opening) (rest : List ℕ) → IsBody o → body_at (body_text o ++ rest) ≡ Ok (o, rest)
unfolding body_at
body_again o rest h = opening.again (Opening × List ℕ) (λ x. Ok x) o rest h

pub body_taken : (bytes : List ℕ) (x : Opening × List ℕ) → body_at bytes ≡ Ok x
    → IsBody x.0 × Takes bytes (body_text x.0) x.1
body_taken = taken_of IsBelow IsBody body_text 0 body_at body_is

pub length-body_text : (o : Opening) → length (body_text o) ≡ 7 + length o.symbol + length o.path
unfolding body_text
length-body_text o = omega (arith, length-append (o.symbol ++ number_text w8 (length o.path / 32)) o.path, length-append o.symbol (number_text w8 (length o.path / 32)))

-- the bytes after a body that was read
pub body_rest : (bytes : List ℕ) (x : Opening × List ℕ) → IsBytes bytes → body_at bytes ≡ Ok x → drop (7 + (length x.0.symbol + length x.0.path)) bytes ≡ x.1
body_rest bytes x fits e =
    let taken = (body_taken bytes x e).1 in
    let len : length (body_text x.0) ≡ 7 + (length x.0.symbol + length x.0.path) = omega (arith, length-body_text x.0) in
    rw (taken.parts fits) (drop_at (body_text x.0) x.1 _ len)

-- what is spelled as a body is read
pub body_read : (bytes : List ℕ) (o : Opening) (rest : List ℕ) → IsBody o → bytes ≡ body_text o ++ rest → body_at bytes ≡ Ok (o, rest)
body_read bytes o rest h same = rw same (body_again o rest h)

-- what a writer appends field by field is the body
pub put_text : (old : List ℕ) (o : Opening) → IsBody o → old ++ number_text w16 o.cross ++ number_text w32 (length o.symbol) ++ o.symbol ++ (length o.path / 32 ∷ []) ++ o.path ≡ old ++ body_text o
unfolding body_text
put_text old o h =
    rw (byte_text (length o.path / 32) (omega (arith, h.path))) (simp append_assoc)
