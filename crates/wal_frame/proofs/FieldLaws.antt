-- The parts of frames: what is read is spelled so, what is spelled so is read, and a fault lies among the bytes.
use Rattle.wal_frame.proofs.Common.{◌≡◌, ℕ, zero, suc, ◌+◌, ◌<◌, ◌≤◌, false, eqb, List, [], ◌∷◌, ◌++◌, length, take, drop, Result, Ok, Err, refl, sym, ap, ◌∙◌, arith, ⊤, Width, w8, w16, byte_len, from_be_bytes, ne_eqb, length-append, length-take, Axis, Primary, Secondary, BodyFault, IsBody, number_text, axis_number, body_text, ◌>>=◌, number_at, run_at, body_at, axis_of, IsBytes, IsBytes-take, IsWide, wide8, wide16, byte_text, ok_is, Reading, goes, fails, Codec, IsReader, taken_of, alone, both, seen, named, named_is, IsBelow, number_is, number_read, number_again, run_reads, run_again, body_is, body_again, FrameError, Truncated, BadField, Trailing, Target, IsId, IsTarget, target_text, IsPlaceBelow, in_frame, from_place, field_at, bytes_at, axis_at, target_with, target_at, text_at, opening_at, ended}
use Rattle.wal_shape.specs.declared.opening.Opening as single
use Rattle.wal_shape.specs.declared.body.BodyFault.TheVariants as body

-- the bytes of the number that was read are the bytes that were read
pub number_back : (w : Width) (limit : ℕ) (wide : IsWide w limit) (bytes : List ℕ) (n : ℕ) → byte_len w ≤ length bytes → IsBytes bytes → n ≡ from_be_bytes w (take (byte_len w) bytes) → number_text w n ≡ take (byte_len w) bytes
number_back w limit wide bytes n long fits e =
    ap (number_text w) e ∙ wide.back (take (byte_len w) bytes) (omega (arith, length-take (byte_len w) bytes)) (IsBytes-take (byte_len w) bytes fits)

-- ---- the end

-- a byte that is left
pub ended_not : {A : Type 0} (frame : A) (b : ℕ) (rest : List ℕ) → ended frame (b ∷ rest) ≡ Err Trailing
ended_not frame b rest =
    let left : eqb (length (b ∷ rest)) 0 ≡ false = ne_eqb (length (b ∷ rest)) 0 (λ e. absurd (omega (arith, e))) in
    rw left refl

-- what ended well is the frame itself, with no bytes left
pub ended_ok : {A : Type 0} (frame : A) (rest : List ℕ) (x : A) → ended frame rest ≡ Ok x → (frame ≡ x) × (rest ≡ [])
ended_ok frame [] x e = (ok_is frame x e, refl)
ended_ok frame (b ∷ rest) x e = absurd (let two : Ok x ≡ Err Trailing = sym e ∙ ended_not frame b rest in cc)

-- ---- numbers and runs of bytes

in_frame_ok : {A : Type 0} (r : Result A BodyFault) (x : A) → in_frame r ≡ Ok x → r ≡ Ok x
in_frame_ok {A = A} (Ok y) x e = ap (λ (z : A). Ok z) (ok_is y x e)
in_frame_ok (Err d) x e = absurd cc

module _ {A : Type 0} {Fits : A → Type 0} {text : A → List ℕ} (bytes : List ℕ) where
  -- a part whose places are counted from the kind, as a part of a frame
  pub framed : {place : ℕ} (r : Result (A × List ℕ) BodyFault) → Reading IsBelow Fits text place (λ x. Ok x) bytes r
      → Reading IsPlaceBelow Fits text place (λ x. Ok x) bytes (in_frame r)
  framed r (goes x fits taken same) = goes x fits taken (ap in_frame same)
  framed r (fails body.Truncated below same) = fails Truncated (λ n le. tt) (ap in_frame same)
  framed r (fails (body.BadField place) below same) = fails (BadField place) below (ap in_frame same)

  -- and a part whose places are counted from its own start
  pub placed : (start : ℕ) (r : Result (A × List ℕ) BodyFault) → Reading IsBelow Fits text 0 (λ x. Ok x) bytes r
      → Reading IsPlaceBelow Fits text start (λ x. Ok x) bytes (from_place start r)
  placed start r (goes x fits taken same) = goes x fits taken (ap (from_place start) same)
  placed start r (fails body.Truncated below same) = fails Truncated (λ n le. tt) (ap (from_place start) same)
  placed start r (fails (body.BadField place) below same) =
      let lt : place < length bytes = below (length bytes) (omega arith) in
      fails (BadField (start + place)) (λ n le. omega (arith, le, lt)) (ap (from_place start) same)

module _ {w : Width} {limit : ℕ} (wide : IsWide w limit) (place most : ℕ) where
  pub field_is : IsReader IsPlaceBelow (λ n. n ≤ most) (number_text w) place (field_at w place most)
  field_is bytes = framed bytes (number_at w place most bytes) (number_is wide place most bytes)

  -- the bytes of a number, whatever numbers stand for them
  pub field_read : (bytes : List ℕ) (x : ℕ × List ℕ) → field_at w place most bytes ≡ Ok x
      → (byte_len w ≤ length bytes) × (x.0 ≤ most) × (from_be_bytes w (take (byte_len w) bytes) ≡ x.0)
      × (drop (byte_len w) bytes ≡ x.1)
  field_read bytes x e = number_read wide place most bytes x (in_frame_ok (number_at w place most bytes) x e)

  pub field_again : most < limit → (n : ℕ) (rest : List ℕ) → n ≤ most
      → field_at w place most (number_text w n ++ rest) ≡ Ok (n, rest)
  field_again lt n rest le = ap in_frame (number_again wide place most lt n rest le)

  -- a number
  abbrev pub number : most < limit → Codec IsPlaceBelow ℕ
  number lt = alone IsPlaceBelow (λ n. n ≤ most) (number_text w) place (field_at w place most) field_is (field_again lt)

abbrev pub byte_of : ℕ → List ℕ
byte_of n = n ∷ []

pub byte_spelled : (most : ℕ) → most < 256 → (n : ℕ) → n ≤ most → number_text w8 n ≡ byte_of n
byte_spelled most lt n le = sym (byte_text n (omega (arith, le, lt)))

-- a number of one byte
abbrev pub byte : (place most : ℕ) → most < 256 → Codec IsPlaceBelow ℕ
byte place most lt = seen (number wide8 place most lt) (λ n. n) (λ n. n) (λ n. n ≤ most) byte_of
    (λ n le. (le, byte_spelled most lt n le)) (λ n le. (le, byte_spelled most lt n le, refl))

module _ (n place : ℕ) where
  -- n bytes are read as they stand
  pub bytes_are : IsReader IsPlaceBelow (λ r. length r ≡ n) (λ r. r) place (bytes_at n)
  bytes_are bytes = framed bytes (run_at n bytes) (run_reads n place bytes)

  -- a run of bytes
  abbrev pub run : Codec IsPlaceBelow (List ℕ)
  run = alone IsPlaceBelow (λ r. length r ≡ n) (λ r. r) place (bytes_at n) bytes_are
      (λ r rest len. ap in_frame (run_again n r rest len))

-- ---- axes, targets and texts

pub axis_byte : (n : ℕ) → n ≤ 1 → byte_of n ≡ byte_of (axis_number (axis_of n))
axis_byte zero le = refl
axis_byte (suc zero) le = refl
axis_byte (suc (suc n)) le = absurd (omega arith)

pub axis_back : (axis : Axis) → (axis_number axis ≤ 1) × (byte_of (axis_number axis) ≡ byte_of (axis_number axis))
    × (axis_of (axis_number axis) ≡ axis)
axis_back Primary = (omega arith, refl, refl)
axis_back Secondary = (omega arith, refl, refl)

abbrev pub axis_value : ℕ → Codec IsPlaceBelow Axis
axis_value place = seen (byte place 1 (omega arith)) axis_of axis_number (λ a. ⊤) (λ a. byte_of (axis_number a))
    (λ n le. (tt, axis_byte n le)) (λ a h. axis_back a)

pub axis_same : (place : ℕ) (bytes : List ℕ)
    → axis_at place bytes ≡ (axis_value place).read (Axis × List ℕ) bytes (λ x. Ok x)
unfolding axis_at
axis_same place bytes = refl

-- an axis
abbrev pub axis : ℕ → Codec IsPlaceBelow Axis
axis place = named (axis_value place) (axis_at place) (axis_same place)

abbrev pub text_of_target : Target → List ℕ
text_of_target t = target_text t.id.0 t.axis t.index

abbrev pub target_value : Codec IsPlaceBelow Target
target_value =
    seen (both (both (run 32 1) (λ id. axis 33) (λ id len. omega (arith, len)))
    (λ x. number wide16 34 999 (omega arith))
    (λ x fits. omega (arith, fits.0, length-append x.0 (byte_of (axis_number x.1)))))
    (λ x. target_with x.0.0 x.0.1 x.1) (λ t. ((t.id.0, t.axis), t.index)) (λ t. IsTarget t.id.0 t.index) text_of_target
    (λ x fits. (record { id_size = fits.0.0; index_most = fits.1 }, refl))
    (λ t h. (((h.id_size, tt), h.index_most), refl, refl))

pub target_same : (bytes : List ℕ) → target_at bytes ≡ target_value.read (Target × List ℕ) bytes (λ x. Ok x)
unfolding target_at
target_same bytes = refl

-- an identifier, an axis and an index
abbrev pub target : Codec IsPlaceBelow Target
target = named target_value target_at target_same

pub length-target : (id : List ℕ) (axis : Axis) (index : ℕ) → IsId id → length (target_text id axis index) ≡ 35
length-target id axis index size =
    let a = axis_number axis ∷ [] in
    omega (arith, size, length-append (id ++ a) (number_text w16 index), length-append id a)

pub target_is : IsReader IsPlaceBelow (λ t. IsTarget t.id.0 t.index) text_of_target 1 target_at
target_is = named_is target_value target_at target_same

-- an identifier stands first
pub target_long : (bytes : List ℕ) (t : Target) (rest : List ℕ) → target_at bytes ≡ Ok (t, rest) → 32 ≤ length bytes
target_long bytes t rest e =
    let is =
    taken_of IsPlaceBelow (λ t. IsTarget t.id.0 t.index) text_of_target 1 target_at target_is bytes (t, rest) e in
    omega (arith, is.1.size, length-target t.id.0 t.axis t.index is.0.id_size)

-- what stands behind it
pub behind_target : (t : Target) → IsTarget t.id.0 t.index → 36 ≤ 1 + length (text_of_target t)
behind_target t h = omega (arith, length-target t.id.0 t.axis t.index h.id_size)

abbrev pub text_behind_size : List ℕ → List ℕ
text_behind_size t = length t ∷ t

abbrev pub text_value : ℕ → Codec IsPlaceBelow (List ℕ)
text_value place =
    seen (both (byte place 65 (omega arith)) (λ n. run n 0) (λ n le. omega arith))
    (λ x. x.1) (λ t. (length t, t)) (λ t. length t ≤ 65) text_behind_size
    (λ x fits. (omega (arith, fits.0, fits.1), ap (λ (n : ℕ). n ∷ x.1) (sym fits.1))) (λ t h. ((h, refl), refl, refl))

last_ok : {A : Type 0} (r : Result A FrameError) → r ≡ (r >>= (λ x. Ok x))
last_ok (Ok x) = refl
last_ok (Err e) = refl

then_ok : {A B : Type 0} (r : Result A FrameError) (f : A → Result B FrameError)
    → (r >>= f) ≡ (r >>= (λ x. f x >>= (λ y. Ok y)))
then_ok (Ok x) f = last_ok (f x)
then_ok (Err e) f = refl

pub text_same : (place : ℕ) (bytes : List ℕ)
    → text_at place bytes ≡ (text_value place).read (List ℕ × List ℕ) bytes (λ x. Ok x)
unfolding text_at
text_same place bytes = then_ok (field_at w8 place 65 bytes) (λ size. bytes_at size.0 size.1)

-- a text behind its size
abbrev pub text : ℕ → Codec IsPlaceBelow (List ℕ)
text place = named (text_value place) (text_at place) (text_same place)

-- a text that was read is short
pub text_short : (place : ℕ) (bytes : List ℕ) (x : List ℕ × List ℕ) → text_at place bytes ≡ Ok x → length x.0 ≤ 65
text_short place bytes x e =
    let is = named_is (text_value place) (text_at place) (text_same place) in
    (taken_of IsPlaceBelow (λ t. length t ≤ 65) text_behind_size place (text_at place) is bytes x e).0

-- ---- openings

pub opening_is : (place : ℕ) → IsReader IsPlaceBelow IsBody body_text place (opening_at place)
opening_is place bytes = placed bytes place (body_at bytes) (body_is bytes)

-- an opening body
abbrev pub opening : ℕ → Codec IsPlaceBelow single.Opening
opening place = alone IsPlaceBelow IsBody body_text place (opening_at place) (opening_is place)
    (λ o rest h. ap (from_place place) (body_again o rest h))
