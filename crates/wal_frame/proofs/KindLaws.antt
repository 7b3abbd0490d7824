-- Each kind of frame that is read is spelled so, and a fault lies among the bytes.
use Rattle.wal_frame.proofs.Common.{◌≡◌, ℕ, zero, suc, ◌+◌, ◌-◌, ◌*◌, ◌<◌, ◌≤◌, Bool, true, false, cond, eqb, List, [], ◌∷◌, ◌++◌, length, get_or, take, drop, Some, Result, Ok, Err, refl, sym, ap, ◌∙◌, append_assoc, arith, w8, w16, w64, from_be_bytes, AllByRecursion, flat_map, eqb-true, eqb-false, ne_eqb, append-nil, length-append, length-drop, drop_at, Axis, Primary, Secondary, BodyFault, Format, One, Two, BlobMetadata, IsMetadata, held_order, IsBody, EncodingProof, IsProof, ◌>>=◌, number_text, axis_number, pairs_text, format_text, text_size, metadata_text, body_text, proof_text, spelled_f, spelled_length, spelled_metadata, body_at, openings_in, IsBytes, wide8, wide16, wide32, wide64, ok_is, taken_of, Reading, goes, fails, Codec, checked, both, seen, named, named_is, bind_ok, guard_ok, text_behind, metadata_text-format, length-behind, format_again, behind_again, size_by, spelled_metadata-format, spelled_metadata-f, spelled_metadata-text, IsMetadata-spelled, metadata_text-spelled, length-metadata_text, Target, FrameError, BadField, Frame, Metadata, Sliver, Opening, Proof, Symbol, Answer, Clash, RegisterEntry, IsId, IsTarget, IsFrame, metadata_kind, target_text, frame_text, IsPlaceBelow, field_at, bytes_at, from_place, target_at, opening_at, faults_at, roots_at, metadata_at, version_at, metadata2_at, sliver_at, opened_at, bodies_at, proof_with, proof_at, name_at, symbol_at, answer_at, clash_at, register_at, entry_at, made, ended}
use Rattle.std.proofs.Common.{ap₂}
use Rattle.wal_shape.specs.declared.opening.Opening as single
use Rattle.wal_shape.specs.Shape.{most_bytes, shard_count}
use Rattle.wal_shape.specs.inside.MetadataReading.{SpellMetadata, AreNumbersAndRoots}
use Rattle.wal_shape.specs.inside.ProofReading.{bodies_end, behind}
use Rattle.wal_shape.proofs.ProofLaws.{length-openings_in, openings_in-fit, openings_in-take, openings_in-again, regroup_bodies}
use Rattle.wal_frame.proofs.FieldLaws.{ended_not, field_read, bytes_are, number, byte, byte_of, run, target, text, opening, opening_is, text_of_target, behind_target}

-- ---- frames

-- a frame that was read is in the ranges, is as long as its spelling, and is spelled so if the numbers are bytes
pub record IsRead (bytes : List ℕ) (x : Frame) : Type 0 where
  pub fits : IsFrame x
  pub size : length bytes ≡ length (frame_text x)
  pub spelled : IsBytes (drop 1 bytes) → bytes ≡ frame_text x

-- what a reader of frames makes of the bytes
abbrev pub Outcome : List ℕ → Result Frame FrameError → Type 0
Outcome bytes (Ok x) = IsRead bytes x
Outcome bytes (Err e) = IsPlaceBelow (length bytes) e

-- a frame of what was read, behind which nothing may follow
abbrev pub ending : {A X : Type 0} → (A → X) → A × List ℕ → Result X FrameError
ending frame x = ended (frame x.0) x.1

-- parts that are a frame of this kind
abbrev Spells : {A : Type 0} → ℕ → (A → Frame) → (A → Type 0) → (A → List ℕ) → Type 0
Spells {A = A} kind frame Fits text = (x : A) → Fits x → IsFrame (frame x) × (kind ∷ text x ≡ frame_text (frame x))

outcome_of : {A : Type 0} {Fits : A → Type 0} {text : A → List ℕ} {start : ℕ} (kind : ℕ) (frame : A → Frame)
    → Spells kind frame Fits text → start ≤ 1 → (bytes : List ℕ) (r : Result Frame FrameError)
    → Reading IsPlaceBelow Fits text start (ending frame) bytes r → Outcome (kind ∷ bytes) r
outcome_of kind frame spells first bytes r (goes (x, []) fits taken same) =
    rw same (record {
      fits = (spells x fits).0;
      size = omega (arith, taken.size, ap length (spells x fits).1);
      spelled = λ all. ap (λ (t : List ℕ). kind ∷ t) (taken.parts all ∙ append-nil _) ∙ (spells x fits).1;
    })
outcome_of kind frame spells first bytes r (goes (x, b ∷ rest) fits taken same) =
    rw (same, ended_not (frame x) b rest) tt
outcome_of kind frame spells first bytes r (fails e below same) =
    rw same (below (suc (length bytes)) (omega (arith, first)))

module _ {A : Type 0} (c : Codec IsPlaceBelow A) (kind : ℕ) (frame : A → Frame) where
  -- a frame of these parts
  pub whole : Spells kind frame c.Fits c.text → c.start ≤ 1 → (bytes : List ℕ)
      → Outcome (kind ∷ bytes) (c.read Frame bytes (ending frame))
  whole spells first bytes =
      outcome_of kind frame spells first bytes (c.read Frame bytes (ending frame)) (c.is Frame bytes (ending frame))

made_ended : {X : Type 0} (frame : X → Frame) (x : X) (rest : List ℕ) → made frame (ended x rest) ≡ ended (frame x) rest
made_ended frame x [] = refl
made_ended frame x (b ∷ rest) = rw (ended_not x b rest, ended_not (frame x) b rest)

module _ {A X : Type 0} (c : Codec IsPlaceBelow A) (parts : A → X) (frame : X → Frame) where
  made_of : (bytes : List ℕ) (r : Result X FrameError)
      → Reading IsPlaceBelow c.Fits c.text c.start (ending parts) bytes r
      → Reading IsPlaceBelow c.Fits c.text c.start (ending (λ x. frame (parts x))) bytes (made frame r)
  made_of bytes r (goes x fits taken same) = goes x fits taken (rw same (made_ended frame (parts x.0) x.1))
  made_of bytes r (fails e below same) = fails e below (ap (made frame) same)

  -- a frame that is made of what such parts are
  pub whole_made : (kind : ℕ) → Spells kind (λ x. frame (parts x)) c.Fits c.text → c.start ≤ 1 → (bytes : List ℕ)
      → Outcome (kind ∷ bytes) (made frame (c.read X bytes (ending parts)))
  whole_made kind spells first bytes =
      outcome_of kind (λ x. frame (parts x)) spells first bytes (made frame (c.read X bytes (ending parts)))
      (made_of bytes (c.read X bytes (ending parts)) (c.is X bytes (ending parts)))

  -- a frame made of the text of its parts and a rest is that frame, if the rest ends it
  pub made_again : (x : A) (rest : List ℕ) → c.Fits x
      → made frame (c.read X (c.text x ++ rest) (ending parts)) ≡ ended (frame (parts x)) rest
  made_again x rest h = rw (c.again X (ending parts) x rest h) (made_ended frame (parts x) rest)

-- ---- slivers, openings and symbols

-- the codec of a sliver: its target, its size, and its bytes
abbrev pub sliver : Codec IsPlaceBelow ((Target × ℕ) × List ℕ)
sliver = both (both target (λ t. number wide32 36 most_bytes (omega arith)) behind_target) (λ x. run x.1 0)
    (λ x fits. omega arith)

abbrev pub sliver_of : (Target × ℕ) × List ℕ → Frame
sliver_of x = Sliver x.0.0.id.0 x.0.0.axis x.0.0.index x.1

pub sliver_is : (bytes : List ℕ) → Outcome (0x11 ∷ bytes) (sliver_at bytes)
unfolding sliver_at
sliver_is =
    whole sliver 0x11 sliver_of (λ x fits. (
      record {
        id_size = fits.0.0.id_size;
        index_most = fits.0.0.index_most;
        size_most = omega (arith, fits.1, fits.0.1);
      },
      rw fits.1,
    )) (omega arith)

-- the codec of an opening: its target, and what it shows
abbrev pub opened : Codec IsPlaceBelow (Target × single.Opening)
opened = both target (λ t. opening 36) behind_target

abbrev pub opened_of : Target × single.Opening → Frame
opened_of x = Opening x.0.id.0 x.0.axis x.0.index x.1

pub opened_is : (bytes : List ℕ) → Outcome (0x12 ∷ bytes) (opened_at bytes)
unfolding opened_at
opened_is = whole opened 0x12 opened_of (λ x fits. (fits, refl)) (omega arith)

abbrev pub symbol_of : Target → Frame
symbol_of t = Symbol t.id.0 t.axis t.index

pub symbol_is : (bytes : List ℕ) → Outcome (0x21 ∷ bytes) (symbol_at bytes)
unfolding symbol_at
symbol_is = whole target 0x21 symbol_of (λ t fits. (fits, refl)) (omega arith)

-- ---- bodies

abbrev pub after_one : ℕ → ℕ → single.Opening × List ℕ → Result (List ℕ) FrameError
after_one n place body = bodies_at n (place + length (body_text body.0)) body.1

from_place_ok : {A : Type 0} (place : ℕ) (r : Result A BodyFault) (x : A) → from_place place r ≡ Ok x → r ≡ Ok x
from_place_ok place (Ok y) x e = cc
from_place_ok place (Err d) x e = absurd cc

-- where the bodies can be read, they end
bodies_are : (n place : ℕ) (bytes rest : List ℕ) → bodies_at n place bytes ≡ Ok rest → bodies_end n bytes ≡ Some rest
unfolding bodies_at bodies_end
bodies_are zero place bytes rest e = cc
bodies_are (suc n) place bytes rest e =
    let body = bind_ok (opening_at place bytes) (after_one n place) rest e in
    let first = from_place_ok place (body_at bytes) body.0 body.1 in
    rw first (bodies_are n (place + length (body_text body.0.0)) body.0.1 rest body.2)

bodies_fault : (n place : ℕ) (bytes : List ℕ) (e : FrameError) → bodies_at n place bytes ≡ Err e → (most : ℕ)
    → place + length bytes ≤ most → IsPlaceBelow most e
unfolding bodies_at
bodies_fault zero place bytes e h most le = absurd cc
bodies_fault (suc n) place bytes e h most le =
    by (opening_is place bytes) (λ x is more. bodies_fault n (place + length (body_text x.0)) x.1 e is most more)
  where
    by : Reading IsPlaceBelow IsBody body_text place (λ x. Ok x) bytes (opening_at place bytes)
        → ((x : single.Opening × List ℕ) → after_one n place x ≡ Err e → place + length (body_text x.0) + length x.1 ≤ most
        → IsPlaceBelow most e) → IsPlaceBelow most e
    by (goes x fits taken same) others =
        others x (rw same at h) (omega (arith, le, taken.size))
    by (fails d below same) others = let is : d ≡ e = cc (rw same at h) in rw (← is) (below most le)

bodies_again : (os : List single.Opening) (place : ℕ) (rest : List ℕ) → AllByRecursion IsBody os → bodies_at (length os) place (flat_map body_text os ++ rest) ≡ Ok rest
unfolding bodies_at
bodies_again [] place rest fits = refl
bodies_again (o ∷ os) place rest fits =
    rw (regroup_bodies o os rest)
    ((opening place).again (List ℕ) (after_one (length os) place) o (flat_map body_text os ++ rest) fits.0
    ∙ bodies_again os (place + length (body_text o)) rest fits.1)

abbrev pub AreBodies : ℕ → List single.Opening → Type 0
AreBodies n os = (length os ≡ n) × AllByRecursion IsBody os

module _ (n place : ℕ) {C : Type 0} (others : List single.Opening × List ℕ → Result C FrameError) where
  abbrev after_all : List ℕ → List ℕ → Result C FrameError
  after_all bytes rest = others (openings_in n bytes, rest)

  pub openings_by : (bytes : List ℕ) (r : Result (List ℕ) FrameError) → bodies_at n place bytes ≡ r
      → Reading IsPlaceBelow (AreBodies n) (flat_map body_text) place others bytes (r >>= after_all bytes)
  openings_by bytes (Ok rest) e =
      let ends = bodies_are n place bytes rest e in
      goes (openings_in n bytes, rest) (length-openings_in n bytes rest ends, openings_in-fit n bytes rest ends)
      (openings_in-take n bytes rest ends) refl
  openings_by bytes (Err d) e = fails d (bodies_fault n place bytes d e) refl

  pub openings_again : (os : List single.Opening) (rest : List ℕ) → AreBodies n os
      → (bodies_at n place (flat_map body_text os ++ rest) >>= after_all (flat_map body_text os ++ rest))
      ≡ others (os, rest)
  openings_again os rest h =
      rw (← h.0, bodies_again os place rest h.1, openings_in-again os rest h.1)

-- n bodies, of which the first begins at this place
abbrev pub openings : ℕ → ℕ → Codec IsPlaceBelow (List single.Opening)
openings n place = record {
  Fits = AreBodies n;
  text = flat_map body_text;
  start = place;
  read = λ C bytes others. bodies_at n place bytes >>= (λ rest. others (openings_in n bytes, rest));
  is = λ C bytes others. openings_by n place others bytes (bodies_at n place bytes) refl;
  again = λ C others os rest h. openings_again n place others os rest h;
}

-- ---- a loop over bodies

-- with bodies to come, the next opening is read and then those behind it
pub bodies_next : (count i place : ℕ) (bytes : List ℕ) (r : Result (single.Opening × List ℕ) FrameError) → i < count
    → opening_at place bytes ≡ r → bodies_at (count - i) place bytes ≡ (r >>= after_one (count - (i + 1)) place)
unfolding bodies_at
bodies_next count i place bytes r lt e = let k : count - i ≡ suc (count - (i + 1)) = omega arith in rw (k, e)

-- with no bodies to come, nothing is read
pub bodies_done : (count i place : ℕ) (bytes : List ℕ) → count ≤ i → bodies_at (count - i) place bytes ≡ Ok bytes
unfolding bodies_at
bodies_done count i place bytes le = let k : count - i ≡ 0 = omega arith in rw k

-- ---- the whole of a proof

axis_text : (a : Axis) → number_text w8 (axis_number a) ≡ byte_of (axis_number a)
axis_text Primary = refl
axis_text Secondary = refl

proof_parts : (id : List ℕ) (p : EncodingProof)
    → target_text id p.axis p.index ++ number_text w16 (length p.openings) ++ flat_map body_text p.openings
    ≡ id ++ proof_text p
unfolding proof_text
proof_parts id p = rw (← axis_text p.axis) (simp append_assoc)

-- the codec of a proof: its target, its size, and its openings
abbrev pub proof : Codec IsPlaceBelow ((Target × ℕ) × List single.Opening)
proof =
    both (both target (λ t. number wide16 36 1000 (omega arith)) behind_target) (λ x. openings x.1 38)
    (λ x fits. omega (arith, behind_target x.0 fits.0, length-append (text_of_target x.0) (number_text w16 x.1)))

abbrev pub proof_of : (Target × ℕ) × List single.Opening → Frame
proof_of x = Proof x.0.0.id.0 (proof_with x.0.0.axis x.0.0.index x.1)

pub proof_is : (bytes : List ℕ) → Outcome (0x13 ∷ bytes) (proof_at bytes)
unfolding proof_at
proof_is =
    whole proof 0x13 proof_of (λ x fits. (
      (
        fits.0.0.id_size,
        record {
          index = fits.0.0.index_most;
          count = omega (arith, fits.1.0, fits.0.1);
          bodies = fits.1.1;
        },
      ),
      rw (← fits.1.0) (ap (λ (t : List ℕ). 0x13 ∷ t) (proof_parts x.0.0.id.0 (proof_with x.0.0.axis x.0.0.index x.1))),
    )) (omega arith)

abbrev pub proof_of_target : Target → ℕ → List ℕ → EncodingProof
proof_of_target t count bytes = proof_with t.axis t.index (openings_in count bytes)

pub proof_found : (bytes : List ℕ) (t : Target) (numbers : List ℕ) (count : ℕ) (bodies end : List ℕ) → target_at bytes ≡ Ok (t, numbers)
    → field_at w16 36 1000 numbers ≡ Ok (count, bodies) → bodies_at count 38 bodies ≡ Ok end → end ≡ [] → proof_at bytes ≡ Ok (Proof t.id.0 (proof_of_target t count bodies))
unfolding proof_at
proof_found bytes t numbers count bodies end e1 e2 e3 none = rw (e1, e2, e3, none)

-- what is read as a proof is one, and spelled behind the identifier
pub proof_read : (bytes : List ℕ) (t : Target) (numbers : List ℕ) (count : ℕ) (bodies end : List ℕ) → IsBytes bytes → target_at bytes ≡ Ok (t, numbers)
    → field_at w16 36 1000 numbers ≡ Ok (count, bodies) → bodies_at count 38 bodies ≡ Ok end → end ≡ []
    → IsProof (proof_of_target t count bodies) × (proof_text (proof_of_target t count bodies) ≡ drop 32 bytes)
proof_read bytes t numbers count bodies end fits e1 e2 e3 none =
    let is = rw (proof_found bytes t numbers count bodies end e1 e2 e3 none) at (proof_is bytes) in
    let p = proof_of_target t count bodies in
    (is.fits.1, sym (ap (drop 33) (is.spelled fits) ∙ drop_at t.id.0 (proof_text p) 32 is.fits.0))

-- the text of a proof is read as this proof, if what is behind it ends the frame
pub proof_behind : (t : Target) (os : List single.Opening) (rest : List ℕ) → IsId t.id.0
    → IsProof (proof_with t.axis t.index os)
    → proof_at (t.id.0 ++ proof_text (proof_with t.axis t.index os) ++ rest)
    ≡ ended (proof_of ((t, length os), os)) rest
unfolding proof_at
proof_behind t os rest size h =
    rw (← proof_parts t.id.0 (proof_with t.axis t.index os))
    (proof.again Frame (ending proof_of) ((t, length os), os) rest
    ((record { id_size = size; index_most = h.index }, h.count), (refl, h.bodies)))

-- ---- identifiers, answers, texts and entries

-- the codec of an identifier
abbrev pub name : Codec IsPlaceBelow (List ℕ)
name = run 32 1

pub name_is : (kind : ℕ) (frame : List ℕ → Frame)
    → ((id : List ℕ) → IsId id → IsFrame (frame id) × (kind ∷ id ≡ frame_text (frame id)))
    → (bytes : List ℕ) → Outcome (kind ∷ bytes) (made frame (name_at bytes))
unfolding name_at
name_is kind frame spells = whole_made name (λ id. id) frame kind spells (omega arith)

-- the codec of an answer: its code and two numbers
abbrev pub answer : Codec IsPlaceBelow ((ℕ × ℕ) × ℕ)
answer =
    both (both (byte 1 15 (omega arith)) (λ code. number wide32 2 4294967295 (omega arith)) (λ code le. omega arith))
    (λ x. number wide32 6 4294967295 (omega arith)) (λ x fits. omega arith)

abbrev pub answer_of : (ℕ × ℕ) × ℕ → Frame
answer_of x = Answer x.0.0 x.0.1 x.1

pub answer_is : (bytes : List ℕ) → Outcome (0x30 ∷ bytes) (answer_at bytes)
unfolding answer_at
answer_is =
    whole answer 0x30 answer_of (λ x fits. (
      record { code_most = fits.0.0; a_fits = omega (arith, fits.0.1); b_fits = omega (arith, fits.1) },
      refl,
    )) (omega arith)

-- the codec of two texts with one digest
abbrev pub clash : Codec IsPlaceBelow (List ℕ × List ℕ)
clash = both (text 1) (λ left. text (2 + length left)) (λ left most. omega arith)

abbrev pub clash_of : List ℕ × List ℕ → Frame
clash_of x = Clash x.0 x.1

pub clash_is : (bytes : List ℕ) → Outcome (0x31 ∷ bytes) (clash_at bytes)
unfolding clash_at
clash_is = whole clash 0x31 clash_of (λ x fits. (record { left_most = fits.0; right_most = fits.1 }, refl))
    (omega arith)

-- the codec of a registration: the identifier, and until when
abbrev pub register : Codec IsPlaceBelow (List ℕ × ℕ)
register = both (run 32 1) (λ id. number wide32 33 65536 (omega arith)) (λ id len. omega (arith, len))

abbrev pub register_of : List ℕ × ℕ → Frame
register_of x = RegisterEntry x.0 x.1

pub register_is : (bytes : List ℕ) → Outcome (0x40 ∷ bytes) (register_at bytes)
unfolding register_at
register_is = whole register 0x40 register_of (λ x fits. (fits, refl)) (omega arith)

-- the number of a shard, and an identifier
abbrev pub Entry : Type 0
Entry = ℕ × List ℕ

-- the codec of an entry that a shard makes
abbrev pub entry : Codec IsPlaceBelow Entry
entry = both (number wide16 1 999 (omega arith)) (λ shard. run 32 0) (λ shard le. omega arith)

pub entry_is : (kind : ℕ) (frame : Entry → Frame)
    → ((e : Entry) → IsTarget e.1 e.0 → IsFrame (frame e) × (kind ∷ (number_text w16 e.0 ++ e.1) ≡ frame_text (frame e)))
    → (bytes : List ℕ)
    → Outcome (kind ∷ bytes) (made frame (entry_at bytes))
unfolding entry_at
entry_is kind frame spells = whole_made entry (λ e. e) frame kind
    (λ e fits. spells e (record { id_size = fits.1; index_most = fits.0 })) (omega arith)

-- ---- metadata

-- f
abbrev pub faults_value : ℕ → Codec IsPlaceBelow ℕ
faults_value place =
    seen (both (number wide16 place 333 (omega arith))
    (λ f. checked (place + 2) (BadField place) (λ n le. omega (arith, le))
    (λ b C r. cond b (Err (BadField place)) r) false (λ C r. refl) (λ C r. refl) (eqb f 0)) (λ f le. omega arith))
    (λ x. x.0) (λ f. (f, tt)) (λ f. (1 ≤ f) × (f ≤ 333)) (number_text w16)
    (λ x fits. ((omega (arith, eqb-false x.0 0 fits.1), fits.0), append-nil (number_text w16 x.0)))
    (λ f h. ((h.1, ne_eqb f 0 (λ e. absurd (omega (arith, e, h.0)))), append-nil (number_text w16 f), refl))

pub faults_same : (place : ℕ) (bytes : List ℕ)
    → faults_at place bytes ≡ (faults_value place).read (ℕ × List ℕ) bytes (λ x. Ok x)
unfolding faults_at
faults_same place bytes = refl

-- the codec of f
abbrev pub faults : ℕ → Codec IsPlaceBelow ℕ
faults place = named (faults_value place) (faults_at place) (faults_same place)

-- the version
abbrev pub version_value : Codec IsPlaceBelow ℕ
version_value =
    seen (both (byte 1 2 (omega arith)) (λ v. checked 2 (BadField 1) (λ n le. omega (arith, le))
    (λ b C r. cond b r (Err (BadField 1))) true (λ C r. refl) (λ C r. refl) (eqb v 2)) (λ v le. omega arith))
    (λ x. x.0) (λ v. (v, tt)) (λ v. v ≡ 2) byte_of (λ x fits. (eqb-true x.0 2 fits.1, refl))
    (λ v two. ((omega (arith, two), ap (λ (k : ℕ). eqb k 2) two), refl, refl))

version_same : (bytes : List ℕ) → version_at bytes ≡ version_value.read (ℕ × List ℕ) bytes (λ x. Ok x)
unfolding version_at
version_same bytes = refl

-- f, the length, and the pairs of roots
abbrev roots : ℕ → Codec IsPlaceBelow ((ℕ × ℕ) × List ℕ)
roots place = both (both (faults place) (λ f. number wide64 (place + 2) most_bytes (omega arith)) (λ f h. omega arith))
    (λ x. run (64 * shard_count x.0) 0) (λ x fits. omega arith)

-- numbers and roots behind which nothing follows, whatever numbers stand for the bytes
roots_are : (place : ℕ) (bytes : List ℕ) → roots_at place bytes ≡ Ok []
    → AreNumbersAndRoots bytes × (spelled_f bytes < 512)
unfolding roots_at faults_at spelled_f spelled_length
roots_are place bytes e =
    let f = bind_ok (faults_at place bytes) _ [] e in
    let number = bind_ok (field_at w16 place 333 bytes) _ f.0 f.1 in
    let some = guard_ok (eqb number.0.0 0) (BadField place) (Ok number.0) f.0 number.2 in
    let size = bind_ok (field_at w64 (place + 2) most_bytes f.0.1) _ [] f.2 in
    let pairs = bind_ok (bytes_at (64 * shard_count f.0.0) size.0.1) _ [] size.2 in
    let n = 64 * shard_count f.0.0 in
    let first = field_read wide16 place 333 bytes f.0 (number.1 ∙ some.1) in
    let second = field_read wide64 (place + 2) most_bytes f.0.1 size.0 size.1 in
    let third =
    taken_of IsPlaceBelow (λ r. length r ≡ n) (λ r. r) 0 (bytes_at n) (bytes_are n 0) size.0.1 pairs.0 pairs.1 in
    let size-is : spelled_length bytes ≡ size.0.0 = ap (λ (b : List ℕ). from_be_bytes w64 (take 8 b)) first.3
    ∙ second.2 in
    let positive : 1 ≤ f.0.0 =
    omega (arith, eqb-false number.0.0 0 some.0, ap (λ (p : ℕ × List ℕ). p.0) (ok_is number.0 f.0 some.1)) in
    let long : length bytes ≡ 10 + n = omega (
      arith,
      first.0,
      second.0,
      third.0,
      third.1.size,
      length-drop 2 bytes,
      ap length first.3,
      length-drop 8 f.0.1,
      ap length second.3,
      ap length (ok_is pairs.0.1 [] pairs.2),
    ) in
    let small : f.0.0 < 512 = omega (arith, first.1) in
    rw (first.2, size-is) (((positive, first.1, second.1), long), small)

-- the metadata that stands behind its format
metadata_read : (format : Format) (behind : List ℕ) → AreNumbersAndRoots behind × (spelled_f behind < 512)
    → IsRead (metadata_kind format ∷ (format_text format ++ behind))
    (Metadata (spelled_metadata (format_text format ++ behind)))
metadata_read format behind roots =
    let bytes = format_text format ++ behind in
    let at = behind_again format behind roots.1 in
    let spell : SpellMetadata bytes = rw at roots.0 in
    let fit = IsMetadata-spelled bytes spell in
    let format-is = spelled_metadata-format bytes ∙ format_again format behind roots.1 in
    let f-is = rw at at (spelled_metadata-f bytes) in
    let sizes = ap₂ text_size format-is f-is in
    record {
      fits = fit;
      size = ap suc (size_by format (spelled_f behind) behind roots.0.1 ∙ sym (length-metadata_text _ fit ∙ sizes));
      spelled = λ all. rw (metadata_text-spelled bytes all spell, format-is);
    }

abbrev after_roots : List ℕ → List ℕ → Result Frame FrameError
after_roots bytes rest = ended (Metadata (spelled_metadata bytes)) rest

metadata_by : (format : Format) (behind : List ℕ) (place : ℕ) → place ≤ 1 + length (format_text format)
    → Reading IsPlaceBelow (roots place).Fits (roots place).text place (λ x. Ok x.1) behind (roots_at place behind)
    → Outcome (metadata_kind format ∷ (format_text format ++ behind))
    (roots_at place behind >>= after_roots (format_text format ++ behind))
metadata_by format behind place low (goes (x, []) fits taken same) =
    rw same (metadata_read format behind (roots_are place behind same))
metadata_by format behind place low (goes (x, b ∷ rest) fits taken same) =
    rw (same, ended_not (Metadata (spelled_metadata (format_text format ++ behind))) b rest) tt
metadata_by format behind place low (fails e below same) =
    rw same (below _ (omega (arith, low, length-append (format_text format) behind)))

roots_reading : (place : ℕ) (bytes : List ℕ)
    → Reading IsPlaceBelow (roots place).Fits (roots place).text place (λ x. Ok x.1) bytes (roots_at place bytes)
unfolding roots_at
roots_reading place bytes = (roots place).is (List ℕ) bytes (λ x. Ok x.1)

pub metadata_is : (bytes : List ℕ) → Outcome (0x10 ∷ bytes) (metadata_at bytes)
unfolding metadata_at
metadata_is bytes = metadata_by One bytes 1 (omega arith) (roots_reading 1 bytes)

one_format : (format k : Format) → metadata_kind format ≡ metadata_kind k → format ≡ k
one_format format k e = grind arith

-- a metadata that was read
pub metadata_found : (format : Format) (bytes : List ℕ) (m : BlobMetadata) → IsBytes bytes
    → IsRead (metadata_kind format ∷ bytes) (Metadata m)
    → IsMetadata m × (metadata_text m ≡ bytes) × (m.format ≡ format)
metadata_found format bytes m fits is =
    let spelled = is.spelled fits in
    (is.fits, sym (ap (drop 1) spelled), sym (one_format format m.format (ap (λ (t : List ℕ). get_or t 0 0) spelled)))

version_ok : (b : Bool) (version x : ℕ × List ℕ) → cond b (Ok version) (Err (BadField 1)) ≡ Ok x → (b ≡ true) × (version ≡ x)
version_ok true version x e = (refl, cc)
version_ok false version x e = absurd cc

version_read : (bytes : List ℕ) (v : ℕ × List ℕ) → version_at bytes ≡ Ok v → bytes ≡ 2 ∷ v.1
unfolding version_at
version_read bytes v e =
    let first = bind_ok (field_at w8 1 2 bytes) _ v e in
    let test = version_ok (eqb first.0.0 2) first.0 v first.2 in
    let is = field_read wide8 1 2 bytes first.0 first.1 in
    by bytes is.0 (is.2 ∙ eqb-true first.0.0 2 test.0) (is.3 ∙ ap (λ (p : ℕ × List ℕ). p.1) test.1)
  where
    by : (b : List ℕ) → 1 ≤ length b → from_be_bytes w8 (take 1 b) ≡ 2 → drop 1 b ≡ v.1 → b ≡ 2 ∷ v.1
    by [] long value rest = absurd (omega arith)
    by (first ∷ b) long value rest =
        let one : first ≡ 2 = omega arith in rw (one, rest)

abbrev after_version : List ℕ → ℕ × List ℕ → Result Frame FrameError
after_version bytes version = roots_at 2 version.1 >>= after_roots bytes

metadata2_by : (bytes : List ℕ) (r : Result (ℕ × List ℕ) FrameError) → version_at bytes ≡ r
    → Reading IsPlaceBelow (λ v. v ≡ 2) byte_of 1 (λ x. Ok x) bytes r
    → Outcome (0x14 ∷ bytes) (r >>= after_version bytes)
metadata2_by bytes r e (goes x fits taken same) =
    rw (same, version_read bytes x (e ∙ same)) (metadata_by Two x.1 2 (omega arith) (roots_reading 2 x.1))
metadata2_by bytes r e (fails d below same) = rw same (below (suc (length bytes)) (omega arith))

pub metadata2_is : (bytes : List ℕ) → Outcome (0x14 ∷ bytes) (metadata2_at bytes)
unfolding metadata2_at
metadata2_is bytes = metadata2_by bytes (version_at bytes) refl (named_is version_value version_at version_same bytes)

metadata_end : (m : BlobMetadata) (rest : List ℕ) → IsMetadata m → ended (Metadata (spelled_metadata (metadata_text m ++ rest))) rest ≡ ended (Metadata m) rest
metadata_end m [] h = rw (append-nil, spelled_metadata-text m h)
metadata_end m (b ∷ rest) h =
    rw (ended_not (Metadata (spelled_metadata (metadata_text m ++ b ∷ rest))) b rest, ended_not (Metadata m) b rest)

metadata_parts : (format : Format) (m : BlobMetadata) (rest : List ℕ) → m.format ≡ format → metadata_text m ++ rest ≡ format_text format ++ (text_behind m ++ rest)
metadata_parts format m rest is = rw (metadata_text-format m, is, append_assoc)

roots_again : (place : ℕ) (m : BlobMetadata) (rest : List ℕ) → IsMetadata m → roots_at place (text_behind m ++ rest) ≡ Ok rest
unfolding roots_at
roots_again place m rest h =
    let pairs = pairs_text m.primary (held_order m.format m.secondary) in
    (roots place).again (List ℕ) (λ x. Ok x.1) ((m.f, m.length), pairs) rest
    (((h.shape.0, h.shape.1), h.shape.2), omega (arith, length-behind m h))

pub metadata_behind : (m : BlobMetadata) (rest : List ℕ) → m.format ≡ One → IsMetadata m → metadata_at (metadata_text m ++ rest) ≡ ended (Metadata m) rest
unfolding metadata_at
metadata_behind m rest is h =
    let read : roots_at 1 (metadata_text m ++ rest) ≡ Ok rest =
    rw (metadata_parts One m rest is) (roots_again 1 m rest h) in
    rw read (metadata_end m rest h)

pub metadata2_behind : (m : BlobMetadata) (rest : List ℕ) → m.format ≡ Two → IsMetadata m → metadata2_at (metadata_text m ++ rest) ≡ ended (Metadata m) rest
unfolding metadata2_at
metadata2_behind m rest is h =
    let read : version_at (metadata_text m ++ rest) ≡ Ok (2, text_behind m ++ rest) =
    rw (metadata_parts Two m rest is)
    (unfold version_at in version_value.again (ℕ × List ℕ) (λ x. Ok x) 2 (text_behind m ++ rest) refl) in
    rw (read, roots_again 2 m rest h) (metadata_end m rest h)
