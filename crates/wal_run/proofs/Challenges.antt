-- What a shard answers to a challenge is one result of the command that challenges.
use Rattle.wal_run.proofs.Common.{◌≡◌, inl, inr, ℕ, ◌+◌, ◌<◌, ◌≤◌, List, [], ◌∷◌, ◌++◌, append-nil, length, take, drop, slice_get, Option, Some, Err, refl, arith, nil_from_length, Appends-kept, Appends-nil, Appends-trans, get_or-take, length-drop, length-take, length-take-le, Appends, Axis, Primary, Secondary, BlobMetadata, held_index, CarriesHeldSliver, first_not_none, one_first, metadata_fits, AreAnswers, ShowsDrawn, draw_of, answers_more, answers_none, one_answer, Audit, IsFrontOf, IsResult, MayLeave, MayOwe, Recorded, Spells, envelopes_of, PutError, Memory, DoesAnswer, IsAnswer, Does, DoesTold, PutsPiece, finished, lost_sink, performed, put_status, wanted_memory, written, Told, lacks, succeeds, AnswersDraws, HasNoSliver, HasShard, IsOwnSliver, answer_text, challenging, suc, add-zero, sym, ap, ◌∙◌, flat_map-append, take-append-drop, flat_map, claim_of, claims_from, claim_envelope}
use Rattle.std.proofs.lemmas.Option.{get_or_from_slice_get, slice_get-get_or, slice_get_within}
use Rattle.wal_shape.specs.declared.opening.Opening.{Opening}
use Rattle.wal_run.specs.declared.finish.PutError.TheVariants.{WriteFault}
use Rattle.wal_run.proofs.CommandLaws.{Determined, Same, same, told_so}
use Rattle.wal_run.proofs.Endings.{does_as, does_spelled}
use Rattle.wal_run.proofs.Parts.{part_after}

-- the claims of two lists of openings, the second behind the first
claims_append : (digest : List ℕ → List ℕ) (m : BlobMetadata) (beacon : List ℕ) (shard d : ℕ) (xs ys : List Opening)
    → claims_from digest m beacon shard d (xs ++ ys) ≡ claims_from digest m beacon shard d xs ++ claims_from digest m beacon shard (d + length xs) ys
claims_append digest m beacon shard d [] ys = rw add-zero refl
claims_append digest m beacon shard d (x ∷ xs) ys =
    let here : d + 1 + length xs ≡ d + suc (length xs) = omega arith in
    rw (claims_append digest m beacon shard (d + 1) xs ys, here) refl

module _ (digest : List ℕ → List ℕ) (a : Audit) (m : BlobMetadata) where
  abbrev pub texts_from : ℕ → List Opening → List ℕ
  texts_from d openings = flat_map (claim_envelope a) (claims_from digest m a.beacon a.shard d openings)

  abbrev pub piece : ℕ → Opening → List ℕ
  piece d o = claim_envelope a (claim_of digest m a.beacon a.shard d o)

  texts_append : (xs ys : List Opening) (d : ℕ) → length xs ≡ d → answer_text digest a m (xs ++ ys) ≡ answer_text digest a m xs ++ texts_from d ys
  texts_append xs ys d long =
      let here : 0 + length xs ≡ d = omega (arith, long) in
      rw (claims_append digest m a.beacon a.shard 0 xs ys, here)
      (flat_map-append (claim_envelope a) (claims_from digest m a.beacon a.shard 0 xs) _)

  -- one envelope more
  pub answer_more : (openings : List Opening) (d : ℕ) (o : Opening) → length openings ≡ d → answer_text digest a m (openings ++ o ∷ []) ≡ answer_text digest a m openings ++ piece d o
  answer_more openings d o long = rw (texts_append openings (o ∷ []) d long, append-nil) refl

  -- the first envelopes, and those behind them
  pub answer_split : (openings : List Opening) (d : ℕ) → d ≤ length openings
      → answer_text digest a m openings ≡ answer_text digest a m (take d openings) ++ texts_from d (drop d openings)
  answer_split openings d within =
      ap (answer_text digest a m) (sym (take-append-drop d openings)) ∙ texts_append (take d openings) (drop d openings) d (length-take-le d openings within)

module _ (digest : List ℕ → List ℕ) (a : Audit) (r : Recorded) where
  abbrev index_of : Axis → ℕ
  index_of axis = held_index r.metadata.format r.metadata.f axis a.shard

  -- the slivers that payloads carry first
  one_own : (axis : Axis) (x y : List ℕ) → IsOwnSliver digest a r axis x → IsOwnSliver digest a r axis y → x ≡ y
  one_own axis x y of_x of_y =
      one_first (CarriesHeldSliver digest a.id.0 r.metadata axis (index_of axis))
      (λ payload p q at there. cc (at.0, there.0)) r.payloads x y of_x of_y

  none_own : (axis : Axis) (x : List ℕ) → IsOwnSliver digest a r axis x → HasNoSliver digest a r axis → ⊥
  none_own axis x own none = first_not_none (CarriesHeldSliver digest a.id.0 r.metadata axis (index_of axis)) r.payloads x own none

  -- ---- what is told, by what is lacking

  abbrev Lacking : List ℕ → Type 0
  Lacking text = (challenging digest a).Lacks r text

  not_lacking : (count : ℕ) (x y : List ℕ) → AnswersDraws digest a r count x → Lacking y → ⊥
  not_lacking count x y is (inl none) = omega (arith, none.0, is.0)
  not_lacking count x y is (inr (inl none)) = none_own Primary is.1 is.2 none.1
  not_lacking count x y is (inr (inr none)) = none_own Secondary is.3 is.4 none.2

  one_lack : (x y : List ℕ) → Lacking x → Lacking y → x ≡ y
  one_lack x y (inl a) (inl b) = a.1 ∙ sym b.1
  one_lack x y (inr (inl a)) (inr (inl b)) = a.2 ∙ sym b.2
  one_lack x y (inr (inr a)) (inr (inr b)) = a.3 ∙ sym b.3
  one_lack x y (inr (inl a)) (inr (inr b)) = absurd (none_own Primary b.1.0 b.1.1 a.1)
  one_lack x y (inr (inr a)) (inr (inl b)) = absurd (none_own Primary a.1.0 a.1.1 b.1)
  one_lack x y (inl a) (inr b) = absurd (grind arith)
  one_lack x y (inr a) (inl b) = absurd (grind arith)

  -- ---- the answers to the first draws are a front of all

  -- what is among the first elements of a list is in the list
  taken_there : (k d : ℕ) (xs : List Opening) (x : Opening) → slice_get (take k xs) d ≡ Some x → slice_get xs d ≡ Some x
  taken_there k d xs x there =
      let inside = slice_get_within (take k xs) d x there in
      let same = get_or-take k xs d x (omega (arith, inside, length-take k xs)) in
      cc (slice_get-get_or xs d x (omega (arith, inside, length-take k xs)), same, get_or_from_slice_get (take k xs) d x x there)

  first_text : r.metadata.f ≤ 333 → (count : ℕ) → count ≤ a.count → (x y : List ℕ) → AnswersDraws digest a r count x → AnswersDraws digest a r a.count y
      → (rest : List ℕ) × (y ≡ x ++ rest) × (count ≡ a.count → rest ≡ [])
  first_text few count some x y (h, p, own, u, second, of_x) (i, q, one, v, also, of_y) =
      let within : count ≤ length of_y.0 = omega (arith, some, of_y.1.many) in
      let front = one_answer digest r.metadata a.beacon a.shard count q v of_x.0 (take count of_y.0) few
      (rw (one_own Primary p q own one, one_own Secondary u v second also) at of_x.1) (record {
        many = length-take-le count of_y.0 within;
        each = λ d o there. of_y.1.each d o (taken_there count d of_y.0 o there);
      }) in (
        texts_from digest a r.metadata count (drop count of_y.0),
        rw (of_x.2, of_y.2, front) (answer_split digest a r.metadata of_y.0 count within),
        λ all. rw (nil_from_length (drop count of_y.0) (omega (arith, all, length-drop count of_y.0, of_y.1.many))) refl,
      )

  pub first_front : r.metadata.f ≤ 333 → (count : ℕ) → count ≤ a.count → (x : List ℕ) → AnswersDraws digest a r count x → (s : ℕ) (y : List ℕ)
      → Told digest (challenging digest a) r s y → IsFrontOf x y
  first_front few count some x is _ _ (succeeds y all) = let front = first_text few count some x y is all in (front.0, front.1)
  first_front few count some x is _ _ (lacks y lacking) = absurd (not_lacking count x y is lacking)
  first_front few count some x is s y told = absurd (grind (arith, told_so digest (challenging digest a) r s y told))

  one_told : r.metadata.f ≤ 333 → (s : ℕ) (x : List ℕ) (t : ℕ) (y : List ℕ) → Told digest (challenging digest a) r s x → Told digest (challenging digest a) r t y → Same s x t y
  one_told few _ _ _ _ (succeeds x is) (succeeds y also) =
      let whole = first_text few a.count (omega arith) x y is also in same _ _ _ _ refl (cc (append-nil x, whole.1, whole.2 refl))
  one_told few _ _ _ _ (succeeds x is) (lacks y lacking) = absurd (not_lacking a.count x y is lacking)
  one_told few _ _ _ _ (lacks x lacking) (succeeds y is) = absurd (not_lacking a.count y x is lacking)
  one_told few _ _ _ _ (lacks x one) (lacks y other) = same _ _ _ _ refl (one_lack x y one other)
  one_told few s x t y one other =
      let so = told_so digest (challenging digest a) r in absurd (grind (arith, so s x one, so t y other))

pub challenged_once : (digest : List ℕ → List ℕ) (a : Audit) → Determined digest (challenging digest a)
challenged_once digest a input r spells s x t y one other =
    one_told digest a r (metadata_fits digest a.id.0 r.payloads r.metadata spells.1.0).shape.1 s x t y one other

module _ (digest : List ℕ → List ℕ) (a : Audit) (r : Recorded) where
  -- what is done with both is done with the payloads
  pub answered_as : (primary secondary : List ℕ) (old new : Option (List ℕ)) (SinkRose : Type 0) (s : ℕ) → HasShard a r → IsOwnSliver digest a r Primary primary
      → IsOwnSliver digest a r Secondary secondary → DoesAnswer digest a r.metadata primary secondary old new SinkRose s
      → DoesTold digest (challenging digest a) r old new SinkRose s
  answered_as primary secondary old new SinkRose s has first second d =
      does_as d
      (λ t text p. rw p.0 (succeeds text (has, primary, first, secondary, second, p.1)))
      (λ text left. (left.0, left.1, (has, primary, first, secondary, second, left.2)))
      (λ text owed. (owed.0, owed.1, (has, primary, first, secondary, second, owed.2)))

  -- and by the input
  pub answered_so : (input : List ℕ) (old new : Option (List ℕ)) (SinkRose : Type 0) (s : ℕ) → Spells digest (envelopes_of a.id) input r
      → DoesTold digest (challenging digest a) r old new SinkRose s
      → Does (IsResult digest (challenging digest a) input) (MayLeave digest (challenging digest a) input) (MayOwe digest (challenging digest a) input) old new SinkRose s
  answered_so input old new SinkRose s spells d =
      let few = (metadata_fits digest a.id.0 r.payloads r.metadata spells.1.0).shape.1 in
      does_spelled digest (challenging digest a) input r old new SinkRose s spells
      (λ text left t y told. first_front digest a r few left.0 (omega (arith, left.1)) text left.2 t y told)
      (λ text owed t y told. inl (first_front digest a r few owed.0 owed.1 text owed.2 t y told)) d

-- ---- the openings that were written so far

module _ (digest : List ℕ → List ℕ) (a : Audit) (m : BlobMetadata) (primary secondary : List ℕ) (old : Option (List ℕ)) where
  -- the envelopes of the first answers stand in the sink
  pub record Answered (d : ℕ) (now : Option (List ℕ)) : Type 0 where
    pub openings : List Opening
    pub answers : AreAnswers digest m a.beacon a.shard d primary secondary openings
    pub put : Appends old now (answer_text digest a m openings)

  -- at the start none is answered, and nothing was written
  pub answered_none : Answered 0 old
  answered_none = record { openings = []; answers = answers_none digest m a.beacon a.shard primary secondary [] refl; put = Appends-nil old }

  module _ (d : ℕ) (mid : Option (List ℕ)) (so : Answered d mid) where
    more : (o : Opening) → ShowsDrawn digest m a.shard primary secondary (draw_of digest m a.beacon a.shard d) o
        → AreAnswers digest m a.beacon a.shard (d + 1) primary secondary (so.openings ++ o ∷ [])
    more o shown = answers_more digest m a.beacon a.shard d primary secondary so.openings (so.openings ++ o ∷ []) o (draw_of digest m a.beacon a.shard d) so.answers refl shown refl

    -- one more
    pub answered_more : (new : Option (List ℕ)) (piece : List ℕ) → IsAnswer digest a m primary secondary d piece → Appends mid new piece → Answered (d + 1) new
    answered_more new piece is put = record {
      openings = so.openings ++ is.0 ∷ [];
      answers = more is.0 is.1;
      put = rw (answer_more digest a m so.openings d is.0 so.answers.many)
          (Appends-trans old mid new (answer_text digest a m so.openings) _ so.put (rw is.2 at put));
    }

    -- one was not written whole
    pub ends_piece : d < a.count → (new : Option (List ℕ)) (PieceRose SinkRose : Type 0) → (PieceRose → SinkRose) → (error : PutError)
        → PutsPiece (IsAnswer digest a m primary secondary d) mid new PieceRose (Err error) → DoesAnswer digest a m primary secondary old new SinkRose (put_status error)
    ends_piece before new PieceRose SinkRose since Memory kept =
        wanted_memory (answer_text digest a m so.openings) (d, before, (so.openings, so.answers, refl))
        (Appends-kept old mid new (answer_text digest a m so.openings) so.put kept)
    ends_piece before new PieceRose SinkRose since WriteFault p =
        let part = part_after old mid new (answer_text digest a m so.openings) _ so.put (rw p.1.2 at p.3) in
        lost_sink _ (d + 1, omega (arith, before), (so.openings ++ p.1.0 ∷ [], more p.1.0 p.1.1, refl)) (since p.2)
        (rw (answer_more digest a m so.openings d p.1.0 so.answers.many) part)

    -- all were
    pub answered_all : d ≡ a.count → (SinkRose : Type 0) → DoesAnswer digest a m primary secondary old mid SinkRose 0
    answered_all all SinkRose =
        performed 0 (finished 0 0 (written (answer_text digest a m so.openings)
        (refl, (so.openings, rw all at so.answers, refl)) so.put))
