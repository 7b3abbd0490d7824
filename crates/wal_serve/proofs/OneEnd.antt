-- Where a source tells its bytes, serving ends in one way, if the table has one answer to each payload.
use Rattle.wal_serve.proofs.Common.{◌≡◌, ℕ, ◌+◌, ◌<◌, ◌≤◌, List, [], ◌∷◌, ◌++◌, length, Option, Some, None, refl, sym, ap, ◌∙◌, append_assoc, append-nil, arith, true, true≢false, length-append, is_some, MetaClash, envelope, IsPart, IsPayload, ServeEnd, Done, Malformed, TooLong, Collision, Serves, Table, HasOneServing, SameEnd, is_collision, IsSingle}
use Rattle.wal_serve.proofs.Fronts.{Longer, same_front, shorter_front}
use Rattle.wal_serve.proofs.OneServed.{Went, went, both_went, stopped_before}

-- why serving ended behind `n` bytes of envelopes, where this tail of the source followed, of which `long` bytes were taken
pub data Why (limit n : ℕ) (tail : List ℕ) (clash : Option MetaClash) (long : ℕ) : ServeEnd → Type 0 where
  done : clash ≡ None → tail ≡ [] → n ≤ limit → long ≡ 0 → Why limit n tail clash long Done
  stopped : (texts : MetaClash) → clash ≡ Some texts → n ≤ limit → long ≡ 0 → Why limit n tail clash long (Collision texts)
  wrong : (b : ℕ) (after : List ℕ) → clash ≡ None → tail ≡ b ∷ after → (b ≡ 0x57 → ⊥) → n + 1 ≤ limit → long ≡ 1 → Why limit n tail clash long (Malformed n)
  cut : clash ≡ None → IsPart tail → 0 < length tail → n + length tail ≤ limit → long ≡ length tail → Why limit n tail clash long (Malformed n)
  too_long : (part : List ℕ) (b : ℕ) (after : List ℕ) → clash ≡ None → tail ≡ part ++ b ∷ after → IsPart part → n + length part ≡ limit → long ≡ length part + 1
      → Why limit n tail clash long TooLong

-- ---- no envelope follows

-- the empty list begins with no envelope
pub no_bytes : (sender : ℕ) (payload after : List ℕ) → [] ≡ envelope sender payload ++ after → ⊥
no_bytes sender payload after is = absurd cc

pub first_byte : (b : ℕ) (more : List ℕ) (sender : ℕ) (payload after : List ℕ) → b ∷ more ≡ envelope sender payload ++ after → b ≡ 0x57
first_byte b more sender payload after is = cc

-- a part of an envelope does not begin with a whole one
pub part_begins : (part : List ℕ) (sender : ℕ) (payload after : List ℕ) → IsPart part → IsPayload payload → part ≡ envelope sender payload ++ after → ⊥
part_begins [] sender payload after is fits begins = no_bytes sender payload after begins
part_begins (b ∷ part) sender payload after is fits begins = is.1 sender payload after fits begins

-- nor one that is no longer than a part
pub none_within : (part : List ℕ) (b : ℕ) (more : List ℕ) (sender : ℕ) (payload after : List ℕ) → IsPart part → IsPayload payload → part ++ b ∷ more ≡ envelope sender payload ++ after
    → length (envelope sender payload) ≤ length part → ⊥
none_within part b more sender payload after is fits begins few =
    let whole = shorter_front (envelope sender payload) after part (b ∷ more) (sym begins) few in
    part_begins part sender payload whole.0 is fits whole.1

-- where nothing stopped serving, no envelope follows within the limit
pub none_follows : (limit n m : ℕ) (tail : List ℕ) (clash : Option MetaClash) (long : ℕ) (end : ServeEnd) (sender : ℕ) (payload after : List ℕ) → Why limit n tail clash long end
    → clash ≡ None → IsPayload payload → tail ≡ envelope sender payload ++ after → n + length (envelope sender payload) ≤ m → m ≤ limit → ⊥
none_follows limit n m tail clash long end sender payload after why calm fits begins within most = grind (arith, no_bytes, first_byte, part_begins, none_within)

-- ---- one reason

-- whether two texts ended serving is whether they are among what was answered
why_collides : (limit n : ℕ) (tail : List ℕ) (clash : Option MetaClash) (long : ℕ) (end : ServeEnd) → Why limit n tail clash long end → is_collision end ≡ is_some clash
why_collides limit n tail clash long end why = grind arith

why_within : (limit n : ℕ) (tail : List ℕ) (clash : Option MetaClash) (long : ℕ) (end : ServeEnd) → Why limit n tail clash long end → n ≤ limit
why_within limit n tail clash long end why = grind arith

module _ (limit n : ℕ) (tail : List ℕ) where
  nil_no_part : (part : List ℕ) (b : ℕ) (more : List ℕ) → tail ≡ [] → tail ≡ part ++ b ∷ more → ⊥
  nil_no_part part b more nil some = omega (arith, ap length nil, ap length some, length-append part (b ∷ more))

  -- a byte that begins no envelope begins no part of one
  wrong_not_part : (b : ℕ) (more : List ℕ) → tail ≡ b ∷ more → (b ≡ 0x57 → ⊥) → IsPart tail → ⊥
  wrong_not_part b more is not part = grind arith

  wrong_not_long : (b : ℕ) (more part : List ℕ) (c : ℕ) (after : List ℕ) → tail ≡ b ∷ more → (b ≡ 0x57 → ⊥) → n + 1 ≤ limit → tail ≡ part ++ c ∷ after → IsPart part
      → n + length part ≡ limit → ⊥
  wrong_not_long b more part c after is not few also front sum = grind arith

  cut_not_long : (part : List ℕ) (b : ℕ) (after : List ℕ) → n + length tail ≤ limit → tail ≡ part ++ b ∷ after → n + length part ≡ limit → ⊥
  cut_not_long part b after few is sum = grind (arith, length-append)

  -- where no two texts end serving, it ends in one way, behind as many bytes
  one_calm : (long more : ℕ) (end other : ServeEnd) → Why limit n tail None long end → Why limit n tail None more other → end ≡ other
  one_calm long more end other a b = grind (arith, nil_no_part, wrong_not_part, wrong_not_long, cut_not_long)

  one_long : (long more : ℕ) (end other : ServeEnd) → Why limit n tail None long end → Why limit n tail None more other → long ≡ more
  one_long long more end other a b = grind (arith, nil_no_part, wrong_not_part, wrong_not_long, cut_not_long)

  stopped_as : (texts : MetaClash) (long : ℕ) (end : ServeEnd) → Why limit n tail (Some texts) long end → (is_collision end ≡ true) × (long ≡ 0)
  stopped_as texts long end why = grind arith

  pub one_why : (clash second : Option MetaClash) (long more : ℕ) → is_some clash ≡ is_some second → (end other : ServeEnd)
      → Why limit n tail clash long end → Why limit n tail second more other → SameEnd end other × (long ≡ more)
  one_why None None long more stops end other a b =
      let is = one_calm long more end other a b in
      ((ap is_collision is, λ calm. is), one_long long more end other a b)
  one_why (Some texts) (Some given) long more stops end other a b =
      let here = stopped_as texts long end a in
      let there = stopped_as given more other b in
      ((here.0 ∙ sym there.0, λ calm. absurd (true≢false (sym here.0 ∙ calm))), here.1 ∙ sym there.1)
  one_why clash second long more stops end other a b = absurd (grind arith)

-- ---- one end

module _ {C : Type 0} (Answer : Table C) (room limit : ℕ) (fresh : C) (input : List ℕ) where
  -- serving ended so
  abbrev Ended : List ℕ → List (List ℕ) → C → ServeEnd → Type 0
  Ended taken frames state end =
      Went Answer room fresh input
      (λ n tail clash. (long : ℕ) × (length taken ≡ n + long) × Why limit n tail clash long end) frames state

  ended_by : (taken rest : List ℕ) (frames : List (List ℕ)) (state : C) (end : ServeEnd) → input ≡ taken ++ rest → Serves Answer room limit fresh taken (rest ≡ []) ⊥ ⊥ frames state end
      → Ended taken frames state end
  ended_by taken rest frames state _ is (Serves.done all within at_end) =
      went rest is all (0, omega arith, done refl at_end within refl)
  ended_by taken rest frames state _ is (Serves.stopped clash before all within last) =
      went rest is all (0, omega arith, stopped clash refl within refl)
  ended_by taken rest frames state _ is (Serves.wrong front b parts bad some within) =
      let size : length taken ≡ length front + 1 = omega (arith, ap length parts, length-append front (b ∷ [])) in
      went (b ∷ rest) (cc (is, parts, append_assoc front (b ∷ []) rest)) some
      (1, size, wrong b rest refl refl bad (omega (arith, size, within)) refl)
  ended_by taken rest frames state _ is (Serves.cut front piece parts part long some within at_end) =
      let size : length taken ≡ length front + length piece = omega (arith, ap length parts, length-append front piece) in
      went piece (cc (is, parts, at_end, append-nil taken)) some
      (length piece, size, cut refl part long (omega (arith, size, within)) refl)
  ended_by taken rest frames state _ is (Serves.too_long front piece b parts part some past) =
      let size : length taken ≡ length front + (length piece + 1) =
      omega (arith, ap length parts, length-append front (piece ++ b ∷ []), length-append piece (b ∷ [])) in
      went (piece ++ b ∷ rest)
      (cc (is, parts, append_assoc front (piece ++ b ∷ []) rest, append_assoc piece (b ∷ []) rest)) some
      (length piece + 1, size, too_long piece b rest refl refl part (omega (arith, size, past)) refl)
  ended_by taken rest frames state _ is (Serves.read_fault front piece parts part some within rose) = absurd rose
  ended_by taken rest frames state _ is (Serves.write_fault clash all within rose) = absurd rose

  module _ (single : IsSingle Answer) where
    -- one of them did not go on where the other one did
    not_longer : (taken given : List ℕ) (frames others : List (List ℕ)) (state then : C) (end other : ServeEnd) (a : Ended taken frames state end) (b : Ended given others then other)
        → Longer a.payloads a.front a.tail b.payloads b.front → ⊥
    not_longer taken given frames others state then end other a b l =
        by a.clash refl
      where
        by : (clash : Option MetaClash) → a.clash ≡ clash → ⊥
        by None calm =
            none_follows limit (length a.front) (length b.front) a.tail a.clash a.why.0 end l.sender l.payload l.after
            a.why.2 calm l.fits l.begins l.within
            (why_within limit (length b.front) b.tail b.clash b.why.0 other b.why.2)
        by (Some texts) is =
            stopped_before Answer room single a.payloads l.payload l.others fresh frames others a.clash b.clash texts state then is a.goes
            (rw l.parts at b.goes)

    -- ONE WAY to serve the bytes of a source
    pub one_serving : HasOneServing Answer room limit fresh input
    one_serving taken rest given after frames others state then end other is also serves served =
        let a = ended_by taken rest frames state end is serves in
        let b = ended_by given after others then other also served in
        let (one, sizes, tails) =
        both_went single a b (not_longer taken given frames others state then end other a b)
        (not_longer given taken others frames then state other end b a) in
        let reason =
        one_why limit (length b.front) b.tail a.clash b.clash a.why.0 b.why.0 one.stops end other
        (rw (tails, sizes) at a.why.2) b.why.2 in
        let collides = why_collides limit (length a.front) a.tail a.clash a.why.0 end a.why.2 in
        record {
          taken =
              same_front taken rest given after (sym is ∙ also) (omega (arith, a.why.1, sizes, reason.1, b.why.1));
          ends = reason.0;
          frames = λ calm. one.frames (sym collides ∙ calm);
          last = λ stops. one.last (sym collides ∙ stops);
          state = one.state;
        }
