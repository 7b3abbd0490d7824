-- What claims come to is one verdict; and what an accepted claim shows.
use Rattle.wal_challenge.proofs.Common.{◌≡◌, ◌≢◌, ℕ, zero, suc, ◌+◌, ◌*◌, ◌<◌, List, [], ◌∷◌, length, Some, slice_get, refl, ap, ◌∙◌, arith, inl, inr, ⊎_elim, cases_lt, slice_get_within, region, Claim, Opening, shard_count, symbol_size, BlobMetadata, IsMetadata, line_of, lines_cross, HoldsOpening, metadata_over, committed_matrix, same_or_not, Accepted, Draw, AreAnswers, HoldsBoth, draw_of, drawn_index, AnswersDraw, AreOwnOrFalse, AnswersComeTo, FirstAnswer, HasDrawnSymbol, IsFalseClaim, IsFirstWrong, claim_of, claims_from, Wrong, WrongCount}
use Rattle.wal_evidence.specs.Evidence.{CommitsMatrix}
use Rattle.wal_challenge.specs.declared.checking.AnswerVerdict.{AnswerVerdict}
use Rattle.wal_challenge.proofs.AnswerLaws.{answer_holds}

module _ (digest : List ℕ → List ℕ) (m : BlobMetadata) (beacon : List ℕ) (shard : ℕ) where
  -- one claim more answers
  pub first_more : (claims : List Claim) (d : ℕ) (claim : Claim) → FirstAnswer digest m beacon shard claims d → slice_get claims d ≡ Some claim
      → AnswersDraw digest m shard (draw_of digest m beacon shard d) claim → FirstAnswer digest m beacon shard claims (d + 1)
  first_more claims d claim before there is k other below here =
      ⊎_elim
      (λ less. before k other less here)
      (λ past.
      let at : d ≡ k = omega (arith, below, past) in
      let same : claim ≡ other = cc (there, at, here) in
      rw (← at, ← same) is)
      (cases_lt k d)

  -- two claims that are the first that does not answer stand at one place
  no_earlier : (claims : List Claim) (d e : ℕ) → IsFirstWrong digest m beacon shard claims d → IsFirstWrong digest m beacon shard claims e → d < e → ⊥
  no_earlier claims d e of_d of_e less = of_d.wrong (of_e.before d of_d.claim less of_d.there)

  one_place : (claims : List Claim) (d e : ℕ) → IsFirstWrong digest m beacon shard claims d → IsFirstWrong digest m beacon shard claims e → d ≡ e
  one_place claims d e of_d of_e = grind (arith, no_earlier)

  -- where each answers none is wrong
  none_wrong : (claims : List Claim) (count d : ℕ) → length claims ≡ count → FirstAnswer digest m beacon shard claims count → IsFirstWrong digest m beacon shard claims d → ⊥
  none_wrong claims count d long all wrong =
      let inside = slice_get_within claims d wrong.claim wrong.there in
      wrong.wrong (all d wrong.claim (omega (arith, long, inside)) wrong.there)

  -- claims come to one verdict
  pub one_verdict : (count : ℕ) (claims : List Claim) (a b : AnswerVerdict) → AnswersComeTo digest m beacon shard count claims a → AnswersComeTo digest m beacon shard count claims b → a ≡ b
  one_verdict count claims (WrongCount k) (WrongCount j) of_a of_b = cc (of_a.0, of_b.0)
  one_verdict count claims (Wrong d) (Wrong e) of_a of_b = ap Wrong (one_place claims d e of_a.1 of_b.1)
  one_verdict count claims (Wrong d) Accepted of_a of_b = absurd (none_wrong claims count d of_b.0 of_b.1 of_a.1)
  one_verdict count claims Accepted (Wrong d) of_a of_b = absurd (none_wrong claims count d of_a.0 of_a.1 of_b.1)
  one_verdict count claims Accepted Accepted of_a of_b = refl
  one_verdict count claims a b of_a of_b = absurd (grind arith)

-- a claim that answers a draw has the target line's symbol, which is the drawn one
drawn_symbol : (digest : List ℕ → List ℕ) (m : BlobMetadata) (shard : ℕ) (draw : Draw) (claim : Claim) (e : List ℕ)
    → length e ≡ shard_count m.f * shard_count m.f * symbol_size m.f m.length → AnswersDraw digest m shard draw claim
    → claim.opening.symbol ≡ region (symbol_size m.f m.length) (line_of claim.axis m.f (symbol_size m.f m.length) e claim.index) claim.opening.cross
    → HasDrawnSymbol m e shard draw claim
drawn_symbol digest m shard draw claim e long is same =
    let s = symbol_size m.f m.length in
    let cross = rw is.cross at is.holds.cross in
    let place = rw is.index at is.holds.within in
    let crosses = lines_cross draw.axis m.f s e (drawn_index m shard draw) draw.place long cross place in
    cc (same, is.axis, is.index, is.cross, crosses)

-- else the claim is false
false_claim : (digest : List ℕ → List ℕ) (m : BlobMetadata) (claim : Claim) (blob e : List ℕ) → CommitsMatrix digest m blob e
    → HoldsOpening digest m claim.axis claim.index claim.opening
    → claim.opening.symbol ≢ region (symbol_size m.f m.length) (line_of claim.axis m.f (symbol_size m.f m.length) e claim.index) claim.opening.cross
    → IsFalseClaim digest (record { format = m.format; f = m.f; length = length blob }) blob claim
unfolding metadata_over
false_claim digest m claim blob e commits holds apart =
    let length_is : m.length ≡ length blob = ap (λ (x : BlobMetadata). x.length) commits.1 in
    record {
      matrix = e;
      extended = commits.0;
      holds = rw commits.1 at holds;
      apart = rw length_is at apart;
    }

-- claims that are accepted show the matrix's symbols, or are false
pub own_or_false : (digest : List ℕ → List ℕ) (m : BlobMetadata) (beacon : List ℕ) (shard count : ℕ) (claims : List Claim) (blob e : List ℕ)
    → length claims ≡ count → FirstAnswer digest m beacon shard claims count → CommitsMatrix digest m blob e → AreOwnOrFalse digest m beacon shard claims blob e
own_or_false digest m beacon shard count claims blob e many all commits d claim there =
    let s = symbol_size m.f m.length in
    let inside = slice_get_within claims d claim there in
    let is = all d claim (omega (arith, many, inside)) there in
    let matrix = committed_matrix digest m blob e commits.0 commits.1 in
    ⊎_elim
    (λ same. inl (drawn_symbol digest m shard (draw_of digest m beacon shard d) claim e matrix.size is same))
    (λ apart. inr (false_claim digest m claim blob e commits is.holds apart))
    (same_or_not claim.opening.symbol (region s (line_of claim.axis m.f s e claim.index) claim.opening.cross))

-- each opening makes a claim
claims_long : (digest : List ℕ → List ℕ) (m : BlobMetadata) (beacon : List ℕ) (shard d : ℕ) (openings : List Opening) → length (claims_from digest m beacon shard d openings) ≡ length openings
claims_long digest m beacon shard d [] = refl
claims_long digest m beacon shard d (o ∷ openings) = ap suc (claims_long digest m beacon shard (d + 1) openings)

-- and the claim at a place is of the opening there
claim_at : (digest : List ℕ → List ℕ) (m : BlobMetadata) (beacon : List ℕ) (shard d k : ℕ) (openings : List Opening) (claim : Claim)
    → slice_get (claims_from digest m beacon shard d openings) k ≡ Some claim
    → (o : Opening) × (slice_get openings k ≡ Some o) × (claim ≡ claim_of digest m beacon shard (d + k) o)
claim_at digest m beacon shard d k [] claim there = let inside = slice_get_within [] k claim there in absurd (omega arith)
claim_at digest m beacon shard d zero (o ∷ openings) claim there =
    let here : d ≡ d + 0 = omega arith in
    (o, refl, cc (there, here))
claim_at digest m beacon shard d (suc k) (o ∷ openings) claim there =
    let rest = claim_at digest m beacon shard (d + 1) k openings claim there in
    let here : d + 1 + k ≡ d + suc k = omega arith in
    (rest.0, rest.1, cc (rest.2, here))

-- the claims that answers make are accepted
pub accepted : (digest : List ℕ → List ℕ) (size_is : (text : List ℕ) → length (digest text) ≡ 32) (m : BlobMetadata) (beacon : List ℕ) (shard count : ℕ) (primary secondary : List ℕ) (openings : List Opening)
    → IsMetadata m → shard < shard_count m.f → HoldsBoth digest m shard primary secondary → AreAnswers digest m beacon shard count primary secondary openings
    → AnswersComeTo digest m beacon shard count (claims_from digest m beacon shard 0 openings) Accepted
accepted digest size_is m beacon shard count primary secondary openings fit below holds are = (
  claims_long digest m beacon shard 0 openings ∙ are.many,
  λ d claim less there.
      let made = claim_at digest m beacon shard 0 d openings claim there in
      let o = made.0 in
      let first : 0 + d ≡ d = omega arith in
      let shown = are.each d o made.1 in
      let held = answer_holds digest size_is m beacon shard count primary secondary openings fit.shape.1 holds are d o made.1 in
      rw (made.2, first) (record { axis = refl; index = refl; cross = shown.cross; holds = held }),
)

-- where each of the claims answers its draw they are accepted
pub accepted_as : (digest : List ℕ → List ℕ) (m : BlobMetadata) (beacon : List ℕ) (shard count : ℕ) (given claims : List Claim) → given ≡ claims → length given ≡ count
    → FirstAnswer digest m beacon shard given (length given) → AnswersComeTo digest m beacon shard count claims Accepted
accepted_as digest m beacon shard count given claims same many all = rw (← same, ← many) (refl, all)
