-- A list of openings comes to one outcome, whose sliver is committed.
use Rattle.wal_recover.proofs.Common.{◌≡◌, ℕ, ◌*◌, List, [], length, sym, ap, subst, ◌∙◌, arith, inl, inr, ⊎_elim, length-take-le, Axis, Opening, IsShape, shard_count, sliver_symbols, symbol_size, BlobMetadata, EncodingProof, part_fits, symbols_fit, AreEnough, IsBadProof, HoldsOpening, first_taken, one_taken, false_opening, target_within, one_line, TakenComeTo, GivesOpening, HasCommittedSliver, IsCount, IsOwnOrFalse, OpeningsComeTo, Takes}
use Rattle.wal_matrix.specs.Matrix.{sliver_of}
use Rattle.wal_commit.proofs.HonestOpenings.{committed_sliver}
use Rattle.wal_evidence.specs.Evidence.{CommitsMatrix}
use Rattle.wal_evidence.specs.inside.FirstOfEach.{AreTaken}
use Rattle.wal_evidence.proofs.SameOrNot.{same_or_not}
use Rattle.wal_recover.specs.declared.outcome.Recovered.{Recovered}
use Rattle.wal_recover.specs.declared.outcome.Recovered.TheVariants.{Inconsistent, Short, Sliver}
use Rattle.wal_recover.proofs.OneTaking.{one_given}

module _ (digest : List ℕ → List ℕ) (m : BlobMetadata) (axis : Axis) (index : ℕ) where
  -- as many openings that hold as the sliver has symbols are enough
  pub enough : (taken : List Opening) → AreTaken (HoldsOpening digest m axis index) (λ o. o.cross) (sliver_symbols axis m.f) taken → length taken ≡ sliver_symbols axis m.f
      → AreEnough digest m axis index taken
  enough taken are count = record { count = count; distinct = are.distinct; held = are.each }

  -- the proof is that of the openings
  bad_of : (taken : List Opening) (p : EncodingProof) → TakenComeTo digest m axis index taken (Inconsistent p)
      → IsBadProof digest m (record { axis = axis; index = index; openings = taken })
  bad_of taken p comes = rw comes.0 at comes.1

  -- a codeword has one root
  not_both : (taken : List Opening) (x : List ℕ) (p : EncodingProof) → IsShape m.f m.length
      → TakenComeTo digest m axis index taken (Sliver x) → TakenComeTo digest m axis index taken (Inconsistent p) → ⊥
  not_both taken x p shape is other =
      let bad = bad_of taken p other in
      bad.root (rw (one_line digest m axis index taken is.1.enough shape is.0 bad.word is.1.through bad.line.through) at is.2)

  -- the openings that were taken come to one thing
  one_outcome : (taken : List Opening) → IsShape m.f m.length → (a b : Recovered)
      → TakenComeTo digest m axis index taken a → TakenComeTo digest m axis index taken b → a ≡ b
  one_outcome taken shape (Sliver x) (Sliver y) is_a is_b =
      cc (is_a.3, is_b.3, one_line digest m axis index taken is_a.1.enough shape is_a.0 is_b.0 is_a.1.through is_b.1.through)
  one_outcome taken shape (Sliver x) (Inconsistent q) is_a is_b = absurd (not_both taken x q shape is_a is_b)
  one_outcome taken shape (Inconsistent p) (Sliver y) is_a is_b = absurd (not_both taken y p shape is_b is_a)
  one_outcome taken shape a b is_a is_b = grind arith

  -- what is taken from a list holds
  pub list_held : (openings taken : List Opening) → Takes digest m axis index openings (sliver_symbols axis m.f) taken
      → AreTaken (HoldsOpening digest m axis index) (λ o. o.cross) (sliver_symbols axis m.f) taken
  list_held openings taken takes =
      first_taken (GivesOpening digest m axis index) (λ o. o.cross) (sliver_symbols axis m.f) (HoldsOpening digest m axis index) openings taken
      (λ o given there is. rw is.0 is.1) takes

  -- a list of openings comes to one thing
  pub one_recovery : (openings : List Opening) → IsShape m.f m.length → (a b : Recovered) → OpeningsComeTo digest m axis index openings a
      → OpeningsComeTo digest m axis index openings b → a ≡ b
  one_recovery openings shape a b is_a is_b =
      let same = one_taken (GivesOpening digest m axis index) (λ o. o.cross) (sliver_symbols axis m.f) (one_given digest m axis index (sliver_symbols axis m.f)) []
      openings is_a.taken is_b.taken is_a.takes is_b.takes in
      one_outcome is_b.taken shape a b
      (subst (λ (taken : List Opening). TakenComeTo digest m axis index taken a) same is_a.comes) is_b.comes

  pub counted : (taken : List Opening) (outcome : Recovered) → TakenComeTo digest m axis index taken outcome → IsCount axis m.f outcome (length taken)
  counted taken (Short i) comes = sym comes.0
  counted taken (Sliver x) comes = comes.1.enough.count
  counted taken (Inconsistent p) comes = (bad_of taken p comes).line.enough.count

  -- the sliver that was recovered is the one that m commits
  pub committed : (taken : List Opening) → (outcome : Recovered) → TakenComeTo digest m axis index taken outcome → HasCommittedSliver digest m axis index outcome
  committed taken (Sliver x) comes =
      let s = symbol_size m.f m.length in
      let k = sliver_symbols axis m.f in
      let room = part_fits k (shard_count m.f) s (symbols_fit axis m.f) in
      let long = comes.1.through.coded.size in
      record {
        within = target_within digest m axis index taken comes.1.enough;
        size = ap length comes.3 ∙ length-take-le (k * s) comes.0 (omega (arith, room, long));
        word = comes.0;
        is_word = record { coded = comes.1.through.coded; begins = sym comes.3 };
        root = comes.2;
      }
  committed taken other comes = tt

  -- of a blob that m commits: the sliver that was recovered is the matrix's own, or another that m commits there
  pub own_or_false : (blob e : List ℕ) → IsShape m.f m.length → CommitsMatrix digest m blob e → (taken : List Opening) → (outcome : Recovered)
      → TakenComeTo digest m axis index taken outcome → HasCommittedSliver digest m axis index outcome → IsOwnOrFalse digest m axis index e outcome
  own_or_false blob e shape is taken (Short i) comes held = tt
  own_or_false blob e shape is taken (Sliver x) comes held =
      ⊎_elim (λ same. inl same) (λ apart. inr (apart, held, committed_sliver digest m blob e is.0 is.1 axis index held.within))
      (same_or_not x (sliver_of axis m.f (symbol_size m.f m.length) e index))
  own_or_false blob e shape is taken (Inconsistent p) comes held = false_opening digest m p blob e shape comes.1 is
