-- A step of the world leaves no choice but the two texts of a collision, where the crates below leave none; and so do runs.
use Rattle.wal_protocol.proofs.Common.{◌≡◌, ℕ, Bool, true, false, cond, List, [], ◌∷◌, ◌++◌, refl, sym, subst, ◌∙◌, arith, ⊎_elim, inl, inr, true≢false, BlobId, Axis, Side, Frame, Event, Write, Send, Read, Recover, Certificate, Reply, Line, ReadWord, RecoverWord, Log, Contents, PutAnswer, Committee, World, side_of, writing_side, contents_of, held, with_contents, keeps, Rules, PutsEach, letters, WriteStep, WriteCollides, IsWrite, SendStep, SendCollides, ReadStep, ReadCollides, IsReplyOf, AreReplies, RecoverStep, RecoverCollides, Steps, GoesOn, is_collision, Runs, SendWord, is_clash, WriteWord, ◌⊎◌}
use Rattle.wal_protocol.specs.Determined.{SameLines, SameStep, SameUpToCollision}
use Rattle.wal_protocol.proofs.OneWord.{Only, one_certificate}
use Rattle.wal_protocol.proofs.EveryWord.{truth}

-- the word that tells an answer
abbrev pub sent_word : PutAnswer → SendWord
sent_word PutAnswer.Unregistered = SendWord.Unregistered
sent_word PutAnswer.NoMetadata = SendWord.NoMetadata
sent_word PutAnswer.Unverified = SendWord.Unverified
sent_word PutAnswer.Held = SendWord.Held
sent_word _ = SendWord.Stored

-- what is held after a word of a recovery that ran
abbrev pub recovered_state : World → Side → ℕ → RecoverWord → Contents → World
recovered_state old side shard RecoverWord.NoMetadata contents = old
recovered_state old side shard (RecoverWord.Short have need) contents = old
recovered_state old side shard _ contents = keeps old side shard contents

-- ---- puts

module _ (r : Rules) (only : Only r) where
  -- puts one after the other come to one thing
  one_puts : (log : Log) (puts : List (ℕ × Frame)) (a b : Bool) (x y : Committee) (c : Committee) → PutsEach r log c puts a x → PutsEach r log c puts b y → (a ≡ b) × (x ≡ y)
  one_puts log [] a b x y c p q = grind arith
  one_puts log (one ∷ more) a b x y c p q =
      let same = only.puts log one.0 (contents_of c one.0) one.1 p.0 q.0 p.1 q.1 p.2 q.2 in
      let rest = one_puts log more a b x y (with_contents c one.0 q.1) in
      grind arith

  -- ---- honest writes

  module _ (old : World) (blob to : List ℕ) where
    -- the honest write of a blob is one
    one_honest : (i j : BlobId) (a b : Bool) (m : IsWrite r old blob to i a) (n : IsWrite r old blob to j b)
        → (i ≡ j) × (a ≡ b) × (m.message ≡ n.message) × (m.mid ≡ n.mid)
    one_honest i j a b m n =
        let side = writing_side old in
        let same = only.message old.format blob i j m.message n.message m.honest n.honest in
        let P = λ (o : ℕ → List Frame). PutsEach r old.log (side_of side old) (letters old side o to) a m.mid in
        let had = subst P same.1 m.puts in
        let puts = one_puts old.log (letters old side n.message to) a b m.mid n.mid (side_of side old) had n.puts in
        (same.0, puts.0, same.1, puts.1)

    one_write : (i j : BlobId) (k l : ℕ) (x y : World) → WriteStep r old blob to i k x → WriteStep r old blob to j l y
        → (i ≡ j) × (k ≡ l) × (x ≡ y)
    one_write i j k l x y a b = let same = one_honest i j false false a.write b.write in grind arith

    write_not : (i : BlobId) (k : ℕ) (x y : World) → WriteStep r old blob to i k x → WriteCollides r old blob to y → ⊥
    write_not i k x y a b =
        let same = one_honest i b.id false b.clashed a.write b.write in
        let differs = b.differs (sym same.1) in
        differs.2 (a.agrees differs.0 (cc (differs.1, same.0)))

    one_write_clash : (x y : World) → WriteCollides r old blob to x → WriteCollides r old blob to y → x ≡ y
    one_write_clash x y a b =
        let same = one_honest a.id b.id a.clashed b.clashed a.write b.write in grind arith

  -- ---- bytes sent

  module _ (old : World) (side : Side) (shard : ℕ) (bytes : List ℕ) where
    one_put : (a b : PutAnswer) (f g : Frame) (x y : Contents) → r.IsPutFrame bytes f → r.IsPutFrame bytes g
        → r.Puts old.log shard (contents_of (side_of side old) shard) f a x
        → r.Puts old.log shard (contents_of (side_of side old) shard) g b y
        → (is_clash a ≡ is_clash b) × ((is_clash a ≡ true) ⊎ (a ≡ b)) × (x ≡ y)
    one_put a b f g x y is also p q =
        let had = rw (only.put_frame bytes f g is also) at p in
        let one = only.puts old.log shard (contents_of (side_of side old) shard) g a b x y had q in
        (one.0.0, ⊎_elim (λ clash. inl clash) (λ calm. inr (one.0.1 calm)) (truth (is_clash a)), one.1)

    one_sent : (w v : SendWord) (x y : World) → SendStep r old side shard bytes w x
        → SendStep r old side shard bytes v y → (w ≡ v) × (x ≡ y)
    one_sent w v x y p q = grind (arith, one_put)

    sent_not : (w : SendWord) (x y : World) → SendStep r old side shard bytes w x
        → SendCollides r old side shard bytes y → ⊥
    sent_not w x y p q = grind (arith, one_put)

  -- ---- reads

  module _ (old : World) (id : BlobId) (replies : List Reply) where
    one_told : (w v : ReadWord) (x y : World) → ReadStep r old id replies w x → ReadStep r old id replies v y
        → (w ≡ v) × (x ≡ y)
    one_told w v x y p q = grind (arith, only.reads)

    told_not : (w : ReadWord) (x : World) → ReadStep r old id replies w x → ReadCollides r old id replies → ⊥
    told_not w x p q = grind (arith, only.reads, only.reads_one)

  -- ---- recoveries

  module _ (old : World) (id : BlobId) (axis : Axis) (shard : ℕ) where
    one_reply : (one : Reply) (a b : List (List ℕ)) → IsReplyOf r old id axis shard one a
        → IsReplyOf r old id axis shard one b → a ≡ b
    one_reply (Reply.True side s) a b p q =
        let same = only.symbol_reply id s (held (side_of side old) s id) axis shard a b in grind arith
    one_reply (Reply.Bytes bytes) a b p q = p ∙ sym q

    one_replies : (replies : List Reply) (a b : List (List ℕ)) → AreReplies r old id axis shard replies a
        → AreReplies r old id axis shard replies b → a ≡ b
    one_replies [] a b p q = p ∙ sym q
    one_replies (one ∷ more) a b p q = cc (one_reply one p.0 q.0 p.2 q.2, one_replies more p.1 q.1 p.3 q.3, p.4, q.4)

  module _ (old : World) (side : Side) (shard : ℕ) (axis : Axis) (id : BlobId) (replies : List Reply) where
    one_ran : (w v : RecoverWord) (x y : Contents) (ps qs : List (List ℕ)) → AreReplies r old id axis shard replies ps
        → AreReplies r old id axis shard replies qs
        → r.Recovers id shard axis (contents_of (side_of side old) shard) ps w x
        → r.Recovers id shard axis (contents_of (side_of side old) shard) qs v y → (w ≡ v) × (x ≡ y)
    one_ran w v x y ps qs are also p q =
        let had = rw (one_replies old id axis shard replies ps qs are also) at p in
        only.recovers id shard axis (contents_of (side_of side old) shard) qs w v x y had q

    clash_too : (ps qs : List (List ℕ)) → AreReplies r old id axis shard replies ps
        → AreReplies r old id axis shard replies qs → r.ContradictsHeld id (held (side_of side old) shard id) ps
        → r.ContradictsHeld id (held (side_of side old) shard id) qs
    clash_too ps qs are also clash = rw (one_replies old id axis shard replies ps qs are also) at clash

    one_found : (w v : RecoverWord) (x y : World) → RecoverStep r old side shard axis id replies w x
        → RecoverStep r old side shard axis id replies v y → (w ≡ v) × (x ≡ y)
    one_found w v x y p q = grind (arith, one_ran)

    found_not : (w : RecoverWord) (x : World) → RecoverStep r old side shard axis id replies w x
        → RecoverCollides r old side shard axis id replies → ⊥
    found_not w x p b = grind (arith, clash_too)

  -- ---- any event

  -- THE STEP leaves no choice but the texts of a collision
  pub one_step : (old : World) (event : Event) (a b : Line) (x y : World) → Steps r old event a x → Steps r old event b y → SameStep a b x y
  one_step old (Write blob to) (Line.Write i (WriteWord.Stored k one)) (Line.Write j (WriteWord.Stored l two)) x y p q =
      let same = one_write old blob to i j k l x y p.1 q.1 in grind arith
  one_step old (Write blob to) (Line.Write i (WriteWord.Stored k bytes)) (Line.Collision left right) x y p q =
      absurd (write_not old blob to i k x y p.1 q.1)
  one_step old (Write blob to) (Line.Collision left right) (Line.Write i (WriteWord.Stored k bytes)) x y p q =
      absurd (write_not old blob to i k y x q.1 p.1)
  one_step old (Write blob to) (Line.Collision left right) (Line.Collision one other) x y p q =
      let same = one_write_clash old blob to x y p.1 q.1 in grind arith
  one_step old (Send side shard bytes) a b x y p q =
      grind (arith, one_sent old side shard bytes, sent_not old side shard bytes)
  one_step old (Read id replies) a b x y p q = grind (arith, one_told old id replies, told_not old id replies)
  one_step old (Recover side shard axis id replies) a b x y p q =
      grind (arith, one_found old side shard axis id replies, found_not old side shard axis id replies)
  one_step old (Certificate id) a b x y p q = grind (arith, one_certificate)
  -- every other event has no two words that the tests of the state do not tell apart
  one_step old event a b x y p q = grind arith

  -- ---- runs

  lines_rest : (k j : Bool) (events : List Event) (x y : World) (a b : Line) (s t : List World) (xs ys : List Line) → k ≡ is_collision a → j ≡ is_collision b → SameStep a b x y
      → (Runs r y events s xs → Runs r y events t ys → SameLines xs ys)
      → cond k ((s ≡ []) × (xs ≡ [])) (Runs r x events s xs) → cond j ((t ≡ []) × (ys ≡ [])) (Runs r y events t ys) → SameLines (a ∷ xs) (b ∷ ys)
  lines_rest true true events x y a b s t xs ys is_a is_b same rest p q =
      inr (record {
        front = [];
        one = a;
        other = b;
        ends = rw p.1;
        ends_too = rw q.1;
        collides = sym is_a;
        collides_too = sym is_b;
      })
  lines_rest false false events x y a b s t xs ys is_a is_b same rest p q =
      let said : a ≡ b = same.0.1 (sym is_a) in
      ⊎_elim
      (λ equal. inl (cc))
      (λ apart. inr (record {
        front = b ∷ apart.front;
        one = apart.one;
        other = apart.other;
        ends = rw (said, apart.ends);
        ends_too = rw apart.ends_too;
        collides = apart.collides;
        collides_too = apart.collides_too;
      }))
      (rest (rw same.1 at p) q)
  lines_rest k j events x y a b s t xs ys is_a is_b same rest p q = absurd (grind arith)

  -- A RUN leaves no choice but the texts of its collision
  pub one_run : (events : List Event) (s t : List World) (xs ys : List Line) (old : World) → Runs r old events s xs → Runs r old events t ys → SameLines xs ys
  one_run [] [] [] [] [] old p q = inl refl
  one_run (event ∷ events) (x ∷ s) (y ∷ t) (a ∷ xs) (b ∷ ys) old p q =
      lines_rest (is_collision a) (is_collision b) events x y a b s t xs ys refl refl (one_step old event a b x y p.0 q.0) (one_run events s t xs ys y) p.1 q.1
  one_run events s t xs ys old p q = absurd (grind arith)

-- ---- lines that end in a collision do not go on

-- lines do not go on if the last of them is a collision
pub not_going : (front : List Line) (said : Line) → GoesOn (front ++ said ∷ []) → is_collision said ≡ true → ⊥
not_going [] said goes is = true≢false (sym is ∙ goes.0)
not_going (one ∷ front) said goes is = not_going front said goes.1 is

-- of lines that are the same up to a collision, the first ones do not go on
pub apart_left : (xs ys : List Line) → SameUpToCollision xs ys → GoesOn xs → ⊥
apart_left xs ys apart goes = not_going apart.front apart.one (subst GoesOn apart.ends goes) apart.collides

-- of lines that are the same up to a collision, the second ones do not go on
pub apart_right : (xs ys : List Line) → SameUpToCollision xs ys → GoesOn ys → ⊥
apart_right xs ys apart goes = not_going apart.front apart.other (subst GoesOn apart.ends_too goes) apart.collides_too
