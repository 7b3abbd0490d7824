-- Heads tell chains apart, and a shard that votes in turn has seen one chain.
use Rattle.wal_chain.proofs.Common.{◌≡◌, ◌⊎◌, ℕ, zero, suc, ◌+◌, ◌<◌, ◌≤◌, true, inl, inr, ⊎_elim, List, [], ◌∷◌, length, take, fold, Contains, refl, sym, ap, ◌∙◌, subst, arith, length-take-le, take-take, Post, Seal, IsPlain, AreAllowed, chain_head, IsBroken, IsSeenOn, IsFork, AreInTurn}
use Rattle.wal_chain.proofs.Lists.{same_or_not, reaches}

-- what is the same so far was the same before
pub less : (n m : ℕ) (xs ys : List Post) → n ≤ m → take m xs ≡ take m ys → take n xs ≡ take n ys
less n m xs ys le same = sym (take-take n m xs le) ∙ ap (λ (l : List Post). take n l) same ∙ take-take n m ys le

-- what was seen by the parting is on both chains
pub early_on_both : (seal : Seal) (fork : ℕ) (one other : List Post) (post : Post) → IsFork fork one other → post.seen ≤ fork → IsSeenOn seal one post → IsSeenOn seal other post
early_on_both seal fork one other post parts le on =
    let same = less post.seen fork one other le parts.common in
    record {
      within = reaches post.seen other (ap (λ (l : List Post). length l) (sym same) ∙ length-take-le post.seen one on.within);
      same = ap (λ (l : List Post). chain_head seal l) (sym same) ∙ on.same;
    }

-- the first posts of a chain are posts that it may have
first_allowed : (seal : Seal) (n : ℕ) (chain : List Post) → AreAllowed seal chain → AreAllowed seal (take n chain)
first_allowed seal zero chain are = tt
first_allowed seal (suc n) [] are = tt
first_allowed seal (suc n) (post ∷ chain) are = (are.0, first_allowed seal n chain are.1)

module _ (seal : Seal) (plain : IsPlain seal) where
  texts_apart : (h k : List ℕ) (x y : Post) → seal.is_head h ≡ true → seal.is_head k ≡ true → seal.is_allowed x ≡ true → seal.is_allowed y ≡ true → seal.digest (seal.text h x) ≡ seal.digest (seal.text k y) → ((h ≡ k) × (x ≡ y)) ⊎ IsBroken seal
  texts_apart h k x y is_h is_k of_x of_y same =
      ⊎_elim
      (λ is. inl (plain.exact h k x y is_h is_k of_x of_y is))
      (λ differ. inr (seal.text h x, seal.text k y, record { left = plain.bytes h x is_h of_x; right = plain.bytes k y is_k of_y; differ = differ; same = same }))
      (same_or_not (seal.text h x) (seal.text k y))

  from_heads : (h k : List ℕ) (xs ys : List Post) → seal.is_head h ≡ true → seal.is_head k ≡ true → AreAllowed seal xs → AreAllowed seal ys → length xs ≡ length ys
      → fold (λ head post. seal.digest (seal.text head post)) h xs ≡ fold (λ head post. seal.digest (seal.text head post)) k ys
      → ((h ≡ k) × (xs ≡ ys)) ⊎ IsBroken seal
  from_heads h k [] [] is_h is_k of_xs of_ys long same = inl (same, refl)
  from_heads h k [] (y ∷ ys) is_h is_k of_xs of_ys long same = absurd (omega (arith, long))
  from_heads h k (x ∷ xs) [] is_h is_k of_xs of_ys long same = absurd (omega (arith, long))
  from_heads h k (x ∷ xs) (y ∷ ys) is_h is_k of_xs of_ys long same =
      ⊎_elim
      (λ both. ⊎_elim (λ p. inl (p.0, cc (p.1, both.1))) (λ broken. inr broken) (texts_apart h k x y is_h is_k of_xs.0 of_ys.0 both.0))
      (λ broken. inr broken)
      (from_heads (seal.digest (seal.text h x)) (seal.digest (seal.text k y)) xs ys (plain.more h x is_h of_xs.0) (plain.more k y is_k of_ys.0) of_xs.1 of_ys.1 (omega (arith, long)) same)

  -- two chains of one length with one head are one
  pub one_head : (one other : List Post) → AreAllowed seal one → AreAllowed seal other → length one ≡ length other → chain_head seal one ≡ chain_head seal other → (one ≡ other) ⊎ IsBroken seal
  one_head one other of_one of_other long same = ⊎_elim (λ both. inl both.1) (λ broken. inr broken) (from_heads seal.start seal.start one other plain.first plain.first of_one of_other long same)

  -- chains on which a post's poster had seen the same are the same so far
  agree : (one other : List Post) (post : Post) → AreAllowed seal one → AreAllowed seal other → IsSeenOn seal one post → IsSeenOn seal other post → (take post.seen one ≡ take post.seen other) ⊎ IsBroken seal
  agree one other post of_one of_other here there =
      one_head (take post.seen one) (take post.seen other) (first_allowed seal post.seen one of_one) (first_allowed seal post.seen other of_other) (length-take-le post.seen one here.within ∙ sym (length-take-le post.seen other there.within)) (here.same ∙ sym there.same)

  carried : (a b : Post) (one other : List Post) → AreAllowed seal one → AreAllowed seal other → a.seen ≤ b.seen → IsSeenOn seal one a → IsSeenOn seal one b → IsSeenOn seal other b → IsSeenOn seal other a ⊎ IsBroken seal
  carried a b one other of_one of_other le on_a on_b there =
      ⊎_elim
      (λ same. inl (record { within = omega (arith, le, there.within); same = ap (λ (l : List Post). chain_head seal l) (sym (less a.seen b.seen one other le same)) ∙ on_a.same }))
      (λ broken. inr broken)
      (agree one other b of_one of_other on_b there)

  later : (a b : Post) (posts : List Post) → a.seen ≤ b.seen → (chain : List Post) → AreAllowed seal chain → IsSeenOn seal chain a → IsSeenOn seal chain b → AreInTurn seal b posts → (x : Post) → Contains (b ∷ posts) x
      → ((chain : List Post) × AreAllowed seal chain × IsSeenOn seal chain a × IsSeenOn seal chain x) ⊎ IsBroken seal
  later a b posts le chain of on_a on_b turn x (zero, lt, at) = inl (chain, of, on_a, subst (λ (y : Post). IsSeenOn seal chain y) at on_b)
  later a b [] le chain of on_a on_b turn x (suc k, lt, at) = absurd (omega (arith, lt))
  later a b (c ∷ posts) le chain of on_a on_b turn x (suc k, lt, at) =
      ⊎_elim
      (λ on. later a c posts (omega (arith, le, turn.0.grows)) turn.0.chain turn.0.allowed on turn.0.has_next turn.1 x (k, omega (arith, lt), at))
      (λ broken. inr broken)
      (carried a b chain turn.0.chain of turn.0.allowed le on_a on_b turn.0.has_last)

  -- posts that were made in turn were seen on one chain, any two of them
  pub pair : (first : Post) (posts : List Post) → AreInTurn seal first posts → (a b : Post) (one other : List Post) → AreAllowed seal one → AreAllowed seal other → IsSeenOn seal one a → IsSeenOn seal other b
      → Contains (first ∷ posts) a → Contains (first ∷ posts) b
      → ((chain : List Post) × AreAllowed seal chain × IsSeenOn seal chain a × IsSeenOn seal chain b) ⊎ IsBroken seal
  pair first posts turn a b one other of_one of_other on_a on_b (zero, lt, at) there =
      let on = subst (λ (y : Post). IsSeenOn seal one y) (sym at) on_a in
      subst (λ (y : Post). ((chain : List Post) × AreAllowed seal chain × IsSeenOn seal chain y × IsSeenOn seal chain b) ⊎ IsBroken seal) at (later first first posts (omega arith) one of_one on on turn b there)
  pair first posts turn a b one other of_one of_other on_a on_b (suc i, lt, at) (zero, lt', at') =
      let on = subst (λ (y : Post). IsSeenOn seal other y) (sym at') on_b in
      ⊎_elim
      (λ found. inl (found.0, found.1, found.3, subst (λ (y : Post). IsSeenOn seal found.0 y) at' found.2))
      (λ broken. inr broken)
      (later first first posts (omega arith) other of_other on on turn a (suc i, lt, at))
  pair first [] turn a b one other of_one of_other on_a on_b (suc i, lt, at) (suc j, lt', at') = absurd (omega (arith, lt))
  pair first (c ∷ posts) turn a b one other of_one of_other on_a on_b (suc i, lt, at) (suc j, lt', at') =
      pair c posts turn.1 a b one other of_one of_other on_a on_b (i, omega (arith, lt), at) (j, omega (arith, lt'), at')

  -- of two chains that part no post beyond the parting was seen on one with a post of the other
  pub meet : (fork : ℕ) (one other chain : List Post) (a b : Post) → AreAllowed seal one → AreAllowed seal other → AreAllowed seal chain → IsFork fork one other → fork < a.seen → fork < b.seen
      → IsSeenOn seal one a → IsSeenOn seal other b → IsSeenOn seal chain a → IsSeenOn seal chain b → IsBroken seal
  meet fork one other chain a b of_one of_other of_chain parts far_a far_b on_a on_b here there =
      ⊎_elim
      (λ left. ⊎_elim
      (λ right. absurd (parts.apart (less (fork + 1) a.seen one chain (omega (arith, far_a)) left ∙ sym (less (fork + 1) b.seen other chain (omega (arith, far_b)) right))))
      (λ broken. broken)
      (agree other chain b of_other of_chain on_b there))
      (λ broken. broken)
      (agree one chain a of_one of_chain on_a here)
