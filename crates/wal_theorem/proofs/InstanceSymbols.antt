-- A recovery that has the replies of enough shards gives the sliver, or finds the blob badly encoded.
use Rattle.wal_theorem.proofs.Common.{◌≡◌, inl, ⊎_elim, ℕ, ◌+◌, ◌<◌, ◌≤◌, List, [], ◌∷◌, length, map, Bool, true, is_some, Contains, refl, sym, ap, ◌∙◌, arith, flat_map, false≢true, get_or-map, length-map, Contains-append_left, Contains-append_right, Contains-append_cases, BlobId, Axis, Primary, Secondary, sliver_symbols, crossing, BlobMetadata, held_index, held_index-within, held_index-twice, HoldsOpening, HoldsSliver, honest_opening, crosses_of, takes_all, GivesOpening, Takes, frame_text, read_of, RecoverWord, NoMetadata, Short, read_again, same_axis, opening_for, openings_in, HasMetadata, Parts, part_of, Contents, parts_at, count_below, committee_size, quorum_size, count_below-some, sliver_part, IsSound, OpeningReply, given, not_held, no_shard, settled, AreAmong, Helped, IsDecidedBy, IsSettledBy, IsKnown, SymbolReply, silent, replies, OwnOpeningsComeTo, RecoversTo, rules_of, OpeningFrame, Opening, Proof, one_held, beside, IsOwnMetadata}
use Rattle.std.proofs.lemmas.Slice.Eq.{bytes_eq-Decides}
use Rattle.wal_commit.proofs.Bodies.{body_of}
use Rattle.wal_theorem.proofs.InstanceHoldings.{held_own}
use Rattle.wal_theorem.proofs.InstanceReplies.{contains_first, only_one, count_named, id_long, told, shows_middle, settled_has, same_number}
use Rattle.wal_theorem.proofs.InstanceReads.{tells_metadata, tells_proof}

-- ---- lists

contains_map : (h : ℕ → ℕ) (xs : List ℕ) (x : ℕ) → Contains xs x → Contains (map h xs) (h x)
contains_map h xs x c =
    let l = c.1 in
    (c.0, omega (arith, l, length-map xs h), get_or-map h xs c.0 x (h x) l ∙ ap h c.2)

contains_flat : {A B : Type 0} (g : A → List B) (xs : List A) (x : A) (y : B) → Contains xs x → Contains (g x) y → Contains (flat_map g xs) y
contains_flat g [] x y c d = let l = c.1 in absurd (omega arith)
contains_flat g (a ∷ xs) x y c d =
    ⊎_elim
    (λ first. Contains-append_left (g a) (flat_map g xs) y (rw (only_one a x first.0 first.1 first.2) d))
    (λ later. Contains-append_right (g a) (flat_map g xs) y (contains_flat g xs x y later d))
    (Contains-append_cases (a ∷ []) xs x c)

same_axes : (axis : Axis) → same_axis axis axis ≡ true
same_axes axis = grind arith

-- ---- replies of shards that help

module _ (digest : List ℕ → List ℕ) (size : (text : List ℕ) → length (digest text) ≡ 32) (f : ℕ) (few : f ≤ 333) (id : BlobId) (shard : ℕ) (within : shard < committee_size f)
    (payloads : List (List ℕ)) where
  -- a shard that holds metadata helped: its metadata, and what it told
  record Told (axis : Axis) (helper : ℕ) (parts : Parts) : Type 0 where
    pub metadata : BlobMetadata
    pub own : IsOwnMetadata digest f id.0 parts metadata
    pub opening : List (List ℕ)
    pub reply : OpeningReply digest id.0 helper parts axis (held_index metadata.format metadata.f axis shard) opening
    pub tells : AreAmong (told id.0 parts opening) payloads
    pub has : HasMetadata digest id.0 payloads metadata

  helped_told : (axis : Axis) (helper : ℕ) (parts : Parts) → is_some parts.metadata ≡ true → Helped (rules_of digest f) id axis shard payloads helper parts → Told axis helper parts
  helped_told axis helper parts there h = by h.reply h.symbols h.replied
    where
      by : (reply : List (List ℕ)) → SymbolReply digest id helper parts axis shard reply → AreAmong reply payloads
          → Told axis helper parts
      by _ (silent none) among = absurd (false≢true (rw none at there))
      by all (replies m _ holds symbols) among =
          let own = held_own digest f id.0 helper parts h.sound m holds in
          let tells : AreAmong (told id.0 parts symbols.0) payloads = λ x there. among x (rw symbols.2 there) in
          record {
            metadata = m;
            own = own;
            opening = symbols.0;
            reply = symbols.1;
            tells = tells;
            has = tells_metadata digest size f few id payloads parts symbols.0 m tells holds own.commits;
          }

  -- an opening that a held sliver gives is one of the openings of the sliver, and holds
  abbrev Opens : Axis → ℕ → BlobMetadata → Type 0
  Opens axis helper m =
      let index = held_index m.format m.f axis shard in
      (o : Opening) × Contains (openings_in id.0 axis index payloads) o × HoldsOpening digest m axis index o × (o.cross ≡ held_index m.format m.f (crossing axis) helper)

  opens : (axis : Axis) (helper : ℕ) (parts : Parts) (m : BlobMetadata) (opening : List (List ℕ)) → IsSound digest f id.0 helper parts → IsOwnMetadata digest f id.0 parts m
      → AreAmong (told id.0 parts opening) payloads → OpeningReply digest id.0 helper parts axis (held_index m.format m.f axis shard) opening
      → is_some (part_of parts (sliver_part (crossing axis))) ≡ true → Opens axis helper m
  opens axis helper parts m _ sound own tells (given x sliver o held at within_x cross is) there =
      let same = one_held parts x m held own.held in
      let turned = rw same at cross in
      let index = held_index m.format m.f axis shard in
      let turned_sliver : HoldsSliver digest m (crossing axis) o.cross sliver = rw turned (sound.slivers (crossing axis) m sliver own.held at) in
      let holds = honest_opening digest size m axis index sliver o (omega (arith, few, own.faults)) (rw same at within_x) turned_sliver (rw same at is) in
      let most : index ≤ 999 = omega (arith, holds.within, own.faults, few) in
      let reads = read_again (OpeningFrame id.0 axis index o)
      (record { id_size = id_long digest size id.0 m own.commits; index_most = most }, body_of digest m axis index o own.commits.fit.shape holds) in
      let text = frame_text (OpeningFrame id.0 axis index o) in
      let carried = contains_flat (λ payload. opening_for id.0 axis index (read_of payload)) payloads text o (tells text (shows_middle id.0 parts (text ∷ []) text (contains_first _ _ [] refl)))
      (rw (reads, (bytes_eq-Decides id.0 id.0).1 refl, same_axes axis, same_number index) (contains_first o o [] refl)) in
      (o, carried, holds, turned)
  opens axis helper parts m _ sound own tells (not_held none) there = absurd (false≢true (rw none at there))
  opens axis helper parts m _ sound own tells (no_shard x held none) there =
      absurd (none (rw (one_held parts x m held own.held)
      (omega (arith, own.faults, held_index-within m.format m.f axis shard (omega (arith, within, own.faults))))))

  -- each shard that was heard holds what P says, and helped
  abbrev Heard : Axis → (Parts → Type 0) → (ℕ → Bool) → Type 0
  Heard axis P heard = (s : ℕ) → s < committee_size f → heard s ≡ true → (parts : Parts) × P parts × Helped (rules_of digest f) id axis shard payloads s parts

  -- some shard told its metadata, where all hold one
  someone : (axis : Axis) (P : Parts → Type 0) (heard : ℕ → Bool) → 1 ≤ count_below (committee_size f) heard → Heard axis P heard
      → ((s : ℕ) (parts : Parts) → P parts → IsSound digest f id.0 s parts → is_some parts.metadata ≡ true) → (m : BlobMetadata) × HasMetadata digest id.0 payloads m × (m.f ≡ f)
  someone axis P heard enough helped there =
      let one = count_below-some (committee_size f) heard enough in
      let (parts, holds, h) = helped one.0 one.1 one.2 in
      let t = helped_told axis one.0 parts (there one.0 parts holds h.sound) h in (t.metadata, t.has, t.own.faults)

  module _ (axis : Axis) (old : Parts) (m : BlobMetadata) (known : IsKnown digest f id old payloads m) where
    -- the shard that told is counted among the crosses that were taken
    counted : (helper : ℕ) (parts : Parts) (taken : List Opening) → helper < committee_size f → is_some parts.metadata ≡ true
        → is_some (part_of parts (sliver_part (crossing axis))) ≡ true
        → Helped (rules_of digest f) id axis shard payloads helper parts
        → Takes digest m axis (held_index m.format m.f axis shard) (openings_in id.0 axis (held_index m.format m.f axis shard) payloads) (sliver_symbols axis m.f) taken
        → length taken < sliver_symbols axis m.f → Contains (map (held_index m.format m.f (crossing axis)) (crosses_of taken)) helper
    counted helper parts taken inside there sliver h takes short =
        let t = helped_told axis helper parts there h in
        let o = rw (known.only t.metadata (inl t.has)) at (opens axis helper parts t.metadata t.opening h.sound t.own t.tells t.reply sliver) in
        let index = held_index m.format m.f axis shard in
        let turn = held_index m.format m.f (crossing axis) in
        let cross : Contains (crosses_of taken) o.0.cross =
        takes_all (GivesOpening digest m axis index) (λ x. x.cross) (sliver_symbols axis m.f) (λ x y z a b. a.0 ∙ sym b.0) [] (openings_in id.0 axis index payloads) taken takes short o.0 o.0 o.1 (refl, o.2) in
        let back : turn o.0.cross ≡ helper =
        rw o.3 (held_index-twice m.format m.f (crossing axis) helper (omega (arith, inside, known.faults))) in
        rw (← back) (contains_map turn (crosses_of taken) o.0.cross cross)

    -- openings are not too few where enough shards told theirs
    not_short : (heard : ℕ → Bool) (have : ℕ) → sliver_symbols axis m.f ≤ count_below (committee_size f) heard
        → Heard axis (λ p. (is_some p.metadata ≡ true) × (is_some (part_of p (sliver_part (crossing axis))) ≡ true)) heard
        → OwnOpeningsComeTo digest id shard axis payloads m (Short have) → ⊥
    not_short heard have enough helped r =
        let taken = r.taken in
        let turn = held_index m.format m.f (crossing axis) in
        let short : length taken < sliver_symbols axis m.f = omega (arith, r.comes.0, r.comes.1) in
        let named = count_named (committee_size f) heard (map turn (crosses_of taken))
        (λ s inside hears. let h = helped s inside hears in counted s h.0 taken inside h.1.0 h.1.1 h.2 r.takes short) in
        omega
        (arith, enough, named, length-map (crosses_of taken) turn, length-map taken (λ (o : Opening). o.cross), short)

  pub secondary_recovers : (old new : Contents) (word : RecoverWord) (heard : ℕ → Bool) → f + 1 ≤ count_below (committee_size f) heard → Heard Secondary (λ p. settled p ≡ true) heard
      → RecoversTo digest f id shard Secondary old payloads word new → IsSettledBy word
  secondary_recovers old new NoMetadata heard enough helped r =
      let own = someone Secondary (λ p. settled p ≡ true) heard (omega (arith, enough)) helped (λ s p settles sound. (settled_has p settles).0) in
      absurd (r.0 own.0 (inl own.1) own.2)
  secondary_recovers old new (Short have need) heard enough helped r =
      let m = r.0 in
      let faults = r.1.faults in
      absurd (not_short Secondary (parts_at old id) m r.1 heard have (omega (arith, enough, faults)) (λ s inside hears.
      let (p, settles, h) = helped s inside hears in
      let has = settled_has p settles in
      ⊎_elim
      (λ proof.
      let t = helped_told Secondary s p has.0 h in
      let holds = rw (r.1.only t.metadata (inl t.has)) at t.own.held in
      absurd (tells_proof digest size f few id payloads s p t.opening m t.tells h.sound holds r.3 proof))
      (λ slivers. (p, (has.0, slivers.0), h))
      has.1) r.2)
  secondary_recovers old new word heard enough helped r = grind arith

  -- with enough secondary slivers the openings decide
  few_openings : (old : Contents) (m : BlobMetadata) (have : ℕ) (heard : ℕ → Bool) → quorum_size f ≤ count_below (committee_size f) heard → Heard Primary (λ p. is_some p.secondary ≡ true) heard
      → IsKnown digest f id (parts_at old id) payloads m → OwnOpeningsComeTo digest id shard Primary payloads m (Short have) → ⊥
  few_openings old m have heard enough helped known r =
      not_short Primary (parts_at old id) m known heard have (omega (arith, enough, known.faults))
      (λ s inside hears. let h = helped s inside hears in (h.0, (beside digest f s id.0 h.0 Secondary h.2.sound h.1, h.1), h.2)) r

  pub primary_recovers : (old new : Contents) (word : RecoverWord) (heard : ℕ → Bool) → quorum_size f ≤ count_below (committee_size f) heard → Heard Primary (λ p. is_some p.secondary ≡ true) heard
      → RecoversTo digest f id shard Primary old payloads word new → IsDecidedBy word
  primary_recovers old new NoMetadata heard enough helped r =
      let own = someone Primary (λ p. is_some p.secondary ≡ true) heard (omega (arith, enough)) helped (λ s p there sound. beside digest f s id.0 p Secondary sound there) in
      absurd (r.0 own.0 (inl own.1) own.2)
  primary_recovers old new (Short have need) heard enough helped r = absurd (few_openings old r.0 have heard enough helped r.1 r.2)
  primary_recovers old new Proof heard enough helped r = absurd (few_openings old r.0 r.2 heard enough helped r.1 r.3)
  primary_recovers old new word heard enough helped r = grind arith
