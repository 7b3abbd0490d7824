-- What each kind of entry does to a ledger: who is live, who signed what, what must be held and who is ready.
use Rattle.wal_ledger.proofs.Common.{◌≡◌, ℕ, ◌+◌, ◌<◌, ◌≤◌, List, [], ◌∷◌, ◌++◌, length, true, false, cond, ◌&&◌, nat_lt, ◌⊎◌, inl, inr, refl, sym, ap, ◌∙◌, subst, arith, ltb-true, lt-ltb, both_ways, false≢true, BlobId, Next, Entry, Body, Register, Ready, Kind, Holds, Denies, Log, Phase, reading, writing, is_moving, owners_at, owners_of, cut, names, is_register, own_entries, until_of, is_live, same_node, is_signer_among, signers, IsCertified, MustHold, readies, ready_shards, entered, until_among, MayRegister, is_moving_extension, claim_of, IsOrderly, IsOfCommittee, with_registered, History, history_after, id_eq}
use Rattle.wal_ledger.proofs.RowsPlace.{id_same}
use Rattle.wal_ledger.proofs.TallyLaws.{signs_register}
use Rattle.wal_ledger.proofs.HandoverEntries.{is_plain, StaysAs, plain_stays, phase_plain, Owned, owned, until_same, until_kept, own_all_entered, SignedBefore, SignsNow, signed_cases, signs_claim_for, ready_plain}

-- a ledger after entries that leave the epoch as it is: what is signed was signed before or is signed by them in the writing epoch;
-- what must be held had to be before; and who is ready was so before or is so by them
pub record Enters (old new : Log) (Signs : BlobId → Kind → ℕ → Type 0) (IsReady : ℕ → Type 0) : Type 0 where
  pub stays : StaysAs old new
  pub signs : (id : BlobId) (kind : Kind) (e s : ℕ) → is_live new id ≡ true → signers new id kind e s ≡ true
      → (is_live old id ≡ true) × ((signers old id kind e s ≡ true) ⊎ ((e ≡ writing old) × Signs id kind s))
  pub musts : (id : BlobId) → MustHold new id → MustHold old id
  pub ready : (s : ℕ) → ready_shards new s ≡ true → (ready_shards old s ≡ true) ⊎ IsReady s
  pub orderly : IsOrderly new
  -- and what had to be held still must be
  pub musts_stay : (id : BlobId) → MustHold old id → MustHold new id

-- the parts of `Enters` that have to be shown for one entry
record Entry_facts (log : Log) (b : Body) (Signs : BlobId → Kind → ℕ → Type 0) (IsReady : ℕ → Type 0) : Type 0 where
  pub plain : is_plain b ≡ true
  pub lives : (id : BlobId) → is_live log id ≡ true → is_live (entered log b) id ≡ true
  pub signs : (id : BlobId) (kind : Kind) (e s : ℕ) → is_live (entered log b) id ≡ true → signers (entered log b) id kind e s ≡ true
      → (is_live log id ≡ true) × ((signers log id kind e s ≡ true) ⊎ ((e ≡ writing log) × Signs id kind s))
  pub outlasts : is_moving log ≡ true → (id : BlobId) → is_live log id ≡ true → writing log < until_of (entered log b) id → writing log < until_of log id
  pub ready : (s : ℕ) → readies (owners_of Next log) s b ≡ true → IsReady s

enters : (log : Log) (b : Body) (Signs : BlobId → Kind → ℕ → Type 0) (IsReady : ℕ → Type 0) → IsOrderly log → Entry_facts log b Signs IsReady → Enters log (entered log b) Signs IsReady
enters log b Signs IsReady orderly facts =
    let stays = plain_stays log b facts.plain in
    let whole = phase_plain log b facts.plain in record {
      stays = stays;
      signs = facts.signs;
      musts = λ id must.
          let moving : is_moving log ≡ true = sym stays.moving ∙ must.moving in
          let certified : IsCertified (cut log) id = subst (λ (c : Log). IsCertified c id) stays.cut must.certified in
          let live : is_live log id ≡ true = orderly.lives moving id certified.live in
          let outlasts = facts.outlasts moving id live (omega (arith, stays.writing, must.outlasts)) in assumption;
      ready = λ s h. elim (ready_plain log b s facts.plain h) [ inl before ↦ inl before | inr now ↦ inr (facts.ready s now) ];
      orderly = record {
        turns = ap (λ (p : Phase). length p.brought) whole ∙ orderly.turns ∙ ap {B = ℕ} (λ (p : Phase). p.finishes + cond (nat_lt p.finishes (length p.brought)) 1 0) (sym whole);
        epochs = λ id k d lt. omega (arith, stays.writing, own_all_entered (λ (x : Entry). x.epoch ≤ writing log) log b id _ (orderly.epochs id) (omega arith) (owned log b id) k d lt);
        old = λ moving id kind e s live signed other.
            let was = facts.signs id kind e s live signed in
            elim was.1 [
              | inl before ↦
                  subst (λ (c : Log). (is_live c id ≡ true) × (signers c id kind e s ≡ true)) (sym stays.cut)
                  (orderly.old (sym stays.moving ∙ moving) id kind e s was.0 before (λ same. other (same ∙ sym stays.writing)))
              | inr now ↦ absurd (other (now.0 ∙ sym stays.writing))
            ];
        lives = λ moving id was. facts.lives id (orderly.lives (sym stays.moving ∙ moving) id (subst (λ (c : Log). is_live c id ≡ true) stays.cut was));
      };
      musts_stay = λ id must. record {
        moving = stays.moving ∙ must.moving;
        live = facts.lives id must.live;
        certified = subst (λ (c : Log). IsCertified c id) (sym stays.cut) must.certified;
        outlasts = omega (arith, stays.writing, must.outlasts, until_kept log b id _ (ltb-true (reading log) (until_of log id) must.live) (owned log b id));
      };
    }

-- entries that are no registration leave who is live
pub live_same : (log : Log) (b : Body) (id : BlobId) → is_plain b ≡ true → is_register b ≡ false → is_live (entered log b) id ≡ is_live log id
live_same log b id plain none = ap (λ (n : ℕ). nat_lt n (until_of (entered log b) id)) (plain_stays log b plain).reading ∙ ap (λ (n : ℕ). nat_lt (reading log) n) (until_same log b id _ none (owned log b id))

-- what was signed, after an entry that leaves the epoch as it is
signed_plain : (log : Log) (b : Body) (id : BlobId) (kind : Kind) (e s : ℕ) → is_plain b ≡ true → signers (entered log b) id kind e s ≡ true
    → SignedBefore log b id kind e s (owners_at log e) ⊎ SignsNow log b id kind e s (owners_at log e)
signed_plain log b id kind e s plain h =
    signed_cases log b id kind e s (owners_at log e) _ (subst (λ (o : List ℕ). is_signer_among o (own_entries (entered log b) id) kind e s ≡ true) ((plain_stays log b plain).owners e) h) (owned log b id)

-- a registration
pub register_enters : (log : Log) (id : BlobId) (until : ℕ) → IsOrderly log → MayRegister log id until → Enters log (entered log (Register id until)) (λ i kind s. ⊥) (λ s. ⊥)
register_enters log id until orderly may =
    let b : Body = Register id until in
    let new : Log = entered log b in
    let stays = plain_stays log b refl in
    enters log b (λ i kind s. ⊥) (λ s. ⊥) orderly (record {
      plain = refl;
      lives = λ i live.
          let old = ltb-true (reading log) (until_of log i) live in
          lt-ltb (reading new) (until_of new i) (omega (arith, old, stays.reading, until_kept log b i _ old (owned log b i)));
      signs = λ i kind e s live h. elim (signed_plain log b i kind e s refl h) [
        | inl before ↦
            let lt = still (reading log) i _ (omega (arith, ltb-true (reading new) (until_of new i) live, stays.reading)) (λ n. before.stands refl n) (owned log b i) in
            (lt-ltb (reading log) (until_of log i) lt, inl before.signed)
        | inr now ↦ absurd (both_ways _ (signs_register (owners_at log e) kind s id until) now.signed)
      ];
      -- while the epoch changes, what is live is not registered again
      outlasts = λ moving i live lt. still (writing log) i _ lt (λ n.
          let e : is_moving_extension log id ≡ true = ap (λ m. m && is_live log id) moving ∙ ap (is_live log) (id_same id i n) ∙ live in
          absurd (cc (e, may.allowed))) (owned log b i);
      ready = λ s h. cc;
    })
  where
    still : (m : ℕ) (i : BlobId) (l : List Entry) → m < until_among l → (names i (Register id until) ≡ true → m < until_of log i) → Owned log (Register id until) i l → m < until_of log i
    still m i l lt named (Owned.stays is n) = omega (arith, lt, ap until_among is)
    still m i l lt named (Owned.grows is n stands) = named n
    still m i l lt named (Owned.anew is n r le) = named n

-- the entry of a claim is plain, and registers nothing
pub claim_plain : (kind : Kind) (s : ℕ) (id : BlobId) → (is_plain (claim_of kind s id) ≡ true) × (is_register (claim_of kind s id) ≡ false)
claim_plain kind s id = grind arith

-- what a claim of either kind names, and leaves
pub record IsClaim (s : ℕ) (id : BlobId) (b : Body) : Type 0 where
  pub names_only : (i : BlobId) → names i b ≡ true → i ≡ id
  pub quiet : (owners : List ℕ) (t : ℕ) → readies owners t b ≡ false
  pub of : (n : ℕ) → s < n → IsOfCommittee n b
  pub ids : (l : List BlobId) → with_registered l b ≡ l
  pub own : (w : ℕ) (q : BlobId) (c : History) → let x : Entry = record { epoch = w; body = b } in
      (history_after q c x).own ≡ cond (id_eq id q) (c.own ++ x ∷ []) c.own

-- the entry that is made for a claim is one of this shard and identifier
pub is_claim : (kind : Kind) (s : ℕ) (id : BlobId) → IsClaim s id (claim_of kind s id)
is_claim Holds s id = let same = λ (i : BlobId) (h : id_eq id i ≡ true). sym (id_same id i h) in assumption
is_claim Denies s id = let same = λ (i : BlobId) (h : id_eq id i ≡ true). sym (id_same id i h) in assumption

-- the shards for which a shard's claim counts
abbrev pub ClaimsFor : Log → Kind → ℕ → BlobId → BlobId → Kind → ℕ → Type 0
ClaimsFor log kind s id i k t = (i ≡ id) × (k ≡ kind) × (same_node (owners_at log (writing log)) s t ≡ true)

-- an entry that is plain and no registration
unregistered_enters : (log : Log) (b : Body) (Signs : BlobId → Kind → ℕ → Type 0) (IsReady : ℕ → Type 0) → IsOrderly log → is_plain b ≡ true → is_register b ≡ false
    → ((i : BlobId) (k : Kind) (e t : ℕ) → SignsNow log b i k e t (owners_at log e) → Signs i k t)
    → ((t : ℕ) → readies (owners_of Next log) t b ≡ true → IsReady t) → Enters log (entered log b) Signs IsReady
unregistered_enters log b Signs IsReady orderly plain none signs ready = enters log b Signs IsReady orderly (record {
  plain = plain;
  lives = λ i live. live_same log b i plain none ∙ live;
  signs = λ i k e t live h.
      (sym (live_same log b i plain none) ∙ live, elim (signed_plain log b i k e t plain h) [ inl before ↦ inl before.signed | inr now ↦ inr (now.now, signs i k e t now) ]);
  outlasts = λ moving i live lt. omega (arith, lt, until_same log b i _ none (owned log b i));
  ready = ready;
})

-- an acknowledgement or an attestation
pub claim_enters : (log : Log) (kind : Kind) (s : ℕ) (id : BlobId) → IsOrderly log → Enters log (entered log (claim_of kind s id)) (ClaimsFor log kind s id) (λ t. ⊥)
claim_enters log kind s id orderly =
    unregistered_enters log (claim_of kind s id) (ClaimsFor log kind s id) (λ t. ⊥) orderly (claim_plain kind s id).0 (claim_plain kind s id).1
    (λ i k e t now. let claimed = signs_claim_for (owners_at log e) k kind s t id now.signed in
    let named = (is_claim kind s id).names_only i now.named in
    (named, claimed.0, subst (λ (n : ℕ). same_node (owners_at log n) s t ≡ true) now.now claimed.1))
    (λ t h. both_ways _ ((is_claim kind s id).quiet (owners_of Next log) t) h)

-- the readiness of a shard
pub ready_enters : (log : Log) (s : ℕ) → IsOrderly log → Enters log (entered log (Ready s)) (λ i kind t. ⊥) (λ t. same_node (owners_of Next log) s t ≡ true)
ready_enters log s orderly =
    unregistered_enters log (Ready s) (λ i kind t. ⊥) (λ t. same_node (owners_of Next log) s t ≡ true) orderly refl refl (λ i k e t now. false≢true now.named) (λ t h. h)
