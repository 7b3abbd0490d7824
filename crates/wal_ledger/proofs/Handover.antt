-- What a shard must hold while the epoch changes, told by what is known of an identifier now.
use Rattle.wal_ledger.proofs.Common.{◌≡◌, ◌≢◌, ℕ, ◌+◌, ◌<◌, ◌≤◌, max, List, [], ◌∷◌, ◌++◌, Bool, true, false, cond, nat_le, All, fold, ◌⊎◌, ◌↔◌, inl, inr, refl, sym, ap, ◌∙◌, subst, arith, append_assoc, cases_lt, ltb-true, lt-ltb, leb-true, and_parts, nat_tests, common_steps, append-nil, All-nil, All-cons, All-head, All-tail, All-push, fold_along, fold_push, fold-append, BlobId, Entry, Body, Kind, Holds, count_below, committee_size, quorum_size, Log, Phase, History, phase, phase_in, phase_after, reading, writing, is_moving, cut, owners_at, names, is_register, is_finish, until_in, until_among, is_fresh, history_after, history_of, own_entries, until_of, is_signer_among, signer_count, MustHold, count_among, IsLawful, IsMadeIn, IsDated}
use Rattle.wal_ledger.proofs.Quorums.{signers_outside, count_among-outside, owners_cut}
use Rattle.wal_ledger.proofs.TallyLaws.{count_below-same}
use Rattle.wal_ledger.proofs.Entering.{phase_whole, own_all}

-- the `until` of one more entry
pub until_push : (own : List Entry) (x : Entry) → until_among (own ++ x ∷ []) ≡ max (until_among own) (until_in x.body)
until_push own x = fold_push (λ (most : ℕ) (y : Entry). max most (until_in y.body)) 0 own x

-- is the same for what is no registration
pub until_plain : (b : Body) → is_register b ≡ false → until_in b ≡ 0
until_plain b h = grind arith

-- and never less
until_from : (most : ℕ) (more : List Entry) → most ≤ fold (λ (n : ℕ) (y : Entry). max n (until_in y.body)) most more
until_from most [] = omega arith
until_from most (x ∷ more) = omega (arith, until_from (max most (until_in x.body)) more)

pub until_grows : (own more : List Entry) → until_among own ≤ until_among (own ++ more)
until_grows own more = subst (λ (n : ℕ). until_among own ≤ n) (sym (fold-append (λ (n : ℕ) (y : Entry). max n (until_in y.body)) 0 own more)) (until_from (until_among own) more)

-- an identifier's history is in the ledger's reading epoch
phase_after-finishes : (b : Body) (x : Entry) (p : Phase) → (phase_after b x p).finishes ≡ p.finishes + cond (is_finish b) 1 0
phase_after-finishes b x p = grind arith

pub history_of-epoch : (first : ℕ) (xs : List Entry) (id : BlobId) → (history_of first xs id).epoch ≡ first + (phase_in xs).finishes
history_of-epoch first xs id =
    fold_along (history_after id) (λ (p : Phase) (x : Entry). phase_after x.body x p) (λ c p. c.epoch ≡ first + p.finishes)
    (λ c p x h. omega (arith, h, phase_after-finishes x.body x p)) _ _ xs (omega arith)

-- which never falls
pub epoch_grows : (id : BlobId) (c : History) (xs : List Entry) → c.epoch ≤ (fold (history_after id) c xs).epoch
epoch_grows id c [] = omega arith
epoch_grows id c (x ∷ xs) = omega (arith, epoch_grows id (history_after id c x) xs)

-- own entries that grew, by entries of the writing epoch, and did not come back to life
pub record Grown (w r : ℕ) (old own : List Entry) : Type 0 where
  pub more : List Entry
  pub is : own ≡ old ++ more
  pub made : All (λ x. x.epoch ≡ w) more
  pub stays : until_among old ≤ r → until_among own ≤ r

-- own entries that began anew in the writing epoch, since the old ones were not live
pub record Anew (w r : ℕ) (old own : List Entry) : Type 0 where
  pub expired : until_among old ≤ r
  pub made : All (λ x. x.epoch ≡ w) own

-- own entries grew, or began anew
abbrev pub Carried : ℕ → ℕ → List Entry → List Entry → Type 0
Carried w r old own = Grown w r old own ⊎ Anew w r old own

carried_step : (w r : ℕ) (old own : List Entry) (x : Entry) (named fresh : Bool) → Carried w r old own → (named ≡ true → x.epoch ≡ w)
    → (fresh ≡ true → until_among own ≤ r) → (fresh ≡ false → until_among own ≤ r → until_in x.body ≡ 0)
    → Carried w r old (cond named (cond fresh (x ∷ []) (own ++ x ∷ [])) own)
carried_step w r old own x false fresh carried made expired plain = carried
carried_step w r old own x true true carried made expired plain = inr (record {
  expired = elim carried [ inl g ↦ omega (arith, expired refl, until_grows old g.more, ap until_among g.is) | inr a ↦ a.expired ];
  made = All-cons (λ (y : Entry). y.epoch ≡ w) x [] (made refl) (All-nil (λ (y : Entry). y.epoch ≡ w));
})
carried_step w r old own x true false (inl g) made expired plain = inl (record {
  more = g.more ++ x ∷ [];
  is = ap (λ (l : List Entry). l ++ x ∷ []) g.is ∙ append_assoc old g.more (x ∷ []);
  made = All-push (λ (y : Entry). y.epoch ≡ w) g.more x g.made (made refl);
  stays = λ le. let still = g.stays le in omega (arith, still, plain refl still, until_push own x);
})
carried_step w r old own x true false (inr a) made expired plain = inr (record {
  expired = a.expired;
  made = All-push (λ (y : Entry). y.epoch ≡ w) own x a.made (made refl);
})

carried_from : (w r : ℕ) (id : BlobId) (old : List Entry) (c : History) (xs : List Entry) → Carried w r old c.own → c.epoch ≡ r → (fold (history_after id) c xs).epoch ≡ r
    → All (IsMadeIn w) xs → Carried w r old (fold (history_after id) c xs).own
carried_from w r id old c [] carried at last made = carried
carried_from w r id old c (x ∷ xs) carried at last made =
    carried_from w r id old (history_after id c x) xs
    (carried_step w r old c.own x (names id x.body) (is_fresh c x.body) carried (All-head (IsMadeIn w) x xs made id) (λ fresh. omega (arith, at, leb-true (until_among c.own) c.epoch (and_parts (is_register x.body) (nat_le (until_among c.own) c.epoch) fresh).1)) (λ stale le. until_plain x.body (grind (arith, nat_tests))))
    (omega (arith, at, last, epoch_grows id (history_after id c x) xs))
    last
    (All-tail (IsMadeIn w) x xs made)

-- what an identifier's own entries before the last Begin have become
pub carried : (log : Log) (id : BlobId) → IsLawful log → IsDated log → is_moving log ≡ true → Carried (writing log) (reading log) (own_entries (cut log) id) (own_entries log id)
carried log id lawful dated moving =
    let before = (phase log).before in
    let since = (phase log).since in
    let c = history_of log.first before id in
    let whole : fold (history_after id) c since ≡ history_of log.first log.entries id =
    sym (fold-append (history_after id) (record { epoch = log.first; own = [] }) before since) ∙ ap (λ (l : List Entry). history_of log.first l id) (phase_whole log.entries) in
    let at : c.epoch ≡ reading log = history_of-epoch log.first before id ∙ ap (λ (n : ℕ). log.first + n) (lawful.paused moving) in
    let last : (fold (history_after id) c since).epoch ≡ reading log = ap (λ (d : History). d.epoch) whole ∙ history_of-epoch log.first log.entries id in
    let start : Carried (writing log) (reading log) c.own c.own = inl (record { more = []; is = sym (append-nil c.own); made = All-nil (λ (y : Entry). y.epoch ≡ writing log); stays = λ le. le }) in
    subst (λ (d : History). Carried (writing log) (reading log) c.own d.own) whole (carried_from (writing log) (reading log) id c.own c since start at last dated.later)

-- entries of another epoch count for nothing in this one
pub count_among-grown : (f : ℕ) (owners : ℕ → List ℕ) (old more : List Entry) (kind : Kind) (w e : ℕ) → All (λ x. x.epoch ≡ w) more → e ≢ w → count_among f owners (old ++ more) kind e ≡ count_among f owners old kind e
count_among-grown f owners old more kind w e made ne =
    count_below-same (committee_size f) _ _ (λ s lt. grind (arith, common_steps, signers_outside (owners e) more kind e s (λ k d in' at. ne (sym at ∙ made k d in'))))

-- a quorum of an epoch before the writing one was reached before the last Begin, by a registration that still stands
abbrev pub HoldsOn : Log → BlobId → Type 0
HoldsOn log id = (writing log < until_of log id) × ((e : ℕ) × ((e < writing log) × (quorum_size log.f ≤ signer_count log id Holds e)))

module _ (log : Log) (id : BlobId) (lawful : IsLawful log) (dated : IsDated log) (moving : is_moving log ≡ true) where
  next : writing log ≡ reading log + 1
  next = omega (arith, ap {B = ℕ} (λ b. cond b 1 0) moving)

  same_reading : reading (cut log) ≡ reading log
  same_reading = ap (λ (n : ℕ). log.first + n) (lawful.paused moving)

  old_quorum : (e : ℕ) → quorum_size log.f ≤ signer_count (cut log) id Holds e → e ≤ reading log
  old_quorum e quorum = elim (cases_lt (reading log) e) [
    | inl far ↦
        let within = own_all (λ (x : Entry). x.epoch ≤ reading log) log.first id (phase log).before (own_entries (cut log) id) refl dated.earlier in
        absurd (omega (arith, quorum, count_among-outside log.f (owners_at (cut log)) (own_entries (cut log) id) Holds e (λ k d lt same. omega (arith, within k d lt))))
    | inr le ↦ le
  ]

  -- by the owners of an epoch up to the reading one the ledger that was cut counts as the whole does
  count_cut : (e : ℕ) → e ≤ reading log → count_among log.f (owners_at log) (own_entries (cut log) id) Holds e ≡ signer_count (cut log) id Holds e
  count_cut e le = ap (λ (o : List ℕ). count_below (committee_size log.f) (is_signer_among o (own_entries (cut log) id) Holds e)) (sym (owners_cut log e lawful moving le))

  to_now : MustHold log id → Carried (writing log) (reading log) (own_entries (cut log) id) (own_entries log id) → HoldsOn log id
  to_now must (inr a) = absurd (omega (arith, a.expired, same_reading, ltb-true (reading (cut log)) (until_of (cut log) id) must.certified.live))
  to_now must (inl g) =
      let e = must.certified.quorum.0 in
      let le : e ≤ reading log = old_quorum e must.certified.quorum.1 in
      let past : e < writing log = omega (arith, next, le) in
      let count = count_among-grown log.f (owners_at log) (own_entries (cut log) id) g.more Holds (writing log) e g.made (λ h. omega arith) in
      (must.outlasts, (e, (past, subst (λ (l : List Entry). quorum_size log.f ≤ count_among log.f (owners_at log) l Holds e) (sym g.is) (omega (arith, count, count_cut e le, must.certified.quorum.1)))))

  from_now : HoldsOn log id → Carried (writing log) (reading log) (own_entries (cut log) id) (own_entries log id) → MustHold log id
  from_now now (inr a) = absurd (omega (arith, now.1.1.1, count_among-outside log.f (owners_at log) (own_entries log id) Holds now.1.0 (λ k d lt same. omega (arith, a.made k d lt, now.1.1.0))))
  from_now now (inl g) =
      let e = now.1.0 in
      let le : e ≤ reading log = omega (arith, next, now.1.1.0) in
      let count = count_among-grown log.f (owners_at log) (own_entries (cut log) id) g.more Holds (writing log) e g.made (λ h. omega (arith, now.1.1.0)) in
      let quorum : quorum_size log.f ≤ signer_count (cut log) id Holds e = omega (arith, count, count_cut e le, subst (λ (l : List Entry). quorum_size log.f ≤ count_among log.f (owners_at log) l Holds e) g.is now.1.1.1) in
      record {
        moving = moving;
        live = lt-ltb (reading log) (until_of log id) (omega (arith, next, now.0));
        certified = record {
          live = lt-ltb (reading (cut log)) (until_of (cut log) id) (grind (arith, same_reading, g.stays, next, now.0));
          quorum = (e, quorum);
        };
        outlasts = now.0;
      }

  -- what must be held, told by what is known of an identifier now
  pub must_hold_now : MustHold log id ↔ HoldsOn log id
  must_hold_now = (λ must. to_now must (carried log id lawful dated moving), λ now. from_now now (carried log id lawful dated moving))
