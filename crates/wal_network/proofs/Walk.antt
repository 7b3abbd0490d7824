-- Along a ledger's prefixes: what stays open, and what is held.
use Rattle.wal_network.proofs.Common.{◌≡◌, take, ℕ, zero, suc, ◌≤◌, ◌<◌, ◌+◌, ◌⊎◌, inl, inr, List, true, false, cond, sym, refl, ap, subst, arith, ⊎_elim, ◌∙◌, cases_lt, BlobId, Kind, Log, Body, Contents, parts_at, backs, settled, reading, writing, is_live, is_moving, signers, until_of, entered, MustHold, committee_size, among, Rules, Laws, retained, begun, finished, claim_enters, register_enters, ready_enters, Enters, orderly_new, Holds, Denies, Parts, no_parts, empty_map, Bool}
use Rattle.wal_ledger.specs.declared.entry.Entry.{Entry}
use Rattle.std.proofs.lemmas.Bool.{ne_eqb, lt-ltb, ltb-true}
use Rattle.wal_ledger.specs.Orderly.{IsOrderly}
use Rattle.wal_ledger.proofs.HandoverEntries.{owned, until_kept}
use Rattle.wal_network.specs.Network.{Network, log_at, comes_with, leaves_with, applied, is_moved, Lands, IsHistory, IsThere, serves, writes, Vouched, WasReady, Spares}
use Rattle.wal_network.specs.Promised.{holds_after}
use Rattle.wal_network.proofs.Keeping.{Leaves, each_leaves, acts_first}

pub flag : (b : Bool) → (b ≡ true) ⊎ (b ≡ false)
flag true = inl refl
flag false = inr refl

-- what is signed in the writing epoch outlasts it
abbrev pub Opens : Log → Type 0
Opens log = (id : BlobId) (kind : Kind) (s : ℕ) → is_live log id ≡ true → signers log id kind (writing log) s ≡ true → writing log < until_of log id

-- what an entry that counts makes of the ledger
pub record Turned (old new : Log) : Type 0 where
  pub orderly : IsOrderly new
  pub up : writing old ≤ writing new
  pub reads_up : reading old ≤ reading new
  pub musts : (id : BlobId) → writing new ≡ writing old → MustHold new id → MustHold old id
  pub opens : Opens old → Opens new

-- a live blob's `until` does not fall
pub until_up : (log : Log) (b : Body) (id : BlobId) → reading log < until_of log id → until_of log id ≤ until_of (entered log b) id
until_up log b id lt = until_kept log b id _ lt (owned log b id)

plain_turns : (log : Log) (b : Body) (Signs : BlobId → Kind → ℕ → Type 0) (IsReady : ℕ → Type 0) → Enters log (entered log b) Signs IsReady
    → ((id : BlobId) (kind : Kind) (s : ℕ) → Signs id kind s → writing log < until_of log id) → Turned log (entered log b)
plain_turns log b Signs IsReady e outlasts = record {
  orderly = e.orderly;
  up = omega (arith, e.stays.writing);
  reads_up = omega (arith, e.stays.reading);
  musts = λ i same must. e.musts i must;
  opens = λ was id kind s live signed.
      let (lived, by) = e.signs id kind (writing (entered log b)) s live signed in
      let before : writing log < until_of log id =
      ⊎_elim (λ h. was id kind s lived (subst (λ (n : ℕ). signers log id kind n s ≡ true) e.stays.writing h)) (λ now. outlasts id kind s now.1) by in
      omega (arith, before, e.stays.writing, until_up log b id (ltb-true (reading log) (until_of log id) lived));
}

-- each entry that counts does so
turned : (network : Network) (at : ℕ) (b : Body) → IsOrderly (log_at network at) → Lands network at b → Turned (log_at network at) (entered (log_at network at) b)
turned network at (Body.Register id until) orderly lands = plain_turns _ (Body.Register id until) _ _ (register_enters (log_at network at) id until orderly lands.0) (λ i kind s h. absurd h)
turned network at (Body.Ack s id) orderly lands =
    plain_turns _ (Body.Ack s id) _ _ (claim_enters (log_at network at) Holds s id orderly) (λ i kind t h. rw h.0 lands.counts.open_to_claims.outlasts)
turned network at (Body.Attest s id) orderly lands =
    plain_turns _ (Body.Attest s id) _ _ (claim_enters (log_at network at) Denies s id orderly) (λ i kind t h. rw h.0 lands.counts.open_to_claims.outlasts)
turned network at (Body.Ready s) orderly lands = plain_turns _ (Body.Ready s) _ _ (ready_enters (log_at network at) s orderly) (λ i kind t h. absurd h)
turned network at (Body.Begin owners) orderly lands =
    let e = begun (log_at network at) owners orderly lands.0 in
    let still = ap {B = ℕ} (λ m. cond m 1 0) lands.0 in
    record {
      orderly = e.orderly;
      reads_up = omega (arith, e.same_epoch);
      up = omega (arith, e.next_epoch, still);
      musts = λ i same must. absurd (omega (arith, e.next_epoch, same, still));
      opens = λ was id kind s live signed. absurd (omega (arith, e.next_epoch, (e.signs id kind _ s signed).0));
    }
turned network at Body.Finish orderly lands =
    let e = finished (log_at network at) orderly lands.0 in
    record {
      orderly = e.orderly;
      up = omega (arith, e.written_now);
      reads_up = omega (arith, e.read_now);
      musts = λ i same must. absurd (omega (arith, ap {B = ℕ} (λ m. cond m 1 0) (sym must.moving ∙ e.serves)));
      opens = λ was id kind s live signed. omega (arith, (e.live id live).1, e.written_now, e.until id);
    }

-- what holds at a place and is kept by each step holds up to another one
pub along : (P : ℕ → Type 0) (from to : ℕ) → P from → ((at : ℕ) → from ≤ at → at < to → P at → P (suc at)) → (here : ℕ) → from ≤ here → here ≤ to → P here
along P from to start step zero le most = subst P (omega (arith, le)) start
along P from to start step (suc here) le most =
    ⊎_elim
    (λ lt. step here (omega (arith, lt)) (omega (arith, most)) (along P from to start step here (omega (arith, lt)) (omega (arith, most))))
    (λ past. subst P (omega (arith, le, past)) start)
    (cases_lt from (suc here))

pub bounds : (log : Log) (e : ℕ) → IsThere log e → (reading log ≤ e) × (e ≤ writing log)
bounds log _ serves = (omega arith, omega arith)
bounds log _ writes = (omega arith, omega arith)

pub there_of : (log : Log) (e : ℕ) → reading log ≤ e → e ≤ writing log → IsThere log e
there_of log e low high =
    ⊎_elim (λ lt. subst (IsThere log) (omega (arith, lt, high, omega_flag (is_moving log))) writes) (λ le. subst (IsThere log) (omega (arith, low, le)) serves) (cases_lt (reading log) e)
  where
    omega_flag : (b : Bool) → cond b 1 0 ≤ 1
    omega_flag true = omega arith
    omega_flag false = omega arith

-- a proof is never let go, and slivers are kept of what is spared
claim_kept : {r : Rules} {s : ℕ} (kind : Kind) (id : BlobId) (old new : Contents) (Spared : BlobId → Type 0) → Leaves r s old new Spared → (kind ≡ Holds → Spared id)
    → backs kind (parts_at old id) ≡ true → backs kind (parts_at new id) ≡ true
claim_kept Holds id old new Spared leaves spared = leaves.holds_still id (spared refl)
claim_kept Denies id old new Spared leaves spared = (leaves.firmer id).by_proof

module _ (r : Rules) (laws : Laws r) (network : Network) (size : ℕ) (history : IsHistory r network size) where
  pub orderly_at : (at : ℕ) → at ≤ size → IsOrderly (log_at network at)
  orderly_at zero le =
      subst IsOrderly (ap (λ (xs : List Entry). record network.start { entries = xs }) (sym history.starts)) (orderly_new network.start.f network.start.first network.start.owners)
  orderly_at (suc at) le = (turned network at (network.body at) (orderly_at at (omega (arith, le))) (history.lands at (omega (arith, le)))).orderly

  pub turn_at : (at : ℕ) → at < size → Turned (log_at network at) (log_at network (suc at))
  turn_at at lt = turned network at (network.body at) (orderly_at at (omega (arith, lt))) (history.lands at lt)

  pub opens_at : (at : ℕ) → at ≤ size → Opens (log_at network at)
  opens_at zero le =
      subst Opens (ap (λ (xs : List Entry). record network.start { entries = xs }) (sym history.starts)) (λ id kind s live signed. let f : false ≡ true = signed in absurd cc)
  opens_at (suc at) le = (turn_at at (omega (arith, le))).opens (opens_at at (omega (arith, le)))

  -- the epochs do not fall
  pub up : (from to : ℕ) → from ≤ to → to ≤ size → (reading (log_at network from) ≤ reading (log_at network to)) × (writing (log_at network from) ≤ writing (log_at network to))
  up from to le most =
      along (λ at. (reading (log_at network from) ≤ reading (log_at network at)) × (writing (log_at network from) ≤ writing (log_at network at))) from to (omega arith, omega arith)
      (λ at after before h. let t = turn_at at (omega (arith, before, most)) in (omega (arith, h.0, t.reads_up), omega (arith, h.1, t.up))) to le (omega arith)

  pub f_at : (at : ℕ) → (log_at network at).f ≡ r.f
  f_at zero = history.sized
  f_at (suc at) = f_at at

  -- a committee that is there at two prefixes is there between them
  pub between : (from at to e : ℕ) → from ≤ at → at ≤ to → to ≤ size → IsThere (log_at network from) e → IsThere (log_at network to) e → IsThere (log_at network at) e
  between from at to e after before most first last =
      there_of (log_at network at) e (omega (arith, (bounds (log_at network to) e last).0, (up at to before most).0))
      (omega (arith, (bounds (log_at network from) e first).1, (up from at after (omega (arith, before, most))).1))

  -- an entry leaves what a shard of such a committee holds of a blob that is live then
  over : (at e s : ℕ) (id : BlobId) (b : Body) → e ≤ writing (log_at network at) → is_live (log_at network (suc at)) id ≡ true
      → parts_at (applied network at b (leaves_with network at) e s) id ≡ parts_at (leaves_with network at e s) id
  over at e s id (Body.Begin owners) same live =
      ap {B = Parts}
      (λ t. parts_at
      (cond t (cond (is_moved network at owners s) (leaves_with network at (writing (log_at network at)) s) empty_map)
      (leaves_with network at e s)) id)
      (ne_eqb e (writing (log_at network at) + 1) (λ eq. omega (arith, eq, same)))
  over at e s id Body.Finish same live =
      retained (leaves_with network at e s) (is_live (log_at network (suc at))) id
      ∙ ap (λ t. cond t (parts_at (leaves_with network at e s) id) no_parts) live
  over at e s id b same live = refl

  -- what the first deeds of a correct shard at a prefix leave, and what all of them do
  pub leaves_first : (at k e s : ℕ) → at ≤ size → IsThere (log_at network at) e → s < committee_size r.f → among (network.faulty e) s ≡ false
      → Leaves r s (comes_with network at e s) (holds_after network at k e s) (λ id. Spares s id (take k (network.deeds at e s)))
  leaves_first at k e s most there lt correct =
      each_leaves r laws (log_at network at) s (comes_with network at e s) (take k (network.deeds at e s))
      (acts_first r laws (log_at network at) s (comes_with network at e s) (network.deeds at e s) k (history.acts at e s most there lt correct))

  pub leaves_at : (at e s : ℕ) → at ≤ size → IsThere (log_at network at) e → s < committee_size r.f → among (network.faulty e) s ≡ false
      → Leaves r s (comes_with network at e s) (leaves_with network at e s) (λ id. Spares s id (network.deeds at e s))
  leaves_at at e s most there lt correct =
      each_leaves r laws (log_at network at) s (comes_with network at e s) (network.deeds at e s) (history.acts at e s most there lt correct)

  -- an entry leaves what a shard of a committee that stays there holds of a blob that outlasts its epoch
  onward : (T : Parts → Bool) (at e s : ℕ) (id : BlobId) → at < size → IsThere (log_at network at) e → IsThere (log_at network (suc at)) e → e < until_of (log_at network at) id
      → T (parts_at (leaves_with network at e s) id) ≡ true → (e < until_of (log_at network (suc at)) id) × (T (parts_at (comes_with network (suc at) e s) id) ≡ true)
  onward T at e s id before here there outlasts h =
      let still : e < until_of (log_at network (suc at)) id = omega (arith, outlasts, until_up (log_at network at) (network.body at) id (omega (arith, (bounds (log_at network at) e here).0, outlasts))) in
      let live : is_live (log_at network (suc at)) id ≡ true =
      lt-ltb (reading (log_at network (suc at))) (until_of (log_at network (suc at)) id) (omega (arith, still, (bounds (log_at network (suc at)) e there).0)) in
      (still, ap T (over at e s id (network.body at) (bounds (log_at network at) e here).1 live) ∙ h)

  -- what holds of what a shard holds of a blob that outlasts its epoch, and is left by its deeds, holds while its committee is there
  walk : (T : Parts → Bool) (from to e s : ℕ) (id : BlobId) → from ≤ to → to ≤ size → IsThere (log_at network from) e → IsThere (log_at network to) e
      → e < until_of (log_at network from) id → T (parts_at (leaves_with network from e s) id) ≡ true
      → ((at : ℕ) → from < at → at ≤ to → IsThere (log_at network at) e → T (parts_at (comes_with network at e s) id) ≡ true → T (parts_at (leaves_with network at e s) id) ≡ true)
      → T (parts_at (leaves_with network to e s) id) ≡ true
  walk T from to e s id le most first last outlasts holds keep =
      (along (λ at. (e < until_of (log_at network at) id) × (T (parts_at (leaves_with network at e s) id) ≡ true)) from to (outlasts, holds) step to le (omega arith)).1
    where
      step : (at : ℕ) → from ≤ at → at < to → (e < until_of (log_at network at) id) × (T (parts_at (leaves_with network at e s) id) ≡ true)
          → (e < until_of (log_at network (suc at)) id) × (T (parts_at (leaves_with network (suc at) e s) id) ≡ true)
      step at after before h =
          let there = between from (suc at) to e (omega (arith, after)) before most first last in
          let on = onward T at e s id (omega (arith, before, most)) (between from at to e after (omega (arith, before)) most first last) there h.0 h.1 in
          (on.0, keep (suc at) (omega (arith, after)) before there on.1)

  -- WHAT SETTLED STILL SETTLES while the committee is there, if the blob outlasts its epoch
  pub stays_settled : (from to e s : ℕ) (id : BlobId) → from ≤ to → to ≤ size → IsThere (log_at network from) e → IsThere (log_at network to) e
      → s < committee_size r.f → among (network.faulty e) s ≡ false → e < until_of (log_at network from) id
      → settled (parts_at (leaves_with network from e s) id) ≡ true → settled (parts_at (leaves_with network to e s) id) ≡ true
  stays_settled from to e s id le most first last lt correct outlasts holds =
      walk settled from to e s id le most first last outlasts holds
      (λ at after before there h. ((leaves_at at e s (omega (arith, before, most)) there lt correct).firmer id).settles h)

  -- from as soon as a prefix was applied to any later moment
  pub settled_later : (from to k e s : ℕ) (id : BlobId) → from ≤ to → to ≤ size → IsThere (log_at network from) e → IsThere (log_at network to) e
      → s < committee_size r.f → among (network.faulty e) s ≡ false → e < until_of (log_at network from) id
      → settled (parts_at (comes_with network from e s) id) ≡ true → settled (parts_at (holds_after network to k e s) id) ≡ true
  settled_later from to k e s id le most first last lt correct outlasts holds =
      ((leaves_first to k e s most last lt correct).firmer id).settles (by to le most last)
    where
      by : (to : ℕ) → from ≤ to → to ≤ size → IsThere (log_at network to) e → settled (parts_at (comes_with network to e s) id) ≡ true
      by to le most last =
          (along (λ at. (e < until_of (log_at network at) id) × (settled (parts_at (comes_with network at e s) id) ≡ true)) from to (outlasts, holds)
          (λ at after before h.
          let there = between from at to e after (omega (arith, before)) most first last in
          onward settled at e s id (omega (arith, before, most)) there (between from (suc at) to e (omega (arith, after)) before most first last) h.0
          (((leaves_at at e s (omega (arith, before, most)) there lt correct).firmer id).settles h.1)) to le (omega arith)).1

  -- THE CLAIM IS STILL BACKED where it lands
  pub still_backed : (to s : ℕ) (kind : Kind) (id : BlobId) → to ≤ size → s < committee_size r.f → among (network.faulty (writing (log_at network to))) s ≡ false
      → Vouched network to kind id s → backs kind (parts_at (leaves_with network to (writing (log_at network to)) s) id) ≡ true
  still_backed to s kind id most lt correct v =
      walk (backs kind) v.from to (writing (log_at network to)) s id v.earlier most (subst (IsThere (log_at network v.from)) v.one_epoch writes) writes
      (omega (arith, v.one_epoch, v.was_open.outlasts)) v.held
      (λ at after before there. claim_kept kind id _ _ _ (leaves_at at _ s (omega (arith, before, most)) there lt correct) (λ holds. v.spared holds at after before))

  -- what must be held where readiness lands had to be held before, in the same writing epoch
  musts_before : (from to : ℕ) (id : BlobId) → from ≤ to → to ≤ size → writing (log_at network from) ≡ writing (log_at network to)
      → MustHold (log_at network to) id → MustHold (log_at network from) id
  musts_before from to id le most same =
      along (λ at. MustHold (log_at network at) id → MustHold (log_at network from) id) from to (λ h. h)
      (λ at after before h must.
      h ((turn_at at (omega (arith, before, most))).musts id
      (omega (arith, same, (up from at after (omega (arith, before, most))).1, (up at (suc at) (omega arith) (omega (arith, before, most))).1, (up (suc at) to before most).1)) must))
      to le (omega arith)

  -- A READY SHARD IS STILL SETTLED for all that must be held where its entry lands
  pub still_ready : (to s : ℕ) → to ≤ size → s < committee_size r.f → among (network.faulty (writing (log_at network to))) s ≡ false
      → WasReady network to s → (id : BlobId) → MustHold (log_at network to) id
      → settled (parts_at (leaves_with network to (writing (log_at network to)) s) id) ≡ true
  still_ready to s most lt correct v id must =
      let was = musts_before v.from to id v.earlier most v.one_epoch must in
      stays_settled v.from to (writing (log_at network to)) s id v.earlier most (subst (IsThere (log_at network v.from)) v.one_epoch writes) writes lt correct
      (omega (arith, v.one_epoch, was.outlasts)) (v.settles id was)
