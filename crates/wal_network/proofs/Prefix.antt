-- All that is done at one prefix, and one entry, as a run of the world.
use Rattle.wal_network.proofs.Common.{◌≡◌, ℕ, zero, suc, ◌≤◌, ◌<◌, length, true, false, cond, sym, refl, ap, subst, arith, ⊎_elim, ◌⊎◌, inl, inr, ◌∙◌, cases_lt, Side, Now, Next, Log, Contents, Committee, World, side_of, with_side, is_present, contents_of, epoch_of, Rules, Laws, among, committee_size, reading, writing, is_moving, true≢false}
use Rattle.wal_network.specs.Network.{Network, log_at, comes_with, leaves_with, IsHistory, IsThere, writes, serves}
use Rattle.wal_network.specs.Deeds.{last_held, ActsEach}
use Rattle.wal_network.specs.AsRun.{Told, side_told, prefix_told, StandsFor, IsShownBy}
use Rattle.wal_network.proofs.Leading.{Way, Changed, shard_leads}
use Rattle.wal_network.proofs.Walk.{f_at, flag}

-- a committee of which the shards below k did all that they do at this prefix
record Half (network : Network) (at e : ℕ) (old new : Committee) (k : ℕ) : Type 0 where
  pub faulty : new.faulty ≡ old.faulty
  pub size : length new.shards ≡ length old.shards
  pub did : (s : ℕ) → s < k → s < length old.shards → among old.faulty s ≡ false → contents_of new s ≡ leaves_with network at e s
  pub left : (s : ℕ) → k ≤ s → contents_of new s ≡ contents_of old s

half_more : (network : Network) (at e k : ℕ) (old new then : Committee) (m : Contents) → Half network at e old new k → Changed new then k m → (among old.faulty k ≡ false → m ≡ leaves_with network at e k) → Half network at e old then (suc k)
half_more network at e k old new then m half changed did = record {
  faulty = changed.faulty ∙ half.faulty;
  size = changed.size ∙ half.size;
  did = λ s lt inside correct.
      ⊎_elim (λ before. changed.others s (λ same. omega (arith, same, before)) ∙ half.did s before inside correct)
      (λ past. let same : s ≡ k = omega (arith, lt, past) in rw same (changed.here ∙ did (rw same at correct)))
      (cases_lt s k);
  left = λ s past. changed.others s (λ same. omega (arith, same, past)) ∙ half.left s (omega (arith, past));
}

half_leads : (r : Rules) (laws : Laws r) (first w : World) (side : Side) (network : Network) (at e : ℕ) (c : Committee) (told : Told) → Way r first told (with_side side w c) → c.faulty ≡ network.faulty e → length c.shards ≡ committee_size w.log.f → is_present side w ≡ true
    → ((s : ℕ) → s < length c.shards → among c.faulty s ≡ false
    → (contents_of c s ≡ comes_with network at e s) × ActsEach r w.log s (comes_with network at e s) (network.deeds at e s))
    → (k : ℕ) → k ≤ length c.shards → (new : Committee) × Way r first (side_told network at e side told k) (with_side side w new) × Half network at e c new k
half_leads r laws first w side network at e c told way bads sized present does zero le =
    (c, way, record { faulty = refl; size = refl; did = λ s lt inside correct. absurd (omega (arith, lt)); left = λ s past. refl })
half_leads r laws first w side network at e c told way bads sized present does (suc k) le =
    let (new, on, half) = half_leads r laws first w side network at e c told way bads sized present does k (omega (arith, le)) in
    let is : among (network.faulty e) k ≡ among c.faulty k = ap (λ fs. among fs k) (sym bads) in
    ⊎_elim
    (λ bad.
    let out = is ∙ bad in
    (new, rw out on, half_more network at e k c new new (contents_of new k) half (record { faulty = refl; size = refl; here = refl; others = λ t other. refl }) (λ good. absurd (true≢false (sym bad ∙ good)))))
    (λ good.
    let (was, acts) = does k (omega (arith, le)) good in
    let holds : contents_of new k ≡ comes_with network at e k = half.left k (omega arith) ∙ was in
    let (then, way_then, changed) = shard_leads r laws first w side k (network.deeds at e k) new (side_told network at e side told k) on present (ap (λ fs. among fs k) half.faulty ∙ good) (omega (arith, half.size, le)) (half.size ∙ sized)
    (subst (λ (m : Contents). ActsEach r w.log k m (network.deeds at e k)) (sym holds) acts) in
    let fine = is ∙ good in
    (then, rw fine way_then, half_more network at e k c new then _ half changed (λ correct. ap (last_held (network.deeds at e k)) holds)))
    (flag (among c.faulty k))

is_there : (w : World) (side : Side) → IsThere w.log (epoch_of side w)
is_there w Now = serves
is_there w Next = writes

module _ (r : Rules) (laws : Laws r) (network : Network) (size : ℕ) (history : IsHistory r network size) where
  -- the shards of one side do all that they do at a prefix
  side_leads : (first w : World) (side : Side) (at : ℕ) (told : Told) → at ≤ size → w.log ≡ log_at network at → is_present side w ≡ true → Way r first told (with_side side w (side_of side w))
      → StandsFor network (comes_with network at) (epoch_of side w) w.log.f (side_of side w)
      → (new : Committee) × Way r first (side_told network at (epoch_of side w) side told (committee_size w.log.f)) (with_side side w new) × StandsFor network (leaves_with network at) (epoch_of side w) w.log.f new
  side_leads first w side at told le same present way stands =
      let c = side_of side w in
      let e = epoch_of side w in
      let f_is : w.log.f ≡ r.f = ap (λ (l : Log). l.f) same ∙ f_at r laws network size history at in
      let (new, on, half) = half_leads r laws first w side network at e c told way stands.faulty stands.sized present
      (λ s lt correct.
      let fine : among (network.faulty e) s ≡ false = ap (λ fs. among fs s) (sym stands.faulty) ∙ correct in (
        stands.contents s (omega (arith, lt, stands.sized)) fine,
        subst (λ (l : Log). ActsEach r l s (comes_with network at e s) (network.deeds at e s)) (sym same)
            (history.acts at e s le (subst (λ (l : Log). IsThere l e) same (is_there w side))
            (subst (λ (f : ℕ). s < committee_size f) f_is (omega (arith, lt, stands.sized))) fine),
      ))
      (length c.shards) (omega arith) in (
        new,
        subst (λ (n : ℕ). Way r first (side_told network at e side told n) (with_side side w new)) stands.sized on,
        record {
          sized = half.size ∙ stands.sized;
          faulty = half.faulty ∙ stands.faulty;
          contents = λ s lt fine. half.did s (omega (arith, lt, stands.sized)) (omega (arith, lt, stands.sized)) (ap (λ fs. among fs s) stands.faulty ∙ fine);
        },
      )

  -- what is told at a prefix, by its ledger
  abbrev told_by : ℕ → Told → Log → Told
  told_by at before log =
      let served = side_told network at (reading log) Now before (committee_size log.f) in
      cond (is_moving log) (side_told network at (writing log) Next served (committee_size log.f)) served

  -- ALL THAT IS DONE AT A PREFIX
  pub prefix_leads : (first w : World) (at : ℕ) (told : Told) → at ≤ size → Way r first told w → IsShownBy network at (comes_with network at) w
      → (new : World) × Way r first (prefix_told network at told) new × IsShownBy network at (leaves_with network at) new
  prefix_leads first w at told le way shows =
      let (now, way_now, stands) = side_leads first w Now at told le shows.log refl way (shows.sides Now refl) in
      let (new, way_new, shown) = by (record w { now = now }) now refl refl refl refl way_now stands (flag (is_moving w.log)) in
      (new, subst (λ (l : Log). Way r first (told_by at told l) new) shows.log way_new, shown)
    where
      served : Told
      served = side_told network at (reading w.log) Now told (committee_size w.log.f)

      whole : Told
      whole = side_told network at (writing w.log) Next served (committee_size w.log.f)

      by : (mid : World) (now : Committee) → mid.log ≡ w.log → mid.few ≡ w.few → mid.next ≡ w.next → mid.now ≡ now → Way r first served mid
          → StandsFor network (leaves_with network at) (reading w.log) w.log.f now
          → (is_moving w.log ≡ true) ⊎ (is_moving w.log ≡ false) → (new : World) × Way r first (told_by at told w.log) new × IsShownBy network at (leaves_with network at) new
      by mid now same few next is way stands (inr still) = (
        mid,
        subst (λ (t : Told). Way r first t mid) (ap {B = Told} (λ q. cond q whole served) (sym still)) way,
        record {
          log = same ∙ shows.log;
          few = λ h. few ∙ shows.few h;
          sides = sides;
        },
      )
        where
          sides : (side : Side) → is_present side mid ≡ true → StandsFor network (leaves_with network at) (epoch_of side mid) mid.log.f (side_of side mid)
          sides Now present = rw (same, is) stands
          sides Next present = absurd (true≢false (sym present ∙ ap is_moving same ∙ still))
      by mid now same few next is way stands (inl moving) =
          let present : is_present Next mid ≡ true = ap is_moving same ∙ moving in
          let was : StandsFor network (comes_with network at) (epoch_of Next mid) mid.log.f (side_of Next mid) = rw (same, next) (shows.sides Next moving) in
          let (then, way_then, after) = side_leads first mid Next at served le (same ∙ shows.log) present way was in (
            record mid { next = then },
            subst (λ (t : Told). Way r first t (record mid { next = then }))
                (ap {B = Told} (λ (l : Log). side_told network at (writing l) Next served (committee_size l.f)) same ∙ ap {B = Told} (λ q. cond q whole served) (sym moving)) way_then,
            record { log = same ∙ shows.log; few = λ h. few ∙ shows.few h; sides = sides then after },
          )
        where
          sides : (then : Committee) → StandsFor network (leaves_with network at) (epoch_of Next mid) mid.log.f then → (side : Side) → is_present side (record mid { next = then }) ≡ true
              → StandsFor network (leaves_with network at) (epoch_of side (record mid { next = then })) mid.log.f (side_of side (record mid { next = then }))
          sides then after Now present = rw (same, is) stands
          sides then after Next present = after
