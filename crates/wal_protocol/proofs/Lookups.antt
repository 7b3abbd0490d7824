-- What a shard holds after a change of a committee, and committees that have grown.
use Rattle.wal_protocol.proofs.Common.{◌≡◌, ℕ, zero, suc, ◌<◌, ◌≤◌, List, [], ◌∷◌, length, map, get_or, cond, Option, None, unwrap_or, ◌⊎◌, inr, refl, ap, arith, range_with_len, get-empty, cases_lt, get_or-set_same, get_or-set_other, set_past, length-set, get_or-map-range_with_len, length-map-range_with_len, BlobId, id_cmp, Primary, Secondary, Parts, no_parts, with_part, Contents, parts_at, without_part, without_slivers, without_dead, same_id, changed_there, with_parts_changes, retained, forgotten, Log, is_live, committee_size, Committee, World, nobody, contents_of, held, with_contents, is_carried_over, next_committee, after_dropping, empty_committee, ⊎_elim, empty_map, Bool, true, false, is_some, Some, inl, ◌∙◌, or_right, Side, Now, Next, Kind, Holds, Denies, count_below, count_below-mono, Frame, Metadata, Proof, part_of, PutAnswer, settled_by_slivers, has_proof, settled, First, side_of, settled_in, epoch_of, is_present, Rules, PutsEach, is_clash, Facts, backed, Laws, IsAbove, AreAbove, AllSound, FinMap, get}
use Rattle.std.proofs.Math.ListN.{get_or-eq_default}
use Rattle.wal_shape.specs.declared.part.Part.{Part}

-- nothing is held in an empty map
nothing_at : (id : BlobId) → parts_at empty_map id ≡ no_parts
nothing_at id = ap (λ (o : Option Parts). unwrap_or o no_parts) (get-empty id_cmp id)

-- what is held without the slivers of an identifier
pub parts_forgotten : (m : Contents) (id q : BlobId) → (parts_at (without_slivers m id) q ≡ parts_at m q) ⊎ ((q ≡ id) × (parts_at (without_slivers m id) q ≡ forgotten (parts_at m q)))
parts_forgotten m id q =
    let one = without_part m id Primary in
    let gone = with_part (parts_at m id) Primary None in
    let itself = changed_there m one id gone (with_parts_changes m id gone) in
    let first = (with_parts_changes m id gone).at q in
    let whole = (with_parts_changes one id (with_part (parts_at one id) Secondary None)).at q in
    grind (arith, same_id q id)

-- what one shard holds changed, and all others hold what they did
pub held_changed : (c : Committee) (s : ℕ) (contents : Contents) (t : ℕ) (q : BlobId)
    → ((t ≡ s) × (held (with_contents c s contents) t q ≡ parts_at contents q)) ⊎ (held (with_contents c s contents) t q ≡ held c t q)
unfolding held with_contents
held_changed c s contents t q =
    let same = get_or-set_same c.shards s contents empty_map in
    let other = get_or-set_other c.shards s t contents empty_map in
    grind (arith, set_past c.shards s contents)

-- the one that changed
pub held_here : (c : Committee) (s : ℕ) (contents : Contents) (q : BlobId) → s < length c.shards → held (with_contents c s contents) s q ≡ parts_at contents q
unfolding held with_contents
held_here c s contents q lt = ap (λ (m : Contents). parts_at m q) (get_or-set_same c.shards s contents empty_map lt)

pub changed_shape : (c : Committee) (s : ℕ) (contents : Contents) → ((with_contents c s contents).faulty ≡ c.faulty) × (length (with_contents c s contents).shards ≡ length c.shards)
unfolding with_contents
changed_shape c s contents = (refl, length-set c.shards s contents)

-- what is held is what a shard's contents have
pub held_is : (c : Committee) (s : ℕ) (q : BlobId) → held c s q ≡ parts_at (contents_of c s) q
unfolding held
held_is c s q = refl

-- what is no longer live is gone, and the rest stays
pub held_without : (log : Log) (c : Committee) (s : ℕ) (id : BlobId) → held (after_dropping log c) s id ≡ cond (is_live log id) (held c s id) no_parts
unfolding held
held_without log c s id = at c.shards s
  where
    at : (xs : List Contents) (k : ℕ) → parts_at (get_or (map (without_dead log) xs) k empty_map) id ≡ cond (is_live log id) (parts_at (get_or xs k empty_map) id) no_parts
    at [] k = grind (arith, nothing_at id)
    at (m ∷ xs) zero = retained m (is_live log) id
    at (m ∷ xs) (suc k) = at xs k

-- a carried shard holds what it held, and any other nothing
pub held_next : (w : World) (owners faulty stays : List ℕ) (s : ℕ) (id : BlobId)
    → (held (next_committee w owners faulty stays) s id ≡ held w.now s id) ⊎ (held (next_committee w owners faulty stays) s id ≡ no_parts)
unfolding held
held_next w owners faulty stays s id =
    let size = committee_size w.log.f in
    let at =
    λ (t : ℕ). cond (is_carried_over w owners faulty stays t) (get_or w.now.shards t empty_map) empty_map in
    ⊎_elim
    (λ lt. rw (get_or-map-range_with_len at 0 size s s empty_map lt (omega arith)) (grind (arith, nothing_at id)))
    (λ le.
    let past : length (map at (range_with_len 0 size)) ≤ s = omega (arith, length-map-range_with_len at 0 size) in
    inr (rw (get_or-eq_default (map at (range_with_len 0 size)) empty_map past) (nothing_at id)))
    (cases_lt s size)

-- nothing is held at first
pub held_empty : (f : ℕ) (faulty : List ℕ) (s : ℕ) (id : BlobId) → held (empty_committee f faulty) s id ≡ no_parts
unfolding held
held_empty f faulty s id = at (range_with_len 0 (committee_size f)) s
  where
    at : (ks : List ℕ) (k : ℕ) → parts_at (get_or (map (λ t. empty_map) ks) k empty_map) id ≡ no_parts
    at [] k = nothing_at id
    at (t ∷ ks) zero = nothing_at id
    at (t ∷ ks) (suc k) = at ks k

-- where nobody holds anything, a shard has no parts
pub held_nobody : (s : ℕ) (id : BlobId) → held nobody s id ≡ no_parts
unfolding held
held_nobody s id = nothing_at id

-- ---- committees whose shards hold more than before, or forgot what a proof settles

-- what settled before still does, and so does what a proof settled
pub record Firmer (old new : Parts) : Type 0 where
  pub settles : settled old ≡ true → settled new ≡ true
  pub by_proof : has_proof old ≡ true → has_proof new ≡ true

-- equal parts are as firm as each other
pub firmer_same : (old new : Parts) → new ≡ old → Firmer old new
firmer_same old new same = record { settles = λ h. ap settled same ∙ h; by_proof = λ h. ap has_proof same ∙ h }

part_kept : (old new : Parts) (p : Part) → IsAbove old new → is_some (part_of old p) ≡ true → is_some (part_of new p) ≡ true
part_kept old new p above h = grind (arith, above p)

-- a holding above another one
pub firmer_above : (old new : Parts) → IsAbove old new → Firmer old new
firmer_above old new above =
    let metadata = part_kept old new Metadata above in
    let primary = part_kept old new Primary above in
    let secondary = part_kept old new Secondary above in
    let proof = part_kept old new Proof above in
    record { settles = grind arith; by_proof = grind arith }

-- one that a proof settles, without its slivers
pub firmer_forgotten : (parts : Parts) → has_proof parts ≡ true → Firmer parts (forgotten parts)
firmer_forgotten parts proof = record { settles = λ h. or_right (settled_by_slivers (forgotten parts)) (has_proof parts) proof; by_proof = λ h. h }

-- a committee with the same shards, whose holdings are sound and firmer
pub record GrownFrom (r : Rules) (c d : Committee) : Type 0 where
  pub faulty : d.faulty ≡ c.faulty
  pub size : length d.shards ≡ length c.shards
  pub sound : (s : ℕ) (id : BlobId) → r.IsSound id s (held d s id)
  pub firmer : (s : ℕ) (id : BlobId) → Firmer (held c s id) (held d s id)

-- every holding of a committee is sound
abbrev pub AreSound : Rules → Committee → Type 0
AreSound r c = (s : ℕ) (id : BlobId) → r.IsSound id s (held c s id)

-- a sound committee grew from itself
pub grown_same : (r : Rules) (c : Committee) → AreSound r c → GrownFrom r c c
grown_same r c sound = record { faulty = refl; size = refl; sound = sound; firmer = λ s id. firmer_same (held c s id) (held c s id) refl }

pub grown_twice : (r : Rules) (c d e : Committee) → GrownFrom r c d → GrownFrom r d e → GrownFrom r c e
grown_twice r c d e one two = record {
  faulty = two.faulty ∙ one.faulty;
  size = two.size ∙ one.size;
  sound = two.sound;
  firmer = λ s id. record { settles = λ h. (two.firmer s id).settles ((one.firmer s id).settles h); by_proof = λ h. (two.firmer s id).by_proof ((one.firmer s id).by_proof h) };
}

-- what one shard holds changed for what is sound and firmer
pub grown_changed : (r : Rules) (c : Committee) (s : ℕ) (contents : Contents) → AreSound r c → AllSound r s contents → ((q : BlobId) → Firmer (held c s q) (parts_at contents q))
    → GrownFrom r c (with_contents c s contents)
grown_changed r c s contents all sound firmer = record {
  faulty = (changed_shape c s contents).0;
  size = (changed_shape c s contents).1;
  sound = λ t q. (each t q (held_changed c s contents t q)).0;
  firmer = λ t q. (each t q (held_changed c s contents t q)).1;
}
  where
    each : (t : ℕ) (q : BlobId) → ((t ≡ s) × (held (with_contents c s contents) t q ≡ parts_at contents q))
        ⊎ (held (with_contents c s contents) t q ≡ held c t q) → r.IsSound q t (held (with_contents c s contents) t q)
        × Firmer (held c t q) (held (with_contents c s contents) t q)
    each t q (inl (e, is)) = rw (is, e) (sound q, firmer q)
    each t q (inr is) = rw is (all t q, firmer_same _ _ refl)

-- what a shard of a sound committee holds is sound
pub sound_contents : (r : Rules) (c : Committee) (s : ℕ) → AreSound r c → AllSound r s (contents_of c s)
sound_contents r c s all q = rw held_is at (all s q)

-- contents above others are firmer
pub firmer_contents : (c : Committee) (s : ℕ) (contents : Contents) → AreAbove (contents_of c s) contents → (q : BlobId) → Firmer (held c s q) (parts_at contents q)
firmer_contents c s contents above q = rw held_is (firmer_above _ _ (above q))

-- a put
pub grown_put : (r : Rules) → Laws r → (log : Log) (c : Committee) (s : ℕ) (frame : Frame) (answer : PutAnswer) (contents : Contents) → AreSound r c
    → r.Puts log s (contents_of c s) frame answer contents → GrownFrom r c (with_contents c s contents)
grown_put r laws log c s frame answer contents all puts =
    grown_changed r c s contents all (laws.put_sound log s (contents_of c s) contents frame answer puts (sound_contents r c s all))
    (firmer_contents c s contents (laws.put_adds log s (contents_of c s) contents frame answer puts))

-- puts in order
pub grown_each : (r : Rules) → Laws r → (log : Log) (c d : Committee) (puts : List (ℕ × Frame)) (clashed : Bool) → AreSound r c → PutsEach r log c puts clashed d → GrownFrom r c d
grown_each r laws log c d [] clashed all (no_clash, same) = rw same (grown_same r c all)
grown_each r laws log c d (p ∷ more) clashed all (answer, contents, puts, rest) =
    let here = grown_put r laws log c p.0 p.1 answer contents all puts in
    let mid = with_contents c p.0 contents in
    by (is_clash answer) rest
    (λ each. grown_twice r c mid d here (grown_each r laws log mid d more clashed here.sound each))
  where
    by : (b : Bool) {P : Type 0} → cond b ((clashed ≡ true) × (d ≡ c)) P → (P → GrownFrom r c d) → GrownFrom r c d
    by true (c1, same) go = rw same (grown_same r c all)
    by false each go = go each

-- a firmer committee has at least as many shards that are settled
pub settled_grown : (r : Rules) (f : ℕ) (c d : Committee) (id : BlobId) → GrownFrom r c d → count_below (committee_size f) (settled_in c id) ≤ count_below (committee_size f) (settled_in d id)
settled_grown r f c d id grown =
    count_below-mono (committee_size f) (settled_in c id) (settled_in d id)
    (λ s lt h. let settles = (grown.firmer s id).settles in rw grown.faulty (grind arith))

-- what backs a claim still does
pub backed_firmer : (kind : Kind) (old new : Parts) → Firmer old new → backed kind old ≡ true → backed kind new ≡ true
backed_firmer Holds old new firmer h = firmer.settles h
backed_firmer Denies old new firmer h = firmer.by_proof h

-- the facts stand in a world whose committees have grown
pub facts_grown : (r : Rules) (old : World) (a b : Committee) (answers : FinMap id_cmp First) → Facts r old → GrownFrom r old.now a → GrownFrom r old.next b
    → ((id : BlobId) (answer : First) → get answers id ≡ Some answer → r.IsBacked id answer)
    → Facts r (record old { now = a; next = b; answers = answers })
facts_grown r old a b answers facts grown_now grown_next backing = record {
  sized_f = facts.sized_f;
  sized = λ side present. (grown side).size ∙ facts.sized side (rw (← (same side).1) present);
  orderly = facts.orderly;
  none_ahead = facts.none_ahead;
  since_begin = facts.since_begin;
  closed = λ side. let (is, there, epoch) = same side in rw (is, there, epoch) (facts.closed side);
  sound = λ side s id. (grown side).sound s id;
  answers = backing;
  backs = λ side kind id s present live signed lt correct. backed_firmer kind _ _ ((grown side).firmer s id)
      (facts.backs side kind id s (rw (← (same side).1) present) live (rw (← (same side).2) signed) lt
      (rw (← (same side).0) correct));
  readies = λ id s ready lt correct must.
      (grown_next.firmer s id).settles (facts.readies id s ready lt (rw grown_next.faulty at correct) must);
  few_now = rw grown_now.faulty facts.few_now;
  few_next = rw grown_next.faulty facts.few_next;
  kept_serving = λ few still id certified. omega (arith, facts.kept_serving few still id certified, settled_grown r old.log.f old.now a id grown_now);
  kept_moving = λ few moving id certified. omega (arith, facts.kept_moving few moving id certified, settled_grown r old.log.f old.now a id grown_now);
}
  where
    new : World
    new = record old { now = a; next = b; answers = answers }

    grown : (side : Side) → GrownFrom r (side_of side old) (side_of side new)
    grown Now = grown_now
    grown Next = grown_next

    same : (side : Side) → ((side_of side new).faulty ≡ (side_of side old).faulty)
        × (is_present side new ≡ is_present side old) × (epoch_of side new ≡ epoch_of side old)
    same Now = (grown_now.faulty, refl, refl)
    same Next = (grown_next.faulty, refl, refl)
