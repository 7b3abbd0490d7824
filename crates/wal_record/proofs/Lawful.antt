-- A lawful ledger that takes an entry stays lawful.
use Rattle.std.proofs.Common.{◌≡◌, ℕ, ◌+◌, ◌<◌, ◌≤◌, true, false, not, cond, ◌&&◌, nat_lt, List, [], ◌∷◌, ◌++◌, length, All, refl, sym, ap, ◌∙◌, subst, arith}
use Rattle.std.proofs.lemmas.Bool.{and_parts, not-true, ltb-true, lt-ltb, le-ltb, false≢true, both_ways}
use Rattle.std.proofs.lemmas.List.{length-append}
use Rattle.std.proofs.lemmas.List.Elements.{All-push, All-cons, All-nil}
use Rattle.wal_shape.specs.Owners.{are_owners}
use Rattle.wal_ledger.specs.declared.entry.Entry.{Entry}
use Rattle.wal_ledger.specs.declared.entry.Body.{Body}
use Rattle.wal_ledger.specs.declared.entry.Body.TheVariants.{Register, Ack, Attest, Ready, Begin, Finish}
use Rattle.wal_ledger.specs.Shards.{committee_size}
use Rattle.wal_ledger.specs.Ledger.{Log, Phase, phase, phase_in, reading, writing, is_moving, entered}
use Rattle.wal_ledger.specs.Kept.{IsLawful, IsOfCommittee}
use Rattle.wal_ledger.specs.Within.{IsWithin}
use Rattle.wal_ledger.specs.Handover.{IsMadeIn, IsMadeSince}
use Rattle.wal_ledger.proofs.Entering.{phase_push, phase_whole}
use Rattle.wal_ledger.proofs.HandoverEntries.{entry_in, is_plain, plain_stays, phase_plain}
use Rattle.wal_record.specs.Context.{context_of}
use Rattle.wal_record.specs.Follow.{takes}

-- all entries and one more
entries_within : (log : Log) (b : Body) (last : ℕ) → IsLawful log → writing log ≤ last → All (IsWithin log.first last) (entered log b).entries
entries_within log b last lawful le =
    All-push (IsWithin log.first last) log.entries (entry_in log b)
    (λ k d lt. let was = lawful.within k d lt in record { low = was.low; high = omega (arith, was.high) })
    (record { low = omega arith; high = omega arith })

entries_behind : (log : Log) (b : Body) (last : ℕ) → IsLawful log → writing log ≤ last → All (λ x. x.epoch ≤ last) (entered log b).entries
entries_behind log b last lawful le =
    All-push (λ (x : Entry). x.epoch ≤ last) log.entries (entry_in log b) (λ k d lt. omega (arith, lawful.none_ahead k d lt)) (omega arith)

entries_of : (log : Log) (b : Body) → IsLawful log → IsOfCommittee (committee_size log.f) b → All (λ (x : Entry). IsOfCommittee (committee_size log.f) x.body) (entered log b).entries
entries_of log b lawful of = All-push (λ (x : Entry). IsOfCommittee (committee_size log.f) x.body) log.entries (entry_in log b) lawful.members of

-- an entry that leaves the epoch
lawful_plain : (log : Log) (b : Body) → IsLawful log → is_plain b ≡ true → IsOfCommittee (committee_size log.f) b → IsLawful (entered log b)
lawful_plain log b lawful plain of =
    let new : Log = entered log b in
    let stays = plain_stays log b plain in
    let is = phase_plain log b plain in
    let w : writing log ≡ writing new = sym stays.writing in
    record {
      some_faults = lawful.some_faults;
      few_faults = lawful.few_faults;
      owned = lawful.owned;
      last = omega (arith, w, lawful.last);
      turns = subst (λ (p : Phase). length p.brought ≡ p.finishes + cond (nat_lt p.finishes (length p.brought)) 1 0) (sym is) lawful.turns;
      paused = subst (λ (p : Phase). nat_lt p.finishes (length p.brought) ≡ true → (phase_in p.before).finishes ≡ p.finishes) (sym is) lawful.paused;
      brings = subst (λ (p : Phase). nat_lt p.finishes (length p.brought) ≡ true → (next : List ℕ) × (p.brought ≡ (phase_in p.before).brought ++ next ∷ [])) (sym is) lawful.brings;
      within = entries_within log b (writing new) lawful (omega (arith, w));
      none_ahead = entries_behind log b (writing new) lawful (omega (arith, w));
      since_begin = subst (λ (p : Phase). All (IsMadeSince (writing new)) p.since) (sym is)
          (subst (λ (n : ℕ). All (IsMadeSince n) ((phase log).since ++ entry_in log b ∷ [])) w (All-push (IsMadeSince (writing log)) (phase log).since (entry_in log b) lawful.since_begin (λ h. refl)));
      dated = λ moving. let was = lawful.dated (sym stays.moving ∙ moving) in record {
        earlier = subst (λ (p : Phase). All (λ (x : Entry). x.epoch ≤ reading new) p.before) (sym is) (subst (λ (n : ℕ). All (λ (x : Entry). x.epoch ≤ n) (phase log).before) (sym stays.reading) was.earlier);
        later = subst (λ (p : Phase). All (IsMadeIn (writing new)) p.since) (sym is)
            (subst (λ (n : ℕ). All (IsMadeIn n) ((phase log).since ++ entry_in log b ∷ [])) w (All-push (IsMadeIn (writing log)) (phase log).since (entry_in log b) was.later (λ id named. refl)));
      };
      members = entries_of log b lawful of;
    }

-- a change of the epoch begins
lawful_begin : (log : Log) (owners : List ℕ) → IsLawful log → is_moving log ≡ false → reading log < 65535 → are_owners (committee_size log.f) owners ≡ true → IsLawful (entered log (Begin owners))
lawful_begin log owners lawful serving last owned =
    let b : Body = Begin owners in
    let new : Log = entered log b in
    let is = phase_push log.entries (entry_in log b) in
    let whole = phase_whole log.entries in
    let still : ◌≡◌ {A = ℕ} (cond (is_moving log) 1 0) 0 = ap {B = ℕ} (λ m. cond m 1 0) serving in
    let more = length-append (phase log).brought (owners ∷ []) in
    let read : reading new ≡ reading log = ap (λ (p : Phase). log.first + p.finishes) is in
    let moves : is_moving new ≡ true =
    ap (λ (p : Phase). nat_lt p.finishes (length p.brought)) is
    ∙ lt-ltb (phase log).finishes (length ((phase log).brought ++ owners ∷ [])) (omega (arith, lawful.turns, more)) in
    let one : ◌≡◌ {A = ℕ} (cond (is_moving new) 1 0) 1 = ap {B = ℕ} (λ m. cond m 1 0) moves in
    let before : (phase new).before ≡ log.entries = ap (λ (p : Phase). p.before) is ∙ whole in
    record {
      some_faults = lawful.some_faults;
      few_faults = lawful.few_faults;
      owned = lawful.owned;
      last = omega (arith, read, one);
      turns = omega (arith, one, ap (λ (p : Phase). length p.brought) is, ap (λ (p : Phase). p.finishes) is, more, lawful.turns, still);
      paused = λ m. ap (λ (l : List Entry). (phase_in l).finishes) before ∙ sym (ap (λ (p : Phase). p.finishes) is);
      brings = λ m. (owners, ap (λ (p : Phase). p.brought) is ∙ sym (ap (λ (l : List Entry). (phase_in l).brought ++ owners ∷ []) before));
      within = entries_within log b (writing new) lawful (omega (arith, read, one, still));
      none_ahead = entries_behind log b (writing new) lawful (omega (arith, read, one, still));
      since_begin = subst (λ (p : Phase). All (IsMadeSince (writing new)) p.since) (sym is) (All-cons (IsMadeSince (writing new)) (entry_in log b) [] (λ h. absurd (cc)) (All-nil (IsMadeSince (writing new))));
      dated = λ m. record {
        earlier = subst (All (λ (x : Entry). x.epoch ≤ reading new)) (sym before) (λ k d lt. omega (arith, lawful.none_ahead k d lt, read, still));
        later = subst (λ (p : Phase). All (IsMadeIn (writing new)) p.since) (sym is) (All-cons (IsMadeIn (writing new)) (entry_in log b) [] (λ id h. absurd (false≢true h)) (All-nil (IsMadeIn (writing new))));
      };
      members = entries_of log b lawful owned;
    }

-- and ends
lawful_finish : (log : Log) → IsLawful log → is_moving log ≡ true → IsLawful (entered log Finish)
lawful_finish log lawful moving =
    let new : Log = entered log Finish in
    let is = phase_push log.entries (entry_in log Finish) in
    let one : ◌≡◌ {A = ℕ} (cond (is_moving log) 1 0) 1 = ap {B = ℕ} (λ m. cond m 1 0) moving in
    let stops : is_moving new ≡ false =
    ap (λ (p : Phase). nat_lt p.finishes (length p.brought)) is
    ∙ le-ltb ((phase log).finishes + 1) (length (phase log).brought) (omega (arith, one, lawful.turns)) in
    let still : ◌≡◌ {A = ℕ} (cond (is_moving new) 1 0) 0 = ap {B = ℕ} (λ m. cond m 1 0) stops in
    let read : reading new ≡ writing log = ap (λ (p : Phase). log.first + p.finishes) is ∙ omega (arith, one) in
    let w : writing log ≡ writing new = omega (arith, read, still) in
    record {
      some_faults = lawful.some_faults;
      few_faults = lawful.few_faults;
      owned = lawful.owned;
      last = omega (arith, w, lawful.last);
      turns = omega (arith, still, ap (λ (p : Phase). length p.brought) is, ap (λ (p : Phase). p.finishes) is, lawful.turns, one);
      paused = λ m. absurd (both_ways (is_moving new) stops m);
      brings = λ m. absurd (both_ways (is_moving new) stops m);
      within = entries_within log Finish (writing new) lawful (omega (arith, w));
      none_ahead = entries_behind log Finish (writing new) lawful (omega (arith, w));
      since_begin = subst (λ (p : Phase). All (IsMadeSince (writing new)) p.since) (sym is)
          (subst (λ (n : ℕ). All (IsMadeSince n) ((phase log).since ++ entry_in log Finish ∷ [])) w (All-push (IsMadeSince (writing log)) (phase log).since (entry_in log Finish) lawful.since_begin (λ h. refl)));
      dated = λ m. absurd (both_ways (is_moving new) stops m);
      members = entries_of log Finish lawful tt;
    }

pub lawful_kept : (log : Log) (b : Body) → IsLawful log → takes (context_of log) b ≡ true → IsLawful (entered log b)
lawful_kept log (Register i until) lawful h = lawful_plain log (Register i until) lawful refl tt
lawful_kept log (Ack s i) lawful h = lawful_plain log (Ack s i) lawful refl (ltb-true s (committee_size log.f) h)
lawful_kept log (Attest s i) lawful h = lawful_plain log (Attest s i) lawful refl (ltb-true s (committee_size log.f) h)
lawful_kept log (Ready s) lawful h = lawful_plain log (Ready s) lawful refl (ltb-true s (committee_size log.f) (and_parts (is_moving log) _ h).1)
lawful_kept log (Begin owners) lawful h =
    let parts = and_parts (not (is_moving log)) (nat_lt (reading log) 65535 && are_owners (committee_size log.f) owners) h in
    let rest = and_parts (nat_lt (reading log) 65535) (are_owners (committee_size log.f) owners) parts.1 in
    lawful_begin log owners lawful (not-true (is_moving log) parts.0) (ltb-true (reading log) 65535 rest.0) rest.1
lawful_kept log Finish lawful h = lawful_finish log lawful (and_parts (is_moving log) _ h).0
