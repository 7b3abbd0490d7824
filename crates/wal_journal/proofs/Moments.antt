-- Images that agree outside ranges, and what crashes leave over a run of calls of a disk.
use Rattle.wal_journal.proofs.Common.{◌≡◌, ◌⊎◌, inl, inr, ⊎_elim, ℕ, ◌+◌, ◌<◌, ◌≤◌, List, [], ◌∷◌, length, take, drop, get_or, Ok, Err, Result, OnOk, OnErr, refl, sym, ap, ◌∙◌, arith, length-drop, common_steps, ext_get_or, length-take, get_or-take, get_or-drop, IsIn, Agrees, put_at, Writes, Syncs, append-nil, Call, Elapses, LeavesOnly, GoesOnAfter, Holds, Accepts, EachKeeps, last_of}

pub agrees_same : (ranges : List (ℕ × ℕ)) (bytes : List ℕ) → Agrees ranges bytes bytes
agrees_same ranges bytes = record { long = refl; outside = λ k out. refl }

pub agrees_none : (bytes image : List ℕ) → Agrees [] bytes image → image ≡ bytes
agrees_none bytes image agrees = ext_get_or 0 image bytes agrees.long (λ k within. agrees.outside k (λ none. none))

-- what agrees outside some ranges agrees outside others that they are within
pub agrees_within : {ranges others : List (ℕ × ℕ)} {bytes image : List ℕ} → ((k : ℕ) → IsIn ranges k → IsIn others k)
    → Agrees ranges bytes image → Agrees others bytes image
agrees_within within agrees =
    record { long = agrees.long; outside = λ k out. agrees.outside k (λ is. out (within k is)) }

pub agrees_trans : {ranges : List (ℕ × ℕ)} {a b c : List ℕ} → Agrees ranges a b → Agrees ranges b c → Agrees ranges a c
agrees_trans first second = record { long = second.long ∙ first.long; outside = λ k out. second.outside k out ∙ first.outside k out }

-- a range among others, and one within another
agrees_first : {range : ℕ × ℕ} {ranges : List (ℕ × ℕ)} {bytes image : List ℕ} → Agrees (range ∷ []) bytes image → Agrees (range ∷ ranges) bytes image
agrees_first agrees = agrees_within (λ k is. ⊎_elim (λ here. inl here) (λ none. absurd none) is) agrees

pub agrees_wider : {at n from most : ℕ} {bytes image : List ℕ} → from ≤ at → at + n ≤ from + most
    → Agrees ((at, n) ∷ []) bytes image → Agrees ((from, most) ∷ []) bytes image
agrees_wider low high agrees = agrees_within (λ k is. grind arith) agrees

-- the bytes that are put into others have their place
pub length-put : (at : ℕ) (bytes old : List ℕ) → at + length bytes ≤ length old → length (put_at at bytes old) ≡ length old
length-put at bytes old fits = grind (arith, common_steps)

outside_put : (at : ℕ) (bytes old : List ℕ) (k : ℕ) → at + length bytes ≤ length old
    → (k < at) ⊎ (at + length bytes ≤ k) → get_or (put_at at bytes old) k 0 ≡ get_or old k 0
outside_put at bytes old k fits beside = grind (arith, common_steps)

pub put_agrees : (at : ℕ) (bytes old new : List ℕ) → at + length bytes ≤ length old → new ≡ put_at at bytes old
    → Agrees ((at, length bytes) ∷ []) old new
put_agrees at bytes old new fits is = record {
  long = ap length is ∙ length-put at bytes old fits;
  outside =
      λ k out. ap (λ (l : List ℕ). get_or l k 0) is ∙ outside_put at bytes old k fits (grind arith);
}

-- before the range, and behind it, the bytes are the same
pub front_same : (at n : ℕ) (bytes image : List ℕ) → Agrees ((at, n) ∷ []) bytes image → take at image ≡ take at bytes
front_same at n bytes image agrees =
    ext_get_or 0 (take at image) (take at bytes) (omega (arith, length-take at image, length-take at bytes, agrees.long)) (λ k within.
    let lt : k < at = omega (arith, within, length-take at image) in
    get_or-take at image k 0 lt ∙ agrees.outside k (λ is. grind arith) ∙ sym (get_or-take at bytes k 0 lt))

-- an image that agrees but for one place has the same bytes behind this place
pub back_same : (at n : ℕ) (bytes image : List ℕ) → Agrees ((at, n) ∷ []) bytes image → drop (at + n) image ≡ drop (at + n) bytes
back_same at n bytes image agrees =
    ext_get_or 0 (drop (at + n) image) (drop (at + n) bytes) (omega (arith, length-drop (at + n) image, length-drop (at + n) bytes, agrees.long)) (λ k within.
    get_or-drop (at + n) image k 0 ∙ agrees.outside ((at + n) + k) (λ is. grind arith)
    ∙ sym (get_or-drop (at + n) bytes k 0))

-- what a write may leave after it
pub write_left : {E : Type 0} (result : Result (Unit {0}) E) (at : ℕ) (bytes old new : List ℕ) (pending pending' : List (ℕ × ℕ)) (clock clock' : ℕ)
    → at + length bytes ≤ length old → Writes at (length bytes) result old new pending pending' clock clock'
    → OnOk result (new ≡ put_at at bytes old) → OnErr result (Agrees ((at, length bytes) ∷ []) old new)
    → (image : List ℕ) → Agrees pending' new image → Agrees ((at, length bytes) ∷ pending) old image
write_left (Ok done) at bytes old new pending pending' clock clock' fits writes written torn image left =
    agrees_trans (agrees_first (put_agrees at bytes old new fits written)) (rw writes.0 at left)
write_left (Err e) at bytes old new pending pending' clock clock' fits (inl writes) written torn image left =
    agrees_trans (agrees_first torn) (rw writes.0 at left)
write_left (Err e) at bytes old new pending pending' clock clock' fits (inr same) written torn image left =
    agrees_within (λ k is. inr is) (rw (same.0, same.1) at left)

-- a sync leaves no more than before it
pub sync_left : {E : Type 0} (result : Result (Unit {0}) E) (old new : List ℕ) (pending pending' : List (ℕ × ℕ)) (clock clock' : ℕ) → new ≡ old → Syncs result pending pending' clock clock'
    → (image : List ℕ) → Agrees pending' new image → Agrees pending old image
sync_left (Ok done) old new pending pending' clock clock' same syncs image left =
    agrees_within (λ k none. absurd none) (rw (same, syncs.0) at left)
sync_left (Err e) old new pending pending' clock clock' same syncs image left =
    rw (same, syncs.0) at left

-- a byte of the text that was put
pub get_or-put : (at : ℕ) (bytes old : List ℕ) (k : ℕ) → at ≤ length old → k < length bytes → get_or (put_at at bytes old) (at + k) 0 ≡ get_or bytes k 0
get_or-put at bytes old k fits within = grind (arith, common_steps)

-- ---- how a run of calls of a disk goes on

module _ {D : Type 0} {clock : D → ℕ} {since : D → ℕ → List ℕ → Type 0} where
  -- before the first call
  pub started : {old : D} {P : List ℕ → Type 0} → ((image : List ℕ) → since old (clock old) image → P image) → LeavesOnly clock since old old P
  started here = record { later = omega arith; each = here; before = λ t image le left. inl left }

  -- one call more, after which a crash leaves what has P
  pub goes_on : {old mid new : D} {P may_leave : List ℕ → Type 0} → LeavesOnly clock since old mid P
      → Elapses (clock mid) (clock new) (since mid) (since new) may_leave
      → ((image : List ℕ) → may_leave image → P image) → LeavesOnly clock since old new P
  goes_on {old} so_far time here = record {
    later = omega (arith, so_far.later, time.later);
    each = λ image left. ⊎_elim (λ past. so_far.each image past.1) (λ now. here image now.1) (time.nothing_else (clock old) image left);
    before = λ t image le left. ⊎_elim (λ past. so_far.before t image le past.1) (λ now. inr (here image now.1)) (time.nothing_else t image left);
  }

  -- two runs, one after the other
  pub both_runs : {old mid new : D} {P : List ℕ → Type 0} → LeavesOnly clock since old mid P
      → LeavesOnly clock since mid new P → LeavesOnly clock since old new P
  both_runs {old} first second = record {
    later = omega (arith, first.later, second.later);
    each = λ image left. ⊎_elim (λ past. first.each image past) (λ p. p) (second.before (clock old) image first.later left);
    before = λ t image le left. ⊎_elim (λ past. first.before t image le past) (λ p. inr p) (second.before t image (omega (arith, le, first.later)) left);
  }

  -- what has P has Q
  pub weaker : {old new : D} {P Q : List ℕ → Type 0} → LeavesOnly clock since old new P
      → ((image : List ℕ) → P image → Q image) → LeavesOnly clock since old new Q
  weaker run implies = record {
    later = run.later;
    each = λ image left. implies image (run.each image left);
    before = λ t image le left. ⊎_elim (λ past. inl past) (λ p. inr (implies image p)) (run.before t image le left);
  }

  -- what a crash leaves after a run is what one within it may leave
  pub after_run : ((disk : D) (image : List ℕ) (t later : ℕ) → t ≤ later → since disk later image → since disk t image)
      → {old new : D} {P : List ℕ → Type 0}
      → LeavesOnly clock since old new P → (image : List ℕ) → since new (clock new) image → P image
  after_run earlier {old} {new} run image left =
      run.each image (earlier new image (clock old) (clock new) run.later left)

  -- where nothing is pending a crash leaves what has P, if the bytes have it
  pub at_rest : {now : D → List ℕ} {pending : D → List (ℕ × ℕ)}
      → ((disk : D) (image : List ℕ) → since disk (clock disk) image → Agrees (pending disk) (now disk) image)
      → {disk : D} {P : List ℕ → Type 0} → pending disk ≡ [] → P (now disk) → LeavesOnly clock since disk disk P
  at_rest {now} only_now {disk} {P} none here =
      started (λ image left. rw (agrees_none (now disk) image (rw none at (only_now disk image left))) here)

-- and goes on after what the bytes accept
pub holds_settled : {D : Type 0} {now : D → List ℕ} {pending : D → List (ℕ × ℕ)} (clock : D → ℕ) (since : D → ℕ → List ℕ → Type 0)
    → ((disk : D) (image : List ℕ) → since disk (clock disk) image → Agrees (pending disk) (now disk) image)
    → {disk : D} {changes : List Call} → pending disk ≡ [] → Accepts (now disk) changes → Holds clock since disk changes
holds_settled clock since only_now {changes = changes} none accepts =
    (at_rest {clock = clock} {since = since} only_now {P = GoesOnAfter changes} none ([], rw append-nil accepts)).each

-- ---- what a crash leaves while bytes are written and synced

pub write_run : {D E : Type 0} {now : D → List ℕ} {pending : D → List (ℕ × ℕ)} {clock : D → ℕ}
    {since : D → ℕ → List ℕ → Type 0}
    → ((disk : D) (image : List ℕ) → since disk (clock disk) image → Agrees (pending disk) (now disk) image)
    → (result : Result (Unit {0}) E) (at : ℕ) (bytes : List ℕ) (old new : D) → at + length bytes ≤ length (now old)
    → Writes at (length bytes) result (now old) (now new) (pending old) (pending new) (clock old) (clock new)
    → OnOk result (now new ≡ put_at at bytes (now old)) → OnErr result (Agrees ((at, length bytes) ∷ []) (now old) (now new))
    → Elapses (clock old) (clock new) (since old) (since new) (Agrees (pending new) (now new))
    → LeavesOnly clock since old new (Agrees ((at, length bytes) ∷ pending old) (now old))
write_run {now = now} {pending} {clock} only_now result at bytes old new fits writes written torn time =
    goes_on (started (λ image left. agrees_within (λ k is. inr is) (only_now old image left))) time
    (write_left result at bytes (now old) (now new) (pending old) (pending new) (clock old) (clock new) fits writes written torn)

-- ---- what is acknowledged stays

module _ {D : Type 0} (clock : D → ℕ) (since : D → ℕ → List ℕ → Type 0) (earlier : (disk : D) (image : List ℕ) (t later : ℕ) → t ≤ later → since disk later image → since disk t image) where
  -- over any calls
  pub run_of : (first : D) (disks : List D) → EachKeeps clock since first disks → (changes : List Call) → Holds clock since first changes → LeavesOnly clock since first (last_of first disks) (GoesOnAfter changes)
  run_of first [] each changes holds = started holds
  run_of first (next ∷ disks) each changes holds =
      let run = each.0 changes holds in
      both_runs run (run_of next disks each.1 changes (after_run earlier run))
