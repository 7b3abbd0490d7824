-- What the code of a text shows of the call that wrote it.
use Rattle.walrus_c.proofs.Common.{◌≡◌, ◌≢◌, ◌⊎◌, ℕ, ◌≤◌, List, [], ◌∷◌, ◌++◌, true, take, length, min, refl, sym, ap, ◌∙◌, arith, inl, inr, append_cancel_left, ProofVerdict, sent, BlobId, Task, Whole, Recover, Check, Image, Unpack, Bundle, Member, Challenge, Verify, Around, Causes, ShowsCause, verdict_text, Command, Grammar, HasNone, IsFault, IsLacking, IsRejection, IsResult, IsUnreadable, Misspells, bytes, envelopes_of, nothing, schedule, rejection, lacking, unreadable, command_of, around, code_of, refusals, IsFilled}
use Rattle.wal_evidence.specs.declared.proof.ProofVerdict.TheVariants as verdict
use Rattle.wal_schedule.specs.declared.read.ScheduleError.{ScheduleError}
use Rattle.wal_schedule.specs.declared.read.ScheduleError.TheVariants.{Memory}
use Rattle.wal_words.specs.declared.task.Task.TheVariants.{Read}
use Rattle.wal_run.specs.Causes as causes
use Rattle.walrus_c.specs.Call as call
use Rattle.walrus_c.specs.Causes as shows
use Rattle.walrus_c.specs.Causes.{HasCode, RunShows, Shows, ShowsWhy, own_codes, spelling_codes}
use Rattle.walrus_c.proofs.Calls.{never}
use Rattle.std.specs.Bool.{◌==◌}
use Rattle.std.specs.List.{list_any}
use Rattle.std.proofs.Math.Seq.{take-append_seam}
use Rattle.std.proofs.lemmas.List.{take_all}

module _ (digest : List ℕ → List ℕ) where
  -- ---- 3

  rejected : (task : Task) (input text : List ℕ) → IsRejection digest (command_of digest task) input text
      → HasCode digest task (code_of 3 text)
  unfolding code_of refusals
  rejected (Read id) input text (r, spells, (e, _, has, is)) = rw is refl
  rejected (Whole (Check id)) input text (r, spells, (p, first, bad, is)) = rw is refl
  rejected (Whole (Member id k)) input text (r, spells, (of, is)) = rw is refl
  rejected (Whole (Verify audit)) input text (r, spells, (has, d, come, is)) = rw is refl
  rejected (Whole (Recover id axis index)) input text (r, spells, (openings, takes, bad, is)) = rw is refl
  rejected other input text is = absurd is.2

  -- ---- 4

  none_code : (g : Grammar) (own : List ℕ) (input text : List ℕ) → HasNone digest g input text
      → list_any (λ c. c == code_of 4 text) (spelling_codes g ++ own) ≡ true
  unfolding code_of refusals
  none_code (envelopes_of id) own input text is = rw is.3 refl
  none_code other own input text is = absurd is

  judged : (id : BlobId) (v : ProofVerdict) (text : List ℕ) → v ≢ verdict.Inconsistent → text ≡ verdict_text v
      → HasCode digest (Whole (Check id)) (code_of 4 text)
  unfolding code_of refusals
  judged id verdict.Inconsistent text other e = absurd (other refl)
  judged id v text other e = rw e refl

  lacked : (task : Task) (input text : List ℕ) → IsLacking digest (command_of digest task) input text
      → HasCode digest task (code_of 4 text)
  unfolding code_of refusals
  lacked task input text (inl none) = none_code (command_of digest task).grammar (own_codes task) input text none
  lacked (Read id) input text (inr (r, spells, (have, few, none, e))) = rw e refl
  lacked (Whole (Recover id axis index)) input text (inr (r, spells, (openings, takes, few, e))) = rw e refl
  lacked (Whole (Check id)) input text (inr (r, spells, inl (none, e))) = rw e refl
  lacked (Whole (Check id)) input text (inr (r, spells, inr (p, first, v, checks, other, e))) = judged id v text other e
  lacked (Whole (Image size)) input text (inr (r, spells, (needed, free, full, e))) = rw e refl
  lacked (Whole (Bundle f)) input text (inr (r, spells, inl (many, e))) = rw e refl
  lacked (Whole (Bundle f)) input text (inr (r, spells, inr (long, e))) = rw e refl
  lacked (Whole (Member id k)) input text (inr (r, spells, inl (j, is, e))) = rw e refl
  lacked (Whole (Member id k)) input text (inr (r, spells, inr (count, is, e))) = rw e refl
  lacked (Whole (Challenge audit)) input text (inr (r, spells, inl (few, e))) = rw e refl
  lacked (Whole (Challenge audit)) input text (inr (r, spells, inr (inl (has, none, e)))) = rw e refl
  lacked (Whole (Challenge audit)) input text (inr (r, spells, inr (inr (has, own, none, e)))) = rw e refl
  lacked (Whole (Verify audit)) input text (inr (r, spells, inl (few, e))) = rw e refl
  lacked (Whole (Verify audit)) input text (inr (r, spells, inr (has, k, come, e))) = rw e refl
  lacked other input text (inr (content, spells, none)) = absurd none

  -- ---- 8

  fault_code : (own : List ℕ) (text : List ℕ) (e : ScheduleError) → IsFault e text
      → list_any (λ c. c == code_of 8 text) (spelling_codes schedule ++ own) ≡ true
  unfolding code_of refusals
  fault_code own text Memory is = absurd is
  fault_code own text other is = rw is refl

  misspelled : (g : Grammar) (own : List ℕ) (input text : List ℕ) → Misspells g input text
      → list_any (λ c. c == code_of 8 text) (spelling_codes g ++ own) ≡ true
  unfolding code_of refusals
  misspelled schedule own input text is = fault_code own text is.0 is.2
  misspelled bytes own input text is = absurd is
  misspelled nothing own input text is = absurd is
  misspelled other own input text is = rw is.2 refl

  unread : (task : Task) (input text : List ℕ) → IsUnreadable digest (command_of digest task) input text
      → HasCode digest task (code_of 8 text)
  unfolding code_of refusals
  unread task input text (inl is) = misspelled (command_of digest task).grammar (own_codes task) input text is
  unread (Whole Unpack) input text (inr (r, spells, (place, is, e))) = rw e refl
  unread other input text (inr is) = absurd is.2

-- the answers of a shard, possibly none, are none of the lines of this status
answers_code : (own : ℕ) (frames : List (List ℕ)) → code_of 8 (sent own frames) ≡ 806
unfolding code_of refusals
answers_code own [] = refl
answers_code own (frame ∷ frames) = refl

-- ---- each status

module _ (digest : List ℕ → List ℕ) (words : List (List ℕ)) (input rest before text : List ℕ) where
  abbrev seen : Around
  seen = around input rest before text

  -- a cause of this status
  of_cause : (status : ℕ) (Cause : Command → List ℕ → List ℕ → Type 0)
      → ((task : Task) (told : List ℕ) (given : List ℕ) → Cause (command_of digest task) given told
      → IsResult digest (command_of digest task) given status told × HasCode digest task (code_of status told))
      → ShowsCause digest words seen Cause → RunShows digest words seen status text (code_of status text)
  of_cause status Cause each is =
      let cause = rw (sym (append_cancel_left before text is.text is.written)) at is.cause in
      let both = each is.asked text is.input cause in
      shows.refused _ (record {
        asked = is.asked;
        is_task = is.is_task;
        input = is.input;
        taken = is.taken;
        result = both.0;
        has_code = both.1;
      })

  by_cause : (status : ℕ) → Causes digest words seen status → (status ≡ 0 → ⊥)
      → (status ≡ 5) ⊎ RunShows digest words seen status text (code_of status text)
  unfolding code_of refusals
  by_cause _ (causes.success is) other = absurd (other refl)
  by_cause _ (causes.usage none keeps wrote) other =
      rw (append_cancel_left before text _ wrote) (inr (shows.usage none))
  by_cause _ (causes.rejected is) other =
      inr (of_cause 3 (IsRejection digest) (λ task told given c. (rejection told c, rejected digest task given told c)) is)
  by_cause _ (causes.lacking is) other =
      inr (of_cause 4 (IsLacking digest) (λ task told given c. (lacking told c, lacked digest task given told c)) is)
  by_cause _ (causes.no_memory first) other = inl refl
  by_cause _ (causes.source_failed rose task asked takes most keeps) other = absurd (never rose)
  by_cause _ (causes.source_failed_serving rose until) other = absurd (never rose)
  by_cause _ (causes.sink_failed rose told owed part) other = absurd (never rose)
  by_cause _ (causes.sink_failed_serving rose until) other = absurd (never rose)
  by_cause _ (causes.unreadable is) other =
      inr (of_cause 8 (IsUnreadable digest) (λ task told given c. (unreadable told c, unread digest task given told c)) is)
  by_cause _ (causes.unreadable_serving place until) other =
      let code = ap (code_of 8) (append_cancel_left before text _ until.run.wrote) ∙ answers_code until.service.shard until.run.frames in
      inr (rw code (shows.broken_request place until))
  by_cause _ (causes.too_long task asked is wrote) other = inr (shows.too_long task asked is)
  by_cause _ (causes.too_long_serving until) other = inr (shows.too_long_serving until)
  by_cause _ (causes.collision left right collides is) other = inr (shows.collision left right collides)
  by_cause _ (causes.collision_serving clash collides until) other =
      inr (shows.collision clash.left clash.right collides)

-- the text is what was written, where it fits
whole_text : {room new text : List ℕ} {written needed : ℕ} → IsFilled room new text written needed → length text ≤ length room
    → take written new ≡ text
whole_text {room = room} {text = text} is fits =
    let counted : min (length text) (length room) ≡ length text = omega (arith, fits) in
    rw (is.written_is, counted, is.front, take_all (length room) text fits) (take-append_seam text _)

-- THE CODE SHOWS THE CAUSE
pub shows_why : (digest : List ℕ → List ℕ) (status : ℕ) (output : List ℕ) → ShowsWhy digest status output (code_of status output)
unfolding code_of refusals
shows_why digest _ output t input room new written needed (call.answered words are status text comes filled fits) is other =
    rw (is ∙ whole_text filled fits) (by (by_cause digest words input comes.rest comes.before text status comes.causes other)) where
      by : (status ≡ 5) ⊎ RunShows digest words (around input comes.rest comes.before text) status text (code_of status text)
          → Shows digest t input room status text (code_of status text)
      by (inl five) = rw five shows.no_memory
      by (inr row) = shows.ended words are comes _ row
shows_why digest _ output t input room new written needed (call.no_room words are own text comes five filled more) is other =
    shows.no_room words are own text comes more
shows_why digest _ output t input room new written needed (call.no_memory words are text comes filled) is other = shows.no_memory
shows_why digest _ output t input room new written needed (call.no_memory_for_words kept) is other = shows.no_memory
shows_why digest _ output t input room new written needed (call.no_words bad kept) is other = shows.no_words bad
