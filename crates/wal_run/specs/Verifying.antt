-- The command that verifies the answer to a storage challenge.
use Rattle.std.specs.Prelude.{◌≡◌, ◌⊎◌, ℕ, List, ◌++◌, codes, decimal}
use Rattle.wal_reader.specs.Carried.{claims_in}
use Rattle.wal_challenge.specs.declared.checking.AnswerVerdict.{AnswerVerdict}
use Rattle.wal_challenge.specs.declared.checking.AnswerVerdict.TheVariants.{Accepted, Wrong}
use Rattle.wal_challenge.specs.declared.checking.AnswerVerdict.TheVariants.{WrongCount}
use Rattle.wal_challenge.specs.Verdict.{AnswersComeTo}
use Rattle.wal_words.specs.declared.task.Audit.{Audit}
use Rattle.wal_run.specs.Command.{Command, Recorded, bare, envelopes_of}
use Rattle.wal_run.specs.Lines.{number_text}
use Rattle.wal_run.specs.Challenging.{HasShard, LacksShard}

-- the text of a verdict on claims in answer to so many draws
abbrev pub verdict_text : ℕ → AnswerVerdict → List ℕ
verdict_text count (WrongCount k) =
    codes "wrong count " ++ decimal k ++ number_text (codes " of ") count
verdict_text count (Wrong draw) = number_text (codes "wrong ") draw
verdict_text count Accepted = codes "accepted\n"

-- the openings of the identifier that the payloads carry, in order, get this verdict
abbrev pub ClaimsCome : (List ℕ → List ℕ) → Audit → Recorded → AnswerVerdict → Type 0
ClaimsCome digest audit recorded verdict =
    AnswersComeTo digest recorded.metadata audit.beacon audit.shard
    audit.count (claims_in audit.id.0 recorded.payloads) verdict

-- the verdict on these openings
abbrev pub verifying : (List ℕ → List ℕ) → Audit → Command
verifying digest audit = record (bare 134217728 (envelopes_of audit.id)) {
  -- each answers its draw
  Succeeds = λ recorded text. HasShard audit recorded × ClaimsCome digest audit recorded Accepted
      × (text ≡ codes "accepted\n");
  -- the first that does not is this one
  Rejects = λ recorded text. HasShard audit recorded × (draw : ℕ)
      × ClaimsCome digest audit recorded (Wrong draw)
      × (text ≡ number_text (codes "wrong ") draw);
  -- there is no such shard, or so many openings, which is not the number of the draws
  Lacks = λ recorded text. LacksShard audit recorded text
      ⊎ (HasShard audit recorded × (k : ℕ) × ClaimsCome digest audit recorded (WrongCount k)
      × (text ≡ verdict_text audit.count (WrongCount k)));
}
