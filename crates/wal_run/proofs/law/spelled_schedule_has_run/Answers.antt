-- Every schedule that an input spells has a run.
use Rattle.wal_run.proofs.Common.{ℕ, List, [], ◌∷◌, All, Ok, AllByRecursion, Event, Schedule, IsRead, spelled_bytes, spelled_range, rules_of}
use Rattle.std.proofs.lemmas.List.Elements.{All-nil, All-cons}
use Rattle.wal_event.specs.declared.event.Reply.{Reply}
use Rattle.wal_event.specs.declared.event.Reply.TheVariants as reply
use Rattle.wal_event.specs.declared.event.Event.TheVariants.{Write, Send, Read, Recover, Ready}
use Rattle.wal_protocol.specs.Total.{HasBytes, HasRun, Possible, ReplyHasBytes}
use Rattle.wal_schedule.specs.Writing as written
use Rattle.wal_theorem.proofs.EveryRun.{run_exists}
use Rattle.wal_commit.proofs.OneDigest.{IsDigest}
use Rattle.wal_run.proofs.law.spelled_schedule_has_run.Goals as goal

-- what is shown of each element of a list
each : {A : Type 0} (P Q : A → Type 0) → ((x : A) → P x → Q x) → (xs : List A) → AllByRecursion P xs → All Q xs
each P Q of [] are = All-nil Q
each P Q of (x ∷ xs) are = All-cons Q x xs (of x are.0) (each P Q of xs are.1)

reply_bytes : (r : Reply) → written.HasReplyBytes r → ReplyHasBytes r
reply_bytes (reply.True side shard) has = tt
reply_bytes (reply.Bytes bytes) has = has

event_bytes : (e : Event) → written.HasBytes e → HasBytes e
event_bytes (Write blob to) has = has
event_bytes (Send at shard bytes) has = has
event_bytes (Read id replies) has = each written.HasReplyBytes ReplyHasBytes reply_bytes replies has.1
event_bytes (Recover at shard axis id replies) has = each written.HasReplyBytes ReplyHasBytes reply_bytes replies has.1
event_bytes (Ready shard) has = tt
event_bytes event has = tt

spelled_run : (digest : List ℕ → List ℕ) → IsDigest digest → (input : List ℕ) (s : Schedule) → IsRead input (Ok s) → Possible (HasRun (rules_of digest s.f) s)
spelled_run digest is input s spells =
    run_exists digest is s (spelled_range input s spells) (each written.HasBytes HasBytes event_bytes s.events (spelled_bytes input s spells))

pub returns : goal.returns
returns g c = spelled_run g.H.Hash32.digest (record { size = g.met.H.Hash32.size; bytes = g.met.H.Hash32.bytes })
