-- What is put to a shard of a network, and what is said of it.
use Rattle.wal_world.proofs.Common.{◌≡◌, ℕ, ◌<◌, List, true, Option, Some, None, Result, Ok, Err, IfOk, OnOk, slice_index_or, length, refl, sym, ap, ◌∙◌, subst, Side, IsCollision, Frame, IsFrame, Log, Contents, PutAnswer, PutsOrWants, ShardState, desk_of, World, side_of, is_correct, contents_of, keeps, SendStep, SendCollides, Refused, IsPutFrame, PutsFrame, rules_of, IsAnswered, IsTaken, Tells, Taken, AreShards, contents_at, Memory, Full, Stored, Held, Unregistered, NoMetadata, Unverified, OtherMetadata, desk, Word, Collided}
use Rattle.wal_event.specs.declared.line.SendWord.{SendWord}
use Rattle.wal_event.specs.declared.line.SendWord.TheVariants as sending
use Rattle.wal_world.proofs.Placing.{keeps_same, shard_at}

-- what holds anyway holds of a success
pub on_ok : {A E P : Type 0} (r : Result A E) → P → OnOk r P
on_ok (Ok x) p = p
on_ok (Err e) p = tt

-- what was put, where there was memory
pub put_is : (digest : List ℕ → List ℕ) (f shard : ℕ) (log : Log) (old new : Contents) (frame : Frame) (answer : PutAnswer) → IsFrame frame
    → PutsOrWants digest true (desk_of f shard None log) old frame answer new → IsAnswered answer → PutsFrame digest f log shard old frame answer new
put_is digest f shard log old new frame Memory fit h a = absurd a
put_is digest f shard log old new frame answer fit h a = (fit, h)

-- a keep without a limit is never full
pub answered_is : (digest : List ℕ → List ℕ) (f shard : ℕ) (log : Log) (old new : Contents) (frame : Frame) (answer : PutAnswer)
    → PutsOrWants digest true (desk_of f shard None log) old frame answer new → (answer ≡ Memory → ⊥) → IsAnswered answer
answered_is digest f shard log old new frame (Full needed free) h m = absurd (let e : ◌≡◌ {A = Option ℕ} None (Some free) = h.2 in cc)
answered_is digest f shard log old new frame Memory h m = m refl
answered_is digest f shard log old new frame answer h m = tt

-- the step of bytes that are a frame
pub send_step : (digest : List ℕ → List ℕ) (f : ℕ) (old new : World) (side : Side) (shard : ℕ) (bytes : List ℕ) (frame : Frame) (contents : Contents)
    (answer : PutAnswer) (said : Taken SendWord) → is_correct side old shard ≡ true → IsPutFrame bytes frame
    → PutsFrame digest f old.log shard (contents_of (side_of side old) shard) frame answer contents → new ≡ keeps old side shard contents → Tells answer said
    → IsTaken digest (λ word. SendStep (rules_of digest f) old side shard bytes word new) (SendCollides (rules_of digest f) old side shard bytes new) said
send_step digest f old new side shard bytes frame contents answer said correct put puts same told = by answer said puts told
  where
    stays : contents ≡ contents_of (side_of side old) shard → new ≡ old
    stays e = same ∙ ap (λ (m : Contents). keeps old side shard m) e ∙ keeps_same side old shard

    refused : (a : PutAnswer) → PutsFrame digest f old.log shard (contents_of (side_of side old) shard) frame a contents → contents ≡ contents_of (side_of side old) shard
        → Refused (rules_of digest f) old side shard bytes a new
    refused a p e = (frame, contents, (correct, put, p), stays e)

    by : (a : PutAnswer) (s : Taken SendWord) → PutsFrame digest f old.log shard (contents_of (side_of side old) shard) frame a contents → Tells a s
        → IsTaken digest (λ word. SendStep (rules_of digest f) old side shard bytes word new) (SendCollides (rules_of digest f) old side shard bytes new) s
    by Stored (Word sending.Stored) p t = (frame, contents, (correct, put, p), same)
    by Held (Word sending.Held) p t = refused Held p p.1.2
    by Unregistered (Word sending.Unregistered) p t = refused Unregistered p p.1.1
    by NoMetadata (Word sending.NoMetadata) p t = refused NoMetadata p p.1.3
    by Unverified (Word sending.Unverified) p t = refused Unverified p p.1.3
    by (OtherMetadata clash) (Collided c) p t = (
      subst (λ (x : List ℕ). IsCollision digest x c.right) (sym t.0) (subst (λ (x : List ℕ). IsCollision digest clash.left x) (sym t.1) p.1.6),
      (frame, contents, OtherMetadata clash, refl, (correct, put, p), stays p.1.7),
    )
    by _ _ p t = absurd t

-- what one of the shards of a committee makes of a frame, by its place
pub put_by : (digest : List ℕ → List ℕ) {f : ℕ} (log : Log) {list : List ShardState} {place k : ℕ} {old : ShardState} (frame : Frame) (answer : PutAnswer) (new : Contents)
    → AreShards f list → place < length list → k ≡ place → old ≡ slice_index_or list k old
    → PutsOrWants digest true (desk old log) old.contents frame answer new
    → PutsOrWants digest true (desk_of f place None log) (contents_at list place) frame answer new
put_by digest {f} log {list} {place} {k} {old} frame answer new are less same is puts =
    let own = shard_at are less same is in
    let desk : desk old log ≡ desk_of f place None log = cc (own.0.f_is, own.0.index_is, own.0.limit_is) in
    rw (own.1, ← desk) puts
