-- Over a keep that never wants memory no frame that serving answers says so.
use Rattle.wal_serve.proofs.Common.{◌≡◌, ℕ, ⊎_elim, Bool, false, List, [], ◌∷◌, ◌++◌, length, Option, Some, None, Result, Ok, Err, ap, arith, false≢true, BlobId, MetaClash, Axis, FrameError, Frame, Metadata, Sliver, Proof, Read, Symbol, metadata_kind, metadata_frame, read_of, Kind, Holds, Denies, RegisterAnswer, Log, LedgerState, Contents, parts_at, Parts, PutAnswer, OpeningReply, SymbolReplies, given, metadata_reply, payload_if, primary_reply, proof_reply, read_reply_of, PutDesk, PutsOrWants, Reply, ServedState, named, IsRegisterReply, clash_text, done, malformed, no_memory, no_request, outcome_text, overlong, put_reply, reply_text, ClaimEntered, Entered, Forgets, Vouched, AnswersRequest, AnswersFrame, AnswersPut, AnswersRead, IsReplyOutcome, IsReplied, NeverWants, Replies, Served, looked_at, more, none, read_past}
use Rattle.std.specs.List.{Contains}
use Rattle.std.proofs.lemmas.List.Elements.{Contains-append_cases, Contains-push_cases}
use Rattle.wal_shape.specs.declared.shape.Format.{Format}
use Rattle.wal_shape.specs.MetadataReading.{spelled_metadata}

-- ---- frames

-- no frame of these says so
abbrev Calm : List (List ℕ) → Type 0
Calm frames = Contains frames (reply_text no_memory) → ⊥

abbrev first_of : List ℕ → ℕ
first_of (a ∷ rest) = a
first_of [] = 0

abbrev second_of : List ℕ → ℕ
second_of (a ∷ b ∷ rest) = b
second_of _ = 0

no_frames : Calm []
no_frames among = omega (arith, among.1)

one_frame : (frame : List ℕ) → (frame ≡ reply_text no_memory → ⊥) → Calm (frame ∷ [])
one_frame frame not among = ⊎_elim no_frames not (Contains-push_cases [] frame (reply_text no_memory) among)

both : (xs ys : List (List ℕ)) → Calm xs → Calm ys → Calm (xs ++ ys)
both xs ys first next among = ⊎_elim first next (Contains-append_cases xs ys (reply_text no_memory) among)

-- another kind of frame, and a reply of another code
of_kind : (frame : List ℕ) → (first_of frame ≡ 0x30 → ⊥) → Calm (frame ∷ [])
of_kind frame not = one_frame frame (λ same. not (ap first_of same))

of_code : (r : Reply) → (r.code ≡ 7 → ⊥) → Calm (reply_text r ∷ [])
of_code r not = one_frame (reply_text r) (λ same. not (ap second_of same))

-- ---- what is held

if_held : (o : Option (List ℕ)) (payload : List ℕ → List ℕ) → ((bytes : List ℕ) → first_of (payload bytes) ≡ 0x30 → ⊥) → Calm (payload_if o payload)
if_held None payload not = no_frames
if_held (Some bytes) payload not = of_kind (payload bytes) (not bytes)

kind_not : (format : Format) → metadata_kind format ≡ 0x30 → ⊥
kind_not format e = grind arith

metadata_calm : (p : Parts) → Calm (metadata_reply p)
metadata_calm p = if_held p.metadata (λ bytes. metadata_frame (spelled_metadata bytes)) (λ bytes e. kind_not (spelled_metadata bytes).format e)

primary_calm : (id : List ℕ) (shard : ℕ) (p : Parts) → Calm (primary_reply id shard p)
primary_calm id shard p = if_held p.primary _ (λ bytes e. omega (arith, e))

proof_calm : (id : List ℕ) (p : Parts) → Calm (proof_reply id p)
proof_calm id p = if_held p.proof _ (λ bytes e. omega (arith, e))

read_calm : (id : List ℕ) (shard : ℕ) (p : Parts) → Calm (read_reply_of id shard p)
read_calm id shard p = both (metadata_reply p) (primary_reply id shard p ++ proof_reply id p) (metadata_calm p) (both (primary_reply id shard p) (proof_reply id p) (primary_calm id shard p) (proof_calm id p))

opening_calm : (digest : List ℕ → List ℕ) (id : List ℕ) (shard : ℕ) (p : Parts) (axis : Axis) (index : ℕ) (frames : List (List ℕ)) → OpeningReply digest id shard p axis index frames → Calm frames
opening_calm digest id shard p axis index _ (given m sliver o holds at less cross is) = of_kind _ (λ e. omega (arith, e))
opening_calm digest id shard p axis index _ nothing = no_frames

symbols_calm : (digest : List ℕ → List ℕ) (id : List ℕ) (shard : ℕ) (p : Parts) (axis : Axis) (index : ℕ) (frames : List (List ℕ)) → SymbolReplies digest id shard p axis index frames → Calm frames
symbols_calm digest id shard p axis index frames s =
    rw s.2
    (both (metadata_reply p) (s.0 ++ proof_reply id p) (metadata_calm p) (both s.0 (proof_reply id p) (opening_calm digest id shard p axis index s.0 s.1) (proof_calm id p)))

-- ---- replies

claim_calm : (kind : Kind) (old : LedgerState) (shard : ℕ) (id : BlobId) (r : Reply) (new : LedgerState) → ClaimEntered kind old shard id r new → r.code ≡ 7 → ⊥
claim_calm Holds old shard id r new h e = grind arith
claim_calm Denies old shard id r new h e = grind arith

vouched_calm : (kind : Kind) (old : ServedState) (id : BlobId) (r : Reply) (new : LedgerState) → Vouched kind old id r new → r.code ≡ 7 → ⊥
vouched_calm kind old id r new h e = grind (arith, claim_calm)

entered_calm : (kind : Kind) (old : LedgerState) (shard : ℕ) (id : BlobId) (r : Reply) (new : LedgerState) → Entered kind old shard id r new → r.code ≡ 7 → ⊥
entered_calm kind old shard id r new h e = grind (arith, claim_calm)

register_calm : (answer : RegisterAnswer) (r : Reply) → IsRegisterReply answer r → r.code ≡ 7 → ⊥
register_calm answer r is e = grind arith

forget_calm : (log : Log) (old : Contents) (id : BlobId) (r : Reply) (new : Contents) → Forgets log old id r new → r.code ≡ 7 → ⊥
forget_calm log old id r new h e = grind arith

-- ---- requests

told : (r : Reply) (frames : List (List ℕ)) (clash : Option MetaClash) → IsReplyOutcome (Ok r) frames clash → (r.code ≡ 7 → ⊥) → Calm frames
told r frames clash is not = rw is.0 (of_code r not)

put_calm : (digest : List ℕ → List ℕ) (d : PutDesk) (old new : Contents) (frame : Frame) (answer : PutAnswer) → PutsOrWants digest false d old frame answer new → Calm (outcome_text (put_reply answer) ∷ [])
put_calm digest d old new frame (PutAnswer.OtherMetadata clash) h = of_kind (clash_text clash) (λ e. omega (arith, e))
put_calm digest d old new frame PutAnswer.Memory h = absurd (false≢true h.0)
put_calm digest d old new frame answer h = one_frame (outcome_text (put_reply answer)) (λ same. omega (arith, ap second_of same))

replied : (payloads frames : List (List ℕ)) (clash : Option MetaClash) → IsReplied payloads frames clash → Calm payloads → Calm frames
replied payloads frames clash is calm =
    rw is.0 (both payloads (reply_text (done (length payloads)) ∷ []) calm (of_code (done (length payloads)) (λ e. omega (arith, e))))

module _ (digest : List ℕ → List ℕ) (old new : ServedState) (frames : List (List ℕ)) (clash : Option MetaClash) where
  by_put : (frame : Frame) → AnswersPut digest false frame old frames clash new → Calm frames
  by_put frame h = rw (h.3.0, h.2.2) (put_calm digest _ old.shard.contents h.1 frame h.2.0 h.2.1)

  by_frame : (frame : Frame) → AnswersFrame digest false frame old frames clash new → Calm frames
  by_frame (Metadata m) h = by_put _ h
  by_frame (Sliver id axis index bytes) h = by_put _ h
  by_frame (Proof id p) h = by_put _ h
  by_frame (Read id) h = replied _ frames clash h.0 (read_calm id old.shard.index (parts_at old.shard.contents (named id)))
  by_frame (Symbol id axis index) h = replied h.0 frames clash h.2 (symbols_calm digest id old.shard.index (parts_at old.shard.contents (named id)) axis index h.0 h.1)
  by_frame (Frame.Opening id axis index o) h = told no_request frames clash h.0 (λ e. omega (arith, e))
  by_frame (Frame.Answer code a b) h = told no_request frames clash h.0 (λ e. omega (arith, e))
  by_frame (Frame.Clash left right) h = told no_request frames clash h.0 (λ e. omega (arith, e))
  by_frame frame h = told h.0 frames clash h.3 (λ e. grind (arith, vouched_calm, entered_calm, forget_calm, register_calm))

  by_read : (read : Result Frame FrameError) → AnswersRead digest false read old frames clash new → Calm frames
  by_read (Ok frame) h = by_frame frame h
  by_read (Err fault) h = told (malformed fault) frames clash h.0 (λ e. grind arith)

module _ (digest : List ℕ → List ℕ) (room : ℕ) (fresh : ServedState) where
  by_reply : (mid new : ServedState) (payload : List ℕ) (frames : List (List ℕ)) (clash : Option MetaClash) → Replies (AnswersRequest digest false) room mid payload frames clash new → Calm frames
  by_reply mid _ payload _ _ (looked_at frames clash new few answers) = by_read digest mid new frames clash (read_of payload) answers
  by_reply mid _ payload _ _ (read_past long) = of_code overlong (λ e. omega (arith, e))

  by_served : (taken : List ℕ) (frames : List (List ℕ)) (clash : Option MetaClash) (state : ServedState) → Served (AnswersRequest digest false) room fresh taken frames clash state → Calm frames
  by_served _ _ _ _ none = no_frames
  by_served _ _ _ _ (more front frames mid before sender payload some clash new fits replies) =
      both frames some (by_served front frames None mid before) (by_reply mid new payload some clash replies)

  by_end : (limit : ℕ) → NeverWants (AnswersRequest digest false) room limit fresh
  by_end limit taken frames state end serves among = grind (arith, by_served)

-- over any keep that never wants memory
pub never_wants : (digest : List ℕ → List ℕ) (may_want : Bool) (room limit : ℕ) (fresh : ServedState) → may_want ≡ false → NeverWants (AnswersRequest digest may_want) room limit fresh
never_wants digest may_want room limit fresh never = rw never (by_end digest room fresh limit)
