-- What regards another identifier, or none, leaves a state alike; and what replies to readers rest on.
use Rattle.wal_served.proofs.Common.{◌≡◌, ℕ, List, Some, None, Result, refl, ap, ◌∙◌, Axis, BlobId, Part, sliver_part, FrameError, Frame, Read, Symbol, read_of, stored_bytes, Parts, with_part, part_of, Contents, parts_at, with_bytes, without_part, SymbolReplies, given, not_held, no_shard, HoldsMetadata, read_reply_of, put_id, put_part, without_slivers, ServedState, holding, named, AnswersFrame, about_read, AlikeAt, LeavesAlike, RestsOn, ReadsRestOn, arith}
use Rattle.std.specs.FinMap as map_of
use Rattle.wal_shape.specs.Shape.{crossing}
use Rattle.wal_shard.proofs.Changes.{ChangesAt, insert_changes, with_parts_changes, changed_there, same_id}
use Rattle.wal_served.proofs.AlikeLedgers.{alike_itself, apart, other_entered}
use Rattle.wal_served.proofs.Replies.{Change, no_change, part_stored, slivers_went, entry_made, enter_plain, enter_names, changes}

-- ---- what is held under another identifier

changed_apart : (c n : Contents) (id q : BlobId) (p : Parts) → (q ≡ id → ⊥) → ChangesAt c q p n → parts_at n id ≡ parts_at c id
changed_apart c n id q p other h = grind (arith, h.at id, same_id id q)

stored_apart : (c : Contents) (id q : BlobId) (part : Part) (bytes : List ℕ) → (q ≡ id → ⊥) → parts_at (with_bytes c q part bytes) id ≡ parts_at c id
stored_apart c id q part bytes other =
    let p = with_part (parts_at c q) part (Some bytes) in
    changed_apart c (map_of.insert c q p) id q p other (insert_changes c q p)

gone_apart : (c : Contents) (id q : BlobId) → (q ≡ id → ⊥) → parts_at (without_slivers c q) id ≡ parts_at c id
gone_apart c id q other = one (without_part c q Part.Primary) Part.Secondary ∙ one c Part.Primary
  where
    one : (e : Contents) (part : Part) → parts_at (without_part e q part) id ≡ parts_at e id
    one e part = let p = with_part (parts_at e q) part None in changed_apart e (without_part e q part) id q p other (with_parts_changes e q p)

-- and under this one, once a part is stored or the slivers went
pub stored_there : (c : Contents) (id : BlobId) (part : Part) (bytes : List ℕ) → parts_at (with_bytes c id part bytes) id ≡ with_part (parts_at c id) part (Some bytes)
stored_there c id part bytes = let p = with_part (parts_at c id) part (Some bytes) in changed_there c (map_of.insert c id p) id p (insert_changes c id p)

-- without its slivers an identifier has its other parts, and neither sliver
pub slivers_gone : (c : Contents) (id : BlobId) → parts_at (without_slivers c id) id ≡ with_part (with_part (parts_at c id) Part.Primary None) Part.Secondary None
slivers_gone c id = gone (without_part c id Part.Primary) Part.Secondary ∙ ap (λ (p : Parts). with_part p Part.Secondary None) (gone c Part.Primary)
  where
    gone : (e : Contents) (part : Part) → parts_at (without_part e id part) id ≡ with_part (parts_at e id) part None
    gone e part = let p = with_part (parts_at e id) part None in changed_there e (without_part e id part) id p (with_parts_changes e id p)

-- ---- what another payload changes

-- a state is like itself
pub alike_one : (id : BlobId) (s : ServedState) → AlikeAt id s s
alike_one id s = record { faults = refl; index = refl; parts = refl; ledgers = alike_itself id s.ledger.log }

-- a frame that is not about this identifier leaves the states alike at it
pub changed_elsewhere : (digest : List ℕ → List ℕ) (id : BlobId) (old : ServedState) (read : Result Frame FrameError) (frames : List (List ℕ)) (new : ServedState)
    → (about_read digest read ≡ Some id → ⊥) → Change digest old read frames new → AlikeAt id old new
changed_elsewhere digest id old read frames new not change = by change
  where
    other : (q : BlobId) → about_read digest read ≡ Some q → q ≡ id → ⊥
    other q about same = not (rw same at about)

    now_holding : (contents : Contents) → new ≡ holding old contents → parts_at contents id ≡ parts_at old.shard.contents id → AlikeAt id old new
    now_holding contents is same = rw is (record { faults = refl; index = refl; parts = same; ledgers = alike_itself id old.ledger.log })

    by : Change digest old read frames new → AlikeAt id old new
    by (no_change same) = rw same (alike_one id old)
    by (part_stored frame reads part about told accepted none is) =
        now_holding _ is (stored_apart old.shard.contents id (put_id digest frame) (put_part frame) (stored_bytes frame) (other (put_id digest frame) about))
    by (slivers_went q about told is) = now_holding _ is (gone_apart old.shard.contents id q (other q about))
    by (entry_made q b about asks told may is) =
        let log = other_entered id old.ledger.log b (enter_plain old q b may) (enter_names old q id b may ∙ apart q id (other q about)) in
        rw is (record { faults = refl; index = refl; parts = refl; ledgers = log })

-- THE SECOND LAW
pub leaves_alike : (digest : List ℕ → List ℕ) → LeavesAlike digest
leaves_alike digest id old payload may_want frames clash new not answers =
    changed_elsewhere digest id old (read_of payload) frames new not (changes digest may_want old frames clash new payload answers)

-- ---- what replies rest on

module _ (digest : List ℕ → List ℕ) (name : List ℕ) (shard : ℕ) (p r : Parts) (metadata : r.metadata ≡ p.metadata) (proof : r.proof ≡ p.proof) where
  held_too : (m : _) → HoldsMetadata p m → HoldsMetadata r m
  held_too m h = record { fit = h.fit; spelled = metadata ∙ h.spelled }

  pub read_rests : r.primary ≡ p.primary → read_reply_of name shard r ≡ read_reply_of name shard p
  read_rests primary = rw (metadata, proof, primary) refl

  pub symbols_rest : (axis : Axis) (index : ℕ) (payloads : List (List ℕ)) → part_of r (sliver_part (crossing axis)) ≡ part_of p (sliver_part (crossing axis))
      → SymbolReplies digest name shard p axis index payloads → SymbolReplies digest name shard r axis index payloads
  symbols_rest axis index payloads sliver (_, given m bytes o holds held less cross opens, is) =
      (_, given m bytes o (held_too m holds) (sliver ∙ held) less cross opens, rw (metadata, proof) is)
  symbols_rest axis index payloads sliver (_, not_held none, is) =
      (_, not_held (sliver ∙ none), rw (metadata, proof) is)
  symbols_rest axis index payloads sliver (_, no_shard m holds outside, is) =
      (_, no_shard m (held_too m holds) outside, rw (metadata, proof) is)

-- THE FOURTH LAW
pub reads_rest_on : (digest : List ℕ → List ℕ) → ReadsRestOn digest
reads_rest_on digest id sliver one other payload frame may_want also frames clash new reads rests same answers = rw reads (by frame rests (rw reads at answers))
  where
    by : (x : Frame) → RestsOn x id sliver → AnswersFrame digest may_want x one frames clash new → AnswersFrame digest also x other frames clash other
    by (Read name) (is, primary) h =
        let s = rw (is, primary) at same in
        (rw (s.index, read_rests digest name one.shard.index (parts_at one.shard.contents (named name)) (parts_at other.shard.contents (named name)) s.metadata s.proof s.sliver_is) h.0, refl)
    by (Symbol name axis index) (is, crosses) (payloads, replies, told, unchanged) =
        let s = rw (is, crosses) at same in (
          payloads,
          rw s.index (symbols_rest digest name one.shard.index (parts_at one.shard.contents (named name)) (parts_at other.shard.contents (named name)) s.metadata s.proof axis index payloads s.sliver_is replies),
          told,
          refl,
        )
    by x rests h = absurd rests
