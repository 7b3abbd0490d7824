-- What shards reply to one that recovers its sliver.
use Rattle.wal_world.proofs.Common.{◌≡◌, ℕ, ◌<◌, List, [], ◌∷◌, ◌++◌, Result, Ok, Err, IfOk, refl, sym, ap, ◌∙◌, true, append-nil, slice_index_or, flat_map, AllocError, BlobId, Axis, Side, BlobMetadata, held_index, committee_size, Reply, Buffer, envelope, Parts, parts_at, ShardState, HoldsMetadata, SymbolReplies, WritesReply, World, side_of, is_present, held, ledger_of, IsNetwork, shards_of, world_of, Network, Rules, SymbolReply, replies, AreReplies, IsReplyOf}
use Rattle.std.proofs.lemmas.List.{append_assoc}
use Rattle.wal_world.proofs.Shards.{shard_is}

pub symbols_by : {H : Type 0} (side : Side) (n : Network H) (list : List ShardState) (shard k : ℕ) (s : ShardState) (id : BlobId) (P : ℕ → Parts → List (List ℕ) → Type 0) (old new : Buffer) (count : ℕ)
    → IsNetwork n → is_present side (world_of n) ≡ true → list ≡ shards_of side n → k ≡ shard → shard < committee_size (ledger_of n.books).log.f → s ≡ slice_index_or list k s
    → old.bytes ≡ [] → (payloads : List (List ℕ)) × P s.index (parts_at s.contents id) payloads × WritesReply s.index old payloads count new
    → (payloads : List (List ℕ)) × P shard (held (side_of side (world_of n)) shard id) payloads × (new.bytes ≡ flat_map (envelope shard) payloads)
unfolding held
symbols_by side n list shard k s id P old new count is there same place less at empty w =
    let of_side = shard_is side n list shard k s is there same place less at in
    (w.0, rw (of_side.index, of_side.contents) at w.1, rw (w.2.written, empty, of_side.index))

pub symbol_replies : (digest : List ℕ → List ℕ) (id : BlobId) (helper : ℕ) (p : Parts) (axis : Axis) (shard : ℕ) (m : BlobMetadata) (index : ℕ) (r : Result (List (List ℕ)) AllocError) → HoldsMetadata p m
    → index ≡ held_index m.format m.f axis shard → IfOk r (SymbolReplies digest id.0 helper p axis index) → IfOk r (SymbolReply digest id helper p axis shard)
symbol_replies digest id helper p axis shard m index (Ok payloads) own is h = replies m payloads own (rw is at h)
symbol_replies digest id helper p axis shard m index (Err e) own is h = tt

-- one more reply
pub replies_more : (r : Rules) (w : World) (id : BlobId) (axis : Axis) (shard : ℕ) (front : List Reply) (one : Reply) (payloads more : List (List ℕ)) → AreReplies r w id axis shard front payloads
    → IsReplyOf r w id axis shard one more → AreReplies r w id axis shard (front ++ one ∷ []) (payloads ++ more)
replies_more r w id axis shard [] one payloads more h x =
    (more, [], x, refl, ap (λ (l : List (List ℕ)). l ++ more) h ∙ sym (append-nil more))
replies_more r w id axis shard (first ∷ front) one payloads more h x =
    (h.0, h.1 ++ more, h.2, replies_more r w id axis shard front one h.1 more h.3 x, ap (λ (l : List (List ℕ)). l ++ more) h.4 ∙ append_assoc h.0 h.1 more)
