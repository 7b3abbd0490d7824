-- A network in which a blob is certified: one correct node runs all shards, takes an honest writer's frames, and acknowledges.
use Rattle.wal_network.proofs.Common.{◌≡◌, ◌≤◌, ◌<◌, ℕ, zero, suc, Bool, true, false, ◌&&◌, nat_lt, cond, List, [], ◌∷◌, length, Option, Some, None, unwrap_or, AllByRecursion, refl, sym, ap, ◌∙◌, subst, arith, and_from, BlobId, Frame, Body, Holds, Rules, Contents, Parts, parts_at, no_parts, with_part, part_of, Metadata, Primary, Secondary, get-empty, empty_map, id_cmp, is_live, signers, IsCertified, IsOpen, count_below, committee_size, same_node, every_below, is_committee, node_of, backs}
use Rattle.std.specs.Prelude.{replicate, nat_eq}
use Rattle.std.specs.List.{list_all}
use Rattle.std.proofs.lemmas.Bool.{eq-eqb, lt-ltb}
use Rattle.std.proofs.lemmas.List.{length-replicate}
use Rattle.wal_shape.specs.declared.part.Part.{Part}
use Rattle.wal_shape.specs.declared.shape.Format.{Format}
use Rattle.wal_shape.specs.declared.axis.Axis.{Axis}
use Rattle.wal_shape.specs.declared.axis.Axis.TheVariants as axes
use Rattle.wal_shape.specs.Shape.{shard_count, symbol_size}
use Rattle.wal_shape.specs.Metadata.{BlobMetadata, held_index}
use Rattle.wal_shape.specs.Part.{sliver_part}
use Rattle.wal_matrix.specs.Matrix.{sliver_of}
use Rattle.wal_shape.specs.Spelling.{metadata_text}
use Rattle.wal_shape.specs.Identifiers.{id_eq}
use Rattle.wal_shape.proofs.MetadataLaws.{held_index-within}
use Rattle.wal_commit.specs.Identifier.{metadata_over, IsMetadataOf}
use Rattle.wal_commit.specs.Held.{HoldsSliver}
use Rattle.wal_commit.proofs.HonestOpenings.{committed_sliver}
use Rattle.wal_commit.proofs.OneDigest.{IsDigest}
use Rattle.wal_frame.specs.Frame as frame
use Rattle.wal_frame.specs.Frame.{IsFrame, frame_text}
use Rattle.wal_frame.proofs.FrameLaws.{read_again}
use Rattle.wal_event.specs.declared.line.Line.TheVariants as line
use Rattle.wal_event.specs.declared.line.SendWord.TheVariants as sending
use Rattle.wal_store.specs.Contents.{with_bytes}
use Rattle.wal_shard.specs.Holding.{HoldsMetadata}
use Rattle.wal_shard.specs.Putting.{put_id}
use Rattle.wal_shard.proofs.Changes.{insert_changes, changed_there}
use Rattle.wal_writer.specs.Message.{IsMessageOf, message_to, sliver_for}
use Rattle.wal_writer.proofs.Messages.{message_fits, numbers_of}
use Rattle.wal_ledger.proofs.RowsPlace.{id_itself}
use Rattle.wal_theorem.specs.Instance.{rules_of}
use Rattle.wal_theorem.proofs.EveryMessage.{message_exists}
use Rattle.wal_network.specs.Deeds.{put, Done, Acts, stored, ActsEach}
use Rattle.wal_network.specs.Network.{Network, log_at, comes_with, Lands, IsHistory, ClaimLands}
use Rattle.wal_network.specs.Promised.{CanCertify}

-- ---- one node runs all shards

abbrev one_node : ℕ → List ℕ
one_node f = replicate (committee_size f) 0

zeros : (n s : ℕ) → node_of (replicate n 0) s ≡ 0
zeros zero s = refl
zeros (suc n) zero = refl
zeros (suc n) (suc s) = zeros n s

all_zero : (n k : ℕ) → nat_lt 0 k ≡ true → list_all (λ node. nat_lt node k) (replicate n 0) ≡ true
all_zero zero k some = refl
all_zero (suc n) k some = and_from (nat_lt 0 k) _ some (all_zero n k some)

none_out : (n : ℕ) → every_below n (λ s. true) ≡ true
none_out zero = refl
none_out (suc n) = and_from (every_below n (λ s. true)) true (none_out n) refl

count_all : (n : ℕ) (p : ℕ → Bool) → ((s : ℕ) → p s ≡ true) → count_below n p ≡ n
count_all zero p all = refl
count_all (suc n) p all = omega (arith, count_all n p all, ap {B = ℕ} (λ b. cond b 1 0) (all n))

one_committee : (f : ℕ) → is_committee (committee_size f) (one_node f) [] ≡ true
one_committee f =
    and_from (nat_eq (length (one_node f)) (committee_size f) && list_all (λ node. nat_lt node (committee_size f)) (one_node f)) _
    (and_from (nat_eq (length (one_node f)) (committee_size f)) _ (eq-eqb _ _ (length-replicate (committee_size f) 0)) (all_zero (committee_size f) (committee_size f) (lt-ltb 0 (committee_size f) (omega arith))))
    (none_out (length (one_node f)))

one_node_each : (f s other : ℕ) → same_node (one_node f) s other ≡ true
one_node_each f s other = eq-eqb _ _ (zeros (committee_size f) s ∙ sym (zeros (committee_size f) other))

-- what is held once a part is stored
put_there : (c : Contents) (id : BlobId) (part : Part) (bytes : List ℕ) → parts_at (with_bytes c id part bytes) id ≡ with_part (parts_at c id) part (Some bytes)
put_there c id part bytes = changed_there c (with_bytes c id part bytes) id (with_part (parts_at c id) part (Some bytes)) (insert_changes c id (with_part (parts_at c id) part (Some bytes)))

-- the metadata of a blob commits its slivers
own_sliver : (digest : List ℕ → List ℕ) (format : Format) (f : ℕ) (blob : List ℕ) (m : BlobMetadata) (is : IsMetadataOf digest format f blob m) (axis : Axis) (index : ℕ) → index < shard_count m.f
    → HoldsSliver digest m axis index (sliver_of axis m.f (symbol_size m.f m.length) is.0 index)
unfolding metadata_over
own_sliver digest format f blob m (e, extended, over, shape) axis index lt =
    let f_is : f ≡ m.f = sym (ap (λ (x : BlobMetadata). x.f) over) in
    let format_is : format ≡ m.format = sym (ap (λ (x : BlobMetadata). x.format) over) in
    committed_sliver digest m blob e (rw f_is at extended) (rw (f_is, format_is) at over) axis index lt

module _ (digest : List ℕ → List ℕ) (size_is : (text : List ℕ) → length (digest text) ≡ 32) (f : ℕ) (some : 1 ≤ f) (few : f ≤ 333) (format : Format) (blob : List ℕ) (id : BlobId) (message : ℕ → List Frame) (honest : IsMessageOf digest f format blob id message) where
  abbrev r : Rules
  r = rules_of digest f

  abbrev m : BlobMetadata
  m = honest.metadata

  abbrev sliver_at : Axis → ℕ → Frame
  sliver_at axis s = sliver_for m id.0 honest.is_metadata.0 axis s

  abbrev bytes_at : Axis → ℕ → List ℕ
  bytes_at axis s = sliver_of axis m.f (symbol_size m.f m.length) honest.is_metadata.0 (held_index m.format m.f axis s)

  abbrev with_metadata : Contents
  with_metadata = with_bytes empty_map id Metadata (metadata_text m)

  abbrev with_primary : ℕ → Contents
  with_primary s = with_bytes with_metadata id Primary (bytes_at axes.Primary s)

  abbrev with_all : ℕ → Contents
  with_all s = with_bytes (with_primary s) id Secondary (bytes_at axes.Secondary s)

  -- ---- the network

  abbrev done : ℕ → Frame → Contents → Done
  done s one after = record { deed = put (frame_text one); said = line.Send s sending.Stored; after = after }

  abbrev deeds_of : ℕ → ℕ → ℕ → List Done
  deeds_of (suc zero) e s = done s (frame.Metadata m) with_metadata ∷ done s (sliver_at axes.Primary s) (with_primary s) ∷ done s (sliver_at axes.Secondary s) (with_all s) ∷ []
  deeds_of at e s = []

  abbrev body_of : ℕ → Body
  body_of zero = Body.Register id 1
  body_of (suc at) = Body.Ack 0 id

  abbrev network : Network
  network = record {
    format = format;
    start = record { f = f; first = 0; owners = one_node f; entries = [] };
    body = body_of;
    faulty = λ e. [];
    stays = λ e. [];
    deeds = deeds_of;
  }

  -- ---- its ledger

  itself : id_eq id id ≡ true
  itself = id_itself id

  is_open : IsOpen (log_at network 1) id
  is_open = record { live = rw itself refl; outlasts = rw itself (omega arith) }

  signed : (s : ℕ) → signers (log_at network 2) id Holds 0 s ≡ true
  signed s = rw (itself, one_node_each f 0 s) refl

  certified : IsCertified (log_at network 2) id
  certified = record { live = rw itself refl; quorum = (0, omega (arith, count_all (committee_size f) (signers (log_at network 2) id Holds 0) signed)) }

  -- ---- what its shards take

  fits : (s : ℕ) → s < committee_size f → AllByRecursion IsFrame (message_to m id.0 honest.is_metadata.0 s)
  fits s lt = rw honest.frames at (message_fits digest size_is f format blob id message honest s lt)

  holds_metadata : (s : ℕ) → s < committee_size f → (p : Parts) → p.metadata ≡ Some (metadata_text m) → HoldsMetadata p m
  holds_metadata s lt p is = record { fit = (fits s lt).0; spelled = is }

  holds_sliver : (axis : Axis) (s : ℕ) → s < committee_size f → HoldsSliver digest m axis (held_index m.format m.f axis s) (bytes_at axis s)
  holds_sliver axis s lt =
      own_sliver digest format f blob m honest.is_metadata axis (held_index m.format m.f axis s)
      (held_index-within m.format m.f axis s (omega (arith, lt, (numbers_of digest format f blob m honest.is_metadata).0)))

  takes_metadata : (s : ℕ) → s < committee_size f → Acts r (log_at network 1) s empty_map (put (frame_text (frame.Metadata m))) (line.Send s sending.Stored) with_metadata
  takes_metadata s lt =
      let fit = (fits s lt).0 in
      let named : id ≡ put_id digest (frame.Metadata m) = ap {B = BlobId} (λ (t : List ℕ). record { 0 = t }) honest.identifier in
      let live = subst (λ (q : BlobId). is_live (log_at network 1) q ≡ true) named is_open.live in
      stored (frame_text (frame.Metadata m)) (frame.Metadata m) with_metadata (read_again (frame.Metadata m) fit, tt) (
        fit,
        (
          record { live = live; verified = (numbers_of digest format f blob m honest.is_metadata).0 },
          ap (λ (o : Option Parts). (unwrap_or o no_parts).metadata) (get-empty id_cmp (put_id digest (frame.Metadata m))),
          tt,
          ap (λ (q : BlobId). with_bytes empty_map q Metadata (metadata_text m)) named,
        ),
      )

  takes_sliver : (axis : Axis) (s : ℕ) (old : Contents) → s < committee_size f → (parts_at old id).metadata ≡ Some (metadata_text m) → part_of (parts_at old id) (sliver_part axis) ≡ None
      → Acts r (log_at network 1) s old (put (frame_text (sliver_at axis s))) (line.Send s sending.Stored) (with_bytes old id (sliver_part axis) (bytes_at axis s))
  takes_sliver axes.Primary s old lt has none =
      let fit = (fits s lt).1.0 in
      stored (frame_text (sliver_at axes.Primary s)) (sliver_at axes.Primary s) _ (read_again (sliver_at axes.Primary s) fit, tt)
      (fit, (record { live = is_open.live; verified = (m, holds_metadata s lt (parts_at old id) has, refl, holds_sliver axes.Primary s lt) }, none, tt, refl))
  takes_sliver axes.Secondary s old lt has none =
      let fit = (fits s lt).1.1.0 in
      stored (frame_text (sliver_at axes.Secondary s)) (sliver_at axes.Secondary s) _ (read_again (sliver_at axes.Secondary s) fit, tt)
      (fit, (record { live = is_open.live; verified = (m, holds_metadata s lt (parts_at old id) has, refl, holds_sliver axes.Secondary s lt) }, none, tt, refl))

  nothing : parts_at empty_map id ≡ no_parts
  nothing = ap (λ (o : Option Parts). unwrap_or o no_parts) (get-empty id_cmp id)

  has_one : parts_at with_metadata id ≡ with_part no_parts Metadata (Some (metadata_text m))
  has_one = put_there empty_map id Metadata (metadata_text m) ∙ ap (λ p. with_part p Metadata (Some (metadata_text m))) nothing

  has_two : (s : ℕ) → parts_at (with_primary s) id ≡ with_part (with_part no_parts Metadata (Some (metadata_text m))) Primary (Some (bytes_at axes.Primary s))
  has_two s = put_there with_metadata id Primary (bytes_at axes.Primary s) ∙ ap (λ p. with_part p Primary (Some (bytes_at axes.Primary s))) has_one

  has_all : (s : ℕ) → backs Holds (parts_at (with_all s) id) ≡ true
  has_all s = ap (backs Holds) (put_there (with_primary s) id Secondary (bytes_at axes.Secondary s) ∙ ap (λ p. with_part p Secondary (Some (bytes_at axes.Secondary s))) (has_two s))

  acts : (at e s : ℕ) → s < committee_size f → ActsEach r (log_at network at) s (comes_with network at e s) (network.deeds at e s)
  acts (suc zero) e s lt = (
    takes_metadata s lt,
    (
      takes_sliver axes.Primary s with_metadata lt (ap (λ (p : Parts). p.metadata) has_one) (ap (λ (p : Parts). p.primary) has_one),
      (takes_sliver axes.Secondary s (with_primary s) lt (ap (λ (p : Parts). p.metadata) (has_two s)) (ap (λ (p : Parts). p.secondary) (has_two s)), tt, tt),
      tt,
    ),
    tt,
  )
  acts zero e s lt = tt
  acts (suc (suc at)) e s lt = tt

  claim : ClaimLands network 1 Holds 0 id
  claim = record {
    in_range = omega arith;
    counts = record { open_to_claims = is_open; first_time = rw itself refl };
    backed = λ correct other lt same. record {
      from = 1;
      earlier = omega arith;
      one_epoch = refl;
      was_open = is_open;
      held = has_all other;
      spared = λ holds at after before. absurd (omega (arith, after, before));
    };
  }

  lands : (at : ℕ) → at < 2 → Lands network at (network.body at)
  lands zero lt = (record { beyond = omega arith; allowed = refl }, omega arith)
  lands (suc zero) lt = claim
  lands (suc (suc at)) lt = absurd (omega (arith, lt))

  history : IsHistory r network 2
  history = record {
    starts = refl;
    fits = record { least = some; most = few; epoch_most = omega arith; committee = one_committee f; count = omega arith; each = tt };
    sized = refl;
    acts = λ at e s le there lt correct. acts at e s lt;
    lands = lands;
    nodes = λ at s other le lt less same bad. let out : false ≡ true = bad in absurd cc;
  }

pub can_certify : (digest : List ℕ → List ℕ) → IsDigest digest → (f : ℕ) → 1 ≤ f → f ≤ 333 → CanCertify (rules_of digest f)
can_certify digest is f some few format blob short bytes =
    let (id, message, honest) = message_exists digest is f some few format blob short bytes in
    (id, message, honest, network digest is.size f some few format blob id message honest, 2, history digest is.size f some few format blob id message honest, λ e. refl, certified digest is.size f some few format blob id message honest)
