-- THE FIFTH LAW: a shard that is fed with the entries of an identifier and then with its parts is alike to the one that came to them.
use Rattle.wal_served.proofs.Common.{◌≡◌, ℕ, ◌+◌, ◌<◌, ◌≤◌, ◌^◌, Bool, true, List, [], ◌∷◌, ◌++◌, length, Option, Some, None, IsSome, unwrap_or, Ok, refl, sym, ap, ◌∙◌, append_assoc, append-nil, arith, IfSome, lt-ltb, Axis, BlobId, Part, sliver_part, Frame, Metadata, Sliver, Proof, IsFrame, frame_text, metadata_frame, sliver_frame, stored_bytes, read_again, reading, until_of, own_entries, is_live, HasRoom, Parts, no_parts, part_of, with_part, part_cost, pages_for, parts_at, part_at, with_bytes, free_of, needed_for, HoldsMetadata, IsSound, metadata_reply, payload_if, proof_reply, CanBePut, Verifies, put_id, put_part, own_metadata, beside, beside_proof, verified_short, ServedState, holding, done, reply_text, AnswersRequest, desk_room, put_row, enough, cost_with, entry_payloads, sliver_payload, pages_of, kept_payloads, Rebuilds, ⊎_elim, IsAccepted, desk, PutAnswer}
use Rattle.wal_shape.specs.Metadata.{BlobMetadata, held_index}
use Rattle.wal_shape.specs.MetadataReading.{spelled_metadata}
use Rattle.wal_shape.specs.Spelling.{metadata_text}
use Rattle.wal_shape.proofs.MetadataLaws.{spelled_metadata-text}
use Rattle.wal_shard.proofs.OnePut.{none_some, some_is}
use Rattle.wal_served.proofs.Apart.{stored_there}
use Rattle.wal_served.proofs.Costs.{stored_cost}
use Rattle.wal_served.proofs.AlikeLedgers.{same_live}
use Rattle.wal_served.proofs.Alike.{fits_less}
use Rattle.wal_served.proofs.Standing.{Fed, fed_one, standing}

unfilled : (q : Parts) (part : Part) → part_of q part ≡ None → with_part q part None ≡ q
unfilled q Part.Metadata absent = rw (← absent)
unfilled q part absent = rw (← absent)

module _ (digest : List ℕ → List ℕ) (room sender : ℕ) (also : Bool) (other base : ServedState) (short_room : room < 2 ^ 32) where
  -- these payloads were fed, and these parts are held
  record Built (i : BlobId) (q : Parts) (sofar : List (List ℕ)) (pages : ℕ) : Type 0 where
    then : ServedState
    fed : Fed digest room sender also other sofar then
    parts_are : parts_at then.shard.contents i ≡ q
    ledger : then.ledger ≡ base.ledger
    f : then.shard.f ≡ base.shard.f
    index : then.shard.index ≡ base.shard.index
    limit : then.shard.limit ≡ base.shard.limit
    pages_most : cost_with then.shard.contents i ≤ cost_with base.shard.contents i + pages

  abbrev Room : BlobId → ℕ → Type 0
  Room i pages = IfSome base.shard.limit (λ most. cost_with base.shard.contents i + pages ≤ most)

  -- what is built grows by a payload, of a part of these bytes
  abbrev Grows : Parts → BlobId → Part → List ℕ → List ℕ → Type 0
  Grows q i part bytes payload =
      (sofar : List (List ℕ)) (pages : ℕ) → Built i q sofar pages → part_of q part ≡ None → Room i (pages + pages_for (length bytes))
      → Built i (with_part q part (Some bytes)) (sofar ++ payload ∷ []) (pages + pages_for (length bytes))

  -- it grows by a frame that may be fed
  feed : (q : Parts) (frame : Frame) → IsFrame frame → CanBePut frame → Verifies digest base.shard.f base.shard.index q frame
      → length (frame_text frame) ≤ room
      → is_live base.ledger.log (put_id digest frame) ≡ true → Grows q (put_id digest frame) (put_part frame) (stored_bytes frame) (frame_text frame)
  feed q frame is puts verifies within lives sofar pages b absent fit =
      let u = b.then in
      let n = put_id digest frame in
      let new = holding u (with_bytes u.shard.contents n (put_part frame) (stored_bytes frame)) in
      let bare : part_at u.shard.contents n (put_part frame) ≡ None = rw b.parts_are absent in
      let verified : Verifies digest u.shard.f u.shard.index (parts_at u.shard.contents n) frame =
      simp (b.parts_are, b.index, b.f) verifies in
      let takes : IsAccepted digest (desk u.shard u.ledger.log) u.shard.contents frame =
      record { live = rw b.ledger lives; verified = verified } in
      let costs = stored_cost u.shard.contents n (put_part frame) (stored_bytes frame) bare in
      let free = has_room u.shard.limit (rw (← b.limit) at fit) in
      let answers : AnswersRequest digest also u (frame_text frame) (reply_text (done 0) ∷ []) None new =
      rw (read_again frame is)
      (put_row digest also frame u new (reply_text (done 0) ∷ []) None puts
      (Ok (done 0), new.shard.contents, (PutAnswer.Stored, (takes, bare, free, refl), refl, tt), (refl, refl), refl)) in
      record {
        then = new;
        fed =
            fed_one digest room sender also other sofar (frame_text frame) u new
            (reply_text (done 0) ∷ []) short_room b.fed within answers;
        parts_are = rw (stored_there u.shard.contents n (put_part frame) (stored_bytes frame), b.parts_are);
        ledger = b.ledger;
        f = b.f;
        index = b.index;
        limit = b.limit;
        pages_most = omega (arith, costs, b.pages_most);
      }
    where
      has_room : (limit : Option ℕ)
          → IfSome limit (λ m.
          cost_with base.shard.contents (put_id digest frame) + (pages + pages_for (length (stored_bytes frame))) ≤ m)
          → HasRoom (free_of limit b.then.shard.contents)
          (needed_for b.then.shard.contents (put_id digest frame) (stored_bytes frame))
      has_room None fits = tt
      has_room (Some most) fits = omega (arith, fits, b.pages_most)

  -- by a part, where it is held
  feed_if : (q : Parts) (i : BlobId) (sofar : List (List ℕ)) (pages : ℕ) (part : Part) (o : Option (List ℕ)) (payload : List ℕ → List ℕ) → Built i q sofar pages → part_of q part ≡ None
      → ((bytes : List ℕ) → o ≡ Some bytes → Grows q i part bytes (payload bytes)) → Room i (pages + part_cost o)
      → Built i (with_part q part o) (sofar ++ payload_if o payload) (pages + part_cost o)
  feed_if q i sofar pages part None payload b absent each fit =
      let none : pages + 0 ≡ pages = omega arith in rw (unfilled q part absent, append-nil sofar, none) b
  feed_if q i sofar pages part (Some bytes) payload b absent each fit = each bytes refl sofar pages b absent fit

  -- all parts, of what is sound
  module _ (id : BlobId) (p : Parts) (sound : IsSound digest base.shard.f id.0 base.shard.index p) (size : length id.0 ≡ 32) (some : 1 ≤ base.shard.f) (few : base.shard.f ≤ 333) (wide : desk_room base.shard.f ≤ room)
      (live : (bytes : List ℕ) (part : Part) → part_of p part ≡ Some bytes → is_live base.ledger.log id ≡ true) where
    -- the metadata that is held
    own_one : IsSome p.metadata → (m : BlobMetadata) × HoldsMetadata p m × (m.f ≡ base.shard.f) × (spelled_metadata (unwrap_or p.metadata []) ≡ m)
    own_one there =
        let own = own_metadata digest base.shard.f base.shard.index id.0 p sound there in
        (own.0, own.1.held, own.1.faults, simp own.1.held.spelled (spelled_metadata-text own.0 own.1.held.fit))

    metadata_feeds : (bytes : List ℕ) → p.metadata ≡ Some bytes → Grows no_parts id Part.Metadata bytes (metadata_frame (spelled_metadata bytes))
    metadata_feeds bytes e =
        let had = sound.metadata bytes e in by had.0 had.1.fit had.2.identifier had.3 (some_is p.metadata bytes (metadata_text had.0) e had.1.spelled)
      where
        by : (m : BlobMetadata) → IsFrame (Metadata m) → id.0 ≡ (put_id digest (Metadata m)).0 → m.f ≡ base.shard.f → bytes ≡ metadata_text m
            → Grows no_parts id Part.Metadata bytes (metadata_frame (spelled_metadata bytes))
        by m fit under faults text =
            let named : id ≡ put_id digest (Metadata m) = ap (λ (l : List ℕ). record { 0 = l }) under in
            rw (text, spelled_metadata-text m fit, named)
            (feed no_parts (Metadata m) fit tt faults (omega (arith, enough digest base.shard.f (Metadata m) some few fit tt, wide))
            (rw (← named) (live bytes Part.Metadata e)))

    sliver_feeds : (axis : Axis) (q : Parts) → q.metadata ≡ p.metadata → (bytes : List ℕ) → part_of p (sliver_part axis) ≡ Some bytes
        → let m = spelled_metadata (unwrap_or p.metadata []) in Grows q id (sliver_part axis) bytes (sliver_frame id.0 axis (held_index m.format m.f axis base.shard.index) bytes)
    sliver_feeds axis q same bytes e =
        let own = own_one (beside digest base.shard.f base.shard.index id.0 p axis sound (rw e refl)) in
        let m = own.0 in
        let holds = sound.slivers axis m bytes own.1 e in
        let index = held_index m.format m.f axis base.shard.index in
        let frame = Sliver id.0 axis index bytes in
        let v : Verifies digest base.shard.f base.shard.index q frame = (m, record { fit = own.1.fit; spelled = same ∙ own.1.spelled }, refl, holds) in
        let fit : IsFrame frame = record {
          id_size = size;
          index_most = omega (arith, holds.within, own.2, few);
          size_most = verified_short digest base.shard.f base.shard.index id.0 q axis index bytes v;
        } in
        rw own.3 (feed q frame fit tt v
        (omega (arith, enough digest base.shard.f frame some few fit (m, own.1.fit, own.2, holds), wide)) (live bytes (sliver_part axis) e))

    proof_feeds : (q : Parts) → q.metadata ≡ p.metadata → (bytes : List ℕ) → p.proof ≡ Some bytes → Grows q id Part.Proof bytes (0x13 ∷ (id.0 ++ bytes))
    proof_feeds q same bytes e =
        let own = own_one (beside_proof digest base.shard.f base.shard.index id.0 p sound (rw e refl)) in
        let m = own.0 in
        let had = sound.proof m bytes own.1 e in
        let frame = Proof id.0 had.0 in
        let fit : IsFrame frame = (size, had.1) in
        rw had.2
        (feed q frame fit tt (m, record { fit = own.1.fit; spelled = same ∙ own.1.spelled }, had.3)
        (omega (arith, enough digest base.shard.f frame some few fit (m, own.1.fit, own.2, had.3), wide)) (live bytes Part.Proof e))

    all_parts : (sofar : List (List ℕ)) → Built id no_parts sofar 0 → Room id (pages_of p)
        → Built id p ((((sofar ++ metadata_reply p) ++ sliver_payload id.0 base.shard.index p Axis.Primary) ++ sliver_payload id.0 base.shard.index p Axis.Secondary) ++ proof_reply id.0 p)
        (0 + part_cost p.metadata + part_cost p.primary + part_cost p.secondary + part_cost p.proof)
    all_parts sofar b fit =
        let within : (pages : ℕ) → pages ≤ pages_of p → Room id pages = λ pages less. fits_less base.shard.limit _ _ fit (omega (arith, less)) in
        let q1 = with_part no_parts Part.Metadata p.metadata in
        let q2 = with_part q1 Part.Primary p.primary in
        let q3 = with_part q2 Part.Secondary p.secondary in
        let b1 = feed_if no_parts id sofar 0 Part.Metadata p.metadata (λ bytes. metadata_frame (spelled_metadata bytes)) b refl metadata_feeds (within _ (omega arith)) in
        let b2 = feed_if q1 id _ _ Part.Primary p.primary _ b1 refl (sliver_feeds Axis.Primary q1 refl) (within _ (omega arith)) in
        let b3 = feed_if q2 id _ _ Part.Secondary p.secondary _ b2 refl (sliver_feeds Axis.Secondary q2 refl) (within _ (omega arith)) in
        feed_if q3 id _ _ Part.Proof p.proof (λ bytes. 0x13 ∷ (id.0 ++ bytes)) b3 refl (proof_feeds q3 refl) (within _ (omega arith))

none_of : (part : Part) → part_of no_parts part ≡ None
none_of part = grind arith

-- THE FIFTH LAW
pub rebuilds : (digest : List ℕ → List ℕ) → Rebuilds digest
rebuilds digest id room sender may_want also one other taken frames clash state placed nothing first served has =
    let st =
    standing digest id room sender also one other placed nothing first may_want taken frames clash state served in
    let had = st.fed has.entries_fit in
    let base = had.then in
    let p = parts_at state.shard.contents id in
    let own = own_entries state.ledger.log id in
    let f_is : base.shard.f ≡ one.shard.f = rw had.shard first.faults in
    let index_is : base.shard.index ≡ one.shard.index = rw had.shard first.index in
    let live : (bytes : List ℕ) (part : Part) → part_of p part ≡ Some bytes → is_live base.ledger.log id ≡ true =
    λ bytes part e.
    same_live id state.ledger.log base.ledger.log had.ledgers
    ∙ ⊎_elim (λ empty. absurd (none_some (part_of p part) bytes (rw empty.1 (none_of part)) e))
    (λ now. lt-ltb (reading state.ledger.log) (until_of state.ledger.log id) now) st.live in
    let b = all_parts digest room sender also other base placed.fits id p (rw (f_is, index_is) st.sound) placed.named_by
    (rw f_is placed.some) (rw f_is placed.few) (rw f_is placed.enough) live (entry_payloads own)
    (record {
      then = base;
      fed = had.fed;
      parts_are = rw had.shard (first.parts ∙ nothing.parts);
      ledger = refl;
      f = refl;
      index = refl;
      limit = refl;
      pages_most = omega arith;
    })
    (rw had.shard has.pages_fit) in
    let listed : (((entry_payloads own ++ metadata_reply p) ++ sliver_payload id.0 base.shard.index p Axis.Primary)
    ++ sliver_payload id.0 base.shard.index p Axis.Secondary) ++ proof_reply id.0 p ≡ kept_payloads id state
    = simp append_assoc (rw (index_is, st.index)) in (
      b.fed.answered,
      b.then,
      rw listed at b.fed.served,
      record {
        faults = b.f ∙ f_is ∙ sym st.f;
        index = b.index ∙ index_is ∙ sym st.index;
        parts = b.parts_are;
        ledgers = rw b.ledger had.ledgers;
      },
    )
