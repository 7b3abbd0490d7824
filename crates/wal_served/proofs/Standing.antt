-- What a shard comes to that began with nothing of an identifier: what it holds is sound and live, and its entries may be fed alone.
use Rattle.wal_served.proofs.Common.{◌≡◌, ℕ, ◌+◌, ◌<◌, ◌≤◌, ◌^◌, Bool, false, max, List, [], ◌∷◌, ◌++◌, length, Option, Some, None, ◌⊎◌, inl, inr, refl, sym, ap, ◌∙◌, arith, flat_map, cases_lt, ltb-true, false≢true, BlobId, MetaClash, Frame, Metadata, Sliver, Proof, RegisterEntry, AckEntry, AttestEntry, IsFrame, IsId, frame_text, envelope, read_of, stored_bytes, frame_is, read_again, AckAnswer, Entry, Body, Kind, Holds, Denies, committee_size, quorum_size, Log, LedgerState, reading, writing, is_moving, own_entries, until_of, until_among, until_in, signer_count, entered, takes_in, Claims, acked, claim_of, id_itself, id_same, until_push, entry_in, plain_stays, Owned, stays, grows, anew, owned, Parts, no_parts, part_of, with_part, Contents, parts_at, part_at, with_bytes, IsSound, CanBePut, IsAccepted, Verifies, put_id, put_part, desk, without_slivers, sliver_then, proof_then, ServedState, holding, with_ledger, done, ack_reply, Entered, of_committee, AnswersRequest, AnswersFrame, AsksOnly, Replies, looked_at, read_past, Served, more, asks, about_read, AlikeLedgers, AlikeAt, HasNothing, entry_frame, frame_payload, entry_payloads, IsPlaced, ⊎_elim, RegisterAnswer, Axis, Part, length-append, flat_map_more}
use Rattle.wal_shard.proofs.Soundness.{none_sound, metadata_sound, without_sliver_sound}
use Rattle.wal_served.proofs.Replies.{Reply, of_claim, Enterable, to_register, to_claim, enter_plain, enter_names, Change, no_change, part_stored, slivers_went, entry_made, changes}
use Rattle.wal_served.proofs.AlikeLedgers.{joined_ledgers, both_entered, claim_too, register_too}
use Rattle.wal_served.proofs.Alike.{the_one}
use Rattle.wal_served.proofs.Apart.{stored_there, slivers_gone, changed_elsewhere}

-- ---- an entry that may be made, at another ledger

-- the request that makes it, and what is answered
record Enters (digest : List ℕ → List ℕ) (also : Bool) (t : ServedState) (b : Body) : Type 0 where
  frame : Frame
  is : entry_frame b ≡ Some frame
  fits : IsFrame frame
  only : AsksOnly frame
  answered : List (List ℕ)
  answers : AnswersFrame digest also frame t answered None (with_ledger t (takes_in t.ledger b))

enters : (digest : List ℕ → List ℕ) (also : Bool) (id : BlobId) (s t : ServedState) (b : Body) → AlikeLedgers id s.ledger.log t.ledger.log → IsId id.0 → s.ledger.log.f ≤ 333
    → s.shard.index < committee_size s.ledger.log.f → 0 < t.ledger.spare → Enterable s id b → Enters digest also t b
enters digest also id s t _ a size few place some (to_register until may low) = record {
  frame = RegisterEntry id.0 until;
  is = refl;
  fits = (size, low);
  only = tt;
  answered = _;
  answers = (done _, _, (RegisterAnswer.Registered _, (register_too id s.ledger t.ledger a until may, some, refl, refl), refl), (refl, refl), refl);
}
enters digest also id s t _ a size few place some (to_claim kind shard may where_it_is) =
    let now = claim_too id s.ledger.log t.ledger.log a kind shard may in
    elim (cases_lt (signer_count new.log id kind (writing new.log)) (quorum_size t.ledger.log.f)) [
      | inl less ↦ claimed (AckAnswer.Counted _) ((now, some, refl, refl), less)
      | inr many ↦ claimed (AckAnswer.Certified _) ((now, some, refl, refl), many)
    ]
  where
    new : LedgerState
    new = takes_in t.ledger (claim_of kind shard id)

    within : shard < committee_size s.ledger.log.f
    within = ⊎_elim (λ is. is) (λ same. rw same place) where_it_is

    most : shard ≤ 999
    most = omega (arith, within, few)

    by : (k : Kind) (r : Reply) → Entered k t.ledger shard id r (takes_in t.ledger (claim_of k shard id)) → Enters digest also t (claim_of k shard id)
    by Holds r h = record { frame = AckEntry shard id.0; is = refl; fits = record { id_size = size; index_most = most }; only = tt; answered = _; answers = (r, _, h, (refl, refl), refl) }
    by Denies r h = record { frame = AttestEntry shard id.0; is = refl; fits = record { id_size = size; index_most = most }; only = tt; answered = _; answers = (r, _, h, (refl, refl), refl) }

    claimed : (answer : AckAnswer) → Claims kind t.ledger shard id (acked answer) new → Enters digest also t (claim_of kind shard id)
    claimed answer h =
        by kind (ack_reply answer)
        (of_committee _ _ (rw a.faults within) (of_claim kind t.ledger shard id _ new (answer, h, refl)))

about_or_not : (o : Option BlobId) (id : BlobId) → (o ≡ Some id) ⊎ (o ≡ Some id → ⊥)
about_or_not None id = inr (λ e. cc)
about_or_not (Some q) id = grind (arith, id_same q id, id_itself id)

-- a part that verifies beside sound ones
sound_then : (digest : List ℕ → List ℕ) (f shard : ℕ) (p : Parts) (frame : Frame) → IsFrame frame → CanBePut frame → Verifies digest f shard p frame → part_of p (put_part frame) ≡ None
    → IsSound digest f (put_id digest frame).0 shard p → IsSound digest f (put_id digest frame).0 shard (with_part p (put_part frame) (Some (stored_bytes frame)))
sound_then digest f shard p (Metadata m) fit part v none sound = metadata_sound digest f shard (put_id digest (Metadata m)).0 p m (record { fit = fit; identifier = refl }) v none sound
sound_then digest f shard p (Sliver name axis index bytes) fit part v none sound = sliver_then digest f shard name p axis index bytes v sound
sound_then digest f shard p (Proof name q) fit part v none sound = proof_then digest f shard name p q v fit.1 sound
sound_then digest f shard p frame fit part v none sound = absurd part

-- ---- payloads that are fed

module _ (digest : List ℕ → List ℕ) (room sender : ℕ) (also : Bool) (other : ServedState) where
  pub record Fed (sofar : List (List ℕ)) (then : ServedState) : Type 0 where
    pub answered : List (List ℕ)
    pub served : Served (AnswersRequest digest also) room other (flat_map (envelope sender) sofar) answered None then

  -- one more
  pub fed_one : (sofar : List (List ℕ)) (payload : List ℕ) (t new : ServedState) (answered : List (List ℕ)) → room < 2 ^ 32 → Fed sofar t → length payload ≤ room
      → AnswersRequest digest also t payload answered None new → Fed (sofar ++ payload ∷ []) new
  fed_one sofar payload t new answered short_room fed within answers = record {
    answered = fed.answered ++ answered;
    served = rw (← flat_map_more (envelope sender) [] sofar payload)
        (more _ fed.answered t fed.served sender payload answered None new (omega arith) (looked_at answered None new within answers));
  }

module _ (digest : List ℕ → List ℕ) (id : BlobId) (room sender : ℕ) (also : Bool) (one other : ServedState) (placed : IsPlaced id room one) (nothing : HasNothing id one) (first : AlikeAt id one other) where
  -- the other shard was fed with the entries
  pub record FedWith (log : Log) : Type 0 where
    pub then : ServedState
    pub fed : Fed digest room sender also other (entry_payloads (own_entries log id)) then
    pub ledgers : AlikeLedgers id log then.ledger.log
    pub shard : then.shard ≡ other.shard
    pub spare : then.ledger.spare + length (own_entries log id) ≡ other.ledger.spare

  abbrev SoundParts : Parts → Type 0
  SoundParts p = IsSound digest one.shard.f id.0 one.shard.index p

  abbrev pub Live : Log → Parts → Type 0
  Live log p = ((own_entries log id ≡ []) × (p ≡ no_parts)) ⊎ (reading log < until_of log id)

  pub record Standing (s : ServedState) : Type 0 where
    pub f : s.shard.f ≡ one.shard.f
    pub index : s.shard.index ≡ one.shard.index
    pub faults : s.ledger.log.f ≡ one.ledger.log.f
    pub moving : is_moving s.ledger.log ≡ false
    pub sound : SoundParts (parts_at s.shard.contents id)
    pub live : Live s.ledger.log (parts_at s.shard.contents id)
    pub fed : length (own_entries s.ledger.log id) ≤ other.ledger.spare → FedWith s.ledger.log

  at_start : Standing one
  at_start = record {
    f = refl;
    index = refl;
    faults = refl;
    moving = placed.serves;
    sound = rw nothing.parts (none_sound digest one.shard.f one.shard.index id.0);
    live = inl (nothing.entries, nothing.parts);
    fed = λ few. record {
      then = other;
      fed = rw nothing.entries (record { answered = []; served = Served.none });
      ledgers = first.ledgers;
      shard = refl;
      spare = omega (arith, ap length nothing.entries);
    };
  }

  -- a state that is alike stands so too
  alike_stands : (s n : ServedState) → AlikeAt id s n → Standing s → Standing n
  alike_stands s n a st = record {
    f = a.faults ∙ st.f;
    index = a.index ∙ st.index;
    faults = a.ledgers.faults ∙ st.faults;
    moving = a.ledgers.moving ∙ st.moving;
    sound = rw a.parts st.sound;
    live =
        ⊎_elim (λ none. inl (a.ledgers.own ∙ none.0, a.parts ∙ none.1))
        (λ now. inr (omega (arith, now, a.ledgers.epoch, ap until_among a.ledgers.own))) st.live;
    fed = λ few.
        let had = st.fed (rw a.ledgers.own at few) in
        record {
          then = had.then;
          fed = rw a.ledgers.own had.fed;
          ledgers = joined_ledgers id s.ledger.log n.ledger.log had.then.ledger.log a.ledgers had.ledgers;
          shard = had.shard;
          spare = rw a.ledgers.own had.spare;
        };
  }

  module _ (s : ServedState) (st : Standing s) where
    -- ---- what is held

    held_changes : (c : Contents) → SoundParts (parts_at c id) → Live s.ledger.log (parts_at c id) → Standing (holding s c)
    held_changes c sound live = record { f = st.f; index = st.index; faults = st.faults; moving = st.moving; sound = sound; live = live; fed = st.fed }

    stored_here : (frame : Frame) → IsFrame frame → CanBePut frame → put_id digest frame ≡ id → IsAccepted digest (desk s.shard s.ledger.log) s.shard.contents frame
        → part_at s.shard.contents (put_id digest frame) (put_part frame) ≡ None → Standing (holding s (with_bytes s.shard.contents (put_id digest frame) (put_part frame) (stored_bytes frame)))
    stored_here frame fit part under accepted none =
        let q = put_id digest frame in
        let p = parts_at s.shard.contents q in
        let v : Verifies digest one.shard.f one.shard.index p frame = simp (st.f, st.index) at accepted.verified in
        let before : IsSound digest one.shard.f q.0 one.shard.index p = rw under st.sound in
        let then : IsSound digest one.shard.f q.0 one.shard.index (parts_at (with_bytes s.shard.contents q (put_part frame) (stored_bytes frame)) q) =
        rw (stored_there s.shard.contents q (put_part frame) (stored_bytes frame)) (sound_then digest one.shard.f one.shard.index p frame fit part v none before) in
        held_changes _ (rw (← under) then) (inr (ltb-true _ _ (rw under at accepted.live)))

    went_here : Standing (holding s (without_slivers s.shard.contents id))
    went_here =
        let c = s.shard.contents in
        held_changes (without_slivers c id)
        (rw (slivers_gone c id) (without_sliver_sound digest one.shard.f one.shard.index id.0 Axis.Secondary (with_part (parts_at c id) Part.Primary None)
        (without_sliver_sound digest one.shard.f one.shard.index id.0 Axis.Primary (parts_at c id) st.sound)))
        (⊎_elim (λ none. inl (none.0, rw (slivers_gone c id, none.1))) (λ now. inr now) st.live)

    -- ---- entries

    module _ (b : Body) (may : Enterable s id b) where
      abbrev own : List Entry
      own = own_entries s.ledger.log id

      abbrev last : Entry
      last = entry_in s.ledger.log b

      one_more_own : own_entries (entered s.ledger.log b) id ≡ own ++ last ∷ []
      one_more_own = by (own_entries (entered s.ledger.log b) id) (owned s.ledger.log b id) st.live
        where
          by : (l : List Entry) → Owned s.ledger.log b id l → Live s.ledger.log (parts_at s.shard.contents id) → l ≡ own ++ last ∷ []
          by l (stays is n) live = absurd (false≢true (sym n ∙ enter_names s id id b may ∙ id_itself id))
          by l (grows is n still) live = is
          by l (anew is n registers le) (inl nothing_yet) = rw nothing_yet.0 is
          by l (anew is n registers le) (inr now) = absurd (omega arith)

      -- it is live then
      alive : reading (entered s.ledger.log b) < until_of (entered s.ledger.log b) id
      alive = omega (
        arith,
        (plain_stays s.ledger.log b (enter_plain s id b may)).reading,
        ap until_among one_more_own,
        until_push own last,
        least b may,
      )
        where
          least : (x : Body) → Enterable s id x → reading s.ledger.log < max (until_of s.ledger.log id) (until_in x)
          least _ (to_register until m low) = omega (arith, m.beyond)
          least _ (to_claim kind shard m place) = omega (arith, ltb-true (reading s.ledger.log) (until_of s.ledger.log id) m.open_to_claims.live)

      fed_more : length (own_entries (entered s.ledger.log b) id) ≤ other.ledger.spare → FedWith (entered s.ledger.log b)
      fed_more few = by (st.fed (omega (arith, few, sizes))) (omega (arith, few, sizes))
        where
          sizes : length (own_entries (entered s.ledger.log b) id) ≡ length own + 1
          sizes = rw one_more_own (length-append own (last ∷ []))

          by : FedWith s.ledger.log → length own < other.ledger.spare → FedWith (entered s.ledger.log b)
          by had few_own =
              let t = had.then in
              let place : s.shard.index < committee_size s.ledger.log.f = rw (st.index, st.faults, placed.one) placed.place in
              let e = enters digest also id s t b had.ledgers placed.named_by (omega (arith, st.faults, placed.one, placed.few)) place (omega (arith, had.spare, few_own)) may in
              let new = with_ledger t (takes_in t.ledger b) in
              let answers : AnswersRequest digest also t (frame_text e.frame) e.answered None new = rw (read_again e.frame e.fits) e.answers in
              let short = asks one.shard.f e.frame placed.some placed.few e.fits e.only in
              let whole = fed_one digest room sender also other (entry_payloads own) (frame_text e.frame) t new e.answered placed.fits had.fed (omega (arith, short, placed.enough)) answers in
              record {
                then = new;
                fed = rw (one_more_own, ← flat_map_more (λ (x : Entry). frame_payload (entry_frame x.body)) [] own last, e.is) whole;
                ledgers = both_entered id s.ledger.log t.ledger.log had.ledgers b (enter_plain s id b may);
                shard = had.shard;
                spare = omega (arith, had.spare, few_own, sizes);
              }

      entry_here : Standing (with_ledger s (takes_in s.ledger b))
      entry_here = record {
        f = st.f;
        index = st.index;
        faults = st.faults;
        moving = (plain_stays s.ledger.log b (enter_plain s id b may)).moving ∙ st.moving;
        sound = st.sound;
        live = inr alive;
        fed = fed_more;
      }

    -- ---- each change

    changed : (payload : List ℕ) (frames : List (List ℕ)) (new : ServedState) → Change digest s (read_of payload) frames new → Standing new
    changed payload frames new change =
        ⊎_elim (λ about. here about change)
        (λ not. alike_stands s new (changed_elsewhere digest id s (read_of payload) frames new not change) st)
        (about_or_not (about_read digest (read_of payload)) id)
      where
        here : about_read digest (read_of payload) ≡ Some id → Change digest s (read_of payload) frames new → Standing new
        here about (no_change same) = rw same st
        here about (part_stored frame reads part so told accepted absent is) =
            rw is (stored_here frame (frame_is payload frame reads).fits part (the_one _ id (sym so ∙ about)) accepted absent)
        here about (slivers_went q so told is) = rw (is, the_one q id (sym so ∙ about)) went_here
        here about (entry_made q b so asks_one told may is) = rw is (entry_here b (rw (the_one q id (sym so ∙ about)) at may))

  -- whatever was served
  pub standing : (may_want : Bool) (taken : List ℕ) (frames : List (List ℕ)) (clash : Option MetaClash) (state : ServedState) → Served (AnswersRequest digest may_want) room one taken frames clash state → Standing state
  standing may_want _ _ _ _ Served.none = at_start
  standing may_want _ _ _ _ (more front frames mid before sent payload some clash new fits replies) = by (standing may_want front frames None mid before) replies
    where
      by : {s : List (List ℕ)} {c : Option MetaClash} {n : ServedState} → Standing mid → Replies (AnswersRequest digest may_want) room mid payload s c n → Standing n
      by st (read_past long) = st
      by st (looked_at s c n few answers) = changed mid st payload s n (changes digest may_want mid s c n payload answers)
