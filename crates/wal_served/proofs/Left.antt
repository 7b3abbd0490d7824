-- THE THIRD LAW: what is left of what was served, without what regards others, is answered exactly as before.
use Rattle.wal_served.proofs.Common.{◌≡◌, ℕ, ◌+◌, ◌≤◌, Bool, true, false, cond, List, [], ◌∷◌, ◌++◌, length, Option, Some, None, Result, Ok, Err, All, refl, sym, ◌∙◌, append-nil, arith, sum_by, false≢true, filter-append, fold_push, sum_by-append, BlobId, MetaClash, FrameError, Frame, Answer, Clash, envelope, read_of, stored_bytes, pages_for, Contents, put_id, put_part, ServedState, holding, AnswersRequest, AnswersRead, Replies, looked_at, read_past, Served, none, more, TellsWant, about_read, regarding, AlikeAt, RoomFor, part_pages, asked_entries, cost_with, Turn, turns, bytes_of, frames_of, clash_of, Chooses, left_of, tells, tells_entry, stored_pages, made_entries, ServesWhatIsLeft, All-pop, flat_map_more}
use Rattle.wal_frame.specs.Stream.{IsPayload}
use Rattle.wal_served.proofs.Costs.{stored_cost, forgotten_cost}
use Rattle.wal_served.proofs.Alike.{joined, charged_pages, charged_entries, Carried, carries, wants, read_carried, read_still, fits_less, less_room}
use Rattle.wal_served.proofs.Apart.{alike_one, leaves_alike}
use Rattle.wal_served.proofs.Replies.{Change, no_change, part_stored, slivers_went, entry_made, changes}

-- ---- what an answer takes of the room

pub record Spends (id : BlobId) (pages entries : ℕ) (old new : ServedState) : Type 0 where
  pub limit : new.shard.limit ≡ old.shard.limit
  pub pages_most : cost_with new.shard.contents id ≤ cost_with old.shard.contents id + pages
  pub entries_most : old.ledger.spare ≤ new.ledger.spare + entries

pub spends_none : (id : BlobId) (pages entries : ℕ) (old new : ServedState) → new ≡ old → Spends id pages entries old new
spends_none id pages entries old new same = rw same (record { limit = refl; pages_most = omega arith; entries_most = omega arith })

pub change_spends : (digest : List ℕ → List ℕ) (id : BlobId) (old : ServedState) (read : Result Frame FrameError) (frames : List (List ℕ)) (new : ServedState) → about_read digest read ≡ Some id
    → Change digest old read frames new → Spends id (charged_pages read frames) (charged_entries read frames) old new
change_spends digest id old read frames new named_so change = by change
  where
    pages : ℕ
    pages = charged_pages read frames

    entries : ℕ
    entries = charged_entries read frames

    here : {q : BlobId} → about_read digest read ≡ Some q → q ≡ id
    here about = cc

    now_holding : (contents : Contents) → new ≡ holding old contents → cost_with contents id ≤ cost_with old.shard.contents id + pages → Spends id pages entries old new
    now_holding contents is most = rw is (record { limit = refl; pages_most = most; entries_most = omega arith })

    by : Change digest old read frames new → Spends id pages entries old new
    by (no_change same) = spends_none id pages entries old new same
    by (part_stored frame reads part about told accepted absent is) =
        let whole = rw (here about) at (stored_cost old.shard.contents (put_id digest frame) (put_part frame) (stored_bytes frame) absent) in
        let charged : pages ≡ pages_for (length (stored_bytes frame)) = rw (told, reads) refl in
        now_holding _ (rw (here about) at is) (omega (arith, whole, charged))
    by (slivers_went q about told is) = now_holding _ (rw (here about) at is) (omega (arith, rw (here about) at (forgotten_cost old.shard.contents q)))
    by (entry_made q b about asks told may is) =
        let charged : entries ≡ 1 = rw told asks in
        rw is (record { limit = refl; pages_most = omega arith; entries_most = omega (arith, charged) })

-- what regards no identifier is answered so by any state, and changes nothing
none_same : (digest : List ℕ → List ℕ) (may_want also : Bool) (one other : ServedState) (frames : List (List ℕ)) (clash : Option MetaClash) (new : ServedState) (read : Result Frame FrameError)
    → about_read digest read ≡ None → AnswersRead digest may_want read one frames clash new → AnswersRead digest also read other frames clash other × (new ≡ one)
none_same digest may_want also one other frames clash new (Err fault) e h = ((h.0, refl), h.1)
none_same digest may_want also one other frames clash new (Ok (Answer code i j)) e h = ((h.0, refl), h.1)
none_same digest may_want also one other frames clash new (Ok (Clash left right)) e h = ((h.0, refl), h.1)
none_same digest may_want also one other frames clash new (Ok frame) e h = absurd cc

-- ---- lists

sum_push : {X : Type 0} (f : X → ℕ) (xs : List X) (y : X) → sum_by f (xs ++ y ∷ []) ≡ sum_by f xs + f y
sum_push f xs y = omega (arith, sum_by-append f xs (y ∷ []))

-- what room is there once some of it was taken
room_on : (id : BlobId) (other then : ServedState) (taken_pages pages taken_entries entries : ℕ) → RoomFor id other (taken_pages + pages) (taken_entries + entries) → Spends id taken_pages taken_entries other then
    → RoomFor id then pages entries
room_on id other then taken_pages pages taken_entries entries has spent = record {
  pages_fit = rw spent.limit (fits_less other.shard.limit _ _ has.pages_fit (omega (arith, spent.pages_most)));
  entries_fit = omega (arith, has.entries_fit, spent.entries_most);
}

-- ---- the law

module _ (digest : List ℕ → List ℕ) (id : BlobId) (keeps : List ℕ → Bool) (room : ℕ) (may_want also : Bool) (chooses : Chooses digest id keeps) where
  -- the other state answers so too
  record Answered (there : ServedState) (payload : List ℕ) (some : List (List ℕ)) (clash : Option MetaClash) (new : ServedState) : Type 0 where
    then : ServedState
    replies : Replies (AnswersRequest digest also) room there payload some clash then
    alike : AlikeAt id new then
    spends : Spends id (charged_pages (read_of payload) some) (charged_entries (read_of payload) some) there then

  one_reply : (mid there : ServedState) (payload : List ℕ) (s : List (List ℕ)) (c : Option MetaClash) (n : ServedState) → AlikeAt id mid there → keeps payload ≡ true
      → Replies (AnswersRequest digest may_want) room mid payload s c n → (TellsWant s → ⊥) → RoomFor id there (charged_pages (read_of payload) s) (charged_entries (read_of payload) s)
      → Answered there payload s c n
  one_reply mid there payload _ _ _ a keep (read_past long) calm has = record { then = there; replies = read_past long; alike = a; spends = spends_none id _ _ there there refl }
  one_reply mid there payload _ _ _ a keep (looked_at s c n few answers) calm has = by (regarding digest payload) refl
    where
      by : (r : Option BlobId) → regarding digest payload ≡ r → Answered there payload s c n
      by None e =
          let h = none_same digest may_want also mid there s c n (read_of payload) e answers in
          record { then = there; replies = looked_at s c there few h.0; alike = rw h.1 a; spends = spends_none id _ _ there there refl }
      by (Some q) e = carried (read_carried digest may_want mid there s c n calm (read_of payload) id named_so a answers)
        where
          named_so : about_read digest (read_of payload) ≡ Some id
          named_so = rw (e, chooses.no_other payload q keep e) refl

          carried : Carried digest id there (read_of payload) s c n → Answered there payload s c n
          carried (carries then is alike) = record {
            then = then;
            replies = looked_at s c then few (read_still digest there s c then also (read_of payload) is);
            alike = alike;
            spends = change_spends digest id there (read_of payload) s then named_so (changes digest false there s c then payload is);
          }
          carried (wants others want is made not) = absurd (not has)

  module _ (one other : ServedState) (alike_first : AlikeAt id one other) where
    -- what is left was served; where no two texts ended serving, it tells none
    pub record Follows (left : List Turn) (clash : Option MetaClash) (state : ServedState) : Type 0 where
      pub then : ServedState
      pub served : Served (AnswersRequest digest also) room other (bytes_of left) (frames_of left) (clash_of left) then
      pub goes_on : clash ≡ None → clash_of left ≡ None
      pub alike : AlikeAt id state then
      pub spent : Spends id (stored_pages left) (made_entries left) other then

    one_more : (left : List Turn) (mid : ServedState) → Follows left None mid → (t : Turn) (new : ServedState)
        → IsPayload t.payload → keeps t.payload ≡ true → Replies (AnswersRequest digest may_want) room mid t.payload t.answered t.clash new → (TellsWant t.answered → ⊥)
        → RoomFor id other (stored_pages (left ++ t ∷ [])) (made_entries (left ++ t ∷ [])) → Follows (left ++ t ∷ []) t.clash new
    one_more left mid f t new fits keep replies calm has =
        let pages = sum_push (λ (x : Turn). cond (tells 0 x.answered) (part_pages x.payload) 0) left t in
        let entries = sum_push (λ (x : Turn). cond (tells_entry x.answered) (asked_entries x.payload) 0) left t in
        let a = one_reply mid f.then t.payload t.answered t.clash new f.alike keep replies calm
        (room_on id other f.then _ _ _ _ (rw (pages, entries) at has) f.spent) in
        let before = rw (f.goes_on refl) at f.served in
        let ended : clash_of (left ++ t ∷ []) ≡ t.clash = fold_push (λ (c : Option MetaClash) (x : Turn). x.clash) None left t in
        record {
          then = a.then;
          served = rw (ended, ← flat_map_more (λ (x : Turn). x.answered) [] left t, ← flat_map_more (λ (x : Turn). envelope x.sender x.payload) [] left t)
              (more (bytes_of left) (frames_of left) f.then before t.sender t.payload t.answered t.clash a.then fits a.replies);
          goes_on = λ calm_so. ended ∙ calm_so;
          alike = a.alike;
          spent = record {
            limit = a.spends.limit ∙ f.spent.limit;
            pages_most = omega (arith, a.spends.pages_most, f.spent.pages_most, pages);
            entries_most = omega (arith, a.spends.entries_most, f.spent.entries_most, entries);
          };
        }

    room_before : (left : List Turn) (t : Turn) → RoomFor id other (stored_pages (left ++ t ∷ [])) (made_entries (left ++ t ∷ [])) → RoomFor id other (stored_pages left) (made_entries left)
    room_before left t has =
        let pages = sum_push (λ (x : Turn). cond (tells 0 x.answered) (part_pages x.payload) 0) left t in
        let entries = sum_push (λ (x : Turn). cond (tells_entry x.answered) (asked_entries x.payload) 0) left t in
        less_room id other _ _ _ _ has (omega (arith, pages)) (omega (arith, entries))

    served_left : (taken : List ℕ) (frames : List (List ℕ)) (clash : Option MetaClash) (state : ServedState) (served : Served (AnswersRequest digest may_want) room one taken frames clash state)
        → let left = left_of keeps (turns (AnswersRequest digest may_want) room one taken frames clash state served) in
        All (λ (t : Turn). TellsWant t.answered → ⊥) left → RoomFor id other (stored_pages left) (made_entries left) → Follows left clash state
    served_left _ _ _ _ none calm has = record { then = other; served = none; goes_on = λ e. refl; alike = alike_first; spent = spends_none id 0 0 other other refl }
    served_left _ _ _ _ (more front frames mid before sender payload some clash new fits replies) calm has = by (λ c r. served_left front frames None mid before c r) (keeps payload) refl
      where
        all : List Turn
        all = turns (AnswersRequest digest may_want) room one front frames None mid before

        t : Turn
        t = record { sender = sender; payload = payload; answered = some; clash = clash }

        L : List Turn
        L = left_of keeps all

        split : (b : Bool) → keeps payload ≡ b → left_of keeps (all ++ t ∷ []) ≡ L ++ cond b (t ∷ []) []
        split b e = rw (filter-append (λ (x : Turn). keeps x.payload) all (t ∷ []), e) refl

        left_out : keeps payload ≡ false → (s : List (List ℕ)) (c : Option MetaClash) (n : ServedState) → Replies (AnswersRequest digest may_want) room mid payload s c n → AlikeAt id mid n
        left_out e _ _ _ (read_past long) = alike_one id mid
        left_out e _ _ _ (looked_at s c n few answers) = leaves_alike digest id mid payload may_want s c n (λ same. false≢true (sym e ∙ chooses.own payload same)) answers

        by : (All (λ (x : Turn). TellsWant x.answered → ⊥) L → RoomFor id other (stored_pages L) (made_entries L) → Follows L None mid)
            → (b : Bool) → keeps payload ≡ b → Follows (left_of keeps (all ++ t ∷ [])) clash new
        by before_so false e =
            let same : left_of keeps (all ++ t ∷ []) ≡ L = split false e ∙ append-nil L in
            let f = before_so (rw same at calm) (rw same at has) in
            rw same (record { then = f.then; served = f.served; goes_on = λ e. f.goes_on refl; alike = joined id mid new f.then (left_out e some clash new replies) f.alike; spent = f.spent })
        by before_so true e =
            let calm_too = rw (split true e) at calm in
            let has_too = rw (split true e) at has in
            let (calm_front, calm_last) =
            All-pop (λ (x : Turn). TellsWant x.answered → ⊥) (L ++ t ∷ []) L (Some t) refl calm_too in
            let f = before_so calm_front (room_before L t has_too) in
            rw (split true e) (one_more L mid f t new fits e replies calm_last has_too)

pub serves_what_is_left : (digest : List ℕ → List ℕ) → ServesWhatIsLeft digest
serves_what_is_left digest id keeps room may_want also one other taken frames clash state served chooses alike calm has =
    let f = served_left digest id keeps room may_want also chooses one other alike taken frames clash state served calm has in
    (f.then, f.served, f.alike)
