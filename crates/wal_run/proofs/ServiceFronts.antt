-- What was answered before a fault ended serving is what is answered first without one.
use Rattle.wal_run.proofs.Common.{truth, ◌≡◌, ◌⊎◌, ⊎_elim, inl, inr, ℕ, ◌+◌, ◌≤◌, true, List, [], ◌∷◌, ◌++◌, length, Option, Some, None, refl, sym, ap, ◌∙◌, append_assoc, append-nil, arith, is_some, MetaClash, ServeEnd, ReadFault, WriteFault, SameButLast, Replies, Serves, Table, Compared, Longer, compared, Why, none_follows}
use Rattle.std.proofs.lemmas.List.{length-append}
use Rattle.wal_serve.specs.Determined.{is_collision}
use Rattle.wal_serve.specs.inside.Determined.{IsSingle}
use Rattle.wal_serve.specs.Serving as serving
use Rattle.wal_serve.proofs.Fronts as fronts
use Rattle.wal_serve.proofs.OneEnd as why
use Rattle.wal_serve.proofs.OneServed.{Goes, one_going, served_goes, stopped_before}

-- where two texts are among what was answered, they ended serving
clash_ends : (limit n : ℕ) (tail : List ℕ) (clash : Option MetaClash) (long : ℕ) (end : ServeEnd) → Why limit n tail clash long end → is_some clash ≡ true → is_collision end ≡ true
clash_ends limit n tail clash long end why some = grind arith

module _ {C : Type 0} (Answer : Table C) (room limit : ℕ) (fresh : C) (input : List ℕ) where
  -- these whole envelopes at the front of the input, within the limit, were answered so
  pub record Begun (frames : List (List ℕ)) (clash : Option MetaClash) : Type 0 where
    pub front : List ℕ
    pub tail : List ℕ
    pub parts : input ≡ front ++ tail
    pub within : length front ≤ limit
    pub state : C
    pub served : serving.Served Answer room fresh front frames clash state

  -- these were, and then serving ended
  pub record Over (frames : List (List ℕ)) (end : ServeEnd) : Type 0 where
    pub front : List ℕ
    pub tail : List ℕ
    pub clash : Option MetaClash
    pub long : ℕ
    pub state : C
    pub parts : input ≡ front ++ tail
    pub served : serving.Served Answer room fresh front frames clash state
    pub why : Why limit (length front) tail clash long end

  behind : (taken front part rest : List ℕ) → input ≡ taken ++ rest → taken ≡ front ++ part → input ≡ front ++ (part ++ rest)
  behind taken front part rest is parts = is ∙ ap (λ (t : List ℕ). t ++ rest) parts ∙ append_assoc front part rest

  -- behind whole envelopes, by a part of one
  ended_within : (taken front part rest tail : List ℕ) (frames : List (List ℕ)) (state : C) (end : ServeEnd) (long : ℕ)
      → input ≡ taken ++ rest
      → taken ≡ front ++ part → part ++ rest ≡ tail → serving.Served Answer room fresh front frames None state
      → Why limit (length front) tail None long end → Over frames end
  ended_within taken front part rest tail frames state end long is parts tail_is some why = record {
    front = front;
    tail = tail;
    clash = None;
    long = long;
    state = state;
    parts = rw tail_is at (behind taken front part rest is parts);
    served = some;
    why = why;
  }

  -- how serving without a fault ends
  pub over : (taken rest : List ℕ) (frames : List (List ℕ)) (state : C) (end : ServeEnd) → input ≡ taken ++ rest → Serves Answer room limit fresh taken (rest ≡ []) ⊥ ⊥ frames state end
      → Over frames end
  over taken rest frames state _ is (serving.done all within at_end) =
      record { front = taken; tail = rest; clash = None; long = 0; state = state; parts = is; served = all; why = why.done refl at_end within refl }
  over taken rest frames state _ is (serving.stopped clash before all within last) =
      record { front = taken; tail = rest; clash = Some clash; long = 0; state = state; parts = is; served = all; why = why.stopped clash refl within refl }
  over taken rest frames state _ is (serving.wrong front b parts bad some within) =
      let size : length front + 1 ≤ limit = omega (arith, ap length parts, length-append front (b ∷ []), within) in
      ended_within taken front (b ∷ []) rest _ frames state _ 1 is parts refl some
      (why.wrong b rest refl refl bad size refl)
  over taken rest frames state _ is (serving.cut front piece parts part long some within at_end) =
      let size : length front + length piece ≤ limit = omega (arith, ap length parts, length-append front piece, within) in
      ended_within taken front piece rest piece frames state _ (length piece) is parts
      (rw (at_end, append-nil) refl) some (why.cut refl part long size refl)
  over taken rest frames state _ is (serving.too_long front piece b parts part some past) =
      let size : length front + length piece ≡ limit =
      omega (arith, ap length parts, length-append front (piece ++ b ∷ []), length-append piece (b ∷ []), past) in
      ended_within taken front (piece ++ b ∷ []) rest _ frames state _ (length piece + 1) is parts refl some
      (why.too_long piece b rest refl (append_assoc piece (b ∷ []) rest) part size refl)
  over taken rest frames state _ is (serving.read_fault front piece parts part some within rose) = absurd rose
  over taken rest frames state _ is (serving.write_fault clash all within rose) = absurd rose

  -- what was answered before a read failed, and up to a write that failed
  pub read_begun : (taken rest : List ℕ) (AtEnd SourceRose SinkRose : Type 0) (frames : List (List ℕ)) (state : C) → input ≡ taken ++ rest
      → Serves Answer room limit fresh taken AtEnd SourceRose SinkRose frames state ReadFault → Begun frames None
  read_begun taken rest AtEnd SourceRose SinkRose frames state is (serving.read_fault front piece parts part some within rose) =
      record {
        front = front;
        tail = piece ++ rest;
        parts = behind taken front piece rest is parts;
        within = omega (arith, ap length parts, length-append front piece, within);
        state = state;
        served = some;
      }

  pub write_begun : (taken rest : List ℕ) (AtEnd SourceRose SinkRose : Type 0) (frames : List (List ℕ)) (state : C) → input ≡ taken ++ rest
      → Serves Answer room limit fresh taken AtEnd SourceRose SinkRose frames state WriteFault → (clash : Option MetaClash) × Begun frames clash
  write_begun taken rest AtEnd SourceRose SinkRose frames state is (serving.write_fault clash all within rose) =
      (clash, record { front = taken; tail = rest; parts = is; within = within; state = state; served = all })

  module _ (single : IsSingle Answer) where
    alone : (payload : List ℕ) (some : List (List ℕ)) (old new : C) → Replies Answer room old payload some None new → Goes Answer room (payload ∷ []) old some None new
    alone payload some old new replies = inr (some, new, replies, [], (refl, refl, refl), sym (append-nil some))

    -- what is answered to the first payloads is answered first
    first_answers : (payloads : List (List ℕ)) (payload : List ℕ) (more : List (List ℕ)) (old : C) (frames others : List (List ℕ)) (second : Option MetaClash) (new then : C)
        → Goes Answer room payloads old frames None new → Goes Answer room (payloads ++ payload ∷ more) old others second then → (rest : List (List ℕ)) × (others ≡ frames ++ rest)
    first_answers [] payload more old frames others second new then a b = (others, ap (λ (t : List (List ℕ)). t ++ others) (sym a.0))
    first_answers (first ∷ payloads) payload more old frames others second new then (inl a) b = absurd (cc a.is)
    first_answers (first ∷ payloads) payload more old frames others second new then (inr a) (inl b) =
        absurd (omega (arith, ap length b.alone, length-append payloads (payload ∷ more)))
    first_answers (first ∷ payloads) payload more old frames others second new then (inr (head, mid, replies, rest, goes, is)) (inr (some, here, answers, after, goes_on, also)) =
        let one = one_going Answer room single (first ∷ []) old head some None None mid here (alone first head old mid replies) (alone first some old here answers) in
        let next = first_answers payloads payload more here rest after second new then (rw one.state at goes) goes_on in
        (next.0, cc (also, one.frames refl, next.1, is, append_assoc head rest next.0))

    -- two texts end serving, so that no more is answered
    calm_first : (clash second : Option MetaClash) (payloads : List (List ℕ)) (payload : List ℕ) (more frames others : List (List ℕ)) (new then : C)
        → Goes Answer room payloads fresh frames clash new → Goes Answer room (payloads ++ payload ∷ more) fresh others second then → clash ≡ None
    calm_first None second payloads payload more frames others new then a b = refl
    calm_first (Some texts) second payloads payload more frames others new then a b =
        absurd (stopped_before Answer room single payloads payload more fresh frames others (Some texts) second texts new then refl a b)

    -- a front of all frames, or all but for the two texts in the last one
    abbrev pub FrontOrClash : List (List ℕ) → List (List ℕ) → Option MetaClash → ServeEnd → Type 0
    FrontOrClash frames others clash end =
        ((rest : List (List ℕ)) × (others ≡ frames ++ rest)) ⊎ ((is_some clash ≡ true) × (is_collision end ≡ true) × SameButLast frames others)

    module _ (frames others : List (List ℕ)) (clash : Option MetaClash) (end : ServeEnd) (a : Begun frames clash) (b : Over others end) (ps qs : List (List ℕ)) (begun : Goes Answer room ps fresh frames clash a.state) (whole : Goes Answer room qs fresh others b.clash b.state) where
      as_many : ps ≡ qs → FrontOrClash frames others clash end
      as_many same =
          let one = one_going Answer room single qs fresh frames others _ _ _ _ (rw same at begun) whole in
          ⊎_elim
          (λ is.
          inr (is, clash_ends limit (length b.front) b.tail b.clash b.long end b.why (sym one.stops ∙ is), one.last is))
          (λ is. inl ([], sym (one.frames is) ∙ sym (append-nil frames))) (truth (is_some clash))

      fewer : Longer ps a.front a.tail qs b.front → FrontOrClash frames others clash end
      fewer l =
          let calm = calm_first clash b.clash ps l.payload l.others frames others a.state b.state begun (rw l.parts at whole) in
          inl (first_answers ps l.payload l.others fresh frames others b.clash a.state b.state (rw calm at begun)
          (rw l.parts at whole))

      none_more : Longer qs b.front b.tail ps a.front → ⊥
      none_more l =
          let calm = calm_first b.clash clash qs l.payload l.others others frames b.state a.state whole (rw l.parts at begun) in
          none_follows limit (length b.front) (length a.front) b.tail b.clash b.long end l.sender l.payload l.after b.why
          calm l.fits l.begins l.within a.within

      as_compared : Compared ps a.front a.tail qs b.front b.tail → FrontOrClash frames others clash end
      as_compared (fronts.same payloads sizes tails) = as_many payloads
      as_compared (fronts.less l) = fewer l
      as_compared (fronts.more l) = absurd (none_more l)

    -- WHAT WAS ANSWERED before a fault is a front of what is answered without one
    pub front_or_clash : (frames others : List (List ℕ)) (clash : Option MetaClash) (end : ServeEnd) → Begun frames clash → Over others end → FrontOrClash frames others clash end
    front_or_clash frames others clash end a b =
        let begun = served_goes Answer room fresh a.front frames clash a.state a.served in
        let whole = served_goes Answer room fresh b.front others b.clash b.state b.served in
        as_compared frames others clash end a b begun.0 whole.0 begun.2 whole.2
        (compared begun.0 whole.0 a.front a.tail b.front b.tail begun.1 whole.1 (sym a.parts ∙ b.parts))
