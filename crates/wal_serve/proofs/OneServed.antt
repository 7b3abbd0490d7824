-- A table that has one answer to each payload serves payloads in one way.
use Rattle.wal_serve.proofs.Common.{◌≡◌, ◌⊎◌, ℕ, inl, inr, List, [], ◌∷◌, ◌++◌, length, Option, Some, None, refl, sym, ap, subst, ◌∙◌, append_assoc, append-nil, arith, true≢false, false≢true, length-append, is_some, MetaClash, IsStream, stream_grows, clash_text, Table, Replies, Served, IsSingle, SameAnswer}
use Rattle.wal_serve.proofs.Fronts.{Compared, Longer, compared}

module _ {C : Type 0} (Answer : Table C) (room : ℕ) where
  -- the first payload stops serving
  pub record Stops (old : C) (payload : List ℕ) (payloads frames : List (List ℕ)) (clash : Option MetaClash) (new : C) : Type 0 where
    pub alone : payloads ≡ []
    pub texts : MetaClash
    pub is : clash ≡ Some texts
    pub replies : Replies Answer room old payload frames clash new

  -- payloads are answered one after the other, from the first one on, until one stops serving
  abbrev pub Goes : List (List ℕ) → C → List (List ℕ) → Option MetaClash → C → Type 0
  Goes [] old frames clash new = (frames ≡ []) × (clash ≡ None) × (new ≡ old)
  Goes (payload ∷ payloads) old frames clash new =
      Stops old payload payloads frames clash new
      ⊎ ((some : List (List ℕ)) × (mid : C) × Replies Answer room old payload some None mid × (rest : List (List ℕ)) × Goes payloads mid rest clash new × (frames ≡ some ++ rest))

  -- one more payload at the end
  one_more : (payload : List ℕ) (some : List (List ℕ)) (clash : Option MetaClash) (old new : C) → Replies Answer room old payload some clash new → Goes (payload ∷ []) old some clash new
  one_more payload some None old new replies = inr (some, new, replies, [], (refl, refl, refl), sym (append-nil some))
  one_more payload some (Some texts) old new replies = inl (record { alone = refl; texts = texts; is = refl; replies = replies })

  goes_more : (payloads : List (List ℕ)) (payload : List ℕ) (frames some : List (List ℕ)) (clash : Option MetaClash) (old mid new : C) → Goes payloads old frames None mid
      → Replies Answer room mid payload some clash new → Goes (payloads ++ payload ∷ []) old (frames ++ some) clash new
  goes_more [] payload frames some clash old mid new goes replies = rw goes.0 (one_more payload some clash old new (rw goes.2 at replies))
  goes_more (first ∷ payloads) payload frames some clash old mid new (inl stops) replies = absurd (cc (stops.is))
  goes_more (first ∷ payloads) payload frames some clash old mid new (inr (head, then, answered, rest, goes, is)) replies =
      inr (
        head,
        then,
        answered,
        rest ++ some,
        goes_more payloads payload rest some clash then mid new goes replies,
        ap (λ (t : List (List ℕ)). t ++ some) is ∙ append_assoc head rest some,
      )

  -- what was served is the envelopes of payloads that were answered so
  pub served_goes : (fresh : C) (taken : List ℕ) (frames : List (List ℕ)) (clash : Option MetaClash) (state : C) → Served Answer room fresh taken frames clash state
      → (payloads : List (List ℕ)) × IsStream payloads taken × Goes payloads fresh frames clash state
  served_goes fresh _ _ _ _ Served.none = ([], refl, (refl, refl, refl))
  served_goes fresh _ _ _ _ (Served.more front frames mid before sender payload some clash new fits replies) =
      let first = served_goes fresh front frames None mid before in (
        first.0 ++ payload ∷ [],
        stream_grows first.0 front sender payload first.1 fits,
        goes_more first.0 payload frames some clash fresh mid new first.2 replies,
      )

  module _ (single : IsSingle Answer) where
    one_reply : (old : C) (payload : List ℕ) (frames others : List (List ℕ)) (clash second : Option MetaClash) (new then : C) → Replies Answer room old payload frames clash new
        → Replies Answer room old payload others second then → SameAnswer frames others clash second new then
    one_reply old payload frames others clash second new then (Replies.looked_at f c n few is) (Replies.looked_at g d m less also) = single old payload f g c d n m is also
    one_reply old payload frames others clash second new then (Replies.read_past many) (Replies.read_past much) =
        record { stops = refl; frames = λ calm. refl; last = λ stops. absurd (false≢true stops); state = refl }
    one_reply old payload frames others clash second new then (Replies.looked_at f c n few is) (Replies.read_past many) = absurd (omega (arith, few, many))
    one_reply old payload frames others clash second new then (Replies.read_past many) (Replies.looked_at g d m less also) = absurd (omega (arith, less, many))

    -- one of two stops serving
    not_both : (old : C) (payload : List ℕ) (frames others : List (List ℕ)) (clash : Option MetaClash) (texts : MetaClash) (new then : C) → clash ≡ Some texts
        → Replies Answer room old payload frames clash new → Replies Answer room old payload others None then → ⊥
    not_both old payload frames others clash texts new then is replies goes =
        true≢false (sym (ap is_some is) ∙ (one_reply old payload frames others clash None new then replies goes).stops)

    both_go : (head first frames others rest more : List (List ℕ)) (clash second : Option MetaClash) (new then : C) → head ≡ first → frames ≡ head ++ rest → others ≡ first ++ more
        → SameAnswer rest more clash second new then → SameAnswer frames others clash second new then
    both_go head first frames others rest more clash second new then one is also same = record {
      stops = same.stops;
      frames = λ calm. cc (is, one, same.frames calm, also);
      last = λ stops.
          let last = same.last stops in
          record {
            front = first ++ last.front;
            one = last.one;
            other = last.other;
            ends = cc (is, one, last.ends, append_assoc first last.front (clash_text last.one ∷ []));
            ends_too = cc (also, last.ends_too, append_assoc first last.front (clash_text last.other ∷ []));
          };
      state = same.state;
    }

    -- payloads that are answered from one state have one answer
    pub one_going : (payloads : List (List ℕ)) (old : C) (frames others : List (List ℕ)) (clash second : Option MetaClash) (new then : C) → Goes payloads old frames clash new
        → Goes payloads old others second then → SameAnswer frames others clash second new then
    one_going [] old frames others clash second new then a b = record {
      stops = ap is_some (a.1 ∙ sym b.1);
      frames = λ calm. a.0 ∙ sym b.0;
      last = λ stops. absurd (false≢true (sym (ap is_some a.1) ∙ stops));
      state = a.2 ∙ sym b.2;
    }
    one_going (payload ∷ payloads) old frames others clash second new then (inl a) (inl b) = one_reply old payload frames others clash second new then a.replies b.replies
    one_going (payload ∷ payloads) old frames others clash second new then (inl a) (inr (first, here, replies, more, goes, is)) =
        absurd (not_both old payload frames first clash a.texts new here a.is a.replies replies)
    one_going (payload ∷ payloads) old frames others clash second new then (inr (head, mid, replies, rest, goes, is)) (inl b) =
        absurd (not_both old payload others head second b.texts then mid b.is b.replies replies)
    one_going (payload ∷ payloads) old frames others clash second new then (inr (head, mid, replies, rest, goes, is)) (inr (first, here, answers, more, goes_on, also)) =
        let one = one_reply old payload head first None None mid here replies answers in
        both_go head first frames others rest more clash second new then (one.frames refl) is also
        (one_going payloads here rest more clash second new then (subst (λ (c : C). Goes payloads c rest clash new) one.state goes) goes_on)

    -- nothing is answered behind what stopped serving
    pub stopped_before : (payloads : List (List ℕ)) (payload : List ℕ) (more : List (List ℕ)) (old : C) (frames others : List (List ℕ)) (clash second : Option MetaClash) (texts : MetaClash) (new then : C)
        → clash ≡ Some texts → Goes payloads old frames clash new → Goes (payloads ++ payload ∷ more) old others second then → ⊥
    stopped_before [] payload more old frames others clash second texts new then is a b = absurd (cc (a.1, is))
    stopped_before (first ∷ payloads) payload more old frames others clash second texts new then is a (inl b) = omega (arith, ap length b.alone, length-append payloads (payload ∷ more))
    stopped_before (first ∷ payloads) payload more old frames others clash second texts new then is (inl a) (inr (head, here, replies, rest, goes, also)) =
        not_both old first frames head clash texts new here is a.replies replies
    stopped_before (first ∷ payloads) payload more old frames others clash second texts new then is (inr (some, mid, answers, rest, goes, is_all)) (inr (head, here, replies, behind, goes_on, also)) =
        let one = one_reply old first some head None None mid here answers replies in
        stopped_before payloads payload more here rest behind clash second texts new then is (subst (λ (c : C). Goes payloads c rest clash new) one.state goes) goes_on

  module _ (fresh : C) (input : List ℕ) where
    -- the envelopes of these payloads stand at the front and were answered so, and this is why no more were
    pub record Went (Why : ℕ → List ℕ → Option MetaClash → Type 0) (frames : List (List ℕ)) (state : C) : Type 0 where
      pub front : List ℕ
      pub tail : List ℕ
      pub payloads : List (List ℕ)
      pub clash : Option MetaClash
      pub parts : input ≡ front ++ tail
      pub stream : IsStream payloads front
      pub goes : Goes payloads fresh frames clash state
      pub why : Why (length front) tail clash

module _ {C : Type 0} {Answer : Table C} {room : ℕ} {fresh : C} {input : List ℕ} {Why : ℕ → List ℕ → Option MetaClash → Type 0} where
  -- a front of the input was served, and this is why no more was
  pub went : {front : List ℕ} {frames : List (List ℕ)} {clash : Option MetaClash} {state : C} (tail : List ℕ) → input ≡ front ++ tail
      → Served Answer room fresh front frames clash state → Why (length front) tail clash → Went Answer room fresh input Why frames state
  went {front} {frames} {clash} {state} tail parts served why =
      let goes = served_goes Answer room fresh front frames clash state served in
      record { front = front; tail = tail; payloads = goes.0; clash = clash; parts = parts; stream = goes.1; goes = goes.2; why = why }

  -- two that neither went on where the other one ended were answered in one way
  pub both_went : IsSingle Answer → {Also : ℕ → List ℕ → Option MetaClash → Type 0} {xs ys : List (List ℕ)} {new then : C}
      (a : Went Answer room fresh input Why xs new) (b : Went Answer room fresh input Also ys then) → (Longer a.payloads a.front a.tail b.payloads b.front → ⊥)
      → (Longer b.payloads b.front b.tail a.payloads a.front → ⊥)
      → SameAnswer xs ys a.clash b.clash new then × (length a.front ≡ length b.front) × (a.tail ≡ b.tail)
  both_went single {xs} {ys} {new} {then} a b no_more no_less =
      by (compared a.payloads b.payloads a.front a.tail b.front b.tail a.stream b.stream (sym a.parts ∙ b.parts))
    where
      by : Compared a.payloads a.front a.tail b.payloads b.front b.tail
          → SameAnswer xs ys a.clash b.clash new then × (length a.front ≡ length b.front) × (a.tail ≡ b.tail)
      by (Compared.same payloads sizes tails) =
          let goes = rw payloads at a.goes in
          (one_going Answer room single b.payloads fresh xs ys a.clash b.clash new then goes b.goes, sizes, tails)
      by (Compared.less l) = absurd (no_more l)
      by (Compared.more l) = absurd (no_less l)
