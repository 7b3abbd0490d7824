-- The lines of requests are one result of the command that answers them.
use Rattle.wal_run.proofs.Common.{truth, ◌≡◌, ⊎_elim, arith, ℕ, true, false, List, [], ◌∷◌, ◌++◌, ◌⊎◌, inl, append-nil, append_assoc, Option, Some, None, MatchOption, Err, ◌+◌, refl, sym, ap, ◌∙◌, Appends-kept, Appends-nil, Appends-trans, Appends, Keeps, flat_map-append, MetaClash, IsCollision, IsOutcome, Outcome, IsFirstRequest, get_of, gets_in, no_blobs, IsMalformed, IsStream, AppendsPart, IsFrontOf, IsResult, MayLeave, MayOwe, unreadable, PutError, Memory, Told, collides, succeeds, collision_text, malformed_text, AnswersFirst, AnswersRequests, GoOn, StopsAt, answers_text, fetching, Does, DoesTold, PutsPiece, cut, finished, lost_sink, performed, put_status, wanted_memory, written}
use Rattle.wal_reader.specs.declared.outcome.Outcome.TheVariants as read
use Rattle.wal_gateway.specs.declared.answer.Found.{Found}
use Rattle.wal_gateway.specs.declared.answer.Found.TheVariants.{Collision}
use Rattle.wal_gateway.specs.declared.answer.GetAnswer.{GetAnswer}
use Rattle.wal_gateway.specs.declared.checked.CheckedBlob.{CheckedBlob}
use Rattle.wal_gateway.specs.Getting.{AnswersGet, AnswersAll, Cache, Get, Hits, Misses, found_of, kept_blob, range_of}
use Rattle.wal_gateway.specs.Gotten.{SameGetAnswer, SameAnswers, SameFound}
use Rattle.wal_gateway.specs.declared.request.Asked.{Asked}
use Rattle.wal_gateway.proofs.OneRun.{answers_only}
use Rattle.wal_gateway.proofs.Runs.{answered_more}
use Rattle.wal_run.specs.declared.finish.PutError.TheVariants.{WriteFault}
use Rattle.wal_run.specs.Fetching.{answer_text, is_collision}
use Rattle.wal_run.proofs.Endings.{does_spelled}
use Rattle.wal_run.proofs.Parts.{part_after}
use Rattle.wal_run.proofs.CommandLaws.{Determined, Same, both_collide, same, told_so}

-- ---- answers that are collisions, and others

go_on_more : (front back : List GetAnswer) → GoOn front → GoOn back → GoOn (front ++ back)
go_on_more [] back goes more = more
go_on_more (answer ∷ front) back goes more = (goes.0, go_on_more front back goes.1 more)

-- an option that is no request is None
pub no_asked : (o : Option Asked) → ((asks : Asked) → o ≡ Some asks → ⊥) → o ≡ None
no_asked None other = refl
no_asked (Some asks) other = absurd (other asks refl)

clash_of : (found : Found) → is_collision found ≡ true → (clash : MetaClash) × (found ≡ Collision clash)
clash_of (Collision clash) is = (clash, refl)
clash_of found is = absurd cc

-- a range is none
no_range : (from size : ℕ) (bytes : List ℕ) (clash : MetaClash) → range_of from size bytes ≡ Collision clash → ⊥
no_range from size bytes clash is = grind arith

module _ (digest : List ℕ → List ℕ) where
  -- the two texts of a collision that is answered collide
  outcome_collides : (id : List ℕ) (payloads : List (List ℕ)) (from size : ℕ) (outcome : Outcome) (clash : MetaClash) → IsOutcome digest id payloads outcome
      → found_of from size outcome ≡ Collision clash → IsCollision digest clash.left clash.right
  outcome_collides id payloads from size (read.Bytes bytes) clash is same = absurd (no_range from size bytes clash same)
  outcome_collides id payloads from size (read.Collision other) clash is same =
      let one : other ≡ clash = cc in rw one at is.3
  outcome_collides id payloads from size outcome clash is same = cc

  answer_collides : (old new : Cache) (get : Get) (answer : GetAnswer) (clash : MetaClash) → AnswersGet digest old get answer new → answer.found ≡ Collision clash
      → IsCollision digest clash.left clash.right
  answer_collides old new get answer clash answers is = by (kept_blob old get.id) answers
    where
      by : (o : Option CheckedBlob) → MatchOption o (Misses digest old get answer new) (λ blob. Hits old get blob answer new) → IsCollision digest clash.left clash.right
      by None misses = outcome_collides get.id.0 get.payloads get.from get.size misses.0 clash misses.1 (sym (ap (λ (a : GetAnswer). a.found) misses.2) ∙ is)
      by (Some blob) hits = absurd (no_range get.from get.size blob.bytes clash (sym (ap (λ (a : GetAnswer). a.found) hits.0) ∙ is))

  last_collides : (start : Cache) (gets : List Get) (answers : List GetAnswer) (last : GetAnswer) (kept : Cache) (clash : MetaClash)
      → AnswersAll digest start gets (answers ++ last ∷ []) kept → last.found ≡ Collision clash → IsCollision digest clash.left clash.right
  last_collides start (get ∷ gets) [] last kept clash all is = answer_collides start all.0 get last clash all.1 is
  last_collides start (get ∷ gets) (answer ∷ answers) last kept clash all is = last_collides all.0 gets answers last kept clash all.2 is
  last_collides start [] [] last kept clash all is = absurd all
  last_collides start [] (answer ∷ answers) last kept clash all is = absurd all

  -- ---- one payload more

  text_more : (answers : List GetAnswer) (last : GetAnswer) (clash : MetaClash) → last.found ≡ Collision clash
      → answers_text (answers ++ last ∷ []) ≡ answers_text answers ++ collision_text clash.left clash.right
  text_more answers last clash is =
      rw (flat_map-append answer_text answers (last ∷ []), append-nil, is) refl

  -- the requests before the rest of the stream were answered so, none by a collision
  pub record Fetched (capacity : ℕ) (payloads : List (List ℕ)) (cache : Cache) (rest : List ℕ) (old new : Option (List ℕ)) : Type 0 where
    pub answers : List GetAnswer
    pub later : List (List ℕ)
    pub stream : IsStream later rest
    pub first : AnswersFirst digest capacity payloads answers (gets_in [] later)
    pub kept : first.kept ≡ cache
    pub put : Appends old new (answers_text answers)

  pub fetched_none : (capacity : ℕ) (payloads : List (List ℕ)) (cache : Cache) (stream : List ℕ) (old : Option (List ℕ)) → IsStream payloads stream
      → cache ≡ no_blobs capacity → Fetched capacity payloads cache stream old old
  fetched_none capacity payloads cache stream old is empty = record {
    answers = [];
    later = payloads;
    stream = is;
    first = record { first = []; parts = refl; kept = cache; answered = empty; others = tt };
    kept = refl;
    put = Appends-nil old;
  }

  abbrev Done : ℕ → List (List ℕ) → Option (List ℕ) → Option (List ℕ) → Type 0 → ℕ → Type 0
  Done capacity payloads old new SinkRose status = DoesTold digest (fetching digest capacity) payloads old new SinkRose status

  -- no request is left
  pub ends : (capacity : ℕ) (payloads : List (List ℕ)) (cache : Cache) (rest : List ℕ) (old new : Option (List ℕ)) (SinkRose : Type 0)
      → (f : Fetched capacity payloads cache rest old new) → gets_in [] f.later ≡ [] → Done capacity payloads old new SinkRose 0
  ends capacity payloads cache rest old new SinkRose f none =
      let answered = rw (none, append-nil) at f.first.parts in
      performed 0 (finished 0 0 (written _
      (succeeds _ (f.answers, (f.first.kept, rw (← answered) at f.first.answered, f.first.others), refl)) f.put))

  module _ (capacity : ℕ) (payloads : List (List ℕ)) (cache : Cache) (rest : List ℕ) (old mid : Option (List ℕ)) (f : Fetched capacity payloads cache rest old mid) (asks : Asked) (next : IsFirstRequest f.later asks) where
    abbrev get : Get
    get = get_of next.replies asks.request

    abbrev before : List ℕ
    before = answers_text f.answers

    parts_more : gets_in [] payloads ≡ (f.first.first ++ get ∷ []) ++ gets_in [] next.later
    parts_more = rw (append_assoc, ← next.gets) f.first.parts

    -- memory ran out over this request
    pub no_memory : (new : Option (List ℕ)) (SinkRose : Type 0) → Keeps mid new → Done capacity payloads old new SinkRose 5
    no_memory new SinkRose kept =
        wanted_memory before (f.answers, get, gets_in [] next.later, rw next.gets at f.first, refl)
        (Appends-kept old mid new before f.put kept)

    module _ (answer : GetAnswer) (left : Cache) (answers : AnswersGet digest cache get answer left) where
      all : AnswersAll digest (no_blobs capacity) (f.first.first ++ get ∷ []) (f.answers ++ answer ∷ []) left
      all =
          answered_more digest (no_blobs capacity) f.first.first f.answers cache get answer left
          (rw f.kept at f.first.answered) answers

      text_after : answers_text (f.answers ++ answer ∷ []) ≡ before ++ answer_text answer
      text_after = rw (flat_map-append answer_text f.answers (answer ∷ []), append-nil) refl

      abbrev first_more : is_collision answer.found ≡ false
          → AnswersFirst digest capacity payloads (f.answers ++ answer ∷ []) (gets_in [] next.later)
      first_more calm = record {
        first = f.first.first ++ get ∷ [];
        parts = parts_more;
        kept = left;
        answered = all;
        others = go_on_more f.answers (answer ∷ []) f.first.others (calm, tt);
      }

      -- its line was written, and it is no collision
      pub fetched_more : (new : Option (List ℕ)) (piece : List ℕ) → is_collision answer.found ≡ false → piece ≡ answer_text answer → Appends mid new piece
          → Fetched capacity payloads left asks.rest.now old new
      fetched_more new piece calm is put = record {
        answers = f.answers ++ answer ∷ [];
        later = next.later;
        stream = next.rest;
        first = first_more calm;
        kept = refl;
        put = rw text_after (Appends-trans old mid new before (answer_text answer) f.put (rw is at put));
      }

      -- it is one
      stopped : is_collision answer.found ≡ true → Told digest (fetching digest capacity) payloads 10 (answers_text (f.answers ++ answer ∷ []))
      stopped collides_here =
          let clash = clash_of answer.found collides_here in
          let at : StopsAt digest capacity payloads f.answers clash.0 = record {
            first = f.first.first ++ get ∷ [];
            rest = gets_in [] next.later;
            parts = parts_more;
            last = answer;
            collides = clash.1;
            kept = left;
            answered = all;
            others = f.first.others;
          } in
          rw (text_more f.answers answer clash.0 clash.1)
          (collides clash.0.left clash.0.right before
          (last_collides (no_blobs capacity) at.first f.answers answer left clash.0 all clash.1)
          (f.answers, clash.0, at, refl, refl, refl))

      -- an answer that is a collision is written, and ends the run with status 10
      pub stops : (new : Option (List ℕ)) (SinkRose : Type 0) (piece : List ℕ) → is_collision answer.found ≡ true → piece ≡ answer_text answer → Appends mid new piece
          → Done capacity payloads old new SinkRose 10
      stops new SinkRose piece collides_here is put =
          let whole = Appends-trans old mid new before (answer_text answer) f.put (rw is at put) in
          performed 10 (finished 10 10 (written _ (stopped collides_here) (rw text_after whole)))

      -- its line was not written whole
      pub ends_piece : (new : Option (List ℕ)) (LineRose SinkRose : Type 0) → (LineRose → SinkRose) → (error : PutError)
          → PutsPiece (λ t. t ≡ answer_text answer) mid new LineRose (Err error) → Done capacity payloads old new SinkRose (put_status error)
      ends_piece new LineRose SinkRose since Memory kept = no_memory new SinkRose kept
      ends_piece new LineRose SinkRose since WriteFault p =
          let part : AppendsPart old new (answers_text (f.answers ++ answer ∷ [])) =
          rw text_after (part_after old mid new before (answer_text answer) f.put (rw p.1 at p.3)) in
          ⊎_elim
          (λ collides_here. performed 7 (finished 10 7 (cut _ (stopped collides_here) (since p.2) part)))
          (λ calm.
          lost_sink _ (f.answers ++ answer ∷ [], gets_in [] next.later, first_more calm, refl) (since p.2) part)
          (truth (is_collision answer.found))

  pub malformed_is : (capacity : ℕ) (input : List ℕ) (place : ℕ) → IsMalformed place input → IsResult digest (fetching digest capacity) input 8 (malformed_text place)
  malformed_is capacity input place broken = unreadable (malformed_text place) (inl (place, broken, refl))

-- ---- answers that are the same

calm_same : (f g : Found) → is_collision f ≡ false → SameFound f g → f ≡ g
calm_same (Collision clash) g calm is = absurd cc
calm_same f g calm is = is

same_kind : (f g : Found) → SameFound f g → is_collision f ≡ is_collision g
same_kind (Collision clash) (Collision other) is = refl
same_kind f g is = ap is_collision is

same_line : (a b : GetAnswer) → is_collision a.found ≡ false → SameGetAnswer a b → answer_text a ≡ answer_text b
same_line a b calm is = rw (is.0, calm_same a.found b.found calm is.1) refl

same_text : (these those : List GetAnswer) → GoOn these → SameAnswers these those → answers_text these ≡ answers_text those
same_text [] [] goes is = refl
same_text (x ∷ these) (y ∷ those) goes is = rw (same_line x y goes.0 is.0, same_text these those goes.1 is.1) refl
same_text these those goes is = absurd is

-- answers to the first of the same requests, as far as both go
abbrev SameFirst : Type 0 → Type 0 → List GetAnswer → List GetAnswer → Type 0
SameFirst OthersMore More [] [] = Unit {0}
SameFirst OthersMore More [] those = OthersMore
SameFirst OthersMore More these [] = More
SameFirst OthersMore More (x ∷ these) (y ∷ those) = SameGetAnswer x y × SameFirst OthersMore More these those

-- where none is a collision and no request is left, the last of the others is none
no_last : (P Q : Type 0) (these front : List GetAnswer) (last : GetAnswer) → GoOn these
    → SameFirst P Q these (front ++ last ∷ []) → is_collision last.found ≡ true → P
no_last P Q [] [] last goes is clash = is
no_last P Q [] (y ∷ front) last goes is clash = is
no_last P Q (x ∷ these) [] last goes is clash = cc (goes.0, same_kind x.found last.found is.0.1, clash)
no_last P Q (x ∷ these) (y ∷ front) last goes is clash = no_last P Q these front last goes.1 is.1 clash

-- of answers that end with a collision those before it are one text
one_stop : (P Q : Type 0) (xs ys : List GetAnswer) (x y : GetAnswer) → GoOn xs → GoOn ys
    → SameFirst P Q (xs ++ x ∷ []) (ys ++ y ∷ [])
    → is_collision x.found ≡ true → is_collision y.found ≡ true → answers_text xs ≡ answers_text ys
one_stop P Q [] [] x y goes on is is_x is_y = refl
one_stop P Q [] (b ∷ ys) x y goes on is is_x is_y = absurd (cc (on.0, same_kind x.found b.found is.0.1, is_x))
one_stop P Q (a ∷ xs) [] x y goes on is is_x is_y = absurd (cc (goes.0, same_kind a.found y.found is.0.1, is_y))
one_stop P Q (a ∷ xs) (b ∷ ys) x y goes on is is_x is_y =
    rw (same_line a b goes.0 is.0, one_stop P Q xs ys x y goes.1 on.1 is.1 is_x is_y) refl

-- answers without a collision are a front of others that end with one, or that no request is left behind
front_text : (P Q : Type 0) (xs ys : List GetAnswer) → GoOn xs → SameFirst P Q xs ys → (GoOn ys → Q → ⊥)
    → IsFrontOf (answers_text xs) (answers_text ys)
front_text P Q [] ys goes is over = (answers_text ys, refl)
front_text P Q (x ∷ xs) [] goes is over = absurd (over tt is)
front_text P Q (x ∷ xs) (y ∷ ys) goes is over =
    let calm : is_collision y.found ≡ false = cc (goes.0, same_kind x.found y.found is.0.1) in
    let on = front_text P Q xs ys goes.1 is.1 (λ more. over (calm, more)) in
    (on.0, rw (same_line x y goes.0 is.0, append_assoc (answer_text y) (answers_text xs) on.0, on.1) refl)

ends_calm : (front : List GetAnswer) (last : GetAnswer) → GoOn (front ++ last ∷ []) → is_collision last.found ≡ false
ends_calm [] last goes = goes.0
ends_calm (x ∷ front) last goes = ends_calm front last goes.1

module _ (digest : List ℕ → List ℕ) where
  same_first : (start : Cache) (gets others rest more : List Get) (xs ys : List GetAnswer) (left also : Cache)
      → gets ++ rest ≡ others ++ more → AnswersAll digest start gets xs left → AnswersAll digest start others ys also
      → SameFirst (rest ≡ [] → ⊥) (more ≡ [] → ⊥) xs ys
  same_first start [] [] rest more [] [] left also e all those = tt
  same_first start [] (other ∷ others) rest more [] (b ∷ ys) left also e all those = λ none. cc
  same_first start (get ∷ gets) [] rest more (a ∷ xs) [] left also e all those = λ none. cc
  same_first start (get ∷ gets) (other ∷ others) rest more (a ∷ xs) (b ∷ ys) left also e all those =
      let same : get ≡ other = cc in
      let one = answers_only digest start (other ∷ []) (b ∷ []) those.0 (those.0, those.1, refl) (a ∷ [])
      all.0 (all.0, rw same at all.1, refl) in
      (one.0.0, same_first all.0 gets others rest more xs ys left also (cc) all.2 (rw (← one.1) at those.2))
  same_first start gets others rest more xs ys left also e all those = absurd assumption

module _ (digest : List ℕ → List ℕ) (capacity : ℕ) (payloads : List (List ℕ)) where
  not_both : (these those : List GetAnswer) (clash : MetaClash) → AnswersRequests digest capacity payloads these → StopsAt digest capacity payloads those clash → ⊥
  not_both these those clash whole at =
      no_last _ _ these those at.last whole.2
      (same_first digest (no_blobs capacity) _ at.first [] at.rest these _ whole.0 at.kept
      (append-nil _ ∙ at.parts) whole.1 at.answered) (ap is_collision at.collides) refl

  one_fetch : (s : ℕ) (x : List ℕ) (t : ℕ) (y : List ℕ) → Told digest (fetching digest capacity) payloads s x
      → Told digest (fetching digest capacity) payloads t y → Same s x t y
  one_fetch _ _ _ _ (succeeds x a) (succeeds y b) =
      let one = same_text a.0 b.0 a.1.2 (answers_only digest _ _ b.0 b.1.0 b.1.1 a.0 a.1.0 a.1.1).0 in
      same _ _ _ _ refl (a.2 ∙ one ∙ sym b.2)
  one_fetch _ _ _ _ (succeeds x a) (collides l r front clash b) = absurd (not_both a.0 b.0 b.1 a.1 b.2)
  one_fetch _ _ _ _ (collides l r front clash a) (succeeds y b) = absurd (not_both b.0 a.0 a.1 b.1 a.2)
  one_fetch _ _ _ _ (collides l r front clash a) (collides m n behind other b) =
      let one = one_stop _ _ a.0 b.0 a.2.last b.2.last a.2.others b.2.others
      (same_first digest (no_blobs capacity) a.2.first b.2.first a.2.rest b.2.rest _ _ a.2.kept b.2.kept
      (sym a.2.parts ∙ b.2.parts) a.2.answered b.2.answered)
      (ap is_collision a.2.collides) (ap is_collision b.2.collides) in
      both_collide _ _ _ _ front (record { left = l; right = r }) (record { left = m; right = n }) refl refl refl (rw (a.5, one, ← b.5) refl)
  one_fetch s x t y a b =
      let so = told_so digest (fetching digest capacity) payloads in absurd (grind (arith, so s x a, so t y b))

-- the answers to the first requests are a front of whatever is told
module _ (digest : List ℕ → List ℕ) where
  pub first_front : (capacity : ℕ) (payloads : List (List ℕ)) (answers : List GetAnswer) (rest : List Get) → AnswersFirst digest capacity payloads answers rest
      → (s : ℕ) (x : List ℕ) → Told digest (fetching digest capacity) payloads s x → IsFrontOf (answers_text answers) x
  first_front capacity payloads answers rest f _ _ (succeeds x whole) =
      rw whole.2 (front_text _ _ answers whole.0 f.others
      (same_first digest (no_blobs capacity) f.first _ rest [] answers whole.0 f.kept whole.1.0
      (sym f.parts ∙ sym (append-nil _)) f.answered whole.1.1) (λ goes more. more refl))
  first_front capacity payloads answers rest f _ _ (collides l r front clash stop) =
      let at = stop.2 in
      rw (stop.5, stop.3, stop.4, ← text_more digest stop.0 at.last stop.1 at.collides)
      (front_text _ _ answers (stop.0 ++ at.last ∷ []) f.others
      (same_first digest (no_blobs capacity) f.first at.first rest at.rest answers _ f.kept at.kept
      (sym f.parts ∙ at.parts) f.answered at.answered)
      (λ goes more. cc (ends_calm stop.0 at.last goes, ap is_collision at.collides)))
  first_front capacity payloads answers rest f s x told =
      absurd (grind (arith, told_so digest (fetching digest capacity) payloads s x told))

  -- so what is done by the payloads is done by the input
  pub done_spelled : (capacity : ℕ) (input : List ℕ) (payloads : List (List ℕ)) (old new : Option (List ℕ)) (SinkRose : Type 0) (status : ℕ) → IsStream payloads input
      → DoesTold digest (fetching digest capacity) payloads old new SinkRose status
      → Does (IsResult digest (fetching digest capacity) input) (MayLeave digest (fetching digest capacity) input) (MayOwe digest (fetching digest capacity) input) old new SinkRose status
  done_spelled capacity input payloads old new SinkRose status is d =
      does_spelled digest (fetching digest capacity) input payloads old new SinkRose status is
      (λ text left s x told. rw left.4 (first_front capacity payloads left.0 (left.1 ∷ left.2) left.3 s x told))
      (λ text owed s x told. inl (rw owed.3 (first_front capacity payloads owed.0 owed.1 owed.2 s x told))) d

pub fetched_once : (digest : List ℕ → List ℕ) (capacity : ℕ) → Determined digest (fetching digest capacity)
fetched_once digest capacity input payloads spells s x t y a b = one_fetch digest capacity payloads s x t y a b
