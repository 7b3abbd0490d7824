-- A command has one result for an input, but for the texts of a collision, where all that is spelled has.
use Rattle.wal_run.proofs.Common.{◌≡◌, ℕ, List, [], ◌++◌, refl, sym, ap, ap₂, ◌∙◌, ◌⊎◌, ⊎_elim, inl, inr, arith, MetaClash, first_two, BreaksAt, Command, Content, Grammar, HasNone, HasTwoMetadata, IsResult, Misspells, Spells, bytes, collision, envelopes, envelopes_of, lacking, nothing, rejection, schedule, success, unreadable, Told, collides, lacks, misreads, recorded, rejects, succeeds, collision_text, malformed_text, Place, SameText, line, Result, Ok, Err, Option, Some, Schedule, IsRead, ScheduleError, IsFault}
use Rattle.wal_schedule.specs.declared.read.ScheduleError.TheVariants.{NotJson, Memory}
use Rattle.wal_reader.proofs.OneOutcome.{not_two}
use Rattle.wal_run.proofs.OneStream.{not_malformed, one_place, one_stream}

-- a value is told in one way
once : {D : Type 0} (U : Type 0) (o : Option D) (tell : D → Result Schedule ScheduleError) (a b : Result Schedule ScheduleError)
    → ((d : D) × (U × (o ≡ Some d)) × (tell d ≡ a)) → ((d : D) × (U × (o ≡ Some d)) × (tell d ≡ b)) → a ≡ b
once U o tell a b x y = let same : x.0 ≡ y.0 = cc (x.1.1, y.1.1) in sym x.2 ∙ ap tell same ∙ y.2

pub one_schedule : (text : List ℕ) (a b : Schedule) → IsRead text (Ok a) → IsRead text (Ok b) → a ≡ b
one_schedule text a b x y = cc (once _ _ _ (Ok a) (Ok b) x y)

pub schedule_not_fault : (text : List ℕ) (a : Schedule) (e : ScheduleError) (told : List ℕ) → IsRead text (Ok a) → IsRead text (Err e) → IsFault e told → ⊥
schedule_not_fault text a NotJson told x y is = y x.0 x.1
schedule_not_fault text a Memory told x y is = is
schedule_not_fault text a e told x y is = cc (once _ _ _ (Ok a) (Err e) x y)

-- a text has one fault
pub one_error : (text : List ℕ) (a b : ScheduleError) (told other : List ℕ) → IsRead text (Err a) → IsRead text (Err b) → IsFault a told → IsFault b other → a ≡ b
one_error text NotJson NotJson told other x y is also = refl
one_error text a Memory told other x y is also = absurd also
one_error text Memory b told other x y is also = absurd is
one_error text NotJson b told other x y is also = absurd (x y.0 y.1)
one_error text a NotJson told other x y is also = absurd (y x.0 x.1)
one_error text a b told other x y is also = cc (once _ _ _ (Err a) (Err b) x y)

-- whose text is one
same_fault : (e : ScheduleError) (x y : List ℕ) → IsFault e x → IsFault e y → x ≡ y
same_fault Memory x y a b = absurd a
same_fault e x y a b = a ∙ sym b

-- one status, and one text; of two texts that collide those before them are one
abbrev pub SameAt : Place → ℕ → List ℕ → ℕ → List ℕ → Type 0
SameAt place s x t y = (s ≡ t) × SameText place s x y

-- the same of a command, which tells a collision in its last line
abbrev pub Same : ℕ → List ℕ → ℕ → List ℕ → Type 0
Same s x t y = SameAt line s x t y

-- equal statuses and texts are the same result
pub same : (s t : ℕ) (x y : List ℕ) → s ≡ t → x ≡ y → Same s x t y
same s t x y status text = (status, inl text)

-- two answers of status 10 are the same result if they agree before the texts that collide
pub both_collide : (s t : ℕ) (x y front : List ℕ) (one other : MetaClash) → s ≡ 10 → t ≡ 10 → x ≡ front ++ collision_text one.left one.right
    → y ≡ front ++ collision_text other.left other.right → Same s x t y
both_collide s t x y front one other is also ends ends_too =
    (is ∙ sym also, inr (is, record { front = front; clash = one; other = other; ends = ends; ends_too = ends_too }))

-- THE LAW OF A COMMAND: what is spelled has one status, and one text, but for two texts that collide at its end
abbrev pub Determined : (List ℕ → List ℕ) → Command → Type 0
Determined digest c =
    (input : List ℕ) (content : Content c.grammar) → Spells digest c.grammar input content
    → (s : ℕ) (x : List ℕ) (t : ℕ) (y : List ℕ) → Told digest c content s x → Told digest c content t y → Same s x t y

-- a status and a text are those of something of which this is true
abbrev pub ToldBy : {O : Type 0} → (O → Type 0) → (O → ℕ) → (O → List ℕ) → ℕ → List ℕ → Type 0
ToldBy {O} Is status text s x = (o : O) × Is o × (s ≡ status o) × (x ≡ text o)

-- where there is one such thing
pub one_by : {O : Type 0} (Is : O → Type 0) (status : O → ℕ) (text : O → List ℕ) → ((o p : O) → Is o → Is p → Same (status o) (text o) (status p) (text p))
    → {s t : ℕ} {x y : List ℕ} → ToldBy Is status text s x → ToldBy Is status text t y → Same s x t y
one_by Is status text one a b = rw (a.2, a.3, b.2, b.3) (one a.0 b.0 a.1 b.1)

-- what is told, by its status
pub told_so : (digest : List ℕ → List ℕ) (c : Command) (content : Content c.grammar) (s : ℕ) (x : List ℕ) → Told digest c content s x
    → ((s ≡ 0) × c.Succeeds content x) ⊎ (((s ≡ 3) × c.Rejects content x) ⊎ (((s ≡ 4) × c.Lacks content x)
    ⊎ (((s ≡ 8) × c.Misreads content x) ⊎ ((s ≡ 10) × (l : List ℕ) × (r : List ℕ) × (z : List ℕ) × c.Collides content l r z))))
told_so digest c content _ _ (succeeds text is) = inl (refl, is)
told_so digest c content _ _ (rejects text is) = inr (inl (refl, is))
told_so digest c content _ _ (lacks text is) = inr (inr (inl (refl, is)))
told_so digest c content _ _ (misreads text is) = inr (inr (inr (inl (refl, is))))
told_so digest c content _ _ (collides l r front clash is) = inr (inr (inr (inr (refl, l, r, front, is))))

-- what comes of what is spelled is the result of the input
pub of_told : (digest : List ℕ → List ℕ) (c : Command) (input : List ℕ) (content : Content c.grammar) → Spells digest c.grammar input content
    → (s : ℕ) (x : List ℕ) → Told digest c content s x → IsResult digest c input s x
of_told digest c input content spells _ _ (succeeds text is) = success text (content, spells, is)
of_told digest c input content spells _ _ (rejects text is) = rejection text (content, spells, is)
of_told digest c input content spells _ _ (lacks text is) = lacking text (inr (content, spells, is))
of_told digest c input content spells _ _ (misreads text is) = unreadable text (inr (content, spells, is))
of_told digest c input content spells _ _ (collides l r front clash is) =
    collision l r (front ++ collision_text l r) clash
    (record { front = front; clashes = inr (content, spells, is); whole = refl })

-- ---- an input spells one thing, or there is one reason why it spells none

one_content : (digest : List ℕ → List ℕ) (g : Grammar) (input : List ℕ) (a b : Content g) → Spells digest g input a → Spells digest g input b → a ≡ b
one_content digest bytes input a b p q = p ∙ sym q
one_content digest envelopes input a b p q = one_stream a b input p q
one_content digest (envelopes_of id) input a b p q =
    let same = one_stream a.payloads b.payloads input p.0 q.0 in ap₂ recorded same (q.1.1 a.metadata (rw same at p.1.0))
one_content digest schedule input a b p q = one_schedule input a b p q
one_content digest nothing input a b p q = refl

one_break : (input x y : List ℕ) → BreaksAt input x → BreaksAt input y → x ≡ y
one_break input x y a b = a.2 ∙ ap malformed_text (one_place a.0 b.0 input a.1 b.1) ∙ sym b.2

one_misspelling : (g : Grammar) (input x y : List ℕ) → Misspells g input x → Misspells g input y → x ≡ y
one_misspelling envelopes input x y a b = one_break input x y a b
one_misspelling (envelopes_of id) input x y a b = one_break input x y a b
one_misspelling schedule input x y a b =
    same_fault b.0 x y (rw (one_error input a.0 b.0 x y a.1 b.1 a.2 b.2) at a.2) b.2
one_misspelling g input x y a b = absurd a

-- ---- what is told of an input that spells nothing

abbrev clash_of : List ℕ → List ℕ → MetaClash
clash_of left right = record { left = left; right = right }

data Unspelled (digest : List ℕ → List ℕ) (g : Grammar) (input : List ℕ) : ℕ → List ℕ → Type 0 where
  misspelled : (text : List ℕ) → Misspells g input text → Unspelled digest g input 8 text
  without : (text : List ℕ) → HasNone digest g input text → Unspelled digest g input 4 text
  double : (text : List ℕ) (clash : MetaClash) → HasTwoMetadata digest g input clash.left clash.right → text ≡ collision_text clash.left clash.right → Unspelled digest g input 10 text

not_spelled : (digest : List ℕ → List ℕ) (g : Grammar) (input : List ℕ) (content : Content g) (s : ℕ) (x : List ℕ) → Spells digest g input content → Unspelled digest g input s x → ⊥
not_spelled digest envelopes input content _ _ is (misspelled u bad) = not_malformed content bad.0 input is bad.1
not_spelled digest schedule input content _ _ is (misspelled u bad) = schedule_not_fault input content bad.0 u is bad.1 bad.2
not_spelled digest (envelopes_of id) input content _ _ is (misspelled u bad) = not_malformed content.payloads bad.0 input is.0 bad.1
not_spelled digest (envelopes_of id) input content _ _ is (without u none) =
    none.2 content.metadata (rw (one_stream content.payloads none.0 input is.0 none.1) at is.1.0)
not_spelled digest (envelopes_of id) input content _ _ is (double u m two at) =
    not_two digest id.0 content.payloads content.metadata two.2 two.3 is.1
    (rw (one_stream two.0 content.payloads input two.1 is.0) at two.4)
not_spelled digest g input content _ _ is (misspelled u bad) = bad
not_spelled digest g input content _ _ is (without u none) = none
not_spelled digest g input content _ _ is (double u m two at) = two

none_spelled : (digest : List ℕ → List ℕ) (g : Grammar) (input x y : List ℕ) → HasNone digest g input x → Misspells g input y → ⊥
none_spelled digest (envelopes_of id) input x y none bad = not_malformed none.0 bad.0 input none.1 bad.1
none_spelled digest g input x y none bad = none

two_spelled : (digest : List ℕ → List ℕ) (g : Grammar) (input x left right : List ℕ) → HasTwoMetadata digest g input left right → Misspells g input x → ⊥
two_spelled digest (envelopes_of id) input x left right two bad = not_malformed two.0 bad.0 input two.1 bad.1
two_spelled digest g input x left right two bad = two

one_none : (digest : List ℕ → List ℕ) (g : Grammar) (input x y : List ℕ) → HasNone digest g input x → HasNone digest g input y → x ≡ y
one_none digest (envelopes_of id) input x y a b = a.3 ∙ sym b.3
one_none digest g input x y a b = absurd a

none_not_two : (digest : List ℕ → List ℕ) (g : Grammar) (input x left right : List ℕ) → HasNone digest g input x → HasTwoMetadata digest g input left right → ⊥
none_not_two digest (envelopes_of id) input x left right none two =
    none.2 two.2 (rw (one_stream two.0 none.0 input two.1 none.1) at (first_two digest id.0 two.0 two.2 two.3 two.4).0)
none_not_two digest g input x left right none two = none

-- one status tells it
apart : (digest : List ℕ → List ℕ) (g : Grammar) (input : List ℕ) (s : ℕ) (x : List ℕ) (t : ℕ) (y : List ℕ) → Unspelled digest g input s x → Unspelled digest g input t y → (s ≡ t → ⊥) → ⊥
apart digest g input s x t y a b differ = grind (arith, none_spelled digest g input, two_spelled digest g input, none_not_two digest g input)

one_unspelled : (digest : List ℕ → List ℕ) (g : Grammar) (input : List ℕ) (s : ℕ) (x : List ℕ) (t : ℕ) (y : List ℕ) → Unspelled digest g input s x → Unspelled digest g input t y → Same s x t y
one_unspelled digest g input _ _ _ _ (misspelled u p) (misspelled v q) = same _ _ _ _ refl (one_misspelling g input u v p q)
one_unspelled digest g input _ _ _ _ (without u p) (without v q) = same _ _ _ _ refl (one_none digest g input u v p q)
one_unspelled digest g input _ _ _ _ (double u m p at) (double v n q on) = both_collide _ _ _ _ [] m n refl refl at on
one_unspelled digest g input s x t y a b = absurd (apart digest g input s x t y a b (λ same. omega (arith, same)))

-- ---- a result, by whether the input spells something

view_of : (digest : List ℕ → List ℕ) (c : Command) (input : List ℕ) (s : ℕ) (x : List ℕ) → IsResult digest c input s x
    → Unspelled digest c.grammar input s x ⊎ ((content : Content c.grammar) × Spells digest c.grammar input content × Told digest c content s x)
view_of digest c input _ _ (success text is) = inr (is.0, is.1, succeeds text is.2)
view_of digest c input _ _ (rejection text is) = inr (is.0, is.1, rejects text is.2)
view_of digest c input _ _ (lacking text (inl none)) = inl (without text none)
view_of digest c input _ _ (lacking text (inr is)) = inr (is.0, is.1, lacks text is.2)
view_of digest c input _ _ (unreadable text (inl bad)) = inl (misspelled text bad)
view_of digest c input _ _ (unreadable text (inr is)) = inr (is.0, is.1, misreads text is.2)
view_of digest c input _ _ (collision l r text clash is) =
    ⊎_elim
    (λ two. inl (double text (clash_of l r) two.0 (is.whole ∙ ap (λ (f : List ℕ). f ++ collision_text l r) two.1)))
    (λ some. inr (some.0, some.1, rw is.whole (collides l r is.front clash some.2))) is.clashes

-- the result of an input is what comes of what it spells
pub told_of : (digest : List ℕ → List ℕ) (c : Command) (input : List ℕ) (content : Content c.grammar) → Spells digest c.grammar input content
    → (s : ℕ) (x : List ℕ) → IsResult digest c input s x → Told digest c content s x
told_of digest c input content spells s x result =
    ⊎_elim
    (λ none. absurd (not_spelled digest c.grammar input content s x spells none))
    (λ it. rw (one_content digest c.grammar input it.0 content it.1 spells) at it.2) (view_of digest c input s x result)

-- A COMMAND has one result for an input
pub one_result : (digest : List ℕ → List ℕ) (c : Command) → Determined digest c → (input : List ℕ) (s : ℕ) (x : List ℕ) (t : ℕ) (y : List ℕ)
    → IsResult digest c input s x → IsResult digest c input t y → Same s x t y
one_result digest c law input s x t y a b =
    ⊎_elim
    (λ none. ⊎_elim (one_unspelled digest c.grammar input s x t y none) spelled (view_of digest c input t y b))
    spelled (view_of digest c input s x a)
  where
    spelled : {i : ℕ} {z : List ℕ} → (content : Content c.grammar) × Spells digest c.grammar input content × Told digest c content i z → Same s x t y
    spelled it = law input it.0 it.1 s x t y (told_of digest c input it.0 it.1 s x a) (told_of digest c input it.0 it.1 t y b)
