-- What a command says is a result of its input.
use Rattle.wal_run.proofs.Common.{◌≡◌, ℕ, List, Option, Result, Ok, Err, IsErrAnd, inl, ⊎_elim, BreaksAt, Command, Content, IsResult, Misspells, Spells, bare, collision, lacking, rejection, success, unreadable, Told, Performs}
use Rattle.wal_run.specs.declared.answer.Answer.{Answer}
use Rattle.wal_run.specs.declared.refusal.Refusal.{Refusal}
use Rattle.wal_run.specs.declared.refusal.Refusal.TheVariants.{Memory}
use Rattle.wal_run.specs.inside.Answers.{IsBroken, Refuses, Refused, Says, Tells}
use Rattle.wal_run.proofs.CommandLaws.{of_told}
use Rattle.wal_run.proofs.Endings.{performs_as}

-- what is one result is another
pub refuses_as : (refusal : Refusal) (A B : ℕ → List ℕ → Type 0) → Refuses refusal A → ((s : ℕ) (text : List ℕ) → A s text → B s text) → Refuses refusal B
refuses_as refusal A B refuses is = λ other. is _ _ (refuses other)

-- what is said stays true of a weaker relation
pub says_as : (said : Result Answer Refusal) (A B : ℕ → List ℕ → Type 0) → Says said A → ((s : ℕ) (text : List ℕ) → A s text → B s text) → Says said B
says_as (Ok answer) A B says is = is _ _ says
says_as (Err refusal) A B says is = refuses_as refusal A B says is

-- memory ran out
pub no_memory : (said : Result Answer Refusal) (Is : ℕ → List ℕ → Type 0) → IsErrAnd said (λ r. r ≡ Memory) → Says said Is
no_memory (Ok answer) Is out = absurd out
no_memory (Err refusal) Is out = λ other. absurd (other out)

-- a refusal is passed on
pub passed : (said : Result Answer Refusal) (Is : ℕ → List ℕ → Type 0) (refusal : Refusal) → IsErrAnd said (λ r. r ≡ refusal) → Refuses refusal Is → Says said Is
passed (Ok answer) Is refusal same refuses = absurd same
passed (Err other) Is refusal same refuses = rw same refuses

-- what is said is written
pub performs_refused : (refusal : Refusal) (Is : ℕ → List ℕ → Type 0) {old new : Option (List ℕ)} {SinkRose : Type 0} {status : ℕ} → Refuses refusal Is
    → Performs (Refused refusal) old new SinkRose status → Performs Is old new SinkRose status
performs_refused refusal Is refuses p = performs_as p (λ s text told. rw (told.1, told.2) (refuses told.0))

pub performs_said : (said : Result Answer Refusal) (Is : ℕ → List ℕ → Type 0) {old new : Option (List ℕ)} {SinkRose : Type 0} {status : ℕ} → Says said Is
    → Performs (Tells said) old new SinkRose status → Performs Is old new SinkRose status
performs_said (Ok answer) Is says p = performs_as p (λ s text told. rw (told.0, told.1) says)
performs_said (Err refusal) Is says p = performs_refused refusal Is says p

-- what comes of what is spelled is the result of the input
pub says_told : (digest : List ℕ → List ℕ) (c : Command) (input : List ℕ) (content : Content c.grammar) (said : Result Answer Refusal) → Spells digest c.grammar input content
    → Says said (Told digest c content) → Says said (IsResult digest c input)
says_told digest c input content said spells says = says_as said _ _ says (of_told digest c input content spells)

-- no stream of envelopes
pub broken : (digest : List ℕ → List ℕ) (c : Command) (input : List ℕ) (refusal : Refusal) → ((text : List ℕ) → BreaksAt input text → Misspells c.grammar input text)
    → Refuses refusal (IsBroken input) → Refuses refusal (IsResult digest c input)
broken digest c input refusal takes refuses =
    refuses_as refusal (IsBroken input) (IsResult digest c input) refuses (λ s text is. rw is.0 (unreadable text (inl (takes text is.1))))

-- what a command without results tells is what every command of its grammar does
bare_as : (digest : List ℕ → List ℕ) (c : Command) (input : List ℕ) (s : ℕ) (x : List ℕ) → IsResult digest (bare 0 c.grammar) input s x → IsResult digest c input s x
bare_as digest c input _ _ (success text is) = absurd is.2
bare_as digest c input _ _ (rejection text is) = absurd is.2
bare_as digest c input _ _ (lacking text is) = lacking text (⊎_elim (λ none. inl none) (λ none. absurd none.2) is)
bare_as digest c input _ _ (unreadable text is) = unreadable text (⊎_elim (λ bad. inl bad) (λ none. absurd none.2) is)
bare_as digest c input _ _ (collision l r text clash is) =
    collision l r text clash (record { front = is.front; clashes = ⊎_elim (λ two. inl two) (λ none. absurd none.2) is.clashes; whole = is.whole })

-- no metadata, or two
pub unrecorded : (digest : List ℕ → List ℕ) (c : Command) (input : List ℕ) (refusal : Refusal)
    → Refuses refusal (IsResult digest (bare 0 c.grammar) input) → Refuses refusal (IsResult digest c input)
unrecorded digest c input refusal refuses = refuses_as refusal _ _ refuses (bare_as digest c input)
