use Rattle.std.specs.Prelude.{◌≡◌, ◌≢◌, ℕ, ◌≤◌, Bool, false, List, [], ◌∷◌, ◌++◌, ◌⊎◌, ◌↔◌, Option}
use Rattle.std.specs.Prelude.{None, Result, Ok, Err, IsOk, All, length, ⊤}
use Rattle.std.specs.FinMap as map
use Rattle.wal_shape.specs.declared.BlobId.{BlobId}
use Rattle.wal_shape.specs.declared.part.Part.{Part}
use Rattle.wal_shape.specs.Shape.{most_bytes}
use Rattle.wal_store.specs.declared.contract.KeepError.{KeepError}
use Rattle.wal_store.specs.declared.contract.KeepError.TheVariants.{Memory}
use Rattle.wal_store.specs.Contents.{Contents, part_at, with_bytes, without_part}
use Rattle.wal_store.specs.Answer.{IsPutAnswer}

-- the answer to a put
abbrev pub PutAnswer : Type 0
PutAnswer = Result (Unit {0}) KeepError

-- a call that may change a keep
pub data Call : Type 0 where
  Put : BlobId → Part → List ℕ → Call
  DropPart : BlobId → Part → Call
  DropId : BlobId → Call

-- nothing is held
abbrev pub no_contents : Contents
no_contents = map.empty

-- what is held after a call that is carried out
abbrev pub after_call : Contents → Call → Contents
after_call old (Put id part bytes) = with_bytes old id part bytes
after_call old (DropPart id part) = without_part old id part
after_call old (DropId id) = map.remove old id

-- what is held after calls that are carried out, one after the other
abbrev pub after_calls : Contents → List Call → Contents
after_calls old [] = old
after_calls old (call ∷ calls) = after_calls (after_call old call) calls

-- a part that is put was not held, and has from 1 byte to as many as a blob may have; what is
-- dropped need not be held
abbrev pub IsLawfulCall : Contents → Call → Type 0
IsLawfulCall old (Put id part bytes) =
    (part_at old id part ≡ None) × (1 ≤ length bytes) × (length bytes ≤ most_bytes)
IsLawfulCall old (DropPart id part) = ⊤
IsLawfulCall old (DropId id) = ⊤

-- each call is lawful after those before it
abbrev pub AreLawful : Contents → List Call → Type 0
AreLawful old [] = ⊤
AreLawful old (call ∷ calls) = IsLawfulCall old call × AreLawful (after_call old call) calls

-- what is held after a put with this answer
abbrev pub after_put : Contents → BlobId → Part → List ℕ → PutAnswer → Contents
after_put old id part bytes (Ok done) = after_call old (Put id part bytes)
after_put old id part bytes (Err error) = old

-- the calls, one after the other, lead from the old contents to the new ones, and the puts among
-- them have these answers
abbrev pub RunsTo : Option ℕ → Bool → Contents → List Call → List PutAnswer → Contents → Type 0
RunsTo limit may_want old [] [] new = new ≡ old
RunsTo limit may_want old [] (answer ∷ answers) new = ⊥
RunsTo limit may_want old (Put id part bytes ∷ calls) [] new = ⊥
RunsTo limit may_want old (Put id part bytes ∷ calls) (answer ∷ answers) new =
    IsPutAnswer limit may_want old id bytes answer
    × RunsTo limit may_want (after_put old id part bytes answer) calls answers new
RunsTo limit may_want old (drop ∷ calls) answers new =
    RunsTo limit may_want (after_call old drop) calls answers new

-- after any run that led to the old contents, the call leads on to the new ones, and adds these
-- answers
abbrev pub Continues : Option ℕ → Bool → Contents → Call → List PutAnswer → Contents → Type 0
Continues limit may_want old call more new =
    (first : Contents) (calls : List Call) (answers : List PutAnswer)
    → RunsTo limit may_want first calls answers old
    → RunsTo limit may_want first (calls ++ call ∷ []) (answers ++ more) new

-- no put found memory short
abbrev pub NoneWants : List PutAnswer → Type 0
NoneWants answers = All (λ answer. answer ≢ Err Memory) answers

-- two answers to one put are equal if neither is want of memory
abbrev pub PutsAgree : Type 0
PutsAgree =
    (limit : Option ℕ) (may_want may_want' : Bool) (contents : Contents)
    (id : BlobId) (bytes : List ℕ) (answer answer' : PutAnswer)
    → IsPutAnswer limit may_want contents id bytes answer
    → IsPutAnswer limit may_want' contents id bytes answer'
    → answer ≢ Err Memory → answer' ≢ Err Memory → answer ≡ answer'

-- two runs of the same calls from the same contents have equal answers and end with the same
-- contents, if no put found memory short
abbrev pub RunsAgree : Type 0
RunsAgree =
    (limit : Option ℕ) (may_want may_want' : Bool) (old new new' : Contents)
    (calls : List Call) (answers answers' : List PutAnswer)
    → RunsTo limit may_want old calls answers new → RunsTo limit may_want' old calls answers' new'
    → NoneWants answers → NoneWants answers' → (answers ≡ answers') × (new ≡ new')

-- a keep that never wants memory finds none short
abbrev pub NeverWants : Type 0
NeverWants =
    (limit : Option ℕ) (old new : Contents) (calls : List Call) (answers : List PutAnswer)
    → RunsTo limit false old calls answers new → NoneWants answers

-- the next put found memory short
abbrev pub WantsNext : List PutAnswer → Type 0
WantsNext [] = ⊥
WantsNext (answer ∷ answers) = answer ≡ Err Memory

-- two runs of the same calls give the same answers and reach the same contents, up to their end or
-- to a put at which one of them found memory short
pub record GoTogether (limit : Option ℕ) (left right : Bool) (old : Contents) (calls : List Call)
    (lefts rights : List PutAnswer) (left_end right_end : Contents) : Type 0 where
  -- the calls and the answers so far, and those that follow
  pub first : List Call
  pub rest : List Call
  pub common : List PutAnswer
  pub left_rest : List PutAnswer
  pub right_rest : List PutAnswer
  pub calls_are : calls ≡ first ++ rest
  pub lefts_are : lefts ≡ common ++ left_rest
  pub rights_are : rights ≡ common ++ right_rest
  -- what both hold then
  pub reached : Contents
  pub none_wants : NoneWants common
  pub left_first : RunsTo limit left old first common reached
  pub right_first : RunsTo limit right old first common reached
  pub left_goes_on : RunsTo limit left reached rest left_rest left_end
  pub right_goes_on : RunsTo limit right reached rest right_rest right_end
  pub ends : (rest ≡ []) ⊎ (WantsNext left_rest ⊎ WantsNext right_rest)

-- any two runs of the same calls from the same contents go together
abbrev pub RunsTogether : Type 0
RunsTogether =
    (limit : Option ℕ) (left right : Bool) (old left_end right_end : Contents)
    (calls : List Call) (lefts rights : List PutAnswer)
    → RunsTo limit left old calls lefts left_end → RunsTo limit right old calls rights right_end
    → GoTogether limit left right old calls lefts rights left_end right_end

-- if each put stores, a run ends with what its calls make
abbrev pub EndsAfterCalls : Type 0
EndsAfterCalls =
    (limit : Option ℕ) (may_want : Bool) (old new : Contents)
    (calls : List Call) (answers : List PutAnswer)
    → RunsTo limit may_want old calls answers new → All IsOk answers → new ≡ after_calls old calls

-- calls in two parts: the second begins with what the first leaves
abbrev pub CallsInParts : Type 0
CallsInParts =
    (old : Contents) (first more : List Call)
    → after_calls old (first ++ more) ≡ after_calls (after_calls old first) more

-- calls in two parts are lawful exactly if both parts are, one after the other
abbrev pub LawfulInParts : Type 0
LawfulInParts =
    (old : Contents) (first more : List Call)
    → AreLawful old (first ++ more) ↔ (AreLawful old first × AreLawful (after_calls old first) more)
