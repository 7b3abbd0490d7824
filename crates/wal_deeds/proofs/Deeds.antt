-- What the table of requests has for a payload is a deed.
use Rattle.std.proofs.Common.{◌≡◌, ◌⊎◌, ℕ, Bool, List, Option, Some, None, Ok, inl, inr, refl, sym, ap, subst}
use Rattle.wal_shape.specs.declared.metadata.BlobId.{BlobId}
use Rattle.wal_shape.specs.declared.text.MetaClash.{MetaClash}
use Rattle.wal_frame.specs.Frame.{Frame, Metadata, Sliver, Proof, Read, Ack, Attest, Forget, Answer}
use Rattle.wal_frame.specs.Reading.{read_of}
use Rattle.wal_frame.proofs.FrameLaws.{frame_is}
use Rattle.wal_event.specs.declared.line.Line.TheVariants as line
use Rattle.wal_event.specs.declared.line.SendWord.{SendWord}
use Rattle.wal_event.specs.declared.line.SendWord.TheVariants as sending
use Rattle.wal_event.specs.declared.line.ForgetWord.TheVariants as forgetting
use Rattle.wal_ledger.specs.declared.entry.Kind.{Kind}
use Rattle.wal_ledger.specs.declared.entry.Kind.TheVariants.{Holds, Denies}
use Rattle.wal_store.specs.Contents.{Contents}
use Rattle.wal_shard.specs.declared.answers.PutAnswer.{PutAnswer}
use Rattle.wal_shard.specs.declared.answers.PutAnswer.TheVariants as putting
use Rattle.wal_shard.specs.declared.answers.AckRefusal.TheVariants as refusing
use Rattle.wal_shard.specs.Putting.{CanBePut, IsAccepted, Puts, PutsOrWants}
use Rattle.wal_shard.specs.State.{desk, desk_of}
use Rattle.wal_serve.specs.State.{ServedState, named, holding}
use Rattle.wal_ledger.specs.Answers.{claim_of}
use Rattle.wal_ledger.specs.Ledger.{LedgerState, takes_in}
use Rattle.wal_ledger.specs.declared.answers.AckAnswer.TheVariants as acking
use Rattle.wal_ledger.specs.declared.answers.AttestAnswer.TheVariants as attesting
use Rattle.wal_serve.specs.Requests.{ClaimEntered, Vouched, unbacked, asked, Forgets, forgotten, kept}
use Rattle.wal_serve.specs.Reply.{put_reply, reply, refused as refused_reply, reply_text}
use Rattle.wal_serve.specs.Answers.{AnswersRead, AnswersPut, AnswersEntry, IsReplyOutcome}
use Rattle.wal_theorem.specs.Instance.{rules_of}
use Rattle.wal_served.specs.Steps.{send_frame}
use Rattle.wal_network.specs.Deeds.{put, forget, Acts, stored, refused, forgot, declined, LeavesAll, unregistered, no_metadata, unverified, held}
use Rattle.wal_deeds.specs.Served.{EndsAsDeed, does, lacks, stops, ClaimsBacked, ServesAsShard, EveryDeed}

-- the type of what is replied, whose name is the serving crate's own
abbrev domain_of : {A B : Type 0} → (A → B) → Type 0
domain_of {A = A} f = A

abbrev Reply : Type 0
Reply = domain_of reply_text

-- a claim is taken into the ledger, or leaves it as it is
adds : (kind : Kind) (old : LedgerState) (shard : ℕ) (id : BlobId) (reply : Reply) (new : LedgerState) → ClaimEntered kind old shard id reply new → (new ≡ old) ⊎ (new ≡ takes_in old (claim_of kind shard id))
adds Holds old shard id reply new (acking.Unregistered, h, is) = inl h.1
adds Holds old shard id reply new (acking.Expires, h, is) = inl h.2
adds Holds old shard id reply new (acking.Already, h, is) = inl h.2
adds Holds old shard id reply new (acking.NoRoom, h, is) = inl h.2
adds Holds old shard id reply new (acking.Counted count, h, is) = inr h.0.2
adds Holds old shard id reply new (acking.Certified count, h, is) = inr h.0.2
adds Denies old shard id reply new (attesting.Unregistered, h, is) = inl h.1
adds Denies old shard id reply new (attesting.Expires, h, is) = inl h.2
adds Denies old shard id reply new (attesting.Already, h, is) = inl h.2
adds Denies old shard id reply new (attesting.NoRoom, h, is) = inl h.2
adds Denies old shard id reply new (attesting.Counted count, h, is) = inr h.0.2
adds Denies old shard id reply new (attesting.Invalid count, h, is) = inr h.0.2

module _ (digest : List ℕ → List ℕ) (may_want : Bool) (s : ServedState) (payload : List ℕ) (frames : List (List ℕ)) (clash : Option MetaClash) where
  -- a put
  put_does : (frame : Frame) → read_of payload ≡ Ok frame → CanBePut frame → (new : ServedState) → AnswersPut digest may_want frame s frames clash new → EndsAsDeed digest s (put payload) frames clash new
  put_does frame reads part new (outcome, contents, (answer, puts, is, shows), told, state) = rw state (by answer puts (rw is at told))
    where
      plain : IsAccepted digest (desk s.shard s.ledger.log) s.shard.contents frame → IsAccepted digest (desk_of s.shard.f s.shard.index None s.ledger.log) s.shard.contents frame
      plain a = record { live = a.live; verified = a.verified }

      leaves : (answer : PutAnswer) (word : SendWord) (code : ℕ) → contents ≡ s.shard.contents → Puts digest (desk_of s.shard.f s.shard.index None s.ledger.log) s.shard.contents frame answer contents
          → LeavesAll answer word → send_frame word ≡ Some (Answer code 0 0) → IsReplyOutcome (Ok (refused_reply code)) frames clash → EndsAsDeed digest s (put payload) frames clash (holding s contents)
      leaves answer word code same puts stays frame_of_word t = does (record {
        said = line.Send s.shard.index word;
        acts = subst (Acts (rules_of digest s.shard.f) s.ledger.log s.shard.index s.shard.contents (put payload) (line.Send s.shard.index word)) (sym same)
            (refused payload frame answer word contents (reads, part) ((frame_is payload frame reads).fits, puts) stays);
        told = (Answer code 0 0, frame_of_word, t.0);
        ledger = refl;
      }) t.1

      wants : (code a b : ℕ) → (code ≡ 6) ⊎ ((code ≡ 7) ⊎ (code ≡ 10)) → contents ≡ s.shard.contents → IsReplyOutcome (Ok (reply code a b)) frames clash → EndsAsDeed digest s (put payload) frames clash (holding s contents)
      wants code a b want same t = lacks (record { code = code; a = a; b = b; wants = want; told = t.0; goes_on = t.1; same = ap {B = ServedState} (holding s) same })

      by : (x : PutAnswer) → PutsOrWants digest may_want (desk s.shard s.ledger.log) s.shard.contents frame x contents → IsReplyOutcome (put_reply x) frames clash → EndsAsDeed digest s (put payload) frames clash (holding s contents)
      by putting.Stored h t = does (record {
        said = line.Send s.shard.index sending.Stored;
        acts = stored payload frame contents (reads, part) ((frame_is payload frame reads).fits, (plain h.0, h.1, tt, h.3));
        told = (Answer 0 0 0, refl, t.0);
        ledger = refl;
      }) t.1
      by putting.Held h t = leaves putting.Held sending.Held 11 h.2 (plain h.0, h.1, h.2) held refl t
      by putting.Unregistered h t = leaves putting.Unregistered sending.Unregistered 1 h.1 h unregistered refl t
      by putting.NoMetadata h t = leaves putting.NoMetadata sending.NoMetadata 3 h.3 h no_metadata refl t
      by putting.Unverified h t = leaves putting.Unverified sending.Unverified 2 h.3 h unverified refl t
      by (putting.OtherMetadata texts) h t = stops texts h.6 t.0 t.1 (ap {B = ServedState} (holding s) h.7)
      by (putting.Full needed free) h t = wants 6 needed free (inl refl) h.5 t
      by putting.Memory h t = wants 7 0 0 (inr (inl refl)) h.3 t

  forget_does : (id : BlobId) (r : Reply) (contents : Contents) → Forgets s.ledger.log s.shard.contents id r contents → IsReplyOutcome (Ok r) frames clash
      → EndsAsDeed digest s (forget id) frames clash (holding s contents)
  forget_does id _ _ (forgotten may) told = does (record { said = line.Forget s.shard.index id forgetting.Done; acts = forgot id may; told = (Answer 0 0 0, refl, told.0); ledger = refl }) told.1
  forget_does id _ _ (kept not) told = does (record { said = line.Forget s.shard.index id forgetting.Declined; acts = declined id not; told = (Answer 5 0 0, refl, told.0); ledger = refl }) told.1

  claim_backed : (kind : Kind) (id : BlobId) (new : ServedState) → AnswersEntry (Vouched kind s id) s frames clash new → ClaimsBacked kind s id frames new × (clash ≡ None)
  claim_backed kind id new (_, _, unbacked refusing.Unregistered h, told, is) = (inr (1, inl refl, told.0, is), told.1)
  claim_backed kind id new (_, _, unbacked refusing.Declined h, told, is) = (inr (5, inr (inl refl), told.0, is), told.1)
  claim_backed kind id new (_, _, unbacked refusing.Expires h, told, is) = (inr (8, inr (inr refl), told.0, is), told.1)
  claim_backed kind id new (_, _, asked answer ledger vouches entered, told, is) =
      (inl (vouches.0, vouches.1, (ap (λ (t : ServedState). t.shard) is, rw is (adds kind s.ledger s.shard.index id answer ledger entered))), told.1)

  serves_as : (frame : Frame) → read_of payload ≡ Ok frame → (new : ServedState) → AnswersRead digest may_want (Ok frame) s frames clash new → ServesAsShard digest s payload frame frames clash new
  serves_as (Metadata m) reads new h = put_does (Metadata m) reads tt new h
  serves_as (Sliver id axis index bytes) reads new h = put_does (Sliver id axis index bytes) reads tt new h
  serves_as (Proof id p) reads new h = put_does (Proof id p) reads tt new h
  serves_as (Forget id) reads new (r, contents, forgets, told, is) = rw is (forget_does (named id) r contents forgets told)
  serves_as (Ack id) reads new h = claim_backed Holds (named id) new h
  serves_as (Attest id) reads new h = claim_backed Denies (named id) new h
  serves_as (Read id) reads new h = h
  serves_as frame reads new h = tt

pub every_deed : (digest : List ℕ → List ℕ) → EveryDeed digest
every_deed digest may_want old payload frame frames clash new reads answers =
    serves_as digest may_want old payload frames clash frame reads new (rw reads at answers)
