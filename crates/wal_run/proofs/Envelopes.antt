-- Whole envelopes at the front of bytes.
use Rattle.wal_run.proofs.Common.{◌≡◌, ℕ, ◌+◌, List, [], ◌∷◌, ◌++◌, sym, ap, ◌∙◌, append_assoc, envelope, IsPayload, IsStream, stream_grows}

-- whole envelopes stand before a place of the bytes
pub record Walks (stream before rest : List ℕ) : Type 0 where
  pub parts : stream ≡ before ++ rest
  pub front : List (List ℕ)
  pub sent : IsStream front before

module _ (stream before rest : List ℕ) (walks : Walks stream before rest) where
  -- one more
  pub walks_more : (sender : ℕ) (payload later : List ℕ) → IsPayload payload → rest ≡ envelope sender payload ++ later → Walks stream (before ++ envelope sender payload) later
  walks_more sender payload later fits begins = record {
    parts = walks.parts ∙ ap (λ (t : List ℕ). before ++ t) begins ∙ sym (append_assoc before (envelope sender payload) later);
    front = walks.front ++ payload ∷ [];
    sent = stream_grows walks.front before sender payload walks.sent fits;
  }
