-- Requests among payloads: each is a get, with the other payloads since the request before it as
-- what shards sent.
use Rattle.std.specs.Prelude.{◌≡◌, ℕ, Bool, ◌&&◌, nat_eq, cond, List, [], ◌∷◌, ◌++◌, length}
use Rattle.std.specs.Prelude.{slice_index, slice_range, Option, Some, None}
use Rattle.std.specs.Option.{option_map_or}
use Rattle.std.specs.Int.{w32, from_be_bytes}
use Rattle.wal_frame.specs.Stream.{IsStream}
use Rattle.wal_gateway.specs.declared.request.Asked.{Asked}
use Rattle.wal_gateway.specs.declared.request.Request.{Request}
use Rattle.wal_gateway.specs.Getting.{Cache, Get, asked}

-- 41 bytes that begin with 67 (0x43)
abbrev pub is_request : List ℕ → Bool
is_request payload = nat_eq (length payload) 41 && nat_eq (slice_index payload 0) 67

-- behind the first byte: the identifier, the place and the number of the bytes
abbrev pub request_at : List ℕ → Request
request_at payload = record {
  id = record { 0 = slice_range payload 1 33 };
  from = from_be_bytes w32 (slice_range payload 33 37);
  size = from_be_bytes w32 (slice_range payload 37 41);
}

-- what a payload asks for, if it is a request
abbrev pub request_of : List ℕ → Option Request
request_of payload = cond (is_request payload) (Some (request_at payload)) None

-- the get that a request is after these replies
abbrev pub get_of : List (List ℕ) → Request → Get
get_of replies request = asked request.id request.from request.size replies

-- the gets among payloads, if these replies came before
abbrev pub gets_in : List (List ℕ) → List (List ℕ) → List Get
gets_in replies [] = []
gets_in replies (payload ∷ payloads) =
    option_map_or (λ request. get_of replies request ∷ gets_in [] payloads)
    (request_of payload) (gets_in (replies ++ payload ∷ []) payloads)

-- an empty list that takes so many blobs
abbrev pub no_blobs : ℕ → Cache
no_blobs capacity = record { pairs = []; capacity = capacity }

-- the first request among payloads: the replies before it, and the payloads behind it, among which
-- the further gets are
pub record IsFirstRequest (payloads : List (List ℕ)) (asks : Asked) : Type 0 where
  pub replies : List (List ℕ)
  pub later : List (List ℕ)
  pub sent : IsStream replies asks.sent.now
  pub rest : IsStream later asks.rest.now
  pub gets : gets_in [] payloads ≡ get_of replies asks.request ∷ gets_in [] later
