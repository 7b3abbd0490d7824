-- Eight words or states of SHA-256 at a time, one in each lane.
use Rattle.std.specs.Prelude.{◌≡◌, ℕ, ◌+◌, ◌-◌, ◌*◌, ◌/◌, ◌%◌, ◌<◌, List, [], ◌∷◌, ◌++◌, length}
use Rattle.std.specs.Prelude.{map, take, drop, slice_index}
use Rattle.sha2.specs.Sha256.{padding}
use Rattle.wal_lanes.specs.declared.block.State.{State}

-- there are n lanes, and lane k holds f k
pub record HasLanes (n : ℕ) (values : List ℕ) (f : ℕ → ℕ) : Type 0 where
  pub long : length values ≡ n
  pub each : (k : ℕ) → k < n → slice_index values k ≡ f k

-- the eight words of the state in lane k
abbrev pub lane : State → ℕ → List ℕ
lane state k =
    slice_index state.a k ∷ slice_index state.b k ∷ slice_index state.c k ∷ slice_index state.d k
    ∷ slice_index state.e k ∷ slice_index state.f k ∷ slice_index state.g k ∷ slice_index state.h k
    ∷ []

-- the words in lane k of these vectors
abbrev pub words_of : List (List ℕ) → ℕ → List ℕ
words_of vectors k = map (λ (values : List ℕ). slice_index values k) vectors

-- the last one or two blocks of a padded message: what follows the whole blocks of these bytes,
-- before which `seen` bytes came, in whole blocks
abbrev pub last_blocks : ℕ → List ℕ → List ℕ
last_blocks seen message =
    drop (length message / 64 * 64) (message ++ padding (seen + length message))

-- how many bytes these blocks have for a message of n bytes
abbrev pub tail_length : ℕ → ℕ
tail_length n = n % 64 + (119 - n % 64) % 64 + 9

-- a list with these bytes in place of those from `at` on
abbrev pub put_at : ℕ → List ℕ → List ℕ → List ℕ
put_at at old bytes = take at old ++ (bytes ++ drop (at + length bytes) old)
