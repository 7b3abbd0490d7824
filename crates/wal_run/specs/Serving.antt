-- What the command that serves a shard answers.
use Rattle.std.specs.Prelude.{◌≡◌, ℕ, ◌*◌, List, [], Option, Some, false}
use Rattle.std.specs.List.{range_with_len}
use Rattle.std.specs.FinMap as map
use Rattle.wal_ledger.specs.Shards.{committee_size}
use Rattle.wal_serve.specs.declared.serving.ServeEnd.{ServeEnd}
use Rattle.wal_serve.specs.declared.serving.ServeEnd.TheVariants.{Done, ReadFault, WriteFault}
use Rattle.wal_serve.specs.declared.serving.ServeEnd.TheVariants.{Malformed, TooLong, Collision}
use Rattle.wal_serve.specs.Answers as requests
use Rattle.wal_serve.specs.Room.{desk_room}
use Rattle.wal_serve.specs.Saying.{sent}
use Rattle.wal_serve.specs.Serving.{IsServed, Serves, Table}
use Rattle.wal_serve.specs.State.{ServedState}
use Rattle.wal_words.specs.declared.task.Service.{Service}
use Rattle.wal_served.specs.Steps.{IsReached}

-- each shard of a committee is run by a node of its own
abbrev pub own_nodes : ℕ → List ℕ
own_nodes f = range_with_len 0 (committee_size f)

-- the state at the start: the shard holds nothing, and the ledger has no entries, at epoch 0
abbrev pub at_start : Service → ServedState
at_start service = record {
  shard = record {
    f = service.faults;
    index = service.shard;
    contents = map.empty;
    limit = Some service.pages;
  };
  ledger = record {
    log = record { f = service.faults; first = 0; owners = own_nodes service.faults; entries = [] };
    spare = 2 * service.blobs;
  };
}

-- the answer to each payload, over a pool of pages, which never wants memory
abbrev pub answering : (List ℕ → List ℕ) → Table ServedState
answering digest = requests.AnswersRequest digest false

-- the most bytes that serving takes
abbrev pub serve_limit : ℕ
serve_limit = 1073741824

-- the status of each end
abbrev pub end_status : ServeEnd → ℕ
end_status Done = 0
end_status ReadFault = 6
end_status WriteFault = 7
end_status (Malformed place) = 8
end_status TooLong = 9
end_status (Collision clash) = 10

-- the status and the text if no fault ended serving: the answers to the whole envelopes of what was
-- taken, which were steps of the world
abbrev pub IsServiceResult : (List ℕ → List ℕ) → Service → List ℕ → Type 0 → ℕ → List ℕ → Type 0
IsServiceResult digest service taken AtEnd status text =
    (frames : List (List ℕ)) × (state : ServedState) × (end : ServeEnd)
    × Serves (answering digest) (desk_room service.faults)
    serve_limit (at_start service) taken AtEnd ⊥ ⊥ frames state end
    × IsReached digest false (desk_room service.faults)
    serve_limit (at_start service) taken frames state end
    × (status ≡ end_status end) × (text ≡ sent service.shard frames)

-- how serving ended, by a fault or without: what was taken, answered and written, and that it was
-- steps of the world
abbrev pub EndsServing : (List ℕ → List ℕ) → Service → Option (List ℕ) → Option (List ℕ) → Type 0
    → Option (List ℕ) → Option (List ℕ) → Type 0 → ℕ → Type 0
EndsServing digest service left after SourceRose old new SinkRose status =
    (state : ServedState) × (end : ServeEnd)
    × (run : IsServed (answering digest) (desk_room service.faults) serve_limit
    service.shard (at_start service) state left after SourceRose old new SinkRose end)
    × IsReached digest false (desk_room service.faults)
    serve_limit (at_start service) run.taken run.frames state end
    × (status ≡ end_status end)
