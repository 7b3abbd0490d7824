-- What serves private functions and proofs beside Task.
use Rattle.std.specs.Prelude.{[], codes, unwrap_or, option_map}
use Rattle.clap.specs.Words.{matched_of, raw_values, first_value}
use Rattle.clap.specs.declared.parser.matches.Found.{Found}
use Rattle.wal_words.specs.declared.task.Task.{Task}
use Rattle.wal_words.specs.Task.{Asks}

-- what clap found asks for this task
abbrev pub FoundAsks : Found → Task → Type 0
FoundAsks found task =
    Asks (unwrap_or (option_map raw_values (matched_of found (codes "words"))) [])
    (first_value found (codes "blobs"))
    (first_value found (codes "pages")) (first_value found (codes "format")) task
