-- The program's one command for clap, and what clap reads from the words.
use Rattle.std.specs.Prelude.{ℕ, List, [], ◌∷◌, Some, None, Option, true, false, codes, unwrap_or}
use Rattle.clap.specs.Lexer.{usize_max}
use Rattle.clap.specs.Simple.{App, Shape, new_app, new_rule, on_top, with_rule, matches_of}
use Rattle.clap.specs.Walk.{Row, Rule, Text, all_of, first_of}

-- one or more values that are not options
abbrev pub values_rule : Rule
values_rule = record (new_rule (codes "words")) {
  range = Some (record { start_inclusive = 1; end_inclusive = usize_max });
}

-- an option with one value
abbrev pub option_rule : Text → Rule
option_rule name = record (new_rule name) { long = Some name }

-- the command: every word is an argument
abbrev pub program : App
program =
    with_rule (with_rule (with_rule (with_rule
    (on_top (λ settings. record settings { no_binary_name = true }) (new_app (codes "walrus")))
    values_rule) (option_rule (codes "blobs"))) (option_rule (codes "pages")))
    (option_rule (codes "format"))

-- the values, in order
abbrev pub values_in : List Text → List Text
values_in words = unwrap_or (all_of (codes "words") (matches_of program words)) []

-- the value of an option, if it is given
abbrev pub option_in : Text → List Text → Option Text
option_in name words = first_of name (matches_of program words)
