use Rattle.wal_words.proofs.Common.{rules, ◌≡◌, ap, sym, ◌∙◌, List, String, Global, map, found_of}
use Rattle.wal_words.proofs.Rows.{task_found, none_found, only_task, found_rows, no_fault, no_task}
use Rattle.std.specs.String.{string_bytes}
use Rattle.wal_words.proofs.task.read_task.Goals as goal

texts : {a b : List (String Global)} → a ≡ b → map (λ (w : String Global). string_bytes w) a ≡ map (λ (w : String Global). string_bytes w) b
texts same = ap (λ (l : List (String Global)). map (λ (w : String Global). string_bytes w) l) same

pub returns-in-Ok-clause-found : goal.returns-in-Ok-clause-found
returns-in-Ok-clause-found c =
    task_found _ (found_of c.in-Ok.matches) _ (found_rows _ _ _ c.in-Ok.matches c.in_ok-command.ensures.app (texts c.as_slice.ensures.value) c.in-Ok.ensures.matches)
    (no_fault _ _ _ _ c.in-Ok.matches c.in_ok-command.ensures.app (texts c.as_slice.ensures.value) c.try_get_matches_from.ensures.kinds c.in-Ok.is)
    c.task_in.ensures.found

pub returns-in-Ok-clause-none : goal.returns-in-Ok-clause-none
returns-in-Ok-clause-none c =
    none_found _ (found_of c.in-Ok.matches) _ (found_rows _ _ _ c.in-Ok.matches c.in_ok-command.ensures.app (texts c.as_slice.ensures.value) c.in-Ok.ensures.matches)
    c.task_in.ensures.none

pub returns-in-Ok-clause-only : goal.returns-in-Ok-clause-only
returns-in-Ok-clause-only c = only_task _ _ (returns-in-Ok-clause-found c)

pub returns-clause-none : goal.returns-clause-none
returns-clause-none c =
    no_task _ _ _ _ c.in-Err.e c.in_ok-command.ensures.app (texts c.as_slice.ensures.value) c.try_get_matches_from.ensures.kinds c.in-Err.is (search rules)
