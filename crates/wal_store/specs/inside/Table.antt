use Rattle.std.specs.Prelude.{ℕ, ◌+◌, List, count_by}
use Rattle.wal_pool.specs.Pages.{is_free}
use Rattle.wal_store.specs.declared.rows.Row.{Row}
use Rattle.wal_store.specs.inside.Chain.{Linked}
use Rattle.wal_store.specs.inside.Entries.{cost_in}
use Rattle.wal_store.specs.inside.Rows.{entries_of}

-- the free pages and those that the holdings cost
abbrev pub all_pages : Linked → List Row → ℕ
all_pages linked rows = count_by is_free linked.states + cost_in (entries_of linked rows)
