use Rattle.wal_store.proofs.OrderLaws.{closes_place, keeps_below, moves_down}
use Rattle.wal_store.proofs.laws.places_after_drop.Goals as goal

pub returns : goal.returns
returns c = record { closes = closes_place; below = keeps_below; above = moves_down }
