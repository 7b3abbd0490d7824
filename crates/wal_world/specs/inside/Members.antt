-- The shards of both sides.
use Rattle.std.specs.Borrow.{Lends, Fml, RattleType, MutBor}
use Rattle.wal_shape.specs.declared.axis.Side.{Side}
use Rattle.wal_shape.specs.declared.axis.Side.TheVariants.{Now, Next}
use Rattle.wal_tree.specs.declared.hash.Hash32.{Ghosts}
use Rattle.wal_world.specs.declared.members.Members.{Members}
use Rattle.wal_world.specs.declared.members.Sides.{Sides}
use Rattle.wal_world.specs.contracts.members.Members as members
use Rattle.wal_world.specs.contracts.members.Sides.{the_row}

-- the shards of a side
abbrev pub members_of : {H : Type 0} → Side → Sides H → Members H
members_of Now sides = sides.serving
members_of Next sides = sides.next

-- both sides once one has these shards
abbrev pub with_members : {H : Type 0} → Side → Sides H → Members H → Sides H
with_members Now sides shards = record sides { serving = shards }
with_members Next sides shards = record sides { next = shards }

-- both sides end with what was left of the shards that one of them lent
module _ (H : RattleType) (G : Ghosts H.Denot) where
  abbrev pub LendsSide : Side → MutBor (the_row H G).Denot → MutBor (members.the_row H G).Denot
      → Fml
  LendsSide side old lent =
      Lends (the_row H G) (members.the_row H G) old lent (with_members side old.now)
