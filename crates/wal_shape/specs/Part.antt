-- The part that each sliver is.
use Rattle.wal_shape.specs.declared.axis.Axis.{Axis}
use Rattle.wal_shape.specs.declared.axis.Axis.TheVariants as axes
use Rattle.wal_shape.specs.declared.part.Part.{Part}
use Rattle.wal_shape.specs.declared.part.Part.TheVariants.{Primary, Secondary}

-- the part that a sliver of this axis is
abbrev pub sliver_part : Axis → Part
sliver_part axes.Primary = Primary
sliver_part axes.Secondary = Secondary
