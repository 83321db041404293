-- The worked examples, by computing them.
use Rattle.std.proofs.Common.{refl}
use Rattle.region_laws.specs.Examples.{Overlap, Under, Crowded, Lengthened}
use Rattle.region_laws.specs.Joined.{stand_in}

pub overlap_is : Overlap
overlap_is = record { list = refl; pixels = refl }

pub under_is : Under
under_is = refl

pub crowded_is : Crowded
unfolding stand_in
crowded_is = refl

pub lengthened_is : Lengthened
lengthened_is = record { list = refl; few = refl; pixels = refl }
