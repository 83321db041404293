-- Where a pixel lies, row by row.
use Rattle.std.proofs.Common.{◌≡◌, ℕ, ◌+◌, ◌*◌, refl}
use Rattle.chain.specs.Places.{spot}
use Rattle.chain.specs.declared.layout.Layout.{Layout}
use Rattle.chain.specs.declared.layout.Layout.TheVariants.{Rows}

pub by_rows : (o : Layout) (w h x y : ℕ) → y * w + x ≡ spot o w h x y
unfolding spot
by_rows Rows w h x y = refl
