-- The table of worked examples.
use Rattle.std.specs.Prelude.{◌≡◌, ℕ, ◌*◌, true, List, [], ◌∷◌, ◌++◌, length}
use Rattle.pixel.specs.Rounding.{near}
use Rattle.pixel.specs.Premultiplied.{laid}
use Rattle.region_laws.specs.Boxes.{box}
use Rattle.region_laws.specs.Joined.{joined}
use Rattle.region_laws.specs.Counted.{area}
use Rattle.region_laws.specs.Examples.{dots}
use Rattle.region_laws.specs.declared.rect.Rect.{Rect}
use Rattle.region.specs.Lists.{list_of}
use Rattle.chain.specs.Begins.{begun}
use Rattle.chain.specs.declared.layout.Layout.TheVariants.{Rows}
use Rattle.chains.specs.Rotation.{rotations}
use Rattle.chains.specs.Picked.{pickings}
use Rattle.chains.specs.Ways.{turnings}
use Rattle.chains.specs.Kinds.{rotating as in_turn, by_digits}
use Rattle.chains.specs.Met.{meeting}
use Rattle.chains.specs.declared.rotating.Rotate.{Rotate}
use Rattle.chains.specs.declared.picks.Picks.{Picks}
use Rattle.tour.specs.declared.worked.Answers.{Answers}

-- the answers that the table has to the joins: three bands where two boxes overlap, one box where one lies right under
-- the other, the box over all where a 33rd box is one too many, and a last box that is lengthened by a pixel
abbrev pub bands : List Rect
bands = box 0 0 4 1 ∷ box 0 1 6 2 ∷ box 2 2 6 3 ∷ []

abbrev pub one : List Rect
one = box 0 0 2 2 ∷ []

abbrev pub over : List Rect
over = box 0 0 65 1 ∷ []

abbrev pub longer : List Rect
longer = dots 31 ++ box 62 0 64 1 ∷ []

-- the ages that shows meet
abbrev pub threes : List ℕ
threes = 0 ∷ 0 ∷ 0 ∷ 3 ∷ 3 ∷ []

abbrev pub forgotten : List ℕ
forgotten = 0 ∷ 0 ∷ 2 ∷ 1 ∷ []

-- the definitions that the contracts of the running code name come out so
pub record Worked : Type 0 where
  -- just below half a step, just above it, and the largest product of two channels
  pub near_127 : near 127 ≡ 0
  pub near_128 : near 128 ≡ 1
  pub near_largest : near (255 * 255) ≡ 255
  -- a half-clear dark red over solid blue
  pub red_over_blue : laid 0x80400000 0xff0000ff ≡ 0xff40007f
  -- boxes that overlap, and boxes of one width right under each other
  pub overlap : joined (box 0 0 4 2 ∷ []) (box 2 1 6 3 ∷ []) ≡ bands
  pub overlap_area : area bands ≡ 14
  pub under : joined (box 0 0 2 1 ∷ []) (box 0 1 2 2 ∷ []) ≡ one
  -- the 32 single pixels of row 0 at x = 0, 2, .. 62 with pixel 64, and with pixel 63 instead
  pub crowded : joined (dots 32) (box 64 0 65 1 ∷ []) ≡ over
  pub lengthened : joined (dots 32) (box 63 0 64 1 ∷ []) ≡ longer
  pub lengthened_count : length longer ≡ 32
  pub lengthened_area : area longer ≡ 33
  -- five shows on a rotating chain of 3, and four on a picking chain of 2 with the number 9, of one pixel
  pub rotating : meeting {P = ℕ} (λ k. rotations k (begun Rows (0 ∷ 0 ∷ 0 ∷ []) true 1 1 3)) 5 ≡ threes
  pub picking : meeting {P = ℕ} (λ k. pickings 9 0 k (begun Rows (0 ∷ 0 ∷ []) true 1 1 2)) 4 ≡ forgotten
  -- the same, of the rules by which the chains that run turn their buffers
  pub by_rotating : (r : Rotate) → meeting {P = ℕ} (λ k. turnings in_turn k r (begun Rows (0 ∷ 0 ∷ 0 ∷ []) true 1 1 3)) 5 ≡ threes
  pub by_picking : (p : Picks) → p.number ≡ 9 → p.at ≡ 0 → meeting {P = ℕ} (λ k. turnings by_digits k p (begun Rows (0 ∷ 0 ∷ []) true 1 1 2)) 4 ≡ forgotten

-- the running code answers so
pub record Ran (r : Answers) : Type 0 where
  pub near_127 : r.near_127 ≡ 0
  pub near_128 : r.near_128 ≡ 1
  pub near_largest : r.near_largest ≡ 255
  pub red_over_blue : r.red_over_blue ≡ 0xff40007f
  pub overlap : list_of r.overlap ≡ bands
  pub overlap_area : r.overlap_area ≡ 14
  pub under : list_of r.under ≡ one
  pub crowded : list_of r.crowded ≡ over
  pub lengthened : list_of r.lengthened ≡ longer
  pub lengthened_area : r.lengthened_area ≡ 33
  pub rotating : r.rotating ≡ threes
  pub picking : r.picking ≡ forgotten
