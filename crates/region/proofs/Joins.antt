-- What is promised of the join of two regions.
use Rattle.std.proofs.Common.{true, refl, ◌≡◌, ◌≤◌, List, [], length, take, ap, ◌∙◌, arith}
use Rattle.region_laws.specs.Joined.{joined, union, stand_in, single, cover, cover_from}
use Rattle.region_laws.specs.Boxes.{full}
use Rattle.region_laws.specs.Laws.{Joins, Unites, JoinLaws}
use Rattle.region_laws.specs.declared.rect.Rect.{Rect}
use Rattle.region_laws.proofs.Laws.{joins_at, unites, join_laws}
use Rattle.region_laws.proofs.Stacking.{length_front}
use Rattle.region_laws.proofs.Join.{joined_none, none_joined, stand_in_is, both_inside}
use Rattle.region.specs.Lists.{list_of}
use Rattle.region.specs.declared.region.Region.{Region}

-- a region's list has at most 32 boxes
pub few : (r : Region) → length (list_of r) ≤ 32
few r = let e = length_front r.boxes r.count (omega arith) in omega arith

none : (r : Region) → r.count ≡ 0 → list_of r ≡ []
none r e = ap (λ n. take n r.boxes) e

-- with the empty region
pub joined_first : (a b : Region) → a.count ≡ 0 → joined (list_of a) (list_of b) ≡ list_of b
joined_first a b e = ap (λ v. joined v (list_of b)) (none a e) ∙ none_joined (list_of b) b.banded (few b)

pub joined_second : (a b : Region) → b.count ≡ 0 → joined (list_of a) (list_of b) ≡ list_of a
joined_second a b e = ap (joined (list_of a)) (none b e) ∙ joined_none (list_of a) a.banded (few a)

-- the laws of a join
pub regions_unite : (a b : Region) → Unites (list_of a) (list_of b)
regions_unite a b = unites (list_of a) (list_of b) a.banded b.banded

pub regions_join : (a b : Region) (rs : List Rect) → rs ≡ joined (list_of a) (list_of b) → Joins (list_of a) (list_of b) rs
regions_join a b rs e = joins_at (list_of a) (list_of b) rs a.banded b.banded e

pub regions_laws : (a b : Region) → JoinLaws (list_of a) (list_of b)
regions_laws a b = join_laws (list_of a) (list_of b) a.banded (few a)

-- the stand-in for a union: one box, which lies in a display
pub stood_in : (a b : Region) → stand_in (union (list_of a) (list_of b)) ≡ single (cover_from (cover (list_of a)) (list_of b))
stood_in a b = stand_in_is (list_of a) (list_of b) a.banded b.banded

pub stands_left : (a b : Region) → full (cover_from (cover (list_of a)) (list_of b)) ≡ true → (cover_from (cover (list_of a)) (list_of b)).right ≤ 1024
stands_left a b f = (both_inside (list_of a) (list_of b) (cover_from (cover (list_of a)) (list_of b)) a.banded b.banded refl f).0

pub stands_above : (a b : Region) → full (cover_from (cover (list_of a)) (list_of b)) ≡ true → (cover_from (cover (list_of a)) (list_of b)).bottom ≤ 1024
stands_above a b f = (both_inside (list_of a) (list_of b) (cover_from (cover (list_of a)) (list_of b)) a.banded b.banded refl f).1
