-- The laws of specs/Laws, gathered.
use Rattle.std.proofs.Common.{◌≡◌, ◌≤◌, true, List, length, sym, ap, ◌∙◌, subst}
use Rattle.region_laws.specs.Bands.{covers, banded}
use Rattle.region_laws.specs.Joined.{most, joined}
use Rattle.region_laws.specs.Laws.{OneList, EverySet, Unites, Joins, JoinLaws}
use Rattle.region_laws.specs.declared.rect.Rect.{Rect}
use Rattle.region_laws.proofs.Tidy.{same_set}
use Rattle.region_laws.proofs.Exists.{listed_banded, listed_covers}
use Rattle.region_laws.proofs.Union.{union_banded, union_covers}
use Rattle.region_laws.proofs.Join.{joined_short, joined_few, joined_banded, joined_covers, joined_least, joined_swap, joined_same, joined_none, none_joined}

pub one_list : OneList
one_list = same_set

pub every_set : EverySet
every_set w h p i j = record { rules = listed_banded w h p i j; pixels = λ x y. listed_covers w h p x y i j }

pub unites : (xs ys : List Rect) → banded xs ≡ true → banded ys ≡ true → Unites xs ys
unites xs ys k m = record { rules = union_banded xs ys k m; pixels = union_covers xs ys k m }

pub joins : (xs ys : List Rect) → banded xs ≡ true → banded ys ≡ true → Joins xs ys (joined xs ys)
joins xs ys k m = record {
  rules = joined_banded xs ys k m;
  few = joined_few xs ys;
  both = joined_covers xs ys k m;
  least = joined_least xs ys k m;
  exact = λ h x y. ap (λ v. covers v x y) (joined_short xs ys h) ∙ union_covers xs ys k m x y;
}

pub join_laws : (xs ys : List Rect) → banded xs ≡ true → length xs ≤ most → JoinLaws xs ys
join_laws xs ys k h = record { either_order = joined_swap xs ys; with_itself = joined_same xs k h; with_none = joined_none xs k h; none_with = none_joined xs k h }

pub joins_at : (xs ys rs : List Rect) → banded xs ≡ true → banded ys ≡ true → rs ≡ joined xs ys → Joins xs ys rs
joins_at xs ys rs k m e = subst (λ (v : List Rect). Joins xs ys v) (sym e) (joins xs ys k m)
