-- A show paints the stated region with the whole picture.
use Rattle.std.proofs.Common.{◌≡◌, ℕ, ◌+◌, ◌-◌, ◌*◌, ◌≤◌, Bool, true, false, cond, ◌&&◌, eqb, List, [], ◌∷◌, map, length, Some, fold, refl, ap, ◌∙◌, subst, mul_assoc, mul_comm, mul-add, arith}
use Rattle.std.proofs.lemmas.List.{length-take}
use Rattle.region_laws.specs.Boxes.{Places}
use Rattle.region_laws.specs.Bands.{covers}
use Rattle.region_laws.specs.Counted.{sum, box_sum, list_sum, area}
use Rattle.region_laws.specs.declared.rect.Rect.{Rect}
use Rattle.region_laws.proofs.Counts.{sum_same, sum_bound, area_sum, area_bound}
use Rattle.region.specs.Lists.{list_of}
use Rattle.region.specs.declared.region.Region.{Region}
use Rattle.surface.specs.Told.{Told}
use Rattle.surface.specs.Sound.{Sound}
use Rattle.chain.specs.Screens.{Screens, on_display, back_age}
use Rattle.chain.specs.Swaps.{Swapped}
use Rattle.reference.specs.declared.pane.Pane.{Pane}
use Rattle.reference.specs.declared.answer.Shown.{Shown}
use Rattle.reference.specs.Picture.{covers as pane_covers, hides, deeper}
use Rattle.reference.specs.Damage.{stated, shifted}
use Rattle.reference.specs.Painting.{Painted, one_per_place, RegionPainted}
use Rattle.scene.specs.States.{state_of}
use Rattle.scene.specs.declared.scene.Scene.{Scene}
use Rattle.panel.specs.declared.panel.Panel.{Panel}
use Rattle.panel.specs.declared.sight.Sights.{Sights}
use Rattle.panel.specs.declared.sight.Tally.{Tally}
use Rattle.panel.specs.Sights.{sight, sights_of, composed, stacked}
use Rattle.panel.specs.Paints.{picture_by, depth_by, PaintedList}
use Rattle.panel.specs.Calls.{Meaning, stated_by, picture_of, depth_of, Displays}
use Rattle.panel.proofs.Sighting.{composed_is, stacked_is}

-- the same sum, place by place
list_same : (f g : ℕ → ℕ → ℕ) → ((x y : ℕ) → f x y ≡ g x y) → (bs : List Rect) → list_sum f bs ≡ list_sum g bs
list_same f g e [] = refl
list_same f g e (b ∷ bs) =
    ap (λ n. n + list_sum f bs) (sum_same (λ y. sum (λ x. f x y) b.left (b.right - b.left)) (λ y. sum (λ x. g x y) b.left (b.right - b.left)) b.top (b.bottom - b.top) (λ y. sum_same (λ x. f x y) (λ x. g x y) b.left (b.right - b.left) (λ x. e x y)))
    ∙ ap (λ n. box_sum g b + n) (list_same f g e bs)

-- at most c at each place
list_bound : (f : ℕ → ℕ → ℕ) (c : ℕ) → ((x y : ℕ) → f x y ≤ c) → (bs : List Rect) → list_sum f bs ≤ c * area bs
list_bound f c e [] = omega arith
list_bound f c e (b ∷ bs) =
    let w = b.right - b.left in
    let h = b.bottom - b.top in
    let i = list_bound f c e bs in
    let j = sum_bound (λ y. sum (λ x. f x y) b.left w) (w * c) b.top h (λ y. sum_bound (λ x. f x y) c b.left w (λ x. e x y)) in
    let k : h * (w * c) ≡ c * (w * h) = mul_comm h (w * c) ∙ (ap (λ n. n * h) (mul_comm w c) ∙ mul_assoc c w h) in
    let l = mul-add c (w * h) (area bs) in
    omega arith

-- no more panes cover a place than there are
one_deeper : (b d : Bool) (n : ℕ) → cond b 1 0 + cond d 0 n ≤ n + 1
one_deeper true true n = omega arith
one_deeper true false n = omega arith
one_deeper false true n = omega arith
one_deeper false false n = omega arith

deeper_few : {P : Type 0} (t : Told P) (x y n : ℕ) (ps : List Pane) → fold (deeper t x y) n ps ≤ n + length ps
deeper_few t x y n [] = omega arith
deeper_few t x y n (p ∷ ps) = let h = deeper_few t x y (deeper t x y n p) ps in let k = one_deeper (pane_covers t x y p) (hides t x y p) n in omega arith

same_painting : {P : Type 0} (s t : Screens P) (r : Places) (n : ℕ) (f g : ℕ → ℕ → P) → ((x y : ℕ) → f x y ≡ g x y) → Painted s r n f t → Painted s r n g t
same_painting s t r n f g e p = record {
  width = p.width;
  height = p.height;
  count = p.count;
  age = p.age;
  back = p.back;
  front = p.front;
  pixel = λ b x y. p.pixel b x y ∙ ap (λ v. cond (eqb b s.back && (r x y && on_display s x y)) (Some v) (s.pixel b x y)) (e x y);
  writes = p.writes;
}

module _ {P S C : Type 0} (m : Meaning P S C) (hard : P → Bool) (sound : (s : S) → Sound hard (m.tells s)) (law : (s d : P) → hard s ≡ true → m.lay s d ≡ s) (p : Panel P S C) where
  -- after the back's age was asked
  abbrev asked : C → Panel P S C
  asked c = record { base = p.base; shelf = p.shelf; chain = c; display = p.display; scene = p.scene }

  module _ (c1 : C) (same : m.screens c1 ≡ m.screens p.chain) (ss : Sights) (seen : sights_of ss ≡ map (sight (m.tells p.shelf)) (state_of p.scene).stack) where
    picture_is : (x y : ℕ) → picture_by m.lay m.tells (asked c1) ss x y ≡ picture_of m p x y
    picture_is x y = ap (λ v. composed m.lay (m.tells p.shelf) p.base v x y) seen ∙ composed_is hard (m.tells p.shelf) (sound p.shelf) m.lay law p.base p.base (state_of p.scene).stack x y

    depth_is : (x y : ℕ) → depth_by ss x y ≡ depth_of m p x y
    depth_is x y = ap (λ v. stacked v x y) seen ∙ stacked_is hard (m.tells p.shelf) (sound p.shelf) (state_of p.scene).stack 0 x y

    few : (x y : ℕ) → depth_of m p x y ≤ 16
    few x y =
        let h = deeper_few (m.tells p.shelf) x y 0 (state_of p.scene).stack in
        let l : length (state_of p.scene).stack ≤ 16 = simp length-take (omega (arith, p.scene.few)) in
        omega arith

    pub show_displays : (q : Panel P S C) (c3 : C) (sc : Scene) (age : ℕ) (r : Region) (n : Tally)
        → age ≡ back_age (m.screens p.chain) → list_of r ≡ stated p.display.width p.display.height age (state_of p.scene)
        → PaintedList m.lay m.tells m.screens (asked c1) ss (list_of r) n q → Swapped (m.screens q.chain) (m.screens c3) → state_of sc ≡ shifted (state_of q.scene)
        → Displays m p (record { age = age; touched = n.touched; laid = n.laid }) (record { base = q.base; shelf = q.shelf; chain = c3; display = q.display; scene = sc })
    show_displays q c3 sc age r n a e b w z =
        let is : list_of r ≡ stated_by m p = e ∙ ap (λ v. stated p.display.width p.display.height v (state_of p.scene)) a in
        let bound = area_bound (list_of r) r.banded in
        let touched : n.touched ≡ area (list_of r) = (let i = b.brushed.touched_is in let j = area_sum (list_of r) in omega arith) in
        let laid : n.laid ≡ list_sum (depth_of m p) (list_of r) =
        (let i = b.brushed.laid_is in let j = list_same (depth_by ss) (depth_of m p) depth_is (list_of r) in let k = list_bound (depth_of m p) 16 few (list_of r) in omega arith) in
        let painted : Painted (m.screens p.chain) (covers (list_of r)) (list_sum (one_per_place (m.screens p.chain)) (list_of r)) (picture_of m p) (m.screens q.chain) =
        same_painting (m.screens p.chain) (m.screens q.chain) (covers (list_of r)) (list_sum (one_per_place (m.screens p.chain)) (list_of r)) (picture_by m.lay m.tells (asked c1) ss) (picture_of m p) picture_is
        (subst (λ v. Painted v (covers (list_of r)) (list_sum (one_per_place v) (list_of r)) (picture_by m.lay m.tells (asked c1) ss) (m.screens q.chain)) same b.brushed.painted) in
        record {
          answer = ap (λ v. let s : Shown = record { age = v; touched = n.touched; laid = n.laid } in s) a
              ∙ (ap (λ v. let s : Shown = record { age = back_age (m.screens p.chain); touched = v; laid = n.laid } in s) (touched ∙ ap area is)
              ∙ ap (λ v. let s : Shown = record { age = back_age (m.screens p.chain); touched = area (stated_by m p); laid = v } in s) (laid ∙ ap (list_sum (depth_of m p)) is));
          painted = m.screens q.chain;
          paints = subst (λ v. RegionPainted (m.screens p.chain) v (picture_of m p) (m.screens q.chain)) is painted;
          swaps = w;
          scene = z ∙ ap (λ v. shifted (state_of v)) b.rest.scene;
          base = b.rest.base;
          shelf = b.rest.shelf;
          display = b.rest.display;
        }
