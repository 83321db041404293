-- A panel paints one pixel, row or box more.
use Rattle.std.proofs.Common.{◌≡◌, ℕ, ◌+◌, ◌<◌, ◌≤◌, max, List, length, get_or, take, refl, ap, ◌∙◌, subst, arith, take_all}
use Rattle.region_laws.specs.Boxes.{box, no_box, inside}
use Rattle.region_laws.specs.declared.rect.Rect.{Rect}
use Rattle.surface.specs.Told.{Told}
use Rattle.chain.specs.Screens.{Screens, Sound}
use Rattle.reference.specs.Painting.{Painted, one_per_place, capped, BoxBrushed, row_box}
use Rattle.reference_laws.proofs.Painting.{row_begins, row_steps, row_ends, box_begins, box_steps, box_ends, list_begins, list_steps}
use Rattle.panel.specs.declared.panel.Panel.{Panel}
use Rattle.panel.specs.declared.sight.Sights.{Sights}
use Rattle.panel.specs.declared.sight.Tally.{Tally}
use Rattle.panel.specs.Sights.{sights_of, composed}
use Rattle.panel.specs.Tallies.{added}
use Rattle.panel.specs.Paints.{ChainOnly, picture_by, depth_by, PaintedBox, PaintedList}

abbrev pub none : Tally
none = record { touched = 0; laid = 0 }

pub chain_only : {P S C : Type 0} (p : Panel P S C) → ChainOnly p p
chain_only p = record { base = refl; shelf = refl; display = refl; scene = refl }

then_only : {P S C : Type 0} (p q r : Panel P S C) → ChainOnly p q → ChainOnly q r → ChainOnly p r
then_only p q r a b = record { base = b.base ∙ a.base; shelf = b.shelf ∙ a.shelf; display = b.display ∙ a.display; scene = b.scene ∙ a.scene }

module _ {P S C : Type 0} (lay : P → P → P) (tells : S → Told P) (screens : C → Screens P) (sound : (c : C) → Sound (screens c)) (ss : Sights) (p : Panel P S C) where
  -- a later panel makes the same picture
  same_picture : (q : Panel P S C) → ChainOnly p q → picture_by lay tells q ss ≡ picture_by lay tells p ss
  same_picture q a = ap (λ s. composed lay (tells s) q.base (sights_of ss)) a.shelf ∙ ap (λ b. composed lay (tells p.shelf) b (sights_of ss)) a.base

  pub row_opens : (l y : ℕ) → PaintedBox lay tells screens p ss (row_box l l y) none p
  row_opens l y = record { brushed = row_begins (screens p.chain) (picture_by lay tells p ss) (depth_by ss) (sound p.chain).writes l y; rest = chain_only p }

  pub row_goes : (q r : Panel P S C) (l x y n : ℕ) (a t : Tally) → l ≤ x → PaintedBox lay tells screens p ss (row_box l x y) a q
      → Painted (screens q.chain) (inside (box x y (x + 1) (y + 1))) (one_per_place (screens q.chain) x y) (picture_by lay tells q ss) (screens r.chain) → n ≡ depth_by ss x y → n ≤ 16 → ChainOnly q r
      → t ≡ added a (record { touched = 1; laid = n }) → PaintedBox lay tells screens p ss (row_box l (x + 1) y) t r
  row_goes q r l x y n a t h b w e few o f = record {
    brushed = row_steps (screens p.chain) (picture_by lay tells p ss) (depth_by ss) (sound p.chain).writes (screens q.chain) (screens r.chain) l x y a.touched a.laid t.touched t.laid h b.brushed
        (subst (λ pic. Painted (screens q.chain) (inside (box x y (x + 1) (y + 1))) (one_per_place (screens q.chain) x y) pic (screens r.chain)) (same_picture q b.rest) w)
        (omega arith) (ap (λ (v : Tally). v.touched) f) (ap (λ (v : Tally). v.laid) f ∙ ap (λ z. capped (a.laid + z)) e);
    rest = then_only p q r b.rest o;
  }

  pub row_closes : (q : Panel P S C) (l r x y : ℕ) (n : Tally) → l ≤ x → r ≤ x → x ≤ max l r → PaintedBox lay tells screens p ss (row_box l x y) n q → PaintedBox lay tells screens p ss (row_box l r y) n q
  row_closes q l r x y n a b c h = record { brushed = row_ends (screens p.chain) (picture_by lay tells p ss) (depth_by ss) (screens q.chain) l r x y n.touched n.laid a b c h.brushed; rest = h.rest }

  pub box_opens : (l t r : ℕ) → PaintedBox lay tells screens p ss (box l t r t) none p
  box_opens l t r = record { brushed = box_begins (screens p.chain) (picture_by lay tells p ss) (depth_by ss) (sound p.chain).writes l t r; rest = chain_only p }

  -- a box of a later panel
  again : (q r : Panel P S C) (b : Rect) (n : Tally) → ChainOnly p q → PaintedBox lay tells screens q ss b n r → BoxBrushed (screens q.chain) (picture_by lay tells p ss) (depth_by ss) b n.touched n.laid (screens r.chain)
  again q r b n a h = subst (λ pic. BoxBrushed (screens q.chain) pic (depth_by ss) b n.touched n.laid (screens r.chain)) (same_picture q a) h.brushed

  pub box_goes : (q z : Panel P S C) (l t r y : ℕ) (a n m : Tally) → t ≤ y → PaintedBox lay tells screens p ss (box l t r y) a q → PaintedBox lay tells screens q ss (row_box l r y) n z
      → m ≡ added a n → PaintedBox lay tells screens p ss (box l t r (y + 1)) m z
  box_goes q z l t r y a n m h b w f = record {
    brushed = box_steps (screens p.chain) (picture_by lay tells p ss) (depth_by ss) (sound p.chain).writes (screens q.chain) (screens z.chain) l t r y a.touched a.laid n.touched n.laid m.touched m.laid h b.brushed (again q z (row_box l r y) n b.rest w)
        (ap (λ (v : Tally). v.touched) f) (ap (λ (v : Tally). v.laid) f);
    rest = then_only p q z b.rest w.rest;
  }

  pub box_closes : (q : Panel P S C) (l t r b y : ℕ) (n : Tally) → t ≤ y → b ≤ y → y ≤ max t b → PaintedBox lay tells screens p ss (box l t r y) n q → PaintedBox lay tells screens p ss (box l t r b) n q
  box_closes q l t r b y n a c d h = record { brushed = box_ends (screens p.chain) (picture_by lay tells p ss) (depth_by ss) (screens q.chain) l t r b y n.touched n.laid a c d h.brushed; rest = h.rest }

  pub list_opens : (bs : List Rect) → PaintedList lay tells screens p ss (take 0 bs) none p
  list_opens bs = record { brushed = list_begins (screens p.chain) (picture_by lay tells p ss) (depth_by ss) (sound p.chain).writes bs; rest = chain_only p }

  pub list_goes : (q z : Panel P S C) (bs : List Rect) (i : ℕ) (a n m : Tally) → i < length bs → PaintedList lay tells screens p ss (take i bs) a q → PaintedBox lay tells screens q ss (get_or bs i no_box) n z
      → m ≡ added a n → PaintedList lay tells screens p ss (take (i + 1) bs) m z
  list_goes q z bs i a n m h b w f = record {
    brushed = list_steps (screens p.chain) (picture_by lay tells p ss) (depth_by ss) (sound p.chain).writes (screens q.chain) (screens z.chain) bs i a.touched a.laid n.touched n.laid m.touched m.laid h b.brushed (again q z (get_or bs i no_box) n b.rest w)
        (ap (λ (v : Tally). v.touched) f) (ap (λ (v : Tally). v.laid) f);
    rest = then_only p q z b.rest w.rest;
  }

  pub list_closes : (q : Panel P S C) (bs : List Rect) (i : ℕ) (n : Tally) → length bs ≤ i → PaintedList lay tells screens p ss (take i bs) n q → PaintedList lay tells screens p ss bs n q
  list_closes q bs i n h b = subst (λ v. PaintedList lay tells screens p ss v n q) (take_all i bs h) b
