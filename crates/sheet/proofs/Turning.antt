-- Turning a sheet to another page.
use Rattle.std.specs.List.{list_all}
use Rattle.std.proofs.Common.{◌≡◌, ℕ, ◌<◌, Bool, true, false, eqb, List, Some, None, Option, sym, refl, ap, ◌∙◌, ⊎_elim, arith}
use Rattle.std.proofs.lemmas.Bool.{not-false, both_ways, cases_eq, eq-eqb, eqb-true}
use Rattle.region_laws.specs.declared.rect.Rect.{Rect}
use Rattle.surface.specs.Told.{has, passes}
use Rattle.surface.specs.Damaged.{Damaged}
use Rattle.surface.specs.Hull.{hull}
use Rattle.surface.proofs.Singles.{single_damaged, hides_told}
use Rattle.sheet.specs.Pages.{pixel_at, alike, differs}
use Rattle.sheet.specs.Sheets.{accepts, sheet, told}
use Rattle.sheet.specs.Owed.{told_sound_lem}
use Rattle.sheet.specs.declared.sheet.Sheet.{Sheet}

-- a sheet that is wide is high
pub open_both : (w h : ℕ) → eqb w 0 ≡ eqb h 0 → (w ≡ 0 → ⊥) → 0 < h
open_both w h e ne = ⊎_elim (λ z. absurd (ne (eqb-true w 0 (e ∙ eq-eqb h 0 z)))) (λ z. omega arith) (cases_eq h 0)

module _ {P : Type 0} (equal : P → P → Bool) (law : (a b : P) → equal a b ≡ true → a ≡ b) where
  -- pixels that are told the same are the same
  pub alike_same : (a b : Option P) → alike equal a b ≡ true → a ≡ b
  alike_same None None e = refl
  alike_same None (Some b) e = absurd (both_ways false refl e)
  alike_same (Some a) None e = absurd (both_ways false refl e)
  alike_same (Some a) (Some b) e = ap Some (law a b e)

  -- what turning from one page to another damages
  pub turn_damaged : (hard : P → Bool) (w h n : ℕ) (old new : List P) (k : ℕ) → k ≡ 0 → Damaged (sheet hard w h n old) (sheet hard w h n new) k (hull (differs equal w old new) w h)
  turn_damaged hard w h n old new k k0 =
      single_damaged w h (pixel_at old w) (pixel_at new w) (list_all hard old) (list_all hard new) (accepts n) (differs equal w old new) k k0
      (λ x y i j e. sym (alike_same _ _ (not-false _ e)))

-- a box that the sheet tells as solid covers solid pixels only
pub shown_hides : {P : Type 0} (hard : P → Bool) (s : Sheet P) (k : ℕ) (r : Option Rect) (x y : ℕ) → r ≡ (told hard s).solid k → has r x y ≡ true → passes hard ((told hard s).pixel k x y) ≡ true
shown_hides hard s k r x y e h = hides_told hard (told hard s) k r (told_sound_lem hard s) e x y h
