-- Sheets: what they tell, and what an order makes of them.
use Rattle.std.specs.Prelude.{◌≡◌, ℕ, ◌*◌, Bool, cond, ◌&&◌, List, [], length, ℤ, pos, ◌==◌, int_le, int_lt, nat_le}
use Rattle.std.specs.List.{list_all}
use Rattle.region_laws.specs.declared.rect.Rect.{Rect}
use Rattle.region_laws.specs.Boxes.{Places}
use Rattle.surface.specs.declared.order.Order.{Order}
use Rattle.surface.specs.Told.{Told}
use Rattle.surface.specs.Hull.{hull, cut}
use Rattle.surface.specs.Single.{single}
use Rattle.sheet.specs.declared.sheet.Sheet.{Sheet}
use Rattle.sheet.specs.Pages.{nth_page, pixel_at, differs}

-- act 1, b = 0, and a from 0 and below the number of pages n
abbrev pub accepts : ℕ → Order → Bool
accepts n o = (int_le (pos 1) o.act && int_le o.act (pos 1)) && ((int_le (pos 0) o.b && int_le o.b (pos 0)) && (int_le (pos 0) o.a && int_lt o.a (pos n)))

-- the order that turns a sheet to page p
abbrev pub turning : ℤ → Order
turning p = record { act = pos 1; a = p; b = pos 0 }

-- what a sheet of w by h and n pages tells, while it shows this page
abbrev pub sheet : {P : Type 0} → (P → Bool) → ℕ → ℕ → ℕ → List P → Told P
sheet hard w h n page = single w h (pixel_at page w) (list_all hard page) (accepts n)

-- page p of a sheet, and the page that it shows
abbrev pub page_of : {P : Type 0} → Sheet P → ℕ → List P
page_of s p = nth_page s.cells.now (s.width * s.height) p

abbrev pub shown : {P : Type 0} → Sheet P → List P
shown s = page_of s s.page

abbrev pub told : {P : Type 0} → (P → Bool) → Sheet P → Told P
told hard s = sheet hard s.width s.height s.pages (shown s)

-- the numbers and the length of the memory fit: sides from 1 to 1,024, 1 to 64 pages, and exactly their pixels
abbrev pub fitting : ℕ → ℕ → ℕ → ℕ → Bool
fitting w h n long = (nat_le 1 w && nat_le w 1024) && ((nat_le 1 h && nat_le h 1024) && ((nat_le 1 n && nat_le n 64) && long == n * (w * h)))

-- what a new sheet tells: page 0; or, where something does not fit, a closed surface
abbrev pub opening : {P : Type 0} → (P → Bool) → List P → ℕ → ℕ → ℕ → Told P
opening hard cells w h n = cond (fitting w h n (length cells)) (sheet hard w h n (nth_page cells (w * h) 0)) (sheet hard 0 0 1 [])

-- a new sheet whose numbers fit reads the caller's memory, and shows page 0 of it
pub record Fresh {P : Type 0} (memory : List P) (w h n : ℕ) (s : Sheet P) : Type 0 where
  pub cells : s.cells.now ≡ memory
  pub width : s.width ≡ w
  pub height : s.height ≡ h
  pub pages : s.pages ≡ n
  pub page : s.page ≡ 0

-- the places of a sheet where page p differs from the page that it shows
abbrev pub changed : {P : Type 0} → (P → P → Bool) → Sheet P → ℕ → Places
changed equal s p = cut (differs equal s.width (shown s) (page_of s p)) s.width s.height

-- the smallest box over them
abbrev pub damage : {P : Type 0} → (P → P → Bool) → Sheet P → ℕ → Rect
damage equal s p = hull (differs equal s.width (shown s) (page_of s p)) s.width s.height

-- an order o to the sheet s, its surface 0, that answers d, makes t of it: t shows page a; memory, sides and number of
-- pages are as before
pub record Turned {P : Type 0} (equal : P → P → Bool) (s : Sheet P) (k : ℕ) (o : Order) (d : Rect) (t : Sheet P) : Type 0 where
  pub surface : k ≡ 0
  pub page : pos t.page ≡ o.a
  pub box : d ≡ damage equal s t.page
  pub cells : t.cells ≡ s.cells
  pub width : t.width ≡ s.width
  pub height : t.height ≡ s.height
  pub pages : t.pages ≡ s.pages
