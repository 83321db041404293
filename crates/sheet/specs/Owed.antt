-- The proof, which a sheet carries in its meaning, that it keeps what every shelf owes. It says nothing more than the
-- type of `told_sound_lem`.
use Rattle.std.specs.Prelude.{◌≡◌, ℕ, zero, suc, ◌+◌, ◌*◌, ◌<◌, ◌≤◌, Bool, true, List, [], ◌∷◌, length, is_some, refl}
use Rattle.std.proofs.Common.{add-mul, arith, length-take, length-drop}
use Rattle.std.specs.List.{slice_get, list_all}
use Rattle.std.proofs.lemmas.Nat.{mul-le, mul-add-lt}
use Rattle.std.proofs.lemmas.Bool.{and_parts}
use Rattle.surface.specs.Told.{passes}
use Rattle.surface.specs.Sound.{Sound}
use Rattle.surface.specs.SingleOwed.{single_sound}
use Rattle.sheet.specs.declared.sheet.Sheet.{Sheet}
use Rattle.sheet.specs.Pages.{nth_page, pixel_at}
use Rattle.sheet.specs.Sheets.{accepts, shown, told}

-- each pixel passes where all do
pub each_at : {P : Type 0} (f : P → Bool) (ps : List P) (i : ℕ) → list_all f ps ≡ true → i < length ps → passes f (slice_get ps i) ≡ true
each_at f [] i e h = absurd (omega arith)
each_at f (p ∷ ps) zero e h = (and_parts (f p) (list_all f ps) e).0
each_at f (p ∷ ps) (suc i) e h = each_at f ps i (and_parts (f p) (list_all f ps) e).1 (omega arith)

pub some_at : {P : Type 0} (ps : List P) (i : ℕ) → i < length ps → is_some (slice_get ps i) ≡ true
some_at [] i h = absurd (omega arith)
some_at (p ∷ ps) zero h = refl
some_at (p ∷ ps) (suc i) h = some_at ps i (omega arith)

-- page p ends inside the memory
pub part_fits : (p n a : ℕ) → p < n → p * a + a ≤ n * a
part_fits p n a h = omega (arith, mul-le (p + 1) a n a (omega arith) (omega arith), add-mul p 1 a)

pub page_long : {P : Type 0} (cells : List P) (a n p : ℕ) → p < n → length cells ≡ n * a → length (nth_page cells a p) ≡ a
page_long cells a n p h l = let f = part_fits p n a h in simp (length-take, length-drop) (omega arith)

pub told_sound_lem : {P : Type 0} (hard : P → Bool) (s : Sheet P) → Sound hard (told hard s)
told_sound_lem hard s =
    let w = s.width in
    let h = s.height in
    let long = page_long s.cells.now (w * h) s.pages s.page s.shown s.room in
    single_sound hard w h (pixel_at (shown s) w) (list_all hard (shown s)) (accepts s.pages) s.wide s.high s.both
    (λ x y i j. let e = mul-add-lt y w x h j i in some_at (shown s) (y * w + x) (omega arith))
    (λ all x y i j. let e = mul-add-lt y w x h j i in each_at hard (shown s) (y * w + x) all (omega arith))
