-- Ages tell frames.
use Rattle.std.proofs.Common.{◌≡◌, ℕ, zero, suc, ◌<◌, Bool, true, false, ◌≢◌, List, [], ◌∷◌, Some, None, Option, sym, refl, ap, ◌∙◌, subst, ⊎_elim, arith}
use Rattle.std.specs.List.{slice_get}
use Rattle.std.proofs.lemmas.Bool.Decides.{nat_tests}
use Rattle.std.proofs.lemmas.Bool.{cases_eq}
use Rattle.chain.specs.Screens.{Screens, back_pixel, pixel_of}
use Rattle.chain.specs.Writes.{Wrote}
use Rattle.chain.specs.Swaps.{Swapped}
use Rattle.chain.specs.Frames.{Frame, Holds, Ran, begun, wrote, showed, AgesTell}

-- every buffer but the back, which may have been written since
record Kept {P : Type 0} (frames : List (Frame P)) (s : Screens P) : Type 0 where
  others : (b : ℕ) → b < s.count → b ≢ s.back → Holds frames s b

-- a write leaves the other buffers
wrote_kept : {P : Type 0} (frames : List (Frame P)) (s t : Screens P) (x y : ℕ) (p : P) → Wrote s x y p t → Kept frames s → Kept frames t
wrote_kept frames s t x y p w k =
    record {
      others = λ b lt ne n f small old at u v.
          let lt' : b < s.count = omega (arith, w.count) in
          let ne' : b ≢ s.back = λ e. ne (e ∙ sym w.back) in
          let e = w.pixel b u v in
          let h = k.others b lt' ne' n f small (sym (w.age b) ∙ old) at u v in
          grind (arith, nat_tests);
    }

puts_kept : {P : Type 0} (frames : List (Frame P)) (s t : Screens P) (x y : ℕ) (p : P) (r : Bool) → (r ≡ true → Wrote s x y p t) → (r ≡ false → t ≡ s) → Kept frames s → Kept frames t
puts_kept frames s t x y p true a b k = wrote_kept frames s t x y p (a refl) k
puts_kept frames s t x y p false a b k = subst (λ (u : Screens _). Kept frames u) (sym (b refl)) k

-- what is shown is the newest frame
newest : {P : Type 0} (frames : List (Frame P)) (s t : Screens P) → Swapped s t → (n : ℕ) (f : Frame P) → 1 ≡ suc n → slice_get (back_pixel s ∷ frames) n ≡ Some f → (x y : ℕ) → t.pixel s.back x y ≡ f x y
newest frames s t w zero f e at x y = w.shown x y ∙ ap (λ (o : Option (Frame _)). elim o [ Some g ↦ g x y | None ↦ None ]) at
newest frames s t w (suc n) f e at x y = absurd (omega arith)

-- and every other frame is one show older
later : {P : Type 0} (frames : List (Frame P)) (s t : Screens P) → Swapped s t → Kept frames s → (b : ℕ) → b < s.count → b ≢ s.back → Holds (back_pixel s ∷ frames) t b
later frames s t w k b lt ne zero f small old at x y =
    let e = w.ages b lt ne (λ z. omega arith) in
    let z : ◌≡◌ {A = ℕ} 0 1 = grind (arith, nat_tests) in absurd (omega arith)
later frames s t w k b lt ne (suc n) f small old at x y =
    let e = w.ages b lt ne (λ z. omega arith) in
    let o : s.age b ≡ suc n = grind (arith, nat_tests) in
    w.kept b lt ne (λ z. omega arith) x y ∙ k.others b lt ne n f (omega arith) o at x y

shown : {P : Type 0} (frames : List (Frame P)) (s t : Screens P) → Swapped s t → Kept frames s → (b : ℕ) → b < t.count → Holds (back_pixel s ∷ frames) t b
shown frames s t w k b lt =
    ⊎_elim
    (λ e. subst (λ (c : ℕ). Holds (back_pixel s ∷ frames) t c) (sym e) (λ n f small old at x y. newest frames s t w n f (sym w.newest ∙ old) at x y))
    (λ ne. later frames s t w k b (omega (arith, w.count)) ne)
    (cases_eq b s.back)

none : {P : Type 0} (s : Screens P) → Kept [] s
none s = record { others = λ b lt ne n f small old at x y. let z : ◌≡◌ {A = ℕ} 0 1 = cc in absurd (omega arith) }

ran : {P : Type 0} (frames : List (Frame P)) (s : Screens P) → Ran frames s → Kept frames s
ran _ _ (begun s) = none s
ran _ _ (wrote frames s t x y p r a w) = puts_kept frames s t x y p r w.done w.not (ran frames s a)
ran _ _ (showed frames s t a w) = record { others = λ b lt _. shown frames s t w (ran frames s a) b lt }

pub ages_tell : {P : Type 0} → AgesTell P
ages_tell =
    record {
      kept = λ frames s a. (ran frames s a).others;
      met = λ frames s t a w. shown frames s t w (ran frames s a);
      seen = λ s t w x y. ap (λ (o : Option ℕ). pixel_of t o x y) w.front ∙ w.shown x y;
    }
