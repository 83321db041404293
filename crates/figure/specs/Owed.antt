-- The proof, which a figure carries in its meaning, that it keeps what every shelf owes. It says nothing more than the
-- type of `told_sound_lem`.
use Rattle.std.specs.Prelude.{◌≡◌, ℕ, ◌*◌, ◌/◌, Bool, true, ◌&&◌, ◌==◌, refl}
use Rattle.std.proofs.Common.{arith, sym, ◌∙◌, ⊎_elim}
use Rattle.std.proofs.lemmas.Bool.{and_parts, cond_both, cases_eq, eq-eqb, ne_eqb}
use Rattle.surface.specs.Sound.{Sound}
use Rattle.surface.specs.SingleOwed.{single_sound}
use Rattle.figure.specs.declared.figure.Figure.{Figure}
use Rattle.figure.specs.Figures.{accepts, inked, picture, told}

both_sides : (z : ℕ) → (15 * z == 0) ≡ (5 * z == 0)
both_sides z = ⊎_elim
    (λ e. eq-eqb (15 * z) 0 (omega arith) ∙ sym (eq-eqb (5 * z) 0 (omega arith)))
    (λ e. ne_eqb (15 * z) 0 (λ i. e (omega arith)) ∙ sym (ne_eqb (5 * z) 0 (λ i. e (omega arith))))
    (cases_eq z 0)

pub told_sound_lem : {P : Type 0} (hard : P → Bool) (s : Figure P) → Sound hard (told hard s)
told_sound_lem hard s =
    let z = s.scale in
    let small = s.small in
    single_sound hard (15 * z) (5 * z) (picture z s.shown.value s.ink s.paper) (hard s.ink && hard s.paper) accepts
    (omega arith) (omega arith) (both_sides z)
    (λ x y i j. refl)
    (λ all x y i j. let p = and_parts (hard s.ink) (hard s.paper) all in
    cond_both (inked s.shown.value (x / z) (y / z)) s.ink s.paper (λ v. hard v ≡ true) (λ e. p.0) (λ e. p.1))
