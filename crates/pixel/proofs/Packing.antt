-- Four bytes packed into a pixel.
use Rattle.std.proofs.Common.{◌≡◌, ℕ, ◌≤◌, true, leb, arith}
use Rattle.std.proofs.lemmas.Bool.{and_parts, and_from, leb-true, le-leb}
use Rattle.pixel.specs.Channel.{blended}
use Rattle.pixel.specs.Premultiplied.{alpha, red, green, blue, argb, laid, premultiplied}
use Rattle.pixel.proofs.Blending.{stays}

module _ (a r g b : ℕ) (ra : r ≤ 255) (ga : g ≤ 255) (ba : b ≤ 255) where
  pub alpha_argb : alpha (argb a r g b) ≡ a
  alpha_argb = omega arith

  pub red_argb : red (argb a r g b) ≡ r
  red_argb = omega arith

  pub green_argb : green (argb a r g b) ≡ g
  green_argb = omega arith

  pub blue_argb : blue (argb a r g b) ≡ b
  blue_argb = omega arith

-- what two premultiplied pixels make is premultiplied
pub laid_stays : (s d : ℕ) → premultiplied s ≡ true → premultiplied d ≡ true → premultiplied (laid s d) ≡ true
laid_stays s d p q =
    let p1 = and_parts (leb (red s) (alpha s)) _ p in
    let p2 = and_parts (leb (green s) (alpha s)) _ p1.1 in
    let q1 = and_parts (leb (red d) (alpha d)) _ q in
    let q2 = and_parts (leb (green d) (alpha d)) _ q1.1 in
    let at : (x y : ℕ) → leb x (alpha s) ≡ true → leb y (alpha d) ≡ true → leb (blended x y (alpha s)) (blended (alpha s) (alpha d) (alpha s)) ≡ true
    = λ x y k l. le-leb _ _ (stays x (alpha s) y (alpha d) (leb-true x _ k) (leb-true y _ l)) in
    let na = blended (alpha s) (alpha d) (alpha s) in
    let nr = blended (red s) (red d) (alpha s) in
    let ng = blended (green s) (green d) (alpha s) in
    let nb = blended (blue s) (blue d) (alpha s) in
    let hr : nr ≤ 255 = omega arith in
    let hg : ng ≤ 255 = omega arith in
    let hb : nb ≤ 255 = omega arith in
    rw (alpha_argb na nr ng nb hr hg hb, red_argb na nr ng nb hr hg hb, green_argb na nr ng nb hr hg hb, blue_argb na nr ng nb hr hg hb)
    (and_from _ _ (at _ _ p1.0 q1.0) (and_from _ _ (at _ _ p2.0 q2.0) (at _ _ p2.1 q2.1)))
