-- Held edges have the pixels of a display that the signed ones have.
use Rattle.std.proofs.Common.{sym, Bool, ◌≡◌, ℕ, ◌<◌, ◌≤◌, false, ◌&&◌, ltb, leb, ◌⊎◌, ℤ, pos, negsuc, ◌∙◌, inl, inr, arith}
use lib.Signed.{lt_z, le_z}
use Rattle.std.proofs.lemmas.Bool.Decides.{nat_tests}
use Rattle.std.proofs.lemmas.Bool.{cases_lt}
use Rattle.region_laws.specs.Boxes.{inside}
use Rattle.region.specs.Clipped.{held, held_box, common}
use Rattle.region.specs.declared.signed_rect.SignedRect.{SignedRect}

edge_low : (v : ℤ) (m x : ℕ) → x < m → le_z v (pos x) ≡ leb (held v m) x
edge_low (pos n) m x h = grind (arith, nat_tests)
edge_low (negsuc n) m x h = grind (arith, nat_tests)

edge_high : (v : ℤ) (m x : ℕ) → x < m → lt_z (pos x) v ≡ ltb x (held v m)
edge_high (pos n) m x h = grind (arith, nat_tests)
edge_high (negsuc n) m x h = grind (arith, nat_tests)

pub held_within : (v : ℤ) (m : ℕ) → held v m ≤ m
held_within (pos n) m = omega arith
held_within (negsuc n) m = omega arith

-- past the display a held box covers nothing
held_past : (v : ℤ) (m x : ℕ) → m ≤ x → ltb x (held v m) ≡ false
held_past v m x h = let e = held_within v m in grind (arith, nat_tests)

-- so along one axis a held span and the signed one have the same pixels of a display
held_axis : (v u : ℤ) (m x : ℕ) → (leb (held v m) x && ltb x (held u m)) ≡ (ltb x m && (le_z v (pos x) && lt_z (pos x) u))
held_axis v u m x = go (cases_lt x m)
  where
    go : (x < m) ⊎ (m ≤ x) → (leb (held v m) x && ltb x (held u m)) ≡ (ltb x m && (le_z v (pos x) && lt_z (pos x) u))
    go (inl i) = let e = edge_low v m x i in let f = edge_high u m x i in grind (arith, nat_tests, e, f)
    go (inr i) = let e = held_past u m x i in grind (arith, nat_tests, e)

and_across : (p a q b : Bool) → ((p && a) && (q && b)) ≡ ((p && q) && (a && b))
and_across p a q b = grind arith

pub common_held : (w h : ℕ) (b : SignedRect) (x y : ℕ) → common w h b x y ≡ inside (held_box w h b) x y
common_held w h b x y =
    sym ((λ i. held_axis b.left b.right w x i && held_axis b.top b.bottom h y i)
    ∙ and_across (ltb x w) (le_z b.left (pos x) && lt_z (pos x) b.right) (ltb y h) (le_z b.top (pos y) && lt_z (pos y) b.bottom))
