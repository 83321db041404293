-- Where a pixel lies in memory.
use Rattle.std.specs.Prelude.{◌≡◌, ℕ, ◌+◌, ◌*◌, ◌/◌, ◌%◌, ◌<◌}
use Rattle.std.proofs.Common.{sym, ap, ◌∙◌}
use Rattle.std.proofs.lemmas.Nat.{mul-add-lt, div-mul-add, mod-mul-add}
use Rattle.chain.specs.declared.layout.Layout.{Layout}
use Rattle.chain.specs.declared.layout.Layout.TheVariants.{Rows}

-- The place of the pixel x, y inside a buffer of w by h. Nothing but the two laws below and the function that computes
-- it looks inside.
unfoldable pub spot : Layout → ℕ → ℕ → ℕ → ℕ → ℕ
spot Rows w h x y = y * w + x

-- a column and a row are told from their place
pub parts : (w a x b u : ℕ) → x < w → u < w → a * w + x ≡ b * w + u → (a ≡ b) × (x ≡ u)
parts w a x b u p q e = (
  sym (div-mul-add a w x p) ∙ ap (λ (n : ℕ). n / w) e ∙ div-mul-add b w u q,
  sym (mod-mul-add a w x p) ∙ ap (λ (n : ℕ). n % w) e ∙ mod-mul-add b w u q,
)

-- Law: every pixel of the display lies in the buffer.
pub spot_below : (o : Layout) (w h x y : ℕ) → x < w → y < h → spot o w h x y < w * h
unfolding spot
spot_below Rows w h x y p q = mul-add-lt y w x h q p

-- Law: distinct pixels lie at distinct places.
pub spots_apart : (o : Layout) (w h x y u v : ℕ) → x < w → y < h → u < w → v < h →
    spot o w h x y ≡ spot o w h u v → (x ≡ u) × (y ≡ v)
unfolding spot
spots_apart Rows w h x y u v p q r s e = let d = parts w y x v u p r e in (d.1, d.0)

-- the place of a pixel of buffer b in a memory that holds buffer after buffer
abbrev pub place : Layout → ℕ → ℕ → ℕ → ℕ → ℕ → ℕ
place o w h b x y = b * (w * h) + spot o w h x y
