-- What a chain tells after swaps by a rule, at each of the three kinds.
use Rattle.std.proofs.Common.{◌≡◌, ℕ, zero, suc, false, refl, ap, ◌∙◌}
use Rattle.chain.specs.Screens.{Screens}
use Rattle.chain.specs.Swaps.{turned}
use Rattle.chains.specs.Digits.{following, further, digit}
use Rattle.chains.specs.Rotation.{rotated, rotations}
use Rattle.chains.specs.Picked.{picked, pickings}
use Rattle.chains.specs.Met.{repeats}
use Rattle.chains.specs.Ways.{later, turnings}
use Rattle.chains.specs.Kinds.{staying, rotating, by_digits}
use Rattle.chains.specs.declared.single.Stay.{Stay}
use Rattle.chains.specs.declared.rotating.Rotate.{Rotate}
use Rattle.chains.specs.declared.picks.Picks.{Picks}

pub stays : {P : Type 0} (r : Stay) (k : ℕ) (s : Screens P) → turnings staying k r s ≡ repeats k s
stays r zero s = refl
stays r (suc k) s = ap (λ (t : Screens _). turned t 0 false) (stays r k s)

pub rotates : {P : Type 0} (r : Rotate) (k : ℕ) (s : Screens P) → turnings rotating k r s ≡ rotations k s
rotates r zero s = refl
rotates r (suc k) s = ap rotated (rotates r k s)

pub digits_left : (p : Picks) (k : ℕ) → ((later by_digits k p).number ≡ p.number) × ((later by_digits k p).at ≡ further p.at 16 k)
digits_left p zero = (refl, refl)
digits_left p (suc k) = let e = digits_left p k in (e.0, ap (λ (n : ℕ). following n 16) e.1)

pub picks : {P : Type 0} (p : Picks) (k : ℕ) (s : Screens P) → turnings by_digits k p s ≡ pickings p.number p.at k s
picks p zero s = refl
picks p (suc k) s =
    let q = later by_digits k p in
    let e = digits_left p k in
    ap (λ (t : Screens _). picked t (digit q.number q.at)) (picks p k s)
    ∙ ap (λ (n : ℕ). picked (pickings p.number p.at k s) (digit n q.at)) e.0
    ∙ ap (λ (n : ℕ). picked (pickings p.number p.at k s) (digit p.number n)) e.1
