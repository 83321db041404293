-- What buffers in the caller's memory tell.
use Rattle.std.specs.Prelude.{◌≡◌, ℕ, zero, suc, ◌*◌, ◌<◌, Bool, true, false, cond, ◌&&◌, List, [], ◌∷◌, length, is_some, None, Option, ◌==◌, nat_lt, slice_index, slice_set, refl}
use Rattle.std.proofs.Common.{sym, arith}
use Rattle.std.specs.List.{slice_get}
use Rattle.std.proofs.lemmas.Nat.{mul-add-lt}
use Rattle.std.proofs.lemmas.Bool.{and_parts, and_left, and_right, ltb-true, le-ltb, eqb-true}
use Rattle.chain.specs.Screens.{Screens, Sound, inside}
use Rattle.chain.specs.Places.{spot, spot_below, place}
use Rattle.chain.specs.Shapes.{room}
use Rattle.chain.specs.declared.ages.Ages.{Ages}
use Rattle.chain.specs.declared.layout.Layout.{Layout}
use Rattle.chain.specs.declared.shape.Shape.{Shape}
use Rattle.chain.specs.declared.state.State.{State}
use Rattle.chain.specs.declared.buffers.Buffers.{Buffers}

-- the age of buffer b
abbrev pub age_of : Ages → ℕ → ℕ
age_of a b = slice_index a.by_buffer b

-- the ages of a new chain
abbrev pub unaged : Ages
unaged = record { by_buffer = 0 ∷ 0 ∷ 0 ∷ 0 ∷ []; long = refl }

-- does the memory have the length that the buffers need
abbrev pub exact : {P : Type 0} → Shape → List P → Bool
exact s m = length m == room s

-- the pixel of buffer b at x, y
abbrev pub pixel_in : {P : Type 0} → Shape → List P → ℕ → ℕ → ℕ → Option P
pixel_in s m b x y =
    cond (exact s m && (nat_lt b s.count && inside s.width s.height x y)) (slice_get m (place s.layout s.width s.height b x y)) None

-- What a state tells over a memory. Where the memory has another length, both sides are 0.
abbrev pub told : {P : Type 0} → State → List P → Screens P
told s m =
    record {
      width = cond (exact s.shape m) s.shape.width 0;
      height = cond (exact s.shape m) s.shape.height 0;
      count = s.shape.count;
      pixel = pixel_in s.shape m;
      age = age_of s.ages;
      back = s.back;
      front = s.front;
      writes = s.writes;
    }

-- what the buffers of a chain tell
abbrev pub screens : {P : Type 0} → Buffers P → Screens P
screens b = told b.state b.mem.now

-- the memory is the caller's still, and holds what it held
pub record Untouched {P : Type 0} (before after : Buffers P) : Type 0 where
  pub memory : after.mem.now ≡ before.mem.now
  pub lent : after.mem.ghost_name ≡ before.mem.ghost_name

-- the memory is the caller's still, and a write answered by r altered one place of it or none
pub record Stored {P : Type 0} (before : Buffers P) (x y : ℕ) (p : P) (r : Bool) (after : Buffers P) : Type 0 where
  pub memory : after.mem.now ≡ cond r (slice_set before.mem.now (place before.state.shape.layout before.state.shape.width before.state.shape.height before.state.back x y) p) before.mem.now
  pub lent : after.mem.ghost_name ≡ before.mem.ghost_name

-- The proof, owed by each kind of chain, that what is told is sound.

there_at : {P : Type 0} (m : List P) (i : ℕ) → i < length m → is_some (slice_get m i) ≡ true
there_at [] i l = absurd (omega arith)
there_at (x ∷ m) zero l = refl
there_at (x ∷ m) (suc i) l = there_at m i (omega arith)

there_if : {P : Type 0} (t : Bool) (o : Option P) → (t ≡ true → is_some o ≡ true) → is_some (cond t o None) ≡ t
there_if true o k = k refl
there_if false o k = refl

there_in : {P : Type 0} (o : Layout) (m : List P) (w h n b x y : ℕ) (f : Bool) → (f ≡ true → length m ≡ n * (w * h)) →
    is_some (cond (f && (nat_lt b n && inside w h x y)) (slice_get m (place o w h b x y)) None) ≡ (nat_lt b n && inside (cond f w 0) (cond f h 0) x y)
there_in o m w h n b x y true e =
    there_if (nat_lt b n && inside w h x y) (slice_get m (place o w h b x y))
    (λ t. let r = and_parts _ _ t in
    let u = and_parts _ _ r.1 in
    let k = spot_below o w h x y (ltb-true _ _ u.0) (ltb-true _ _ u.1) in
    let p = mul-add-lt b (w * h) (spot o w h x y) n (ltb-true _ _ r.0) k in
    let l = e refl in there_at m (place o w h b x y) (omega arith))
there_in o m w h n b x y false e = sym (and_right (nat_lt b n) _ (and_left (nat_lt x 0) (nat_lt y 0) (le-ltb x 0 (omega arith))))

told_sound : {P : Type 0} (s : State) (m : List P) → Sound (told s m)
told_sound s m =
    record {
      there = λ b x y. there_in s.shape.layout m s.shape.width s.shape.height s.shape.count b x y (exact s.shape m) (eqb-true (length m) _);
      back = s.known.0;
      front = s.known.1;
      age = s.bytes;
      writes = s.counted;
    }

pub screens_sound : {P : Type 0} (b : Buffers P) → Sound (screens b)
screens_sound b = told_sound b.state b.mem.now
