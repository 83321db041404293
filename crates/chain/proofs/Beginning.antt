-- What a new chain tells.
use Rattle.std.proofs.Common.{◌≡◌, ℕ, ◌*◌, Bool, true, false, cond, ◌&&◌, eqb, ltb, List, length, None, refl, ap, ◌∙◌, arith}
use Rattle.std.specs.List.{slice_get}
use Rattle.std.proofs.lemmas.Bool.Decides.{nat_tests}
use Rattle.chain.specs.Screens.{inside}
use Rattle.chain.specs.Places.{place}
use Rattle.chain.specs.Begins.{Begins, fitting}
use Rattle.chain.specs.Shapes.{fits, fitted}
use Rattle.chain.specs.Told.{told, exact, pixel_in, age_of, unaged}
use Rattle.chain.specs.declared.ages.Ages.{Ages}
use Rattle.chain.specs.declared.layout.Layout.{Layout}
use Rattle.chain.specs.declared.shape.Shape.{Shape}
use Rattle.chain.specs.declared.state.State.{State}

cond_same : {A : Type 0} (t : Bool) (x : A) → cond t x x ≡ x
cond_same true x = refl
cond_same false x = refl

-- either the memory is used whole, or the sides are 0
sides : (l w h n : ℕ) (f : Bool) → (f ≡ true → l ≡ n * (w * h)) →
    let t = eqb l (cond f n 1 * (cond f w 0 * cond f h 0)) in
    (cond t (cond f w 0) 0 ≡ cond f w 0) × (cond t (cond f h 0) 0 ≡ cond f h 0)
sides l w h n true e = let k = e refl in (grind (arith, nat_tests), grind (arith, nat_tests))
sides l w h n false e = (cond_same _ 0, cond_same _ 0)

pixels : {P : Type 0} (o : Layout) (m : List P) (w h n b x y : ℕ) (f : Bool) → (f ≡ true → length m ≡ n * (w * h)) →
    cond (eqb (length m) (cond f n 1 * (cond f w 0 * cond f h 0)) && (ltb b (cond f n 1) && inside (cond f w 0) (cond f h 0) x y)) (slice_get m (place o (cond f w 0) (cond f h 0) b x y)) None
    ≡ cond (f && (ltb b n && inside w h x y)) (slice_get m (place o w h b x y)) None
pixels o m w h n b x y true e = let k = e refl in grind (arith, nat_tests)
pixels o m w h n b x y false e = grind (arith, nat_tests)

pub begins : {P : Type 0} (s : State) (m : List P) (o : Shape) (least : ℕ) → s.shape ≡ fitted least o (length m) →
    (s.back ≡ 0) × (s.front ≡ None) × (s.ages ≡ unaged) × (s.writes ≡ 0) →
    Begins o.layout m (fits least o (length m)) o.width o.height o.count (told s m)
begins s m o least e b =
    let w = o.width in
    let h = o.height in
    let n = o.count in
    let f = fitting least w h n (length m) in
    let l : f ≡ true → length m ≡ n * (w * h) = λ q. grind (arith, nat_tests) in
    let k = sides (length m) w h n f l in
    record {
      width = ap (λ (t : Shape). cond (exact t m) t.width 0) e ∙ k.0;
      height = ap (λ (t : Shape). cond (exact t m) t.height 0) e ∙ k.1;
      count = ap (λ (t : Shape). t.count) e;
      pixel = λ c x y. ap (λ (t : Shape). pixel_in t m c x y) e ∙ pixels o.layout m w h n c x y f l;
      age = λ i. let a = ap (λ (g : Ages). age_of g i) b.2 in grind (arith, nat_tests, a);
      back = b.0;
      front = b.1;
      writes = b.3;
    }
